use Rattle.cls_library.proofs.component.Component.copy.Goals as goal

pub invariant_of-result : goal.invariant_of-result
invariant_of-result c =
    let kept = c.self.invariant in
    let ends = c.in_ok-endings.ensures in (
      rw (c.in_ok-paths.ensures, c.in_ok-columns.ensures, c.deref.ensures.value, ends.kinds, ends.places) kept.0,
      rw c.in_ok-paths.ensures kept.1,
      rw (ends.kinds, ends.places, ends.firsts, ends.next) kept.2,
      rw c.in_ok-paths.ensures kept.3,
      rw c.in_ok-paths.ensures (ends.stems c.self.inside.paths kept.4),
    )
