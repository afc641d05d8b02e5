use Rattle.std.proofs.Common.{◌≡◌, ◌∙◌, ◌≤◌, inl, refl, length, subst, arith}
use Rattle.std.specs.Prelude.{None, Some, map}
use Rattle.cls_path.specs.Paths.{listed}
use Rattle.cls_library.specs.Arrows.{arity_of}
use Rattle.cls_library.specs.Families.{Finder}
use Rattle.cls_library.specs.Libraries.{Library, paths_at}
use Rattle.cls_expand.specs.Answers.{rule_of}
use Rattle.cls_expand.specs.Making.{AddsPlace, IsNextBefore}
use Rattle.cls_expand.proofs.Places.{when_false, when_true, some_parts, next_added, arity_within}
use Rattle.cls_expand.proofs.Unreached.{reached, reached_at_most, reached_start, begun_before, fewer_left}
use Rattle.cls_expand.proofs.expander.put_between.Goals as goal

pub loop-place-init : goal.loop-place-init
loop-place-init c = record {
  finder = refl;
  begun = λ first le b. b;
  after = omega arith;
  left = reached_start c.args.begin c.args.end c.requires.order;
  count = omega arith;
}

pub loop-place-preserved : goal.loop-place-preserved
loop-place-preserved c =
    let l = c.args.lib.now in
    let goal = c.args.finder.goal in
    let from = c.loop-place.from in
    let p = c.in-Some.place in
    let inv = c.loop-place.invariant in
    let same : c.next_before.new.finder ≡ c.args.finder = c.in-Some.ensures.same ∙ inv.finder in
    let next = subst (λ (f : Finder). IsNextBefore f.library (listed f.goal) from c.args.end (Some p)) inv.finder c.in-Some.ensures.next in
    let h = subst (λ (m : Library). IsNextBefore m (listed goal) from c.args.end (Some p)) c.requires.library next in
    let a = subst (λ (f : Finder). AddsPlace l f.goal p c.loop-place.rules c.add_place.new.rules c.in_ok-add_place.field-0) same c.in_ok-add_place.ensures.rules in
    let later : from.component ≤ p.component = reached_at_most from.component from.count p.component p.count (reached from.component from.count p.component p.count h.0.later) in
    let arity : arity_of (paths_at l p.component) ≤ 32 = arity_within l p.component c.requires.ready.library h.0.place.declared in
    let within : p.count ≤ arity_of (paths_at l p.component) = h.0.place.within in
    let after : c.args.begin ≤ from.component = inv.after in
    record {
      finder = c.in_ok-add_place.ensures.same ∙ same;
      begun = λ first le b.
          let low : first ≤ c.args.begin = le in
          when_true _ c.if-not-branch.false (next_added l goal first from p c.loop-place.rules c.add_place.new.rules c.in_ok-add_place.field-0 c.requires.path (omega arith) (inv.begun first le b) h.0 a);
      after = omega arith;
      left = inl h.1;
      count = omega arith;
    }

pub loop-place-smaller : goal.loop-place-smaller
loop-place-smaller c =
    let l = c.args.lib.now in
    let goal = c.args.finder.goal in
    let from = c.loop-place.from in
    let p = c.in-Some.place in
    let inv = c.loop-place.invariant in
    let next = subst (λ (f : Finder). IsNextBefore f.library (listed f.goal) from c.args.end (Some p)) inv.finder c.in-Some.ensures.next in
    let h = subst (λ (m : Library). IsNextBefore m (listed goal) from c.args.end (Some p)) c.requires.library next in
    let arity : arity_of (paths_at l p.component) ≤ 32 = arity_within l p.component c.requires.ready.library h.0.place.declared in
    let within : p.count ≤ arity_of (paths_at l p.component) = h.0.place.within in
    let left : from.component ≤ c.args.end = reached_at_most from.component from.count c.args.end 0 inv.left in
    let end : c.args.end ≤ length l.components = c.requires.within in
    fewer_left (length l.components) from.component from.count p.component p.count
    (reached from.component from.count p.component p.count h.0.later) (omega arith) inv.count h.0.place.declared (omega arith)

pub returns-then-not-branch : goal.returns-then-not-branch
returns-then-not-branch c = λ first le b.
    let l = c.args.lib.now in
    let goal = c.args.finder.goal in
    let from = c.loop-place.from in
    let p = c.in-Some.place in
    let inv = c.loop-place.invariant in
    let same : c.next_before.new.finder ≡ c.args.finder = c.in-Some.ensures.same ∙ inv.finder in
    let next = subst (λ (f : Finder). IsNextBefore f.library (listed f.goal) from c.args.end (Some p)) inv.finder c.in-Some.ensures.next in
    let h = subst (λ (m : Library). IsNextBefore m (listed goal) from c.args.end (Some p)) c.requires.library next in
    let a = subst (λ (f : Finder). AddsPlace l f.goal p c.loop-place.rules c.add_place.new.rules c.in_ok-add_place.field-0) same c.in_ok-add_place.ensures.rules in
    let later : from.component ≤ p.component = reached_at_most from.component from.count p.component p.count (reached from.component from.count p.component p.count h.0.later) in
    let after : c.args.begin ≤ from.component = inv.after in
    let low : first ≤ c.args.begin = le in
    (p.component, omega arith, h.1, when_false _ c.if-not-branch.true (next_added l goal first from p c.loop-place.rules c.add_place.new.rules c.in_ok-add_place.field-0 c.requires.path (omega arith) (inv.begun first le b) h.0 a))

pub returns : goal.returns
returns c = λ first le b.
    let l = c.args.lib.now in
    let goal = c.args.finder.goal in
    let from = c.loop-place.from in
    let inv = c.loop-place.invariant in
    let next = subst (λ (f : Finder). IsNextBefore f.library (listed f.goal) from c.args.end None) inv.finder c.in_default.ensures.next in
    let h = subst (λ (m : Library). IsNextBefore m (listed goal) from c.args.end None) c.requires.library next in
    let q = some_parts goal c.requires.path in
    begun_before l (listed goal) q.0 q.1 q.2 first from (map rule_of c.loop-place.rules) (inv.begun first le b) c.args.end c.requires.within inv.left h
