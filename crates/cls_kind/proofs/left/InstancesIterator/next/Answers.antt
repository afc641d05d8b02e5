use Rattle.std.proofs.Common.{◌+◌, ◌<◌, [], map, drop, get_or, sym, ◌∙◌, arith}
use Rattle.cls_base.specs.Schemas.{schema_of}
use Rattle.cls_kind.specs.Instances.{instance_of, type_for, choices_from, instances_from}
use Rattle.cls_kind.specs.Ranges.{range_of}
use Rattle.cls_kind.proofs.Going.{steps-progress, none-left, first-left, stands}
use Rattle.cls_kind.proofs.left.InstancesIterator.next.Goals as goal
use Rattle.cls_kind.proofs.left.InstancesIterator.next.Goals.{then-is_ok, else-is_ok}

pub returns-then-self-clause-steps : goal.returns-then-self-clause-steps
returns-then-self-clause-steps c =
    let rs = map range_of c.self.inside.ranges.items in
    let s = schema_of c.self.inside.schema.now in
    let e = sym c.self.view_is ∙ none-left rs s c.self.inside.next c.self.inside.count c.self.invariant.0 c.if-self.true in
    (e, e)

pub returns-clause-steps : goal.returns-clause-steps
returns-clause-steps c =
    let rs = map range_of c.self.inside.ranges.items in
    let s = schema_of c.self.inside.schema.now in
    let i = c.self.inside.next in
    let n = c.self.inside.count in
    let within : i < n = omega arith in (
      instance_of (type_for (get_or (choices_from rs) i [])) s,
      drop (i + 1) (instances_from rs s),
      sym c.self.view_is ∙ first-left rs s i n c.self.invariant.0 within,
      rw (← c.deref.ensures.value) c.make-made.ensures,
      stands rs s i c.if-is_ok.self n c.make-made.result c.self.invariant.0 within
          (λ e. elim c.if-is_ok.branch [ then-is_ok w ↦ w.self-is | else-is_ok w ↦ cc (e, c.is_ok.ensures.value) ])
          (λ e. elim c.if-is_ok.branch [ then-is_ok w ↦ cc (e, c.is_ok.ensures.value) | else-is_ok w ↦ w.self-is ]),
    )

pub returns-clause-goes : goal.returns-clause-goes
returns-clause-goes c = steps-progress _ _ _ (returns-clause-steps c)
