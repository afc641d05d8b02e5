use Rattle.std.proofs.Common.{ℕ, ◌≡◌, inl, inr, get_or, take, ap, ◌∙◌, subst, arith, List, [], ◌∷◌, ◌++◌, true}
use Rattle.cls_cover.specs.Members.{Member}
use Rattle.cls_cover.specs.Groups.{HasRowOf}
use Rattle.cls_cover.proofs.Lists.{get_member}
use Rattle.cls_cover.proofs.Grouping.{begun_start, begun_member, begun_apart, begun_same, begun_whole, taken_member}
use Rattle.cls_cover.proofs.groups.runs.Goals as goal
use Rattle.cls_cover.proofs.groups.runs.Goals.{then-not-belongs+in_ok-push, else-not-belongs}

pub loop-x-init : goal.loop-x-init
loop-x-init c = begun_start c.args.rows.now c.new-groups.result c.new-group.result.items c.new-groups.ensures c.new-group.ensures.items

pub belongs-requires-clause-group : goal.belongs-requires-clause-group
belongs-requires-clause-group c = λ y m.
    c.requires y (taken_member c.args.positions.now c.loop-x.x-index y
    (begun_member c.args.rows.now (take c.loop-x.x-index c.args.positions.now) c.loop-x.groups c.loop-x.group.items y c.loop-x.invariant
    (subst (λ (l : List ℕ). Member l y) c.as_slice.ensures.value m)))

pub belongs-requires-clause-here : goal.belongs-requires-clause-here
belongs-requires-clause-here c = c.requires (get_or c.args.positions.now c.loop-x.x-index 0) (get_member c.args.positions.now c.loop-x.x-index 0 c.loop-x-test.true)

pub loop-x-preserved : goal.loop-x-preserved
loop-x-preserved c =
    let rs = c.args.rows.now in
    let xs = c.args.positions.now in
    let n = c.loop-x.x-index in
    elim c.if-not-belongs.branch [
      | then-not-belongs+in_ok-push w ↦ begun_apart rs xs n c.loop-x.groups c.if-not-belongs.groups c.loop-x.group.items c.if-not-belongs.group.items c.push-in-loop-x.new.self.items
          c.loop-x-test.true c.loop-x.invariant c.in_ok-push-2.ensures.items
          (w.groups-is ∙ (w.in_ok-push.ensures.ok ∙ ap (λ (g : List ℕ). c.loop-x.groups ++ g ∷ []) w.deref.ensures.value))
          (ap (λ v. v.items) w.group-is ∙ w.clear.ensures.items)
      | else-not-belongs w ↦ begun_same rs xs n c.loop-x.groups c.if-not-belongs.groups c.loop-x.group.items c.if-not-belongs.group.items c.push-in-loop-x.new.self.items
          c.loop-x-test.true c.loop-x.invariant c.in_ok-push-2.ensures.items
          w.groups-is
          (ap (λ v. v.items) w.group-is)
          (subst (λ (g : List ℕ). HasRowOf rs g (get_or xs n 0)) c.as_slice.ensures.value (elim c.belongs.ensures [ inl e ↦ absurd (let f : c.belongs.result ≡ true = w.if-not-belongs.false in cc) | inr h ↦ h ]))
    ]

pub returns : goal.returns
returns c =
    begun_whole c.args.rows.now c.args.positions.now c.loop-x.x-index c.loop-x.groups c.push-2.new.self c.loop-x.group.items (omega arith) c.loop-x.invariant
    (c.in_ok-push-3.ensures.ok ∙ ap (λ (g : List ℕ). c.loop-x.groups ++ g ∷ []) c.deref-2.ensures.value)
