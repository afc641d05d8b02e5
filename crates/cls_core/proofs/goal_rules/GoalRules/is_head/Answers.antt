use Rattle.std.proofs.Common.{◌≡◌, ◌<◌, List, Some, true, false, length, slice_get, arith, ap, sym, subst, ◌∙◌, []}
use Rattle.std.specs.Prelude.{slice_index_or}
use Rattle.cls_base.specs.declared.rule.Rule.{Rule}
use Rattle.cls_base.specs.declared.rule.Rule.TheVariants.{Head}
use Rattle.cls_base.specs.Cuts.{cut}
use Rattle.cls_base.specs.Columns.{rules_with}
use Rattle.cls_core.proofs.GoalColumns.{same-head, other-head}
use Rattle.cls_core.proofs.goal_rules.GoalRules.is_head.Goals as goal

pub returns-then-eq : goal.returns-then-eq
returns-then-eq g c =
    let i = c.self.inside in
    let lists = cut i.goals.items 0 i.ends.items in
    let l : c.args.place < length (rules_with i.heads.items lists) = omega (arith, c.requires, ap length c.self.view_is) in
    let parts : cut c.as_slice.result.now 0 c.as_slice-then-eq.result.now ≡ lists = λ j. cut (c.as_slice.ensures.value j) 0 (c.as_slice-then-eq.ensures.value j) in
    let own : c.part.result.now ≡ slice_index_or lists c.args.place [] = c.part.ensures ∙ ap (λ (ks : List (List g.row.G.Denot)). slice_index_or ks c.args.place []) parts in
    let r = same-head i.heads.items lists c.self.invariant.1 c.args.place c.args.component c.index.result.now c.args.args.now l c.index.ensures g.G.PartialEq.eq g.met.G.Key.exact g.met.G.Eq.laws.refl c.part.result.now c.eq-then-eq.result (sym c.if-eq.true ∙ c.eq.ensures) own c.eq-then-eq.ensures in
    subst (λ (rs : List (Rule g.row.G.Denot)). (c.eq-then-eq.result ≡ true → slice_get rs c.args.place ≡ Some (Head c.args.component c.args.args.now)) × (slice_get rs c.args.place ≡ Some (Head c.args.component c.args.args.now) → c.eq-then-eq.result ≡ true)) c.self.view_is r

pub returns-else-eq : goal.returns-else-eq
returns-else-eq g c =
    let i = c.self.inside in
    let lists = cut i.goals.items 0 i.ends.items in
    let l : c.args.place < length (rules_with i.heads.items lists) = omega (arith, c.requires, ap length c.self.view_is) in
    let none = other-head i.heads.items lists c.self.invariant.1 c.args.place c.args.component c.index.result.now c.args.args.now l c.index.ensures (sym c.if-eq.false ∙ c.eq.ensures) in
    let t : c.eq.result ≡ true → ⊥ = λ e. absurd (let f : false ≡ true = sym c.if-eq.false ∙ e in cc) in
    (λ e. absurd (t e), λ e. absurd (none (ap (λ (rs : List (Rule g.row.G.Denot)). slice_get rs c.args.place) c.self.view_is ∙ e)))
