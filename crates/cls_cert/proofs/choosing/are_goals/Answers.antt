use Rattle.std.proofs.Common.{ℕ, zero, suc, ◌≡◌, ◌<◌, refl, sym, ◌∙◌, subst, ap, Bool, true, false, not, List, [], ◌∷◌, ◌++◌, length, map, take, get_or, arith}
use Rattle.std.specs.Ordering.{eq_by_cmp}
use Rattle.std.proofs.lemmas.List.{get_or_default}
use Rattle.cls_base.proofs.Lists.{AreBelow-at, map_last, take_next}
use Rattle.cls_path.specs.Paths.{TypePath, Paths, none, listed}
use Rattle.cls_path.specs.PathOrder.{list_order}
use Rattle.cls_path.specs.OrderLaws.{list_same, list_equal}
use Rattle.cls_expand.specs.Listing.{unlisted, unlisted_back}
use Rattle.cls_cert.specs.Conditions.{forms_of}
use Rattle.cls_cert.specs.Making.{goal_in}
use Rattle.cls_cert.specs.Building.{goals_over}
use Rattle.cls_cert.proofs.Lists.{not_false, differs, take_one}
use Rattle.cls_cert.proofs.Ruled.{told_form, argument_at}
use Rattle.cls_cert.proofs.choosing.are_goals.Goals as goal

from_not : (b : Bool) → not b ≡ false → b ≡ true
from_not true e = refl
from_not false e = absurd (differs (sym e))

listed_one : (a b : List TypePath) → listed a ≡ listed b → a ≡ b
listed_one a b e = sym (unlisted_back a) ∙ (ap unlisted e ∙ unlisted_back b)

image_at : (xs : List (List TypePath)) (k : ℕ) (x : List TypePath) → x ≡ get_or xs k x → k < length xs → get_or (map listed xs) k none ≡ listed x
image_at [] k x e l = absurd (omega arith)
image_at (y ∷ xs) zero x e l = ap listed (sym e)
image_at (y ∷ xs) (suc k) x e l = image_at xs k x e (omega arith)

pub goal-requires : goal.goal-requires
goal-requires c = AreBelow-at (length c.args.grammar.now) c.args.numbers.now c.loop-i.i c.requires c.loop-i-test.true

pub returns-then-ne : goal.returns-then-ne
returns-then-ne c =
    let a = c.index-goals-i.result in
    let b = c.goal.result.now in
    let i = c.loop-i.i in
    let low : i < length c.args.goals.now = (let t = c.loop-i-test.true in let u = c.if-numbers-goals.false in omega arith) in
    let n = get_or c.args.numbers.now i 0 in
    let form : goal_in (forms_of c.args.grammar.now) n ≡ listed b = told_form c.args.grammar.now n b c.goal.ensures in (
      (λ t. absurd (not_false t)),
      (λ e.
          let at = argument_at (forms_of c.args.grammar.now) c.args.numbers.now i n none c.loop-i-test.true (get_or_default c.args.numbers.now i n 0 c.loop-i-test.true) in
          let same : listed a ≡ listed b = sym (image_at c.args.goals.now i a c.index-goals-i.is low) ∙ (ap (λ (ps : List Paths). get_or ps i none) e ∙ (at ∙ form)) in
          let one : a ≡ b = listed_one a b same in
          let equal : eq_by_cmp list_order a b ≡ true = subst (λ (x : List TypePath). eq_by_cmp list_order a x ≡ true) one (list_equal.refl a) in
          let ne : not (eq_by_cmp list_order a b) ≡ true = sym c.ne.ensures ∙ c.if-ne.true in
          absurd (differs (sym (ap not equal) ∙ ne))),
    )

pub loop-i-preserved : goal.loop-i-preserved
loop-i-preserved c =
    let a = c.index-goals-i.result in
    let b = c.goal.result.now in
    let i = c.loop-i.i in
    let low : i < length c.args.goals.now = (let t = c.loop-i-test.true in let u = c.if-numbers-goals.false in omega arith) in
    let n = get_or c.args.numbers.now i 0 in
    let goals = forms_of c.args.grammar.now in
    let same : a ≡ b = list_same a b (from_not (eq_by_cmp list_order a b) (sym c.ne.ensures ∙ c.if-ne.false)) in
    let form : goal_in goals n ≡ listed b = told_form c.args.grammar.now n b c.goal.ensures in
    ap (map listed) (take_one c.args.goals.now i a c.index-goals-i.is low)
    ∙ (map_last listed (take i c.args.goals.now) a
    ∙ (ap (λ (ps : List Paths). ps ++ listed a ∷ []) c.loop-i.invariant
    ∙ (ap (λ (g : Paths). goals_over goals (take i c.args.numbers.now) ++ g ∷ []) (ap listed same ∙ sym form)
    ∙ (sym (map_last (goal_in goals) (take i c.args.numbers.now) n)
    ∙ ap (map (goal_in goals)) (sym (take_next c.args.numbers.now i 0 c.loop-i-test.true))))))
