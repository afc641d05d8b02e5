use Rattle.std.proofs.Common.{ℕ, ◌≡◌, ◌==◌, ◌↔◌, ◌⊎◌, Bool, true, IsTrue, length, inl, inr, get_or, subst, sym, ◌∙◌, arith, List, []}
use Rattle.std.specs.Prelude.{All}
use Rattle.std.proofs.lemmas.List.{nil_from_length}
use Rattle.cls_path.specs.Paths.{TypePath}
use Rattle.cls_library.specs.Families.{IsFamilyIn}
use Rattle.cls_library.specs.Libraries.{Library}
use Rattle.cls_check.specs.declared.place.Place.{Place}
use Rattle.cls_check.specs.Checking.{Steps}
use Rattle.cls_check.specs.Layers.{AllMet}
use Rattle.cls_check.specs.Places.{arrows_in}
use Rattle.cls_check.specs.Tests.{AllStep, IsSettled, IsStopped}
use Rattle.cls_check.proofs.Loops.{is-true, if_ok_map}
use Rattle.cls_check.proofs.Stepping.{steps_exactly, steps_nowhere}
use Rattle.cls_check.proofs.steps.all_step.Goals as goal

zero_length : (n : ℕ) → (n == 0) ≡ true → n ≡ 0
zero_length n h = grind arith

-- the steps, by the family as the code has it
steps_seen :
    (l : Library) (goals : List (List TypePath)) (p : Place) (q : TypePath) (family leading : List ℕ) (sets layer : List (List ℕ))
    → leading ≡ family → IsFamilyIn l.taxonomy (arrows_in l p) q family
    → (b : Bool) → (IsTrue b ↔ All (IsSettled l goals p leading layer) sets) → IsTrue b ↔ AllStep l goals p q sets layer
steps_seen l goals p q family leading sets layer e is b w = (
  (λ t k d m. there (get_or sets k d) (w.0 t k d m)),
  (λ h. w.1 (λ k d m. back (get_or sets k d) (h k d m))),
)
  where
    there : (s : List ℕ) → IsSettled l goals p leading layer s → IsStopped l goals p s ⊎ Steps l (arrows_in l p) layer q s
    there s (inl a) = inl a
    there s (inr a) = inr ((steps_exactly l (arrows_in l p) q family layer is s).0 (subst (λ (f : List ℕ). AllMet f layer s) e a))

    back : (s : List ℕ) → IsStopped l goals p s ⊎ Steps l (arrows_in l p) layer q s → IsSettled l goals p leading layer s
    back s (inl a) = inl a
    back s (inr a) = inr (subst (λ (f : List ℕ). AllMet f layer s) (sym e) ((steps_exactly l (arrows_in l p) q family layer is s).1 a))

pub returns-clause-step : goal.returns-clause-step
returns-clause-step c =
    if_ok_map c.are_settled.result (λ b w.
    steps_seen c.args.lib.now c.args.goals.now c.args.place c.args.path.now c.in_ok-family.family c.as_slice-leading.result.now c.args.sets.now c.args.layer.now c.as_slice-leading.ensures c.in_ok-family.ensures b w)
    c.are_settled.ensures.settled

pub returns-then-is_empty-clause-step : goal.returns-then-is_empty-clause-step
returns-then-is_empty-clause-step c =
    let none : c.as_slice-leading.result.now ≡ [] = nil_from_length c.as_slice-leading.result.now (zero_length (length c.as_slice-leading.result.now) (sym c.is_empty.ensures ∙ c.if-is_empty.true)) in
    let e : c.in_ok-family.family ≡ [] = sym c.as_slice-leading.ensures ∙ none in
    ((λ t k d l. inr (steps_nowhere c.args.lib.now (arrows_in c.args.lib.now c.args.place) c.args.path.now c.in_ok-family.family c.args.layer.now c.in_ok-family.ensures e (get_or c.args.sets.now k d))), (λ h. is-true))
