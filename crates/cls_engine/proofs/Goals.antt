-- A type has one goal, and one closure.
use Rattle.std.proofs.Common.{ℕ, ◌≡◌, sym, ◌∙◌, subst, ap, List, Option, Some, None}
use Rattle.cls_base.specs.Subtyping.{reflexivity}
use Rattle.cls_base.specs.Types.{ClosedType}
use Rattle.cls_taxon.specs.DecisionLaws.{is_below-reflexive, is_below-transitive, is_below-antisymmetric}
use Rattle.cls_path.specs.Paths.{listed, type_of_paths}
use Rattle.cls_path.proofs.Uniqueness.{form_unique}
use Rattle.cls_norm.specs.Fit.{IsFit}
use Rattle.cls_core.specs.Rows.{Row}
use Rattle.cls_core.specs.Closure.{IsTooLarge}
use Rattle.cls_core.specs.Canonical.{IsCanonical}
use Rattle.cls_core.proofs.Canonical.{canonical-unique}
use Rattle.cls_library.specs.Libraries.{Library, below_in, variances_in}
use Rattle.cls_grammar.specs.Grammars.{first_wide}
use Rattle.cls_expand.specs.Answers.{IsAnswer}
use Rattle.cls_expand.specs.Determined.{one_answer}
use Rattle.cls_expand.specs.Listing.{unlisted, unlisted_back}
use Rattle.cls_engine.specs.Goals.{Goal, same, IsGoalOf, IsUnfit, HasLargeClosure, IsClosed, IsFirstWide}

module _ (lib : Library) (t : ClosedType) where
  pub goal_unique : (g h : Goal) → IsGoalOf lib t g → IsGoalOf lib t h → g ≡ h
  goal_unique g h k l =
      let d = lib.taxonomy in
      sym (unlisted_back g)
      ∙ ap unlisted (form_unique (below_in d) (variances_in d) (is_below-reflexive d) (is_below-transitive d) (is_below-antisymmetric d) t t (listed g) (listed h) k l reflexivity reflexivity)
      ∙ unlisted_back h

  -- a type whose goal is fit isn't unfit
  pub not_unfit : (g : Goal) → IsGoalOf lib t g → IsFit (type_of_paths (listed g)) → IsUnfit lib t → ⊥
  not_unfit g k fit u = u.2 (subst (λ (h : Goal). IsFit (type_of_paths (listed h))) (goal_unique g u.0 k u.1) fit)

  pub not_large : (goals rules : ℕ) (g : Goal) → IsGoalOf lib t g → (IsTooLarge (IsAnswer lib) g goals rules → ⊥) → HasLargeClosure lib goals rules t → ⊥
  not_large goals rules g k n u = n (subst (λ (h : Goal). IsTooLarge (IsAnswer lib) h goals rules) (goal_unique u.0 g u.1 k) u.2)

  pub closed_unique : (rows others : List (Row Goal)) → IsClosed lib t rows → IsClosed lib t others → rows ≡ others
  closed_unique rows others c d =
      canonical-unique (IsAnswer lib) d.goal (one_answer lib) same rows others
      (subst (λ (h : Goal). IsCanonical same (IsAnswer lib) h rows) (goal_unique c.goal d.goal c.is_goal d.is_goal) c.canonical) d.canonical

  pub not_wide : (rows : List (Row Goal)) → IsClosed lib t rows → first_wide rows ≡ None → (g : Goal) → IsFirstWide lib t g → ⊥
  not_wide rows c n g w =
      let e : ◌≡◌ {A = Option Goal} None (Some g) = sym n ∙ ap first_wide (closed_unique rows w.0 c w.1) ∙ w.2 in
      cc
