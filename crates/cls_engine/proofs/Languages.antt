-- What the grammar of a type generates is what has the type.
use Rattle.std.proofs.Common.{◌≡◌, ◌↔◌, refl, sym, subst, List, [], ◌∷◌, Option, None, Some, slice_get}
use Rattle.cls_base.specs.Languages.{IsGenerated}
use Rattle.cls_base.specs.Terms.{Applicative}
use Rattle.cls_base.specs.Types.{ClosedType}
use Rattle.cls_base.specs.Typing.{by_subsumption}
use Rattle.cls_taxon.specs.DecisionLaws.{is_below-reflexive, is_below-transitive, is_below-antisymmetric}
use Rattle.cls_taxon.specs.Decisions.{is_below}
use Rattle.cls_path.specs.Paths.{listed, type_of_paths}
use Rattle.cls_path.specs.Laws.{AreEquivalent}
use Rattle.cls_path.specs.OrderLaws.{list_equal, list_same}
use Rattle.cls_path.proofs.PathLaws.{forms_are_equivalent}
use Rattle.cls_core.specs.Rows.{Row}
use Rattle.cls_core.specs.Closure.{IsClosure, goals_of}
use Rattle.cls_core.proofs.Grammar.{canonical-closure}
use Rattle.cls_library.specs.Libraries.{Library, below_in, variances_in}
use Rattle.cls_library.specs.Typing.{HasTypeIn}
use Rattle.cls_expand.specs.Answers.{IsAnswer, IsReady, HasGoal}
use Rattle.cls_expand.specs.Typings.{answers_are_typings}
use Rattle.cls_expand.specs.Determined.{one_answer}
use Rattle.cls_expand.specs.Readiness.{arguments_are_ready}
use Rattle.cls_grammar.specs.Grammars.{book_of}
use Rattle.cls_grammar.specs.Ranks.{IsProductiveIn}
use Rattle.cls_grammar.proofs.Meaning.{node-language, node-productive}
use Rattle.cls_engine.specs.declared.options.Options.{Options}
use Rattle.cls_engine.specs.Closing.{IsKnownOf}
use Rattle.cls_engine.specs.Goals.{Goal, same, IsGoalOf}

-- a type and its goal are equivalent
pub goal_same : (lib : Library) (t : ClosedType) (g : Goal) → IsGoalOf lib t g → AreEquivalent (below_in lib.taxonomy) (variances_in lib.taxonomy) t (type_of_paths (listed g))
goal_same lib t g k = forms_are_equivalent (is_below lib.taxonomy) (variances_in lib.taxonomy) (record {
  reflexive = is_below-reflexive lib.taxonomy;
  transitive = is_below-transitive lib.taxonomy;
  antisymmetric = is_below-antisymmetric lib.taxonomy;
}) t (listed g) k

-- a type has the terms of its goal
pub same_terms : (lib : Library) (t : ClosedType) (g : Goal) → IsGoalOf lib t g → (e : Applicative) → HasTypeIn lib e (type_of_paths (listed g)) ↔ HasTypeIn lib e t
same_terms lib t g k e = let same = goal_same lib t g k in ((λ h. by_subsumption h same.1), (λ h. by_subsumption h same.0))

first_row : (rows : List (Row Goal)) (g : Goal) → slice_get (goals_of rows) 0 ≡ Some g → (r : Row Goal) × (slice_get rows 0 ≡ Some r) × (r.goal ≡ g)
first_row [] g e = absurd (let f : ◌≡◌ {A = Option Goal} None (Some g) = e in cc)
first_row (r ∷ rows) g e = (r, refl, (let f : ◌≡◌ {A = Option Goal} (Some r.goal) (Some g) = e in cc))

module _ (lib : Library) (o : Options) (t : ClosedType) (rows : List (Row Goal)) (k : IsKnownOf lib o t rows) where
  closure : IsClosure same (IsAnswer lib) k.goal rows
  closure = canonical-closure same (IsAnswer lib) k.goal (one_answer lib) rows k.known.canonical

  -- the terms of the start goal are those of the type
  of_start : (r : Row Goal) → r.goal ≡ k.goal → (e : Applicative) → HasGoal lib e r.goal ↔ HasTypeIn lib e t
  of_start r s e = subst (λ (g : Goal). HasGoal lib e g ↔ HasTypeIn lib e t) (sym s) (same_terms lib t k.goal k.is_goal e)

  pub language : (e : Applicative) → IsGenerated (book_of rows) 0 e ↔ HasTypeIn lib e t
  language e =
      let r = first_row rows k.goal closure.first in
      let u = node-language same list_same list_equal.refl (HasGoal lib) (IsAnswer lib) (IsReady lib) (answers_are_typings lib) (arguments_are_ready lib) k.goal k.known.ready rows closure k.known.none_wide 0 r.0 r.1 e in
      let v = of_start r.0 r.2 e in
      ((λ h. v.0 (u.0 h)), (λ h. u.1 (v.1 h)))

  pub inhabited : IsProductiveIn (book_of rows) 0 ↔ ((e : Applicative) × HasTypeIn lib e t)
  inhabited =
      let r = first_row rows k.goal closure.first in
      let u = node-productive same list_same list_equal.refl (HasGoal lib) (IsAnswer lib) (IsReady lib) (answers_are_typings lib) (arguments_are_ready lib) k.goal k.known.ready rows closure k.known.none_wide 0 r.0 r.1 in
      ((λ h. let w = u.0 h in (w.0, (of_start r.0 r.2 w.0).0 w.1)), (λ h. u.1 (h.0, (of_start r.0 r.2 h.0).1 h.1)))
