-- What the certificate of a type says of the type.
use Rattle.std.proofs.Common.{◌≡◌, ◌↔◌, refl, ap, subst, inl, inr, ◌⊎◌, List, [], ◌∷◌, Option, None, Some, slice_get}
use Rattle.cls_base.specs.Terms.{Applicative}
use Rattle.cls_base.specs.Types.{ClosedType}
use Rattle.cls_path.specs.Paths.{Paths, listed, type_of_paths}
use Rattle.cls_core.specs.Rows.{Row}
use Rattle.cls_core.specs.Closure.{goals_of}
use Rattle.cls_core.proofs.Grammar.{canonical-closure}
use Rattle.cls_cert.specs.Conditions.{forms_of, IsGrammarOf}
use Rattle.cls_cert.specs.Laws.{IsEmpty, MadeAreAccepted}
use Rattle.cls_cert.specs.Making.{goal_in, IsMadeFor}
use Rattle.cls_check.specs.Checking.{Accepts}
use Rattle.cls_expand.specs.Answers.{IsAnswer, IsReady}
use Rattle.cls_expand.specs.Determined.{one_answer}
use Rattle.cls_grammar.specs.Grammars.{first_wide}
use Rattle.cls_library.specs.Libraries.{Library, IsLibrary}
use Rattle.cls_library.specs.Typing.{HasTypeIn}
use Rattle.cls_proof.specs.Certificates.{Certificate}
use Rattle.cls_engine.specs.declared.options.Options.{Options}
use Rattle.cls_engine.specs.declared.fault.EngineFault.TheVariants.{Size, TooLarge, Wide}
use Rattle.cls_engine.specs.Closing.{IsKnownOf}
use Rattle.cls_engine.specs.Faults.{closure_faults, AreSilent}
use Rattle.cls_engine.specs.Goals.{Goal, same, IsSpread, IsUnfit, HasLargeClosure, IsClosed}
use Rattle.cls_engine.specs.Laws.{CertificatesDecide}
use Rattle.cls_engine.proofs.Languages.{goal_same, inhabited}
use Rattle.cls_engine.proofs.Verdicts.{accepts}

first_form : (rows : List (Row Goal)) (g : Goal) → slice_get (goals_of rows) 0 ≡ Some g → goal_in (forms_of rows) 0 ≡ listed g
first_form [] g e = absurd (let f : ◌≡◌ {A = Option Goal} None (Some g) = e in cc)
first_form (r ∷ rows) g e = let s : r.goal ≡ g = (let f : ◌≡◌ {A = Option Goal} (Some r.goal) (Some g) = e in cc) in ap listed s

module _ (lib : Library) (is : IsLibrary lib) (o : Options) (t : ClosedType) (silent : AreSilent (closure_faults lib o t)) (rows : List (Row Goal)) (closed : IsClosed lib t rows) where
  ready : IsReady lib closed.goal
  ready = record { library = is; normal = closed.is_goal.normal; fit = closed.fit }

  oversized : IsSpread t ⊎ IsUnfit lib t → ⊥
  oversized h = silent Size (inl (h, refl))

  large : HasLargeClosure lib o.goals o.rules t → ⊥
  large h = silent TooLarge (inr ((λ f k. oversized k.0), inl (h, refl)))

  none_wide_at : (g : Option Goal) → first_wide rows ≡ g → first_wide rows ≡ None
  none_wide_at None e = e
  none_wide_at (Some g) e = absurd (silent (Wide g) (inr ((λ f k. oversized k.0), inr ((λ f k. large k.0), inl (g, (rows, closed, e), refl)))))

  none_wide : first_wide rows ≡ None
  none_wide = none_wide_at (first_wide rows) refl

  -- a closure is known if no cause applies
  pub known : IsKnownOf lib o t rows
  known = record {
    goal = closed.goal;
    is_goal = closed.is_goal;
    narrow = λ h. oversized (inl h);
    known = record { ready = ready; canonical = closed.canonical; none_wide = none_wide; not_large = λ h. large (closed.goal, closed.is_goal, h) };
  }

  pub grammar : IsGrammarOf lib rows
  grammar = record { start = closed.goal; ready = ready; canonical = closed.canonical; narrow = none_wide }

  first_goal : goal_in (forms_of rows) 0 ≡ listed closed.goal
  first_goal = first_form rows closed.goal (canonical-closure same (IsAnswer lib) closed.goal (one_answer lib) rows closed.canonical).first

  module _ (made_are : MadeAreAccepted) (c : Certificate) (made : IsMadeFor lib rows c) where
    for_goal : Accepts lib (type_of_paths (listed closed.goal)) c
    for_goal = subst (λ (n : Paths). Accepts lib (type_of_paths n) c) first_goal (made_are.accepted lib is rows grammar c made)

    accepted : Accepts lib t c
    accepted = let e = goal_same lib t closed.goal closed.is_goal in accepts lib (type_of_paths (listed closed.goal)) t e.1 e.0 c for_goal

    decided : IsEmpty c ↔ ((e : Applicative) × HasTypeIn lib e t → ⊥)
    decided =
        let d = made_are.decided lib rows c made in
        let p = inhabited lib o t rows known in
        ((λ empty e. d.0 empty (p.1 e)), (λ none. d.1 (λ h. none (p.0 h))))

pub certificates_decide : MadeAreAccepted → CertificatesDecide
certificates_decide made_are lib is o t silent c (rows, closed, made) =
    (accepted lib is o t silent rows closed made_are c made, decided lib is o t silent rows closed made_are c made)
