use Rattle.std.proofs.Common.{length}
use Rattle.std.proofs.lemmas.Option.{MatchOption-at_none, MatchOption-at_some}
use Rattle.cls_base.specs.Ty.{type_of}
use Rattle.cls_lexer.specs.Names.{number_of, with_texts}
use Rattle.cls_syntax.specs.SpelledNumbers.{numerals_of}
use Rattle.cls_syntax.specs.SpelledTypes.{type_text, words_in}
use Rattle.cls_syntax.specs.TypePrinting.{HasNamesBelow}
use Rattle.cls_syntax.specs.TypeSchemas.{with_constructors}
use Rattle.cls_base.specs.Types.{ClosedType}
use Rattle.std.specs.Prelude.{◌≡◌, ℕ, List}
use Rattle.cls_proof.specs.Reading.{AreNumbers, IsGoal}
use Rattle.cls_proof.proofs.LineMeanings.{row_no_goal, row_meant}
use Rattle.cls_proof.proofs.reading.row.Goals as goal

pub returns-in_default-3-clause-meant : goal.returns-in_default-3-clause-meant
returns-in_default-3-clause-meant c =
    let f = c.args.form.now in
    row_no_goal c.args.components.now (type_text f.goal) f.component.now f.n.text.now (numerals_of f.cover)
    (MatchOption-at_none ((number : List ℕ → ℕ) (t : ClosedType) → IsGoal number (type_text f.goal) t → ⊥) _ c.in_default-3.is c.in_ok-goal.ensures.spelled)

pub returns-clause-meant : goal.returns-clause-meant
returns-clause-meant c =
    let f = c.args.form.now in
    let new = c.goal.new.names in
    row_meant c.args.components.now (type_text f.goal) f.component.now f.n.text.now (numerals_of f.cover) c.args.names.now new _
    (MatchOption-at_some _ (λ ty. new ≡ with_constructors c.args.names.now (words_in f.goal)) c.in-Some-3.goal c.in-Some-3.is c.in_ok-goal.ensures.numbered)
    (MatchOption-at_some _ (λ ty. (later : List (List ℕ)) → IsGoal (number_of (with_texts new later)) (type_text f.goal) (type_of ty)) c.in-Some-3.goal c.in-Some-3.is c.in_ok-goal.ensures.spelled)
    (MatchOption-at_some _ (λ ty. HasNamesBelow (length new) (type_of ty)) c.in-Some-3.goal c.in-Some-3.is c.in_ok-goal.ensures.held)
    c.in-Some.ensures.stands c.in-Some-value.ensures.0 c.in-Some-value.ensures.1
    (MatchOption-at_some _ (AreNumbers (numerals_of f.cover)) c.in-Some-2.cover c.in-Some-2.is c.in_ok-cover.ensures)
