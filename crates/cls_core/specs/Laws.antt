-- The laws of histories. IsAnswer g a says that a is an answer of the goal g. `src/laws.rt` promises them of the
-- answers that a tag of an expander means, of which each goal has at most one.
use Rattle.std.specs.Prelude.{◌≡◌, ◌↔◌, ℕ, Bool, List, Some, Contains, length, slice_get}
use Rattle.cls_base.specs.Lists.{AreDistinct}
use Rattle.cls_core.specs.declared.answer.Answer.{Answer}
use Rattle.cls_core.specs.declared.entry.Entry.{Entry}
use Rattle.cls_core.specs.Rows.{Machine, Row, filed_rows}
use Rattle.cls_core.specs.Machine.{begun, Replays, AllFiled}
use Rattle.cls_core.specs.Closure.{AllReached, IsClosure, goals_of}
use Rattle.cls_core.specs.Times.{EachAtMostOnce, EachOnce}
use Rattle.cls_core.specs.Canonical.{IsCanonical}
use Rattle.cls_core.specs.Renumbering.{renumbered, renumbered_from}
use Rattle.cls_core.specs.Grammar.{IsGrammar}

module _ {G : Type 0} (eq : G → G → Bool) (IsAnswer : G → Answer G → Type 0) where
  -- the history is legal, and leads from the start goal alone to the rows t
  abbrev pub LeadsTo : G → List Entry → Machine G → Type 0
  LeadsTo start es t = Replays eq IsAnswer (begun start) es t

  -- the history is legal and complete: it leads from the start goal alone to the rows t, which are all filed
  abbrev pub Completes : G → List Entry → Machine G → Type 0
  Completes start es t = Replays eq IsAnswer (begun start) es t × AllFiled t

  abbrev pub HistoriesStayInTheClosure : Type 0
  HistoriesStayInTheClosure =
      (start : G) (es : List Entry) (t : Machine G) → LeadsTo start es t
      → AreDistinct t.goals × AllReached IsAnswer start t.goals × EachAtMostOnce es

  abbrev pub CompleteHistoriesAreTheClosure : Type 0
  CompleteHistoriesAreTheClosure =
      (start : G) (es : List Entry) (t : Machine G) → Completes start es t
      → IsClosure eq IsAnswer start (filed_rows t.goals t.states) × EachOnce (length t.states) es

  abbrev pub CompleteHistoriesAgree : Type 0
  CompleteHistoriesAgree =
      (start : G) (es fs : List Entry) (t u : Machine G) → Completes start es t → Completes start fs u
      → (g : G) → Contains t.goals g ↔ Contains u.goals g

  abbrev pub TheCanonicalRowsAreOne : Type 0
  TheCanonicalRowsAreOne =
      (start : G) (rows others : List (Row G))
      → IsCanonical eq IsAnswer start rows → IsCanonical eq IsAnswer start others → rows ≡ others

  abbrev pub RenumberedRowsAreCanonical : Type 0
  RenumberedRowsAreCanonical =
      (start : G) (es : List Entry) (t : Machine G) → Completes start es t
      → IsCanonical eq IsAnswer start (renumbered (filed_rows t.goals t.states))

  abbrev pub RenumberedClosuresAreCanonical : Type 0
  RenumberedClosuresAreCanonical =
      (root g : G) (rows : List (Row G)) (k : ℕ) → IsClosure eq IsAnswer root rows → slice_get (goals_of rows) k ≡ Some g
      → IsCanonical eq IsAnswer g (renumbered_from k rows)

  abbrev pub RenumberedRowsAgree : Type 0
  RenumberedRowsAgree =
      (start : G) (es fs : List Entry) (t u : Machine G) → Completes start es t → Completes start fs u
      → renumbered (filed_rows t.goals t.states) ≡ renumbered (filed_rows u.goals u.states)

  abbrev pub CanonicalRowsAreTheClosure : Type 0
  CanonicalRowsAreTheClosure =
      (start : G) (rows : List (Row G)) → IsCanonical eq IsAnswer start rows → IsClosure eq IsAnswer start rows

  abbrev pub CompleteHistoriesMakeGrammars : Type 0
  CompleteHistoriesMakeGrammars =
      (start : G) (es : List Entry) (t : Machine G) → Completes start es t
      → let rows = filed_rows t.goals t.states in IsGrammar start rows × IsGrammar start (renumbered rows)
