-- A reply while it is printed: what is left to be written of it, by what answers the lines after a repository.
use Rattle.std.specs.Prelude.{ℕ, zero, suc, ◌≡◌, ◌<◌, ◌≤◌, ◌++◌, All, List, [], codes, drop, length, string_bytes}
use Rattle.std.specs.List.{flat_map}
use Rattle.cls_base.specs.Terms.{Applicative, IsTermOver}
use Rattle.cls_base.specs.Types.{ClosedType}
use Rattle.cls_cert.specs.Conditions.{forms_of}
use Rattle.cls_cert.specs.Left.{AreMembersLeft, AreRowsLeft, members_left, rows_left}
use Rattle.cls_core.specs.Rows.{Row}
use Rattle.cls_engine.specs.Faults.{AreSilent, closure_faults}
use Rattle.cls_engine.specs.Goals.{Goal, IsClosed}
use Rattle.cls_enum.specs.declared.listed.Page.{Page}
use Rattle.cls_grammar.specs.GrammarTexts.{IsPlaceIn, lines_from}
use Rattle.cls_grammar.specs.Grammars.{book_of}
use Rattle.cls_grammar.specs.Ranks.{AreRanks}
use Rattle.cls_library.specs.Libraries.{paths_at}
use Rattle.cls_path.specs.Paths.{Paths, none, more}
use Rattle.cls_syntax.specs.TypePrinting.{name_in}
use Rattle.cls_term.specs.Texts.{name_at}
use Rattle.cls_replies.specs.declared.printing.Left.{Left}
use Rattle.cls_replies.specs.declared.printing.Left.TheVariants as left
use Rattle.cls_replies.specs.declared.printing.Lines.{Lines}
use Rattle.cls_replies.specs.declared.printing.Lines.TheVariants as lines
use Rattle.cls_replies.specs.declared.printing.Printing.{Printing}
use Rattle.cls_replies.specs.Responder.{Responder}
use Rattle.cls_replies.specs.Texts.{event_line, page_text, paths_text, reply_line, step_line, term_line, term_lines}

-- the lines of a page from the term at a place on, each term shown in this way
abbrev pub page_left : (Applicative → List ℕ) → Page → ℕ → List ℕ
page_left shown page place = page_text shown (drop place page.terms) page.more

-- the lines of items from a place on, and the last line
abbrev pub items_left : {A : Type 0} → (line : A → List ℕ) → List A → ℕ → List ℕ
items_left line items place = flat_map line (drop place items) ++ reply_line (codes "done")

-- the paths from a place on
abbrev pub behind : ℕ → Paths → Paths
behind zero n = n
behind (suc i) none = none
behind (suc i) (more p n) = behind i n

module _ (s : Responder) where
  abbrev pub left_lines : Lines → List ℕ
  left_lines (lines.Terms page place) = page_left (term_line (name_at s.components)) page place
  left_lines (lines.Texts page place) = page_left (term_lines (name_at s.components) s.templates) page place
  left_lines (lines.Grammar grammar ranks place) = lines_from (name_in s.names) (name_in s.components) grammar ranks place
  left_lines (lines.Paths x place) = paths_text s.names (behind place (paths_at s.engine.library x))
  left_lines (lines.Events history place) = items_left event_line history place
  left_lines (lines.Steps walk place) = items_left step_line walk place
  left_lines (lines.Rows grammar rows) = rows_left s.names s.components (forms_of grammar) rows
  left_lines (lines.Members grammar members) =
      members_left s.names s.components s.engine.library (forms_of grammar) members

  abbrev pub left_in : Left → List ℕ
  left_in left.Nothing = []
  left_in (left.Text text) = string_bytes text
  left_in (left.Begun first l) = string_bytes first ++ left_lines l
  left_in (left.Lines l) = left_lines l

  -- the bytes that are left
  abbrev pub left_of : Printing → List ℕ
  left_of p = left_in p.left

  -- The grammar is that of a type's goal: the engine takes it back when it is printed.
  abbrev pub IsOfGoal : List (Row Goal) → Type 0
  IsOfGoal rows = (t : ClosedType) × IsClosed s.engine.library t rows × AreSilent (closure_faults s.engine.library s.engine.options t)

  -- The lines can be printed: they go on within what they are printed from, and that has names and ranks.
  abbrev pub ArePrintable : Lines → Type 0
  ArePrintable (lines.Terms page place) = place ≤ length page.terms
  ArePrintable (lines.Texts page place) = (place ≤ length page.terms) × All (IsTermOver (length s.components)) page.terms
  ArePrintable (lines.Grammar grammar ranks place) = AreRanks (book_of grammar) ranks × IsPlaceIn grammar place × IsOfGoal grammar
  ArePrintable (lines.Paths x place) = x < length s.components
  ArePrintable (lines.Events history place) = place ≤ length history
  ArePrintable (lines.Steps walk place) = place ≤ length walk
  ArePrintable (lines.Rows grammar rows) = AreRowsLeft grammar rows × IsOfGoal grammar
  ArePrintable (lines.Members grammar members) = AreMembersLeft s.engine.library grammar members × IsOfGoal grammar

  abbrev pub IsLeftPrintable : Left → Type 0
  IsLeftPrintable left.Nothing = Unit {0}
  IsLeftPrintable (left.Text text) = Unit {0}
  IsLeftPrintable (left.Begun first l) = (string_bytes first ≡ [] → ⊥) × ArePrintable l
  IsLeftPrintable (left.Lines l) = ArePrintable l

  -- what is left of the reply can be printed
  abbrev pub IsPrintable : Printing → Type 0
  IsPrintable p = IsLeftPrintable p.left
