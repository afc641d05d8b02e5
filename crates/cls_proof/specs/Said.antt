-- internal: what the code's forms of lines and statements say
use Rattle.std.specs.Prelude.{ℕ, ◌≡◌, ◌<◌, List, length}
use Rattle.cls_base.specs.Ty.{type_of}
use Rattle.cls_lexer.specs.Names.{number_of, with_texts}
use Rattle.cls_lexer.specs.Skipped.{IsSkipped}
use Rattle.cls_syntax.specs.Forms.{Values}
use Rattle.cls_syntax.specs.SpelledNumbers.{numerals_of}
use Rattle.cls_syntax.specs.SpelledTypes.{type_text}
use Rattle.cls_syntax.specs.TypePrinting.{HasNamesBelow}
use Rattle.cls_proof.specs.declared.statement.Statement as code
use Rattle.cls_proof.specs.declared.statement.Statement.TheVariants as variant
use Rattle.cls_proof.specs.declared.statement_form.StatementForm.{StatementForm}
use Rattle.cls_proof.specs.declared.statement_form.StatementForm.TheVariants as form
use Rattle.cls_proof.specs.declared.statement_form.RowForm.{RowForm}
use Rattle.cls_proof.specs.declared.statement_form.BlockForm.{BlockForm}
use Rattle.cls_proof.specs.declared.reading.ReadLine.{ReadLine}
use Rattle.cls_proof.specs.declared.reading.ReadLine.TheVariants as read
use Rattle.cls_proof.specs.Rows.{row_of}
use Rattle.cls_proof.specs.Texts.{IsRowHeld}
use Rattle.cls_proof.specs.Forms.{row_form, block_form, Written}
use Rattle.cls_proof.specs.Forms as as_written
use Rattle.cls_proof.specs.Statements.{Statement, inhabited, row, empty, member, block, layer, set, qed}
use Rattle.cls_proof.specs.Reading.{Means, Says, SaysStatement}

abbrev pub statement_of : code.Statement → Statement
statement_of variant.Inhabited = inhabited
statement_of (variant.Row r) = row (row_of r)
statement_of variant.Empty = empty
statement_of (variant.Member goal) = member (type_of goal)
statement_of (variant.Block component n) = block component n
statement_of variant.Layer = layer
statement_of (variant.Set positions) = set positions
statement_of variant.Qed = qed

abbrev pub row_values : RowForm → Values row_form
row_values f = (type_text f.goal, (f.component.now, (f.n.text.now, numerals_of f.cover)))

abbrev pub block_values : BlockForm → Values block_form
block_values f = (f.component.now, (f.n.text.now, tt))

abbrev pub written_row : RowForm → Written
written_row f = as_written.row (type_text f.goal) f.component.now f.n.text.now (numerals_of f.cover)

abbrev pub written_block : BlockForm → Written
written_block f = as_written.block f.component.now f.n.text.now

abbrev pub written : StatementForm → Written
written form.Inhabited = as_written.inhabited
written (form.Row f) = written_row f
written form.Empty = as_written.empty
written (form.Member goal) = as_written.member (type_text goal)
written (form.Block f) = written_block f
written form.Layer = as_written.layer
written (form.Set positions) = as_written.set (numerals_of positions)
written form.Qed = as_written.qed

-- Some texts came into the table.
abbrev pub HasGrown : List (List ℕ) → List (List ℕ) → Type 0
HasGrown old new = (names : List (List ℕ)) × (new ≡ with_texts old names)

-- The names and components of the statement have numbers below these.
abbrev pub IsStatementHeld : (names components : ℕ) → Statement → Type 0
IsStatementHeld names components (row r) = IsRowHeld names components r
IsStatementHeld names components (member goal) = HasNamesBelow names goal
IsStatementHeld names components (block component n) = component < components
IsStatementHeld names components _ = Unit {0}

-- The table of components, and that of constructors before and after. A later table has the same numbers.
module _ (components old new : List (List ℕ)) where
  -- what is written means the statement
  pub record IsMeant (w : Written) (s : Statement) : Type 0 where
    pub grown : new ≡ with_texts old (as_written.constructors_of w)
    pub means : (later : List (List ℕ)) → Means (number_of (with_texts new later)) components w s
    pub held : IsStatementHeld (length new) (length components) s

  -- the line is read as this
  abbrev pub IsReadAs : List ℕ → ReadLine → Type 0
  IsReadAs line read.Skipped = IsSkipped line × (new ≡ old)
  IsReadAs line read.Bad = (number : List ℕ → ℕ) (names : List (List ℕ)) (ss : List Statement) → Says number components line names ss → ⊥
  IsReadAs line (read.Says s) =
      (names : List (List ℕ)) × (new ≡ with_texts old names)
      × ((later : List (List ℕ)) → SaysStatement (number_of (with_texts new later)) components line names (statement_of s))
      × IsStatementHeld (length new) (length components) (statement_of s)

-- what is written means no statement
abbrev pub IsMeaningless : List (List ℕ) → Written → Type 0
IsMeaningless components w = (number : List ℕ → ℕ) (s : Statement) → Means number components w s → ⊥
