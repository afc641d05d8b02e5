-- Grammars of lines: each kind of line has a first word of its own, and a form of what follows it.
use Rattle.std.specs.Prelude.{ℕ, ◌≡◌, ◌⊎◌, false, List, [], ◌∷◌, Result, Ok, Err}
use Rattle.std.proofs.Common.{inl, inr}
use Rattle.std.specs.List.{AllByRecursion}
use Rattle.std.specs.Str.{bytes_eq}
use Rattle.cls_lexer.specs.Words.{Word, name}
use Rattle.cls_syntax.specs.Faults.{Stop, stop}
use Rattle.cls_syntax.specs.Forms.{the_word, Form, Values, line_words, LineStands}
use Rattle.cls_syntax.specs.GoodForms.{IsGood}
use Rattle.cls_syntax.specs.LineReading.{item_front, line_read}

-- The first word of a line, and the form of what follows it.
pub record Row : Type 0 where
  pub first : List ℕ
  pub form : Form

-- What a line of one of the rows says: which row it is of, and what its form says.
abbrev pub LineOf : List Row → Type 0
LineOf [] = ⊥
LineOf (row ∷ rows) = Values row.form ⊎ LineOf rows

-- The words of the line.
abbrev pub row_words : (rows : List Row) → LineOf rows → List Word
row_words [] v = absurd v
row_words (row ∷ rows) (inl v) = name row.first ∷ line_words row.form v
row_words (row ∷ rows) (inr v) = row_words rows v

-- Each name of the line may stand where it does.
abbrev pub RowStands : (rows : List Row) → LineOf rows → Type 0
RowStands [] v = ⊥
RowStands (row ∷ rows) (inl v) = LineStands row.form v
RowStands (row ∷ rows) (inr v) = RowStands rows v

-- A line of the first row, and a line of a later one.
abbrev pub of_first : {A B : Type 0} → Result A Stop → Result (A ⊎ B) Stop
of_first (Ok a) = Ok (inl a)
of_first (Err e) = Err e

abbrev pub of_later : {A B : Type 0} → Result B Stop → Result (A ⊎ B) Stop
of_later (Ok b) = Ok (inr b)
of_later (Err e) = Err e

-- What follows the first word of the row is read by its form, and a line with another first word as one of another row.
abbrev pub by_first : {A B : Type 0} → (List Word → Result A Stop) → Result B Stop → Result (Unit {0} × List Word) Stop → Result (A ⊎ B) Stop
by_first read others (Ok p) = of_first (read p.1)
by_first read others (Err e) = of_later others

-- What the line says, or the stop.
abbrev pub grammar_read : (rows : List Row) → List Word → Result (LineOf rows) Stop
grammar_read [] ws = Err (stop ws false)
grammar_read (row ∷ rows) ws = by_first (λ rest. line_read row.form rest) (grammar_read rows ws) (item_front (the_word row.first) ws)

-- No two rows have one first word, and each form can be read from the left.
abbrev pub AreGood : List Row → Type 0
AreGood [] = Unit {0}
AreGood (row ∷ rows) = AllByRecursion (λ r. bytes_eq row.first r.first ≡ false) rows × IsGood row.form × AreGood rows

-- There are rows, and they are good.
abbrev pub IsGoodGrammar : List Row → Type 0
IsGoodGrammar [] = ⊥
IsGoodGrammar (row ∷ rows) = AreGood (row ∷ rows)
