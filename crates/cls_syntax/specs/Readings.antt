-- What the calls answer that read tokens from the left: what the words of the tokens are read as, or the stop.
use Rattle.std.specs.Prelude.{◌≡◌, List, Result, Ok, Err, MatchResult}
use Rattle.cls_lexer.specs.declared.token.Token.{Token}
use Rattle.cls_lexer.specs.Words.{Word, words}
use Rattle.cls_syntax.specs.declared.stop.Stop.{Stop}
use Rattle.cls_syntax.specs.Stops.{stop_of}
use Rattle.cls_syntax.specs.Forms.{Item, Form, Values}
use Rattle.cls_syntax.specs.LineReading.{ItemValue, item_front, line_read}
use Rattle.cls_syntax.specs.LineGrammars.{Row, LineOf, grammar_read}

-- The item in front. `said` gives what an answer says of it and the words that follow.
abbrev pub Takes : {A : Type 0} (i : Item) → List Token → Result A Stop → (said : A → ItemValue i × List Word) → Type 0
Takes i tokens result said =
    MatchResult result (λ a. item_front i (words tokens) ≡ Ok (said a)) (λ s. item_front i (words tokens) ≡ Err (stop_of s))

-- The whole of a line of the form.
abbrev pub Reads : {A : Type 0} (f : Form) → List Token → Result A Stop → (said : A → Values f) → Type 0
Reads f tokens result said =
    MatchResult result (λ a. line_read f (words tokens) ≡ Ok (said a)) (λ s. line_read f (words tokens) ≡ Err (stop_of s))

-- The whole of a line of a grammar.
abbrev pub ReadsLine : {A : Type 0} (rows : List Row) → List Token → Result A Stop → (said : A → LineOf rows) → Type 0
ReadsLine rows tokens result said =
    MatchResult result (λ a. grammar_read rows (words tokens) ≡ Ok (said a)) (λ s. grammar_read rows (words tokens) ≡ Err (stop_of s))
