-- What may be left out at the end of a line.
use Rattle.std.proofs.Common.{◌≡◌, ◌<◌, List, [], ◌∷◌, length, refl, arith}
use Rattle.std.specs.Prelude.{None, Ok}
use Rattle.cls_lexer.specs.declared.token.Token.{Token}
use Rattle.cls_lexer.specs.Words.{words}
use Rattle.cls_syntax.specs.Forms.{Form, perhaps}
use Rattle.cls_syntax.specs.LineReading.{line_read, present}

-- something is left
pub tail_read : (f : Form) (ls : List Token) → 0 < length ls → line_read (perhaps f) (words ls) ≡ present (line_read f (words ls))
tail_read f [] h = absurd (omega arith)
tail_read f (l ∷ ls) h = refl

-- nothing is left
pub nothing_left : (f : Form) (ls : List Token) → length ls ≡ 0 → line_read (perhaps f) (words ls) ≡ Ok None
nothing_left f [] h = refl
nothing_left f (l ∷ ls) h = absurd (omega arith)

pub ruleset tails = (tail_read, nothing_left)
