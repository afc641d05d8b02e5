use Rattle.std.proofs.Common.{◌≡◌, ℕ, ◌<◌, List, [], ◌∷◌, length, sym, ap, ◌∙◌, arith}
use Rattle.cls_lexer.specs.Lines.{lines_of, without_return, HasNoFeed}
use Rattle.cls_lexer.proofs.LinePieces.{lines_of-nil, lines_of-HasNoFeed}
use Rattle.cls_lexer.proofs.line_reader.LineReader.finish.Goals as goal

empty : (held : List ℕ) → length held ≡ 0 → [] ≡ lines_of held
empty [] h = sym lines_of-nil
empty (b ∷ held) h = absurd (omega arith)

last : (held line : List ℕ) → HasNoFeed held → 0 < length held → line ≡ without_return held → line ∷ [] ≡ lines_of held
last held line h some e = ap (λ (l : List ℕ). l ∷ []) e ∙ sym (lines_of-HasNoFeed held h (λ no. let z = ap length no in omega arith))

pub returns-then-is_empty-clause-lines : goal.returns-then-is_empty-clause-lines
returns-then-is_empty-clause-lines c = let zero : length c.self.inside.bytes.items ≡ 0 = grind arith in empty c.self.inside.bytes.items zero ∙ ap lines_of c.self.view_is

pub returns-clause-lines : goal.returns-clause-lines
returns-clause-lines c = let some : 0 < length c.self.inside.bytes.items = grind arith in last c.self.inside.bytes.items c.ended_owned.result c.self.invariant some c.ended_owned.ensures ∙ ap lines_of c.self.view_is
