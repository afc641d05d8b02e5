use Rattle.std.proofs.Common.{ℕ, List, ap, ◌∙◌}
use Rattle.std.specs.Prelude.{◌==◌, position}
use Rattle.memchr.specs.Find.{is_byte}
use Rattle.cls_lexer.proofs.Positions.{first_byte_position}
use Rattle.cls_lexer.proofs.piece.Piece.first_feed.Goals as goal

pub returns : goal.returns
returns c =
    first_byte_position (is_byte 10) c.as_bytes.result.now c.memchr.result c.memchr.ensures
    ∙ ap (λ (bs : List ℕ). position (λ b. b == 10) bs) c.as_bytes.ensures
