-- internal: what a line and a piece keep of their bytes
use Rattle.std.specs.Prelude.{ℕ, List}
use Rattle.std.specs.Cow.{cow_str_bytes, cow_slice_items}
use Rattle.cls_lexer.specs.declared.line.Content.{Content}
use Rattle.cls_lexer.specs.declared.line.Content.TheVariants as content
use Rattle.cls_lexer.specs.declared.piece.Known.{Known}
use Rattle.cls_lexer.specs.declared.piece.Known.TheVariants as known
use Rattle.cls_lexer.specs.Skipped.{IsText}

-- The bytes that are kept.
abbrev pub bytes_of : Content → List ℕ
bytes_of (content.Text text) = cow_str_bytes text
bytes_of (content.Unread bytes) = cow_slice_items bytes

-- They are kept as a text if and only if they can be read as one.
abbrev pub TellsText : Content → Type 0
TellsText (content.Text text) = IsText (cow_str_bytes text)
TellsText (content.Unread bytes) = IsText (cow_slice_items bytes) → ⊥

-- The bytes of a piece.
abbrev pub known_bytes : Known → List ℕ
known_bytes (known.Text text) = text.now
known_bytes (known.Unread bytes) = bytes.now
