-- internal: what is left of a reply where some lines of it are written
use Rattle.std.specs.Prelude.{ℕ, ◌≡◌, List, [], ◌++◌, Option, None, Some, Result, Ok, Err, String, string_bytes}
use Rattle.cls_cert.specs.Making.{IsMadeFor}
use Rattle.cls_core.specs.Rows.{Row}
use Rattle.cls_engine.specs.Goals.{Goal}
use Rattle.cls_library.specs.Libraries.{Library}
use Rattle.cls_proof.specs.Certificates.{Certificate}
use Rattle.cls_proof.specs.Texts.{certificate_text}
use Rattle.cls_replies.specs.declared.printing.Left.{Left}
use Rattle.cls_replies.specs.declared.printing.Printing.{Printing}
use Rattle.cls_replies.specs.Printing.{left_in, left_of, IsLeftPrintable}
use Rattle.cls_replies.specs.Responder.{Responder}

-- what is left from a place on, and nothing if there is none
abbrev pub left_at : (ℕ → List ℕ) → Option ℕ → List ℕ
left_at text None = []
left_at text (Some place) = text place

-- Of the whole some was written at the end, and this is left. If the text is empty then, nothing is.
pub record IsRest (s : Responder) (whole old new : List ℕ) (l : Left) : Type 0 where
  pub lines : new ++ left_in s l ≡ old ++ whole
  pub full : new ≡ [] → left_in s l ≡ []
  pub printable : IsLeftPrintable s l

-- The reply is this text, where there is one.
abbrev pub IsPrintingOf : {A E F : Type 0} → Result (String A) E → Result Printing F → Type 0
IsPrintingOf (Ok text) (Ok p) = (s : Responder) → left_of s p ≡ string_bytes text
IsPrintingOf (Ok text) (Err f) = ⊥
IsPrintingOf (Err e) (Ok p) = ⊥
IsPrintingOf (Err e) (Err f) = Unit {0}

-- The text is that of the certificate that is made for goal 0 of the grammar, by the tables of the names of constructors and of
-- components.
abbrev pub IsCertificateText : Library → List (Row Goal) → (names components : List (List ℕ)) → List ℕ → Type 0
IsCertificateText lib rows names components text =
    (c : Certificate) × IsMadeFor lib rows c × (text ≡ certificate_text names components c)
