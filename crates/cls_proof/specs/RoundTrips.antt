-- Certificates that are printed and read again.
use Rattle.std.specs.Prelude.{ℕ, ◌<◌, ◌≤◌, List, length}
use Rattle.std.specs.List.{AllByRecursion, IsDistinct}
use Rattle.std.specs.Str.{bytes_eq}
use Rattle.cls_base.specs.Limits.{max_line_bytes, max_type_nodes, max_type_depth, max_type_spread}
use Rattle.cls_base.specs.Types.{ClosedType, nodes, depth, spread}
use Rattle.cls_lexer.specs.Lines.{lines_of}
use Rattle.cls_syntax.specs.RoundTrips.{IsProperName, HasProperNames}
use Rattle.cls_syntax.specs.TypePrinting.{name_in, HasNamesBelow}
use Rattle.cls_proof.specs.Certificates.{Certificate}
use Rattle.cls_proof.specs.Forms.{greatest_number}
use Rattle.cls_proof.specs.Reading.{SaysCertificate}
use Rattle.cls_proof.specs.Statements.{Statement, row, member, block, set, statements_of}
use Rattle.cls_proof.specs.Texts.{certificate_text}

-- Numbers within the limit.
abbrev pub AreSayable : List ℕ → Type 0
AreSayable ns = AllByRecursion (λ n. n ≤ greatest_number) ns

-- The tables of the names of constructors and of components.
module _ (names components : List (List ℕ)) where
  -- The type is within the limits of a line, and the table has a name for each of its constructors.
  pub record IsTypeSayable (t : ClosedType) : Type 0 where
    pub below : HasNamesBelow (length names) t
    pub proper : HasProperNames (name_in names) t
    pub few : nodes t ≤ max_type_nodes
    pub shallow : depth t ≤ max_type_depth
    pub narrow : spread t ≤ max_type_spread

  -- The table has a name for the component, and the number is within the limit.
  pub record IsPlaceSayable (component n : ℕ) : Type 0 where
    pub below : component < length components
    pub proper : IsProperName (name_in components component)
    pub within : n ≤ greatest_number

  abbrev pub IsSayable : Statement → Type 0
  IsSayable (row r) = IsTypeSayable r.goal × IsPlaceSayable r.component r.n × AreSayable r.cover
  IsSayable (member t) = IsTypeSayable t
  IsSayable (block component n) = IsPlaceSayable component n
  IsSayable (set positions) = AreSayable positions
  IsSayable _ = Unit {0}

  -- What the certificate says can be said, and none of its lines is too long.
  pub record IsCertificateSayable (c : Certificate) : Type 0 where
    pub sayable : AllByRecursion IsSayable (statements_of c)
    pub short : AllByRecursion (λ line. length line ≤ max_line_bytes) (lines_of (certificate_text names components c))

-- The text of a certificate says that certificate, and no name is new, if the names differ.
abbrev pub PrintedCertificatesAreRead : Type 0
PrintedCertificatesAreRead =
    (names components : List (List ℕ)) (c : Certificate) → IsDistinct bytes_eq names
    → IsCertificateSayable names components c
    → SaysCertificate names names components (lines_of (certificate_text names components c)) c

-- What is read and then printed is read again as the certificate that it was, with the names as they are, if the names
-- differed before and none of the printed lines is too long.
abbrev pub ReadCertificatesAreReadAgain : Type 0
ReadCertificatesAreReadAgain =
    (old new components lines : List (List ℕ)) (c : Certificate) → IsDistinct bytes_eq old
    → SaysCertificate old new components lines c
    → AllByRecursion (λ line. length line ≤ max_line_bytes) (lines_of (certificate_text new components c))
    → SaysCertificate new new components (lines_of (certificate_text new components c)) c
