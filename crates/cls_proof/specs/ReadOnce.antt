-- Lines say one thing alone: a certificate, or the number of the first bad line, or that none is `qed`.
use Rattle.std.specs.Prelude.{ℕ, ◌≡◌, List}
use Rattle.std.specs.List.{IsDistinct}
use Rattle.std.specs.Str.{bytes_eq}
use Rattle.cls_proof.specs.Certificates.{Certificate}
use Rattle.cls_proof.specs.Reading.{SaysCertificate, IsFirstBad, LacksQed}

-- Lines say one certificate, and leave one table of constructors. No two components have one name.
abbrev pub SayOneCertificate : Type 0
SayOneCertificate =
    (old new new' components lines : List (List ℕ)) (c c' : Certificate) → IsDistinct bytes_eq components
    → SaysCertificate old new components lines c → SaysCertificate old new' components lines c'
    → (c ≡ c') × (new ≡ new')

-- One line is the first bad one.
abbrev pub HaveOneFirstBad : Type 0
HaveOneFirstBad =
    (components lines : List (List ℕ)) (n n' : ℕ) → IsFirstBad components lines n → IsFirstBad components lines n'
    → n ≡ n'

-- Lines that say a certificate have no bad one and don't lack `qed`, and lines with a bad one don't lack it.
pub record AreExclusive : Type 0 where
  pub said_or_bad :
      (old new components lines : List (List ℕ)) (c : Certificate) (n : ℕ)
      → SaysCertificate old new components lines c → IsFirstBad components lines n → ⊥
  pub said_or_lacking :
      (old new components lines : List (List ℕ)) (c : Certificate)
      → SaysCertificate old new components lines c → LacksQed components lines → ⊥
  pub bad_or_lacking :
      (components lines : List (List ℕ)) (n : ℕ) → IsFirstBad components lines n → LacksQed components lines → ⊥
