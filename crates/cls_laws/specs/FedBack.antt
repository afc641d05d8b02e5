-- The certificate that is printed for a type, fed back behind a line that asks whether it is one for this type.
use Rattle.std.specs.Prelude.{ℕ, ◌≡◌, ◌≤◌, List, [], ◌∷◌, ◌++◌, length, codes}
use Rattle.std.specs.List.{AllByRecursion}
use Rattle.cls_base.specs.Limits.{max_line_bytes, max_type_nodes, max_type_depth, max_type_spread}
use Rattle.cls_base.specs.Types.{ClosedType, nodes, depth, spread}
use Rattle.cls_lexer.specs.Lines.{lines_of}
use Rattle.cls_proof.specs.Certificates.{Certificate}
use Rattle.cls_proof.specs.Forms.{greatest_number}
use Rattle.cls_proof.specs.RoundTrips.{AreSayable}
use Rattle.cls_proof.specs.Statements.{Statement, row, member, block, set, statements_of}
use Rattle.cls_proof.specs.Texts.{certificate_text}
use Rattle.cls_query.specs.Queries.{certify, verify}
use Rattle.cls_engine.specs.declared.options.Options.{Options}
use Rattle.cls_engine.specs.declared.verdict.Verdict.TheVariants.{Accepted}
use Rattle.cls_engine.specs.Certified.{IsCertified}
use Rattle.cls_engine.specs.Faults.{AreSilent}
use Rattle.cls_replies.specs.Answering.{Asks}
use Rattle.cls_replies.specs.Errors.{faults_of}
use Rattle.cls_replies.specs.Lines.{Replies}
use Rattle.cls_replies.specs.Responder.{Responder}
use Rattle.cls_replies.specs.Texts.{verdict_text}
use Rattle.cls_session.specs.Transcripts.{IsAnswered}

-- The type may stand in a line.
pub record IsTypeWithin (t : ClosedType) : Type 0 where
  pub few : nodes t ≤ max_type_nodes
  pub shallow : depth t ≤ max_type_depth
  pub narrow : spread t ≤ max_type_spread

-- So may the type and the numbers of the statement.
abbrev pub IsWithin : Statement → Type 0
IsWithin (row r) = IsTypeWithin r.goal × (r.n ≤ greatest_number) × AreSayable r.cover
IsWithin (member t) = IsTypeWithin t
IsWithin (block component n) = n ≤ greatest_number
IsWithin (set positions) = AreSayable positions
IsWithin _ = Unit {0}

-- So may all that the certificate says, and no line of it is too long.
pub record IsCertificateWithin (names components : List (List ℕ)) (c : Certificate) : Type 0 where
  pub within : AllByRecursion IsWithin (statements_of c)
  pub short : AllByRecursion (λ line. length line ≤ max_line_bytes) (lines_of (certificate_text names components c))

-- The line, and then the lines of the certificate as it is printed.
abbrev pub fed_back : Responder → (line : List ℕ) → Certificate → List (List ℕ)
fed_back s line c = line ∷ lines_of (certificate_text s.names s.components c)

-- `accepted` is written for these lines, and nothing else may be. Queries are answered by the same after them: no name is new.
pub record AreAccepted (s : Responder) (lines : List (List ℕ)) : Type 0 where
  pub replied : Replies s lines (verdict_text Accepted) s
  pub alone :
      (text : List ℕ) (s' : Responder) → Replies s lines text s' → (text ≡ verdict_text Accepted) × (s' ≡ s)

-- Behind `certify` and behind `verify` the same text is read as the same type. So the second line names nothing new.
pub record CertificatesAreAccepted : Type 0 where
  -- The certificate is the one that `certify` prints of the type where the session stands, and no fault applies to the type.
  -- It is within the limits of lines.
  pub accepted :
      (o : Options) (lines : List (List ℕ)) (text : List ℕ) (s : Responder) → IsAnswered o lines text s → s.held ≡ []
      → (goal : ClosedType) (c : Certificate) → AreSilent (faults_of s (certify goal))
      → IsCertified s.engine.library goal c → IsCertificateWithin s.names s.components c
      → (line : List ℕ) → Asks s line (verify goal) s → AreAccepted s (fed_back s line c)
  pub alike :
      (s m : Responder) (type : List ℕ) (goal : ClosedType) → Asks s (codes "certify " ++ type) (certify goal) m
      → Asks m (codes "verify " ++ type) (verify goal) m
