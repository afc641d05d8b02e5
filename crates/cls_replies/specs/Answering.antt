-- How a query is answered.
use Rattle.std.specs.Prelude.{ℕ, ◌≡◌, List, Some}
use Rattle.cls_base.specs.Firsts.{First, IsSilent}
use Rattle.cls_base.specs.Types.{ClosedType}
use Rattle.cls_proof.specs.declared.proof_fault.ProofFault.{ProofFault}
use Rattle.cls_proof.specs.Certificates.{Certificate}
use Rattle.cls_proof.specs.Reading.{SaysCertificate, IsProofFault}
use Rattle.cls_query.specs.Queries.{Query, verify}
use Rattle.cls_query.specs.QueryErrors.{line_errors}
use Rattle.cls_query.specs.ReadQueries.{ReadsQuery}
use Rattle.cls_engine.specs.declared.fault.EngineFault.{EngineFault}
use Rattle.cls_engine.specs.declared.verdict.Verdict.{Verdict}
use Rattle.cls_engine.specs.Verdicts.{IsVerdict}
use Rattle.cls_replies.specs.Responder.{Responder, tables_in, with_tables, with_names}
use Rattle.cls_replies.specs.Texts.{error_line, fault_words, verdict_text}
use Rattle.cls_replies.specs.Errors.{faults_of, proof_words}
use Rattle.cls_replies.specs.Replies.{Reply}

-- The line asks the query, whose names are numbered then.
abbrev pub Asks : Responder → (line : List ℕ) → Query → Responder → Type 0
Asks s line q s' = ReadsQuery (tables_in s) line q (tables_in s') × (s' ≡ with_tables s (tables_in s'))

-- The first error of the line is what is written, and the names stay.
pub record IsMisread (s : Responder) (line text : List ℕ) (s' : Responder) : Type 0 where
  pub words : List ℕ
  pub first : First (line_errors (tables_in s) line) words
  pub written : text ≡ error_line words
  pub same : s' ≡ s

-- What is written for a query that was read, and what queries are answered by after it: the first thing that the engine
-- can't do, otherwise the reply. Either leaves what it is answered by as it is.
pub data Answers (s : Responder) (q : Query) (text : List ℕ) (s' : Responder) : Type 0 where
  failed : (fault : EngineFault) → First (faults_of s q) fault → text ≡ error_line (fault_words s.names fault) → s' ≡ s
      → Answers s q text s'
  replied : IsSilent (First (faults_of s q)) → Reply s q text → s' ≡ s → Answers s q text s'

-- What is written for a line that asks, and what queries are answered by after it.
pub data Answered (s : Responder) (line text : List ℕ) (s' : Responder) : Type 0 where
  misread : IsMisread s line text s' → Answered s line text s'
  asked : (q : Query) (m : Responder) → Asks s line q m → Answers m q text s' → Answered s line text s'

-- What is written for a certificate that says whether it proves the goal.
pub data Judges (s : Responder) (goal : ClosedType) (c : Certificate) (text : List ℕ) : Type 0 where
  failed : (fault : EngineFault) → First (faults_of s (verify goal)) fault
      → text ≡ error_line (fault_words s.names fault) → Judges s goal c text
  judged : IsSilent (First (faults_of s (verify goal))) → (verdict : Verdict)
      → IsVerdict s.engine.library goal c verdict → text ≡ verdict_text verdict → Judges s goal c text

-- What is written for the lines of a certificate for the goal, whose names are numbered then, if they say one.
pub data Verifies (s : Responder) (goal : ClosedType) (certificate : List (List ℕ)) (text : List ℕ) (s' : Responder)
    : Type 0 where
  bad : (fault : ProofFault) (words : List ℕ) → IsProofFault s.components certificate fault
      → proof_words fault ≡ Some words → text ≡ error_line words → s' ≡ s → Verifies s goal certificate text s'
  read : (c : Certificate) → SaysCertificate s.names s'.names s.components certificate c → s' ≡ with_names s s'.names
      → Judges s' goal c text → Verifies s goal certificate text s'

-- What is written for a line that opens a certificate, and the lines of the certificate.
pub data Verified (s : Responder) (line : List ℕ) (certificate : List (List ℕ)) (text : List ℕ) (s' : Responder)
    : Type 0 where
  misread : IsMisread s line text s' → Verified s line certificate text s'
  asked : (goal : ClosedType) (m : Responder) → Asks s line (verify goal) m → Verifies m goal certificate text s'
      → Verified s line certificate text s'
