-- How the first error of a line, or of the lines of a certificate, makes what is written.
use Rattle.std.proofs.Common.{◌≡◌, ℕ, List}
use Rattle.std.specs.Prelude.{Option, None, Some, IfSome}
use Rattle.std.specs.Option.{option_map}
use Rattle.cls_base.specs.Firsts.{First}
use Rattle.cls_base.specs.Types.{ClosedType}
use Rattle.cls_proof.specs.declared.proof_fault.ProofFault.{ProofFault}
use Rattle.cls_proof.specs.Reading.{IsProofFault}
use Rattle.cls_query.specs.QueryErrors.{line_errors}
use Rattle.cls_replies.specs.Responder.{Responder, tables_in}
use Rattle.cls_replies.specs.Errors.{proof_words}
use Rattle.cls_replies.specs.Texts.{error_line}
use Rattle.cls_replies.specs.Answering.{IsMisread, Verifies}
use Rattle.cls_replies.specs.Answering as answering

-- The line has an error.
pub misreads : (s m : Responder) (line text : List ℕ) (o : Option (List ℕ)) → IfSome o (λ words. First (line_errors (tables_in s) line) words) → option_map error_line o ≡ Some text → m ≡ s → IsMisread s line text m
misreads s m line text None h e same = let k : None ≡ Some text = e in absurd (cc)
misreads s m line text (Some words) h e same =
    let k : Some (error_line words) ≡ Some text = e in
    record { words = words; first = h; written = (let t : text ≡ error_line words = cc in t); same = same }

-- The lines of a certificate are bad.
pub bads : (m s' : Responder) (goal : ClosedType) (certificate : List (List ℕ)) (text : List ℕ) (fault : ProofFault) (o : Option (List ℕ)) → proof_words fault ≡ o → IsProofFault m.components certificate fault → option_map error_line o ≡ Some text → s' ≡ m → Verifies m goal certificate text s'
bads m s' goal certificate text fault None w h e same = let k : None ≡ Some text = e in absurd (cc)
bads m s' goal certificate text fault (Some words) w h e same =
    let k : Some (error_line words) ≡ Some text = e in
    answering.Verifies.bad fault words h w (let t : text ≡ error_line words = cc in t) same
