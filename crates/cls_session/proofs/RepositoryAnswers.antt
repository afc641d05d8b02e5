-- A repository with lines after it is answered to the end.
use Rattle.std.proofs.Common.{ℕ, ◌≡◌, ◌+◌, ◌<◌, ◌≤◌, List, ◌∷◌, ◌++◌, length, subst, arith}
use Rattle.cls_base.specs.Limits.{max_input_bytes}
use Rattle.cls_lexer.specs.Lines.{lines_of}
use Rattle.cls_engine.specs.declared.options.Options.{Options}
use Rattle.cls_repo.specs.Drafts.{Draft}
use Rattle.cls_session.specs.declared.status.Status.{Status}
use Rattle.cls_session.specs.declared.status.Status.TheVariants.{Done}
use Rattle.cls_session.specs.Laws.{RepositoriesAreAnswered}
use Rattle.cls_session.specs.Outputs.{lines_read}
use Rattle.cls_session.specs.Outputs as outputs
use Rattle.cls_session.specs.Repositories.{IsRepository}
use Rattle.cls_session.specs.Transcripts.{IsRefused, Ending}
use Rattle.cls_session.specs.Transcripts as transcripts
use Rattle.cls_session.proofs.OneRepository.{read_up, taken_or_read, fault_or_read}
use Rattle.cls_session.proofs.Outputs.{lines_read-short}

-- not both few bytes and many
pub few_or_many : (n : ℕ) → n ≤ max_input_bytes → max_input_bytes < n → ⊥
few_or_many n l m = omega arith

-- if few bytes come, the lines that count are all lines
pub all_lines : (bytes : List ℕ) (P : List (List ℕ) → Type 0) → length bytes ≤ max_input_bytes → P (lines_read bytes) → P (lines_of bytes)
all_lines bytes P few h = subst P (lines_read-short bytes few) h

-- A repository with lines after it has one status.
answered_done : (o : Options) (lines repository queries : List (List ℕ)) (end : List ℕ) (d : Draft) (text : List ℕ) (status : Status) → lines ≡ repository ++ end ∷ queries → IsRepository repository end d → Ending o lines text status → status ≡ Done
answered_done o lines repository queries end d text status split reads (transcripts.Ending.without_end r h p e) =
    absurd (taken_or_read lines r (length repository + 1) d h (read_up lines repository queries end d split reads))
answered_done o lines repository queries end d text status split reads (transcripts.Ending.complete s x last a v p e) = e

pub repositories_answered : RepositoriesAreAnswered
repositories_answered o bytes repository queries end d few split reads text status (outputs.SessionOutput.refused h e) =
    absurd (fault_or_read (lines_of bytes) (all_lines bytes (λ ls. IsRefused ls text) few h).said (length repository + 1) d (all_lines bytes (λ ls. IsRefused ls text) few h).fault (read_up (lines_of bytes) repository queries end d split reads))
repositories_answered o bytes repository queries end d few split reads text status (outputs.SessionOutput.ended few' h) =
    answered_done o (lines_of bytes) repository queries end d text status split reads h
repositories_answered o bytes repository queries end d few split reads text status (outputs.SessionOutput.too_long many h e) = absurd (few_or_many (length bytes) few many)
