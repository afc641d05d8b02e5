-- internal: what a session's answers mean
use Rattle.std.specs.Prelude.{ℕ, ◌≡◌, List, [], ◌∷◌, ◌++◌, true, false, Option, None, Some, string_bytes}
use Rattle.cls_base.specs.Firsts.{First, IsSilent}
use Rattle.cls_engine.specs.declared.options.Options.{Options}
use Rattle.cls_repo.specs.declared.fault.FaultKind.TheVariants as kinds
use Rattle.cls_repo.specs.declared.fault.RepoFault.{RepoFault}
use Rattle.cls_repo.specs.FaultWords.{OnWords}
use Rattle.cls_repo.specs.Readings.{Reading, Takes, Refuses, closing_faults}
use Rattle.cls_replies.specs.declared.printing.Printing.{Printing}
use Rattle.cls_replies.specs.Printing.{IsPrintable, left_of}
use Rattle.cls_replies.specs.Responder.{Responder, Serves}
use Rattle.cls_session.specs.declared.session.Answer.{Answer}
use Rattle.cls_session.specs.declared.session.Answer.TheVariants as answer
use Rattle.cls_session.specs.SessionStates.{SessionState, Stands}
use Rattle.cls_session.specs.Transcripts.{refusal, IsRefused}

-- What is left of a reply, by what answers the lines after the repository. Before that there is none.
abbrev pub left_by : Option Responder → Printing → List ℕ
left_by None p = []
left_by (Some responder) p = left_of responder p

abbrev pub reply_in : SessionState → Printing → List ℕ
reply_in s p = left_by s.responder p

-- What is left of it can be printed.
abbrev pub IsPrintableBy : Option Responder → Printing → Type 0
IsPrintableBy None p = Unit {0}
IsPrintableBy (Some responder) p = IsPrintable responder p

abbrev pub IsPrintableIn : SessionState → Printing → Type 0
IsPrintableIn s p = IsPrintableBy s.responder p

abbrev pub CanPrint : SessionState → Answer → Type 0
CanPrint s (answer.Reply p) = IsPrintableIn s p
CanPrint s (answer.Refusal text) = Unit {0}

-- Whatever the options are and whatever was fed and written before, the reply goes on with it, and the session knows the
-- line from then on.
abbrev pub IsAnswerTo : SessionState → List ℕ → Answer → SessionState → Type 0
IsAnswerTo old line (answer.Reply p) new = (o : Options) (lines : List (List ℕ)) (written : List ℕ)
    → Stands o lines written old → Stands o (lines ++ line ∷ []) (written ++ reply_in new p) new
IsAnswerTo old line (answer.Refusal text) new = (o : Options) (lines : List (List ℕ)) (written : List ℕ)
    → Stands o lines written old → IsRefused (lines ++ line ∷ []) (written ++ string_bytes text)

-- The text refuses the repository for the fault, which isn't out of memory.
abbrev pub SaysFault : RepoFault → List ℕ → Type 0
SaysFault fault text = (OnWords (λ words. text ≡ refusal (fault.line, words)) fault.kind) × (fault.kind ≡ kinds.OutOfMemory → ⊥)

-- A line of the repository is taken: it isn't `end`, or it is and the repository is opened.
pub data Declares (old : SessionState) (line : List ℕ) (new : SessionState) : Type 0 where
  goes_on : Takes old.reader line new.reader → new.reader.ended ≡ false → new.options ≡ old.options → new.responder ≡ None
      → Declares old line new
  opens :
      (ended : Reading) → Takes old.reader line ended → ended.ended ≡ true → IsSilent (First (closing_faults ended))
      → (responder : Responder) → Serves old.options ended.draft responder → new.options ≡ old.options
      → new.responder ≡ Some responder → Declares old line new

-- The line is at fault, or it is `end` and the repository is.
pub data IsFaultAt (old : SessionState) (line : List ℕ) (said : ℕ × List ℕ) : Type 0 where
  of_line : Refuses old.reader line said → IsFaultAt old line said
  of_repository :
      (ended : Reading) → Takes old.reader line ended → ended.ended ≡ true → First (closing_faults ended) said
      → IsFaultAt old line said
