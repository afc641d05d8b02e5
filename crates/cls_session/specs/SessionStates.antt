-- internal: what a session holds after the lines that it was fed
use Rattle.std.specs.Prelude.{ℕ, ◌≡◌, List, [], length, false, Option, None, Some}
use Rattle.cls_engine.specs.declared.options.Options.{Options}
use Rattle.cls_engine.specs.Options.{AreInRange}
use Rattle.cls_repo.specs.Readings.{Reading}
use Rattle.cls_replies.specs.Responder.{Responder}
use Rattle.cls_session.specs.Repositories.{AreTaken}
use Rattle.cls_session.specs.Transcripts.{IsAnswered}

-- The options, what was read of the repository, and what answers the lines after it, if it was read whole.
pub record SessionState : Type 0 where
  pub options : Options
  pub reader : Reading
  pub responder : Option Responder

-- The session has these options and was fed these lines, and this text is what is written for them: it reads the repository, or
-- it has read it and answers by it.
pub data Stands (o : Options) (lines : List (List ℕ)) (text : List ℕ) (s : SessionState) : Type 0 where
  opening : (reading : Reading) → AreTaken lines reading → text ≡ [] → s.options ≡ o → s.reader ≡ reading → s.responder ≡ None
      → Stands o lines text s
  answering : (responder : Responder) → IsAnswered o lines text responder → s.options ≡ o → s.responder ≡ Some responder
      → Stands o lines text s

-- How many lines the session keeps count of: those of the repository, and then those of a certificate.
abbrev pub held_by : Reading → Option Responder → ℕ
held_by reading None = reading.lines
held_by reading (Some responder) = length responder.held

abbrev pub lines_of_session : SessionState → ℕ
lines_of_session s = held_by s.reader s.responder

-- What holds of each session. It goes on to read while the line `end` hasn't come.
pub record IsSession (s : SessionState) : Type 0 where
  pub in_range : AreInRange s.options
  pub unended : s.reader.ended ≡ false
