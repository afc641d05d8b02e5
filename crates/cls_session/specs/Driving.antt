-- internal: how the lines of the input are answered one after another
use Rattle.std.specs.Prelude.{ℕ, ◌≡◌, ◌⊎◌, List, [], ◌∷◌, ◌++◌, length, Result, Ok, Err}
use Rattle.std.specs.Io.KnownBytes.{Appends}
use Rattle.cls_base.specs.Outside.{SinkSeen, Fills, HasRisen, Holds}
use Rattle.cls_lexer.specs.Lines.{CutsLine, lines_of}
use Rattle.cls_engine.specs.declared.options.Options.{Options}
use Rattle.cls_session.specs.declared.status.Status.{Status}
use Rattle.cls_session.specs.declared.driver.Stop.{Stop}
use Rattle.cls_session.specs.declared.driver.Stop.TheVariants as stops
use Rattle.cls_session.specs.SessionStates.{SessionState, Stands}
use Rattle.cls_session.specs.Transcripts.{Transcript, IsRefused, Ending}

-- The text begins with these lines, each with its line feed, and the rest follows.
abbrev pub CutsLines : List ℕ → List (List ℕ) → List ℕ → Type 0
CutsLines text [] rest = text ≡ rest
CutsLines text (line ∷ lines) rest = (after : List ℕ) × CutsLine text line after × CutsLines after lines rest

-- The text was written: the sink holds it now, and it took its room.
pub record Writes (sink sink' : SinkSeen) (text : List ℕ) : Type 0 where
  pub held : Appends sink.held sink'.held text
  pub room : Fills sink.room sink'.room (length text)

-- The text was written but for the rest, for which there is room.
pub record WritesAllBut (sink sink' : SinkSeen) (text rest : List ℕ) : Type 0 where
  pub front : List ℕ
  pub split : text ≡ front ++ rest
  pub writes : Writes sink sink' front
  pub room_left : Holds sink'.room (length rest)

-- A front of the text was written.
pub record WritesFront (sink sink' : SinkSeen) (text : List ℕ) : Type 0 where
  pub front : List ℕ
  pub rest : List ℕ
  pub split : text ≡ front ++ rest
  pub held : Appends sink.held sink'.held front

-- A front of the text was written but for what is pending of it, for which there is room.
pub record WritesFrontBut (sink sink' : SinkSeen) (text pending : List ℕ) : Type 0 where
  pub front : List ℕ
  pub rest : List ℕ
  pub split : text ≡ front ++ rest
  pub writes : WritesAllBut sink sink' front pending

-- What may stand written for the lines. The last of them may be the one at which the repository is refused.
abbrev pub IsWritten : Options → List (List ℕ) → List ℕ → Type 0
IsWritten o lines text = Transcript o lines text ⊎ IsRefused lines text

-- What may stand written for the lines if no more follow: the same, or what ends the output.
abbrev pub IsEnded : Options → List (List ℕ) → List ℕ → Type 0
IsEnded o lines text = IsWritten o lines text ⊎ ((status : Status) × Ending o lines text status)

-- ONE LINE. In each of these words the session has the options `o`, `lines` were fed to it, and `written` is what was
-- written for them. The reply goes on with it.

-- The line was answered.
pub record AnswersLine (sink sink' : SinkSeen) (session session' : SessionState) (line : List ℕ) : Type 0 where
  pub reply : (o : Options) (lines : List (List ℕ)) (written : List ℕ) → Stands o lines written session
      → (reply : List ℕ) × Stands o (lines ++ line ∷ []) (written ++ reply) session' × Writes sink sink' reply

-- The line was refused, and the refusal was written.
pub record RefusesLine (sink sink' : SinkSeen) (session : SessionState) (line : List ℕ) : Type 0 where
  pub reply : (o : Options) (lines : List (List ℕ)) (written : List ℕ) → Stands o lines written session
      → (reply : List ℕ) × IsRefused (lines ++ line ∷ []) (written ++ reply) × Writes sink sink' reply

-- The run stopped before the line was answered or refused: nothing was written for it, or what was written begins what
-- may stand written for it.
pub data BreaksLine (sink sink' : SinkSeen) (session : SessionState) (line : List ℕ) : Type 0 where
  before_line : Writes sink sink' [] → BreaksLine sink sink' session line
  within_line : ((o : Options) (lines : List (List ℕ)) (written : List ℕ) → Stands o lines written session
      → (reply : List ℕ) × IsWritten o (lines ++ line ∷ []) (written ++ reply) × WritesFront sink sink' reply)
      → BreaksLine sink sink' session line

-- The room, if it is told, is enough for whatever is to be written for the line.
pub record FitsLine (sink : SinkSeen) (session : SessionState) (line : List ℕ) : Type 0 where
  pub options : Options
  pub lines : List (List ℕ)
  pub written : List ℕ
  pub stands : Stands options lines written session
  pub fits : (reply : List ℕ) → IsWritten options (lines ++ line ∷ []) (written ++ reply)
      → Holds sink.room (length reply)

-- THE LINES THAT END IN A TEXT, of which the rest is without a line feed.

-- They were answered.
pub record AnswersLines (sink sink' : SinkSeen) (session session' : SessionState) (text rest : List ℕ) : Type 0 where
  pub reply : (o : Options) (lines : List (List ℕ)) (written : List ℕ) → Stands o lines written session
      → (more : List (List ℕ)) × (reply : List ℕ) × CutsLines text more rest
      × Stands o (lines ++ more) (written ++ reply) session' × Writes sink sink' reply

-- One of them was refused, and all replies up to the refusal were written.
pub record RefusesLines (sink sink' : SinkSeen) (session : SessionState) (text : List ℕ) : Type 0 where
  pub reply : (o : Options) (lines : List (List ℕ)) (written : List ℕ) → Stands o lines written session
      → (more : List (List ℕ)) × (rest reply : List ℕ) × CutsLines text more rest
      × IsRefused (lines ++ more) (written ++ reply) × Writes sink sink' reply

-- The run stopped at one of them, or between two: what was written begins what may stand written for some first ones.
pub record BreaksLines (sink sink' : SinkSeen) (session : SessionState) (text : List ℕ) : Type 0 where
  pub reply : (o : Options) (lines : List (List ℕ)) (written : List ℕ) → Stands o lines written session
      → (more : List (List ℕ)) × (rest reply : List ℕ) × CutsLines text more rest
      × IsWritten o (lines ++ more) (written ++ reply) × WritesFront sink sink' reply

-- The room, if it is told, is enough for whatever is to be written for some first ones.
pub record FitsLines (sink : SinkSeen) (session : SessionState) (text : List ℕ) : Type 0 where
  pub options : Options
  pub lines : List (List ℕ)
  pub written : List ℕ
  pub stands : Stands options lines written session
  pub fits : (more : List (List ℕ)) (rest reply : List ℕ) → CutsLines text more rest
      → IsWritten options (lines ++ more) (written ++ reply) → Holds sink.room (length reply)

-- THE SAME LINES WHILE REPLIES ARE PENDING. All that is to be written for them was written, but for what is pending.

-- They were answered.
pub record AnswersPending (sink sink' : SinkSeen) (session session' : SessionState) (text rest pending : List ℕ)
    : Type 0 where
  pub reply : (o : Options) (lines : List (List ℕ)) (written : List ℕ) → Stands o lines written session
      → (more : List (List ℕ)) × (reply : List ℕ) × CutsLines text more rest
      × Stands o (lines ++ more) (written ++ reply) session' × WritesAllBut sink sink' reply pending

-- One of them was refused.
pub record RefusesPending (sink sink' : SinkSeen) (session : SessionState) (text pending : List ℕ) : Type 0 where
  pub reply : (o : Options) (lines : List (List ℕ)) (written : List ℕ) → Stands o lines written session
      → (more : List (List ℕ)) × (rest reply : List ℕ) × CutsLines text more rest
      × IsRefused (lines ++ more) (written ++ reply) × WritesAllBut sink sink' reply pending

-- The run stopped at one of them, or between two: what begins what may stand written for some first ones was written, but
-- for what is pending.
pub record LeavesPending (sink sink' : SinkSeen) (session : SessionState) (text pending : List ℕ) : Type 0 where
  pub reply : (o : Options) (lines : List (List ℕ)) (written : List ℕ) → Stands o lines written session
      → (more : List (List ℕ)) × (rest reply : List ℕ) × CutsLines text more rest
      × IsWritten o (lines ++ more) (written ++ reply) × WritesFrontBut sink sink' reply pending

-- THE LINES OF A TEXT THAT ENDS THE INPUT.

-- They were answered.
pub record AnswersLast (sink sink' : SinkSeen) (session session' : SessionState) (text : List ℕ) : Type 0 where
  pub reply : (o : Options) (lines : List (List ℕ)) (written : List ℕ) → Stands o lines written session
      → (reply : List ℕ) × Stands o (lines ++ lines_of text) (written ++ reply) session' × Writes sink sink' reply

-- One of them was refused.
pub record RefusesLast (sink sink' : SinkSeen) (session : SessionState) (text : List ℕ) : Type 0 where
  pub reply : (o : Options) (lines : List (List ℕ)) (written : List ℕ) → Stands o lines written session
      → (reply : List ℕ) × IsRefused (lines ++ lines_of text) (written ++ reply) × Writes sink sink' reply

-- They were answered, and the output was ended with this status.
pub record EndsOutput (sink sink' : SinkSeen) (session : SessionState) (text : List ℕ) (status : Status) : Type 0 where
  pub reply : (o : Options) (lines : List (List ℕ)) (written : List ℕ) → Stands o lines written session
      → (reply : List ℕ) × Ending o (lines ++ lines_of text) (written ++ reply) status × Writes sink sink' reply

-- The run stopped at one of them, or at the end: nothing was written for them, or what was written begins what may
-- stand written for all of them.
pub data BreaksLast (sink sink' : SinkSeen) (session : SessionState) (text : List ℕ) : Type 0 where
  before_last : Writes sink sink' [] → BreaksLast sink sink' session text
  within_last : ((o : Options) (lines : List (List ℕ)) (written : List ℕ) → Stands o lines written session
      → (reply : List ℕ) × IsEnded o (lines ++ lines_of text) (written ++ reply) × WritesFront sink sink' reply)
      → BreaksLast sink sink' session text

-- The room, if it is told, is enough for whatever is to be written for them, the end of the output too.
pub record FitsLast (sink : SinkSeen) (session : SessionState) (text : List ℕ) : Type 0 where
  pub options : Options
  pub lines : List (List ℕ)
  pub written : List ℕ
  pub stands : Stands options lines written session
  pub fits : (reply : List ℕ) → IsEnded options (lines ++ lines_of text) (written ++ reply)
      → Holds sink.room (length reply)

-- A fact for each way in which a step ends: it went well, the repository was refused, or the step broke off at a failed
-- write or out of memory.
abbrev pub MatchStop : {A : Type 0} → Result A Stop → (A → Type 0) → Type 0 → Type 0 → Type 0
MatchStop (Ok a) Well Refuses Breaks = Well a
MatchStop (Err stops.Refused) Well Refuses Breaks = Refuses
MatchStop (Err stops.WriteFault) Well Refuses Breaks = Breaks
MatchStop (Err stops.NoMemory) Well Refuses Breaks = Breaks

-- The same, with a fact for a failed write and another one for out of memory.
abbrev pub MatchEachStop : {A : Type 0} → Result A Stop → (A → Type 0) → Type 0 → Type 0 → Type 0 → Type 0
MatchEachStop (Ok a) Well Refuses Fails Leaves = Well a
MatchEachStop (Err stops.Refused) Well Refuses Fails Leaves = Refuses
MatchEachStop (Err stops.WriteFault) Well Refuses Fails Leaves = Fails
MatchEachStop (Err stops.NoMemory) Well Refuses Fails Leaves = Leaves

-- The count of the sink's faults rose if a write failed, and is the same otherwise.
abbrev pub CountsFaults : {A : Type 0} → Result A Stop → SinkSeen → SinkSeen → Type 0
CountsFaults (Ok a) sink sink' = sink'.faults ≡ sink.faults
CountsFaults (Err stops.Refused) sink sink' = sink'.faults ≡ sink.faults
CountsFaults (Err stops.WriteFault) sink sink' = HasRisen sink.faults sink'.faults
CountsFaults (Err stops.NoMemory) sink sink' = sink'.faults ≡ sink.faults

-- WHILE A REPLY IS PRINTED. A part of the text was written but for what is pending, and the rest isn't printed.
pub record PutsPart (sink sink' : SinkSeen) (text pending left : List ℕ) : Type 0 where
  pub part : List ℕ
  pub split : text ≡ part ++ left
  pub writes : WritesAllBut sink sink' part pending

-- A part of the text was written so far.
pub record WritesPart (sink sink' : SinkSeen) (text left : List ℕ) : Type 0 where
  pub part : List ℕ
  pub split : text ≡ part ++ left
  pub writes : Writes sink sink' part
