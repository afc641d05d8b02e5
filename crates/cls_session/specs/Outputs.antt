-- The output of a run.
use Rattle.std.specs.Prelude.{ℕ, ◌≡◌, ◌⊎◌, ◌≤◌, ◌<◌, List, [], ◌++◌, length, take, nat_lt, if◌then◌else◌, Option, Some, None, IfSome}
use Rattle.std.specs.Io.KnownBytes.{Appends}
use Rattle.cls_base.specs.Limits.{max_input_bytes, max_read_bytes}
use Rattle.cls_base.specs.Outside.{SourceSeen, SinkSeen}
use Rattle.cls_lexer.specs.Lines.{lines_of, ended_lines}
use Rattle.cls_engine.specs.declared.options.Options.{Options}
use Rattle.cls_session.specs.declared.status.Status.{Status}
use Rattle.cls_session.specs.declared.status.Status.TheVariants.{Done, Usage, Refused, ReadFault, WriteFault, NoMemory, TooLong}
use Rattle.cls_session.specs.declared.words.Command.TheVariants.{Session, Generate}
use Rattle.cls_session.specs.Commands.{Asks, AsksNothing, usage}
use Rattle.cls_session.specs.Generators.{generated_text}
use Rattle.cls_session.specs.Transcripts.{Transcript, IsRefused, Ending}

-- The lines that count: if more than `max_input_bytes` come, those that end within the first `max_input_bytes`.
abbrev pub lines_read : List ℕ → List (List ℕ)
lines_read bytes =
    if nat_lt max_input_bytes (length bytes) then ended_lines (take max_input_bytes bytes) else lines_of bytes

-- With these options and these bytes to read, a session may write this text and end with this status.
pub data SessionOutput (o : Options) (bytes text : List ℕ) (status : Status) : Type 0 where
  refused : IsRefused (lines_read bytes) text → status ≡ Refused → SessionOutput o bytes text status
  ended : length bytes ≤ max_input_bytes → Ending o (lines_of bytes) text status → SessionOutput o bytes text status
  too_long : max_input_bytes < length bytes → Transcript o (lines_read bytes) text → status ≡ TooLong
      → SessionOutput o bytes text status

-- With these words of the command line and these bytes to read, a run may write this text and end with this status. The
-- generator's text takes the place of the bytes if the words ask for it.
pub data Output (words : List (List ℕ)) (bytes text : List ℕ) (status : Status) : Type 0 where
  no_command : AsksNothing words → text ≡ usage → status ≡ Usage → Output words bytes text status
  of_session : (o : Options) → Asks words (Session o) → SessionOutput o bytes text status
      → Output words bytes text status
  of_generator : (o : Options) (n : ℕ) → Asks words (Generate o n) → SessionOutput o (generated_text n) text status
      → Output words bytes text status

-- What a session may have written when some first lines that count are answered or one of them is refused, or when the
-- output is ended.
pub data SessionText (o : Options) (bytes text : List ℕ) : Type 0 where
  after_lines : (first others : List (List ℕ)) → lines_read bytes ≡ first ++ others → Transcript o first text
      → SessionText o bytes text
  after_refusal : (first others : List (List ℕ)) → lines_read bytes ≡ first ++ others → IsRefused first text
      → SessionText o bytes text
  after_end : (status : Status) → length bytes ≤ max_input_bytes → Ending o (lines_of bytes) text status
      → SessionText o bytes text

-- What may stand written at one time or another in a run with these words over these bytes. A run that breaks off has
-- written a front of such a text.
pub data MayStand (words : List (List ℕ)) (bytes text : List ℕ) : Type 0 where
  of_usage : AsksNothing words → text ≡ usage → MayStand words bytes text
  of_text : (o : Options) → Asks words (Session o) → SessionText o bytes text → MayStand words bytes text
  of_generated_text : (o : Options) (n : ℕ) → Asks words (Generate o n) → SessionText o (generated_text n) text
      → MayStand words bytes text

-- the statuses of a run without fault and with memory
abbrev pub IsWhole : Status → Type 0
IsWhole Done = Unit {0}
IsWhole Usage = Unit {0}
IsWhole Refused = Unit {0}
IsWhole TooLong = Unit {0}
IsWhole ReadFault = ⊥
IsWhole WriteFault = ⊥
IsWhole NoMemory = ⊥

-- the statuses of a run that broke off: a read failed, a write failed, or it was out of memory
abbrev pub IsBrokenOff : Status → Type 0
IsBrokenOff Done = ⊥
IsBrokenOff Usage = ⊥
IsBrokenOff Refused = ⊥
IsBrokenOff TooLong = ⊥
IsBrokenOff ReadFault = Unit {0}
IsBrokenOff WriteFault = Unit {0}
IsBrokenOff NoMemory = Unit {0}

-- those of a run that may have broken off within a reply: a write failed, or it was out of memory
abbrev pub IsCutOff : Status → Type 0
IsCutOff Done = ⊥
IsCutOff Usage = ⊥
IsCutOff Refused = ⊥
IsCutOff TooLong = ⊥
IsCutOff ReadFault = ⊥
IsCutOff WriteFault = Unit {0}
IsCutOff NoMemory = Unit {0}

-- A text that meets P is what the sink was given.
pub record Gives (P : List ℕ → Type 0) (sink sink' : SinkSeen) : Type 0 where
  pub text : List ℕ
  pub meets : P text
  pub written : Appends sink.held sink'.held text

-- What the sink was given begins a text that meets P.
pub record GivesFront (P : List ℕ → Type 0) (sink sink' : SinkSeen) : Type 0 where
  pub front : List ℕ
  pub rest : List ℕ
  pub meets : P (front ++ rest)
  pub written : Appends sink.held sink'.held front

-- If the source tells its bytes, what the sink was given is an output for them.
abbrev pub Answers : List (List ℕ) → SourceSeen → SinkSeen → SinkSeen → Status → Type 0
Answers words source sink sink' status =
    IfSome source.left (λ bytes. Gives (λ text. Output words bytes text status) sink sink')

-- If the source tells its bytes, what the sink was given begins a text that may stand written for some first lines of
-- them.
abbrev pub BeginsAnswers : List (List ℕ) → SourceSeen → SinkSeen → SinkSeen → Type 0
BeginsAnswers words source sink sink' = IfSome source.left (λ bytes. GivesFront (MayStand words bytes) sink sink')

-- n bytes are enough for each text that P allows for the bytes that the source tells. If it tells none, they are enough
-- whatever bytes come.
abbrev pub IsEnoughRoom : (List ℕ → List ℕ → Type 0) → Option (List ℕ) → ℕ → Type 0
IsEnoughRoom P None n = (bytes text : List ℕ) → P bytes text → length text ≤ n
IsEnoughRoom P (Some bytes) n = (text : List ℕ) → P bytes text → length text ≤ n

-- The room that the sink tells is enough for each text that may stand written for some first lines of the bytes that
-- the source tells.
abbrev pub HasRoom : List (List ℕ) → SourceSeen → SinkSeen → Type 0
HasRoom words source sink = IfSome sink.room (λ n. IsEnoughRoom (MayStand words) source.left n)

-- A fact of the bytes that were left to read and those that are left now, if they are told. A source that told them
-- goes on doing so.
abbrev pub IfTold : Option (List ℕ) → Option (List ℕ) → (List ℕ → List ℕ → Type 0) → Type 0
IfTold None after P = Unit {0}
IfTold (Some bytes) None P = ⊥
IfTold (Some bytes) (Some rest) P = P bytes rest

-- What was taken of the bytes, and a text that is exactly what the lines ask for that were taken whole: no fault of the
-- repository stands in these, and no reply to one of them is missing. The text is what the sink was given.
pub record AnswersEnded (o : Options) (bytes rest : List ℕ) (sink sink' : SinkSeen) : Type 0 where
  pub taken : List ℕ
  pub text : List ℕ
  pub split : bytes ≡ taken ++ rest
  pub short : length taken ≤ max_input_bytes
  pub transcript : Transcript o (ended_lines taken) text
  pub written : Appends sink.held sink'.held text

-- If a read failed: the lines that were taken whole are answered, all of them.
abbrev pub SessionTaken : Options → SourceSeen → SourceSeen → SinkSeen → SinkSeen → Type 0
SessionTaken o source source' sink sink' =
    IfTold source.left source'.left (λ bytes rest. AnswersEnded o bytes rest sink sink')

-- The same, and the words ask for a session.
pub record AnswersTaken (words : List (List ℕ)) (source source' : SourceSeen) (sink sink' : SinkSeen) : Type 0 where
  pub options : Options
  pub asked : Asks words (Session options)
  pub answered : SessionTaken options source source' sink sink'

-- What was taken of the bytes, and that what the sink was given begins a text that may stand written for some first
-- lines of it.
pub record BeginsForTaken (words : List (List ℕ)) (bytes rest : List ℕ) (sink sink' : SinkSeen) : Type 0 where
  pub taken : List ℕ
  pub split : bytes ≡ taken ++ rest
  pub begins : GivesFront (MayStand words taken) sink sink'

-- If a read failed: what was written begins a text that may stand written for some first lines of the bytes that were
-- taken.
abbrev pub BeginsTaken : List (List ℕ) → SourceSeen → SourceSeen → SinkSeen → SinkSeen → Type 0
BeginsTaken words source source' sink sink' =
    IfTold source.left source'.left (λ bytes rest. BeginsForTaken words bytes rest sink sink')

-- Of the bytes `before` were taken and then `last`, which is what the last read gave, if that is told, or nothing. All replies
-- to the lines that end in `before` stand written, and more may follow them.
pub record AnswersBeforeLast (o : Options) (given : Option (List ℕ)) (bytes rest : List ℕ) (sink sink' : SinkSeen) : Type 0 where
  pub before : List ℕ
  pub last : List ℕ
  pub text : List ℕ
  pub more : List ℕ
  pub taken : bytes ≡ before ++ last ++ rest
  pub one_read : (last ≡ []) ⊎ IfSome given (λ read. last ≡ read)
  pub short : length last ≤ max_read_bytes
  pub transcript : Transcript o (ended_lines before) text
  pub written : Appends sink.held sink'.held (text ++ more)

-- If a session broke off: all lines that had come whole before its last read were answered. Any write may be the one that
-- fails, so a session that reads on before it has answered doesn't keep pace.
abbrev pub SessionPace : Options → SourceSeen → SourceSeen → SinkSeen → SinkSeen → Type 0
SessionPace o source source' sink sink' =
    IfTold source.left source'.left (λ bytes rest. AnswersBeforeLast o source'.last bytes rest sink sink')

-- The same of a run that was asked for a session.
abbrev pub KeepsPace : List (List ℕ) → SourceSeen → SourceSeen → SinkSeen → SinkSeen → Type 0
KeepsPace words source source' sink sink' =
    (o : Options) → Asks words (Session o) → SessionPace o source source' sink sink'

-- THE SAME OF A SESSION WITH GIVEN OPTIONS, whatever the words are

-- If the source tells its bytes, what the sink was given is what the session may write for them.
abbrev pub SessionAnswers : Options → SourceSeen → SinkSeen → SinkSeen → Status → Type 0
SessionAnswers o source sink sink' status =
    IfSome source.left (λ bytes. Gives (λ text. SessionOutput o bytes text status) sink sink')

-- If the source tells its bytes, what the sink was given begins a text that the session may have written for some first
-- lines of them.
abbrev pub SessionBegins : Options → SourceSeen → SinkSeen → SinkSeen → Type 0
SessionBegins o source sink sink' = IfSome source.left (λ bytes. GivesFront (SessionText o bytes) sink sink')

-- The room that the sink tells is enough for each text that the session may have written for some first lines of the
-- bytes that the source tells.
abbrev pub SessionRoom : Options → SourceSeen → SinkSeen → Type 0
SessionRoom o source sink = IfSome sink.room (λ n. IsEnoughRoom (SessionText o) source.left n)
