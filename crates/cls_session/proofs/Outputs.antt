-- How lines that were answered one after another make an output.
use Rattle.std.proofs.Common.{◌≡◌, ℕ, ◌-◌, ◌<◌, ◌≤◌, List, [], ◌∷◌, ◌++◌, length, take, refl, sym, ap, ◌∙◌, subst, inl, inr, arith, append_assoc, append-nil, length-append, Bool}
use Rattle.std.specs.Prelude.{◌⊎◌, Option, None, Some, IfSome, if◌then◌else◌}
use Rattle.std.proofs.Math.Seq.{take-append-add, take-append_seam}
use Rattle.std.proofs.lemmas.Bool.{cases_lt, le-ltb, lt-ltb}
use Rattle.std.specs.Io.KnownBytes.{Appends, Consumes}
use Rattle.cls_base.specs.Limits.{max_input_bytes, max_read_bytes}
use Rattle.cls_base.specs.Outside.{SourceSeen, SinkSeen, Holds}
use Rattle.cls_lexer.specs.Lines.{lines_of, ended_lines, HasNoFeed}
use Rattle.cls_lexer.proofs.LinePieces.{lines_of-ended_lines, lines_of-CutsLine, ended_lines-CutsLine, CutsLine-append, ended_lines-HasNoFeed}
use Rattle.cls_engine.specs.declared.options.Options.{Options}
use Rattle.cls_session.specs.declared.status.Status.{Status}
use Rattle.cls_session.specs.declared.status.Status.TheVariants.{Refused, TooLong}
use Rattle.cls_session.specs.declared.words.Command.TheVariants.{Session}
use Rattle.cls_session.specs.Commands.{Asks, AsksNothing, usage}
use Rattle.cls_session.specs.Driving.{CutsLines, Writes, WritesFront, IsWritten, IsEnded}
use Rattle.cls_session.specs.Outputs.{lines_read, SessionOutput, SessionText, after_lines, after_refusal, after_end, MayStand, of_usage, of_text, Gives, GivesFront, BeginsAnswers, IsEnoughRoom, HasRoom, IfTold, AnswersEnded, SessionTaken, AnswersTaken, BeginsForTaken, BeginsTaken, AnswersBeforeLast, SessionPace, KeepsPace}
use Rattle.cls_session.specs.Outputs as outputs
use Rattle.cls_session.specs.Transcripts.{Transcript, IsRefused, Ending}
use Rattle.cls_session.proofs.SessionStates.{IsRefused-append}
use Rattle.cls_session.proofs.Writing.{Holds-rest}

pub CutsLines-append : (text rest more : List ℕ) (lines : List (List ℕ)) → CutsLines text lines rest → CutsLines (text ++ more) lines (rest ++ more)
CutsLines-append text rest more [] e = ap (λ (x : List ℕ). x ++ more) e
CutsLines-append text rest more (l ∷ lines) (after, c, cs) = (after ++ more, CutsLine-append text l after more c, CutsLines-append after rest more lines cs)

pub lines_of-CutsLines : (text rest : List ℕ) (lines : List (List ℕ)) → CutsLines text lines rest → lines_of text ≡ lines ++ lines_of rest
lines_of-CutsLines text rest [] e = ap lines_of e
lines_of-CutsLines text rest (l ∷ lines) (after, c, cs) = lines_of-CutsLine text l after c ∙ ap (λ (xs : List (List ℕ)). l ∷ xs) (lines_of-CutsLines after rest lines cs)

pub ended_lines-CutsLines : (text rest : List ℕ) (lines : List (List ℕ)) → CutsLines text lines rest → ended_lines text ≡ lines ++ ended_lines rest
ended_lines-CutsLines text rest [] e = ap ended_lines e
ended_lines-CutsLines text rest (l ∷ lines) (after, c, cs) = ended_lines-CutsLine text l after c ∙ ap (λ (xs : List (List ℕ)). l ∷ xs) (ended_lines-CutsLines after rest lines cs)

-- with few bytes all lines count
pub lines_read-short : (bytes : List ℕ) → length bytes ≤ max_input_bytes → lines_read bytes ≡ lines_of bytes
lines_read-short bytes l = ap (λ (b : Bool). if b then ended_lines (take max_input_bytes bytes) else lines_of bytes) (le-ltb max_input_bytes (length bytes) l)

lines_read-long : (bytes : List ℕ) → max_input_bytes < length bytes → lines_read bytes ≡ ended_lines (take max_input_bytes bytes)
lines_read-long bytes l = ap (λ (b : Bool). if b then ended_lines (take max_input_bytes bytes) else lines_of bytes) (lt-ltb max_input_bytes (length bytes) l)

take-past : (n : ℕ) (front tail : List ℕ) → length front ≤ n → take n (front ++ tail) ≡ front ++ take (n - length front) tail
take-past n front tail l = subst (λ k. take k (front ++ tail) ≡ front ++ take (n - length front) tail) (omega arith) (take-append-add front tail (n - length front))

-- the lines that a short front begins with are the first that count
read_begins : (front rest tail : List ℕ) (lines : List (List ℕ)) → CutsLines front lines rest → length front ≤ max_input_bytes → (others : List (List ℕ)) × (lines_read (front ++ tail) ≡ lines ++ others)
read_begins front rest tail lines cs l =
    elim (cases_lt max_input_bytes (length (front ++ tail))) [
      | inr short ↦ (lines_of (rest ++ tail), lines_read-short (front ++ tail) (omega arith) ∙ lines_of-CutsLines (front ++ tail) (rest ++ tail) lines (CutsLines-append front rest tail lines cs))
      | inl long ↦ (let over = take (max_input_bytes - length front) tail in
          (ended_lines (rest ++ over), lines_read-long (front ++ tail) long ∙ (ap ended_lines (take-past max_input_bytes front tail l) ∙ ended_lines-CutsLines (front ++ over) (rest ++ over) lines (CutsLines-append front rest over lines cs))))
    ]

-- What the source told begins with these bytes.
abbrev pub Begins : Option (List ℕ) → List ℕ → Type 0
Begins None front = Unit {0}
Begins (Some bytes) front = (tail : List ℕ) × (bytes ≡ front ++ tail)

-- What the source told is these bytes.
abbrev pub IsWholly : Option (List ℕ) → List ℕ → Type 0
IsWholly None front = Unit {0}
IsWholly (Some bytes) front = bytes ≡ front

pub if_some : (left : Option (List ℕ)) (P : List ℕ → Type 0) → ((bytes : List ℕ) → left ≡ Some bytes → P bytes) → IfSome left P
if_some None P h = tt
if_some (Some bytes) P h = h bytes refl

-- what is known of the bytes that were consumed is told
if_told : (a b : Option (List ℕ)) (bytes : List ℕ) (P : List ℕ → List ℕ → Type 0) → Consumes a b bytes → ((all rest : List ℕ) → all ≡ bytes ++ rest → P all rest) → IfTold a b P
if_told None b bytes P c h = tt
if_told (Some x) None bytes P c h = absurd c
if_told (Some x) (Some y) bytes P c h = h x y c

-- what is told meets P
pub told : {sink sink' : SinkSeen} (P : List ℕ → List ℕ → Type 0) (source : SourceSeen) (text : List ℕ) → Writes sink sink' text
    → ((bytes : List ℕ) → source.left ≡ Some bytes → P bytes text) → IfSome source.left (λ bytes. Gives (P bytes) sink sink')
told {sink = sink} {sink' = sink'} P source text w meets =
    if_some source.left (λ bytes. Gives (P bytes) sink sink') (λ bytes e. record { text = text; meets = meets bytes e; written = w.held })

-- what is told of the front that was written begins a text that meets P
pub told_front : (P : List ℕ → List ℕ → Type 0) (sink sink' : SinkSeen) (source : SourceSeen) (front rest : List ℕ) → Appends sink.held sink'.held front
    → ((bytes : List ℕ) → source.left ≡ Some bytes → P bytes (front ++ rest)) → IfSome source.left (λ bytes. GivesFront (P bytes) sink sink')
told_front P sink sink' source front rest w meets =
    if_some source.left (λ bytes. GivesFront (P bytes) sink sink') (λ bytes e. record { front = front; rest = rest; meets = meets bytes e; written = w })

-- a front of the usage line begins what may stand if the words ask for nothing
pub usage_begins : {sink sink' : SinkSeen} (words : List (List ℕ)) (source : SourceSeen) → AsksNothing words → WritesFront sink sink' usage → BeginsAnswers words source sink sink'
usage_begins {sink = sink} {sink' = sink'} words source n f = told_front (MayStand words) sink sink' source f.front f.rest f.held (λ bytes e. of_usage n (sym f.split))

-- What was taken, and what the lines that end in it ask for.
module _ {sink sink' : SinkSeen} (o : Options) (source source' : SourceSeen) (bytes text : List ℕ)
    (consumes : Consumes source.left source'.left bytes) (t : Transcript o (ended_lines bytes) text) where
  -- it is what was written
  pub answers_ended : length bytes ≤ max_input_bytes → Writes sink sink' text → SessionTaken o source source' sink sink'
  answers_ended short w = if_told source.left source'.left bytes (λ all rest. AnswersEnded o all rest sink sink') consumes (λ all rest e.
      record { taken = bytes; text = text; split = e; short = short; transcript = t; written = w.held })

-- more was taken with the last read, and more was written
pub keeps_pace : (o : Options) (sink sink' : SinkSeen) (source source' : SourceSeen) (before last text more : List ℕ)
    → Consumes source.left source'.left (before ++ last) → (last ≡ []) ⊎ IfSome source'.last (λ read. last ≡ read)
    → length last ≤ max_read_bytes → Transcript o (ended_lines before) text → Appends sink.held sink'.held (text ++ more) → SessionPace o source source' sink sink'
keeps_pace o sink sink' source source' before last text more consumes one short t w =
    if_told source.left source'.left (before ++ last) (λ all rest. AnswersBeforeLast o source'.last all rest sink sink') consumes (λ all rest e.
    record { before = before; last = last; text = text; more = more; taken = e; one_read = one; short = short; transcript = t; written = w })

-- nothing was taken for the usage line
pub usage_keeps_pace : (words : List (List ℕ)) (source : SourceSeen) (sink sink' : SinkSeen) → AsksNothing words → KeepsPace words source source sink sink'
usage_keeps_pace words source sink sink' n = λ o asks. absurd (n (Session o) asks)

-- what was written for the lines that were taken whole keeps pace
ended_keeps_pace : (o : Options) (given bytes rest : Option (List ℕ)) (sink sink' : SinkSeen) → IfTold bytes rest (λ bytes rest. AnswersEnded o bytes rest sink sink') → IfTold bytes rest (λ bytes rest. AnswersBeforeLast o given bytes rest sink sink')
ended_keeps_pace o given None rest sink sink' a = tt
ended_keeps_pace o given (Some bytes) None sink sink' a = a
ended_keeps_pace o given (Some bytes) (Some rest) sink sink' a = record {
  before = a.taken;
  last = [];
  text = a.text;
  more = [];
  taken = a.split ∙ ap (λ (x : List ℕ). x ++ rest) (sym (append-nil a.taken));
  one_read = inl refl;
  short = omega arith;
  transcript = a.transcript;
  written = subst (λ (x : List ℕ). Appends sink.held sink'.held x) (sym (append-nil a.text)) a.written;
}

pub taken_keeps_pace : (o : Options) (source source' : SourceSeen) (sink sink' : SinkSeen) → SessionTaken o source source' sink sink' → SessionPace o source source' sink sink'
taken_keeps_pace o source source' sink sink' a = ended_keeps_pace o source'.last source.left source'.left sink sink' a

-- The source tells these bytes, or none.
abbrev pub MayTell : Option (List ℕ) → List ℕ → Type 0
MayTell None bytes = Unit {0}
MayTell (Some told) bytes = told ≡ bytes

-- bytes that it may tell
pub some_told : (left : Option (List ℕ)) → (bytes : List ℕ) × MayTell left bytes
some_told None = ([], tt)
some_told (Some told) = (told, refl)

-- they are those that were read, if all were, and begin with them
pub wholly_told : (left : Option (List ℕ)) (front : List ℕ) → IsWholly left front → (bytes : List ℕ) × MayTell left bytes × IsWholly (Some bytes) front
wholly_told None front e = (front, tt, refl)
wholly_told (Some told) front e = (told, refl, e)

pub begun_told : (left : Option (List ℕ)) (front : List ℕ) → Begins left front → (bytes : List ℕ) × MayTell left bytes × Begins (Some bytes) front
begun_told None front b = (front, tt, ([], sym (append-nil front)))
begun_told (Some told) front b = (told, refl, b)

-- n bytes are enough for a text that P allows for bytes that the source may tell
enough_for : (P : List ℕ → List ℕ → Type 0) (left : Option (List ℕ)) (n : ℕ) (bytes text : List ℕ) → IsEnoughRoom P left n → MayTell left bytes → P bytes text → length text ≤ n
enough_for P None n bytes text h t meets = h bytes text meets
enough_for P (Some told) n bytes text h t meets = h text (subst (λ (x : List ℕ). P x text) (sym t) meets)

room_for : (P : List ℕ → List ℕ → Type 0) (left : Option (List ℕ)) (room : Option ℕ) (bytes text : List ℕ) → IfSome room (λ n. IsEnoughRoom P left n) → MayTell left bytes → P bytes text → Holds room (length text)
room_for P left None bytes text h t meets = tt
room_for P left (Some n) bytes text h t meets = enough_for P left n bytes text h t meets

-- the reply to a text with which P allows it fits the room that is left
pub room_left : {sink sink' : SinkSeen} (P : List ℕ → List ℕ → Type 0) (source : SourceSeen) (written reply bytes : List ℕ) → IfSome sink.room (λ n. IsEnoughRoom P source.left n) → Writes sink sink' written
    → MayTell source.left bytes → P bytes (written ++ reply) → Holds sink'.room (length reply)
room_left {sink = sink} P source written reply bytes h w t meets = Holds-rest reply w (room_for P source.left sink.room bytes (written ++ reply) h t meets)

-- the usage line fits if the words ask for nothing
pub usage_fits : (words : List (List ℕ)) (source : SourceSeen) (sink : SinkSeen) → HasRoom words source sink → AsksNothing words → Holds sink.room (length usage)
usage_fits words source sink h asks = (let (bytes, t) = some_told source.left in room_for (MayStand words) source.left sink.room bytes usage h t (of_usage asks refl))

module _ (o : Options) (front rest text : List ℕ) (lines : List (List ℕ)) (cuts : CutsLines front lines rest) (short : length front ≤ max_input_bytes) (bytes : List ℕ) where
  -- what may stand written for the lines that the front begins with
  pub text_stands : Begins (Some bytes) front → IsWritten o lines text → SessionText o bytes text
  text_stands (tail, e) (inl t) = let (others, begun) = read_begins front rest tail lines cuts short in after_lines lines others (ap lines_read e ∙ begun) t
  text_stands (tail, e) (inr r) = let (others, begun) = read_begins front rest tail lines cuts short in after_refusal lines others (ap lines_read e ∙ begun) r

  -- the repository was refused at one of them
  pub output_refused : Begins (Some bytes) front → IsRefused lines text → SessionOutput o bytes text Refused
  output_refused (tail, e) r =
      let (others, begun) = read_begins front rest tail lines cuts short in
      outputs.refused (subst (λ (xs : List (List ℕ)). IsRefused xs text) (sym (ap lines_read e ∙ begun)) (IsRefused-append lines others text r)) refl

  -- the input is the front
  all_read : IsWholly (Some bytes) front → lines_read bytes ≡ lines ++ lines_of rest
  all_read e = ap lines_read e ∙ (lines_read-short front short ∙ lines_of-CutsLines front rest lines cuts)

  few : IsWholly (Some bytes) front → length bytes ≤ max_input_bytes
  few e = (let k = ap length e in omega arith)

  ending : (end : Status) → IsWholly (Some bytes) front → Ending o (lines ++ lines_of rest) text end → Ending o (lines_of bytes) text end
  ending end e r =
      let same : lines_of bytes ≡ lines ++ lines_of rest = ap lines_of e ∙ lines_of-CutsLines front rest lines cuts in
      subst (λ (xs : List (List ℕ)). Ending o xs text end) (sym same) r

  pub last_stands : IsWholly (Some bytes) front → IsEnded o (lines ++ lines_of rest) text → SessionText o bytes text
  last_stands e (inl (inl t)) = after_lines (lines ++ lines_of rest) [] (all_read e ∙ sym (append-nil (lines ++ lines_of rest))) t
  last_stands e (inl (inr r)) = after_refusal (lines ++ lines_of rest) [] (all_read e ∙ sym (append-nil (lines ++ lines_of rest))) r
  last_stands e (inr (end, r)) = after_end end (few e) (ending end e r)

  pub output_refused_last : IsWholly (Some bytes) front → IsRefused (lines ++ lines_of rest) text → SessionOutput o bytes text Refused
  output_refused_last e r = outputs.refused (subst (λ (xs : List (List ℕ)). IsRefused xs text) (sym (all_read e)) r) refl

  -- the same where the output is ended with the input
  pub output_ended : (end : Status) → IsWholly (Some bytes) front → Ending o (lines ++ lines_of rest) text end → SessionOutput o bytes text end
  output_ended end e r = outputs.ended (few e) (ending end e r)

  -- the input goes on after a front that is as long as may be
  pub output_too_long : (more : List ℕ) → Begins (Some bytes) (front ++ more) → length front ≡ max_input_bytes → 0 < length more → HasNoFeed rest → Transcript o lines text → SessionOutput o bytes text TooLong
  output_too_long more (tail, e) full some free t =
      let whole : bytes ≡ front ++ (more ++ tail) = e ∙ append_assoc front more tail in
      let long : max_input_bytes < length bytes = (let k = ap length whole in let a = length-append front (more ++ tail) in let b = length-append more tail in omega arith) in
      let taken : take max_input_bytes bytes ≡ front = ap (λ (x : List ℕ). take max_input_bytes x) whole ∙ subst (λ k. take k (front ++ (more ++ tail)) ≡ front) full (take-append_seam front (more ++ tail)) in
      let same : lines_read bytes ≡ lines = lines_read-long bytes long ∙ (ap ended_lines taken ∙ (ended_lines-CutsLines front rest lines cuts ∙ (ap (λ (xs : List (List ℕ)). lines ++ xs) (ended_lines-HasNoFeed rest free) ∙ append-nil lines))) in
      outputs.too_long long (subst (λ (xs : List (List ℕ)). Transcript o xs text) (sym same) t) refl

-- what was written for the lines that were taken whole may stand for what was taken
taken_begins_told : (o : Options) (words : List (List ℕ)) → Asks words (Session o) → (bytes rest : Option (List ℕ)) (sink sink' : SinkSeen) → IfTold bytes rest (λ bytes rest. AnswersEnded o bytes rest sink sink')
    → IfTold bytes rest (λ bytes rest. BeginsForTaken words bytes rest sink sink')
taken_begins_told o words asks None rest sink sink' a = tt
taken_begins_told o words asks (Some bytes) None sink sink' a = a
taken_begins_told o words asks (Some bytes) (Some rest) sink sink' a =
    let all = lines_of-ended_lines a.taken in
    let t : Transcript o (ended_lines a.taken) (a.text ++ []) = subst (λ (x : List ℕ). Transcript o (ended_lines a.taken) x) (sym (append-nil a.text)) a.transcript in
    record {
      taken = a.taken;
      split = a.split;
      begins = record { front = a.text; rest = []; meets = of_text o asks (after_lines (ended_lines a.taken) all.last (lines_read-short a.taken a.short ∙ all.joined) t); written = a.written };
    }

pub taken_begins : {words : List (List ℕ)} {source source' : SourceSeen} {sink sink' : SinkSeen} → AnswersTaken words source source' sink sink' → BeginsTaken words source source' sink sink'
taken_begins {words = words} {source = source} {source' = source'} {sink = sink} {sink' = sink'} a = taken_begins_told a.options words a.asked source.left source'.left sink sink' a.answered
