-- How the input is answered while it comes.
use Rattle.std.proofs.Common.{◌≡◌, ℕ, length-take-le, ◌+◌, ◌<◌, ◌≤◌, List, [], ◌++◌, length, take, drop, refl, sym, ap, ◌∙◌, subst, inl, inr, arith, append_assoc, append-nil, length-append, take-append-drop}
use Rattle.std.specs.Prelude.{◌⊎◌, IfSome, Option, None, Some, Err}
use Rattle.std.specs.Io.KnownBytes.{Appends, Consumes, Keeps, IsAtEnd}
use Rattle.std.proofs.lemmas.Option.{IfSome_then}
use Rattle.std.proofs.KnownBytes.{Appends-trans, Consumes-nil, Consumes-trans, Consumes-kept}
use Rattle.cls_base.specs.Limits.{max_input_bytes, max_read_bytes}
use Rattle.cls_base.specs.Outside.{SourceSeen, SinkSeen}
use Rattle.cls_lexer.specs.Lines.{HasNoFeed, lines_of, ended_lines}
use Rattle.cls_lexer.proofs.LinePieces.{ended_lines-HasNoFeed}
use Rattle.cls_engine.specs.declared.options.Options.{Options}
use Rattle.cls_session.specs.declared.driver.Stop.{Stop}
use Rattle.cls_session.specs.declared.driver.Stop.TheVariants as stops
use Rattle.cls_session.specs.declared.status.Status.{Status}
use Rattle.cls_session.specs.declared.status.Status.TheVariants as status
use Rattle.cls_session.specs.Driving.{CutsLines, Writes, FitsLines, FitsLast, AnswersLines, RefusesLines, BreaksLines, RefusesLast, BreaksLast, before_last, within_last, IsWritten, IsEnded, EndsOutput, MatchStop}
use Rattle.cls_session.specs.Outputs.{SessionOutput, SessionText, IsWhole, IsCutOff, IsBrokenOff, SessionAnswers, SessionBegins, SessionTaken, SessionPace, SessionRoom}
use Rattle.cls_session.specs.SessionStates.{SessionState, Stands}
use Rattle.cls_session.specs.Stops.{status_of}
use Rattle.cls_session.specs.Transcripts.{Transcript, IsRefused, Ending, without_end, complete}
use Rattle.cls_session.proofs.Driving.{CutsLines-trans}
use Rattle.cls_session.proofs.Outputs.{Begins, IsWholly, CutsLines-append, ended_lines-CutsLines, told, told_front, answers_ended, keeps_pace, wholly_told, begun_told, room_left, text_stands, last_stands, output_refused, output_refused_last, output_ended, output_too_long}
use Rattle.cls_session.proofs.SessionStates.{Stands-transcript}
use Rattle.cls_session.proofs.Writing.{Writes-none, Writes-trans}

-- So many bytes were read: the lines that end in them were answered, and the reader holds the rest.
pub record IsUnderWay (o : Options) (source source' : SourceSeen) (sink sink' : SinkSeen) (session : SessionState) (reader : List ℕ) (taken : ℕ) : Type 0 where
  pub bytes : List ℕ
  pub lines : List (List ℕ)
  pub written : List ℕ
  pub count : length bytes ≡ taken
  pub consumes : Consumes source.left source'.left bytes
  pub cuts : CutsLines bytes lines reader
  pub no_feed : HasNoFeed reader
  pub stands : Stands o lines written session
  pub writes : Writes sink sink' written

Consumes-begins : (a b : Option (List ℕ)) (front : List ℕ) → Consumes a b front → Begins a front
Consumes-begins None b front p = tt
Consumes-begins (Some x) None front p = absurd p
Consumes-begins (Some x) (Some y) front p = (y, p)

Consumes-wholly : (a b : Option (List ℕ)) (front : List ℕ) → Consumes a b front → IsAtEnd b → IsWholly a front
Consumes-wholly None b front p e = tt
Consumes-wholly (Some x) None front p e = absurd p
Consumes-wholly (Some x) (Some y) front p e = p ∙ (ap (λ (t : List ℕ). front ++ t) e ∙ append-nil front)

Begins-front : (a : Option (List ℕ)) (front more : List ℕ) → Begins a (front ++ more) → Begins a front
Begins-front None front more b = tt
Begins-front (Some x) front more (tail, e) = (more ++ tail, e ∙ append_assoc front more tail)

-- nothing was read
pub none_read : (o : Options) (source : SourceSeen) (sink : SinkSeen) (session : SessionState) (reader : List ℕ) → Stands o [] [] session → reader ≡ [] → IsUnderWay o source source sink sink session reader 0
none_read o source sink session reader s e = record {
  bytes = [];
  lines = [];
  written = [];
  count = refl;
  consumes = Consumes-nil source.left;
  cuts = sym e;
  no_feed = subst (λ (x : List ℕ). HasNoFeed x) (sym e) tt;
  stands = s;
  writes = Writes-none sink;
}

-- the end of the input was read
pub none_more : {o : Options} {source source' : SourceSeen} {sink sink' : SinkSeen} {session : SessionState} {reader : List ℕ} {taken : ℕ} (source'' : SourceSeen) (count : ℕ) (buffer : List ℕ)
    → IsUnderWay o source source' sink sink' session reader taken → count ≡ 0 → Consumes source'.left source''.left (take count buffer) → IsUnderWay o source source'' sink sink' session reader taken
none_more {source = source} {source' = source'} source'' count buffer u none consumes = record {
  bytes = u.bytes;
  lines = u.lines;
  written = u.written;
  count = u.count;
  consumes = subst (λ (x : List ℕ). Consumes source.left source''.left x) (append-nil u.bytes)
      (Consumes-trans source.left source'.left source''.left u.bytes [] u.consumes (subst (λ k. Consumes source'.left source''.left (take k buffer)) none consumes));
  cuts = u.cuts;
  no_feed = u.no_feed;
  stands = u.stands;
  writes = u.writes;
}

-- A piece was read, and bytes that are too many. The last read gave both, if that is told.
pub record IsPiece (source source' : SourceSeen) (piece over : List ℕ) (count : ℕ) : Type 0 where
  pub given : IfSome source'.last (λ read. piece ++ over ≡ read)
  pub consumes : Consumes source.left source'.left (piece ++ over)
  pub lengths : length piece + length over ≡ count

-- what was read is cut into the two
pub cut_piece : (source source' : SourceSeen) (buffer piece over : List ℕ) (count place : ℕ) → piece ≡ take place (take count buffer) → over ≡ drop place (take count buffer)
    → Consumes source.left source'.left (take count buffer) → IfSome source'.last (λ read. read ≡ take count buffer) → count ≤ length buffer → IsPiece source source' piece over count
cut_piece source source' buffer piece over count place front back consumes last within =
    let joined : piece ++ over ≡ take count buffer = (λ i. front i ++ back i) ∙ take-append-drop place (take count buffer) in
    record {
      given = IfSome_then source'.last {P = λ read. read ≡ take count buffer} {Q = λ read. piece ++ over ≡ read} last (λ read e. joined ∙ sym e);
      consumes = subst (λ (x : List ℕ). Consumes source.left source'.left x) (sym joined) consumes;
      lengths = sym (length-append piece over) ∙ (ap length joined ∙ length-take-le count buffer within);
    }

-- if a run stops early, only a refusal is whole
stopped : (A : Type 0) (stop : Stop) (end : Status) (Well : A → Type 0) (Refuses Breaks : Type 0) (Claim : Status → Type 0)
    → MatchStop {A = A} (Err stop) Well Refuses Breaks → end ≡ status_of stop → (Refuses → Claim status.Refused) → IsWhole end → Claim end
stopped A stops.Refused end Well Refuses Breaks Claim c e f w = subst Claim (sym e) (f c)
stopped A stops.WriteFault end Well Refuses Breaks Claim c e f w = absurd (subst IsWhole e w)
stopped A stops.NoMemory end Well Refuses Breaks Claim c e f w = absurd (subst IsWhole e w)

-- and otherwise it was cut off
cut_off : (A : Type 0) (stop : Stop) (end : Status) (Well : A → Type 0) (Refuses Breaks Claim : Type 0)
    → MatchStop {A = A} (Err stop) Well Refuses Breaks → end ≡ status_of stop → (Breaks → Claim) → IsCutOff end → Claim
cut_off A stops.Refused end Well Refuses Breaks Claim c e f w = absurd (subst IsCutOff e w)
cut_off A stops.WriteFault end Well Refuses Breaks Claim c e f w = f c
cut_off A stops.NoMemory end Well Refuses Breaks Claim c e f w = f c

-- and broke off
broken_off : (A : Type 0) (stop : Stop) (end : Status) (Well : A → Type 0) (Refuses Breaks Claim : Type 0)
    → MatchStop {A = A} (Err stop) Well Refuses Breaks → end ≡ status_of stop → (Breaks → Claim) → IsBrokenOff end → Claim
broken_off A stops.Refused end Well Refuses Breaks Claim c e f w = absurd (subst IsBrokenOff e w)
broken_off A stops.WriteFault end Well Refuses Breaks Claim c e f w = f c
broken_off A stops.NoMemory end Well Refuses Breaks Claim c e f w = f c

-- the statuses that the end of the input gives
abbrev pub IsEndStatus : Status → Type 0
IsEndStatus end = (end ≡ status.Done) ⊎ (end ≡ status.Refused)

pub end_is_whole : (end : Status) → IsEndStatus end → IsWhole end
end_is_whole end (inl e) = subst IsWhole (sym e) tt
end_is_whole end (inr e) = subst IsWhole (sym e) tt

done_differs : status.Done ≡ status.Usage → ⊥
done_differs e = cc

refused_differs : status.Refused ≡ status.Usage → ⊥
refused_differs e = cc

pub end_is_not_cut_off : (end : Status) → IsEndStatus end → IsCutOff end → ⊥
end_is_not_cut_off end (inl e) c = subst IsCutOff e c
end_is_not_cut_off end (inr e) c = subst IsCutOff e c

pub end_is_not_broken_off : (end : Status) → IsEndStatus end → IsBrokenOff end → ⊥
end_is_not_broken_off end (inl e) c = subst IsBrokenOff e c
end_is_not_broken_off end (inr e) c = subst IsBrokenOff e c

pub end_is_no_usage : (end : Status) → IsEndStatus end → end ≡ status.Usage → ⊥
end_is_no_usage end (inl e) u = done_differs (sym e ∙ u)
end_is_no_usage end (inr e) u = refused_differs (sym e ∙ u)

Ending-status : (o : Options) (lines : List (List ℕ)) (text : List ℕ) (end : Status) → Ending o lines text end → IsEndStatus end
Ending-status o lines text end (without_end r a t s) = inr s
Ending-status o lines text end (complete v replies last a e t s) = inl s

-- bytes that are the whole begin it
begins_wholly : (front bytes : List ℕ) → IsWholly (Some bytes) front → Begins (Some bytes) front
begins_wholly front bytes e = ([], e ∙ sym (append-nil front))

-- The input is read, and so many bytes of it were taken.
module _ {o : Options} {source source' : SourceSeen} {sink sink' : SinkSeen} {session : SessionState} {reader : List ℕ} {taken : ℕ}
    (u : IsUnderWay o source source' sink sink' session reader taken) where
  -- the lines that end in the bytes are those that were answered
  all_ended : ended_lines u.bytes ≡ u.lines
  all_ended = ended_lines-CutsLines u.bytes reader u.lines u.cuts ∙ (ap (λ (xs : List (List ℕ)). u.lines ++ xs) (ended_lines-HasNoFeed reader u.no_feed) ∙ append-nil u.lines)

  transcript : Transcript o (ended_lines u.bytes) u.written
  transcript = subst (λ (xs : List (List ℕ)). Transcript o xs u.written) (sym all_ended) (Stands-transcript o u.lines u.written session u.stands)

  pub end_status : {sink'' : SinkSeen} {end : Status} → EndsOutput sink' sink'' session reader end → IsEndStatus end
  end_status {end = end} h =
      let (reply, ends, writes) = h.reply o u.lines u.written u.stands in
      Ending-status o (u.lines ++ lines_of reader) (u.written ++ reply) end ends

  -- a read failed
  pub answers_taken : (source'' : SourceSeen) → taken ≤ max_input_bytes → Keeps source'.left source''.left → SessionTaken o source source'' sink sink'
  answers_taken source'' short keeps =
      answers_ended o source source'' u.bytes u.written (Consumes-kept source.left source'.left source''.left u.bytes u.consumes keeps) transcript (let k = u.count in omega arith) u.writes

  -- The end of the input was reached.
  module _ (short : taken ≤ max_input_bytes) (at_end : IsAtEnd source'.left) where
    wholly : (bytes : List ℕ) → source.left ≡ Some bytes → IsWholly (Some bytes) u.bytes
    wholly bytes e = subst (λ (x : Option (List ℕ)). IsWholly x u.bytes) e (Consumes-wholly source.left source'.left u.bytes u.consumes at_end)

    few : length u.bytes ≤ max_input_bytes
    few = (let k = u.count in omega arith)

    refused_output : (reply bytes : List ℕ) → source.left ≡ Some bytes → IsRefused (u.lines ++ lines_of reader) (u.written ++ reply) → SessionOutput o bytes (u.written ++ reply) status.Refused
    refused_output reply bytes e r = output_refused_last o u.bytes reader (u.written ++ reply) u.lines u.cuts few bytes (wholly bytes e) r

    ended_output : (reply : List ℕ) (end : Status) (bytes : List ℕ) → source.left ≡ Some bytes → Ending o (u.lines ++ lines_of reader) (u.written ++ reply) end → SessionOutput o bytes (u.written ++ reply) end
    ended_output reply end bytes e r = output_ended o u.bytes reader (u.written ++ reply) u.lines u.cuts few bytes end (wholly bytes e) r

    -- what stands written at the end of the input
    last_text : (text bytes : List ℕ) → source.left ≡ Some bytes → IsEnded o (u.lines ++ lines_of reader) text → SessionText o bytes text
    last_text text bytes e w = last_stands o u.bytes reader text u.lines u.cuts few bytes (wholly bytes e) w

    -- the room is enough for it
    pub last_has_room : SessionRoom o source sink → FitsLast sink' session reader
    last_has_room h = record {
      options = o;
      lines = u.lines;
      written = u.written;
      stands = u.stands;
      fits = λ reply w.
          let (bytes, t, e) = wholly_told source.left u.bytes (Consumes-wholly source.left source'.left u.bytes u.consumes at_end) in
          room_left (SessionText o) source u.written reply bytes h u.writes t (last_stands o u.bytes reader (u.written ++ reply) u.lines u.cuts few bytes e w);
    }

    -- if the last line is answered the output is complete
    pub answers_end : {sink'' : SinkSeen} {end : Status} → EndsOutput sink' sink'' session reader end → SessionAnswers o source sink sink'' end
    answers_end {end = end} h =
        let (reply, ends, writes) = h.reply o u.lines u.written u.stands in
        told (λ bytes text. SessionOutput o bytes text end) source (u.written ++ reply) (Writes-trans u.writes writes) (λ bytes e. ended_output reply end bytes e ends)

    answers_last_refused : {sink'' : SinkSeen} → RefusesLast sink' sink'' session reader → SessionAnswers o source sink sink'' status.Refused
    answers_last_refused h =
        let (reply, refused, writes) = h.reply o u.lines u.written u.stands in
        told (λ bytes text. SessionOutput o bytes text status.Refused) source (u.written ++ reply) (Writes-trans u.writes writes) (λ bytes e. refused_output reply bytes e refused)

    -- what was written for the lines before, and no more, may stand
    lines_text : (bytes : List ℕ) → source.left ≡ Some bytes → SessionText o bytes (u.written ++ [])
    lines_text bytes e =
        let w : IsWritten o u.lines (u.written ++ []) = inl (subst (λ (x : List ℕ). Transcript o u.lines x) (sym (append-nil u.written)) (Stands-transcript o u.lines u.written session u.stands)) in
        text_stands o u.bytes reader (u.written ++ []) u.lines u.cuts few bytes (begins_wholly u.bytes bytes (wholly bytes e)) w

    begins_last : {sink'' : SinkSeen} → BreaksLast sink' sink'' session reader → SessionBegins o source sink sink''
    begins_last {sink'' = sink''} (before_last none) =
        let w = Writes-trans u.writes none in
        told_front (SessionText o) sink sink'' source u.written [] (subst (λ (x : List ℕ). Appends sink.held sink''.held x) (append-nil u.written) w.held) lines_text
    begins_last {sink'' = sink''} (within_last h) =
        let (reply, ended, f) = h o u.lines u.written u.stands in
        told_front (SessionText o) sink sink'' source (u.written ++ f.front) f.rest (Appends-trans sink.held sink'.held sink''.held u.written f.front u.writes.held f.held)
        (λ bytes e. subst (λ (x : List ℕ). SessionText o bytes x) (ap (λ (x : List ℕ). u.written ++ x) f.split ∙ sym (append_assoc u.written f.front f.rest)) (last_text (u.written ++ reply) bytes e ended))

    -- more than what was written for the lines before, and all bytes
    pace : (sink'' : SinkSeen) (more : List ℕ) → Appends sink.held sink''.held (u.written ++ more) → SessionPace o source source' sink sink''
    pace sink'' more w =
        keeps_pace o sink sink'' source source' u.bytes [] u.written more (subst (λ (x : List ℕ). Consumes source.left source'.left x) (sym (append-nil u.bytes)) u.consumes) (inl refl) (omega arith) transcript w

    last_keeps_pace : {sink'' : SinkSeen} → BreaksLast sink' sink'' session reader → SessionPace o source source' sink sink''
    last_keeps_pace {sink'' = sink''} (before_last none) = (let w = Writes-trans u.writes none in pace sink'' [] w.held)
    last_keeps_pace {sink'' = sink''} (within_last h) =
        let (reply, ended, f) = h o u.lines u.written u.stands in
        pace sink'' f.front (Appends-trans sink.held sink'.held sink''.held u.written f.front u.writes.held f.held)

    -- The last line stopped the run.
    module _ (sink'' : SinkSeen) (stop : Stop) (end : Status)
        (h : MatchStop {A = Status} (Err stop) (EndsOutput sink' sink'' session reader) (RefusesLast sink' sink'' session reader) (BreaksLast sink' sink'' session reader)) (is : end ≡ status_of stop) where
      -- what was written is an output if anything was refused
      pub answers_last_stopped : IsWhole end → SessionAnswers o source sink sink'' end
      answers_last_stopped = stopped Status stop end (EndsOutput sink' sink'' session reader) (RefusesLast sink' sink'' session reader) (BreaksLast sink' sink'' session reader)
          (λ x. SessionAnswers o source sink sink'' x) h is answers_last_refused

      -- otherwise it begins one
      pub begins_last_stopped : IsCutOff end → SessionBegins o source sink sink''
      begins_last_stopped = cut_off Status stop end (EndsOutput sink' sink'' session reader) (RefusesLast sink' sink'' session reader) (BreaksLast sink' sink'' session reader)
          (SessionBegins o source sink sink'') h is begins_last

      -- and all lines that came whole were answered
      pub last_stopped_keeps_pace : IsBrokenOff end → SessionPace o source source' sink sink''
      last_stopped_keeps_pace = broken_off Status stop end (EndsOutput sink' sink'' session reader) (RefusesLast sink' sink'' session reader) (BreaksLast sink' sink'' session reader)
          (SessionPace o source source' sink sink'') h is last_keeps_pace

  -- A further piece was read, and bytes that are too many.
  module _ {source'' : SourceSeen} {piece over : List ℕ} {count : ℕ} (p : IsPiece source' source'' piece over count) (short : taken + length piece ≤ max_input_bytes) where
    read : Consumes source.left source''.left ((u.bytes ++ piece) ++ over)
    read = subst (λ (x : List ℕ). Consumes source.left source''.left x) (sym (append_assoc u.bytes piece over)) (Consumes-trans source.left source'.left source''.left u.bytes (piece ++ over) u.consumes p.consumes)

    begins_over : (bytes : List ℕ) → source.left ≡ Some bytes → Begins (Some bytes) ((u.bytes ++ piece) ++ over)
    begins_over bytes e = subst (λ (x : Option (List ℕ)). Begins x ((u.bytes ++ piece) ++ over)) e (Consumes-begins source.left source''.left ((u.bytes ++ piece) ++ over) read)

    begins : (bytes : List ℕ) → source.left ≡ Some bytes → Begins (Some bytes) (u.bytes ++ piece)
    begins bytes e = Begins-front (Some bytes) (u.bytes ++ piece) over (begins_over bytes e)

    few_bytes : length (u.bytes ++ piece) ≤ max_input_bytes
    few_bytes = (let k = u.count in let a = length-append u.bytes piece in omega arith)

    cuts_on : (more : List (List ℕ)) (rest : List ℕ) → CutsLines (reader ++ piece) more rest → CutsLines (u.bytes ++ piece) (u.lines ++ more) rest
    cuts_on more rest cs = CutsLines-trans (u.bytes ++ piece) (reader ++ piece) rest u.lines more (CutsLines-append u.bytes reader piece u.lines u.cuts) cs

    -- what stands written for lines of the piece
    piece_text : (more : List (List ℕ)) (rest text bytes : List ℕ) → CutsLines (reader ++ piece) more rest → source.left ≡ Some bytes → IsWritten o (u.lines ++ more) text → SessionText o bytes text
    piece_text more rest text bytes cs e w = text_stands o (u.bytes ++ piece) rest text (u.lines ++ more) (cuts_on more rest cs) few_bytes bytes (begins bytes e) w

    -- the room is enough for it
    pub piece_has_room : SessionRoom o source sink → FitsLines sink' session (reader ++ piece)
    piece_has_room h = record {
      options = o;
      lines = u.lines;
      written = u.written;
      stands = u.stands;
      fits = λ more rest reply cs w.
          let (bytes, t, b) = begun_told source.left (u.bytes ++ piece) (Begins-front source.left (u.bytes ++ piece) over (Consumes-begins source.left source''.left ((u.bytes ++ piece) ++ over) read)) in
          room_left (SessionText o) source u.written reply bytes h u.writes t (text_stands o (u.bytes ++ piece) rest (u.written ++ reply) (u.lines ++ more) (cuts_on more rest cs) few_bytes bytes b w);
    }

    answers_refused : {sink'' : SinkSeen} → RefusesLines sink' sink'' session (reader ++ piece) → SessionAnswers o source sink sink'' status.Refused
    answers_refused h =
        let (more, rest, reply, cs, refused, writes) = h.reply o u.lines u.written u.stands in
        told (λ bytes text. SessionOutput o bytes text status.Refused) source (u.written ++ reply) (Writes-trans u.writes writes)
        (λ bytes e. output_refused o (u.bytes ++ piece) rest (u.written ++ reply) (u.lines ++ more) (cuts_on more rest cs) few_bytes bytes (begins bytes e) refused)

    begins_lines : {sink'' : SinkSeen} → BreaksLines sink' sink'' session (reader ++ piece) → SessionBegins o source sink sink''
    begins_lines {sink'' = sink''} h =
        let (more, rest, reply, cs, w, f) = h.reply o u.lines u.written u.stands in
        told_front (SessionText o) sink sink'' source (u.written ++ f.front) f.rest (Appends-trans sink.held sink'.held sink''.held u.written f.front u.writes.held f.held)
        (λ bytes e. subst (λ (x : List ℕ). SessionText o bytes x) (ap (λ (x : List ℕ). u.written ++ x) f.split ∙ sym (append_assoc u.written f.front f.rest)) (piece_text more rest (u.written ++ reply) bytes cs e w))

    lines_keep_pace : {sink'' : SinkSeen} → count ≤ max_read_bytes → BreaksLines sink' sink'' session (reader ++ piece) → SessionPace o source source'' sink sink''
    lines_keep_pace {sink'' = sink''} most h =
        let (more, rest, reply, cs, w, f) = h.reply o u.lines u.written u.stands in
        keeps_pace o sink sink'' source source'' u.bytes (piece ++ over) u.written f.front (subst (λ (x : List ℕ). Consumes source.left source''.left x) (append_assoc u.bytes piece over) read) (inr p.given)
        (let a = length-append piece over in let b = p.lengths in omega arith) transcript (Appends-trans sink.held sink'.held sink''.held u.written f.front u.writes.held f.held)

    -- A line of the piece stopped the run.
    module _ (A : Type 0) (sink'' : SinkSeen) (session' : SessionState) (reader' : List ℕ) (stop : Stop) (end : Status)
        (h : MatchStop {A = A} (Err stop) (λ _. AnswersLines sink' sink'' session session' (reader ++ piece) reader') (RefusesLines sink' sink'' session (reader ++ piece)) (BreaksLines sink' sink'' session (reader ++ piece)))
        (is : end ≡ status_of stop) where
      -- what was written is an output if anything was refused
      pub answers_stopped : IsWhole end → SessionAnswers o source sink sink'' end
      answers_stopped = stopped A stop end (λ _. AnswersLines sink' sink'' session session' (reader ++ piece) reader') (RefusesLines sink' sink'' session (reader ++ piece)) (BreaksLines sink' sink'' session (reader ++ piece))
          (λ x. SessionAnswers o source sink sink'' x) h is answers_refused

      -- otherwise it begins one
      pub begins_stopped : IsCutOff end → SessionBegins o source sink sink''
      begins_stopped = cut_off A stop end (λ _. AnswersLines sink' sink'' session session' (reader ++ piece) reader') (RefusesLines sink' sink'' session (reader ++ piece)) (BreaksLines sink' sink'' session (reader ++ piece))
          (SessionBegins o source sink sink'') h is begins_lines

      -- and all lines that had come whole before the piece were answered
      pub stopped_keeps_pace : count ≤ max_read_bytes → IsBrokenOff end → SessionPace o source source'' sink sink''
      stopped_keeps_pace most = broken_off A stop end (λ _. AnswersLines sink' sink'' session session' (reader ++ piece) reader') (RefusesLines sink' sink'' session (reader ++ piece)) (BreaksLines sink' sink'' session (reader ++ piece))
          (SessionPace o source source'' sink sink'') h is (lines_keep_pace most)

    -- The lines of the piece were answered.
    module _ {sink'' : SinkSeen} {session' : SessionState} {reader' : List ℕ} (answers : AnswersLines sink' sink'' session session' (reader ++ piece) reader') (free : HasNoFeed reader') where
      -- if bytes are too many, the replies to the lines that count are an output
      pub answers_too_long : taken + length piece ≡ max_input_bytes → 0 < length over → SessionAnswers o source sink sink'' status.TooLong
      answers_too_long full some =
          let (more, reply, cs, next, writes) = answers.reply o u.lines u.written u.stands in
          let all : length (u.bytes ++ piece) ≡ max_input_bytes = (let k = u.count in let a = length-append u.bytes piece in omega arith) in
          told (λ bytes text. SessionOutput o bytes text status.TooLong) source (u.written ++ reply) (Writes-trans u.writes writes)
          (λ bytes e. output_too_long o (u.bytes ++ piece) reader' (u.written ++ reply) (u.lines ++ more) (cuts_on more reader' cs) few_bytes bytes over (begins_over bytes e) all some free (Stands-transcript o (u.lines ++ more) (u.written ++ reply) session' next))

      -- if none is too many, the run goes on
      pub piece_answered : over ≡ [] → IsUnderWay o source source'' sink sink'' session' reader' (taken + length piece)
      piece_answered none =
          let (more, reply, cs, next, writes) = answers.reply o u.lines u.written u.stands in
          record {
            bytes = u.bytes ++ piece;
            lines = u.lines ++ more;
            written = u.written ++ reply;
            count = (let k = u.count in let a = length-append u.bytes piece in omega arith);
            consumes = subst (λ (x : List ℕ). Consumes source.left source''.left x) (ap (λ (x : List ℕ). (u.bytes ++ piece) ++ x) none ∙ append-nil (u.bytes ++ piece)) read;
            cuts = cuts_on more reader' cs;
            no_feed = free;
            stands = next;
            writes = Writes-trans u.writes writes;
          }
