-- How the lines of a piece are answered while replies are pending, and then with them.
use Rattle.std.proofs.Common.{◌≡◌, ℕ, List, [], ◌∷◌, ◌++◌, length, refl, sym, subst, inl, inr, append_assoc, append-nil}
use Rattle.std.specs.Prelude.{Result, Ok, Err}
use Rattle.cls_base.specs.Outside.{SinkSeen, Holds}
use Rattle.cls_lexer.specs.Lines.{CutsLine}
use Rattle.cls_engine.specs.declared.options.Options.{Options}
use Rattle.cls_session.specs.declared.driver.Stop.{Stop}
use Rattle.cls_session.specs.declared.driver.Stop.TheVariants as stops
use Rattle.cls_session.specs.Driving.{Writes, WritesFront, WritesAllBut, WritesFrontBut, IsWritten, FitsLines, AnswersLines, RefusesLines, BreaksLines, AnswersPending, RefusesPending, LeavesPending, MatchStop, MatchEachStop}
use Rattle.cls_session.specs.SessionStates.{SessionState, Stands}
use Rattle.cls_session.specs.Transcripts.{IsRefused}
use Rattle.cls_session.proofs.Driving.{CutsLines-push}
use Rattle.cls_session.proofs.SessionStates.{Stands-transcript}
use Rattle.cls_session.proofs.Writing.{Writes-none, nothing_left, room_more, but_more, front_more, front_but_more, front_some, but_none, whole_but, whole_front}

-- no line was answered yet, and nothing is pending
pub pending_none : (sink : SinkSeen) (s : SessionState) (text pending : List ℕ) → pending ≡ [] → AnswersPending sink sink s s text text pending
pending_none sink s text pending none = record {
  reply = λ o lines written stands.
      ([], [], refl, subst (λ (x : List ℕ). Stands o (lines ++ []) x s) (sym (append-nil written)) (subst (λ (xs : List (List ℕ)). Stands o xs written s) (sym (append-nil lines)) stands), nothing_left none (Writes-none sink));
}

-- what is held back ends the answer to the piece
pub pending_held : {a b : SinkSeen} {first last : SessionState} {text between held pending : List ℕ} → held ≡ between → AnswersPending a b first last text between pending → AnswersPending a b first last text held pending
pending_held {a = a} {b = b} {first = first} {last = last} {text = text} {pending = pending} e h = subst (λ (x : List ℕ). AnswersPending a b first last text x pending) (sym e) h

-- The reply to a line goes on with what was written.
abbrev pub IsReply : SessionState → List ℕ → List ℕ → SessionState → Type 0
IsReply old line reply new = (o : Options) (lines : List (List ℕ)) (written : List ℕ) → Stands o lines written old → Stands o (lines ++ line ∷ []) (written ++ reply) new

-- The refusal of a line does.
abbrev pub IsRefusal : SessionState → List ℕ → List ℕ → Type 0
IsRefusal old line reply = (o : Options) (lines : List (List ℕ)) (written : List ℕ) → Stands o lines written old → IsRefused (lines ++ line ∷ []) (written ++ reply)

-- a step for one line more, in the order in which lists are joined here
on_line : (P : List (List ℕ) → List ℕ → Type 0) (lines more : List (List ℕ)) (line written reply further : List ℕ) → P ((lines ++ more) ++ line ∷ []) ((written ++ reply) ++ further) → P (lines ++ (more ++ line ∷ [])) (written ++ (reply ++ further))
on_line P lines more line written reply further h =
    subst (λ (x : List ℕ). P (lines ++ (more ++ line ∷ [])) x) (append_assoc written reply further) (subst (λ (xs : List (List ℕ)). P xs ((written ++ reply) ++ further)) (append_assoc lines more (line ∷ [])) h)

-- Some lines are answered.
module _ {a b : SinkSeen} {first mid : SessionState} {text between pending : List ℕ} (so_far : AnswersPending a b first mid text between pending) where
  -- the run stops between two lines
  pub leaves_pending : LeavesPending a b first text pending
  leaves_pending = record {
    reply = λ o lines written h.
        let (more, reply, cuts, next, writes) = so_far.reply o lines written h in
        (more, between, reply, cuts, inl (Stands-transcript o (lines ++ more) (written ++ reply) mid next), whole_but writes);
  }

  -- A further line is cut off.
  module _ {line after : List ℕ} (cut : CutsLine between line after) {further : List ℕ} where
    -- it is answered
    pub replies_pending : {c : SinkSeen} {last : SessionState} {left : List ℕ} → IsReply mid line further last → WritesAllBut b c (pending ++ further) left → AnswersPending a c first last text after left
    replies_pending {last = last} answered wrote = record {
      reply = λ o lines written h.
          let (more, reply, cuts, next, writes) = so_far.reply o lines written h in (
            more ++ line ∷ [],
            reply ++ further,
            CutsLines-push text between after line more cuts cut,
            on_line (λ xs x. Stands o xs x last) lines more line written reply further (answered o (lines ++ more) (written ++ reply) next),
            but_more writes further wrote,
          );
    }

    -- it is refused
    pub refuses_pending : {c : SinkSeen} {left : List ℕ} → IsRefusal mid line further → WritesAllBut b c (pending ++ further) left → RefusesPending a c first text left
    refuses_pending refused wrote = record {
      reply = λ o lines written h.
          let (more, reply, cuts, next, writes) = so_far.reply o lines written h in (
            more ++ line ∷ [],
            after,
            reply ++ further,
            CutsLines-push text between after line more cuts cut,
            on_line (λ xs x. IsRefused xs x) lines more line written reply further (refused o (lines ++ more) (written ++ reply) next),
            but_more writes further wrote,
          );
    }

    -- Either may stand written for it.
    module _ (stands : (o : Options) (lines : List (List ℕ)) (written : List ℕ) → Stands o lines written mid → IsWritten o (lines ++ line ∷ []) (written ++ further)) where
      -- it fits the room with what is pending
      pub fits_pending : FitsLines a first text → Holds b.room (length (pending ++ further))
      fits_pending f =
          let (more, reply, cuts, next, writes) = so_far.reply f.options f.lines f.written f.stands in
          room_more writes further (f.fits (more ++ line ∷ []) after (reply ++ further) (CutsLines-push text between after line more cuts cut)
          (on_line (λ xs x. IsWritten f.options xs x) f.lines more line f.written reply further (stands f.options (f.lines ++ more) (f.written ++ reply) next)))

      -- a write fails
      pub fails_pending : {c : SinkSeen} → WritesFront b c (pending ++ further) → BreaksLines a c first text
      fails_pending front = record {
        reply = λ o lines written h.
            let (more, reply, cuts, next, writes) = so_far.reply o lines written h in (
              more ++ line ∷ [],
              after,
              reply ++ further,
              CutsLines-push text between after line more cuts cut,
              on_line (λ xs x. IsWritten o xs x) lines more line written reply further (stands o (lines ++ more) (written ++ reply) next),
              front_more writes further front,
            );
      }

      -- the run is out of memory within it
      pub leaves_within : {c : SinkSeen} {left : List ℕ} → WritesFrontBut b c (pending ++ further) left → LeavesPending a c first text left
      leaves_within front = record {
        reply = λ o lines written h.
            let (more, reply, cuts, next, writes) = so_far.reply o lines written h in (
              more ++ line ∷ [],
              after,
              reply ++ further,
              CutsLines-push text between after line more cuts cut,
              on_line (λ xs x. IsWritten o xs x) lines more line written reply further (stands o (lines ++ more) (written ++ reply) next),
              front_but_more writes further front,
            );
      }

-- The same if the reader holds nothing after the line.
pub pending_next : {a b c : SinkSeen} {first mid last : SessionState} {text between line after held further pending left : List ℕ}
    → held ≡ [] → CutsLine between line after → AnswersPending a b first mid text between pending → IsReply mid line further last
    → WritesAllBut b c (pending ++ further) left → AnswersPending a c first last text (held ++ after) left
pending_next {a = a} {c = c} {first = first} {last = last} {text = text} {after = after} {left = left} none cut so_far answered wrote =
    subst (λ (x : List ℕ). AnswersPending a c first last text (x ++ after) left) (sym none) (replies_pending so_far cut answered wrote)

-- a reply may stand written for its line
pub reply_stands : {mid last : SessionState} {line further : List ℕ} → IsReply mid line further last → (o : Options) (lines : List (List ℕ)) (written : List ℕ) → Stands o lines written mid → IsWritten o (lines ++ line ∷ []) (written ++ further)
reply_stands {last = last} {line = line} {further = further} answered o lines written h = inl (Stands-transcript o (lines ++ line ∷ []) (written ++ further) last (answered o lines written h))

-- and so may a refusal
pub refusal_stands : {mid : SessionState} {line further : List ℕ} → IsRefusal mid line further → (o : Options) (lines : List (List ℕ)) (written : List ℕ) → Stands o lines written mid → IsWritten o (lines ++ line ∷ []) (written ++ further)
refusal_stands refused o lines written h = inr (refused o lines written h)

-- WHAT IS PENDING IS WRITTEN
module _ {a b : SinkSeen} {first : SessionState} {text pending : List ℕ} where
  -- there is room for it
  pub fits_left : LeavesPending a b first text pending → FitsLines a first text → Holds b.room (length pending)
  fits_left p f = (p.reply f.options f.lines f.written f.stands).5.writes.room_left

  -- if only a front of it is written, the run breaks off
  pub breaks_left : {c : SinkSeen} → LeavesPending a b first text pending → WritesFront b c pending → BreaksLines a c first text
  breaks_left p front = record {
    reply = λ o lines written h.
        let (more, rest, reply, cuts, next, writes) = p.reply o lines written h in
        (more, rest, reply, cuts, next, front_some writes front);
  }

-- What is said of the lines, whatever came of them.
abbrev pub Collected : {A : Type 0} → SinkSeen → SinkSeen → SessionState → SessionState → List ℕ → List ℕ → List ℕ → Result A Stop → Type 0
Collected a b first last text rest pending answered =
    MatchEachStop answered (λ _. AnswersPending a b first last text rest pending) (RefusesPending a b first text pending) (BreaksLines a b first text) (LeavesPending a b first text pending)

-- No write has failed.
module _ {A : Type 0} (a : SinkSeen) {b : SinkSeen} (first last : SessionState) (text rest : List ℕ) {pending : List ℕ} where
  -- what is pending is left in each case
  pub leaves_replies : (answered : Result A Stop) → (answered ≡ Err stops.WriteFault → ⊥) → Collected a b first last text rest pending answered → LeavesPending a b first text pending
  leaves_replies (Ok x) sound p = leaves_pending p
  leaves_replies (Err stops.Refused) sound p = record {
    reply = λ o lines written h.
        let (more, after, reply, cuts, next, writes) = p.reply o lines written h in
        (more, after, reply, cuts, inr next, whole_but writes);
  }
  leaves_replies (Err stops.WriteFault) sound p = absurd (sound refl)
  leaves_replies (Err stops.NoMemory) sound p = p

  -- and with it the lines are answered
  pub answers_left : {c : SinkSeen} (answered : Result A Stop) → (answered ≡ Err stops.WriteFault → ⊥) → Collected a b first last text rest pending answered → Writes b c pending
      → MatchStop answered (λ _. AnswersLines a c first last text rest) (RefusesLines a c first text) (BreaksLines a c first text)
  answers_left (Ok x) sound p wrote = record {
    reply = λ o lines written h.
        let (more, reply, cuts, next, writes) = p.reply o lines written h in
        (more, reply, cuts, next, but_none writes wrote);
  }
  answers_left (Err stops.Refused) sound p wrote = record {
    reply = λ o lines written h.
        let (more, after, reply, cuts, next, writes) = p.reply o lines written h in
        (more, after, reply, cuts, next, but_none writes wrote);
  }
  answers_left (Err stops.WriteFault) sound p wrote = absurd (sound refl)
  answers_left (Err stops.NoMemory) sound p wrote = breaks_left p (whole_front wrote)
