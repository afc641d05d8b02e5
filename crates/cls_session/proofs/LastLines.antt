-- How the answer to the line that is left at the end of the input ends the output.
use Rattle.std.proofs.Common.{◌≡◌, ℕ, List, [], ◌∷◌, ◌++◌, length, sym, subst, inl, inr, append_assoc, append-nil}
use Rattle.cls_base.specs.Outside.{SinkSeen, Holds}
use Rattle.cls_lexer.specs.Lines.{lines_of}
use Rattle.cls_engine.specs.declared.options.Options.{Options}
use Rattle.cls_session.specs.declared.status.Status.{Status}
use Rattle.cls_session.specs.Driving.{Writes, FitsLine, FitsLast, IsEnded, AnswersLine, RefusesLine, AnswersLast, RefusesLast, EndsOutput}
use Rattle.cls_session.specs.SessionStates.{SessionState, Stands}
use Rattle.cls_session.specs.Transcripts.{IsRefused, Ending}
use Rattle.cls_session.proofs.Writing.{Holds-rest, Writes-none, Writes-trans}

-- The line is what is left.
module _ {line text : List ℕ} (left : line ∷ [] ≡ lines_of text) where
  -- the reply to the line fits the room
  pub last_fits : {sink : SinkSeen} {s : SessionState} → FitsLast sink s text → FitsLine sink s line
  last_fits f = record {
    options = f.options;
    lines = f.lines;
    written = f.written;
    stands = f.stands;
    fits = λ reply w. f.fits reply (subst (λ (xs : List (List ℕ)). IsEnded f.options (f.lines ++ xs) (f.written ++ reply)) left (inl w));
  }

  -- what is left was answered with the line
  pub answers_last : {sink sink' : SinkSeen} {old new : SessionState} → AnswersLine sink sink' old new line → AnswersLast sink sink' old new text
  answers_last {new = new} h = record {
    reply = λ o lines written stands. let (reply, next, writes) = h.reply o lines written stands in
        (reply, subst (λ (xs : List (List ℕ)). Stands o (lines ++ xs) (written ++ reply) new) left next, writes);
  }

  -- and refused with it
  pub refuses_last : {sink sink' : SinkSeen} {old : SessionState} → RefusesLine sink sink' old line → RefusesLast sink sink' old text
  refuses_last h = record {
    reply = λ o lines written stands. let (reply, next, writes) = h.reply o lines written stands in
        (reply, subst (λ (xs : List (List ℕ)). IsRefused (lines ++ xs) (written ++ reply)) left next, writes);
  }

-- no line is left
pub none_last : (sink : SinkSeen) (s : SessionState) (text : List ℕ) → [] ≡ lines_of text → AnswersLast sink sink s s text
none_last sink s text left = record {
  reply = λ o lines written stands. (
    [],
    subst (λ (x : List ℕ). Stands o (lines ++ lines_of text) x s) (sym (append-nil written))
        (subst (λ (xs : List (List ℕ)). Stands o (lines ++ xs) written s) left (subst (λ (xs : List (List ℕ)). Stands o xs written s) (sym (append-nil lines)) stands)),
    Writes-none sink,
  );
}

-- what the session says at the end
abbrev pub SaysLast : SessionState → List ℕ → Status → Type 0
SaysLast s last status = (o : Options) (lines : List (List ℕ)) (written : List ℕ) → Stands o lines written s → Ending o lines (written ++ last) status

module _ {a b : SinkSeen} {old new : SessionState} {text : List ℕ} (answers : AnswersLast a b old new text) (last : List ℕ) (status : Status) (says : SaysLast new last status) where
  ending : (o : Options) (lines : List (List ℕ)) (written reply : List ℕ) → Stands o (lines ++ lines_of text) (written ++ reply) new → Ending o (lines ++ lines_of text) (written ++ (reply ++ last)) status
  ending o lines written reply next = subst (λ (x : List ℕ). Ending o (lines ++ lines_of text) x status) (append_assoc written reply last) (says o (lines ++ lines_of text) (written ++ reply) next)

  -- what is written at the end fits the room
  pub outcome_fits : FitsLast a old text → Holds b.room (length last)
  outcome_fits f =
      let (reply, next, writes) = answers.reply f.options f.lines f.written f.stands in
      Holds-rest last writes (f.fits (reply ++ last) (inr (status, ending f.options f.lines f.written reply next)))

  -- and with it the output is ended
  pub ends_output : {c : SinkSeen} → Writes b c last → EndsOutput a c old text status
  ends_output wrote = record {
    reply = λ o lines written stands.
        let (reply, next, writes) = answers.reply o lines written stands in
        (reply ++ last, ending o lines written reply next, Writes-trans writes wrote);
  }
