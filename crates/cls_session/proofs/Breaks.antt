-- If a run stops at a failed write or out of memory, what was written begins what may stand written for the last line.
use Rattle.std.proofs.Common.{◌≡◌, ℕ, List, [], ◌∷◌, ◌++◌, subst, inl, inr, append_assoc}
use Rattle.std.specs.Prelude.{Err}
use Rattle.cls_base.specs.Outside.{SinkSeen}
use Rattle.cls_lexer.specs.Lines.{lines_of}
use Rattle.cls_engine.specs.declared.options.Options.{Options}
use Rattle.cls_session.specs.declared.driver.Stop.{Stop}
use Rattle.cls_session.specs.declared.status.Status.{Status}
use Rattle.cls_session.specs.Driving.{WritesFront, AnswersLine, RefusesLine, BreaksLine, IsEnded, AnswersLast, RefusesLast, BreaksLast, before_line, within_line, before_last, within_last, MatchStop}
use Rattle.cls_session.specs.SessionStates.{SessionState, Stands}
use Rattle.cls_session.specs.Transcripts.{IsRefused, Ending}
use Rattle.cls_session.proofs.Driving.{match_stopped}
use Rattle.cls_session.proofs.LastLines.{SaysLast, refuses_last}
use Rattle.cls_session.proofs.SessionStates.{Stands-transcript}
use Rattle.cls_session.proofs.Writing.{Writes-none, whole_front, front_after}

-- the line wasn't read: nothing was written for it
pub breaks_unread : (sink : SinkSeen) (old : SessionState) (line : List ℕ) → BreaksLine sink sink old line
breaks_unread sink old line = before_line (Writes-none sink)

-- a front of its reply was written
pub breaks_reply : {sink sink' : SinkSeen} {old new : SessionState} {line reply : List ℕ}
    → ((o : Options) (lines : List (List ℕ)) (written : List ℕ) → Stands o lines written old → Stands o (lines ++ line ∷ []) (written ++ reply) new)
    → WritesFront sink sink' reply → BreaksLine sink sink' old line
breaks_reply {new = new} {line = line} {reply = reply} next f =
    within_line (λ o lines written s. (reply, inl (Stands-transcript o (lines ++ line ∷ []) (written ++ reply) new (next o lines written s)), f))

-- a front of its refusal was
pub breaks_refusal : {sink sink' : SinkSeen} {old : SessionState} {line reply : List ℕ}
    → ((o : Options) (lines : List (List ℕ)) (written : List ℕ) → Stands o lines written old → IsRefused (lines ++ line ∷ []) (written ++ reply))
    → WritesFront sink sink' reply → BreaksLine sink sink' old line
breaks_refusal {reply = reply} next f = within_line (λ o lines written s. (reply, inr (next o lines written s), f))

-- the run stops at the line that is left
breaks_last : {line text : List ℕ} → line ∷ [] ≡ lines_of text → {sink sink' : SinkSeen} {old : SessionState} → BreaksLine sink sink' old line → BreaksLast sink sink' old text
breaks_last left (before_line none) = before_last none
breaks_last {line = line} left (within_line breaks) = within_last (λ o lines written s.
    let (reply, w, front) = breaks o lines written s in
    (reply, subst (λ (xs : List (List ℕ)). IsEnded o (lines ++ xs) (written ++ reply)) left (inl w), front))

-- if the line was not answered, what is left was not either
pub stops_last : (line text : List ℕ) → line ∷ [] ≡ lines_of text → (A : Type 0) (a b : SinkSeen) (old new : SessionState) (stop : Stop)
    → MatchStop {A = A} (Err stop) (λ _. AnswersLine a b old new line) (RefusesLine a b old line) (BreaksLine a b old line)
    → MatchStop {A = A} (Err stop) (λ _. AnswersLast a b old new text) (RefusesLast a b old text) (BreaksLast a b old text)
stops_last line text left A a b old new stop h = match_stopped A A stop (λ _. AnswersLine a b old new line) (λ _. AnswersLast a b old new text) h (refuses_last left) (breaks_last left)

module _ {a b : SinkSeen} {old new : SessionState} {text : List ℕ} (answers : AnswersLast a b old new text) where
  -- the run stops before the output is ended
  pub breaks_unended : BreaksLast a b old text
  breaks_unended = within_last (λ o lines written h.
      let (reply, next, writes) = answers.reply o lines written h in
      (reply, inl (inl (Stands-transcript o (lines ++ lines_of text) (written ++ reply) new next)), whole_front writes))

  -- it stops in what ends the output
  pub breaks_ending : {c : SinkSeen} (last : List ℕ) (status : Status) → SaysLast new last status → WritesFront b c last → BreaksLast a c old text
  breaks_ending last status says front = within_last (λ o lines written h.
      let (reply, next, writes) = answers.reply o lines written h in (
        reply ++ last,
        inr (status, subst (λ (x : List ℕ). Ending o (lines ++ lines_of text) x status) (append_assoc written reply last) (says o (lines ++ lines_of text) (written ++ reply) next)),
        front_after writes front,
      ))
