-- How lines are cut off one after another, and what answers to single lines need.
use Rattle.std.proofs.Common.{◌≡◌, ℕ, ◌+◌, ◌≤◌, List, [], ◌∷◌, ◌++◌, length, refl, sym, ap, subst, inl, inr, arith, length-append}
use Rattle.std.specs.Prelude.{Err}
use Rattle.cls_engine.specs.declared.options.Options.{Options}
use Rattle.cls_session.specs.declared.driver.Stop.{Stop}
use Rattle.cls_session.specs.declared.driver.Stop.TheVariants as stops
use Rattle.cls_base.specs.Outside.{SinkSeen, Holds}
use Rattle.cls_lexer.specs.Lines.{CutsLine}
use Rattle.cls_session.specs.Driving.{CutsLines, FitsLine, MatchStop}
use Rattle.cls_session.specs.SessionStates.{SessionState, Stands}
use Rattle.cls_session.specs.Transcripts.{IsRefused}
use Rattle.cls_session.proofs.SessionStates.{Stands-transcript}

-- a reply that is answered fits the room
pub text_fits : {sink : SinkSeen} {old new : SessionState} {line reply : List ℕ} → FitsLine sink old line
    → ((o : Options) (lines : List (List ℕ)) (written : List ℕ) → Stands o lines written old → Stands o (lines ++ line ∷ []) (written ++ reply) new) → Holds sink.room (length reply)
text_fits {new = new} {line = line} {reply = reply} f h = f.fits reply (inl (Stands-transcript f.options (f.lines ++ line ∷ []) (f.written ++ reply) new (h f.options f.lines f.written f.stands)))

-- a refusal fits it too
pub refusal_fits : {sink : SinkSeen} {old : SessionState} {line reply : List ℕ} → FitsLine sink old line
    → ((o : Options) (lines : List (List ℕ)) (written : List ℕ) → Stands o lines written old → IsRefused (lines ++ line ∷ []) (written ++ reply)) → Holds sink.room (length reply)
refusal_fits {reply = reply} f h = f.fits reply (inr (h f.options f.lines f.written f.stands))

pub CutsLines-push : (text mid after line : List ℕ) (lines : List (List ℕ)) → CutsLines text lines mid → CutsLine mid line after → CutsLines text (lines ++ line ∷ []) after
CutsLines-push text mid after line [] e c = (after, subst (λ (x : List ℕ). CutsLine x line after) (sym e) c, refl)
CutsLines-push text mid after line (l ∷ lines) (next, c, cs) d = (next, c, CutsLines-push next mid after line lines cs d)

pub CutsLines-trans : (text mid rest : List ℕ) (first more : List (List ℕ)) → CutsLines text first mid → CutsLines mid more rest → CutsLines text (first ++ more) rest
CutsLines-trans text mid rest [] more e cs = subst (λ (x : List ℕ). CutsLines x more rest) (sym e) cs
CutsLines-trans text mid rest (l ∷ first) more (next, c, cs) ds = (next, c, CutsLines-trans next mid rest first more cs ds)

-- what follows a line is shorter by its line feed at least
pub CutLine-shorter : (text line rest : List ℕ) → CutsLine text line rest → length rest + 1 ≤ length text
CutLine-shorter text line rest c = (let w = ap length c.whole in let a = length-append c.raw (10 ∷ rest) in omega arith)

-- what an error says of the one call it says of the call around it
pub match_stopped : (A B : Type 0) (stop : Stop) (Well : A → Type 0) (Well' : B → Type 0) {Refuses Refuses' Breaks Breaks' : Type 0}
    → MatchStop {A = A} (Err stop) Well Refuses Breaks → (Refuses → Refuses') → (Breaks → Breaks') → MatchStop {A = B} (Err stop) Well' Refuses' Breaks'
match_stopped A B stops.Refused Well Well' c f g = f c
match_stopped A B stops.WriteFault Well Well' c f g = g c
match_stopped A B stops.NoMemory Well Well' c f g = g c

-- what follows the line is shorter, if the reader holds nothing before it
pub shorter_next : {between line after held : List ℕ} → held ≡ [] → CutsLine between line after → length (held ++ after) + 1 ≤ length between
shorter_next {between = between} {line = line} {after = after} none cut = subst (λ (x : List ℕ). length (x ++ after) + 1 ≤ length between) (sym none) (CutLine-shorter between line after cut)
