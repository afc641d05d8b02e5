-- A repository that was read whole opens a session.
use Rattle.std.proofs.Common.{◌≡◌, ℕ, zero, suc, ◌+◌, ◌<◌, ◌≤◌, List, [], ◌∷◌, ◌++◌, length, true, false, refl, ap, subst, arith}
use Rattle.std.specs.Prelude.{Option, None, Some, MatchOption, Result, Ok, Err, IfErr, OnOk, slice_index_or}
use Rattle.std.specs.List.{AllByRecursion}
use Rattle.cls_base.specs.Firsts.{First, IsSilent}
use Rattle.cls_engine.specs.declared.options.Options.{Options}
use Rattle.cls_repo.specs.declared.fault.RepoFault.{RepoFault}
use Rattle.cls_repo.specs.FaultWords.{fault_words, IsSaid}
use Rattle.cls_repo.specs.Readings.{Reading, Takes, Refuses, closing_faults}
use Rattle.cls_repo.specs.Readings as readings
use Rattle.cls_repo.specs.Sound.{IsCost}
use Rattle.cls_replies.specs.Responder.{Responder, Serves}
use Rattle.cls_session.specs.Sessions.{Declares, IsFaultAt, SaysFault}
use Rattle.cls_session.specs.Sessions as sessions
use Rattle.cls_session.specs.SessionStates.{SessionState, Stands, held_by, lines_of_session}
use Rattle.cls_session.specs.Transcripts.{IsRefused}
use Rattle.cls_session.proofs.Readings.{on_words, said_weaker}
use Rattle.cls_session.proofs.SessionStates.{Stands-opens, Stands-closes, Stands-takes, Stands-refuses, says_fault}

-- each component costs at least 1
pub costly : (costs : List ℕ) → AllByRecursion IsCost costs → (x : ℕ) → 0 < slice_index_or costs x 1
costly [] h zero = omega arith
costly [] h (suc x) = omega arith
costly (c ∷ cs) h zero = omega (arith, h.0)
costly (c ∷ cs) h (suc x) = costly cs h.1 x

pub none_of : {A : Type 0} (v : Option A) → ((x : A) → v ≡ Some x → ⊥) → v ≡ None
none_of None h = refl
none_of (Some x) h = absurd (h x refl)

-- the answer to a line that is taken
pub answers_declared : (old new : SessionState) (line : List ℕ) (reply : List ℕ) → old.responder ≡ None → Declares old line new → reply ≡ []
    → (o : Options) (lines : List (List ℕ)) (written : List ℕ) → Stands o lines written old → Stands o (lines ++ line ∷ []) (written ++ reply) new
answers_declared old new line reply none (sessions.Declares.goes_on t going same still) empty o lines written stands =
    Stands-takes o lines written old none line reply new empty t going same still stands
answers_declared old new line reply none (sessions.Declares.opens ended t is silent responder serves same at) empty o lines written stands =
    Stands-opens o lines written old none line reply ended responder new t is silent serves empty same at stands

-- the answer to a line that isn't
pub answers_fault : (old : SessionState) (line : List ℕ) (reply : List ℕ) (fault : RepoFault) → old.responder ≡ None → IsSaid (IsFaultAt old line) fault → SaysFault fault reply
    → (o : Options) (lines : List (List ℕ)) (written : List ℕ) → Stands o lines written old → IsRefused (lines ++ line ∷ []) (written ++ reply)
answers_fault old line reply fault none said says o lines written stands =
    let at : IsFaultAt old line (fault.line, fault_words fault.kind) = on_words (λ words. IsFaultAt old line (fault.line, words)) fault.kind says.1 said in
    elim at [
      | sessions.IsFaultAt.of_line refuses ↦
          Stands-refuses o lines written old none line reply _ refuses (says_fault fault reply says) stands
      | sessions.IsFaultAt.of_repository ended t is first ↦
          Stands-closes o lines written old none line reply _ ended t is first (says_fault fault reply says) stands
    ]

-- ONE LINE OF THE REPOSITORY

-- a line that isn't `end`
pub goes_by : (old new : SessionState) (line : List ℕ) (next : Reading) → Takes old.reader line next → next.ended ≡ false → old.responder ≡ None
    → record { options = old.options; reader = next; responder = old.responder } ≡ new → Declares old line new
goes_by old new line next t going none is =
    subst (λ (s : SessionState). Declares old line s) is (sessions.Declares.goes_on t going refl none)

-- the line `end`
pub opens_by : (old new : SessionState) (line : List ℕ) (ended after : Reading) (responder : Option Responder) → Takes old.reader line ended → ended.ended ≡ true
    → IsSilent (First (closing_faults ended)) → MatchOption responder ⊥ (Serves old.options ended.draft)
    → record { options = old.options; reader = after; responder = responder } ≡ new → Declares old line new
opens_by old new line ended after None t is silent serves at = absurd serves
opens_by old new line ended after (Some v) t is silent serves at =
    subst (λ (x : SessionState). Declares old line x) at (sessions.Declares.opens ended t is silent v serves refl refl)

-- the same, if the repository is opened
pub opens_on : {A : Type 0} (r : Result A RepoFault) (old new : SessionState) (line : List ℕ) (ended after : Reading) (responder : Option Responder)
    → OnOk r (IsSilent (First (closing_faults ended))) → OnOk r (MatchOption responder ⊥ (Serves old.options ended.draft))
    → Takes old.reader line ended → ended.ended ≡ true → record { options = old.options; reader = after; responder = responder } ≡ new
    → OnOk r (Declares old line new)
opens_on (Ok x) old new line ended after responder silent serves t is at = opens_by old new line ended after responder t is silent serves at
opens_on (Err f) old new line ended after responder silent serves t is at = record {}

-- what is wrong with a repository at its line `end`
pub closing_said : (old : SessionState) (line : List ℕ) (ended : Reading) (fault : RepoFault) → Takes old.reader line ended → ended.ended ≡ true
    → IsSaid (First (closing_faults ended)) fault → IsSaid (IsFaultAt old line) fault
closing_said old line ended fault t is said =
    said_weaker (λ words. First (closing_faults ended) (fault.line, words)) (λ words. IsFaultAt old line (fault.line, words))
    (λ words first. sessions.IsFaultAt.of_repository ended t is first) fault.kind said

-- the same, if it isn't opened
pub closing_on : {A : Type 0} (r : Result A RepoFault) (old : SessionState) (line : List ℕ) (ended : Reading) → Takes old.reader line ended → ended.ended ≡ true
    → IfErr r (IsSaid (First (closing_faults ended))) → IfErr r (IsSaid (IsFaultAt old line))
closing_on (Ok x) old line ended t is said = record {}
closing_on (Err f) old line ended t is said = closing_said old line ended f t is said

-- a line that is at fault
pub line_said : (old : SessionState) (line : List ℕ) (fault : RepoFault) → IsSaid (Refuses old.reader line) fault → IsSaid (IsFaultAt old line) fault
line_said old line fault said =
    said_weaker (λ words. Refuses old.reader line (fault.line, words)) (λ words. IsFaultAt old line (fault.line, words))
    (λ words refuses. sessions.IsFaultAt.of_line refuses) fault.kind said

-- how many lines are counted after it
takes_lines : (old new : Reading) (line : List ℕ) → Takes old line new → new.lines ≡ old.lines + 1
takes_lines old new line (readings.Takes.skipped s e) = ap (λ (r : Reading). r.lines) e
takes_lines old new line (readings.Takes.declares said l s d v e) = ap (λ (r : Reading). r.lines) e

pub counted_by : (old new : SessionState) (line : List ℕ) → old.responder ≡ None → Declares old line new → lines_of_session new ≤ lines_of_session old + 1
counted_by old new line none (sessions.Declares.goes_on t going same still) =
    let a : held_by new.reader new.responder ≡ new.reader.lines = ap (held_by new.reader) still in
    let b : held_by old.reader old.responder ≡ old.reader.lines = ap (held_by old.reader) none in
    let l = takes_lines old.reader new.reader line t in
    omega (arith, a, b, l)
counted_by old new line none (sessions.Declares.opens ended t is silent responder serves same at) =
    let a : held_by new.reader new.responder ≡ length responder.held = ap (held_by new.reader) at in
    let b : length responder.held ≡ 0 = ap length serves.none_held in
    omega (arith, a, b)
