-- A closure that isn't larger than a number can be worked off, row after row, by one worker.
use Rattle.std.proofs.Common.{◌≡◌, ◌≢◌, ℕ, zero, suc, ◌+◌, ◌-◌, ◌<◌, ◌≤◌, Bool, true, false, List, [], ◌∷◌, ◌++◌, Some, length, set, slice_get, refl, sym, subst, ◌∙◌, arith, ◌⊎◌, inl, inr, length-append, length-set}
use Rattle.std.specs.Prelude.{replicate, nat_lt}
use Rattle.std.proofs.lemmas.Bool.Decides.{nat_tests}
use Rattle.std.proofs.lemmas.List.{length-replicate}
use Rattle.std.proofs.lemmas.Option.{slice_get_within}
use Rattle.cls_base.proofs.Lists.{Contains-at}
use Rattle.cls_laws.specs.Possible.{IsPossible}
use Rattle.cls_core.specs.Closure.{HasMoreGoals}
use Rattle.cls_core.specs.Arguments.{HasUniqueAnswers}
use Rattle.cls_core.specs.Machine.{IsFiled, begun, claimed, grown, numbered, filed, IsFiling, Replays}
use Rattle.cls_core.specs.Rows.{Machine, Row, filed_rows}
use Rattle.cls_core.specs.Canonical.{IsCanonical}
use Rattle.cls_core.specs.Renumbering.{renumbered}
use Rattle.cls_core.specs.Laws.{Completes}
use Rattle.cls_laws.specs.Histories.{EachHasAnswer, AreBy}
use Rattle.cls_core.specs.declared.state.RowState.{RowState}
use Rattle.cls_core.specs.declared.state.RowState.TheVariants.{Free, Held, Filed}
use Rattle.cls_core.specs.declared.entry.Entry.{Entry}
use Rattle.cls_core.specs.declared.entry.Entry.TheVariants.{Claim, File}
use Rattle.cls_core.specs.declared.answer.Answer.{Answer}
use Rattle.cls_laws.proofs.Classical.{surely, then, after}
use Rattle.cls_core.proofs.Columns.{get-set-same, get-set-other, get-within, get-behind, get-some, some-inside, lt-split}
use Rattle.cls_core.proofs.Closure.{replay-sound, shows-goals, complete-closure}
use Rattle.cls_core.proofs.Renumbering.{renumbered-canonical}
use Rattle.cls_core.proofs.Replaying.{replays-snoc}

free-at : (n i : ℕ) → i < n → slice_get (replicate n Free) i ≡ Some Free
free-at zero i h = absurd (omega arith)
free-at (suc n) zero h = refl
free-at (suc n) (suc i) h = free-at n i (omega arith)

by-snoc : (worker : ℕ) (es : List Entry) (e : Entry) → AreBy worker es → AreBy worker (e ∷ []) → AreBy worker (es ++ e ∷ [])
by-snoc worker [] e h k = k
by-snoc worker (Claim w row ∷ es) e h k = (h.0, by-snoc worker es e h.1 k)
by-snoc worker (File w row ∷ es) e h k = (h.0, by-snoc worker es e h.1 k)

-- the first k rows are filed, and the others are free
record AreInTurn (k : ℕ) (states : List RowState) : Type 0 where
  within : k ≤ length states
  done : (i : ℕ) (s : RowState) → i < k → slice_get states i ≡ Some s → IsFiled s
  free : (i : ℕ) → k ≤ i → i < length states → slice_get states i ≡ Some Free

module _ (k worker n : ℕ) (states : List RowState) (a : Answer ℕ) (h : AreInTurn k states) (less : k < length states) where
  abbrev claims : List RowState
  claims = set states k (Held worker)

  abbrev files : List RowState
  files = set claims k (Filed a)

  long : length files ≡ length states
  long = length-set claims k (Filed a) ∙ length-set states k (Held worker)

  old : (i : ℕ) → i ≢ k → i < length states → slice_get (files ++ replicate n Free) i ≡ slice_get states i
  old i other within =
      get-within files (replicate n Free) i (omega (arith, long)) ∙ (get-set-other claims k i (Filed a) other ∙ get-set-other states k i (Held worker) other)

  now-filed : (s : RowState) → slice_get (files ++ replicate n Free) k ≡ Some s → IsFiled s
  now-filed s e =
      let same : Filed a ≡ s = some-inside (Filed a) s (sym (get-set-same claims k (Filed a) (omega (arith, less, length-set states k (Held worker)))) ∙ (sym (get-within files (replicate n Free) k (omega (arith, long, less))) ∙ e)) in
      subst IsFiled same tt

  new : (i : ℕ) → length states ≤ i → i < length (files ++ replicate n Free) → slice_get (files ++ replicate n Free) i ≡ Some Free
  new i behind within =
      get-behind files (replicate n Free) i (omega (arith, long)) ∙ free-at n (i - length files) (omega (arith, long, length-append files (replicate n Free), length-replicate n Free))

  done-then : (i : ℕ) (s : RowState) → (i < k) ⊎ (i ≡ k) → slice_get (files ++ replicate n Free) i ≡ Some s → IsFiled s
  done-then i s (inl l) e = h.done i s l (sym (old i (λ same. let f : i ≡ k = same in omega arith) (omega (arith, less))) ∙ e)
  done-then i s (inr same) e = now-filed s (subst (λ j. slice_get (files ++ replicate n Free) j ≡ Some s) same e)

  free-then : (i : ℕ) (b : Bool) → nat_lt i (length states) ≡ b → k + 1 ≤ i → i < length (files ++ replicate n Free)
      → slice_get (files ++ replicate n Free) i ≡ Some Free
  free-then i true e above within =
      let inside : i < length states = grind (arith, nat_tests) in
      old i (λ same. let f : i ≡ k = same in omega arith) inside ∙ h.free i (omega arith) inside
  free-then i false e above within = new i (grind (arith, nat_tests)) within

  next-turn : AreInTurn (k + 1) (files ++ replicate n Free)
  next-turn = record {
    within = omega (arith, less, long, length-append files (replicate n Free));
    done = λ i s l e. done-then i s (lt-split k i l) e;
    free = λ i above within. free-then i (nat_lt i (length states)) refl above within;
  }

module _ {G : Type 0} (eq : G → G → Bool) (exact : (x y : G) → eq x y ≡ true → x ≡ y) (reflexive : (x : G) → eq x x ≡ true) (IsAnswer : G → Answer G → Type 0) (start : G) where
  module _ (worker : ℕ) where
    abbrev pub HasHistory : Type 0
    HasHistory = (es : List Entry) × (t : Machine G) × Completes eq IsAnswer start es t × AreBy worker es

    -- the rows so far, and the history that leads to them
    record Progress (k : ℕ) : Type 0 where
      events : List Entry
      rows : Machine G
      legal : Replays eq IsAnswer (begun start) events rows
      by_worker : AreBy worker events
      in_turn : AreInTurn k rows.states

    begins : Progress 0
    begins = record {
      events = [];
      rows = begun start;
      legal = refl;
      by_worker = tt;
      in_turn = record { within = omega arith; done = λ i s l e. absurd (omega arith); free = λ i a l. free-at 1 i l };
    }

    ends : (k : ℕ) (p : Progress k) → length p.rows.states ≤ k → HasHistory
    ends k p all = (p.events, p.rows, (p.legal, λ i s e. p.in_turn.done i s (let l = slice_get_within p.rows.states i s e in omega arith) e), p.by_worker)

    -- one row more: it is claimed, and filed with an answer
    goes : (k : ℕ) (p : Progress k) → k < length p.rows.states → (g : G) → slice_get p.rows.goals k ≡ Some g → (a : Answer G) → IsAnswer g a → Progress (k + 1)
    goes k p less g at a is =
        let m : Machine G = claimed p.rows worker k in
        let t : Machine G = filed eq m k a in
        let f : IsFiling eq IsAnswer m worker k t = record { goal = g; answer = a; held = get-set-same p.rows.states k (Held worker) less; has_goal = at; is_answer = is; rows_after = refl } in
        let one : Replays eq IsAnswer (begun start) (p.events ++ Claim worker k ∷ []) m = replays-snoc eq IsAnswer p.events (Claim worker k) (begun start) p.rows m p.legal (p.in_turn.free k (omega arith) less, refl) in
        record {
          events = (p.events ++ Claim worker k ∷ []) ++ File worker k ∷ [];
          rows = t;
          legal = replays-snoc eq IsAnswer (p.events ++ Claim worker k ∷ []) (File worker k) (begun start) m t one f;
          by_worker = by-snoc worker (p.events ++ Claim worker k ∷ []) (File worker k) (by-snoc worker p.events (Claim worker k) p.by_worker (refl, tt)) (refl, tt);
          in_turn = next-turn k worker (length (grown eq p.rows.goals a) - length p.rows.goals) p.rows.states (numbered eq (grown eq p.rows.goals a) a) p.in_turn less;
        }

    module _ (n : ℕ) (small : HasMoreGoals IsAnswer start n → ⊥) (each : EachHasAnswer IsAnswer start) where
      few : (k : ℕ) (p : Progress k) → n ≤ k → (b : Bool) → nat_lt n (length p.rows.goals) ≡ b → length p.rows.states ≤ k
      few k p enough true e = absurd (small (shows-goals eq exact reflexive IsAnswer start p.rows n (replay-sound eq exact reflexive IsAnswer start p.events p.rows p.legal) (grind (arith, nat_tests))))
      few k p enough false e =
          let s = replay-sound eq exact reflexive IsAnswer start p.events p.rows p.legal in
          let l : length p.rows.goals ≤ n = grind (arith, nat_tests) in
          omega (arith, s.paired)

      row : (k : ℕ) (p : Progress k) → (Progress (k + 1) → IsPossible HasHistory) → (b : Bool) → nat_lt k (length p.rows.states) ≡ b → IsPossible HasHistory
      row k p next false e = surely (ends k p (grind (arith, nat_tests)))
      row k p next true e =
          let less : k < length p.rows.states = grind (arith, nat_tests) in
          let s = replay-sound eq exact reflexive IsAnswer start p.events p.rows p.legal in
          let g = get-some p.rows.goals k (omega (arith, s.paired)) in
          then (each g.0 (s.reached g.0 (Contains-at p.rows.goals k g.0 g.1))) (λ a. next (goes k p less g.0 g.1 a.0 a.1))

      works : (fuel k : ℕ) → Progress k → n ≤ k + fuel → IsPossible HasHistory
      works zero k p enough = surely (ends k p (few k p (omega arith) (nat_lt n (length p.rows.goals)) refl))
      works (suc fuel) k p enough = row k p (λ q. works fuel (k + 1) q (omega arith)) (nat_lt k (length p.rows.states)) refl

      pub history-exists : IsPossible HasHistory
      history-exists = works n 0 begins (omega arith)

  pub rows-exist : HasUniqueAnswers IsAnswer → (n : ℕ) → (HasMoreGoals IsAnswer start n → ⊥) → EachHasAnswer IsAnswer start
      → IsPossible ((rows : List (Row G)) × IsCanonical eq IsAnswer start rows)
  rows-exist unique n small each = after (history-exists 0 n small each) (λ h. (
    renumbered (filed_rows h.1.goals h.1.states),
    renumbered-canonical eq exact reflexive IsAnswer start (filed_rows h.1.goals h.1.states) (complete-closure eq exact reflexive IsAnswer start unique h.1 (replay-sound eq exact reflexive IsAnswer start h.0 h.1 h.2.0) h.2.1),
  ))
