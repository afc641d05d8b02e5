-- A core whose rows are claimed and filed in their order has the closure of its start goal in the canonical numbering.
use Rattle.std.proofs.Common.{◌≡◌, ◌≢◌, ◌+◌, ◌-◌, ◌<◌, ◌≤◌, ◌∙◌, inl, inr, ℕ, zero, suc, Bool, true, false, List, [], ◌∷◌, ◌++◌, Option, None, Some, length, set, length-set, slice_get, refl, sym, ap, subst, arith, nat_lt}
use Rattle.std.specs.Prelude.{replicate}
use Rattle.std.proofs.lemmas.Bool.Decides.{nat_tests}
use Rattle.std.proofs.lemmas.Option.{slice_get_past, slice_get_within}
use Rattle.cls_base.specs.Lists.{AreDistinct}
use Rattle.cls_core.specs.declared.answer.Answer.{Answer}
use Rattle.cls_core.specs.declared.entry.Entry.{Entry}
use Rattle.cls_core.specs.declared.entry.Entry.TheVariants.{Claim, File}
use Rattle.cls_core.specs.declared.state.RowState.{RowState}
use Rattle.cls_core.specs.declared.state.RowState.TheVariants.{Free, Held, Filed}
use Rattle.cls_core.specs.Arguments.{HasUniqueAnswers}
use Rattle.cls_core.specs.Canonical.{IsCanonical, IsNumbering}
use Rattle.cls_core.specs.Closure.{AllReached, HasMoreGoals}
use Rattle.cls_core.specs.Machine.{begun, claimed, grown, numbered, AllFiled, IsFiled, Replays}
use Rattle.cls_core.specs.Renumbering.{found, worked_off}
use Rattle.cls_core.specs.Rows.{Machine, Recorded, Row, filed_rows}
use Rattle.cls_core.proofs.Closure.{IsSound, replay-sound, complete-closure}
use Rattle.cls_core.proofs.Columns.{get-set-same, get-set-other, get-front, get-within, get-behind, get-some, some-inside, lt-split}
use Rattle.cls_core.proofs.FiledRows.{filed-goals}
use Rattle.cls_core.proofs.Finding.{found-numbering}
use Rattle.cls_core.proofs.Replaying.{replays-snoc}
use Rattle.cls_callers.specs.Known.{IsWorkedOff}

replicate-at : {A : Type 0} (n i : ℕ) (x : A) → i < n → slice_get (replicate n x) i ≡ Some x
replicate-at zero i x h = absurd (omega arith)
replicate-at (suc n) zero x h = refl
replicate-at (suc n) (suc i) x h = replicate-at n i x (omega arith)

not-below : (n m : ℕ) → (n < m → ⊥) → m ≤ n
not-below n m h = by (nat_lt n m) refl
  where
    by : (b : Bool) → nat_lt n m ≡ b → m ≤ n
    by true e = absurd (h (grind (arith, nat_tests)))
    by false e = grind (arith, nat_tests)

none-some : {A : Type 0} (x : A) → None ≡ Some x → ⊥
none-some x e = cc

-- the row k is claimed and filed with an answer in numbers, and free rows are put behind the others
module _ (ss : List RowState) (k n : ℕ) (numbers : Answer ℕ) where
  abbrev states_after : List RowState
  states_after = set (set ss k (Held 0)) k (Filed numbers) ++ replicate n Free

  filed-here : k < length ss → slice_get states_after k ≡ Some (Filed numbers)
  filed-here l =
      get-front (set (set ss k (Held 0)) k (Filed numbers)) (replicate n Free) k (Filed numbers)
      (get-set-same (set ss k (Held 0)) k (Filed numbers) (omega (arith, length-set ss k (Held 0))))

  others-stay : (j : ℕ) → j ≢ k → j < length ss → slice_get states_after j ≡ slice_get ss j
  others-stay j differ l =
      get-within (set (set ss k (Held 0)) k (Filed numbers)) (replicate n Free) j
      (omega (arith, length-set (set ss k (Held 0)) k (Filed numbers), length-set ss k (Held 0)))
      ∙ (get-set-other (set ss k (Held 0)) k j (Filed numbers) differ ∙ get-set-other ss k j (Held 0) differ)

  new-free : (j : ℕ) → length ss ≤ j → j < length ss + n → slice_get states_after j ≡ Some Free
  new-free j l m =
      let long : length (set (set ss k (Held 0)) k (Filed numbers)) ≡ length ss = omega (arith, length-set (set ss k (Held 0)) k (Filed numbers), length-set ss k (Held 0)) in
      get-behind (set (set ss k (Held 0)) k (Filed numbers)) (replicate n Free) j (omega arith)
      ∙ replicate-at n (j - length (set (set ss k (Held 0)) k (Filed numbers))) Free (omega arith)

-- `answer` gives the answer of each goal
module _ {G : Type 0} (answer : G → Answer G) where
  abbrev pub Answers : G → Answer G → Type 0
  Answers g a = a ≡ answer g

  unique : HasUniqueAnswers Answers
  unique g a b is are = is ∙ sym are

module _ {G : Type 0} (eq : G → G → Bool) (answer : G → Answer G) (start : G) where
  -- the first k rows are filed, in their order, and the others are free
  pub record IsPicking (k : ℕ) (core : Recorded G) : Type 0 where
    pub goals : core.rows.goals ≡ found eq answer start k
    pub legal : Replays eq (Answers answer) (begun start) core.history core.rows
    pub filed_front : (j : ℕ) → j < k → j < length core.rows.goals → (s : RowState) × (slice_get core.rows.states j ≡ Some s) × IsFiled s
    pub free_rest : (j : ℕ) → k ≤ j → j < length core.rows.goals → slice_get core.rows.states j ≡ Some Free

module _ {G : Type 0} (eq : G → G → Bool) (exact : (x y : G) → eq x y ≡ true → x ≡ y) (reflexive : (x : G) → eq x x ≡ true) (answer : G → Answer G) (start : G) where
  sound : (k : ℕ) (core : Recorded G) → IsPicking eq answer start k core → IsSound eq exact reflexive (Answers answer) start core.rows
  sound k core p = replay-sound eq exact reflexive (Answers answer) start core.history core.rows p.legal

  free-begun : (j : ℕ) → j < 1 → slice_get (Free ∷ []) j ≡ Some Free
  free-begun zero l = refl
  free-begun (suc j) l = absurd (omega arith)

  pub picking-begun : (core : Recorded G) → core.rows ≡ begun start → core.history ≡ [] → IsPicking eq answer start 0 core
  picking-begun core rows history = record {
    goals = ap (λ (r : Machine G). r.goals) rows;
    legal = subst (λ (es : List Entry). Replays eq (Answers answer) (begun start) es core.rows) (sym history) rows;
    filed_front = λ j l m. absurd (omega arith);
    free_rest = λ j l.
        (subst (λ (r : Machine G). j < length r.goals → slice_get r.states j ≡ Some Free) (sym rows) (free-begun j));
  }

  pub picking-on : (k : ℕ) (old new : Recorded G) (g : G) → IsPicking eq answer start k old → slice_get old.rows.goals k ≡ Some g
      → IsWorkedOff eq old k (answer g) new → IsPicking eq answer start (suc k) new
  picking-on k old new g p at w =
      let gs = old.rows.goals in
      let ss = old.rows.states in
      let more = grown eq gs (answer g) in
      let n = length more - length gs in
      let numbers = numbered eq more (answer g) in
      let here : k < length gs = slice_get_within gs k g at in
      let paired = (sound k old p).paired in
      let free = p.free_rest k (omega arith) here in
      let goals : new.rows.goals ≡ more = ap (λ (r : Machine G). r.goals) w.rows in
      let states : new.rows.states ≡ states_after ss k n numbers = ap (λ (r : Machine G). r.states) w.rows in
      let step : more ≡ found eq answer start (suc k) =
      sym (ap (worked_off eq answer gs) at) ∙ ap (λ (l : List G). worked_off eq answer l (slice_get l k)) p.goals in
      let begins = replays-snoc eq (Answers answer) old.history (Claim 0 k) (begun start) old.rows (claimed old.rows 0 k) p.legal (free, refl) in
      let files = replays-snoc eq (Answers answer) (old.history ++ Claim 0 k ∷ []) (File 0 k) (begun start) (claimed old.rows 0 k) new.rows begins (record {
        goal = g;
        answer = answer g;
        held = get-set-same ss k (Held 0) (omega (arith, paired));
        has_goal = at;
        is_answer = refl;
        rows_after = w.rows;
      }) in
      let legal = subst (λ (es : List Entry). Replays eq (Answers answer) (begun start) es new.rows) (sym w.history) files in
      record {
        goals = goals ∙ step;
        legal = legal;
        filed_front = λ j l m. elim (lt-split k j (omega arith)) [
          | inl below ↦
              (let s = p.filed_front j below (omega arith) in
              (s.0, ap (λ (l : List RowState). slice_get l j) states ∙ (others-stay ss k n numbers j (λ e. (let q : j ≡ k = e in omega arith)) (omega (arith, paired)) ∙ s.1), s.2))
          | inr same ↦
              (Filed numbers, ap (λ (l : List RowState). slice_get l j) states ∙ (ap (slice_get (states_after ss k n numbers)) same ∙ filed-here ss k n numbers (omega (arith, paired))), tt)
        ];
        free_rest = λ j l m.
            ap (λ (x : List RowState). slice_get x j) states ∙ rest j l (omega (arith, ap length goals)) (nat_lt j (length ss)) refl;
      }
    where
      rest : (j : ℕ) → suc k ≤ j → j < length (grown eq old.rows.goals (answer g)) → (b : Bool) → nat_lt j (length old.rows.states) ≡ b
          → slice_get (states_after old.rows.states k (length (grown eq old.rows.goals (answer g)) - length old.rows.goals) (numbered eq (grown eq old.rows.goals (answer g)) (answer g))) j ≡ Some Free
      rest j l m true e =
          let within : j < length old.rows.states = grind (arith, nat_tests) in
          let paired = (sound k old p).paired in
          others-stay old.rows.states k (length (grown eq old.rows.goals (answer g)) - length old.rows.goals) (numbered eq (grown eq old.rows.goals (answer g)) (answer g)) j (λ s. (let q : j ≡ k = s in omega arith)) within
          ∙ p.free_rest j (omega arith) (omega arith)
      rest j l m false e =
          let past : length old.rows.states ≤ j = grind (arith, nat_tests) in
          let paired = (sound k old p).paired in
          new-free old.rows.states k (length (grown eq old.rows.goals (answer g)) - length old.rows.goals) (numbered eq (grown eq old.rows.goals (answer g)) (answer g)) j past (omega arith)

  pub picking-past : (k : ℕ) (core : Recorded G) → IsPicking eq answer start k core → length core.rows.goals ≤ k → IsPicking eq answer start (suc k) core
  picking-past k core p past = record {
    goals =
        p.goals ∙ sym (ap (worked_off eq answer (found eq answer start k)) (subst (λ (l : List G). slice_get l k ≡ None) p.goals (slice_get_past core.rows.goals k past)));
    legal = p.legal;
    filed_front = λ j l m. p.filed_front j (omega arith) m;
    free_rest = λ j l m. p.free_rest j (omega arith) m;
  }

  -- a row that is there is worked off, and otherwise nothing is done
  pub picking-next : (k : ℕ) (old new : Recorded G) → IsPicking eq answer start k old
      → ((g : G) → slice_get old.rows.goals k ≡ Some g → IsWorkedOff eq old k (answer g) new)
      → (length old.rows.goals ≤ k → new ≡ old) → IsPicking eq answer start (k + 1) new
  picking-next k old new p done past =
      subst (λ (n : ℕ). IsPicking eq answer start n new) (let same : suc k ≡ k + 1 = omega arith in same) (by (slice_get old.rows.goals k) refl (nat_lt k (length old.rows.goals)) refl)
    where
      by : (o : Option G) → slice_get old.rows.goals k ≡ o → (b : Bool) → nat_lt k (length old.rows.goals) ≡ b → IsPicking eq answer start (suc k) new
      by (Some g) e b t = picking-on k old new g p e (done g e)
      by None e true t =
          let l : k < length old.rows.goals = grind (arith, nat_tests) in
          let x = get-some old.rows.goals k l in
          absurd (none-some x.0 (sym e ∙ x.1))
      by None e false t =
          let l : length old.rows.goals ≤ k = grind (arith, nat_tests) in
          subst (IsPicking eq answer start (suc k)) (sym (past l)) (picking-past k old p l)

  module _ (n : ℕ) (few : HasMoreGoals (Answers answer) start n → ⊥) where
    at-most : (gs : List G) → AreDistinct gs → AllReached (Answers answer) start gs → length gs ≤ n
    at-most gs d q = not-below n (length gs) (λ l. few (gs, d, q, l))

    pub picked-all : (core : Recorded G) → IsPicking eq answer start n core → AllFiled core.rows
    picked-all core p row s e =
        let k = sound n core p in
        let within = slice_get_within core.rows.states row s e in
        let short = at-most core.rows.goals k.distinct k.reached in
        let f = p.filed_front row (omega (arith, k.paired)) (omega (arith, k.paired)) in
        subst IsFiled (some-inside f.0 s (sym f.1 ∙ e)) f.2

    pub picked-canonical : (core : Recorded G) (rows : List (Row G)) → IsPicking eq answer start n core → AllFiled core.rows
        → rows ≡ filed_rows core.rows.goals core.rows.states → IsCanonical eq (Answers answer) start rows
    picked-canonical core rows p all same =
        let k = sound n core p in
        let gs = core.rows.goals in
        let ss = core.rows.states in
        let numbering : IsNumbering (Answers answer) start gs = subst (IsNumbering (Answers answer) start) (sym p.goals) (found-numbering eq exact reflexive (Answers answer) start answer (λ g r. refl) n at-most) in
        subst (IsCanonical eq (Answers answer) start) (sym same) (record {
          numbering = subst (IsNumbering (Answers answer) start) (sym (filed-goals gs ss k.paired all)) numbering;
          answered = (complete-closure eq exact reflexive (Answers answer) start (unique answer) core.rows k all).answered;
        })
