-- Rows that are all filed, as one list.
use Rattle.std.proofs.Common.{◌≡◌, ℕ, zero, suc, List, [], ◌∷◌, Some, length, map, slice_get, refl, ap, arith}
use Rattle.std.specs.Prelude.{option_map}
use Rattle.cls_core.specs.declared.state.RowState.{RowState}
use Rattle.cls_core.specs.declared.state.RowState.TheVariants.{Free, Held, Filed}
use Rattle.cls_core.specs.declared.answer.Answer.{Answer}
use Rattle.cls_core.specs.Machine.{IsFiled, EachFiled}
use Rattle.cls_core.specs.Rows.{Row, filed_rows, answers_in}
use Rattle.cls_core.specs.Closure.{goals_of}
use Rattle.cls_core.proofs.Columns.{some-inside}

pub filed-inside : (a b : Answer ℕ) → Some (Filed a) ≡ Some (Filed b) → a ≡ b
filed-inside a b e = cc

module _ {G : Type 0} where
  pub filed-count : (gs : List G) (ss : List RowState) → length ss ≡ length gs → EachFiled ss
      → length (filed_rows gs ss) ≡ length gs
  filed-count [] ss e f = refl
  filed-count (g ∷ gs) [] e f = absurd (omega arith)
  filed-count (g ∷ gs) (Free ∷ ss) e f = absurd (f zero Free refl)
  filed-count (g ∷ gs) (Held worker ∷ ss) e f = absurd (f zero (Held worker) refl)
  filed-count (g ∷ gs) (Filed a ∷ ss) e f = ap suc (filed-count gs ss (omega arith) (λ k s h. f (suc k) s h))

  pub filed-at : (gs : List G) (ss : List RowState) (k : ℕ) (g : G) (a : Answer ℕ) → EachFiled ss
      → slice_get gs k ≡ Some g → slice_get ss k ≡ Some (Filed a)
      → slice_get (filed_rows gs ss) k ≡ Some (record { goal = g; answer = a })
  filed-at [] ss k g a f e h = cc
  filed-at (x ∷ gs) [] k g a f e h = cc
  filed-at (x ∷ gs) (Free ∷ ss) k g a f e h = absurd (f zero Free refl)
  filed-at (x ∷ gs) (Held worker ∷ ss) k g a f e h = absurd (f zero (Held worker) refl)
  filed-at (x ∷ gs) (Filed b ∷ ss) zero g a f e h =
      let same : x ≡ g = cc in
      let is : b ≡ a = filed-inside b a h in
      λ i. Some (record { goal = same i; answer = is i })
  filed-at (x ∷ gs) (Filed b ∷ ss) (suc k) g a f e h = filed-at gs ss k g a (λ j s q. f (suc j) s q) e h

  pub filed-goal : (gs : List G) (ss : List RowState) (k : ℕ) (g : G) → length ss ≡ length gs → EachFiled ss
      → slice_get gs k ≡ Some g → option_map (λ (r : Row G). r.goal) (slice_get (filed_rows gs ss) k) ≡ Some g
  filed-goal [] ss k g e f h = cc
  filed-goal (x ∷ gs) [] k g e f h = absurd (omega arith)
  filed-goal (x ∷ gs) (Free ∷ ss) k g e f h = absurd (f zero Free refl)
  filed-goal (x ∷ gs) (Held worker ∷ ss) k g e f h = absurd (f zero (Held worker) refl)
  filed-goal (x ∷ gs) (Filed b ∷ ss) zero g e f h = h
  filed-goal (x ∷ gs) (Filed b ∷ ss) (suc k) g e f h = filed-goal gs ss k g (omega arith) (λ j s q. f (suc j) s q) h

  pub filed-answer : (gs : List G) (ss : List RowState) (k : ℕ) (a : Answer ℕ) → length ss ≡ length gs → EachFiled ss
      → slice_get ss k ≡ Some (Filed a)
      → option_map (λ (r : Row G). r.answer) (slice_get (filed_rows gs ss) k) ≡ Some a
  filed-answer [] [] k a e f h = cc
  filed-answer [] (s ∷ ss) k a e f h = absurd (omega arith)
  filed-answer (x ∷ gs) [] k a e f h = cc
  filed-answer (x ∷ gs) (Free ∷ ss) k a e f h = absurd (f zero Free refl)
  filed-answer (x ∷ gs) (Held worker ∷ ss) k a e f h = absurd (f zero (Held worker) refl)
  filed-answer (x ∷ gs) (Filed b ∷ ss) zero a e f h = same b a h
    where
      same : (b a : Answer ℕ) → Some (Filed b) ≡ Some (Filed a) → Some b ≡ Some a
      same b a h = cc
  filed-answer (x ∷ gs) (Filed b ∷ ss) (suc k) a e f h = filed-answer gs ss k a (omega arith) (λ j s q. f (suc j) s q) h

  pub filed-goals : (gs : List G) (ss : List RowState) → length ss ≡ length gs → EachFiled ss → goals_of (filed_rows gs ss) ≡ gs
  filed-goals [] ss e f = refl
  filed-goals (x ∷ gs) [] e f = absurd (omega arith)
  filed-goals (x ∷ gs) (Free ∷ ss) e f = absurd (f zero Free refl)
  filed-goals (x ∷ gs) (Held worker ∷ ss) e f = absurd (f zero (Held worker) refl)
  filed-goals (x ∷ gs) (Filed a ∷ ss) e f = ap (λ l. x ∷ l) (filed-goals gs ss (omega arith) (λ k s h. f (suc k) s h))

  pub filed-answers : (gs : List G) (ss : List RowState) → length ss ≡ length gs → EachFiled ss
      → answers_in ss ≡ map (λ (r : Row G). r.answer) (filed_rows gs ss)
  filed-answers [] [] e f = refl
  filed-answers [] (s ∷ ss) e f = absurd (omega arith)
  filed-answers (x ∷ gs) [] e f = absurd (omega arith)
  filed-answers (x ∷ gs) (Free ∷ ss) e f = absurd (f zero Free refl)
  filed-answers (x ∷ gs) (Held worker ∷ ss) e f = absurd (f zero (Held worker) refl)
  filed-answers (x ∷ gs) (Filed a ∷ ss) e f = ap (λ l. a ∷ l) (filed-answers gs ss (omega arith) (λ k s h. f (suc k) s h))

  -- the goal and the state of a row of the list
  pub filed-parts : (gs : List G) (ss : List RowState) (k : ℕ) (r : Row G) → slice_get (filed_rows gs ss) k ≡ Some r
      → (slice_get gs k ≡ Some r.goal) × (slice_get ss k ≡ Some (Filed r.answer))
  filed-parts [] ss k r e = cc
  filed-parts (x ∷ gs) [] k r e = cc
  filed-parts (x ∷ gs) (Free ∷ ss) k r e = cc
  filed-parts (x ∷ gs) (Held worker ∷ ss) k r e = cc
  filed-parts (x ∷ gs) (Filed a ∷ ss) zero r e =
      let same : record { goal = x; answer = a } ≡ r = some-inside (record { goal = x; answer = a }) r e in
      (ap (λ (q : Row G). Some q.goal) same, ap (λ (q : Row G). Some (Filed q.answer)) same)
  filed-parts (x ∷ gs) (Filed a ∷ ss) (suc k) r e = filed-parts gs ss k r e

-- a filed state is one with an answer
pub filed-is : (s : RowState) → IsFiled s → ((a : Answer ℕ) → s ≡ Filed a → ⊥) → ⊥
filed-is Free f n = f
filed-is (Held worker) f n = f
filed-is (Filed a) f n = n a refl
