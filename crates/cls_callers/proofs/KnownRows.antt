-- Goals with their answers as rows, and the rows that are found among them.
use Rattle.std.proofs.Common.{◌≡◌, ◌+◌, ◌<◌, ◌≤◌, ◌∙◌, ℕ, zero, suc, Bool, true, false, List, [], ◌∷◌, length, map, get_or, refl, sym, ap, arith, cond, not, ◌||◌}
use Rattle.std.specs.List.{list_any, position_or_len}
use Rattle.std.proofs.lemmas.Option.{slice_get_past}
use Rattle.cls_core.specs.declared.answer.Answer.{Answer}
use Rattle.cls_core.specs.declared.answer.Answer.TheVariants.{Wide}
use Rattle.cls_core.specs.Closure.{goals_of}
use Rattle.cls_core.specs.Renumbering.{answer_in, row_answer}
use Rattle.cls_core.specs.Rows.{Row}
use Rattle.cls_core.specs.Arguments.{map_answer}
use Rattle.cls_callers.specs.declared.goal.AskGoal.{AskGoal}
use Rattle.cls_callers.specs.declared.goal.AskGoal.TheVariants.{Of}
use Rattle.cls_callers.specs.AskGoals.{ask_eq}
use Rattle.cls_callers.specs.Known.{answered_rows, goal_at, row_of, known_answer}

module _ {G : Type 0} where
  pub rows-again : (rows : List (Row G)) → answered_rows (goals_of rows) (map (λ (r : Row G). r.answer) rows) ≡ rows
  rows-again [] = refl
  rows-again (r ∷ rows) = ap (λ (l : List (Row G)). r ∷ l) (rows-again rows)

  pub goals-again : (gs : List G) (answers : List (Answer ℕ)) → length answers ≡ length gs → goals_of (answered_rows gs answers) ≡ gs
  goals-again [] answers e = refl
  goals-again (g ∷ gs) [] e = absurd (omega arith)
  goals-again (g ∷ gs) (a ∷ answers) e = ap (λ l. g ∷ l) (goals-again gs answers (omega arith))

  pub rows-count : (gs : List G) (answers : List (Answer ℕ)) → length answers ≡ length gs → length (answered_rows gs answers) ≡ length gs
  rows-count [] answers e = refl
  rows-count (g ∷ gs) [] e = absurd (omega arith)
  rows-count (g ∷ gs) (a ∷ answers) e = ap suc (rows-count gs answers (omega arith))

  pub answer-at : (gs : List G) (answers : List (Answer ℕ)) (i : ℕ) (d : Answer ℕ) → length answers ≡ length gs → i < length gs
      → row_answer (answered_rows gs answers) i ≡ get_or answers i d
  answer-at [] answers i d e l = absurd (omega arith)
  answer-at (g ∷ gs) [] i d e l = absurd (omega arith)
  answer-at (g ∷ gs) (a ∷ answers) zero d e l = refl
  answer-at (g ∷ gs) (a ∷ answers) (suc i) d e l = answer-at gs answers i d (omega arith) (omega arith)

  pub answer-past : (rows : List (Row G)) (i : ℕ) → length rows ≤ i → row_answer rows i ≡ Wide
  answer-past rows i h = ap answer_in (slice_get_past rows i h)

pub place-missing : {A : Type 0} (p : A → Bool) (xs : List A) → list_any p xs ≡ false → position_or_len p xs ≡ length xs
place-missing p [] e = refl
place-missing p (x ∷ xs) e = by (place-missing p xs) (p x) e
  where
    by : (list_any p xs ≡ false → position_or_len p xs ≡ length xs) → (b : Bool) → (b || list_any p xs) ≡ false
        → cond (not b) (1 + position_or_len p xs) 0 ≡ suc (length xs)
    by rest true h = cc
    by rest false h = let same = rest h in omega arith

module _ {G : Type 0} (eq : G → G → Bool) (gs : List (AskGoal G)) (answers : List (Answer ℕ)) (g : G) (paired : length answers ≡ length gs) where
  abbrev rows : List (Row (AskGoal G))
  rows = answered_rows gs answers

  -- a goal without a row is taken for a wide one
  pub known-missing : list_any (ask_eq eq (Of g)) gs ≡ false → Wide ≡ known_answer eq rows g
  known-missing e =
      let place : row_of eq rows g ≡ length gs =
      ap (position_or_len (ask_eq eq (Of g))) (goals-again gs answers paired) ∙ place-missing (ask_eq eq (Of g)) gs e in
      ap (map_answer (goal_at (goals_of rows) g)) (sym (answer-past rows (row_of eq rows g) (omega (arith, place, rows-count gs answers paired))))

  -- the answer in the row of a goal, with goals in place of numbers
  pub known-found : (i : ℕ) (d : Answer ℕ) → i ≡ position_or_len (ask_eq eq (Of g)) gs → i < length gs
      → map_answer (goal_at gs g) (get_or answers i d) ≡ known_answer eq rows g
  known-found i d e l =
      let keys = goals-again gs answers paired in
      let place : i ≡ row_of eq rows g = e ∙ ap (position_or_len (ask_eq eq (Of g))) (sym keys) in
      let held = sym (answer-at gs answers i d paired l) ∙ ap (row_answer rows) place in
      (λ k. map_answer (goal_at (sym keys k) g) (held k))
