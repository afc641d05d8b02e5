-- The text of rows, one after the other, from any place on.
use Rattle.std.proofs.Common.{◌≡◌, ℕ, zero, suc, ◌+◌, ◌<◌, ◌≤◌, List, [], ◌∷◌, ◌++◌, Option, Some, length, take, drop, get_or, slice_get, sym, ap, subst, ◌∙◌, arith, append_assoc, append-nil}
use Rattle.std.specs.Prelude.{option_map, codes}
use Rattle.std.specs.List.{sum_by}
use Rattle.std.proofs.lemmas.List.Sums.{sum_by-cons}
use Rattle.std.proofs.lemmas.List.{drop_all, drop_more}
use Rattle.std.proofs.lemmas.Option.{slice_get_within, get_or_from_slice_get}
use Rattle.cls_base.specs.Languages.{rules_at}
use Rattle.cls_path.specs.Paths.{TypePath}
use Rattle.cls_base.specs.declared.rule.Rule.{Rule}
use Rattle.cls_core.specs.declared.answer.Answer.TheVariants.{Rules}
use Rattle.cls_core.specs.Arguments.{rules_of, rule_count}
use Rattle.cls_core.specs.Rows.{Row}
use Rattle.cls_core.proofs.Columns.{get-some}
use Rattle.cls_grammar.specs.declared.printing.GrammarPlace.{GrammarPlace}
use Rattle.cls_grammar.specs.declared.printing.GrammarPlace.TheVariants as places
use Rattle.cls_grammar.specs.Grammars.{book_of}
use Rattle.cls_grammar.specs.GrammarTexts.{line, rule_text, rules_text, goal_text, rows_text, goals_from, lines_from}

pub read-at : {A : Type 0} (xs : List A) (i : ℕ) (d : A) → i < length xs → slice_get xs i ≡ Some (get_or xs i d)
read-at xs i d l = let u = get-some xs i l in subst (λ x. slice_get xs i ≡ Some x) (sym (get_or_from_slice_get xs i u.0 d u.1)) u.1

abbrev Shown : Type 0
Shown = Row (List TypePath)

-- a row by its goal and its rules
row-parts : (rows : List Shown) (i : ℕ) (g : List TypePath) (l : List (Rule ℕ)) (r : Shown) → option_map (λ (r : Shown). r.goal) (slice_get rows i) ≡ Some g → option_map (λ (r : Shown). r.answer) (slice_get rows i) ≡ Some (Rules l) → slice_get rows i ≡ Some r → (r.goal ≡ g) × (rules_of r.answer ≡ l)
row-parts rows i g l r goal answer at =
    let a : Some r.goal ≡ Some g = ap (option_map (λ (r : Shown). r.goal)) (sym at) ∙ goal in
    let b : Some r.answer ≡ Some (Rules l) = ap (option_map (λ (r : Shown). r.answer)) (sym at) ∙ answer in
    let c : r.answer ≡ Rules l = cc in
    ((let d : r.goal ≡ g = cc in d), ap rules_of c)

-- what is left begins with the element at its place
drop-got : {A : Type 0} (xs : List A) (i : ℕ) (x : A) → slice_get xs i ≡ Some x → drop i xs ≡ x ∷ drop (i + 1) xs
drop-got {A} xs i x e = drop_more xs i x (slice_get_within xs i x e) ∙ ap (λ (y : A). y ∷ drop (i + 1) xs) (get_or_from_slice_get xs i x x e)

-- one rule more is written
pub rules-next : (component : ℕ → List ℕ) (rs : List (Rule ℕ)) (i : ℕ) (r : Rule ℕ) (t u all : List ℕ) → slice_get rs i ≡ Some r
    → u ≡ t ++ line (rule_text component r) → t ++ rules_text component (drop i rs) ≡ all → u ++ rules_text component (drop (i + 1) rs) ≡ all
rules-next component rs i r t u all e written so_far =
    let rest = drop (i + 1) rs in
    ap (λ (x : List ℕ). x ++ rules_text component rest) written
    ∙ (append_assoc t (line (rule_text component r)) (rules_text component rest)
    ∙ (ap (λ (ss : List (Rule ℕ)). t ++ rules_text component ss) (sym (drop-got rs i r e)) ∙ so_far))

-- the rules of a goal, as the rule book has them
rules-read : (rows : List Shown) (i : ℕ) (l : List (Rule ℕ)) → option_map (λ (r : Shown). r.answer) (slice_get rows i) ≡ Some (Rules l) → rules_at (book_of rows) i ≡ l
rules-read [] i l e = cc
rules-read (r ∷ rows) zero l e = let a : r.answer ≡ Rules l = cc in ap rules_of a
rules-read (r ∷ rows) (suc i) l e = rules-read rows i l e

module _ (name component : ℕ → List ℕ) (rows : List Shown) (ranks : List (Option ℕ)) where
  abbrev Goals : ℕ → List ℕ
  Goals i = goals_from name component rows ranks i

  abbrev Lines : GrammarPlace → List ℕ
  Lines place = lines_from name component rows ranks place

  abbrev HasGoal : ℕ → List TypePath → Type 0
  HasGoal i g = option_map (λ (r : Shown). r.goal) (slice_get rows i) ≡ Some g

  abbrev HasRules : ℕ → List (Rule ℕ) → Type 0
  HasRules i l = option_map (λ (r : Shown). r.answer) (slice_get rows i) ≡ Some (Rules l)

  -- the goals from one on are this one with its rules, and the goals behind it
  goals-drop : (i : ℕ) (g : List TypePath) (l : List (Rule ℕ)) (rank : Option ℕ) → i < length rows → HasGoal i g → HasRules i l → slice_get ranks i ≡ Some rank
      → Goals i ≡ goal_text name i g rank ++ (rules_text component l ++ Goals (i + 1))
  goals-drop i g l rank less goal answer at =
      let r = get-some rows i less in
      let p = row-parts rows i g l r.0 goal answer r.1 in
      let n = rows_text name component (i + 1) (drop (i + 1) rows) (drop (i + 1) ranks) in
      let d = line (codes "done") in
      (λ j. rows_text name component i (drop-got rows i r.0 r.1 j) (drop-got ranks i rank at j) ++ d)
      ∙ ((λ j. ((goal_text name i (p.0 j) rank ++ rules_text component (p.1 j)) ++ n) ++ d)
      ∙ (append_assoc (goal_text name i g rank ++ rules_text component l) n d
      ∙ append_assoc (goal_text name i g rank) (rules_text component l) (n ++ d)))

  -- a goal is written with some of its rules
  goal-written : (i : ℕ) (g : List TypePath) (l : List (Rule ℕ)) (rank : Option ℕ) (next : ℕ) (t u v all : List ℕ) → i < length rows → HasGoal i g → HasRules i l → slice_get ranks i ≡ Some rank
      → u ≡ t ++ goal_text name i g rank → v ++ rules_text component (drop next l) ≡ u ++ rules_text component l → t ++ Goals i ≡ all
      → v ++ (rules_text component (drop next l) ++ Goals (i + 1)) ≡ all
  goal-written i g l rank next t u v all less goal answer at e f so_far =
      let m = Goals (i + 1) in
      let first = goal_text name i g rank in
      let lines = rules_text component l in
      sym (append_assoc v (rules_text component (drop next l)) m)
      ∙ (ap (λ (x : List ℕ). x ++ m) f
      ∙ (ap (λ (x : List ℕ). (x ++ lines) ++ m) e
      ∙ (append_assoc (t ++ first) lines m
      ∙ (append_assoc t first (lines ++ m)
      ∙ (ap (λ (x : List ℕ). t ++ x) (sym (goals-drop i g l rank less goal answer at)) ∙ so_far)))))

  -- it goes on at a rule
  pub goal-begun : (i : ℕ) (g : List TypePath) (l : List (Rule ℕ)) (rank : Option ℕ) (next : ℕ) (t u v all : List ℕ) → i < length rows → HasGoal i g → HasRules i l → slice_get ranks i ≡ Some rank
      → u ≡ t ++ goal_text name i g rank → v ++ rules_text component (drop next l) ≡ u ++ rules_text component l → t ++ Goals i ≡ all → v ++ Lines (places.Rule i next) ≡ all
  goal-begun i g l rank next t u v all less goal answer at e f so_far =
      (λ j. v ++ (rules_text component (drop next (rules-read rows i l answer j)) ++ Goals (i + 1)))
      ∙ goal-written i g l rank next t u v all less goal answer at e f so_far

  -- or with all of them, and it goes on at the next goal
  pub goal-done : (i : ℕ) (g : List TypePath) (l : List (Rule ℕ)) (rank : Option ℕ) (next : ℕ) (t u v all : List ℕ) → i < length rows → HasGoal i g → HasRules i l → slice_get ranks i ≡ Some rank
      → u ≡ t ++ goal_text name i g rank → v ++ rules_text component (drop next l) ≡ u ++ rules_text component l → t ++ Goals i ≡ all → length l ≤ next → v ++ Goals (i + 1) ≡ all
  goal-done i g l rank next t u v all less goal answer at e f so_far over =
      ap (λ (k : List (Rule ℕ)). v ++ (rules_text component k ++ Goals (i + 1))) (sym (drop_all next l over))
      ∙ goal-written i g l rank next t u v all less goal answer at e f so_far

  -- no goal is left
  pub goals-done : (i : ℕ) (t u all : List ℕ) → length rows ≤ i → length ranks ≤ i → u ≡ t ++ line (codes "done") → t ++ Goals i ≡ all → u ++ [] ≡ all
  goals-done i t u all over past e so_far =
      append-nil u
      ∙ (e
      ∙ ((λ j. t ++ (rows_text name component i (sym (drop_all i rows over) j) (sym (drop_all i ranks past) j) ++ line (codes "done"))) ∙ so_far))

  -- rules of a goal are written from a place on, some of them
  pub rules-begun : (i : ℕ) (l : List (Rule ℕ)) (place next : ℕ) (t v : List ℕ) → HasRules i l → v ++ rules_text component (drop next l) ≡ t ++ rules_text component (drop place l)
      → v ++ Lines (places.Rule i next) ≡ t ++ Lines (places.Rule i place)
  rules-begun i l place next t v answer w =
      let m = Goals (i + 1) in
      let same = rules-read rows i l answer in
      (λ j. v ++ (rules_text component (drop next (same j)) ++ m))
      ∙ (sym (append_assoc v (rules_text component (drop next l)) m)
      ∙ (ap (λ (x : List ℕ). x ++ m) w
      ∙ (append_assoc t (rules_text component (drop place l)) m
      ∙ (λ j. t ++ (rules_text component (drop place (sym same j)) ++ m)))))

  -- or all of them, and the goals behind them follow
  pub rules-done : (i : ℕ) (l : List (Rule ℕ)) (place next : ℕ) (t v rest : List ℕ) → HasRules i l → v ++ rules_text component (drop next l) ≡ t ++ rules_text component (drop place l)
      → length l ≤ next → rest ≡ v ++ Goals (i + 1) → rest ≡ t ++ Lines (places.Rule i place)
  rules-done i l place next t v rest answer w over e =
      let m = Goals (i + 1) in
      e
      ∙ (ap (λ (k : List (Rule ℕ)). v ++ (rules_text component k ++ m)) (sym (drop_all next l over))
      ∙ (sym (append_assoc v (rules_text component (drop next l)) m)
      ∙ (ap (λ (x : List ℕ). x ++ m) w
      ∙ (append_assoc t (rules_text component (drop place l)) m
      ∙ (λ j. t ++ (rules_text component (drop place (sym (rules-read rows i l answer) j)) ++ m))))))

sum-next : (rows : List Shown) (i : ℕ) (l : List (Rule ℕ)) → option_map (λ (r : Shown). r.answer) (slice_get rows i) ≡ Some (Rules l) → sum_by (λ (r : Shown). rule_count r.answer) (take (suc i) rows) ≡ sum_by (λ (r : Shown). rule_count r.answer) (take i rows) + length l
sum-next [] i l e = cc
sum-next (x ∷ rows) zero l e =
    let a : x.answer ≡ Rules l = cc in
    let b : rule_count x.answer ≡ length l = ap rule_count a in
    let f = λ (r : Shown). rule_count r.answer in
    omega (arith, sum_by-cons f x [], b)
sum-next (x ∷ rows) (suc i) l e =
    let f = λ (r : Shown). rule_count r.answer in
    omega (arith, sum_by-cons f x (take (suc i) rows), sum_by-cons f x (take i rows), sum-next rows i l e)

pub sum-more : (rows : List Shown) (i : ℕ) (l : List (Rule ℕ)) → option_map (λ (r : Shown). r.answer) (slice_get rows i) ≡ Some (Rules l) → sum_by (λ (r : Shown). rule_count r.answer) (take (i + 1) rows) ≡ sum_by (λ (r : Shown). rule_count r.answer) (take i rows) + length l
sum-more rows i l e = let s : suc i ≡ i + 1 = omega arith in subst (λ n. sum_by (λ (r : Shown). rule_count r.answer) (take n rows) ≡ sum_by (λ (r : Shown). rule_count r.answer) (take i rows) + length l) s (sum-next rows i l e)
