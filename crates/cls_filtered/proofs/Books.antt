-- A filtered book node by node; and it is a rule book.
use Rattle.std.proofs.Common.{◌≡◌, ℕ, zero, suc, ◌+◌, ◌*◌, ◌<◌, ◌≤◌, Bool, true, false, cond, List, [], ◌∷◌, ◌++◌, length, get_or, drop, map, refl, sym, ap, subst, ◌∙◌, inl, inr, ◌⊎◌, arith}
use Rattle.std.specs.Prelude.{Contains, filter}
use Rattle.std.proofs.lemmas.Bool.{false≢true, cases_lt}
use Rattle.std.proofs.lemmas.List.{get_or-drop, get_or_past, drop-drop, take_all, length-drop}
use Rattle.cls_base.specs.Limits.{max_states}
use Rattle.cls_base.specs.declared.rule.Rule.{Rule}
use Rattle.cls_base.specs.Books.{HasNodesBelow, HaveNodesBelow}
use Rattle.cls_base.specs.Languages.{rules_at}
use Rattle.cls_base.proofs.Lists.{Contains-nil, Contains-here, Contains-later, Contains-cases, Contains-from_map, Contains-from_flat_map}
use Rattle.cls_filter.specs.Automata.{Automaton, is_accepting}
use Rattle.cls_filtered.specs.Filtered.{IsRuleBook, below, pair_of, count_true, picked, is_kept, node_of, rules_to, pair_rules, start_rules, filtered_book}
use Rattle.cls_filtered.specs.Makings.{chosen, kept_rules, all_kept}
use Rattle.cls_filtered.proofs.FlagLists.{below-length, below-at, count-less}
use Rattle.cls_filtered.proofs.Pairs.{IsLeafOf, IsApplicationOf, rules_to-cases}

cond-append : {A : Type 0} (b : Bool) (x : A) (xs ys : List A) → cond b (x ∷ (xs ++ ys)) (xs ++ ys) ≡ cond b (x ∷ xs) xs ++ ys
cond-append true x xs ys = refl
cond-append false x xs ys = refl

-- what is picked of a block, whose flags come first
picked-block : {A : Type 0} (flags : List Bool) (qs : List ℕ) (rest : List A) (g : ℕ → A) (kept : ℕ → Bool) → length qs ≤ length flags → ((k : ℕ) → k < length qs → get_or flags k false ≡ kept (get_or qs k 0)) → picked flags (map g qs ++ rest) ≡ chosen kept g qs ++ picked (drop (length qs) flags) rest
picked-block flags [] rest g kept l h = refl
picked-block [] (q ∷ qs) rest g kept l h = absurd (omega (arith, l))
picked-block (b ∷ flags) (q ∷ qs) rest g kept l h =
    let behind = picked-block flags qs rest g kept (omega (arith, l)) (λ k m. h (suc k) (omega (arith, m))) in
    let first : b ≡ kept q = h 0 (omega arith) in
    (λ j. cond (first j) (g q ∷ behind j) (behind j)) ∙ cond-append (kept q) (g q) (chosen kept g qs) (picked (drop (length qs) flags) rest)

module _ (a : Automaton) (flags : List Bool) where
  -- the nodes that are picked are those of each node of the book in turn
  picked-from : (i : ℕ) (book : List (List (Rule ℕ))) → (i + length book) * 16 ≤ length flags → picked (drop (i * 16) flags) (pair_rules a flags book) ≡ all_kept a flags i book
  picked-from i [] l = none (drop (i * 16) flags)
    where
      none : (fs : List Bool) → picked {A = List (Rule ℕ)} fs [] ≡ []
      none [] = refl
      none (b ∷ fs) = refl
  picked-from i (rs ∷ book) l =
      let states = below max_states in
      let sixteen : length states ≡ 16 = below-length max_states in
      let here = picked-block (drop (i * 16) flags) states (pair_rules a flags book) (rules_to a flags rs) (is_kept flags i) (omega (arith, l, sixteen, length-drop (i * 16) flags)) (λ k m.
      let small : k < 16 = omega (arith, m, sixteen) in
      get_or-drop (i * 16) flags k false ∙ ap (λ (q : ℕ). is_kept flags i q) (sym (below-at max_states k 0 small))) in
      let next : drop (length states) (drop (i * 16) flags) ≡ drop (suc i * 16) flags =
      drop-drop (length states) (i * 16) flags ∙ ap (λ (n : ℕ). drop n flags) (let e : i * 16 + length states ≡ suc i * 16 = omega (arith, sixteen) in e) in
      here
      ∙ ap (λ (fs : List Bool). kept_rules a flags i rs ++ picked fs (pair_rules a flags book)) next
      ∙ ap (λ (more : List (List (Rule ℕ))). kept_rules a flags i rs ++ more) (picked-from (suc i) book (omega (arith, l)))

  pub filtered-nodes : (book : List (List (Rule ℕ))) → length flags ≡ length book * max_states → filtered_book a flags book ≡ start_rules a flags (rules_at book 0) ∷ all_kept a flags 0 book
  filtered-nodes book h =
      ap (λ (nodes : List (List (Rule ℕ))). start_rules a flags (rules_at book 0) ∷ nodes) (picked-from 0 book (omega (arith, h)))

  -- a kept pair is a node of the filtered book
  kept-below : (i q : ℕ) → is_kept flags i q ≡ true → node_of flags i q < suc (count_true flags)
  kept-below i q h = by (cases_lt (pair_of i q) (length flags))
    where
      by : (pair_of i q < length flags) ⊎ (length flags ≤ pair_of i q) → node_of flags i q < suc (count_true flags)
      by (inl l) = let whole = ap count_true (take_all (length flags) flags (omega arith)) in omega (arith, whole, count-less flags (pair_of i q) (length flags) l h)
      by (inr l) = absurd (false≢true (sym (get_or_past flags (pair_of i q) false l) ∙ h))

  rule-below : (rs : List (Rule ℕ)) (q : ℕ) (r : Rule ℕ) → Contains (rules_to a flags rs q) r → HasNodesBelow (suc (count_true flags)) r
  rule-below rs q r c = by (rules_to-cases a flags rs q r c)
    where
      by : IsLeafOf a flags rs q r ⊎ IsApplicationOf a flags rs q r → HasNodesBelow (suc (count_true flags)) r
      by (inl l) = subst (λ (p : Rule ℕ). HasNodesBelow (suc (count_true flags)) p) (sym l.alone) tt
      by (inr l) = subst (λ (p : Rule ℕ). HasNodesBelow (suc (count_true flags)) p) (sym l.applied) (kept-below l.left l.left_state l.left_kept, kept-below l.right l.right_state l.right_kept)

  all-below : (n : ℕ) (rs : List (Rule ℕ)) → ((r : Rule ℕ) → Contains rs r → HasNodesBelow n r) → HaveNodesBelow n rs
  all-below n [] h = tt
  all-below n (r ∷ rs) h = (h r (Contains-here r rs), all-below n rs (λ q c. h q (Contains-later q r rs c)))

  picked-has : {A : Type 0} (fs : List Bool) (xs : List A) (x : A) → Contains (picked fs xs) x → Contains xs x
  picked-has {A = A} [] xs x c = absurd (Contains-nil x c)
  picked-has {A = A} (b ∷ fs) [] x c = absurd (Contains-nil x c)
  picked-has {A = A} (true ∷ fs) (y ∷ xs) x c = elim (Contains-cases y (picked fs xs) x c) [
    | inl e ↦ subst (λ (z : A). Contains (y ∷ xs) z) (sym e) (Contains-here y xs)
    | inr d ↦ Contains-later x y xs (picked-has fs xs x d)
  ]
  picked-has {A = A} (false ∷ fs) (y ∷ xs) x c = Contains-later x y xs (picked-has fs xs x c)

  picked-length : {A : Type 0} (fs : List Bool) (xs : List A) → length fs ≡ length xs → length (picked fs xs) ≡ count_true fs
  picked-length [] xs e = refl
  picked-length (b ∷ fs) [] e = absurd (omega (arith, e))
  picked-length (true ∷ fs) (x ∷ xs) e = ap suc (picked-length fs xs (omega (arith, e)))
  picked-length (false ∷ fs) (x ∷ xs) e = picked-length fs xs (omega (arith, e))

  -- the rules of each node are rules for a state
  node-below : (book nodes : List (List (Rule ℕ))) (j : ℕ) → ((rs : List (Rule ℕ)) → Contains nodes rs → Contains (pair_rules a flags book) rs) → HaveNodesBelow (suc (count_true flags)) (rules_at nodes j)
  node-below book [] j h = tt
  node-below book (rs ∷ nodes) zero h =
      let u = Contains-from_flat_map (λ (ps : List (Rule ℕ)). map (rules_to a flags ps) (below max_states)) book rs (h rs (Contains-here rs nodes)) in
      let v = Contains-from_map (rules_to a flags u.0) (below max_states) rs u.2 in
      all-below (suc (count_true flags)) rs (λ r c. rule-below u.0 v.0 r (subst (λ (ps : List (Rule ℕ)). Contains ps r) v.2 c))
  node-below book (rs ∷ nodes) (suc j) h = node-below book nodes j (λ ps c. h ps (Contains-later ps rs nodes c))

  start-below : (rs : List (Rule ℕ)) → HaveNodesBelow (suc (count_true flags)) (start_rules a flags rs)
  start-below rs =
      all-below (suc (count_true flags)) (start_rules a flags rs) (λ r c.
      let u = Contains-from_flat_map (rules_to a flags rs) (filter (is_accepting a) (below max_states)) r c in
      rule-below rs u.0 r u.2)

  pub filtered-length : (book : List (List (Rule ℕ))) → length flags ≡ length (pair_rules a flags book) → length (filtered_book a flags book) ≡ suc (count_true flags)
  filtered-length book e = ap suc (picked-length flags (pair_rules a flags book) e)

  -- the filtered book is a rule book
  pub filtered-book : (book : List (List (Rule ℕ))) → length flags ≡ length (pair_rules a flags book) → IsRuleBook (filtered_book a flags book)
  filtered-book book e =
      let size = filtered-length book e in
      record {
        some = omega (arith, size);
        within = λ j. subst (λ (n : ℕ). HaveNodesBelow n (rules_at (filtered_book a flags book) j)) (sym size) (each j);
      }
    where
      each : (j : ℕ) → HaveNodesBelow (suc (count_true flags)) (rules_at (filtered_book a flags book) j)
      each zero = start-below (rules_at book 0)
      each (suc j) = node-below book (picked flags (pair_rules a flags book)) j (λ rs c. picked-has flags (pair_rules a flags book) rs c)
