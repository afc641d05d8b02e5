-- The nodes of a filtered book, one after another, and the room that is left.
use Rattle.std.proofs.Common.{◌≡◌, ℕ, zero, suc, ◌+◌, ◌-◌, ◌*◌, ◌^◌, ◌<◌, ◌≤◌, Bool, cond, List, [], ◌∷◌, ◌++◌, length, take, drop, refl, sym, ap, subst, ◌∙◌, arith, append_assoc, append-nil, take-append-drop}
use Rattle.std.proofs.lemmas.List.{take_more, take_all, length-take-le}
use Rattle.std.proofs.lemmas.List.Sums.{sum_by-cons}
use Rattle.cls_base.specs.Limits.{max_states}
use Rattle.cls_base.specs.declared.rule.Rule.{Rule}
use Rattle.cls_base.specs.Languages.{rules_at}
use Rattle.cls_filter.specs.Automata.{Automaton}
use Rattle.cls_filtered.specs.Filtered.{AreStatesOf, IsFiltered, HasLargeFilter, below, count_true, is_kept, rules_to, start_rules, pair_rules, filtered_book, rule_total}
use Rattle.cls_filtered.specs.Stepwise.{stepwise}
use Rattle.cls_filtered.specs.Makings.{MadeRules, IsMade, IsTooMuch, AreMade, IsFilteredBook, chosen, kept_rules, all_kept}
use Rattle.cls_filtered.proofs.Books.{filtered-nodes, filtered-length, filtered-book}
use Rattle.cls_filtered.proofs.FlagLists.{below-length, blocks-length}
use Rattle.cls_filtered.proofs.Leading.{below-next}
use Rattle.cls_filtered.proofs.Makings.{chosen-next, nodes-then, total-append}

one-total : (rs : List (Rule ℕ)) → rule_total (rs ∷ []) ≡ length rs
one-total rs = let first = sum_by-cons (λ (x : List (Rule ℕ)). length x) rs [] in let none : rule_total [] ≡ 0 = refl in omega (arith, first, none)

-- a node is closed behind the others
pub closed-node : (rs : List (Rule ℕ)) (begun made : MadeRules) (old new : List (List (Rule ℕ))) (room left : ℕ) → begun.rules ≡ [] → begun.room ≡ room → IsMade rs begun made → new ≡ old ++ made.rules ∷ [] → left ≡ made.room → AreMade (rs ∷ []) old new room left
closed-node rs begun made old new room left e f h g k =
    let rules : made.rules ≡ rs = h.rules ∙ ap (λ (qs : List (Rule ℕ)). qs ++ rs) e in
    record {
      nodes = g ∙ ap (λ (qs : List (Rule ℕ)). old ++ qs ∷ []) rules;
      room = omega (arith, f, h.room, k, one-total rs);
    }

-- where the rules that there is no room for are of a new node
pub closed-much : (rs : List (Rule ℕ)) (begun : MadeRules) (room : ℕ) → begun.room ≡ room → IsTooMuch rs begun → room < length rs
closed-much rs begun room e h = omega (arith, e, h)

pub one-much : (rs : List (Rule ℕ)) (room : ℕ) → room < length rs → room < rule_total (rs ∷ [])
one-much rs room h = omega (arith, h, one-total rs)

module _ (a : Automaton) (flags : List Bool) where
  -- the pairs of a node that are kept, state by state
  abbrev pub kept_below : ℕ → List (Rule ℕ) → ℕ → List (List (Rule ℕ))
  kept_below i rs n = chosen (is_kept flags i) (rules_to a flags rs) (below n)

  abbrev pub kept_at : ℕ → List (Rule ℕ) → ℕ → List (List (Rule ℕ))
  kept_at i rs q = cond (is_kept flags i q) (rules_to a flags rs q ∷ []) []

  kept-next : (i : ℕ) (rs : List (Rule ℕ)) (n : ℕ) → kept_below i rs (n + 1) ≡ kept_below i rs n ++ kept_at i rs n
  kept-next i rs n =
      ap (λ (qs : List ℕ). chosen (is_kept flags i) (rules_to a flags rs) qs) (below-next n)
      ∙ chosen-next (is_kept flags i) (rules_to a flags rs) (below n) n

  pub kept-more : (i : ℕ) (rs : List (Rule ℕ)) (n : ℕ) (old now new : List (List (Rule ℕ))) (room left rest : ℕ) → AreMade (kept_below i rs n) old now room left → AreMade (kept_at i rs n) now new left rest → AreMade (kept_below i rs (n + 1)) old new room rest
  kept-more i rs n old now new room left rest h k =
      subst (λ (made : List (List (Rule ℕ))). AreMade made old new room rest) (sym (kept-next i rs n))
      (nodes-then (kept_below i rs n) (kept_at i rs n) old now new room left rest h k)

  kept-front : (i : ℕ) (rs : List (Rule ℕ)) (n m : ℕ) → rule_total (kept_below i rs n) ≤ rule_total (kept_below i rs (n + m))
  kept-front i rs n zero = let same : n + 0 ≡ n = omega arith in let sizes = ap (λ (k : ℕ). rule_total (kept_below i rs k)) same in omega (arith, sizes)
  kept-front i rs n (suc m) =
      let one : n + suc m ≡ n + m + 1 = omega arith in
      let sizes = ap (λ (k : ℕ). rule_total (kept_below i rs k)) one in
      let more = ap rule_total (kept-next i rs (n + m)) in
      omega (arith, kept-front i rs n m, sizes, more, total-append (kept_below i rs (n + m)) (kept_at i rs (n + m)))

  pub kept-much : (i : ℕ) (rs : List (Rule ℕ)) (n : ℕ) (old now : List (List (Rule ℕ))) (room left : ℕ) → n < max_states → AreMade (kept_below i rs n) old now room left → left < rule_total (kept_at i rs n) → room < rule_total (kept_rules a flags i rs)
  kept-much i rs n old now room left l h k =
      let all : n + 1 + (max_states - (n + 1)) ≡ max_states = omega (arith, l) in
      let sizes = ap (λ (m : ℕ). rule_total (kept_below i rs m)) all in
      let more = ap rule_total (kept-next i rs n) in
      omega (arith, h.room, k, more, total-append (kept_below i rs n) (kept_at i rs n), sizes, kept-front i rs (n + 1) (max_states - (n + 1)))

  -- node by node
  kept-append : (i : ℕ) (xs ys : List (List (Rule ℕ))) → all_kept a flags i (xs ++ ys) ≡ all_kept a flags i xs ++ all_kept a flags (i + length xs) ys
  kept-append i [] ys = ap (λ (n : ℕ). all_kept a flags n ys) (let e : i ≡ i + 0 = omega arith in e)
  kept-append i (rs ∷ xs) ys =
      let place : suc i + length xs ≡ i + suc (length xs) = omega arith in
      ap (λ (nodes : List (List (Rule ℕ))). kept_rules a flags i rs ++ nodes) (kept-append (suc i) xs ys ∙ ap (λ (n : ℕ). all_kept a flags (suc i) xs ++ all_kept a flags n ys) place)
      ∙ sym (append_assoc (kept_rules a flags i rs) (all_kept a flags (suc i) xs) (all_kept a flags (i + suc (length xs)) ys))

  all-next : (book : List (List (Rule ℕ))) (n : ℕ) → n < length book → all_kept a flags 0 (take (n + 1) book) ≡ all_kept a flags 0 (take n book) ++ kept_rules a flags n (rules_at book n)
  all-next book n l =
      let size : 0 + length (take n book) ≡ n = omega (arith, length-take-le n book (omega (arith, l))) in
      ap (all_kept a flags 0) (take_more book n [] l)
      ∙ (kept-append 0 (take n book) (rules_at book n ∷ [])
      ∙ ap (λ (nodes : List (List (Rule ℕ))). all_kept a flags 0 (take n book) ++ nodes)
      (ap (λ (k : ℕ). all_kept a flags k (rules_at book n ∷ [])) size ∙ append-nil (kept_rules a flags n (rules_at book n))))

  -- the start, and the nodes of the first n nodes of the book
  abbrev pub nodes_to : List (List (Rule ℕ)) → ℕ → List (List (Rule ℕ))
  nodes_to book n = start_rules a flags (rules_at book 0) ∷ all_kept a flags 0 (take n book)

  pub nodes-begun : (book : List (List (Rule ℕ))) (rs : List (Rule ℕ)) (old new : List (List (Rule ℕ))) (room limit left : ℕ) → rs ≡ rules_at book 0 → old ≡ [] → room ≡ limit → AreMade (start_rules a flags rs ∷ []) old new room left → AreMade (nodes_to book 0) [] new limit left
  nodes-begun book rs old new room limit left e f g h =
      subst (λ (qs : List (Rule ℕ)). AreMade (start_rules a flags qs ∷ []) [] new limit left) e
      (subst (λ (nodes : List (List (Rule ℕ))). AreMade (start_rules a flags rs ∷ []) nodes new limit left) f
      (subst (λ (n : ℕ). AreMade (start_rules a flags rs ∷ []) old new n left) g h))

  pub nodes-more : (book : List (List (Rule ℕ))) (n : ℕ) (rs : List (Rule ℕ)) (now new : List (List (Rule ℕ))) (limit left rest : ℕ) → n < length book → rs ≡ rules_at book n → AreMade (nodes_to book n) [] now limit left → AreMade (kept_rules a flags n rs) now new left rest → AreMade (nodes_to book (n + 1)) [] new limit rest
  nodes-more book n rs now new limit left rest l e h k =
      let own = subst (λ (qs : List (Rule ℕ)). AreMade (kept_rules a flags n qs) now new left rest) e k in
      let both = nodes-then (nodes_to book n) (kept_rules a flags n (rules_at book n)) [] now new limit left rest h own in
      subst (λ (nodes : List (List (Rule ℕ))). AreMade (start_rules a flags (rules_at book 0) ∷ nodes) [] new limit rest) (sym (all-next book n l)) both

  total-front : (book : List (List (Rule ℕ))) (n : ℕ) → rule_total (all_kept a flags 0 (take n book)) ≤ rule_total (all_kept a flags 0 book)
  total-front book n =
      let whole = ap (λ (nodes : List (List (Rule ℕ))). rule_total (all_kept a flags 0 nodes)) (take-append-drop n book) in
      let parts = ap rule_total (kept-append 0 (take n book) (drop n book)) in
      omega (arith, whole, parts, total-append (all_kept a flags 0 (take n book)) (all_kept a flags (0 + length (take n book)) (drop n book)))

  -- what the whole book has
  module _ (book : List (List (Rule ℕ))) (sized : length flags ≡ length book * max_states) where
    total : rule_total (filtered_book a flags book) ≡ length (start_rules a flags (rules_at book 0)) + rule_total (all_kept a flags 0 book)
    total =
        ap rule_total (filtered-nodes a flags book sized)
        ∙ sum_by-cons (λ (x : List (Rule ℕ)). length x) (start_rules a flags (rules_at book 0)) (all_kept a flags 0 book)

    pub start-much : (rs : List (Rule ℕ)) (room limit : ℕ) → rs ≡ rules_at book 0 → room ≡ limit → room < length (start_rules a flags rs) → limit < rule_total (filtered_book a flags book)
    start-much rs room limit e f h =
        let same = ap (λ (qs : List (Rule ℕ)). length (start_rules a flags qs)) e in
        omega (arith, f, h, same, total)

    pub nodes-much : (n : ℕ) (rs : List (Rule ℕ)) (now : List (List (Rule ℕ))) (limit left : ℕ) → n < length book → rs ≡ rules_at book n → AreMade (nodes_to book n) [] now limit left → left < rule_total (kept_rules a flags n rs) → limit < rule_total (filtered_book a flags book)
    nodes-much n rs now limit left l e h k =
        let same = ap (λ (qs : List (Rule ℕ)). rule_total (kept_rules a flags n qs)) e in
        let so_far = sum_by-cons (λ (x : List (Rule ℕ)). length x) (start_rules a flags (rules_at book 0)) (all_kept a flags 0 (take n book)) in
        let more = ap rule_total (all-next book n l) in
        omega (arith, h.room, so_far, k, same, more, total-append (all_kept a flags 0 (take n book)) (kept_rules a flags n (rules_at book n)), total-front book (n + 1), total)

    pub nodes-all : (n : ℕ) (now : List (List (Rule ℕ))) (limit left : ℕ) → length book ≤ n → AreMade (nodes_to book n) [] now limit left → now ≡ filtered_book a flags book
    nodes-all n now limit left l h =
        h.nodes
        ∙ (ap (λ (nodes : List (List (Rule ℕ))). start_rules a flags (rules_at book 0) ∷ all_kept a flags 0 nodes) (take_all n book l) ∙ sym (filtered-nodes a flags book sized))

    pub nodes-within : (n : ℕ) (now : List (List (Rule ℕ))) (limit left : ℕ) → AreMade (nodes_to book n) [] now limit left → rule_total now ≤ limit
    nodes-within n now limit left h = let sizes = ap rule_total h.nodes in omega (arith, h.room, sizes)

    pub nodes-book : (now : List (List (Rule ℕ))) → count_true flags + 1 < 2 ^ 32 → now ≡ filtered_book a flags book → IsFilteredBook now
    nodes-book now few e =
        let pairs : length flags ≡ length (pair_rules a flags book) = omega (arith, sized, blocks-length (rules_to a flags) (below max_states) (below-length max_states) book) in
        let size = filtered-length a flags book pairs in
        let whole : IsFilteredBook (filtered_book a flags book) = record { rules = filtered-book a flags book pairs; few = omega (arith, few, size) } in
        subst (λ (b : List (List (Rule ℕ))). IsFilteredBook b) (sym e) whole

-- the filtered book of a book is that of its steps
pub made-filtered : (book steps : List (List (Rule ℕ))) (a : Automaton) (flags kept : List Bool) (made : List (List (Rule ℕ))) → steps ≡ stepwise book → AreStatesOf steps a flags → kept ≡ flags → made ≡ filtered_book a kept steps → IsFiltered book a made
made-filtered book steps a flags kept made e h f g = record {
  flags = flags;
  states = subst (λ (b : List (List (Rule ℕ))). AreStatesOf b a flags) e h;
  book_is = g ∙ (λ j. filtered_book a (f j) (e j));
}

pub large-filtered : (book steps : List (List (Rule ℕ))) (a : Automaton) (flags kept : List Bool) (limit : ℕ) → steps ≡ stepwise book → AreStatesOf steps a flags → kept ≡ flags → limit < rule_total (filtered_book a kept steps) → HasLargeFilter book a limit
large-filtered book steps a flags kept limit e h f l =
    (filtered_book a kept steps, made-filtered book steps a flags kept (filtered_book a kept steps) e h f refl, l)
