-- Rows in a new numbering, breadth first.
use Rattle.std.proofs.Common.{◌≡◌, ℕ, zero, suc, ◌+◌, ◌<◌, ◌≤◌, true, List, [], ◌∷◌, ◌++◌, Option, None, Some, length, map, take, drop, get_or, slice_get, refl, sym, ap, subst, ◌∙◌, arith, ◌⊎◌, inl, inr, length-append, add-one, drop-cons}
use Rattle.std.specs.Prelude.{nat_eq, option_map, Contains}
use Rattle.std.specs.List.{position_or_len, filter_map, cons_option}
use Rattle.std.proofs.lemmas.Bool.Decides.{nat_tests}
use Rattle.std.proofs.lemmas.List.{length-map, map-append, take_more, take-append-drop, take_all}
use Rattle.std.proofs.lemmas.List.Elements.{filter_map-append, Contains-append_left, Contains-append_right}
use Rattle.std.proofs.lemmas.Option.{slice_get_within}
use Rattle.indexmap.specs.IndexSet.{insert_all}
use Rattle.cls_base.specs.declared.rule.Rule.{Rule}
use Rattle.cls_base.specs.declared.rule.Rule.TheVariants.{Head, Any}
use Rattle.cls_base.specs.Lists.{AreDistinct, AreBelow}
use Rattle.cls_base.proofs.Lists.{Contains-nil, Contains-here, Contains-later, Contains-cases, Contains-head, Contains-at, length-within}
use Rattle.cls_core.specs.declared.answer.Answer.{Answer}
use Rattle.cls_core.specs.declared.answer.Answer.TheVariants.{Rules, Wide}
use Rattle.cls_core.specs.Arguments.{HasUniqueAnswers, arguments_of, rules_of}
use Rattle.cls_base.specs.Arguments.{arguments_of_rule, arguments_in, map_rule}
use Rattle.cls_core.specs.Machine.{numbered}
use Rattle.cls_core.specs.Rows.{Row}
use Rattle.cls_core.specs.Canonical.{FirstOnes, no_more, fresh, again, IsNumbering}
use Rattle.cls_core.specs.Renumbering.{worked_off, found, answer_in, row_answer, order, placed, renumbered}
use Rattle.cls_core.specs.Grammar.{IsRowAnswer}
use Rattle.cls_core.proofs.Columns.{get-some}
use Rattle.cls_core.proofs.Canonical.{not-seen, closed-front}
use Rattle.cls_core.proofs.Finding.{found-reached, found-numbering}
use Rattle.cls_core.proofs.Renumbering.{place-is}
use Rattle.cls_core.specs.Closure.{IsReached, at_start, at_argument, AllReached, goals_of}
use Rattle.cls_grammar.specs.Grammars.{ruled_rows, book_of, wide_or, first_wide, MakeGrammar, BookHasNodesBelow}
use Rattle.cls_base.specs.Books.{HasNodesBelow, HaveNodesBelow}

pub nat-exact : (x y : ℕ) → nat_eq x y ≡ true → x ≡ y
nat-exact x y e = grind (arith, nat_tests)

pub nat-reflexive : (x : ℕ) → nat_eq x x ≡ true
nat-reflexive x = grind (arith, nat_tests)

below-next : (x n : ℕ) → x < suc n → (x ≡ n) ⊎ (x < n)
below-next x n h = grind arith

-- the numbers below n
count_down : ℕ → List ℕ
count_down zero = []
count_down (suc n) = n ∷ count_down n

count_down-length : (n : ℕ) → length (count_down n) ≡ n
unfolding count_down
count_down-length zero = refl
count_down-length (suc n) = ap suc (count_down-length n)

count_down-has : (n x : ℕ) → x < n → Contains (count_down n) x
unfolding count_down
count_down-has zero x h = absurd (omega arith)
count_down-has (suc n) x h = elim (below-next x n h) [ inl e ↦ Contains-head x n (count_down n) e | inr l ↦ Contains-later x n (count_down n) (count_down-has n x l) ]

-- distinct numbers below a bound are no more than it
pub numbers-below : (gs : List ℕ) (n : ℕ) → AreDistinct gs → ((x : ℕ) → Contains gs x → x < n) → length gs ≤ n
numbers-below gs n d h = omega (arith, length-within gs (count_down n) d (λ x m. count_down-has n x (h x m)), count_down-length n)

first-ones-differ : {seen xs ys : List ℕ} → FirstOnes seen xs ys → AreDistinct ys
first-ones-differ no_more = tt
first-ones-differ (fresh {seen = seen} {x = x} n h) = (λ m. not-seen x h m (Contains-here x seen), first-ones-differ h)
first-ones-differ (again s h) = first-ones-differ h

module _ {G : Type 0} (rows : List (Row G)) where
  -- a row by its goal and its answer
  pub row-of : (k : ℕ) (g : G) (a : Answer ℕ) → option_map (λ (r : Row G). r.goal) (slice_get rows k) ≡ Some g → option_map (λ (r : Row G). r.answer) (slice_get rows k) ≡ Some a → (r : Row G) × (slice_get rows k ≡ Some r) × (r.goal ≡ g) × (r.answer ≡ a)
  row-of k g a = by (slice_get rows k) refl
    where
      by : (o : Option (Row G)) → slice_get rows k ≡ o → option_map (λ (r : Row G). r.goal) o ≡ Some g → option_map (λ (r : Row G). r.answer) o ≡ Some a → (r : Row G) × (slice_get rows k ≡ Some r) × (r.goal ≡ g) × (r.answer ≡ a)
      by None e f h = cc
      by (Some r) e f h = (r, e, (let p : r.goal ≡ g = cc in p), (let p : r.answer ≡ a = cc in p))

  -- the answer of a row that is there
  pub row-answer : (k : ℕ) (a : Answer ℕ) → option_map (λ (r : Row G). r.answer) (slice_get rows k) ≡ Some a → IsRowAnswer rows k a
  row-answer k a = by (slice_get rows k) refl
    where
      by : (o : Option (Row G)) → slice_get rows k ≡ o → option_map (λ (r : Row G). r.answer) o ≡ Some a → IsRowAnswer rows k a
      by None e f = cc
      by (Some r) e f = (r, e, (let p : r.answer ≡ a = cc in p))

  pub answer-of : (k : ℕ) (a : Answer ℕ) → option_map (λ (r : Row G). r.answer) (slice_get rows k) ≡ Some a → row_answer rows k ≡ a
  answer-of k a = by (slice_get rows k)
    where
      by : (o : Option (Row G)) → option_map (λ (r : Row G). r.answer) o ≡ Some a → answer_in o ≡ a
      by None e = cc
      by (Some r) e = cc

  abbrev found_rows : ℕ → List ℕ
  found_rows k = found nat_eq (row_answer rows) 0 k

  pub found-more : (ks : List ℕ) (k row : ℕ) (a : Answer ℕ) (new : List ℕ) → ks ≡ found_rows k → slice_get ks k ≡ Some row → option_map (λ (r : Row G). r.answer) (slice_get rows row) ≡ Some a → new ≡ insert_all nat_eq ks (arguments_of a) → new ≡ found_rows (k + 1)
  found-more ks k row a new e at is grows =
      let same : found_rows (suc k) ≡ insert_all nat_eq (found_rows k) (arguments_of (row_answer rows row)) = ap (worked_off nat_eq (row_answer rows) (found_rows k)) (subst (λ l. slice_get l k ≡ Some row) e at) in
      rw add-one (grows ∙ ((λ i. insert_all nat_eq (e i) (arguments_of (sym (answer-of row a is) i))) ∙ sym same))

  pub found-same : (ks : List ℕ) (k : ℕ) → ks ≡ found_rows k → slice_get ks k ≡ None → ks ≡ found_rows (k + 1)
  found-same ks k e at =
      let same : found_rows (suc k) ≡ found_rows k = ap (worked_off nat_eq (row_answer rows) (found_rows k)) (subst (λ l. slice_get l k ≡ None) e at) in
      rw add-one (e ∙ sym same)

module _ {G : Type 0} (rows : List (Row G)) (made : MakeGrammar rows) where
  pub within-answer : (k n : ℕ) (a : Answer ℕ) → IsRowAnswer rows k a → Contains (arguments_of a) n → n < length rows
  within-answer k n a (r, at, is) h = made.1.within k r at n (subst (λ x. Contains (arguments_of x) n) (sym is) h)

  pub some-row : 0 < length rows
  some-row = omega (arith, slice_get_within (goals_of rows) 0 made.0 made.1.first, length-map rows (λ (r : Row G). r.goal))

  pub reached-within : {n : ℕ} → IsReached (IsRowAnswer rows) 0 n → n < length rows
  reached-within at_start = some-row
  reached-within (at_argument g h a r is m) = within-answer g h a is m

  -- the answer of a row that is reached
  reached-answer : (n : ℕ) → IsReached (IsRowAnswer rows) 0 n → IsRowAnswer rows n (row_answer rows n)
  reached-answer n r = let u = get-some rows n (reached-within r) in (u.0, u.1, sym (ap answer_in u.1))

  one-answer : HasUniqueAnswers (IsRowAnswer rows)
  one-answer n a b (r, at, is) (q, bt, are) = let same : r ≡ q = cc in sym is ∙ (ap (λ (x : Row G). x.answer) same ∙ are)

  numbers-few : (gs : List ℕ) → AreDistinct gs → AllReached (IsRowAnswer rows) 0 gs → length gs ≤ length rows
  numbers-few gs d q = numbers-below gs (length rows) d (λ x m. reached-within (q x m))

  numbering : IsNumbering (IsRowAnswer rows) 0 (order rows)
  numbering = found-numbering nat_eq nat-exact nat-reflexive (IsRowAnswer rows) 0 (row_answer rows) reached-answer (length rows) numbers-few

  -- the row that is found at a place is a row
  pub found-within : (ks : List ℕ) (k p row : ℕ) → ks ≡ found_rows rows k → slice_get ks p ≡ Some row → row < length rows
  found-within ks k p row e at = reached-within (found-reached nat_eq nat-exact nat-reflexive (IsRowAnswer rows) 0 (row_answer rows) reached-answer k row (subst (λ l. Contains l row) e (Contains-at ks p row at)))

  pub order-holds : (n : ℕ) → IsReached (IsRowAnswer rows) 0 n → Contains (order rows) n
  order-holds n r = closed-front (IsRowAnswer rows) 0 one-answer (order rows) (order rows) numbering.answers numbering.answered (λ g m. m) numbering.breadth_first n r

  -- the arguments of the rows that are found are found
  pub order-known : (n m : ℕ) → Contains (order rows) n → Contains (arguments_of (row_answer rows n)) m → Contains (order rows) m
  order-known n m h k = let r = numbering.reached n h in order-holds m (at_argument n m (row_answer rows n) r (reached-answer n r) k)

  pub order-within : (n : ℕ) → Contains (order rows) n → n < length rows
  order-within n h = reached-within (numbering.reached n h)

  pub order-few : length (order rows) ≤ length rows
  order-few = numbers-few (order rows) (first-ones-differ numbering.breadth_first) numbering.reached

  some-of : (ns : List ℕ) (n : ℕ) → Contains ns n → 1 ≤ length ns
  some-of [] n h = absurd (Contains-nil n h)
  some-of (m ∷ ns) n h = omega arith

  pub order-some : 1 ≤ length (order rows)
  order-some = some-of (order rows) 0 (order-holds 0 at_start)

module _ {G : Type 0} (rows : List (Row G)) (made : MakeGrammar rows) (keys : List ℕ) (e : keys ≡ order rows) where
  found-has : (i row : ℕ) → slice_get keys i ≡ Some row → Contains (order rows) row
  found-has i row at = subst (λ l. Contains l row) e (Contains-at keys i row at)

  pub found-row : (i row : ℕ) → slice_get keys i ≡ Some row → row < length rows
  found-row i row at = order-within rows made row (found-has i row at)

  pub found-known : (i row : ℕ) (old : List (Rule ℕ)) → slice_get keys i ≡ Some row → option_map (λ (r : Row G). r.answer) (slice_get rows row) ≡ Some (Rules old) → (n : ℕ) → Contains (arguments_in old) n → Contains keys n
  found-known i row old at is n h = subst (λ l. Contains l n) (sym e) (order-known rows made row n (found-has i row at) (subst (λ a. Contains (arguments_of a) n) (sym (answer-of rows row (Rules old) is)) h))

  pub found-few : length keys ≤ length rows
  found-few = omega (arith, ap length e, order-few rows made)

  pub found-some : 1 ≤ length keys
  found-some = omega (arith, ap length e, order-some rows made)

module _ (keys : List ℕ) where
  abbrev pub place : ℕ → ℕ
  place n = position_or_len (nat_eq n) keys

  pub place-within : (n : ℕ) → Contains keys n → place n < length keys
  place-within n h = slice_get_within keys (place n) n (place-is nat_eq nat-exact nat-reflexive keys n h)

  numbers-within : (ns : List ℕ) → ((n : ℕ) → Contains ns n → Contains keys n) → AreBelow (length keys) (map place ns)
  numbers-within [] h = tt
  numbers-within (n ∷ ns) h = (place-within n (h n (Contains-here n ns)), numbers-within ns (λ m k. h m (Contains-later m n ns k)))

  rule-within : (r : Rule ℕ) → ((n : ℕ) → Contains (arguments_of_rule r) n → Contains keys n) → HasNodesBelow (length keys) (map_rule place r)
  rule-within (Head x ns) h = numbers-within ns h
  rule-within (Any l m) h = (place-within l (h l (Contains-here l (m ∷ []))), place-within m (h m (Contains-later m l (m ∷ []) (Contains-here m []))))

  rules-within : (rs : List (Rule ℕ)) → ((n : ℕ) → Contains (arguments_in rs) n → Contains keys n) → HaveNodesBelow (length keys) (map (map_rule place) rs)
  rules-within [] h = tt
  rules-within (r ∷ rs) h = (rule-within r (λ n k. h n (Contains-append_left (arguments_of_rule r) (arguments_in rs) n k)), rules-within rs (λ n k. h n (Contains-append_right (arguments_of_rule r) (arguments_in rs) n k)))

pub BookHasNodesBelow-push : (n : ℕ) (book : List (List (Rule ℕ))) (rs : List (Rule ℕ)) → BookHasNodesBelow n book → HaveNodesBelow n rs → BookHasNodesBelow n (book ++ rs ∷ [])
BookHasNodesBelow-push n [] rs h w = (w, tt)
BookHasNodesBelow-push n (ss ∷ book) rs h w = (h.0, BookHasNodesBelow-push n book rs h.1 w)

module _ {G : Type 0} where
  pub ruled-push : (gs : List G) (ls : List (List (Rule ℕ))) (g : G) (l : List (Rule ℕ)) → length ls ≡ length gs → ruled_rows (gs ++ g ∷ []) (ls ++ l ∷ []) ≡ ruled_rows gs ls ++ record { goal = g; answer = Rules l } ∷ []
  ruled-push [] [] g l e = refl
  ruled-push [] (m ∷ ls) g l e = absurd (omega (arith, e))
  ruled-push (h ∷ gs) [] g l e = absurd (omega (arith, e))
  ruled-push (h ∷ gs) (m ∷ ls) g l e = ap (λ rest. record { goal = h; answer = Rules m } ∷ rest) (ruled-push gs ls g l (omega (arith, e)))

  -- rows with rules are passed over
  pub first-ruled : (gs : List G) (ls : List (List (Rule ℕ))) (rest : List (Row G)) → first_wide (ruled_rows gs ls ++ rest) ≡ first_wide rest
  first-ruled [] ls rest = refl
  first-ruled (g ∷ gs) [] rest = refl
  first-ruled (g ∷ gs) (l ∷ ls) rest = first-ruled gs ls rest

  pub none-first : (gs : List G) (ls : List (List (Rule ℕ))) → first_wide (ruled_rows gs ls) ≡ None
  none-first [] ls = refl
  none-first (g ∷ gs) [] = refl
  none-first (g ∷ gs) (l ∷ ls) = none-first gs ls

  pub wide-has : (xs : List (Row G)) (r : Row G) → Contains xs r → r.answer ≡ Wide → first_wide xs ≡ None → ⊥
  wide-has [] r h w e = Contains-nil r h
  wide-has (x ∷ xs) r h w e = by (λ m f. wide-has xs r m w f) (Contains-cases x xs r h) x.answer refl e
    where
      by : (Contains xs r → first_wide xs ≡ None → ⊥) → (r ≡ x) ⊎ Contains xs r → (a : Answer ℕ) → x.answer ≡ a → wide_or x.goal a (first_wide xs) ≡ None → ⊥
      by rest (inl s) (Rules rs) is f = let t : Rules rs ≡ Wide = sym is ∙ (ap (λ (q : Row G). q.answer) (sym s) ∙ w) in cc
      by rest (inr m) (Rules rs) is f = rest m f
      by rest there Wide is f = cc

  wide-at : (xs : List (Row G)) (g : G) → first_wide xs ≡ Some g → (k : ℕ) × (r : Row G) × (slice_get xs k ≡ Some r) × (r.answer ≡ Wide)
  wide-at [] g e = cc
  wide-at (x ∷ xs) g e = by (wide-at xs g) x.answer refl e
    where
      by : (first_wide xs ≡ Some g → (k : ℕ) × (r : Row G) × (slice_get xs k ≡ Some r) × (r.answer ≡ Wide)) → (a : Answer ℕ) → x.answer ≡ a → wide_or x.goal a (first_wide xs) ≡ Some g → (k : ℕ) × (r : Row G) × (slice_get (x ∷ xs) k ≡ Some r) × (r.answer ≡ Wide)
      by rest (Rules rs) is f = let u = rest f in (suc u.0, u.1, u.2, u.3)
      by rest Wide is f = (zero, x, refl, is)

module _ {G : Type 0} (rows : List (Row G)) (keys : List ℕ) where
  -- the first rows, as many as the number says, stand in the columns
  pub record IsPlaced (i : ℕ) (goals : List G) (lists : List (List (Rule ℕ))) : Type 0 where
    pub goals_are : length goals ≡ i
    pub lists_are : length lists ≡ i
    pub rows_are : ruled_rows goals lists ≡ map (placed keys) (filter_map (slice_get rows) (take i keys))
    pub within : BookHasNodesBelow (length keys) (book_of (ruled_rows goals lists))

  pub none-placed : IsPlaced 0 [] []
  none-placed = record { goals_are = refl; lists_are = refl; rows_are = refl; within = tt }

  row-placed : (r : Row G) (g : G) (old : List (Rule ℕ)) → r.goal ≡ g → r.answer ≡ Rules old → placed keys r ≡ record { goal = g; answer = Rules (map (map_rule (place keys)) old) }
  row-placed r g old e f = λ i. record { goal = e i; answer = numbered nat_eq keys (f i) }

  pub one-placed : (i row : ℕ) (goals gs : List G) (lists ls : List (List (Rule ℕ))) (g : G) (old new : List (Rule ℕ))
      → i < length keys → row ≡ get_or keys i row
      → option_map (λ (r : Row G). r.goal) (slice_get rows row) ≡ Some g → option_map (λ (r : Row G). r.answer) (slice_get rows row) ≡ Some (Rules old)
      → ((n : ℕ) → Contains (arguments_in old) n → Contains keys n)
      → new ≡ map (map_rule (place keys)) old → gs ≡ goals ++ g ∷ [] → ls ≡ lists ++ new ∷ []
      → IsPlaced i goals lists → IsPlaced (i + 1) gs ls
  one-placed i row goals gs lists ls g old new less at goal answer known is more_goals more_lists p =
      let u = row-of rows row g (Rules old) goal answer in
      let rows_now : ruled_rows gs ls ≡ ruled_rows goals lists ++ record { goal = g; answer = Rules new } ∷ [] =
      (λ j. ruled_rows (more_goals j) (more_lists j)) ∙ ruled-push goals lists g new (p.lists_are ∙ sym p.goals_are) in
      let next : filter_map (slice_get rows) (take (i + 1) keys) ≡ filter_map (slice_get rows) (take i keys) ++ u.0 ∷ [] =
      ap (filter_map (slice_get rows)) (take_more keys i row less ∙ ap (λ n. take i keys ++ n ∷ []) (sym at))
      ∙ (filter_map-append (slice_get rows) (take i keys) (row ∷ []) ∙ ap (λ o. filter_map (slice_get rows) (take i keys) ++ cons_option o []) u.1) in
      record {
        goals_are = omega (arith, ap length more_goals, length-append goals (g ∷ []), p.goals_are);
        lists_are = omega (arith, ap length more_lists, length-append lists (new ∷ []), p.lists_are);
        rows_are =
            rows_now
            ∙ ((λ j. p.rows_are j ++ record { goal = g; answer = Rules (is j) } ∷ [])
            ∙ ((λ j. map (placed keys) (filter_map (slice_get rows) (take i keys)) ++ sym (row-placed u.0 g old u.2 u.3) j ∷ [])
            ∙ (sym (map-append (placed keys) (filter_map (slice_get rows) (take i keys)) (u.0 ∷ []))
            ∙ ap (map (placed keys)) (sym next))));
        within = subst (λ l. BookHasNodesBelow (length keys) (book_of l)) (sym rows_now) (subst (BookHasNodesBelow (length keys)) (sym (map-append (λ (r : Row G). (rules_of r.answer)) (ruled_rows goals lists) (record { goal = g; answer = Rules new } ∷ []))) (BookHasNodesBelow-push (length keys) (book_of (ruled_rows goals lists)) new p.within (subst (λ l. HaveNodesBelow (length keys) l) (sym is) (rules-within keys old known))));
      }

  -- where a wide row comes next it is the first one
  pub wide-next : (i row : ℕ) (goals : List G) (lists : List (List (Rule ℕ))) (g : G)
      → i < length keys → row ≡ get_or keys i row
      → option_map (λ (r : Row G). r.goal) (slice_get rows row) ≡ Some g → option_map (λ (r : Row G). r.answer) (slice_get rows row) ≡ Some Wide
      → IsPlaced i goals lists → first_wide (map (placed keys) (filter_map (slice_get rows) keys)) ≡ Some g
  wide-next i row goals lists g less at goal answer p =
      let u = row-of rows row g Wide goal answer in
      let split : keys ≡ take i keys ++ row ∷ drop (suc i) keys = sym (take-append-drop i keys) ∙ (ap (λ l. take i keys ++ l) (drop-cons keys i row less) ∙ ap (λ n. take i keys ++ n ∷ drop (suc i) keys) (sym at)) in
      let rest = filter_map (slice_get rows) (drop (suc i) keys) in
      let parts : map (placed keys) (filter_map (slice_get rows) keys) ≡ ruled_rows goals lists ++ placed keys u.0 ∷ map (placed keys) rest =
      ap (λ l. map (placed keys) (filter_map (slice_get rows) l)) split
      ∙ (ap (map (placed keys)) (filter_map-append (slice_get rows) (take i keys) (row ∷ drop (suc i) keys) ∙ ap (λ o. filter_map (slice_get rows) (take i keys) ++ cons_option o rest) u.1)
      ∙ (map-append (placed keys) (filter_map (slice_get rows) (take i keys)) (u.0 ∷ rest)
      ∙ ap (λ l. l ++ placed keys u.0 ∷ map (placed keys) rest) (sym p.rows_are))) in
      ap first_wide parts
      ∙ (first-ruled goals lists (placed keys u.0 ∷ map (placed keys) rest)
      ∙ (λ j. wide_or (u.2 j) (numbered nat_eq keys (u.3 j)) (first_wide (map (placed keys) rest))))

  pub all-placed : (goals : List G) (lists : List (List (Rule ℕ))) (i : ℕ) → length keys ≤ i → IsPlaced i goals lists → ruled_rows goals lists ≡ map (placed keys) (filter_map (slice_get rows) keys)
  all-placed goals lists i h p = p.rows_are ∙ ap (λ l. map (placed keys) (filter_map (slice_get rows) l)) (take_all i keys h)

  row-has : (ks : List ℕ) (k : ℕ) (r : Row G) → slice_get rows k ≡ Some r → Contains ks k → Contains (map (placed keys) (filter_map (slice_get rows) ks)) (placed keys r)
  row-has [] k r e h = absurd (Contains-nil k h)
  row-has (x ∷ ks) k r e h = elim (Contains-cases x ks k h) [
    | inl s ↦ subst (λ o. Contains (map (placed keys) (cons_option o (filter_map (slice_get rows) ks))) (placed keys r)) (sym e ∙ ap (slice_get rows) s) (Contains-here (placed keys r) (map (placed keys) (filter_map (slice_get rows) ks)))
    | inr m ↦ by (row-has ks k r e m) (slice_get rows x)
  ]
    where
      by : Contains (map (placed keys) (filter_map (slice_get rows) ks)) (placed keys r) → (o : Option (Row G)) → Contains (map (placed keys) (cons_option o (filter_map (slice_get rows) ks))) (placed keys r)
      by rest None = rest
      by rest (Some q) = Contains-later (placed keys r) (placed keys q) (map (placed keys) (filter_map (slice_get rows) ks)) rest

-- where no renumbered row is wide, no row is
pub none-wide : {G : Type 0} (rows : List (Row G)) → MakeGrammar rows → first_wide (renumbered rows) ≡ None → first_wide rows ≡ None
none-wide {G} rows made e = by (first_wide rows) refl
  where
    by : (o : Option G) → first_wide rows ≡ o → o ≡ None
    by None f = refl
    by (Some g) f =
        let u = wide-at rows g f in
        let found = order-holds rows made u.0 (made.1.connected u.0 (slice_get_within rows u.0 u.1 u.2)) in
        absurd (wide-has (renumbered rows) (placed (order rows) u.1) (row-has rows (order rows) (order rows) u.0 u.1 u.2 found) (ap (numbered nat_eq (order rows)) u.3) e)
