-- A grammar without its useless rules, and what it generates.
use Rattle.std.proofs.Common.{◌≡◌, ℕ, zero, suc, ◌+◌, ◌<◌, ◌≤◌, Bool, true, false, cond, ◌&&◌, List, [], ◌∷◌, ◌++◌, Option, None, Some, length, map, take, get_or, slice_get, refl, sym, ap, subst, ◌∙◌, arith, ◌⊎◌, inl, inr, length-append, append-nil}
use Rattle.std.specs.Prelude.{option_map, filter, Contains}
use Rattle.std.specs.List.{list_all}
use Rattle.std.proofs.lemmas.List.{map-append, take_more, take_all}
use Rattle.std.proofs.lemmas.List.Elements.{filter_more}
use Rattle.std.proofs.lemmas.Option.{slice_get_within, get_or_from_slice_get}
use Rattle.cls_base.specs.Terms.{Applicative}
use Rattle.cls_base.specs.declared.rule.Rule.{Rule}
use Rattle.cls_base.specs.declared.rule.Rule.TheVariants.{Head, Any}
use Rattle.cls_base.specs.Languages.{Generates, Applies, by_head, by_any, done, next, NodeRule, rules_at}
use Rattle.cls_base.proofs.Lists.{Contains-nil, Contains-here, Contains-later, Contains-cases, Contains-head}
use Rattle.cls_core.specs.declared.answer.Answer.{Answer}
use Rattle.cls_core.specs.declared.answer.Answer.TheVariants.{Rules, Wide}
use Rattle.cls_core.specs.Arguments.{rules_of}
use Rattle.cls_base.specs.Arguments.{arguments_of_rule}
use Rattle.cls_core.specs.Rows.{Row}
use Rattle.cls_core.proofs.Columns.{get-some}
use Rattle.cls_grammar.specs.Grammars.{ruled_rows, book_of, BookHasNodesBelow}
use Rattle.cls_grammar.specs.Ranks.{HasTree, head_tree, any_tree, IsProductive, IsProductiveIn, AreProductive}
use Rattle.cls_grammar.specs.Trimming.{is_flagged, is_useful, useful_answer, useful_row, IsTrimmed, HaveSameLanguages}
use Rattle.cls_grammar.proofs.Places.{row-of, ruled-push, BookHasNodesBelow-push}
use Rattle.cls_grammar.proofs.Trees.{makes_tree}
use Rattle.cls_grammar.proofs.Climbing.{rules-none}
use Rattle.cls_base.specs.Books.{HaveNodesBelow}

-- a rule relation within another one
module _ (R S : ℕ → Rule ℕ → Type 0) (f : (i : ℕ) (r : Rule ℕ) → R i r → S i r) where
  mutual
    generates-more : {i : ℕ} {e : Applicative} → Generates ℕ R i e → Generates ℕ S i e
    generates-more (by_head {i = i} {x = x} {ns = ns} r a) = by_head (f i (Head x ns) r) (applies-more a)
    generates-more (by_any {i = i} {l = l} {m = m} r g h) = by_any (f i (Any l m) r) (generates-more g) (generates-more h)

    applies-more : {g e : Applicative} {ns : List ℕ} → Applies ℕ R g ns e → Applies ℕ S g ns e
    applies-more done = done
    applies-more (next g a) = next (generates-more g) (applies-more a)

module _ (R : ℕ → Rule ℕ → Type 0) where
  abbrev AllProductive : List ℕ → Type 0
  AllProductive ns = (n : ℕ) → Contains ns n → IsProductive ℕ R n

  -- a rule whose arguments are productive
  abbrev Useful : ℕ → Rule ℕ → Type 0
  Useful i r = R i r × AllProductive (arguments_of_rule r)

  more-productive : (n : ℕ) (ns : List ℕ) → IsProductive ℕ R n → AllProductive ns → AllProductive (n ∷ ns)
  more-productive n ns p q m h = elim (Contains-cases n ns m h) [ inl e ↦ subst (IsProductive ℕ R) (sym e) p | inr k ↦ q m k ]

  none-productive : AllProductive []
  none-productive n h = absurd (Contains-nil n h)

  mutual
    by-useful : {i : ℕ} {e : Applicative} → Generates ℕ R i e → Generates ℕ Useful i e
    by-useful (by_head r a) = let u = all-useful a in by_head (r, u.0) u.1
    by-useful (by_any {l = l} {m = m} r g h) = by_any (r, more-productive l (m ∷ []) (makes_tree ℕ R g) (more-productive m [] (makes_tree ℕ R h) none-productive)) (by-useful g) (by-useful h)

    all-useful : {f e : Applicative} {ns : List ℕ} → Applies ℕ R f ns e → AllProductive ns × Applies ℕ Useful f ns e
    all-useful done = (none-productive, done)
    all-useful (next {n = n} {ns = ns} g a) = let u = all-useful a in (more-productive n ns (makes_tree ℕ R g) u.0, next (by-useful g) u.1)

and-left : (a b : Bool) → (a && b) ≡ true → a ≡ true
and-left true b e = refl
and-left false b e = e

and-right : (a b : Bool) → (a && b) ≡ true → b ≡ true
and-right true b e = e
and-right false b e = cc

and-true : (a b : Bool) → a ≡ true → b ≡ true → (a && b) ≡ true
and-true true true e f = refl
and-true true false e f = f
and-true false b e f = e

module _ (p : Rule ℕ → Bool) where
  filter-has : (rs : List (Rule ℕ)) (r : Rule ℕ) → Contains (filter p rs) r → Contains rs r
  filter-has [] r h = h
  filter-has (q ∷ rs) r h = by (filter-has rs r) (p q) h
    where
      by : (Contains (filter p rs) r → Contains rs r) → (b : Bool) → Contains (cond b (q ∷ filter p rs) (filter p rs)) r → Contains (q ∷ rs) r
      by rest true h = elim (Contains-cases q (filter p rs) r h) [ inl e ↦ Contains-head r q rs e | inr k ↦ Contains-later r q rs (rest k) ]
      by rest false k = Contains-later r q rs (rest k)

  has-filter : (rs : List (Rule ℕ)) (r : Rule ℕ) → Contains rs r → p r ≡ true → Contains (filter p rs) r
  has-filter [] r h t = h
  has-filter (q ∷ rs) r h t = elim (Contains-cases q rs r h) [
    | inl e ↦ subst (λ b. Contains (cond b (q ∷ filter p rs) (filter p rs)) r) (sym (subst (λ x. p x ≡ true) e t)) (Contains-head r q (filter p rs) e)
    | inr k ↦ by (has-filter rs r k t) (p q)
  ]
    where
      by : Contains (filter p rs) r → (b : Bool) → Contains (cond b (q ∷ filter p rs) (filter p rs)) r
      by rest true = Contains-later r q (filter p rs) rest
      by rest false = rest

  filter-within : (n : ℕ) (rs : List (Rule ℕ)) → HaveNodesBelow n rs → HaveNodesBelow n (filter p rs)
  filter-within n [] h = tt
  filter-within n (q ∷ rs) h = by (filter-within n rs h.1) (p q)
    where
      by : HaveNodesBelow n (filter p rs) → (b : Bool) → HaveNodesBelow n (cond b (q ∷ filter p rs) (filter p rs))
      by rest true = (h.0, rest)
      by rest false = rest

  filter-next : (rs : List (Rule ℕ)) (i : ℕ) (q : Rule ℕ) → slice_get rs i ≡ Some q → filter p (take (i + 1) rs) ≡ filter p (take i rs) ++ cond (p q) (q ∷ []) []
  filter-next rs i q e = filter_more p rs i q (slice_get_within rs i q e) ∙ ap (λ x. filter p (take i rs) ++ cond (p x) (x ∷ []) []) (get_or_from_slice_get rs i q q e)

  pub filter-taken : (rs us vs : List (Rule ℕ)) (i : ℕ) (q : Rule ℕ) → slice_get rs i ≡ Some q → us ≡ filter p (take i rs) → p q ≡ true → vs ≡ us ++ q ∷ [] → vs ≡ filter p (take (i + 1) rs)
  filter-taken rs us vs i q e f t g = g ∙ (ap (λ x. x ++ q ∷ []) f ∙ sym (filter-next rs i q e ∙ ap (λ b. filter p (take i rs) ++ cond b (q ∷ []) []) t))

  pub filter-left : (rs us vs : List (Rule ℕ)) (i : ℕ) (q : Rule ℕ) → slice_get rs i ≡ Some q → us ≡ filter p (take i rs) → p q ≡ false → vs ≡ us → vs ≡ filter p (take (i + 1) rs)
  filter-left rs us vs i q e f t g = g ∙ (f ∙ sym (filter-next rs i q e ∙ (ap (λ b. filter p (take i rs) ++ cond b (q ∷ []) []) t ∙ append-nil (filter p (take i rs)))))

-- a productive node is a node
pub productive-less : (book : List (List (Rule ℕ))) (n : ℕ) → IsProductiveIn book n → n < length book
productive-less book n q = by (under n (length book))
  where
    under : (a b : ℕ) → (a < b) ⊎ (b ≤ a)
    under a b = grind arith

    no-tree : length book ≤ n → (h : ℕ) → HasTree ℕ (NodeRule book) h n → ⊥
    no-tree l h (head_tree c ts) = let e = ap length (rules-none book n l) in let k = c.1 in omega (arith, e, k)
    no-tree l h (any_tree c t u) = let e = ap length (rules-none book n l) in let k = c.1 in omega (arith, e, k)

    by : (n < length book) ⊎ (length book ≤ n) → n < length book
    by (inl l) = l
    by (inr l) = absurd (no-tree l q.0 q.1)

module _ (book : List (List (Rule ℕ))) (flags : List Bool) (p : AreProductive book flags) where
  flag-true : (n : ℕ) → IsProductiveIn book n → is_flagged flags n ≡ true
  flag-true n q =
      let u = get-some flags n (omega (arith, productive-less book n q, p.count)) in
      get_or_from_slice_get flags n u.0 false u.1 ∙ (p.each n u.0 u.1).1 q

  flag-productive : (n : ℕ) → is_flagged flags n ≡ true → IsProductiveIn book n
  flag-productive n e = by (slice_get flags n) refl
    where
      past : (fs : List Bool) (i : ℕ) → slice_get fs i ≡ None → get_or fs i false ≡ false
      past [] i f = refl
      past (g ∷ fs) zero f = cc
      past (g ∷ fs) (suc i) f = past fs i f

      by : (o : Option Bool) → slice_get flags n ≡ o → IsProductiveIn book n
      by None f = let g = past flags n f in absurd (let h : true ≡ false = sym e ∙ g in cc)
      by (Some b) f = (p.each n b f).0 (sym (get_or_from_slice_get flags n b false f) ∙ e)

  all-true : (ns : List ℕ) → ((n : ℕ) → Contains ns n → IsProductiveIn book n) → list_all (is_flagged flags) ns ≡ true
  all-true [] h = refl
  all-true (n ∷ ns) h = and-true (is_flagged flags n) (list_all (is_flagged flags) ns) (flag-true n (h n (Contains-here n ns))) (all-true ns (λ m k. h m (Contains-later m n ns k)))

  all-productive : (ns : List ℕ) → list_all (is_flagged flags) ns ≡ true → (n : ℕ) → Contains ns n → IsProductiveIn book n
  all-productive [] e n h = absurd (Contains-nil n h)
  all-productive (m ∷ ns) e n h = elim (Contains-cases m ns n h) [
    | inl s ↦ flag-productive n (ap (is_flagged flags) s ∙ and-left (is_flagged flags m) (list_all (is_flagged flags) ns) e)
    | inr k ↦ all-productive ns (and-right (is_flagged flags m) (list_all (is_flagged flags) ns) e) n k
  ]

  -- a rule is useful if and only if its arguments are productive
  pub productive-useful : (r : Rule ℕ) → ((n : ℕ) → Contains (arguments_of_rule r) n → IsProductiveIn book n) → is_useful flags r ≡ true
  productive-useful r h = all-true (arguments_of_rule r) h

  pub useful-productive : (r : Rule ℕ) → is_useful flags r ≡ true → (n : ℕ) → Contains (arguments_of_rule r) n → IsProductiveIn book n
  useful-productive r e n h = all-productive (arguments_of_rule r) e n h

module _ {G : Type 0} (flags : List Bool) where
  abbrev row : Row G → Row G
  row = useful_row flags

  -- the rules of a node before and after
  book-rules : (rows : List (Row G)) (i : ℕ) → rules_at (book_of (map row rows)) i ≡ filter (is_useful flags) (rules_at (book_of rows) i)
  book-rules [] i = refl
  book-rules (r ∷ rows) zero = by r.answer
    where
      by : (a : Answer ℕ) → rules_of (useful_answer flags a) ≡ filter (is_useful flags) (rules_of a)
      by (Rules rs) = refl
      by Wide = refl
  book-rules (r ∷ rows) (suc i) = book-rules rows i

  module _ (rows : List (Row G)) (p : AreProductive (book_of rows) flags) where
    rule-after : (i : ℕ) (r : Rule ℕ) → NodeRule (book_of (map row rows)) i r → NodeRule (book_of rows) i r
    rule-after i r c = filter-has (is_useful flags) (rules_at (book_of rows) i) r (subst (λ l. Contains l r) (book-rules rows i) c)

    rule-before : (i : ℕ) (r : Rule ℕ) → NodeRule (book_of rows) i r × ((n : ℕ) → Contains (arguments_of_rule r) n → IsProductiveIn (book_of rows) n) → NodeRule (book_of (map row rows)) i r
    rule-before i r c =
        let useful = has-filter (is_useful flags) (rules_at (book_of rows) i) r c.0 (productive-useful (book_of rows) flags p r c.1) in
        subst (λ l. Contains l r) (sym (book-rules rows i)) useful

    pub useful-languages : HaveSameLanguages (book_of rows) (book_of (map row rows))
    useful-languages i e = (
      (λ g. generates-more (Useful (NodeRule (book_of rows))) (NodeRule (book_of (map row rows))) rule-before (by-useful (NodeRule (book_of rows)) g)),
      (λ g. generates-more (NodeRule (book_of (map row rows))) (NodeRule (book_of rows)) rule-after g),
    )

-- trimmed rows generate the same terms
pub trimmed-languages : {G : Type 0} (rows trimmed : List (Row G)) → IsTrimmed rows trimmed → HaveSameLanguages (book_of rows) (book_of trimmed)
trimmed-languages rows trimmed t = subst (λ l. HaveSameLanguages (book_of rows) (book_of l)) (sym t.rows_are) (useful-languages t.flags rows t.productive)

module _ {G : Type 0} (flags : List Bool) (rows : List (Row G)) where
  -- the first rows, as many as the number says, stand in the columns without their useless rules
  pub record AreUseful (i : ℕ) (goals : List G) (lists : List (List (Rule ℕ))) : Type 0 where
    pub goals_are : length goals ≡ i
    pub lists_are : length lists ≡ i
    pub rows_are : ruled_rows goals lists ≡ map (useful_row flags) (take i rows)
    pub within : BookHasNodesBelow (length rows) (book_of (ruled_rows goals lists))

  row-useful : (r : Row G) (g : G) (rs : List (Rule ℕ)) → r.goal ≡ g → r.answer ≡ Rules rs → useful_row flags r ≡ record { goal = g; answer = Rules (filter (is_useful flags) rs) }
  row-useful r g rs e f = λ i. record { goal = e i; answer = useful_answer flags (f i) }

  pub one-useful : (i : ℕ) (goals gs : List G) (lists ls : List (List (Rule ℕ))) (g : G) (rs new : List (Rule ℕ))
      → option_map (λ (r : Row G). r.goal) (slice_get rows i) ≡ Some g → option_map (λ (r : Row G). r.answer) (slice_get rows i) ≡ Some (Rules rs)
      → HaveNodesBelow (length rows) rs
      → new ≡ filter (is_useful flags) rs → gs ≡ goals ++ g ∷ [] → ls ≡ lists ++ new ∷ []
      → AreUseful i goals lists → AreUseful (i + 1) gs ls
  one-useful i goals gs lists ls g rs new goal answer inside is more_goals more_lists p =
      let u = row-of rows i g (Rules rs) goal answer in
      let less = slice_get_within rows i u.0 u.1 in
      let rows_now : ruled_rows gs ls ≡ ruled_rows goals lists ++ record { goal = g; answer = Rules new } ∷ [] =
      (λ j. ruled_rows (more_goals j) (more_lists j)) ∙ ruled-push goals lists g new (p.lists_are ∙ sym p.goals_are) in
      let next : take (i + 1) rows ≡ take i rows ++ u.0 ∷ [] = take_more rows i u.0 less ∙ ap (λ r. take i rows ++ r ∷ []) (get_or_from_slice_get rows i u.0 u.0 u.1) in
      record {
        goals_are = omega (arith, ap length more_goals, length-append goals (g ∷ []), p.goals_are);
        lists_are = omega (arith, ap length more_lists, length-append lists (new ∷ []), p.lists_are);
        rows_are =
            rows_now
            ∙ ((λ j. p.rows_are j ++ record { goal = g; answer = Rules (is j) } ∷ [])
            ∙ ((λ j. map (useful_row flags) (take i rows) ++ sym (row-useful u.0 g rs u.2 u.3) j ∷ [])
            ∙ (sym (map-append (useful_row flags) (take i rows) (u.0 ∷ [])) ∙ ap (map (useful_row flags)) (sym next))));
        within = subst (λ l. BookHasNodesBelow (length rows) (book_of l)) (sym rows_now) (subst (BookHasNodesBelow (length rows)) (sym (map-append (λ (r : Row G). (rules_of r.answer)) (ruled_rows goals lists) (record { goal = g; answer = Rules new } ∷ []))) (BookHasNodesBelow-push (length rows) (book_of (ruled_rows goals lists)) new p.within (subst (λ l. HaveNodesBelow (length rows) l) (sym is) (filter-within (is_useful flags) (length rows) rs inside))));
      }

  pub all-rows-useful : (i : ℕ) (goals : List G) (lists : List (List (Rule ℕ))) → length rows ≤ i → AreUseful i goals lists → ruled_rows goals lists ≡ map (useful_row flags) rows
  all-rows-useful i goals lists h p = p.rows_are ∙ ap (map (useful_row flags)) (take_all i rows h)
