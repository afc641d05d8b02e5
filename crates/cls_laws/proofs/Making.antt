-- A certificate is made for each grammar: row after row by rank, or member after member.
use Rattle.std.proofs.Common.{ℕ, zero, suc, ◌≡◌, ◌+◌, ◌<◌, ◌≤◌, refl, sym, subst, ◌⊎◌, inl, inr, List, [], ◌∷◌, ◌++◌, length, arith, Contains}
use Rattle.std.specs.Prelude.{map}
use Rattle.std.proofs.lemmas.List.{length-map}
use Rattle.std.proofs.lemmas.List.Elements.{Contains-push, Contains-push_cases, Contains-append_left}
use Rattle.cls_base.specs.declared.rule.Rule.{Rule}
use Rattle.cls_base.specs.declared.rule.Rule.TheVariants.{Head, Any}
use Rattle.cls_base.specs.Languages.{NodeRule, rules_at}
use Rattle.cls_base.proofs.Lists.{Contains-nil, Contains-cases, Contains-at, Contains-map}
use Rattle.cls_term.proofs.Orders.{Precedes-irrefl}
use Rattle.cls_path.specs.Paths.{TypePath, Paths, none, more, type_of_paths}
use Rattle.cls_cover.specs.Covers.{IsMinimal, AreMinimal}
use Rattle.cls_cover.proofs.Lists.{member_contains, precedes_trans}
use Rattle.cls_cover.proofs.Public.{ascending_members}
use Rattle.cls_base.specs.Arguments.{arguments_of_rule}
use Rattle.cls_core.specs.Rows.{Row}
use Rattle.cls_grammar.specs.Grammars.{book_of}
use Rattle.cls_grammar.specs.Ranks.{HasTree, HaveTrees, head_tree, any_tree, no_trees, more_trees, IsRank, IsProductiveIn}
use Rattle.cls_library.specs.Arrows.{MultiArrow, arity_of}
use Rattle.cls_library.specs.Libraries.{Library, paths_at, arrows_at}
use Rattle.cls_library.specs.Reaching.{CoversGoal}
use Rattle.cls_library.specs.Rules.{Choice, ComesBefore, code_of_choice, numbers_from, IsRuleFor, IsRules}
use Rattle.cls_proof.specs.Certificates as proof
use Rattle.cls_proof.specs.Certificates.{ProofRow, Block, Certificate, inhabited, empty}
use Rattle.cls_cert.specs.Building.{AreRowsTo, AreMembersTo, AreBlocks, IsPlaceBefore, with_block, without_block}
use Rattle.cls_cert.specs.Conditions.{forms_of, IsGrammarOf}
use Rattle.cls_cert.specs.Making.{front_of, path_count, goal_in, named, Ranked, IsFirstChoice, HasFirst, AreLayers, IsMemberFor, IsLower, IsRowFor, AreRows, AreMembers, IsMadeFor}
use Rattle.cls_cert.proofs.BlockLaws.{first_place, no_blocks, blocks_step, member_whole}
use Rattle.cls_cert.proofs.ChoiceLaws.{rule_given, omega_row, rule_row}
use Rattle.cls_cert.proofs.MemberLaws.{no_members, members_skip, members_step, members_whole}
use Rattle.cls_cert.proofs.Ranking.{tree_below}
use Rattle.cls_cert.proofs.RowLaws.{no_rows, rows_step, rows_next, rows_whole}
use Rattle.cls_cert.proofs.Ruled.{ruled_within}
use Rattle.cls_laws.specs.Possible.{IsPossible}
use Rattle.cls_laws.proofs.Classical.{surely, then, after, either_way, by_index, least}
use Rattle.cls_laws.proofs.Firsts.{first_exists, stands_before}
use Rattle.cls_cert.specs.Subsets.{subs, subs_have, AreWithin, within_sub}
use Rattle.cls_laws.proofs.Positions.{minimal_below}
use Rattle.cls_cert.specs.Sorting.{Sorted}
use Rattle.cls_laws.proofs.Sorting.{sorted}

less_or_same : (i n : ℕ) → i < suc n → (i < n) ⊎ (i ≡ n)
less_or_same i n l = grind arith

-- LAYERS, BLOCKS AND MEMBERS
module _ (l : Library) where
  module _ (arrows : List MultiArrow) (goal : Paths) where
    abbrev Minimal : List ℕ → Type 0
    Minimal s = IsMinimal (CoversGoal l arrows goal) s

    among_subs : (s : List ℕ) → Minimal s → Contains (subs (numbers_from 0 (length arrows))) s
    among_subs s h =
        let within : AreWithin 0 (length arrows) s = λ y m. (let j : y < length arrows = minimal_below l arrows goal s h y (member_contains m) in (omega arith, omega arith)) in
        member_contains (subs_have (within_sub (length arrows) 0 s (ascending_members s h.ascending) within))

    minimal_ones : Sorted (λ (s : List ℕ). s) (λ a b e. e) Minimal (subs (numbers_from 0 (length arrows))) → (list : List (List ℕ)) × AreMinimal (CoversGoal l arrows goal) list
    minimal_ones r = (r.0, record { in_order = r.1; exactly = λ s. ((λ m. ((r.2 s).0 m).1), (λ h. (r.2 s).1 (among_subs s h, h))) })

    minimal_exist : IsPossible ((list : List (List ℕ)) × AreMinimal (CoversGoal l arrows goal) list)
    minimal_exist = after (sorted (λ (s : List ℕ). s) (λ a b e. e) Minimal (subs (numbers_from 0 (length arrows)))) minimal_ones

  module _ (goal : Paths) where
    layers_exist : (x n : ℕ) → IsPossible ((layers : List (List (List ℕ))) × AreLayers l goal x n layers)
    layers_exist x n =
        after (by_index (λ j layer. AreMinimal (CoversGoal l (arrows_at l x n) (front_of (suc j) goal)) layer) (path_count goal) (λ j k. minimal_exist (arrows_at l x n) (front_of (suc j) goal)))
        (λ r. (r.0, record { count = r.1; each = r.2 }))

    abbrev HasBlocks : ℕ → ℕ → Type 0
    HasBlocks x n = (blocks : List Block) × AreBlocks l goal x n blocks

    -- one component more
    component_on : (x n : ℕ) (blocks : List Block) → n ≡ arity_of (paths_at l x) + 1 → AreBlocks l goal x n blocks → AreBlocks l goal (x + 1) 0 blocks
    component_on x n blocks e a = record {
      in_order = a.in_order;
      exactly = (λ y k. ((λ m. let r = (a.exactly y k).0 m in (r.0, inl (past y k r.1))), (λ h. (a.exactly y k).1 (h.0, back y k (first_place l goal y k h.0).1 h.1))));
      layers = a.layers;
    }
      where
        past : (y k : ℕ) → IsPlaceBefore y k x n → y < x + 1
        past y k (inl i) = omega arith
        past y k (inr i) = let j : y ≡ x = i.0 in omega arith

        cases : (y : ℕ) → y < x + 1 → (y < x) ⊎ (y ≡ x)
        cases y i = grind arith

        back : (y k : ℕ) → k ≤ arity_of (paths_at l y) → IsPlaceBefore y k (x + 1) 0 → IsPlaceBefore y k x n
        back y k w (inl i) = go (cases y i)
          where
            go : (y < x) ⊎ (y ≡ x) → IsPlaceBefore y k x n
            go (inl j) = inl j
            go (inr j) = let v : k ≤ arity_of (paths_at l x) = subst (λ (z : ℕ). k ≤ arity_of (paths_at l z)) j w in inr (j, omega arith)
        back y k w (inr i) = absurd (let j : k < 0 = i.1 in omega arith)

    block_by : (x n : ℕ) → HasBlocks x n → HasFirst l goal x n ⊎ (HasFirst l goal x n → ⊥) → IsPossible (HasBlocks x (n + 1))
    block_by x n (old, a) (inl f) = after (layers_exist x n) (λ r.
        let new = old ++ record { component = x; n = n; layers = r.0 } ∷ [] in
        (new, blocks_step l goal x n old new (with_block r.0 f r.1 refl) a))
    block_by x n (old, a) (inr f) = surely (old, blocks_step l goal x n old old (without_block f refl) a)

    blocks_of : (x n : ℕ) → HasBlocks x 0 → IsPossible (HasBlocks x n)
    blocks_of x zero h = surely h
    blocks_of x (suc n) h =
        let P : ℕ → Type 0 = λ k. IsPossible (HasBlocks x k) in
        let e : n + 1 ≡ suc n = omega arith in
        subst P e (then (blocks_of x n h) (λ r. then (either_way (HasFirst l goal x n)) (block_by x n r)))

    blocks_to : (x : ℕ) → IsPossible (HasBlocks x 0)
    blocks_to zero = surely ([], no_blocks l goal [] refl)
    blocks_to (suc x) =
        let P : ℕ → Type 0 = λ k. IsPossible (HasBlocks k 0) in
        let e : x + 1 ≡ suc x = omega arith in
        let n = arity_of (paths_at l x) + 1 in
        subst P e (then (blocks_to x) (λ h. after (blocks_of x n h) (λ r. (r.0, component_on x n r.0 refl r.1))))

    pub member_exists : IsPossible ((m : proof.Member) × IsMemberFor l goal m)
    member_exists = after (blocks_to (length l.components)) (λ r.
        let m : proof.Member = record { goal = type_of_paths goal; blocks = r.0 } in
        (m, member_whole l goal m refl r.1))

  module _ (goals : List Paths) (book : List (List (Rule ℕ))) where
    abbrev HasMembers : ℕ → Type 0
    HasMembers n = (members : List proof.Member) × AreMembersTo l goals book n members

    member_by : (n : ℕ) → HasMembers n → IsProductiveIn book n ⊎ (IsProductiveIn book n → ⊥) → IsPossible (HasMembers (n + 1))
    member_by n (old, a) (inl p) = surely (old, members_skip l goals book n old p a)
    member_by n (old, a) (inr f) = after (member_exists (goal_in goals n)) (λ m.
        (old ++ m.0 ∷ [], members_step l goals book n old (old ++ m.0 ∷ []) m.0 refl f m.1 a))

    members_to : (n : ℕ) → IsPossible (HasMembers n)
    members_to zero = surely ([], no_members l goals book [] refl)
    members_to (suc n) =
        let P : ℕ → Type 0 = λ k. IsPossible (HasMembers k) in
        let e : n + 1 ≡ suc n = omega arith in
        subst P e (then (members_to n) (λ r. then (either_way (IsProductiveIn book n)) (member_by n r)))

    pub members_exist : IsPossible ((members : List proof.Member) × AreMembers l goals book members)
    members_exist = after (members_to (length goals)) (λ r. (r.0, members_whole l goals book (length goals) r.0 refl r.1))

-- RANKS AND THE RULES BY WHICH GOALS HAVE THEM
module _ (book : List (List (Rule ℕ))) where
  abbrev Tree : ℕ → ℕ → Type 0
  Tree h i = HasTree ℕ (NodeRule book) h i

  abbrev Rank : ℕ → ℕ → Type 0
  Rank i h = IsRank ℕ (NodeRule book) i h

  abbrev RankUpTo : ℕ → ℕ → Type 0
  RankUpTo h i = (k : ℕ) × Rank i k × (k < suc h)

  pub rank_exists : (i h : ℕ) → Tree h i → IsPossible (RankUpTo h i)
  rank_exists i h t = after (least (λ k. Tree k i) h t) (λ m. (m.0, record { tree = m.1; none_less = m.2 }, at_most m.0 (λ k. m.2 h k t)))
    where
      at_most : (k : ℕ) → (h < k → ⊥) → k < suc h
      at_most k f = omega arith

  ranks_exist : (h : ℕ) (ns : List ℕ) → HaveTrees ℕ (NodeRule book) h ns → IsPossible ((i : ℕ) → Contains ns i → RankUpTo h i)
  ranks_exist h [] t = surely (λ i m. absurd (Contains-nil i m))
  ranks_exist h (n ∷ ns) (more_trees t ts) =
      then (rank_exists n h t) (λ r. after (ranks_exist h ns ts) (λ f i m. elim (Contains-cases n ns i m) [ inl e ↦ subst (RankUpTo h) (sym e) r | inr k ↦ f i k ]))

  -- a rule whose arguments have lower ranks
  abbrev HasLowRule : ℕ → ℕ → Type 0
  HasLowRule i h = (r : Rule ℕ) × Contains (rules_at book i) r × ((j : ℕ) → Contains (arguments_of_rule r) j → (k : ℕ) × Rank j k × (k < h))

  low_rule : (i h : ℕ) → Tree h i → IsPossible (HasLowRule i h)
  low_rule i zero t = elim t [ ]
  low_rule i (suc h) (head_tree {x = x} {ns = ns} c ts) = after (ranks_exist h ns ts) (λ f. (Head x ns, c, f))
  low_rule i (suc h) (any_tree {l = a} {m = b} c s t) = after (ranks_exist h (a ∷ b ∷ []) (more_trees s (more_trees t no_trees))) (λ f. (Any a b, c, f))

-- THE FIRST CHOICE THAT GIVES A RULE
before_asymmetric : (c d : Choice) → ComesBefore c d → ComesBefore d c → ⊥
before_asymmetric c d p q = Precedes-irrefl (code_of_choice c) (precedes_trans (code_of_choice c) (code_of_choice d) (code_of_choice c) p q)

choice_exists : (l : Library) (goal : Paths) (q : TypePath) (rest : Paths) → goal ≡ more q rest → (rs : List (Rule Paths)) → IsRules l goal rs → (r : Rule Paths) → Contains rs r
    → IsPossible ((c : Choice) × IsFirstChoice l goal r c)
choice_exists l none q rest e rs k r m = absurd (let f : ◌≡◌ {A = Paths} none (more q rest) = e in cc)
choice_exists l (more p n) q rest e rs k r m =
    let g = rule_given l (more p n) q rest e rs k r m in
    after (first_exists (λ (c : Choice). IsRuleFor l c r) k.choices g.0 ((k.chosen.exactly g.0).1 g.1) g.2) (λ u. (
      u.0,
      record {
        choice = (k.chosen.exactly u.0).0 (Contains-at k.choices u.1.place u.0 u.1.there);
        gives = u.1.holds;
        none_before = λ d chosen before given.
            let at = stands_before ComesBefore before_asymmetric k.choices k.chosen.in_order u.1.place u.0 d u.1.there ((k.chosen.exactly d).1 chosen) before in
            u.1.none_before at.0 d at.1 at.2 given;
      },
    ))

-- ROWS
module _ (l : Library) (rows : List (Row (List TypePath))) (h : IsGrammarOf l rows) where
  abbrev goals : List Paths
  goals = forms_of rows

  abbrev book : List (List (Rule ℕ))
  book = book_of rows

  abbrev ranked : ℕ → ℕ → Ranked
  ranked i rank = record { number = i; rank = rank }

  abbrev HasRow : ℕ → ℕ → Type 0
  HasRow i rank = (row : ProofRow) × IsRowFor l (forms_of rows) (book_of rows) (ranked i rank) row

  row_by : (i rank : ℕ) → Rank book i rank → (g : Paths) → goal_in goals i ≡ g → IsRules l (goal_in goals i) (map (named goals) (rules_at book i)) → IsPossible (HasRow i rank)
  row_by i rank r none e rules = surely (record { goal = type_of_paths none; component = 0; n = 0; cover = [] }, omega_row l goals book (ranked i rank) (record { goal = type_of_paths none; component = 0; n = 0; cover = [] }) e refl)
  row_by i rank r (more q rest) e rules =
      then (low_rule book i rank r.tree) (λ low.
      then (first_exists (IsLower l goals book rank) (rules_at book i) low.0 low.1 low.2) (λ f.
      after (choice_exists l (goal_in goals i) q rest e (map (named goals) (rules_at book i)) rules (named goals f.0) (Contains-map (named goals) (rules_at book i) f.0 (Contains-at (rules_at book i) f.1.place f.0 f.1.there))) (λ c.
      let row : ProofRow = record { goal = type_of_paths (goal_in goals i); component = c.0.component; n = c.0.places; cover = c.0.cover } in (
        row,
        rule_row l goals book (ranked i rank) row q rest e (record { rule = f.0; first_rule = f.1; choice = c.0; first_choice = c.1; row_is = refl }),
      ))))

  row_exists : (i rank : ℕ) → Rank book i rank → IsPossible (HasRow i rank)
  row_exists i rank r =
      let count : length (book_of rows) ≡ length rows = length-map rows _ in
      let u = ruled_within l rows h i (let b = tree_below book rank i r.tree in omega arith) in
      row_by i rank r (goal_in goals i) refl (subst (λ (p : Paths). IsRules l p (map (named goals) (rules_at book i))) (sym u.1.goal) u.1.rules)

  abbrev To : ℕ → List ℕ → List ProofRow → Type 0
  To rank done new = AreRowsTo l (forms_of rows) (book_of rows) rank done new

  -- the rows of the goals with this rank, up to a number
  record InRank (rank n : ℕ) : Type 0 where
    done : List ℕ
    made : List ProofRow
    are : To rank done made
    below : (d : ℕ) → Contains done d → d < n
    all : (i : ℕ) → i < n → Rank book i rank → Contains done i

  rank_step : (rank n : ℕ) → InRank rank n → Rank book n rank → HasRow n rank → InRank rank (suc n)
  rank_step rank n u r row = record {
    done = u.done ++ n ∷ [];
    made = u.made ++ row.0 ∷ [];
    are = rows_step l goals book rank n u.done u.made (u.made ++ row.0 ∷ []) row.0 refl r u.below row.1 u.are;
    below = λ d m. elim (Contains-push_cases u.done n d m) [ inl k ↦ (let j = u.below d k in omega arith) | inr e ↦ (let f : n ≡ d = e in omega arith) ];
    all = λ i k q. elim (less_or_same i n k) [ inl j ↦ Contains-append_left u.done (n ∷ []) i (u.all i j q) | inr e ↦ subst (λ (z : ℕ). Contains (u.done ++ n ∷ []) z) (sym e) (Contains-push u.done n) ];
  }

  rank_skip : (rank n : ℕ) → InRank rank n → (Rank book n rank → ⊥) → InRank rank (suc n)
  rank_skip rank n u f = record {
    done = u.done;
    made = u.made;
    are = u.are;
    below = λ d m. let j = u.below d m in omega arith;
    all = λ i k q. elim (less_or_same i n k) [ inl j ↦ u.all i j q | inr e ↦ absurd (f (subst (λ (z : ℕ). Rank book z rank) e q)) ];
  }

  rank_by : (rank n : ℕ) → InRank rank n → Rank book n rank ⊎ (Rank book n rank → ⊥) → IsPossible (InRank rank (suc n))
  rank_by rank n u (inl r) = after (row_exists n rank r) (rank_step rank n u r)
  rank_by rank n u (inr f) = surely (rank_skip rank n u f)

  abbrev HasRows : ℕ → Type 0
  HasRows rank = (made : List ProofRow) × To rank [] made

  in_rank : (rank n : ℕ) → HasRows rank → IsPossible (InRank rank n)
  in_rank rank zero a = surely (record { done = []; made = a.0; are = a.1; below = λ d m. absurd (Contains-nil d m); all = λ i k. absurd (omega arith) })
  in_rank rank (suc n) a = then (in_rank rank n a) (λ u. then (either_way (Rank book n rank)) (rank_by rank n u))

  rows_to : (rank : ℕ) → IsPossible (HasRows rank)
  rows_to zero = surely ([], no_rows l goals book [] refl)
  rows_to (suc rank) =
      let P : ℕ → Type 0 = λ k. IsPossible (HasRows k) in
      let e : rank + 1 ≡ suc rank = omega arith in
      subst P e (then (rows_to rank) (λ a. after (in_rank rank (length book) a) (λ u. (
        u.made,
        rows_next l goals book rank u.done u.made (λ i r. u.all i (tree_below book rank i r.tree) r) u.are,
      ))))

  rows_exist : (k : ℕ) → Tree book k 0 → IsPossible ((made : List ProofRow) × AreRows l goals book made)
  rows_exist k t =
      then (rank_exists book 0 k t) (λ r.
      then (rows_to r.0) (λ a.
      after (row_exists 0 r.0 r.1) (λ row. (
        a.0 ++ row.0 ∷ [],
        rows_whole l goals book r.0 a.0 (a.0 ++ row.0 ∷ []) row.0 refl r.1 row.1 a.1,
      ))))

  made_by : IsProductiveIn book 0 ⊎ (IsProductiveIn book 0 → ⊥) → IsPossible ((c : Certificate) × IsMadeFor l rows c)
  made_by (inl p) = after (rows_exist p.0 p.1) (λ r. (inhabited r.0, (p, r.1)))
  made_by (inr n) = after (members_exist l goals book) (λ r. (empty r.0, (n, r.1)))

  pub certificate_exists : IsPossible ((c : Certificate) × IsMadeFor l rows c)
  certificate_exists = then (either_way (IsProductiveIn (book_of rows) 0)) made_by
