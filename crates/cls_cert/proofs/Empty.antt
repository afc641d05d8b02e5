-- What is made for an unproductive goal is accepted.
use Rattle.std.proofs.Common.{ℕ, zero, suc, ◌≡◌, ◌+◌, ◌<◌, ◌==◌, ◌&&◌, max, refl, sym, ◌∙◌, subst, ap, ◌⊎◌, inl, inr, Bool, true, false, cond, List, [], ◌∷◌, length, get_or, arith, Contains, Some}
use Rattle.std.specs.Prelude.{All, map, slice_get, IsSomeAnd}
use Rattle.std.specs.List.Sorted.{IsStrictlyIncreasing}
use Rattle.std.proofs.lemmas.List.{length-map}
use Rattle.std.proofs.lemmas.List.Elements.{Contains-get_or}
use Rattle.std.proofs.lemmas.Bool.Decides.{nat_tests}
use native.Mathlib.Decide.{dec_lt}
use Rattle.cls_base.specs.Lists.{AreDistinct, AreBelow}
use Rattle.cls_base.specs.Languages.{NodeRule, rules_at}
use Rattle.cls_base.specs.Subtyping.{reflexivity}
use Rattle.cls_base.specs.Terms.{Precedes}
use Rattle.cls_base.specs.Types.{ClosedType}
use Rattle.cls_base.specs.declared.rule.Rule.{Rule}
use Rattle.cls_base.specs.declared.rule.Rule.TheVariants.{Head, Any}
use Rattle.cls_base.proofs.Lists.{Contains-nil, Contains-here, Contains-later, Contains-cases, Contains-place, Contains-from_map}
use Rattle.cls_path.specs.Paths.{TypePath, Paths, none, more, InPaths, first_in, later_in, PathsLe, append, paths_of, listed, type_of_paths, SuitsAll}
use Rattle.cls_path.specs.NormalForms.{IsNormal}
use Rattle.cls_path.proofs.Completeness.{in_append, covers_refl}
use Rattle.cls_path.proofs.RoundTrip.{paths_back, append_none, append_assoc}
use Rattle.cls_cover.specs.Lists.{Rises, IsAscending, Sublist}
use Rattle.cls_cover.specs.Covers.{IsMinimal, AreMinimal}
use Rattle.cls_cover.specs.Members.{Member}
use Rattle.cls_cover.proofs.Lists.{contains_member, member_contains, decide_member, without, sublist_none, member_append_left}
use Rattle.cls_base.specs.Arguments.{arguments_of_rule}
use Rattle.cls_core.specs.Rows.{Row}
use Rattle.cls_grammar.specs.Grammars.{book_of}
use Rattle.cls_grammar.specs.Ranks.{HasTree, HaveTrees, head_tree, any_tree, no_trees, more_trees, IsProductiveIn}
use Rattle.cls_grammar.proofs.Trees.{tree_up, trees_up}
use Rattle.cls_library.specs.Arrows.{MultiArrow}
use Rattle.cls_library.specs.Libraries.{Library, IsLibrary, below_in, variances_in, arrows_at}
use Rattle.cls_library.specs.Reaching.{PathLeIn, CoversGoal}
use Rattle.cls_library.specs.Rules.{Choice, IsRules, IsRuleFor}
use Rattle.cls_library.proofs.ByCases.{At, all_zip, zip_left, zip_right, some_at}
use Rattle.cls_library.proofs.FirstOnes.{first_ones_all}
use Rattle.cls_library.proofs.Covering.{Lead, choose_minimal}
use Rattle.cls_library.proofs.RuleHeads.{below_has}
use Rattle.cls_library.proofs.RuleTyping.{leads}
use Rattle.cls_proof.specs.Certificates as proof
use Rattle.cls_proof.specs.Certificates.{Block, empty}
use Rattle.cls_check.specs.Arguments.{argument_type}
use Rattle.cls_check.specs.Checking.{path_total, empty_layers, place_of, layers_for, ArePositions, IsPartOf, IsSubtype, IsForm, LeadsTo, IsPlace, IsBlocked, Steps, BlockedFrom, IsFormed, PassesLayers, PassesUnblocked, PassesMember, IsBelowMember, Accepts, by_members}
use Rattle.cls_check.proofs.Order.{reflexive, transitive}
use Rattle.cls_cert.specs.Conditions.{forms_of, IsGrammarOf}
use Rattle.cls_cert.specs.Making.{front_of, path_count, goal_in, named, BlockBefore, AreLayers, IsMemberFor, AreMembers}
use Rattle.cls_cert.proofs.BlockLaws.{first_place}
use Rattle.cls_cert.proofs.Ruled.{named_arguments, argument_at, ruled_within, some_goal}
use Rattle.cls_cert.proofs.Sources.{argument_count, argument_upper}

pub all_from : {A : Type 0} (P : A → Type 0) (xs : List A) → ((x : A) → Contains xs x → P x) → All P xs
all_from P xs f k d l = f (get_or xs k d) (Contains-get_or xs k d l)

count_total : (n : Paths) → path_count n ≡ path_total n
count_total none = refl
count_total (more p n) = ap suc (count_total n)

-- strictly ascending lists, neighbour by neighbour
pub increasing : (s : List ℕ) → IsAscending s → IsStrictlyIncreasing s
increasing s a k l = subst (λ (j : ℕ). get_or s k 0 < get_or s j 0) (let e : suc k ≡ k + 1 = omega arith in e) (by s a k (omega arith))
  where
    by : (s : List ℕ) → IsAscending s → (k : ℕ) → suc k < length s → get_or s k 0 < get_or s (suc k) 0
    by [] a k l = absurd (omega arith)
    by (x ∷ s) a zero l = a.0 (get_or s 0 0) (Contains-get_or s 0 0 (omega arith))
    by (x ∷ s) a (suc k) l = by s a.1 k (omega arith)

pub all_below : (n : ℕ) (s : List ℕ) → ((i : ℕ) → Contains s i → i < n) → AreBelow n s
all_below n [] f = tt
all_below n (i ∷ s) f = (f i (Contains-here i s), all_below n s (λ j m. f j (Contains-later j i s m)))

-- blocks in order have different places
same_not : (a b c d : ℕ) → a ≡ c → b ≡ d → Precedes (a ∷ b ∷ []) (c ∷ d ∷ []) → ⊥
same_not a b c d e f p = elim p [ inl l ↦ omega arith | inr r ↦ elim r.1 [ inl l ↦ omega arith | inr u ↦ u.1 ] ]

different : (blocks : List Block) → Rises BlockBefore blocks → AreDistinct (map place_of blocks)
different [] r = tt
different (b ∷ blocks) r = (
  (λ m. let u = Contains-from_map place_of blocks (place_of b) m in
      same_not b.component b.n u.0.component u.0.n (ap (λ (p : ℕ × ℕ). p.0) u.2) (ap (λ (p : ℕ × ℕ). p.1) u.2) (r.0 u.0 u.1)),
  different blocks r.1,
)

-- the layers of a place are those of its block, or there is none
abbrev HasLayers : List Block → ℕ → ℕ → ℕ → Type 0
HasLayers blocks k x n =
    ((b : Block) × Contains blocks b × (b.component ≡ x) × (b.n ≡ n) × (layers_for blocks k x n ≡ b.layers))
    ⊎ (((b : Block) → Contains blocks b → b.component ≡ x → b.n ≡ n → ⊥) × (layers_for blocks k x n ≡ empty_layers k))

both_true : (a b : Bool) → (a && b) ≡ true → (a ≡ true) × (b ≡ true)
both_true true true e = (refl, refl)
both_true true false e = absurd (let f : false ≡ true = e in cc)
both_true false b e = absurd (let f : false ≡ true = e in cc)

test_same : (x y : ℕ) → (x == y) ≡ true → x ≡ y
test_same x y e = grind (arith, nat_tests)

same_test : (x y : ℕ) → x ≡ y → (x == y) ≡ true
same_test x y e = grind (arith, nat_tests)

has_layers : (blocks : List Block) (k x n : ℕ) → HasLayers blocks k x n
has_layers [] k x n = inr ((λ b m e f. absurd (Contains-nil b m)), refl)
has_layers (b ∷ blocks) k x n = go ((x == b.component) && (n == b.n)) refl (has_layers blocks k x n)
  where
    here : (c : Bool) → ((x == b.component) && (n == b.n)) ≡ c → layers_for (b ∷ blocks) k x n ≡ cond c b.layers (layers_for blocks k x n)
    here c e = ap (λ (d : Bool). cond d b.layers (layers_for blocks k x n)) e

    not_this : ((x == b.component) && (n == b.n)) ≡ false → b.component ≡ x → b.n ≡ n → ⊥
    not_this e p q =
        let s = same_test x b.component (sym p) in
        let t = same_test n b.n (sym q) in
        let u : ((x == b.component) && (n == b.n)) ≡ true = ap (λ (c : Bool). c && (n == b.n)) s ∙ t in
        let v : false ≡ true = sym e ∙ u in cc

    go : (c : Bool) → ((x == b.component) && (n == b.n)) ≡ c → HasLayers blocks k x n → HasLayers (b ∷ blocks) k x n
    go true e h =
        let u = both_true (x == b.component) (n == b.n) e in
        inl (b, Contains-here b blocks, sym (test_same x b.component u.0), sym (test_same n b.n u.1), here true e)
    go false e (inl h) = inl (h.0, Contains-later h.0 b blocks h.1, h.2, h.3, here false e ∙ h.4)
    go false e (inr h) = inr (
      (λ c m p q. elim (Contains-cases b blocks c m) [
        | inl s ↦ not_this e (ap (λ (d : Block). d.component) (sym s) ∙ p) (ap (λ (d : Block). d.n) (sym s) ∙ q)
        | inr j ↦ h.0 c j p q
      ]),
      here false e ∙ h.1,
    )

module _ (l : Library) where
  -- the numbers of a minimal cover are positions
  pub minimal_positions : (arrows : List MultiArrow) (g : Paths) (s : List ℕ) → IsMinimal (CoversGoal l arrows g) s → (i : ℕ) → Contains s i → i < length arrows
  minimal_positions arrows g s m i k = go (dec_lt i (length arrows))
    where
      stays : (t : List ℕ) → (i < length arrows → ⊥) → (j : ℕ) (q : TypePath) → IsSomeAnd (slice_get arrows j) (λ a. PathLeIn l a.target q) → (j ≡ i) ⊎ Member t j → Member t j
      stays t beyond j q h (inl e) = absurd (beyond (subst (λ x. x < length arrows) e (within (λ a. PathLeIn l a.target q) arrows j h)))
        where
          within : (P : MultiArrow → Type 0) (xs : List MultiArrow) (j : ℕ) → IsSomeAnd (slice_get xs j) P → j < length xs
          within P [] j h = absurd h
          within P (x ∷ xs) zero h = omega arith
          within P (x ∷ xs) (suc j) h = let e : j < length xs = within P xs j h in omega arith
      stays t beyond j q h (inr m) = m

      go : Dec (i < length arrows) → i < length arrows
      go (yes l) = l
      go (no beyond) =
          let r = without s i (contains_member s i k) in
          let e = m.minimal r.0 r.1 (λ q j. let c = m.covers q j in (c.0, member_contains (stays r.0 beyond c.0 q c.2 (r.3 c.0 (contains_member s c.0 c.1))), c.2)) in
          let n : length r.0 < length s = r.2 in
          let f : length r.0 ≡ length s = ap length e in
          absurd (omega arith)

  -- the empty set covers no path
  empty_minimal : (arrows : List MultiArrow) (s : List ℕ) → Contains ([] ∷ []) s → IsMinimal (CoversGoal l arrows none) s
  empty_minimal arrows s k = subst (λ (t : List ℕ). IsMinimal (CoversGoal l arrows none) t) (sym (only s k)) (record { ascending = tt; covers = (λ q i. elim i [ ]); minimal = (λ t h c. nothing t h) })
    where
      only : (s : List ℕ) → Contains ([] ∷ []) s → s ≡ []
      only s k = elim (Contains-cases [] [] s k) [ inl e ↦ e | inr j ↦ absurd (Contains-nil s j) ]

      nothing : (t : List ℕ) → Sublist t [] → t ≡ []
      nothing t h = sublist_none t h

  module _ (IsBelow : ClosedType → Type 0) (arrows : List MultiArrow) (n : ℕ) (lead : Lead l arrows) where
    blocked_from : (rest taken : Paths) (sets : List (List ℕ)) (layers : List (List (List ℕ))) → SuitsAll (variances_in l.taxonomy) (append taken rest)
        → ((s : List ℕ) → Contains sets s → IsMinimal (CoversGoal l arrows taken) s)
        → length layers ≡ path_count rest
        → ((j : ℕ) (layer : List (List ℕ)) → slice_get layers j ≡ Some layer → AreMinimal (CoversGoal l arrows (append taken (front_of (suc j) rest))) layer)
        → ((s : List ℕ) → IsMinimal (CoversGoal l arrows (append taken rest)) s → IsBlocked l IsBelow arrows n s)
        → BlockedFrom l IsBelow arrows n rest sets layers
    blocked_from none taken sets layers suits f c z last = all_from (IsBlocked l IsBelow arrows n) sets (λ s m. last s (subst (λ g. IsMinimal (CoversGoal l arrows g) s) (sym (append_none taken)) (f s m)))
    blocked_from (more q rest) taken sets [] suits f c z last = absurd (let e : 0 ≡ suc (path_count rest) = c in omega arith)
    blocked_from (more q rest) taken sets (layer ∷ ls) suits f c z last = (
      all_from (λ s. IsBlocked l IsBelow arrows n s ⊎ Steps l arrows layer q s) sets (λ s m. inr (λ i leads. step s (f s m) i leads)),
      blocked_from rest (append taken (more q none)) layer ls (subst (λ g. SuitsAll (variances_in l.taxonomy) g) (sym whole) suits) (λ s m. (first.exactly s).0 m)
          (let e : suc (length ls) ≡ suc (path_count rest) = c in omega arith)
          (λ j later e. subst (λ g. AreMinimal (CoversGoal l arrows g) later) (sym (append_assoc taken (more q none) (front_of (suc j) rest))) (z (suc j) later e))
          (λ s m. last s (subst (λ g. IsMinimal (CoversGoal l arrows g) s) whole m)),
    )
      where
        whole : append (append taken (more q none)) rest ≡ append taken (more q rest)
        whole = append_assoc taken (more q none) rest

        first : AreMinimal (CoversGoal l arrows (append taken (more q none))) layer
        first = z 0 layer refl

        suits_front : SuitsAll (variances_in l.taxonomy) (append taken (more q none))
        suits_front = front (append taken (more q none)) rest (subst (λ g. SuitsAll (variances_in l.taxonomy) g) (sym whole) suits)
          where
            front : (n m : Paths) → SuitsAll (variances_in l.taxonomy) (append n m) → SuitsAll (variances_in l.taxonomy) n
            front none m s = tt
            front (more p n) m s = (s.0, front n m s.1)

        step : (s : List ℕ) → IsMinimal (CoversGoal l arrows taken) s → (i : ℕ) → LeadsTo l arrows q i → (t : List ℕ) × Contains layer t × IsPartOf t (i ∷ s)
        step s m i leads =
            let u = choose_minimal l arrows lead (λ j. Contains (i ∷ s) j) (append taken (more q none)) suits_front (λ p k. met p (in_append p taken (more q none) k)) in
            (u.0, (first.exactly u.0).1 u.1, (λ j k. u.2 j (contains_member u.0 j k)))
          where
            only : (p : TypePath) → InPaths (more q none) p → p ≡ q
            only p first_in = refl
            only p (later_in k) = elim k [ ]

            met : (p : TypePath) → InPaths taken p ⊎ InPaths (more q none) p → (j : ℕ) × (a : MultiArrow) × Contains (i ∷ s) j × At arrows j a × PathLeIn l a.target p
            met p (inl k) =
                let c = m.covers p k in
                let v = some_at (λ a. PathLeIn l a.target p) arrows c.0 c.2 in
                (c.0, v.0, Contains-later c.0 i s c.1, v.1, v.2)
            met p (inr k) =
                let v = some_at (λ a. PathLeIn l a.target q) arrows i leads in
                (i, v.0, Contains-here i s, v.1, subst (λ r. PathLeIn l v.0.target r) (sym (only p k)) v.2)

    -- no set is left
    empty_from : (rest : Paths) → BlockedFrom l IsBelow arrows n rest [] (empty_layers (path_total rest))
    empty_from none = λ k d j. absurd (omega arith)
    empty_from (more q rest) = ((λ k d j. absurd (omega arith)), empty_from rest)

-- all have trees, if none is unproductive
not_all : (book : List (List (Rule ℕ))) (ns : List ℕ) → ((n : ℕ) → Contains ns n → (IsProductiveIn book n → ⊥) → ⊥) → ((h : ℕ) × HaveTrees ℕ (NodeRule book) h ns → ⊥) → ⊥
not_all book [] f k = k (0, no_trees)
not_all book (n ∷ ns) f k = f n (Contains-here n ns) (λ p. not_all book ns (λ m j. f m (Contains-later m n ns j)) (λ t. k (max p.0 t.0, more_trees (tree_up ℕ (NodeRule book) p.1 (max p.0 t.0) (omega arith)) (trees_up ℕ (NodeRule book) t.1 (max p.0 t.0) (omega arith)))))

module _ (l : Library) (is : IsLibrary l) (rows : List (Row (List TypePath))) (h : IsGrammarOf l rows) (members : List proof.Member) (a : AreMembers l (forms_of rows) (book_of rows) members) where
  abbrev goals : List Paths
  goals = forms_of rows

  abbrev book : List (List (Rule ℕ))
  book = book_of rows

  abbrev Blocked : List MultiArrow → ℕ → List ℕ → Type 0
  Blocked arrows n s = IsBlocked l (IsBelowMember l members) arrows n s

  count : length goals ≡ length rows
  count = length-map rows (λ (r : Row (List TypePath)). listed r.goal)

  -- the member of an unproductive goal
  member_of : (i : ℕ) → Contains a.unproductive i → (m : proof.Member) × Contains members m × IsMemberFor l (goal_in goals i) m
  member_of i k = let r = zip_left i (all_zip a.unproductive members a.made) (contains_member a.unproductive i k) in (r.0, member_contains r.1, r.2)

  number_of : (m : proof.Member) → Contains members m → (i : ℕ) × Contains a.unproductive i × IsMemberFor l (goal_in goals i) m
  number_of m k = let r = zip_right m (all_zip a.unproductive members a.made) (contains_member members m k) in (r.0, member_contains r.1, r.2)

  -- an argument of the rule is unproductive
  abbrev IsDead : Rule ℕ → Type 0
  IsDead r = (j : ℕ) × Contains (arguments_of_rule r) j × Contains a.unproductive j

  dead_or : (ns : List ℕ) → ((n : ℕ) → Contains ns n → n < length rows) → ((j : ℕ) × Contains ns j × Contains a.unproductive j) ⊎ ((n : ℕ) → Contains ns n → (IsProductiveIn book n → ⊥) → ⊥)
  dead_or [] f = inr (λ n m. absurd (Contains-nil n m))
  dead_or (n ∷ ns) f = go (decide_member a.unproductive n) (dead_or ns (λ m k. f m (Contains-later m n ns k)))
    where
      alive : (Member a.unproductive n → ⊥) → (IsProductiveIn book n → ⊥) → ⊥
      alive g p = g (contains_member a.unproductive n ((a.exactly n).1 ((let low : n < length rows = f n (Contains-here n ns) in let c = count in omega arith), p)))

      go : Member a.unproductive n ⊎ (Member a.unproductive n → ⊥) → ((j : ℕ) × Contains ns j × Contains a.unproductive j) ⊎ ((m : ℕ) → Contains ns m → (IsProductiveIn book m → ⊥) → ⊥)
          → ((j : ℕ) × Contains (n ∷ ns) j × Contains a.unproductive j) ⊎ ((m : ℕ) → Contains (n ∷ ns) m → (IsProductiveIn book m → ⊥) → ⊥)
      go (inl k) u = inl (n, Contains-here n ns, member_contains k)
      go (inr g) (inl u) = inl (u.0, Contains-later u.0 n ns u.1, u.2)
      go (inr g) (inr u) = inr (λ m k p. elim (Contains-cases n ns m k) [
        | inl e ↦ alive g (subst (λ (j : ℕ). IsProductiveIn book j → ⊥) e p)
        | inr j ↦ u m j p
      ])

  dead : (i : ℕ) → (IsProductiveIn book i → ⊥) → (r : Rule ℕ) → Contains (rules_at book i) r → ((n : ℕ) → Contains (arguments_of_rule r) n → n < length rows) → IsDead r
  dead i never (Head x ns) m f = elim (dead_or ns f) [
    | inl u ↦ u
    | inr u ↦ absurd (not_all book ns u (λ t. never (suc t.0, head_tree m t.1)))
  ]
  dead i never (Any x y) m f = elim (dead_or (x ∷ y ∷ []) f) [
    | inl u ↦ u
    | inr u ↦ absurd (not_all book (x ∷ y ∷ []) u (λ t. never (suc t.0, pair x y m t.0 t.1)))
  ]
    where
      pair : (x y : ℕ) → Contains (rules_at book i) (Any x y) → (k : ℕ) → HaveTrees ℕ (NodeRule book) k (x ∷ y ∷ []) → HasTree ℕ (NodeRule book) (suc k) i
      pair x y m k (more_trees s (more_trees t no_trees)) = any_tree m s t

  -- a cover of an unproductive goal is blocked
  cover_blocked : (goal : Paths) (rs : List (Rule ℕ)) → IsRules l goal (map (named goals) rs) → ((r : Rule ℕ) → Contains rs r → IsDead r) → (q : TypePath) (rest : Paths) → goal ≡ more q rest
      → (x n : ℕ) → IsPlace l x n → (s : List ℕ) → IsMinimal (CoversGoal l (arrows_at l x n) goal) s → Blocked (arrows_at l x n) n s
  cover_blocked none rs k f q rest e x n p s m = absurd (let g : ◌≡◌ {A = Paths} none (more q rest) = e in cc)
  cover_blocked (more q₀ rest₀) rs k f q rest e x n p s m =
      let choice : Choice = record { component = x; places = n; cover = s } in
      let chosen = (k.chosen.exactly choice).1 (record { declared = p.declared; within = p.within; minimal = m }) in
      let candidate = zip_left choice (all_zip k.choices k.candidates k.made) (contains_member k.choices choice chosen) in
      let standing = elim (first_ones_all candidate.0 k.first_ones (member_contains candidate.1)) as (λ u. Contains (map (named goals) rs) candidate.0) [ inl j ↦ absurd (Contains-nil candidate.0 j) | inr j ↦ j ] in
      let rule = Contains-from_map (named goals) rs candidate.0 standing in
      let d = f rule.0 rule.1 in
      let args = named_arguments goals rule.0 x candidate.2.arguments (sym rule.2 ∙ candidate.2.rule) in
      blocked choice candidate.0 candidate.2 rule.0 args d
    where
      blocked : (c : Choice) (r : Rule Paths) (u : IsRuleFor l c r) (q : Rule ℕ) → map (goal_in goals) (arguments_of_rule q) ≡ u.arguments → IsDead q → Blocked (arrows_at l c.component c.places) c.places c.cover
      blocked c r u q e d =
          let place = d.1 in
          let low : place.0 < length (arguments_of_rule q) = place.1 in
          let long : length (map (goal_in goals) (arguments_of_rule q)) ≡ length (arguments_of_rule q) = length-map (arguments_of_rule q) (goal_in goals) in
          let same : length (map (goal_in goals) (arguments_of_rule q)) ≡ length u.arguments = ap (λ (ps : List Paths). length ps) e in
          let n = argument_count l is c r u in
          let k : place.0 < c.places = omega arith in
          let at = argument_at goals (arguments_of_rule q) place.0 d.0 none low place.2 in
          let argument : get_or u.arguments place.0 none ≡ goal_in goals d.0 = sym (ap (λ (ps : List Paths). get_or ps place.0 none) e) ∙ at in
          let m = member_of d.0 d.2 in
          (place.0, k, (m.0, m.1, subst (λ (t : ClosedType). IsSubtype l (argument_type (arrows_at l c.component c.places) c.cover place.0) t) (ap type_of_paths argument ∙ sym m.2.type) (argument_upper l is c r u place.0 k)))

  -- omega is productive if there is a component
  no_component : (goal : Paths) (rs : List (Rule ℕ)) → IsRules l goal (map (named goals) rs) → ((r : Rule ℕ) → Contains rs r → IsDead r) → goal ≡ none → (x : ℕ) → x < length l.components → ⊥
  no_component (more q n) rs k f e x low = let g : ◌≡◌ {A = Paths} (more q n) none = e in cc
  no_component none rs k f e x low =
      let there = member_contains (member_append_left (Any none none ∷ []) (Head x []) (below_has (length l.components) 0 x (omega arith) (omega arith))) in
      let rule = Contains-from_map (named goals) rs (Head x []) (subst (λ (qs : List (Rule Paths)). Contains qs (Head x [])) (sym k) there) in
      let args = named_arguments goals rule.0 x [] (sym rule.2) in
      let d = f rule.0 rule.1 in
      nothing (arguments_of_rule rule.0) args d.0 d.1
    where
      nothing : (ns : List ℕ) → map (goal_in goals) ns ≡ [] → (j : ℕ) → Contains ns j → ⊥
      nothing [] e j m = Contains-nil j m
      nothing (n ∷ ns) e j m = cc

  form_of : (g : Paths) (t : ClosedType) → IsNormal (below_in l.taxonomy) (variances_in l.taxonomy) g → t ≡ type_of_paths g → IsForm l t g
  form_of g t n e =
      let back : paths_of (variances_in l.taxonomy) t ≡ g = ap (paths_of (variances_in l.taxonomy)) e ∙ paths_back g (variances_in l.taxonomy) n.suits in
      let same = covers_refl (below_in l.taxonomy) (variances_in l.taxonomy) (reflexive l) (transitive l) g n.suits in
      record {
        normal = n;
        lower = subst (λ m. PathsLe (below_in l.taxonomy) (variances_in l.taxonomy) g m) (sym back) same;
        upper = subst (λ m. PathsLe (below_in l.taxonomy) (variances_in l.taxonomy) m g) (sym back) same;
      }

  formed : (g : Paths) (m : proof.Member) → IsMemberFor l g m → (b : Block) → Contains m.blocks b → IsFormed l (path_total g) b
  formed g m f b k =
      let place = first_place l g b.component b.n ((f.exactly b.component b.n).0 (b, k, refl, refl)) in
      let layers = f.layers b k in
      record {
        place = record { declared = place.0; within = place.1 };
        as_many = layers.count ∙ count_total g;
        positions = all_from (All (ArePositions (length (arrows_at l b.component b.n)))) b.layers (λ layer u. each layers layer (Contains-place b.layers layer u));
      }
    where
      each : AreLayers l g b.component b.n b.layers → (layer : List (List ℕ)) → (j : ℕ) × (slice_get b.layers j ≡ Some layer) → All (ArePositions (length (arrows_at l b.component b.n))) layer
      each layers layer at = all_from (ArePositions (length (arrows_at l b.component b.n))) layer (λ s u.
          let minimal = ((layers.each at.0 layer at.1).exactly s).0 u in
          record { ascend = increasing s minimal.ascending; within = all_below (length (arrows_at l b.component b.n)) s (minimal_positions l (arrows_at l b.component b.n) (front_of (suc at.0) g) s minimal) })

  layers_pass : (g : Paths) (m : proof.Member) → IsMemberFor l g m → PassesLayers l m.blocks (path_total g)
  layers_pass g m f = record { formed = all_from (IsFormed l (path_total g)) m.blocks (formed g m f); different = different m.blocks f.in_order }

  unblocked : (g : Paths) (rs : List (Rule ℕ)) → SuitsAll (variances_in l.taxonomy) g → IsRules l g (map (named goals) rs) → ((r : Rule ℕ) → Contains rs r → IsDead r) → (m : proof.Member) → IsMemberFor l g m → PassesUnblocked l (IsBelowMember l members) m.blocks g
  unblocked none rs suits k f m member x n p = absurd (no_component none rs k f refl x p.declared)
  unblocked (more q rest) rs suits k f m member x n p = go (has_layers m.blocks (path_total (more q rest)) x n)
    where
      last : (s : List ℕ) → IsMinimal (CoversGoal l (arrows_at l x n) (more q rest)) s → Blocked (arrows_at l x n) n s
      last s i = cover_blocked (more q rest) rs k f q rest refl x n p s i

      lead : Lead l (arrows_at l x n)
      lead = leads l is x n

      whole : (layers : List (List (List ℕ))) → AreLayers l (more q rest) x n layers → BlockedFrom l (IsBelowMember l members) (arrows_at l x n) n (more q rest) ([] ∷ []) layers
      whole layers a = blocked_from l (IsBelowMember l members) (arrows_at l x n) n lead (more q rest) none ([] ∷ []) layers suits (empty_minimal l (arrows_at l x n)) a.count a.each last

      none_there : ((i : ℕ) → LeadsTo l (arrows_at l x n) q i → ⊥) → BlockedFrom l (IsBelowMember l members) (arrows_at l x n) n (more q rest) ([] ∷ []) (empty_layers (path_total (more q rest)))
      none_there f = (
        all_from (λ s. Blocked (arrows_at l x n) n s ⊎ Steps l (arrows_at l x n) [] q s) ([] ∷ []) (λ s u. inr (λ i leads. absurd (f i leads))),
        empty_from l (IsBelowMember l members) (arrows_at l x n) n lead rest,
      )

      go : HasLayers m.blocks (path_total (more q rest)) x n → BlockedFrom l (IsBelowMember l members) (arrows_at l x n) n (more q rest) ([] ∷ []) (layers_for m.blocks (path_total (more q rest)) x n)
      go (inl b) =
          subst (λ (layers : List (List (List ℕ))). BlockedFrom l (IsBelowMember l members) (arrows_at l x n) n (more q rest) ([] ∷ []) layers) (sym b.4)
          (whole b.0.layers (subst (λ (y : ℕ). AreLayers l (more q rest) y n b.0.layers) b.2 (subst (λ (k : ℕ). AreLayers l (more q rest) b.0.component k b.0.layers) b.3 (member.layers b.0 b.1))))
      go (inr b) =
          subst (λ (layers : List (List (List ℕ))). BlockedFrom l (IsBelowMember l members) (arrows_at l x n) n (more q rest) ([] ∷ []) layers) (sym b.1)
          (none_there (λ i leads. let u = (member.exactly x n).1 (p.declared, p.within, (i, leads)) in b.0 u.0 u.1 u.2 u.3))

  member_passes : (m : proof.Member) → Contains members m → PassesMember l (IsBelowMember l members) m
  member_passes m k =
      let i = number_of m k in
      let low = (a.exactly i.0).0 i.1 in
      let r = ruled_within l rows h i.0 (let c = count in let e : i.0 < length goals = low.0 in omega arith) in
      let rules = r.1 in
      let member = subst (λ (g : Paths). IsMemberFor l g m) rules.goal i.2 in
      record {
        form = listed r.0;
        is_form = form_of (listed r.0) m.goal rules.ready.normal member.type;
        layers = layers_pass (listed r.0) m member;
        unblocked = unblocked (listed r.0) (rules_at book i.0) rules.ready.normal.suits rules.rules (λ q j. dead i.0 low.1 q j (rules.within q j)) m member;
      }

  pub members_accepted : (IsProductiveIn book 0 → ⊥) → Accepts l (type_of_paths (goal_in goals 0)) (empty members)
  members_accepted never =
      let m = member_of 0 ((a.exactly 0).1 ((let low = some_goal l rows h in let c = count in omega arith), never)) in
      by_members (all_from (PassesMember l (IsBelowMember l members)) members member_passes) (m.0, m.1, subst (λ (t : ClosedType). IsSubtype l (type_of_paths (goal_in goals 0)) t) (sym m.2.type) reflexivity)
