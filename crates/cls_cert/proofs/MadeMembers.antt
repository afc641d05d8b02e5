-- The members that are computed are those of the certificate that is made.
use Rattle.std.proofs.Common.{ℕ, zero, suc, ◌≡◌, ◌+◌, ◌-◌, ◌<◌, ◌≤◌, refl, sym, ◌∙◌, subst, ap, ◌⊎◌, inl, inr, List, [], ◌∷◌, ◌++◌, length, take, drop, get_or, arith, append_assoc, append-nil}
use Rattle.std.specs.Prelude.{Option, None, Some, slice_get}
use Rattle.std.proofs.lemmas.List.{drop_more, drop_all, length-map}
use Rattle.cls_base.proofs.Lists.{Contains-nil, Contains-here}
use Rattle.cls_core.specs.Arguments.{rules_of}
use Rattle.cls_core.specs.Rows.{Row}
use Rattle.cls_path.specs.Paths.{TypePath, Paths, none, listed, SuitsAll}
use Rattle.cls_cover.specs.Covers.{AreCovers}
use Rattle.cls_grammar.specs.Grammars.{book_of}
use Rattle.cls_grammar.specs.Ranks.{AreRanks}
use Rattle.cls_library.specs.Arrows.{arity_of}
use Rattle.cls_library.specs.Families.{AreFamilies}
use Rattle.cls_library.specs.Libraries.{Library, IsLibrary, variances_in, paths_at, arrows_at}
use Rattle.cls_proof.specs.Certificates as proof
use Rattle.cls_proof.specs.Certificates.{Block}
use Rattle.cls_cert.specs.Building.{AreCoversOfFronts, HasFirstFamily, IsPlaceBefore, AddsBlock, with_block, without_block, AreBlocks, AreMembersTo}
use Rattle.cls_cert.specs.Computed.{layers_from, block_by, families_by, block_at, counts_from, blocks_in, components_from, member_of, members_from}
use Rattle.cls_cert.specs.Conditions.{forms_of, IsGrammarOf}
use Rattle.cls_cert.specs.CoverLists.{made_covers}
use Rattle.cls_cert.specs.Making.{IsMemberFor, goal_in, AreMembers}
use Rattle.cls_cert.proofs.BlockLaws.{first_place, has_first, has_no_first, layers_are, no_blocks, blocks_step, member_whole}
use Rattle.cls_cert.proofs.BlockPlaces.{some_block, no_block}
use Rattle.cls_cert.proofs.FamilyLists.{families_are}
use Rattle.cls_cert.proofs.Lists.{got_within}
use Rattle.cls_cert.proofs.MemberLaws.{no_members, members_skip, members_step, members_whole}
use Rattle.cls_cert.proofs.Ranking.{rank_is}
use Rattle.cls_cert.proofs.Ruled.{ruled_within}

-- whether there is a first family that isn't empty
first_or_none : (fs : List (List ℕ)) → HasFirstFamily fs ⊎ (HasFirstFamily fs → ⊥)
first_or_none [] = inr (λ h. h)
first_or_none ([] ∷ fs) = inr (λ h. Contains-nil h.0 h.1)
first_or_none ((i ∷ f) ∷ fs) = inl (i, Contains-here i f)

-- the layers that are computed are the covers of the fronts
layers_count : (front others : List (List ℕ)) → length (layers_from front others) ≡ length others
layers_count front [] = refl
layers_count front (f ∷ others) = ap suc (layers_count (front ++ f ∷ []) others)

layers_at : (front others : List (List ℕ)) (j : ℕ) → j < length others → AreCovers (front ++ take (suc j) others) (get_or (layers_from front others) j [])
layers_at front [] j l = absurd (omega arith)
layers_at front (f ∷ others) zero l = (made_covers (front ++ f ∷ [])).1
layers_at front (f ∷ others) (suc j) l =
    subst (λ (fs : List (List ℕ)). AreCovers fs (get_or (layers_from (front ++ f ∷ []) others) j [])) (append_assoc front (f ∷ []) (take (suc j) others))
    (layers_at (front ++ f ∷ []) others j (omega arith))

fronts_covered : (fs : List (List ℕ)) → AreCoversOfFronts fs (layers_from [] fs)
fronts_covered fs = record { count = layers_count [] fs; each = layers_at [] fs }

module _ (l : Library) (is : IsLibrary l) (goal : List TypePath) (suits : SuitsAll (variances_in l.taxonomy) (listed goal)) where
  abbrev Blocks : ℕ → ℕ → List Block → Type 0
  Blocks x n blocks = AreBlocks l (listed goal) x n blocks

  families : (x n : ℕ) → AreFamilies l (arrows_at l x n) goal (families_by l (arrows_at l x n) (listed goal))
  families x n = families_are l is x n goal suits

  -- the block of a place, if there is one
  adds_by : (x n : ℕ) (old : List Block) → x < length l.components → n ≤ arity_of (paths_at l x) → (fs : List (List ℕ)) → AreFamilies l (arrows_at l x n) goal fs
      → HasFirstFamily fs ⊎ (HasFirstFamily fs → ⊥) → AddsBlock l (listed goal) x n old (old ++ block_by x n fs)
  adds_by x n old d w fs f (inl h) =
      with_block (layers_from [] fs) (has_first l x n goal fs d w f h) (layers_are l x n goal fs (layers_from [] fs) f (fronts_covered fs))
      (ap (λ (bs : List Block). old ++ bs) (some_block x n fs h))
  adds_by x n old d w fs f (inr h) = without_block (has_no_first l x n goal fs d w f h) (ap (λ (bs : List Block). old ++ bs) (no_block x n fs h) ∙ append-nil old)

  adds : (x n : ℕ) (old : List Block) → x < length l.components → n ≤ arity_of (paths_at l x) → AddsBlock l (listed goal) x n old (old ++ block_at l (listed goal) x n)
  adds x n old d w = adds_by x n old d w (families_by l (arrows_at l x n) (listed goal)) (families x n) (first_or_none (families_by l (arrows_at l x n) (listed goal)))

  counts_made : (x n k : ℕ) (old : List Block) → x < length l.components → n + k ≤ suc (arity_of (paths_at l x)) → Blocks x n old → Blocks x (n + k) (old ++ counts_from l (listed goal) x n k)
  counts_made x n zero old d w a =
      subst (λ (m : ℕ). Blocks x m (old ++ [])) (let e : n ≡ n + 0 = omega arith in e) (subst (λ (bs : List Block). Blocks x n bs) (sym (append-nil old)) a)
  counts_made x n (suc k) old d w a =
      let block = block_at l (listed goal) x n in
      let step : Blocks x (n + 1) (old ++ block) = blocks_step l (listed goal) x n old (old ++ block) (adds x n old d (omega arith)) a in
      let next : Blocks x (suc n) (old ++ block) = subst (λ (m : ℕ). Blocks x m (old ++ block)) (let e : n + 1 ≡ suc n = omega arith in e) step in
      subst (λ (m : ℕ). Blocks x m (old ++ (block ++ counts_from l (listed goal) x (suc n) k))) (let e : suc n + k ≡ n + suc k = omega arith in e)
      (subst (λ (bs : List Block). Blocks x (suc n + k) bs) (append_assoc old block (counts_from l (listed goal) x (suc n) k)) (counts_made x (suc n) k (old ++ block) d (omega arith) next))

  -- one component more
  component_on : (x n : ℕ) (blocks : List Block) → n ≡ suc (arity_of (paths_at l x)) → Blocks x n blocks → Blocks (suc x) 0 blocks
  component_on x n blocks e a = record {
    in_order = a.in_order;
    exactly = (λ y k. ((λ m. let r = (a.exactly y k).0 m in (r.0, inl (past y k r.1))), (λ h. (a.exactly y k).1 (h.0, back y k (first_place l (listed goal) y k h.0).1 h.1))));
    layers = a.layers;
  }
    where
      past : (y k : ℕ) → IsPlaceBefore y k x n → y < suc x
      past y k (inl i) = omega arith
      past y k (inr i) = let j : y ≡ x = i.0 in omega arith

      cases : (y : ℕ) → y < suc x → (y < x) ⊎ (y ≡ x)
      cases y i = grind arith

      back : (y k : ℕ) → k ≤ arity_of (paths_at l y) → IsPlaceBefore y k (suc x) 0 → IsPlaceBefore y k x n
      back y k w (inl i) = go (cases y i)
        where
          go : (y < x) ⊎ (y ≡ x) → IsPlaceBefore y k x n
          go (inl j) = inl j
          go (inr j) = let v : k ≤ arity_of (paths_at l x) = subst (λ (z : ℕ). k ≤ arity_of (paths_at l z)) j w in inr (j, omega arith)
      back y k w (inr i) = absurd (let j : k < 0 = i.1 in omega arith)

  component_made : (x : ℕ) (old : List Block) → x < length l.components → Blocks x 0 old → Blocks (suc x) 0 (old ++ blocks_in l (listed goal) x 0)
  component_made x old d a =
      let n = suc (arity_of (paths_at l x)) in
      let all : n - 0 ≡ n = omega arith in
      let made : Blocks x (0 + (n - 0)) (old ++ blocks_in l (listed goal) x 0) = counts_made x 0 (n - 0) old d (omega arith) a in
      component_on x (0 + (n - 0)) (old ++ blocks_in l (listed goal) x 0) (omega arith) made

  components_made : (k x : ℕ) (old : List Block) → x + k ≡ length l.components → Blocks x 0 old → Blocks (length l.components) 0 (old ++ components_from l (listed goal) x 0 k)
  components_made zero x old e a =
      subst (λ (y : ℕ). Blocks y 0 (old ++ [])) (let f : x ≡ length l.components = omega arith in f) (subst (λ (bs : List Block). Blocks x 0 bs) (sym (append-nil old)) a)
  components_made (suc k) x old e a =
      let here = blocks_in l (listed goal) x 0 in
      subst (λ (bs : List Block). Blocks (length l.components) 0 bs) (append_assoc old here (components_from l (listed goal) (suc x) 0 k))
      (components_made k (suc x) (old ++ here) (omega arith) (component_made x old (omega arith) a))

  pub member_is : IsMemberFor l (listed goal) (member_of l (listed goal))
  member_is =
      let n = length l.components in
      let all : n - 0 ≡ n = omega arith in
      let made : Blocks n 0 (components_from l (listed goal) 0 0 n) = components_made n 0 [] (omega arith) (no_blocks l (listed goal) [] refl) in
      member_whole l (listed goal) (member_of l (listed goal)) refl (subst (λ (k : ℕ). Blocks n 0 (components_from l (listed goal) 0 0 k)) (sym all) made)

module _ (l : Library) (rows : List (Row (List TypePath))) (ranks : List (Option ℕ)) (ranked : length ranks ≡ length rows) where
  one_more : (g : Paths) (gs : List Paths) (o : Option ℕ) (os : List (Option ℕ)) → members_from l (g ∷ gs) (o ∷ os) ≡ members_from l (g ∷ []) (o ∷ []) ++ members_from l gs os
  one_more g gs None os = refl
  one_more g gs (Some k) os = refl

  goal_count : length (forms_of rows) ≡ length rows
  goal_count = length-map rows (λ (r : Row (List TypePath)). listed r.goal)

  pub members_left_next : (i : ℕ) → i < length rows → members_from l (drop i (forms_of rows)) (drop i ranks) ≡ members_from l (goal_in (forms_of rows) i ∷ []) (get_or ranks i None ∷ []) ++ members_from l (drop (i + 1) (forms_of rows)) (drop (i + 1) ranks)
  members_left_next i w =
      let n = goal_count in
      let low : i < length (forms_of rows) = omega arith in
      let low_rank : i < length ranks = omega arith in
      ap (λ (gs : List Paths). members_from l gs (drop i ranks)) (drop_more (forms_of rows) i none low)
      ∙ (ap (λ (os : List (Option ℕ)). members_from l (goal_in (forms_of rows) i ∷ drop (i + 1) (forms_of rows)) os) (drop_more ranks i None low_rank)
      ∙ one_more (goal_in (forms_of rows) i) (drop (i + 1) (forms_of rows)) (get_or ranks i None) (drop (i + 1) ranks))

  pub members_left_none : (i : ℕ) → length rows ≤ i → members_from l (drop i (forms_of rows)) (drop i ranks) ≡ []
  members_left_none i w =
      let n = goal_count in
      let over : length (forms_of rows) ≤ i = omega arith in
      ap (λ (gs : List Paths). members_from l gs (drop i ranks)) (drop_all i (forms_of rows) over)

module _ (l : Library) (rows : List (Row (List TypePath))) (h : IsGrammarOf l rows) (ranks : List (Option ℕ)) (are : AreRanks (book_of rows) ranks) where
  count : length ranks ≡ length rows
  count = are.count ∙ length-map rows (λ (r : Row (List TypePath)). rules_of r.answer)

  -- the member of a goal of the grammar
  member_at : (i : ℕ) → i < length rows → IsMemberFor l (goal_in (forms_of rows) i) (member_of l (goal_in (forms_of rows) i))
  member_at i w =
      let u = ruled_within l rows h i w in
      subst (λ (g : Paths). IsMemberFor l g (member_of l g)) (sym u.1.goal) (member_is l u.1.ready.library u.0 u.1.ready.normal.suits)

  -- the members behind some
  members_next : (i : ℕ) (o : Option ℕ) → i < length rows → slice_get ranks i ≡ Some o → (old : List proof.Member) → AreMembersTo l (forms_of rows) (book_of rows) i old
      → AreMembersTo l (forms_of rows) (book_of rows) (i + 1) (old ++ members_from l (goal_in (forms_of rows) i ∷ []) (o ∷ []))
  members_next i None w e old a =
      members_step l (forms_of rows) (book_of rows) i old (old ++ member_of l (goal_in (forms_of rows) i) ∷ []) (member_of l (goal_in (forms_of rows) i)) refl (are.each i None e) (member_at i w) a
  members_next i (Some k) w e old a =
      subst (λ (ms : List proof.Member). AreMembersTo l (forms_of rows) (book_of rows) (i + 1) ms) (sym (append-nil old))
      (members_skip l (forms_of rows) (book_of rows) i old (k, (rank_is (book_of rows) ranks are i k e).tree) a)

  members_made : (k i : ℕ) → i + k ≡ length rows → (old : List proof.Member) → AreMembersTo l (forms_of rows) (book_of rows) i old
      → AreMembersTo l (forms_of rows) (book_of rows) (length rows) (old ++ members_from l (drop i (forms_of rows)) (drop i ranks))
  members_made zero i e old a =
      subst (λ (ms : List proof.Member). AreMembersTo l (forms_of rows) (book_of rows) (length rows) (old ++ ms)) (sym (members_left_none l rows ranks count i (omega arith)))
      (subst (λ (ms : List proof.Member). AreMembersTo l (forms_of rows) (book_of rows) (length rows) ms) (sym (append-nil old))
      (subst (λ (n : ℕ). AreMembersTo l (forms_of rows) (book_of rows) n old) (let f : i ≡ length rows = omega arith in f) a))
  members_made (suc k) i e old a =
      let w : i < length rows = omega arith in
      let c = count in
      let low : i < length ranks = omega arith in
      let here = members_from l (goal_in (forms_of rows) i ∷ []) (get_or ranks i None ∷ []) in
      let others = members_from l (drop (i + 1) (forms_of rows)) (drop (i + 1) ranks) in
      let next = members_next i (get_or ranks i None) w (got_within ranks i None low) old a in
      subst (λ (ms : List proof.Member). AreMembersTo l (forms_of rows) (book_of rows) (length rows) (old ++ ms)) (sym (members_left_next l rows ranks count i w))
      (subst (λ (ms : List proof.Member). AreMembersTo l (forms_of rows) (book_of rows) (length rows) ms) (append_assoc old here others)
      (members_made k (i + 1) (omega arith) (old ++ here) next))

  pub members_are : AreMembers l (forms_of rows) (book_of rows) (members_from l (forms_of rows) ranks)
  members_are =
      members_whole l (forms_of rows) (book_of rows) (length rows) (members_from l (forms_of rows) ranks)
      (sym (length-map rows (λ (r : Row (List TypePath)). listed r.goal)))
      (members_made (length rows) 0 (omega arith) [] (no_members l (forms_of rows) (book_of rows) [] refl))
