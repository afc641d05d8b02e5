-- The blocks of a member, place after place.
use Rattle.std.proofs.Common.{ℕ, zero, suc, ◌≡◌, ◌+◌, ◌<◌, ◌≤◌, ◌↔◌, ◌==◌, refl, sym, ◌∙◌, subst, ap, ◌⊎◌, inl, inr, Bool, false, not, IsTrue, List, [], ◌∷◌, ◌++◌, length, take, arith, rules, Contains, Option, Some, None}
use Rattle.std.specs.Prelude.{slice_get}
use Rattle.std.proofs.lemmas.List.Elements.{Contains-push, Contains-push_cases, Contains-append_left}
use Rattle.std.proofs.lemmas.Option.{slice_get_within, get_or_from_slice_get}
use Rattle.cls_base.specs.Lists.{AreDistinct}
use Rattle.cls_base.proofs.Lists.{Contains-nil, Contains-here, Contains-later, Contains-head}
use Rattle.cls_base.specs.Limits.{max_covers}
use Rattle.cls_path.specs.Paths.{TypePath, Paths, none, more, listed, type_of_paths}
use Rattle.cls_cover.specs.Lists.{Sublist, ends, drops}
use Rattle.cls_cover.specs.Covers.{IsMinimal, AreMinimal, MeetsEach, AreCovers, HaveMore, AreWithinLimit}
use Rattle.cls_library.specs.Arrows.{MultiArrow, arity_of}
use Rattle.cls_library.specs.Families.{AreFamilies}
use Rattle.cls_library.specs.Libraries.{Library, paths_at, arrows_at}
use Rattle.cls_library.specs.Reaching.{CoversGoal}
use Rattle.cls_library.specs.Rules.{IsWide, by_covers}
use Rattle.cls_expand.proofs.FamilyCovers.{covers_goal, many_from}
use Rattle.cls_proof.specs.Certificates as proof
use Rattle.cls_proof.specs.Certificates.{Block}
use Rattle.cls_cert.specs.Making.{front_of, path_count, HasFirst, AreLayers, BlockBefore, IsMemberFor}
use Rattle.cls_cert.specs.Building.{AreCoversOfFronts, HasFirstFamily, IsPlaceBefore, AddsBlock, with_block, without_block, AreBlocks}
use Rattle.cls_cert.proofs.Lists.{differs, not_false, is_true, rises_last}

-- without families there is one cover
pub one_cover : (j : ℕ) → HaveMore (take j []) max_covers → ⊥
one_cover j m = two m.list m.distinct (λ s k. alone s (m.minimal s k)) m.more
  where
    none_taken : (j : ℕ) → take {A = List ℕ} j [] ≡ []
    none_taken zero = refl
    none_taken (suc j) = refl

    nothing : (s : List ℕ) → Sublist [] s
    nothing [] = ends
    nothing (x ∷ s) = drops (nothing s)

    alone : (s : List ℕ) → IsMinimal (MeetsEach (take j [])) s → s ≡ []
    alone s m = sym (m.minimal [] (nothing s) (λ f k. absurd (Contains-nil f (subst (λ (fs : List (List ℕ)). Contains fs f) (none_taken j) k))))

    two : (xs : List (List ℕ)) → AreDistinct xs → ((s : List ℕ) → Contains xs s → s ≡ []) → max_covers < length xs → ⊥
    two [] d f l = omega arith
    two (x ∷ []) d f l = omega arith
    two (x ∷ y ∷ xs) d f l = d.0 (Contains-head x y xs (f x (Contains-here x (y ∷ xs)) ∙ sym (f y (Contains-later y x (y ∷ xs) (Contains-here y xs)))))

module _ (l : Library) where
  -- the first families of a goal are those of its first paths
  taken : (arrows : List MultiArrow) (goal : List TypePath) (fs : List (List ℕ)) (j : ℕ) → AreFamilies l arrows goal fs → AreFamilies l arrows (take j goal) (take j fs)
  taken arrows goal fs zero h = tt
  taken arrows [] [] (suc j) h = tt
  taken arrows [] (f ∷ fs) (suc j) h = absurd h
  taken arrows (q ∷ goal) [] (suc j) h = absurd h
  taken arrows (q ∷ goal) (f ∷ fs) (suc j) h = (h.0, taken arrows goal fs j h.1)

  front_listed : (goal : List TypePath) (j : ℕ) → listed (take j goal) ≡ front_of j (listed goal)
  front_listed goal zero = refl
  front_listed [] (suc j) = refl
  front_listed (q ∷ goal) (suc j) = ap (more q) (front_listed goal j)

  families_count : (arrows : List MultiArrow) (goal : List TypePath) (fs : List (List ℕ)) → AreFamilies l arrows goal fs → length fs ≡ path_count (listed goal)
  families_count arrows [] [] h = refl
  families_count arrows [] (f ∷ fs) h = absurd h
  families_count arrows (q ∷ goal) [] h = absurd h
  families_count arrows (q ∷ goal) (f ∷ fs) h = ap suc (families_count arrows goal fs h.1)

  pub layers_are : (x n : ℕ) (goal : List TypePath) (fs : List (List ℕ)) (layers : List (List (List ℕ))) → AreFamilies l (arrows_at l x n) goal fs → AreCoversOfFronts fs layers → AreLayers l (listed goal) x n layers
  layers_are x n goal fs layers h c = record {
    count = c.count ∙ families_count (arrows_at l x n) goal fs h;
    each = (λ j layer e. each j layer e);
  }
    where
      each : (j : ℕ) (layer : List (List ℕ)) → slice_get layers j ≡ Some layer → AreMinimal (CoversGoal l (arrows_at l x n) (front_of (suc j) (listed goal))) layer
      each j layer e =
          let w : j < length layers = slice_get_within layers j layer e in
          let k = c.count in
          let m = c.each j (omega arith) in
          let s = subst (λ (ls : List (List ℕ)). AreCovers (take (suc j) fs) ls) (get_or_from_slice_get layers j layer [] e) m in
          subst (λ (p : Paths). AreMinimal (CoversGoal l (arrows_at l x n) p) layer) (front_listed goal (suc j)) (covers_goal l (arrows_at l x n) (take (suc j) goal) (take (suc j) fs) layer (taken (arrows_at l x n) goal fs (suc j) h) s)

  -- no first families of a goal that isn't wide have too many covers
  pub few_covers : (x n : ℕ) (goal : List TypePath) (fs : List (List ℕ)) → x < length l.components → n ≤ arity_of (paths_at l x) → (IsWide l (listed goal) → ⊥) → AreFamilies l (arrows_at l x n) goal fs → AreWithinLimit fs max_covers
  few_covers x n [] fs d w narrow h = λ j k m. none_many fs h j m
    where
      none_many : (fs : List (List ℕ)) → AreFamilies l (arrows_at l x n) [] fs → (j : ℕ) → HaveMore (take j fs) max_covers → ⊥
      none_many [] h j m = one_cover j m
      none_many (f ∷ fs) h j m = absurd h
  few_covers x n (q ∷ goal) fs d w narrow h = λ j k m. narrow (record { component = x; declared = d; wide = by_covers n (many_from l x n (q ∷ goal) fs h w j m) })

  first_family : (x n : ℕ) (goal : List TypePath) (fs : List (List ℕ)) → x < length l.components → n ≤ arity_of (paths_at l x) → AreFamilies l (arrows_at l x n) goal fs → HasFirstFamily fs ↔ HasFirst l (listed goal) x n
  first_family x n [] [] d w h = ((λ k. k), (λ k. k))
  first_family x n [] (f ∷ fs) d w h = absurd h
  first_family x n (q ∷ goal) [] d w h = absurd h
  first_family x n (q ∷ goal) (f ∷ fs) d w h = ((λ k. (d, w, (k.0, (h.0.exactly k.0).0 k.1))), (λ k. (k.2.0, (h.0.exactly k.2.0).1 k.2.1)))

  pub has_first : (x n : ℕ) (goal : List TypePath) (fs : List (List ℕ)) → x < length l.components → n ≤ arity_of (paths_at l x) → AreFamilies l (arrows_at l x n) goal fs → HasFirstFamily fs → HasFirst l (listed goal) x n
  has_first x n goal fs d w h k = (first_family x n goal fs d w h).0 k

  pub has_no_first : (x n : ℕ) (goal : List TypePath) (fs : List (List ℕ)) → x < length l.components → n ≤ arity_of (paths_at l x) → AreFamilies l (arrows_at l x n) goal fs → (HasFirstFamily fs → ⊥) → HasFirst l (listed goal) x n → ⊥
  has_no_first x n goal fs d w h f k = f ((first_family x n goal fs d w h).1 k)

  pub first_place : (goal : Paths) (x n : ℕ) → HasFirst l goal x n → (x < length l.components) × (n ≤ arity_of (paths_at l x))
  first_place none x n h = absurd h
  first_place (more q rest) x n h = (h.0, h.1)

  module _ (goal : Paths) where
    abbrev IsAt : ℕ → ℕ → List Block → Type 0
    IsAt y k blocks = (b : Block) × Contains blocks b × (b.component ≡ y) × (b.n ≡ k)

    pub no_blocks : (blocks : List Block) → blocks ≡ [] → AreBlocks l goal 0 0 blocks
    no_blocks blocks e = subst (λ (bs : List Block). AreBlocks l goal 0 0 bs) (sym e) (record {
      in_order = tt;
      exactly = (λ y k. ((λ m. absurd (Contains-nil m.0 m.1)), (λ h. absurd (not_before y k h.1))));
      layers = (λ b m. absurd (Contains-nil b m));
    })
      where
        not_before : (y k : ℕ) → IsPlaceBefore y k 0 0 → ⊥
        not_before y k (inl i) = omega arith
        not_before y k (inr i) = let j : k < 0 = i.1 in omega arith

    split_place : (x n y k : ℕ) → IsPlaceBefore y k x (n + 1) → IsPlaceBefore y k x n ⊎ ((y ≡ x) × (k ≡ n))
    split_place x n y k (inl i) = inl (inl i)
    split_place x n y k (inr i) = go (cases i.1)
      where
        cases : k < n + 1 → (k < n) ⊎ (k ≡ n)
        cases j = grind arith

        go : (k < n) ⊎ (k ≡ n) → IsPlaceBefore y k x n ⊎ ((y ≡ x) × (k ≡ n))
        go (inl j) = inl (inr (i.0, j))
        go (inr j) = inr (i.0, j)

    later_place : (x n y k : ℕ) → IsPlaceBefore y k x n → IsPlaceBefore y k x (n + 1)
    later_place x n y k (inl i) = inl i
    later_place x n y k (inr i) = let j : k < n = i.1 in inr (i.0, omega arith)

    -- one place more
    pub blocks_step : (x n : ℕ) (old new : List Block) → AddsBlock l goal x n old new → AreBlocks l goal x n old → AreBlocks l goal x (n + 1) new
    blocks_step x n old new (without_block f e) a = subst (λ (bs : List Block). AreBlocks l goal x (n + 1) bs) (sym e) (record {
      in_order = a.in_order;
      exactly = (λ y k. ((λ m. let r = (a.exactly y k).0 m in (r.0, later_place x n y k r.1)), (λ h. by y k h.0 (split_place x n y k h.1))));
      layers = a.layers;
    })
      where
        by : (y k : ℕ) → HasFirst l goal y k → IsPlaceBefore y k x n ⊎ ((y ≡ x) × (k ≡ n)) → IsAt y k old
        by y k h (inl i) = (a.exactly y k).1 (h, i)
        by y k h (inr i) = absurd (f (subst (λ (z : ℕ). HasFirst l goal x z) i.1 (subst (λ (z : ℕ). HasFirst l goal z k) i.0 h)))
    blocks_step x n old new (with_block layers f g e) a = subst (λ (bs : List Block). AreBlocks l goal x (n + 1) bs) (sym e) (record {
      in_order = rises_last BlockBefore old block a.in_order (λ b m. before b ((a.exactly b.component b.n).0 (b, m, refl, refl)).1);
      exactly = (λ y k. ((λ m. to y k m.0 m.2 m.3 (Contains-push_cases old block m.0 m.1)), (λ h. by y k h.0 (split_place x n y k h.1))));
      layers = (λ b m. each b (Contains-push_cases old block b m));
    })
      where
        block : Block
        block = record { component = x; n = n; layers = layers }

        before : (b : Block) → IsPlaceBefore b.component b.n x n → BlockBefore b block
        before b (inl i) = inl i
        before b (inr i) = inr (i.0, inl i.1)

        here : (y k : ℕ) → x ≡ y → n ≡ k → HasFirst l goal y k × IsPlaceBefore y k x (n + 1)
        here y k p q = (
          subst (λ (z : ℕ). HasFirst l goal y z) q (subst (λ (z : ℕ). HasFirst l goal z n) p f),
          inr (sym p, omega arith),
        )

        to : (y k : ℕ) (b : Block) → b.component ≡ y → b.n ≡ k → Contains old b ⊎ (block ≡ b) → HasFirst l goal y k × IsPlaceBefore y k x (n + 1)
        to y k b p q (inl m) = let r = (a.exactly y k).0 (b, m, p, q) in (r.0, later_place x n y k r.1)
        to y k b p q (inr s) = here y k (ap (λ (c : Block). c.component) s ∙ p) (ap (λ (c : Block). c.n) s ∙ q)

        by : (y k : ℕ) → HasFirst l goal y k → IsPlaceBefore y k x n ⊎ ((y ≡ x) × (k ≡ n)) → IsAt y k (old ++ block ∷ [])
        by y k h (inl i) = let r = (a.exactly y k).1 (h, i) in (r.0, Contains-append_left old (block ∷ []) r.0 r.1, r.2, r.3)
        by y k h (inr i) = (block, Contains-push old block, sym i.0, sym i.1)

        each : (b : Block) → Contains old b ⊎ (block ≡ b) → AreLayers l goal b.component b.n b.layers
        each b (inl m) = a.layers b m
        each b (inr s) = subst (λ (c : Block). AreLayers l goal c.component c.n c.layers) s g

    -- all components
    pub member_whole : (m : proof.Member) → m.goal ≡ type_of_paths goal → AreBlocks l goal (length l.components) 0 m.blocks → IsMemberFor l goal m
    member_whole m e a = record {
      type = e;
      in_order = a.in_order;
      exactly = (λ x n. ((λ k. ((a.exactly x n).0 k).0), (λ h. (a.exactly x n).1 (h, inl (first_place goal x n h).0))));
      layers = a.layers;
    }

-- whether there is a first family that isn't empty
pub first_some : (fs : List (List ℕ)) (f : List ℕ) (b : Bool) → slice_get fs 0 ≡ Some f → b ≡ (length f == 0) → IsTrue (not b) ↔ HasFirstFamily fs
first_some [] f b e g = absurd (let k : ◌≡◌ {A = Option (List ℕ)} None (Some f) = e in cc)
first_some (f₀ ∷ fs) f b e g = subst (λ (k : List ℕ). IsTrue (not b) ↔ ((i : ℕ) × Contains k i)) (let k : f ≡ f₀ = cc in k) (by f b g)
  where
    by : (f : List ℕ) (b : Bool) → b ≡ (length f == 0) → IsTrue (not b) ↔ ((i : ℕ) × Contains f i)
    by [] b g = ((λ t. absurd (not_false (subst (λ (c : Bool). IsTrue (not c)) g t))), (λ m. absurd (Contains-nil m.0 m.1)))
    by (i ∷ f) b g =
        let e : (suc (length f) == 0) ≡ false = search rules in
        ((λ t. (i, Contains-here i f)), (λ m. subst (λ (c : Bool). IsTrue (not c)) (sym (g ∙ e)) is_true))

pub first_none : (fs : List (List ℕ)) → slice_get fs 0 ≡ None → IsTrue false ↔ HasFirstFamily fs
first_none [] e = ((λ t. absurd (not_false t)), (λ h. absurd h))
first_none (f ∷ fs) e = absurd (let k : ◌≡◌ {A = Option (List ℕ)} (Some f) None = e in cc)

-- a goal that has a path
pub some_path : (ps goal : List TypePath) (b : Bool) → ps ≡ goal → b ≡ (length ps == 0) → b ≡ false → 0 < length goal
some_path ps [] b e f g = absurd (differs (sym g ∙ (f ∙ ap (λ (qs : List TypePath). length qs == 0) e)))
some_path ps (q ∷ goal) b e f g = omega arith
