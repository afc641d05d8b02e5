-- Which places have to be walked.
use Rattle.std.proofs.Common.{ℕ, ◌≡◌, zero, suc, ◌<◌, ◌⊎◌, ◌↔◌, inr, inl, refl, sym, subst, ap, ◌∙◌, Bool, true, false, cond, IsTrue, List, [], ◌∷◌, map, length, get_or, ◌==◌, ◌&&◌, arith}
use Rattle.std.specs.Prelude.{All, Contains}
use Rattle.std.specs.List.{list_any}
use Rattle.std.proofs.lemmas.List.{get_or_default}
use Rattle.std.proofs.lemmas.List.Elements.{All-contains}
use Rattle.cls_base.specs.Lists.{AreDistinct}
use Rattle.cls_base.specs.Types.{ClosedType}
use Rattle.cls_base.proofs.Lists.{Contains-here, Contains-later, Contains-cases, Contains-nil}
use Rattle.cls_path.specs.Paths.{TypePath, Paths, none, more, listed}
use Rattle.cls_library.specs.Arrows.{MultiArrow}
use Rattle.cls_library.specs.Families.{IsFamilyIn, NoneBegins}
use Rattle.cls_library.specs.Libraries.{Library, arrows_at}
use Rattle.cls_proof.specs.Certificates.{Block}
use Rattle.cls_check.specs.declared.place.Place.{Place}
use Rattle.cls_check.specs.Checking.{path_total, empty_layers, place_of, layers_for, IsFormed, IsPlace, PassesLayers, BlockedFrom}
use Rattle.cls_check.specs.Goals.{IsBelowGoal}
use Rattle.cls_check.specs.Layers.{AllBelow}
use Rattle.cls_check.specs.Places.{block_place, arrows_in}
use Rattle.cls_check.specs.Tests.{IsWalked, IsWalkedAt, IsBlockWalked, IsOtherWalked}
use Rattle.cls_check.proofs.BlockLaws.{none_there}
use Rattle.cls_check.proofs.Keys.{same, place_found, place_missing}
use Rattle.cls_check.proofs.Stepping.{steps_nowhere}

-- from no set all further layers may be without one
empty_walked : (l : Library) (P : ClosedType → Type 0) (arrows : List MultiArrow) (n : ℕ) (form : Paths) → BlockedFrom l P arrows n form [] (empty_layers (path_total form))
empty_walked l P arrows n none = λ k d m. absurd (omega arith)
empty_walked l P arrows n (more q rest) = ((λ k d m. absurd (omega arith)), empty_walked l P arrows n rest)

-- where no arrow leads to the first path, layers without a set are enough
pub nowhere_walked : (l : Library) (goals : List (List TypePath)) (p : Place) (q : TypePath) (rest : Paths) → IsFamilyIn l.taxonomy (arrows_in l p) q [] → IsWalked l goals p (more q rest) (empty_layers (path_total (more q rest)))
nowhere_walked l goals p q rest is = ((λ k d m. inr (steps_nowhere l (arrows_in l p) q [] [] is refl _)), empty_walked l (IsBelowGoal l goals) (arrows_in l p) p.n rest)

pub begins_nowhere : (l : Library) (goals : List (List TypePath)) (p : Place) (form : Paths) → NoneBegins l form p.component p.n → IsWalked l goals p form (empty_layers (path_total form))
begins_nowhere l goals p none is = absurd is
begins_nowhere l goals p (more q rest) is = nowhere_walked l goals p q rest is

-- what is known of a block whose place and layers have other names
module _ (l : Library) (k : ℕ) (b : Block) (p : Place) (layers : List (List (List ℕ))) (there : p ≡ block_place b) (are : layers ≡ b.layers) where
  pub formed_place : IsFormed l k b → IsPlace l p.component p.n
  formed_place f = subst (λ (q : Place). IsPlace l q.component q.n) (sym there) f.place

  pub formed_count : IsFormed l k b → length layers ≡ k
  formed_count f = ap (λ (q : List (List (List ℕ))). length q) are ∙ f.as_many

  pub formed_within : IsFormed l k b → All (AllBelow (length (arrows_in l p))) layers
  formed_within f =
      let own : All (AllBelow (length (arrows_at l b.component b.n))) b.layers = (λ i d m j e o. (f.positions i d m j e o).within) in
      subst (λ (q : List (List (List ℕ))). All (AllBelow (length (arrows_in l p))) q) (sym are)
      (subst (λ (q : Place). All (AllBelow (length (arrows_in l q))) b.layers) (sym there) own)

  pub walked_there : (goals : List (List TypePath)) (form : Paths) → IsWalked l goals p form layers → IsBlockWalked l goals form b
  walked_there goals form h = subst (λ (q : List (List (List ℕ))). IsWalked l goals (block_place b) form q) are (subst (λ (q : Place). IsWalked l goals q form layers) there h)

  pub walked_here : (goals : List (List TypePath)) (form : Paths) → IsBlockWalked l goals form b → IsWalked l goals p form layers
  walked_here goals form h = subst (λ (q : Place). IsWalked l goals q form layers) (sym there) (subst (λ (q : List (List (List ℕ))). IsWalked l goals (block_place b) form q) (sym are) h)

each : {A : Type 0} (P : A → Type 0) (xs : List A) → ((x : A) → Contains xs x → P x) → All P xs
each P xs f k d m = f (get_or xs k d) (k, m, get_or_default xs k (get_or xs k d) d m)

both_same : (a b : ℕ) → ((a == a) && (b == b)) ≡ true
both_same a b = grind arith

-- the layers at the place of a block are its own
own_layers : (blocks : List Block) (k : ℕ) (b : Block) → AreDistinct (map place_of blocks) → Contains blocks b → layers_for blocks k b.component b.n ≡ b.layers
own_layers [] k b d c = absurd (Contains-nil b c)
own_layers (a ∷ blocks) k b d c = elim (Contains-cases a blocks b c) [
  | inl e ↦ first e
  | inr m ↦ by ((b.component == a.component) && (b.n == a.n)) refl m (own_layers blocks k b d.1 m)
]
  where
    first : b ≡ a → layers_for (a ∷ blocks) k b.component b.n ≡ b.layers
    first e = subst (λ (x : Block). layers_for (x ∷ blocks) k b.component b.n ≡ b.layers) e (ap (λ (t : Bool). cond t b.layers (layers_for blocks k b.component b.n)) (both_same b.component b.n))

    both_true : (x y z w : ℕ) → ((x == y) && (z == w)) ≡ true → (x ≡ y) × (z ≡ w)
    both_true x y z w h = (grind arith, grind arith)

    image : (bs : List Block) → Contains bs b → Contains (map place_of bs) (place_of b)
    image [] m = absurd (Contains-nil b m)
    image (x ∷ bs) m = elim (Contains-cases x bs b m) [
      | inl e ↦ subst (λ (y : Block). Contains (place_of y ∷ map place_of bs) (place_of b)) e (Contains-here (place_of b) (map place_of bs))
      | inr t ↦ Contains-later (place_of b) (place_of x) (map place_of bs) (image bs t)
    ]

    by : (t : Bool) → ((b.component == a.component) && (b.n == a.n)) ≡ t → Contains blocks b → layers_for blocks k b.component b.n ≡ b.layers → layers_for (a ∷ blocks) k b.component b.n ≡ b.layers
    by true h m later =
        let r = both_true b.component a.component b.n a.n h in
        let e : place_of b ≡ place_of a = (λ i. (r.0 i, r.1 i)) in
        absurd (d.0 (subst (λ (x : ℕ × ℕ). Contains (map place_of blocks) x) e (image blocks m)))
    by false h m later = ap (λ (t : Bool). cond t a.layers (layers_for blocks k b.component b.n)) h ∙ later

module _ (l : Library) (goals : List (List TypePath)) (blocks : List Block) (form : Paths) (passes : PassesLayers l blocks (path_total form)) where
  -- if all places are walked, the layers of each block are
  pub blocks_walked : ((x n : ℕ) → IsPlace l x n → IsWalkedAt l goals blocks form x n) → All (IsBlockWalked l goals form) blocks
  blocks_walked h = each (IsBlockWalked l goals form) blocks (λ b m. subst (λ (layers : List (List (List ℕ))). IsWalked l goals (block_place b) form layers)
      (own_layers blocks (path_total form) b passes.different m)
      (h b.component b.n (All-contains (IsFormed l (path_total form)) blocks b passes.formed m).place))

  -- if the blocks are walked, and the places without one, a place is
  pub place_walked : (keys : List Place) → keys ≡ map block_place blocks → (p : Place) → All (IsBlockWalked l goals form) blocks → IsOtherWalked l goals keys form p → IsWalkedAt l goals blocks form p.component p.n
  place_walked keys e p all other = by (list_any (same p) (map block_place blocks)) refl
    where
      from_image : (bs : List Block) → Contains (map block_place bs) p → (b : Block) × Contains bs b × (p ≡ block_place b)
      from_image [] c = absurd (Contains-nil p c)
      from_image (b ∷ bs) c = elim (Contains-cases (block_place b) (map block_place bs) p c) [
        | inl f ↦ (b, Contains-here b bs, f)
        | inr m ↦ (let r = from_image bs m in (r.0, Contains-later r.0 b bs r.1, r.2))
      ]

      at_block : (b : Block) → Contains blocks b → IsWalkedAt l goals blocks form b.component b.n
      at_block b m = subst (λ (layers : List (List (List ℕ))). IsWalked l goals (block_place b) form layers) (sym (own_layers blocks (path_total form) b passes.different m)) (All-contains (IsBlockWalked l goals form) blocks b all m)

      by : (t : Bool) → list_any (same p) (map block_place blocks) ≡ t → IsWalkedAt l goals blocks form p.component p.n
      by true h = let r = from_image blocks (place_found (map block_place blocks) p h) in subst (λ (q : Place). IsWalkedAt l goals blocks form q.component q.n) (sym r.2) (at_block r.0 r.1)
      by false h = subst (λ (layers : List (List (List ℕ))). IsWalked l goals p form layers) (sym (none_there blocks (path_total form) p h))
          (other (λ c. place_missing (map block_place blocks) p h (subst (λ (ks : List Place). Contains ks p) e c)))

  -- if all places are walked, those without a block are
  pub other_walked : (keys : List Place) → keys ≡ map block_place blocks → (p : Place) → IsWalkedAt l goals blocks form p.component p.n → IsOtherWalked l goals keys form p
  other_walked keys e p h absent = by (list_any (same p) (map block_place blocks)) refl
    where
      by : (t : Bool) → list_any (same p) (map block_place blocks) ≡ t → IsWalked l goals p form (empty_layers (path_total form))
      by true f = absurd (absent (subst (λ (ks : List Place). Contains ks p) (sym e) (place_found (map block_place blocks) p f)))
      by false f = subst (λ (layers : List (List (List ℕ))). IsWalked l goals p form layers) (none_there blocks (path_total form) p f) h

-- Where a component takes no argument the empty set isn't blocked. So a goal without a path is walked at all places only
-- if there is none.
pub omega_walked :
    (l : Library) (goals : List (List TypePath)) (blocks : List Block) (form : List TypePath) → form ≡ [] → (count : ℕ) → count ≡ length l.components
    → IsTrue (count == 0) ↔ ((x n : ℕ) → IsPlace l x n → IsWalkedAt l goals blocks (listed form) x n)
omega_walked l goals blocks form e count f = (
  (λ t x n place. absurd (let d : x < length l.components = place.declared in let z : count ≡ 0 = zero_from count t in omega arith)),
  (λ h. by (zero_or_more count) h),
)
  where
    zero_from : (n : ℕ) → (n == 0) ≡ true → n ≡ 0
    zero_from n h = grind arith

    zero_or_more : (n : ℕ) → ((n == 0) ≡ true) ⊎ (0 < n)
    zero_or_more zero = inl refl
    zero_or_more (suc n) = inr (omega arith)

    by : ((count == 0) ≡ true) ⊎ (0 < count) → ((x n : ℕ) → IsPlace l x n → IsWalkedAt l goals blocks (listed form) x n) → IsTrue (count == 0)
    by (inl z) h = z
    by (inr m) h =
        let w = subst (λ (ps : List TypePath). IsWalkedAt l goals blocks (listed ps) 0 0) e (h 0 0 (record { declared = omega arith; within = omega arith })) in
        let b = w 0 [] (omega arith) in
        absurd (let k : b.0 < 0 = b.1 in omega arith)
