-- The blocks of a goal that are computed, from one place to the next.
use Rattle.std.proofs.Common.{ℕ, zero, suc, ◌≡◌, ◌+◌, ◌-◌, ◌<◌, ◌≤◌, refl, sym, ◌∙◌, subst, ap, ◌⊎◌, inl, inr, List, [], ◌∷◌, ◌++◌, length, arith, append_assoc, Contains}
use Rattle.std.specs.Prelude.{None}
use Rattle.cls_base.proofs.Lists.{Contains-nil, Contains-here}
use Rattle.cls_path.specs.Paths.{TypePath, Paths, none, more, SuitsAll}
use Rattle.cls_library.specs.declared.place.Place.{Place}
use Rattle.cls_library.specs.Arrows.{arity_of}
use Rattle.cls_library.specs.Families.{IsPlace, IsBefore, IsNext, IsNextPlace, NoneBegins, NoneBeginsAt}
use Rattle.cls_library.specs.Libraries.{Library, IsLibrary, variances_in, paths_at, arrows_at}
use Rattle.cls_expand.proofs.Unreached.{IsReached, reached}
use Rattle.cls_proof.specs.Certificates.{Block}
use Rattle.cls_cert.specs.Building.{HasFirstFamily}
use Rattle.cls_cert.specs.Computed.{layers_from, block_by, positions_from, families_by, block_at, counts_from, blocks_in, components_from, blocks_from}
use Rattle.cls_cert.proofs.FamilyLists.{leads_at}

-- the block of families by whether there is a first one that isn't empty
pub some_block : (x n : ℕ) (fs : List (List ℕ)) → HasFirstFamily fs → block_by x n fs ≡ record { component = x; n = n; layers = layers_from [] fs } ∷ []
some_block x n [] h = absurd h
some_block x n ([] ∷ fs) h = absurd (Contains-nil h.0 h.1)
some_block x n ((i ∷ f) ∷ fs) h = refl

pub no_block : (x n : ℕ) (fs : List (List ℕ)) → (HasFirstFamily fs → ⊥) → block_by x n fs ≡ []
no_block x n [] h = refl
no_block x n ([] ∷ fs) h = refl
no_block x n ((i ∷ f) ∷ fs) h = absurd (h (i, Contains-here i f))

module _ (l : Library) where
  -- a goal without a path has no block
  no_counts : (x n k : ℕ) → counts_from l none x n k ≡ []
  no_counts x n zero = refl
  no_counts x n (suc k) = no_counts x (suc n) k

  pub blocks_of_none : (x n k : ℕ) → components_from l none x n k ≡ []
  blocks_of_none x n zero = refl
  blocks_of_none x n (suc k) =
      ap (λ (bs : List Block). bs ++ components_from l none (suc x) 0 k) (no_counts x n (suc (arity_of (paths_at l x)) - n)) ∙ blocks_of_none (suc x) 0 k

  module _ (is : IsLibrary l) (goal : Paths) (suits : SuitsAll (variances_in l.taxonomy) goal) where
    -- where no arrow leads to the first path there is no block
    none_by : (q : TypePath) (x n : ℕ) (fs : List (List ℕ)) (f : List ℕ) → ((i : ℕ) → Contains f i → ⊥) → block_by x n (f ∷ fs) ≡ []
    none_by q x n fs [] h = refl
    none_by q x n fs (i ∷ f) h = absurd (h i (Contains-here i f))

    none_at : (g : Paths) → SuitsAll (variances_in l.taxonomy) g → (x n : ℕ) → NoneBegins l g x n → block_by x n (families_by l (arrows_at l x n) g) ≡ []
    none_at none s x n h = absurd h
    none_at (more q rest) s x n h =
        none_by q x n (families_by l (arrows_at l x n) rest) (positions_from l q 0 (arrows_at l x n)) (λ i m. Contains-nil i ((h.exactly i).1 (leads_at l is x n q s.0 i m)))

    abbrev IsEmptyAt : ℕ → ℕ → Type 0
    IsEmptyAt x n = block_at l goal x n ≡ []

    -- empty places within a component are passed over
    counts_none : (x n k : ℕ) → ((j : ℕ) → n ≤ j → j < n + k → IsEmptyAt x j) → counts_from l goal x n k ≡ []
    counts_none x n zero f = refl
    counts_none x n (suc k) f =
        ap (λ (bs : List Block). bs ++ counts_from l goal x (suc n) k) (f n (omega arith) (omega arith))
        ∙ counts_none x (suc n) k (λ j a b. f j (omega arith) (omega arith))

    counts_to : (x n a b : ℕ) → ((j : ℕ) → n ≤ j → j < n + a → IsEmptyAt x j) → counts_from l goal x n (a + suc b) ≡ block_at l goal x (n + a) ++ counts_from l goal x (suc (n + a)) b
    counts_to x n zero b f =
        ap (λ (k : ℕ). counts_from l goal x n k) (let e : 0 + suc b ≡ suc b = omega arith in e)
        ∙ ap (λ (m : ℕ). block_at l goal x m ++ counts_from l goal x (suc m) b) (let e : n ≡ n + 0 = omega arith in e)
    counts_to x n (suc a) b f =
        ap (λ (k : ℕ). counts_from l goal x n k) (let e : suc a + suc b ≡ suc (a + suc b) = omega arith in e)
        ∙ (ap (λ (bs : List Block). bs ++ counts_from l goal x (suc n) (a + suc b)) (f n (omega arith) (omega arith))
        ∙ (counts_to x (suc n) a b (λ j u v. f j (omega arith) (omega arith))
        ∙ ap (λ (m : ℕ). block_at l goal x m ++ counts_from l goal x (suc m) b) (let e : suc n + a ≡ n + suc a = omega arith in e)))

    -- from a number of arguments on to a place of the component
    blocks_to : (x n m : ℕ) → n ≤ m → m ≤ arity_of (paths_at l x) → ((j : ℕ) → n ≤ j → j < m → IsEmptyAt x j) → blocks_in l goal x n ≡ block_at l goal x m ++ blocks_in l goal x (m + 1)
    blocks_to x n m u v f =
        ap (λ (k : ℕ). counts_from l goal x n k) (let e : suc (arity_of (paths_at l x)) - n ≡ (m - n) + suc (arity_of (paths_at l x) - m) = omega arith in e)
        ∙ (counts_to x n (m - n) (arity_of (paths_at l x) - m) (λ j a b. f j a (omega arith))
        ∙ (ap (λ (k : ℕ). block_at l goal x k ++ counts_from l goal x (suc k) (arity_of (paths_at l x) - m)) (let e : n + (m - n) ≡ m = omega arith in e)
        ∙ (ap (λ (k : ℕ). block_at l goal x m ++ counts_from l goal x k (arity_of (paths_at l x) - m)) (let e : suc m ≡ m + 1 = omega arith in e)
        ∙ ap (λ (k : ℕ). block_at l goal x m ++ counts_from l goal x (m + 1) k) (let e : arity_of (paths_at l x) - m ≡ suc (arity_of (paths_at l x)) - (m + 1) = omega arith in e))))

    blocks_none : (x n : ℕ) → ((j : ℕ) → n ≤ j → j ≤ arity_of (paths_at l x) → IsEmptyAt x j) → blocks_in l goal x n ≡ []
    blocks_none x n f = counts_none x n (suc (arity_of (paths_at l x)) - n) (λ j a b. f j a (omega arith))

    abbrev at : ℕ → ℕ → Place
    at x n = record { component = x; count = n }

    not_before : (x n j : ℕ) → n ≤ j → IsBefore (at x j) (at x n) → ⊥
    not_before x n j u (inl i) = omega arith
    not_before x n j u (inr i) = let k : j < n = i.1 in omega arith

    -- what isn't before the next component isn't before a place of this one
    behind : (x n : ℕ) (r : Place) → IsBefore r (at x n) → IsBefore r (at (suc x) 0)
    behind x n r (inl i) = let k : r.component < x = i in inl (omega arith)
    behind x n r (inr i) = let k : r.component ≡ x = i.0 in inl (omega arith)

    next_component : (x y m : ℕ) → x < y → (suc x < y) ⊎ ((y ≡ suc x) × (0 ≤ m))
    next_component x y m h = elim (cases x y h) [ inl i ↦ inl i | inr e ↦ inr (e, omega arith) ]
      where
        cases : (x y : ℕ) → x < y → (suc x < y) ⊎ (y ≡ suc x)
        cases x y h = grind arith

    module _ (p : Place) (place : IsPlace l p) where
      here : (x n k : ℕ) → x + suc k ≡ length l.components → p.component ≡ x → n ≤ p.count → ((r : Place) → IsPlace l r → (IsBefore r (at x n) → ⊥) → IsBefore r p → NoneBeginsAt l goal r)
          → components_from l goal x n (suc k) ≡ block_at l goal p.component p.count ++ components_from l goal p.component (p.count + 1) (length l.components - p.component)
      here x n k e s u f =
          let arity : p.count ≤ arity_of (paths_at l x) = subst (λ (y : ℕ). p.count ≤ arity_of (paths_at l y)) s place.within in
          let declared : x < length l.components = omega arith in
          let empty : (j : ℕ) → n ≤ j → j < p.count → IsEmptyAt x j = λ j a b. none_at goal suits x j (f (at x j) (record { declared = declared; within = (omega arith) }) (not_before x n j a) (inr (sym s, b))) in
          let left : suc k ≡ length l.components - x = omega arith in
          ap (λ (bs : List Block). bs ++ components_from l goal (suc x) 0 k) (blocks_to x n p.count u arity empty)
          ∙ (append_assoc (block_at l goal x p.count) (blocks_in l goal x (p.count + 1)) (components_from l goal (suc x) 0 k)
          ∙ (ap (λ (c : ℕ). block_at l goal x p.count ++ components_from l goal x (p.count + 1) c) left
          ∙ ap (λ (y : ℕ). block_at l goal y p.count ++ components_from l goal y (p.count + 1) (length l.components - y)) (sym s)))

      to_next : (k x n : ℕ) → x + k ≡ length l.components → IsReached x n p.component p.count → ((r : Place) → IsPlace l r → (IsBefore r (at x n) → ⊥) → IsBefore r p → NoneBeginsAt l goal r)
          → components_from l goal x n k ≡ block_at l goal p.component p.count ++ components_from l goal p.component (p.count + 1) (length l.components - p.component)
      to_next zero x n e (inl u) f = absurd (let d : p.component < length l.components = place.declared in omega arith)
      to_next zero x n e (inr u) f = absurd (let d : p.component < length l.components = place.declared in let s : p.component ≡ x = u.0 in omega arith)
      to_next (suc k) x n e (inr u) f = here x n k e u.0 u.1 f
      to_next (suc k) x n e (inl u) f =
          let declared : x < length l.components = omega arith in
          let empty : (j : ℕ) → n ≤ j → j ≤ arity_of (paths_at l x) → IsEmptyAt x j = λ j a b. none_at goal suits x j (f (at x j) (record { declared = declared; within = b }) (not_before x n j a) (inl u)) in
          ap (λ (bs : List Block). bs ++ components_from l goal (suc x) 0 k) (blocks_none x n empty)
          ∙ to_next k (suc x) 0 (omega arith) (next_component x p.component p.count u) (λ r is_place later before. f r is_place (λ b. later (behind x n r b)) before)

    to_end : (k x n : ℕ) → x + k ≡ length l.components → ((r : Place) → IsPlace l r → (IsBefore r (at x n) → ⊥) → NoneBeginsAt l goal r) → components_from l goal x n k ≡ []
    to_end zero x n e f = refl
    to_end (suc k) x n e f =
        let declared : x < length l.components = omega arith in
        let empty : (j : ℕ) → n ≤ j → j ≤ arity_of (paths_at l x) → IsEmptyAt x j = λ j a b. none_at goal suits x j (f (at x j) (record { declared = declared; within = b }) (not_before x n j a)) in
        ap (λ (bs : List Block). bs ++ components_from l goal (suc x) 0 k) (blocks_none x n empty)
        ∙ to_end k (suc x) 0 (omega arith) (λ r is_place later. f r is_place (λ b. later (behind x n r b)))

    -- the blocks from a place on, up to the next place where there may be one, and to the end
    pub next_block : (from p : Place) → from.component ≤ length l.components → IsNextPlace l goal from p → blocks_from l goal from ≡ block_at l goal p.component p.count ++ blocks_from l goal (record { component = p.component; count = p.count + 1 })
    next_block from p w next =
        to_next p next.place (length l.components - from.component) from.component from.count (omega arith) (reached from.component from.count p.component p.count next.later) next.passed

    pub no_next_block : (from : Place) → from.component ≤ length l.components → IsNext l goal from None → blocks_from l goal from ≡ []
    no_next_block from w next = to_end (length l.components - from.component) from.component from.count (omega arith) next
