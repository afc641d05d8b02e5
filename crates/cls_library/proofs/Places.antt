-- The arrows of a component by the places of their paths.
use Rattle.std.proofs.Common.{◌≡◌, ℕ, zero, suc, ◌+◌, ◌<◌, ◌≤◌, Bool, true, false, List, [], ◌∷◌, ◌++◌, length, map, drop, get_or, None, Some, refl, sym, subst, ap, ◌∙◌, arith, append_assoc}
use Rattle.std.specs.Prelude.{slice_get, slice_index_or, nat_lt, if◌then◌else◌}
use Rattle.std.proofs.lemmas.Bool.Decides.{nat_tests}
use Rattle.std.proofs.lemmas.List.{drop_more, drop_all, append-nil, length-append}
use Rattle.std.proofs.Math.Seq.{get_or-append_seam}
use Rattle.cls_base.specs.Lists.{AreBelow}
use Rattle.cls_path.specs.Paths.{TypePath, atom, inside, unit, left, right, function, sealed, listed}
use Rattle.cls_library.specs.Arrows.{MultiArrow, leading_arrows, with_source, split, onto, arrows_of}
use Rattle.cls_library.specs.Splits.{numbers_from, sources_at, target_at, split_at, source_at, places_from, arrows_at_places}

-- a path with fewer leading arrows isn't split
pub split-few : (n : ℕ) (p : TypePath) → leading_arrows p < n → split n p ≡ None
split-few zero p h = absurd (omega arith)
split-few (suc k) (function n p) h = ap (with_source n) (split-few k p (omega arith))
split-few (suc k) (atom c) h = refl
split-few (suc k) (inside c p) h = refl
split-few (suc k) unit h = refl
split-few (suc k) (left p) h = refl
split-few (suc k) (right p) h = refl
split-few (suc k) (sealed c n) h = refl

pub split-many : (n : ℕ) (p : TypePath) → n ≤ leading_arrows p → split n p ≡ Some (split_at n p)
split-many zero p h = refl
split-many (suc k) (function n p) h = ap (with_source n) (split-many k p (omega arith))
split-many (suc k) (atom c) h = absurd (omega arith)
split-many (suc k) (inside c p) h = absurd (omega arith)
split-many (suc k) unit h = absurd (omega arith)
split-many (suc k) (left p) h = absurd (omega arith)
split-many (suc k) (right p) h = absurd (omega arith)
split-many (suc k) (sealed c n) h = absurd (omega arith)

pub few : (a n : ℕ) → nat_lt a n ≡ true → a < n
few a n e = grind (arith, nat_tests)

pub many : (a n : ℕ) → nat_lt a n ≡ false → n ≤ a
many a n e = grind (arith, nat_tests)

is-few : (a n : ℕ) → a < n → nat_lt a n ≡ true
is-few a n e = grind (arith, nat_tests)

is-many : (a n : ℕ) → n ≤ a → nat_lt a n ≡ false
is-many a n e = grind (arith, nat_tests)

-- the place of a path with at least n leading arrows
pub record IsPlace (n : ℕ) (paths : List TypePath) (k : ℕ) : Type 0 where
  pub within : k < length paths
  pub enough : n ≤ leading_arrows (slice_index_or paths k unit)

module _ (n : ℕ) where
  abbrev at : List TypePath → ℕ → MultiArrow
  at paths k = split_at n (slice_index_or paths k unit)

  -- the arrows at the places are those of the definition
  module _ (pre : List TypePath) (p : TypePath) (ps : List TypePath) where
    joined : (pre ++ p ∷ []) ++ ps ≡ pre ++ p ∷ ps
    joined = append_assoc pre (p ∷ []) ps

    longer : length (pre ++ p ∷ []) ≡ length pre + 1
    longer = length-append pre (p ∷ [])

  arrows-from : (pre ps : List TypePath) → map (at (pre ++ ps)) (places_from n (length pre) ps) ≡ arrows_of n (listed ps)
  arrows-from pre [] = refl
  arrows-from pre (p ∷ ps) =
      cased
      ((λ j. map (at (sym (joined pre p ps) j)) (places_from n (sym (longer pre p ps) j) ps)) ∙ arrows-from (pre ++ p ∷ []) ps)
      (nat_lt (leading_arrows p) n) refl
    where
      first : at (pre ++ p ∷ ps) (length pre) ≡ split_at n p
      first = ap (split_at n) (get_or-append_seam pre p ps unit)

      cased :
          map (at (pre ++ p ∷ ps)) (places_from n (length pre + 1) ps) ≡ arrows_of n (listed ps) → (b : Bool) → nat_lt (leading_arrows p) n ≡ b
          → map (at (pre ++ p ∷ ps)) (if b then places_from n (length pre + 1) ps else length pre ∷ places_from n (length pre + 1) ps) ≡ onto (split n p) (arrows_of n (listed ps))
      cased rest true e = rest ∙ ap (λ a. onto a (arrows_of n (listed ps))) (sym (split-few n p (few (leading_arrows p) n e)))
      cased rest false e = (λ j. first j ∷ rest j) ∙ ap (λ a. onto a (arrows_of n (listed ps))) (sym (split-many n p (many (leading_arrows p) n e)))

  pub arrows-places : (ps : List TypePath) → arrows_at_places n ps (places_from n 0 ps) ≡ arrows_of n (listed ps)
  arrows-places ps = arrows-from [] ps

  place-from : (pre ps : List TypePath) (i : ℕ) → i < length (places_from n (length pre) ps) → IsPlace n (pre ++ ps) (get_or (places_from n (length pre) ps) i 0)
  place-from pre [] i l = absurd (omega arith)
  place-from pre (p ∷ ps) i l =
      cased
      (subst (λ paths. (i : ℕ) → i < length (places_from n (length pre + 1) ps) → IsPlace n paths (get_or (places_from n (length pre + 1) ps) i 0)) (joined pre p ps)
      (subst (λ m. (i : ℕ) → i < length (places_from n m ps) → IsPlace n ((pre ++ p ∷ []) ++ ps) (get_or (places_from n m ps) i 0)) (longer pre p ps)
      (place-from (pre ++ p ∷ []) ps)))
      (nat_lt (leading_arrows p) n) refl i l
    where
      cased :
          ((i : ℕ) → i < length (places_from n (length pre + 1) ps) → IsPlace n (pre ++ p ∷ ps) (get_or (places_from n (length pre + 1) ps) i 0))
          → (b : Bool) → nat_lt (leading_arrows p) n ≡ b → (i : ℕ)
          → i < length (if b then places_from n (length pre + 1) ps else length pre ∷ places_from n (length pre + 1) ps)
          → IsPlace n (pre ++ p ∷ ps) (get_or (if b then places_from n (length pre + 1) ps else length pre ∷ places_from n (length pre + 1) ps) i 0)
      cased later true e i l = later i l
      cased later false e zero l = record {
        within = let m = length-append pre (p ∷ ps) in omega arith;
        enough = subst (λ q. n ≤ leading_arrows q) (sym (get_or-append_seam pre p ps unit)) (many (leading_arrows p) n e);
      }
      cased later false e (suc i) l = later i (omega arith)

  place-at : (ps : List TypePath) (i : ℕ) → i < length (places_from n 0 ps) → IsPlace n ps (get_or (places_from n 0 ps) i 0)
  place-at ps i l = place-from [] ps i l

  pub place-in : (ps : List TypePath) (column : List ℕ) → column ≡ places_from n 0 ps → (i : ℕ) → i < length column → IsPlace n ps (get_or column i 0)
  place-in ps column e i = subst (λ (l : List ℕ). i < length l → IsPlace n ps (get_or l i 0)) (sym e) (place-at ps i)

  pub places-below : (ps : List TypePath) (i m : ℕ) → i + length ps ≤ m → AreBelow m (places_from n i ps)
  places-below [] i m l = tt
  places-below (p ∷ ps) i m l = cased (nat_lt (leading_arrows p) n) (places-below ps (i + 1) m (omega arith))
    where
      cased : (b : Bool) → AreBelow m (places_from n (i + 1) ps) → AreBelow m (if b then places_from n (i + 1) ps else i ∷ places_from n (i + 1) ps)
      cased true h = h
      cased false h = (omega arith, h)

  -- the places, path after path
  module _ (ps : List TypePath) (i : ℕ) (p : TypePath) (at : i < length ps) (is : p ≡ get_or ps i p) (done whole : List ℕ) (h : done ++ places_from n i (drop i ps) ≡ whole) where
    next : done ++ places_from n i (p ∷ drop (i + 1) ps) ≡ whole
    next = ap (λ l. done ++ places_from n i l) (sym (drop_more ps i p at ∙ ap (λ q. q ∷ drop (i + 1) ps) (sym is))) ∙ h

    pub places-more : n ≤ leading_arrows p → (done ++ i ∷ []) ++ places_from n (i + 1) (drop (i + 1) ps) ≡ whole
    places-more l =
        append_assoc done (i ∷ []) (places_from n (i + 1) (drop (i + 1) ps))
        ∙ ap (λ b. done ++ (if b then places_from n (i + 1) (drop (i + 1) ps) else i ∷ places_from n (i + 1) (drop (i + 1) ps))) (sym (is-many (leading_arrows p) n l)) ∙ next

    pub places-skip : leading_arrows p < n → done ++ places_from n (i + 1) (drop (i + 1) ps) ≡ whole
    places-skip l =
        ap (λ b. done ++ (if b then places_from n (i + 1) (drop (i + 1) ps) else i ∷ places_from n (i + 1) (drop (i + 1) ps))) (sym (is-few (leading_arrows p) n l)) ∙ next

  pub places-all : (ps : List TypePath) (i : ℕ) (done whole : List ℕ) → length ps ≤ i → done ++ places_from n i (drop i ps) ≡ whole → done ≡ whole
  places-all ps i done whole l h = sym (append-nil done) ∙ ap (λ x. done ++ places_from n i x) (sym (drop_all i ps l)) ∙ h

-- the places of paths that all have at least n leading arrows
pub numbers-places : (n i : ℕ) (ps : List TypePath) → ((k : ℕ) → k < length ps → n ≤ leading_arrows (slice_index_or ps k unit)) → numbers_from i (length ps) ≡ places_from n i ps
numbers-places n i [] h = refl
numbers-places n i (p ∷ ps) h =
    ap (λ (l : List ℕ). i ∷ l) (numbers-places n (i + 1) ps (λ k l. h (suc k) (omega arith)))
    ∙ ap (λ (b : Bool). if b then places_from n (i + 1) ps else i ∷ places_from n (i + 1) ps) (sym (is-many (leading_arrows p) n (h 0 (omega arith))))

-- the sources of a split path
pub source-within : (n i : ℕ) (p : TypePath) → i < n → source_at i p ≡ slice_get (sources_at n p) i
source-within zero i p l = absurd (omega arith)
source-within (suc n) zero (function s p) l = refl
source-within (suc n) (suc i) (function s p) l = source-within n i p (omega arith)
source-within (suc n) zero (atom c) l = refl
source-within (suc n) zero (inside c p) l = refl
source-within (suc n) zero unit l = refl
source-within (suc n) zero (left p) l = refl
source-within (suc n) zero (right p) l = refl
source-within (suc n) zero (sealed c s) l = refl
source-within (suc n) (suc i) (atom c) l = refl
source-within (suc n) (suc i) (inside c p) l = refl
source-within (suc n) (suc i) unit l = refl
source-within (suc n) (suc i) (left p) l = refl
source-within (suc n) (suc i) (right p) l = refl
source-within (suc n) (suc i) (sealed c s) l = refl

-- the source of an arrow is that of the first one behind the arrows before it
pub source-behind : (i : ℕ) (p : TypePath) → source_at 0 (target_at i p) ≡ source_at i p
source-behind zero p = refl
source-behind (suc i) (function s p) = source-behind i p
source-behind (suc i) (atom c) = refl
source-behind (suc i) (inside c p) = refl
source-behind (suc i) unit = refl
source-behind (suc i) (left p) = refl
source-behind (suc i) (right p) = refl
source-behind (suc i) (sealed c s) = refl

pub source-past : (n i : ℕ) (p : TypePath) → n ≤ i → None ≡ slice_get (sources_at n p) i
source-past zero i p l = refl
source-past (suc n) zero p l = absurd (omega arith)
source-past (suc n) (suc i) (function s p) l = source-past n i p (omega arith)
source-past (suc n) (suc i) (atom c) l = refl
source-past (suc n) (suc i) (inside c p) l = refl
source-past (suc n) (suc i) unit l = refl
source-past (suc n) (suc i) (left p) l = refl
source-past (suc n) (suc i) (right p) l = refl
source-past (suc n) (suc i) (sealed c s) l = refl
