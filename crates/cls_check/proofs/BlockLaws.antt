-- Blocks and their places.
use Rattle.std.proofs.Common.{ℕ, zero, suc, ◌≡◌, ◌+◌, ◌<◌, ◌==◌, ◌&&◌, ◌||◌, refl, sym, subst, ap, ◌∙◌, Bool, true, false, List, [], ◌∷◌, ◌++◌, length, map, take, get_or, Some, cond, arith}
use Rattle.std.specs.Prelude.{All, Contains, position}
use Rattle.std.specs.List.{list_any}
use Rattle.std.proofs.lemmas.List.{map-append, take_all}
use Rattle.std.proofs.lemmas.List.Elements.{All-push, All-contains}
use Rattle.std.proofs.lemmas.List.Quantifiers.{position-Some}
use Rattle.cls_base.specs.Lists.{AreDistinct, AreBelow}
use Rattle.cls_base.proofs.Lists.{AreDistinct-push, AreDistinct-last, AreDistinct-from_map}
use Rattle.cls_library.specs.Libraries.{Library, arrows_at}
use Rattle.cls_proof.specs.Certificates.{Block}
use Rattle.cls_check.specs.declared.place.Place.{Place}
use Rattle.cls_check.specs.Checking.{empty_layers, place_of, layers_for, IsFormed, PassesLayers}
use Rattle.cls_check.specs.Layers.{AllBelow}
use Rattle.cls_check.specs.Places.{block_place}
use Rattle.cls_check.proofs.Keys.{same}
use Rattle.cls_check.proofs.Loops.{take-one, get_map}

-- a place as a pair, and back
abbrev pair_of : Place → ℕ × ℕ
pair_of p = (p.component, p.n)

abbrev back : ℕ × ℕ → Place
back p = record { component = p.0; n = p.1 }

pairs : (blocks : List Block) → map pair_of (map block_place blocks) ≡ map place_of blocks
pairs [] = refl
pairs (b ∷ blocks) = ap (λ ps. place_of b ∷ ps) (pairs blocks)

backs : (blocks : List Block) → map back (map place_of blocks) ≡ map block_place blocks
backs [] = refl
backs (b ∷ blocks) = ap (λ ps. block_place b ∷ ps) (backs blocks)

distinct_pairs : (blocks : List Block) → AreDistinct (map block_place blocks) → AreDistinct (map place_of blocks)
distinct_pairs blocks d = AreDistinct-from_map back (map place_of blocks) (subst (λ (ps : List Place). AreDistinct ps) (sym (backs blocks)) d)

distinct_places : (blocks : List Block) → AreDistinct (map place_of blocks) → AreDistinct (map block_place blocks)
distinct_places blocks d = AreDistinct-from_map pair_of (map block_place blocks) (subst (λ (ps : List (ℕ × ℕ)). AreDistinct ps) (sym (pairs blocks)) d)

distinct_front : {A : Type 0} (xs : List A) (i : ℕ) → AreDistinct xs → AreDistinct (take i xs)
distinct_front xs zero d = tt
distinct_front [] (suc i) d = tt
distinct_front (x ∷ xs) (suc i) d = ((λ c. d.0 (in_whole xs i x c)), distinct_front xs i d.1)
  where
    in_whole : {A : Type 0} (xs : List A) (i : ℕ) (x : A) → Contains (take i xs) x → Contains xs x
    in_whole xs zero x c = absurd (let l = c.1 in omega arith)
    in_whole [] (suc i) x c = c
    in_whole (y ∷ xs) (suc i) x (zero, l, e) = (0, omega arith, e)
    in_whole (y ∷ xs) (suc i) x (suc k, l, e) = let r = in_whole xs i x (k, omega arith, e) in (suc r.0, (let m = r.1 in omega arith), r.2)

module _ (l : Library) (k : ℕ) (blocks : List Block) where
  -- the first i blocks are formed, and their places differ
  pub record FormedTo (keys : List Place) (i : ℕ) : Type 0 where
    pub places : keys ≡ map block_place (take i blocks)
    pub formed : All (IsFormed l k) (take i blocks)
    pub distinct : AreDistinct keys

  pub formed_start : FormedTo [] 0
  formed_start = record { places = refl; formed = λ j d m. absurd (omega arith); distinct = tt }

  module _ (keys : List Place) (i : ℕ) (h : FormedTo keys i) (b : Block) (is : b ≡ get_or blocks i b) (low : i < length blocks) where
    front_is : take (i + 1) blocks ≡ take i blocks ++ b ∷ []
    front_is = take-one blocks i b is low

    places_is : keys ++ block_place b ∷ [] ≡ map block_place (take (i + 1) blocks)
    places_is = ap (λ (ps : List Place). ps ++ block_place b ∷ []) h.places ∙ (sym (map-append block_place (take i blocks) (b ∷ [])) ∙ ap (map block_place) (sym front_is))

    pub formed_next : (new : List Place) → new ≡ keys ++ block_place b ∷ [] → IsFormed l k b → (Contains keys (block_place b) → ⊥) → FormedTo new (i + 1)
    formed_next new e f n = record {
      places = e ∙ places_is;
      formed = subst (λ (q : List Block). All (IsFormed l k) q) (sym front_is) (All-push (IsFormed l k) (take i blocks) b h.formed f);
      distinct = subst (λ (ps : List Place). AreDistinct ps) (sym e) (AreDistinct-push keys (block_place b) h.distinct n);
    }

    pub formed_not : (IsFormed l k b → ⊥) → PassesLayers l blocks k → ⊥
    formed_not n a = n (All-contains (IsFormed l k) blocks b a.formed (i, low, sym is))

    -- a place that stands there already
    pub repeated : Contains keys (block_place b) → PassesLayers l blocks k → ⊥
    repeated c a =
        let d = distinct_places blocks a.different in
        let front = distinct_front (map block_place blocks) (i + 1) d in
        let same_front : take (i + 1) (map block_place blocks) ≡ map block_place (take (i + 1) blocks) = take_map blocks (i + 1) in
        AreDistinct-last keys (block_place b) (subst (λ (ps : List Place). AreDistinct ps) (same_front ∙ sym places_is) front) c
      where
        take_map : (bs : List Block) (j : ℕ) → take j (map block_place bs) ≡ map block_place (take j bs)
        take_map bs zero = refl
        take_map [] (suc j) = refl
        take_map (c ∷ bs) (suc j) = ap (λ ps. block_place c ∷ ps) (take_map bs j)

  pub formed_done : (keys : List Place) (i : ℕ) → i ≡ length blocks → FormedTo keys i → PassesLayers l blocks k × (keys ≡ map block_place blocks)
  formed_done keys i e h =
      let all : take i blocks ≡ blocks = take_all i blocks (omega arith) in
      let places : keys ≡ map block_place blocks = h.places ∙ ap (map block_place) all in (
        record {
          formed = subst (λ (q : List Block). All (IsFormed l k) q) all h.formed;
          different = distinct_pairs blocks (subst (λ (ps : List Place). AreDistinct ps) places h.distinct);
        },
        places,
      )

-- the layers of a place by a table of the blocks' places
abbrev is_for : ℕ → ℕ → Block → Bool
is_for x n b = (x == b.component) && (n == b.n)

at_first : (blocks : List Block) (k x n i : ℕ) (d : Block) → i < length blocks → is_for x n (get_or blocks i d) ≡ true → ((j : ℕ) → j < i → is_for x n (get_or blocks j d) ≡ false) → layers_for blocks k x n ≡ (get_or blocks i d).layers
at_first [] k x n i d l e f = absurd (omega arith)
at_first (b ∷ blocks) k x n zero d l e f = ap (λ (c : Bool). cond c b.layers (layers_for blocks k x n)) e
at_first (b ∷ blocks) k x n (suc i) d l e f =
    ap (λ (c : Bool). cond c b.layers (layers_for blocks k x n)) (f 0 (omega arith))
    ∙ at_first blocks k x n i d (omega arith) e (λ j m. f (suc j) (omega arith))

or_none_left : (a b : Bool) → (a || b) ≡ false → a ≡ false
or_none_left true b e = absurd cc
or_none_left false b e = refl

or_none_right : (a b : Bool) → (a || b) ≡ false → b ≡ false
or_none_right true b e = absurd cc
or_none_right false b e = e

pub none_there : (blocks : List Block) (k : ℕ) (p : Place) → list_any (same p) (map block_place blocks) ≡ false → layers_for blocks k p.component p.n ≡ empty_layers k
none_there [] k p e = refl
none_there (b ∷ blocks) k p e =
    let first = or_none_left (is_for p.component p.n b) (list_any (same p) (map block_place blocks)) e in
    let later = or_none_right (is_for p.component p.n b) (list_any (same p) (map block_place blocks)) e in
    ap (λ (c : Bool). cond c b.layers (layers_for blocks k p.component p.n)) first ∙ none_there blocks k p later

pub block_there : (blocks : List Block) (k : ℕ) (p : Place) (i : ℕ) (d : Block) → position (same p) (map block_place blocks) ≡ Some i → (i < length blocks) × (layers_for blocks k p.component p.n ≡ (get_or blocks i d).layers)
block_there blocks k p i d e =
    let r = position-Some (same p) (map block_place blocks) i (block_place d) e in
    let n : length (map block_place blocks) ≡ length blocks = mapped blocks in
    let low : i < length blocks = (let m = r.0 in omega arith) in (
      low,
      at_first blocks k p.component p.n i d low
          (ap (same p) (sym (get_map block_place blocks i (block_place d) d low)) ∙ r.1)
          (λ j m. ap (same p) (sym (get_map block_place blocks j (block_place d) d (omega arith))) ∙ r.2 j m),
    )
  where
    mapped : (bs : List Block) → length (map block_place bs) ≡ length bs
    mapped [] = refl
    mapped (b ∷ bs) = ap suc (mapped bs)

pub empty_length : (k : ℕ) → length (empty_layers k) ≡ k
empty_length zero = refl
empty_length (suc k) = ap suc (empty_length k)

pub empty_below : (count j : ℕ) → All (AllBelow count) (empty_layers j)
empty_below count zero i d m = absurd (omega arith)
empty_below count (suc j) zero d m = λ i e m. absurd (omega arith)
empty_below count (suc j) (suc i) d m = empty_below count j i d (omega arith)

module _ (l : Library) (k x n : ℕ) where
  -- the layers for a place are as many as the paths, and have positions of its arrows
  pub layers_length : (blocks : List Block) → All (IsFormed l k) blocks → length (layers_for blocks k x n) ≡ k
  layers_length [] a = empty_length k
  layers_length (b ∷ blocks) a = by (is_for x n b) (a 0 b (omega arith)).as_many (layers_length blocks (λ i d m. a (suc i) d (omega arith)))
    where
      by : (c : Bool) → length b.layers ≡ k → length (layers_for blocks k x n) ≡ k → length (cond c b.layers (layers_for blocks k x n)) ≡ k
      by true h j = h
      by false h j = j

  both_true : (a b c d : ℕ) → ((a == b) && (c == d)) ≡ true → (a ≡ b) × (c ≡ d)
  both_true a b c d h = (grind arith, grind arith)

  pub layers_below : (blocks : List Block) → All (IsFormed l k) blocks → All (AllBelow (length (arrows_at l x n))) (layers_for blocks k x n)
  layers_below [] a = empty_below (length (arrows_at l x n)) k
  layers_below (b ∷ blocks) a = by (is_for x n b) refl (layers_below blocks (λ i d m. a (suc i) d (omega arith)))
    where
      at_place : (x ≡ b.component) × (n ≡ b.n) → All (AllBelow (length (arrows_at l x n))) b.layers
      at_place e = λ i d m j f o.
          let p = (a 0 b (omega arith)).positions i d m j f o in
          let same : length (arrows_at l b.component b.n) ≡ length (arrows_at l x n) = (λ t. length (arrows_at l (sym e.0 t) (sym e.1 t))) in
          subst (λ (count : ℕ). AreBelow count (get_or (get_or b.layers i d) j f)) same p.within

      by : (c : Bool) → is_for x n b ≡ c → All (AllBelow (length (arrows_at l x n))) (layers_for blocks k x n) → All (AllBelow (length (arrows_at l x n))) (cond c b.layers (layers_for blocks k x n))
      by true e h = at_place (both_true x b.component n b.n e)
      by false e h = h
