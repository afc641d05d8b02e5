-- The number of a text in a table of texts.
use Rattle.std.proofs.Common.{◌≡◌, ℕ, ◌<◌, ◌^◌, take, length, map, ◌∷◌, ltb, cond, Bool, true, false, List, [], get_or, Some, None, refl, ap, sym, ◌∙◌, arith, Contains, slice_get}
use Rattle.std.specs.List.{list_any, position, position_or_len, IsDistinct}
use Rattle.std.specs.Str.{bytes_eq}
use Rattle.std.proofs.Common.{not}
use Rattle.std.proofs.lemmas.Bool.{true≢false, not-true, ltb-false}
use Rattle.std.proofs.lemmas.List.{get_or_default, length-map, length-take}
use Rattle.std.proofs.lemmas.List.Sums.{prefix_len_passes, prefix_len-le-length}
use Rattle.std.proofs.lemmas.List.Folds.{list_any_at}
use Rattle.std.proofs.lemmas.List.Quantifiers.{position-Some}
use Rattle.std.proofs.lemmas.Option.{slice_get-get_or}
use Rattle.std.proofs.lemmas.Slice.Eq.{bytes_eq-Decides}
use Rattle.cls_lexer.proofs.Positions.{position-found, position-none}
use Rattle.cls_lexer.specs.Names.{IsTable, number_of, with_text}

module _ {X Y : Type 0} (f : X → Y) where
  position_or_len-map : (p : Y → Bool) (xs : List X) → position_or_len p (map f xs) ≡ position_or_len (λ x. p (f x)) xs
  position_or_len-map p [] = refl
  position_or_len-map p (x ∷ xs) = rw (position_or_len-map p xs) refl

  pub position-map : (p : Y → Bool) (xs : List X) → position p (map f xs) ≡ position (λ x. p (f x)) xs
  position-map p xs = rw (position_or_len-map p xs, length-map xs f) refl

-- what a number that was found says
pub record IsFound (texts : List (List ℕ)) (text : List ℕ) (place : ℕ) : Type 0 where
  pub number : place ≡ number_of texts text
  pub stands : slice_get texts place ≡ Some text
  pub held : Contains texts text
  pub stays : with_text texts text ≡ texts

-- a number that was found stands for the text
pub found : (texts : List (List ℕ)) (text : List ℕ) (n : ℕ) → position (bytes_eq text) texts ≡ Some n → IsFound texts text n
found texts text n h =
    let at = position-Some (bytes_eq text) texts n [] h in
    let same : text ≡ get_or texts n [] = (bytes_eq-Decides text (get_or texts n [])).0 at.1 in
    let any : list_any (bytes_eq text) texts ≡ true = list_any_at (bytes_eq text) texts n [] at.0 at.1 in
    record {
      number = position-found (bytes_eq text) texts n h;
      stands = slice_get-get_or texts n [] at.0 ∙ ap (λ (t : List ℕ). Some t) (sym same);
      held = (n, at.0, get_or_default texts n text [] at.0 ∙ sym same);
      stays = rw any refl;
    }

-- if no number was found, the text isn't held
pub absent : (texts : List (List ℕ)) (text : List ℕ) → position (bytes_eq text) texts ≡ None → Contains texts text → ⊥
absent texts text h at =
    let late = position-none (bytes_eq text) texts h in
    let passes = prefix_len_passes (λ t. not (bytes_eq text t)) texts at.0 text (omega (arith, late, at.1)) in
    let same : bytes_eq text (get_or texts at.0 text) ≡ true = (bytes_eq-Decides text _).1 (sym at.2) in
    true≢false (sym same ∙ not-true _ passes)

-- the table with no text
pub no_texts : IsTable []
unfolding IsDistinct
no_texts = record { few = omega arith; distinct = tt }

-- a front of a table is no longer
pub fewer : (front texts : List (List ℕ)) (n : ℕ) → front ≡ take n texts → length texts < 2 ^ 32 → length front < 2 ^ 32
fewer front texts n e few = let a = ap length e in let b = length-take n texts in omega (arith, a, b, few)

-- if a text isn't held, its number is the next one
pub number_absent : (texts : List (List ℕ)) (text : List ℕ) → (Contains texts text → ⊥) → length texts ≡ number_of texts text
number_absent texts text not_held =
    (elim (ltb (number_of texts text) (length texts)) as (λ b. ltb (number_of texts text) (length texts) ≡ b → length texts ≡ number_of texts text) [
      | true ↦ λ t. absurd (not_held (found texts text (number_of texts text) (ap (λ (b : Bool). cond b (Some (number_of texts text)) None) t)).held)
      | false ↦ λ f. let late = ltb-false (number_of texts text) (length texts) f in let most = prefix_len-le-length (λ t. not (bytes_eq text t)) texts in omega (arith, late, most)
    ]) refl
