-- The reserved name by its length.
use Rattle.std.proofs.Common.{◌≡◌, ℕ, true, false, List, length, refl, ap}
use Rattle.std.specs.Str.{bytes_eq}
use Rattle.std.proofs.lemmas.Slice.Eq.{bytes_eq-Decides}
use Rattle.cls_lexer.specs.Words.{reserved_name}

-- a text of another length isn't reserved
pub other_length : (x : List ℕ) → (length x ≡ 5 → ⊥) → bytes_eq x reserved_name ≡ false
other_length x h =
    (elim (bytes_eq x reserved_name) as (λ b. bytes_eq x reserved_name ≡ b → b ≡ false) [
      | true ↦ λ e. absurd (h (ap length ((bytes_eq-Decides x reserved_name).0 e)))
      | false ↦ λ e. refl
    ]) refl
