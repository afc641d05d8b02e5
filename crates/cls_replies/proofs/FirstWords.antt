-- Whether a word is taken that stands alone.
use Rattle.std.proofs.Common.{◌≡◌, ℕ, List, [], ◌∷◌, true, false, refl, sym}
use Rattle.std.specs.Prelude.{Err, Ok}
use Rattle.std.specs.Str.{bytes_eq}
use Rattle.std.proofs.lemmas.Bool.{false_from_ne_true}
use Rattle.cls_lexer.specs.Words.{Word, omega, name, number, sign}
use Rattle.cls_syntax.specs.Forms.{the_word}
use Rattle.cls_syntax.specs.Fronts.{is_word}
use Rattle.cls_syntax.specs.LineReading.{item_front}

-- a word that isn't taken is another one
pub another : (x : List ℕ) (w : Word) (s : _) → item_front (the_word x) (w ∷ []) ≡ Err s → is_word x w ≡ true → ⊥
another x omega s e h = absurd cc
another x (name text) s e h = let f = rw h at e in absurd cc
another x (number digits) s e h = absurd cc
another x (sign kind) s e h = absurd cc

pub passed : (x : List ℕ) (w : Word) (s : _) → item_front (the_word x) (w ∷ []) ≡ Err s → false ≡ is_word x w
passed x w s e = sym (false_from_ne_true (is_word x w) (another x w s e))

-- one that is taken is this one
pub taken : (x : List ℕ) (w : Word) (p : Unit {0} × List Word) → item_front (the_word x) (w ∷ []) ≡ Ok p → true ≡ is_word x w
taken x omega p e = absurd cc
taken x (number digits) p e = absurd cc
taken x (sign kind) p e = absurd cc
taken x (name text) p e =
    (elim (bytes_eq x text) as (λ b. bytes_eq x text ≡ b → true ≡ bytes_eq x text) [
      | true ↦ λ h. sym h
      | false ↦ λ h. let f = rw h at e in absurd cc
    ]) refl
