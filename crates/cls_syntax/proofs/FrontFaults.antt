-- Faults of what stands in front of a line, in the form in which they are put together.
use Rattle.std.proofs.Common.{◌≡◌, ℕ, Bool, true, false, List, ◌∷◌, ◌++◌}
use Rattle.std.specs.Prelude.{Result, Err}
use Rattle.cls_lexer.specs.Words.{Word, name}
use Rattle.cls_syntax.specs.Roles.{is_set_aside}
use Rattle.cls_syntax.specs.Faults.{Stop, stop, CanGoOn, WantsName}

-- some name that isn't set aside can't stand behind the front, whatever follows
pub record RefusesName {B : Type 0} (read : List Word → Result B Stop) (front : List Word) (wants : Bool) : Type 0 where
  pub text : List ℕ
  pub plain : is_set_aside text ≡ false
  pub always : (us : List Word) → read (front ++ name text ∷ us) ≡ Err (stop (name text ∷ us) wants)

-- words that no value's words begin with, up to the first word at which that shows
pub record FrontFault {A B : Type 0} (read : List Word → Result B Stop) (words : A → List Word) (Stands : A → Type 0) (ws rest : List Word) (wants : Bool) : Type 0 where
  pub front : List Word
  pub split : ws ≡ front ++ rest
  pub live : CanGoOn words Stands front
  -- that word is refused, whatever follows
  pub always : (w : Word) (vs us : List Word) → rest ≡ w ∷ vs → read (front ++ w ∷ us) ≡ Err (stop (w ∷ us) wants)
  pub named : wants ≡ true → WantsName words Stands front
  pub unnamed : wants ≡ false → RefusesName read front wants
