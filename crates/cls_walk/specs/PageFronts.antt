-- internal: a listing that ends a page, of the due terms up to a size in their order, or the first of them
use Rattle.std.specs.Prelude.{ℕ, ◌≡◌, ◌<◌, ◌⊎◌, List}
use Rattle.cls_base.specs.Terms.{Applicative, size_of, code_of, Before}
use Rattle.cls_base.specs.Pages.{Rises}
use Rattle.cls_enum.specs.Members.{IsIn}

-- the property of the terms that are due, and the costs
module _ (Due : Applicative → Type 0) (cost : ℕ → ℕ) where
  -- The due terms of size below s, none passed over. Where the list is full, some that come after all of it may be
  -- missing.
  pub record IsDueFront (s : ℕ) (IsFull : Type 0) (es : List Applicative) : Type 0 where
    pub rises : Rises cost es
    pub each : (e : Applicative) → IsIn es e → Due e × (size_of cost e < s)
    pub all : (e : Applicative) → Due e → size_of cost e < s
        → IsIn es e ⊎ (IsFull × ((f : Applicative) → IsIn es f → Before cost f e))

  -- the code of a due term of size s
  abbrev pub IsDueCode : ℕ → List ℕ → Type 0
  IsDueCode s w = (e : Applicative) × Due e × (size_of cost e ≡ s) × (w ≡ code_of e)
