-- How large the terms of a type are.
use Rattle.std.specs.Prelude.{ℕ, ◌<◌, List, []}
use Rattle.cls_base.specs.Terms.{Applicative, size_of}
use Rattle.cls_base.specs.Types.{ClosedType}
use Rattle.cls_core.specs.Rows.{Row}
use Rattle.cls_finite.specs.declared.walk.Step.{Step}
use Rattle.cls_finite.specs.Finiteness.{IsGreatestSize, IsDetermined}
use Rattle.cls_grammar.specs.Grammars.{book_of}
use Rattle.cls_library.specs.Libraries.{Library}
use Rattle.cls_library.specs.Typing.{HasTypeIn}
use Rattle.cls_engine.specs.Goals.{Goal, IsClosed}

module _ (lib : Library) (cost : ℕ → ℕ) (t : ClosedType) where
  -- the greatest size of a term of the type, or 0 if there is none
  abbrev pub IsGreatest : ℕ → Type 0
  IsGreatest n = IsGreatestSize cost (λ e. HasTypeIn lib e t) n

  -- there is a greatest size, and it is over the limit
  abbrev pub IsGreatestOver : ℕ → Type 0
  IsGreatestOver limit = (n : ℕ) × IsGreatest n × (limit < n)

  -- for each number the type has a term that is larger
  abbrev pub IsUnbounded : Type 0
  IsUnbounded = (n : ℕ) → (e : Applicative) × HasTypeIn lib e t × (n < size_of cost e)

  -- the one walk through the grammar of the type's goal that shows this
  abbrev pub IsWalk : List Step → Type 0
  IsWalk walk = (rows : List (Row Goal)) × IsClosed lib t rows × IsDetermined (book_of rows) cost [] 0 walk
