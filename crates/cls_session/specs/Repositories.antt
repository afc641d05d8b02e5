-- Repositories, and the first fault of lines that are none.
use Rattle.std.specs.Prelude.{ℕ, ◌≡◌, List, ◌∷◌, ◌++◌, true, false, codes}
use Rattle.cls_base.specs.Firsts.{First, IsSilent}
use Rattle.cls_repo.specs.Drafts.{Draft}
use Rattle.cls_repo.specs.Readings.{Reading, no_reading, Takes, TakesAll, Refuses, closing_faults}

-- The lines are taken one after another, and none of them is `end`.
pub record AreTaken (lines : List (List ℕ)) (reading : Reading) : Type 0 where
  pub taken : TakesAll no_reading lines reading
  pub unended : reading.ended ≡ false

-- The lines and then the line `end` are a repository without fault, and declare this.
pub record IsRepository (lines : List (List ℕ)) (end : List ℕ) (d : Draft) : Type 0 where
  pub before : Reading
  pub taken : AreTaken lines before
  pub reading : Reading
  pub ends : Takes before end reading
  pub ended : reading.ended ≡ true
  pub faultless : IsSilent (First (closing_faults reading))
  pub declares : d ≡ reading.draft

-- The first fault of the lines, with its line and in words: a line that isn't taken, or what is wrong with the repository at
-- its line `end`.
pub data IsFirstFault (lines : List (List ℕ)) (said : ℕ × List ℕ) : Type 0 where
  of_line :
      (before after : List (List ℕ)) (line : List ℕ) (reading : Reading) → lines ≡ before ++ line ∷ after
      → AreTaken before reading → Refuses reading line said → IsFirstFault lines said
  of_repository :
      (before after : List (List ℕ)) (end : List ℕ) (reading ended : Reading) → lines ≡ before ++ end ∷ after
      → AreTaken before reading → Takes reading end ended → ended.ended ≡ true → First (closing_faults ended) said
      → IsFirstFault lines said

-- All lines are taken, and none of them is `end`. This is said of the last one.
pub record IsWithoutEnd (lines : List (List ℕ)) (said : ℕ × List ℕ) : Type 0 where
  pub reading : Reading
  pub taken : AreTaken lines reading
  pub words : said ≡ (reading.lines, codes "no-end")
