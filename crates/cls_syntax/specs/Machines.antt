-- Machines that read words from the left, one by one.
use Rattle.std.specs.Prelude.{Bool, List, [], ◌∷◌, Option, Some, None, Result, Ok, Err}
use Rattle.cls_lexer.specs.Words.{Word}
use Rattle.cls_syntax.specs.Faults.{Stop, stop}

-- What a state becomes with one more word, what was read where it may end, and whether any name may come next.
pub record Machine (S A : Type 0) : Type 0 where
  pub step : S → Word → Option S
  pub ended : S → Option A
  pub wants_name : S → Bool

-- What was read beside what is left, or the stop.
abbrev pub stopped : {A : Type 0} → Option A → Bool → List Word → Result (A × List Word) Stop
stopped None wants rest = Err (stop rest wants)
stopped (Some a) wants rest = Ok (a, rest)

-- The machine goes as far as it can.
abbrev pub reading : {S A : Type 0} → Machine S A → S → List Word → Result (A × List Word) Stop
reading m s [] = stopped (m.ended s) (m.wants_name s) []
reading m s (w ∷ ws) = elim (m.step s w) [ None ↦ stopped (m.ended s) (m.wants_name s) (w ∷ ws) | Some s' ↦ reading m s' ws ]
