-- internal: what a round of the descent leads to
use Rattle.std.specs.Prelude.{ℕ, ◌<◌, Bool, List, []}
use Rattle.cls_base.specs.declared.rule.Rule.{Rule}
use Rattle.cls_base.specs.Languages.{IsGenerated}
use Rattle.cls_finite.specs.declared.descent.Outcome.{Outcome}
use Rattle.cls_finite.specs.declared.descent.Outcome.TheVariants.{Goes, ComesRound, Ends}
use Rattle.cls_finite.specs.Descents.{State, IsKept, IsCapped, weight}
use Rattle.cls_finite.specs.Finiteness.{IsUnbounded, IsDetermined}

module _ (cap : ℕ) (cost : ℕ → ℕ) (book : List (List (Rule ℕ))) (flags : List Bool) where
  -- one more node is opened or done
  pub record HasGone (old new : State) : Type 0 where
    pub kept : IsKept cap cost book flags new
    pub nearer : weight new.marks < weight old.marks

  pub record HasComeRound (new : State) : Type 0 where
    pub unbounded : IsUnbounded book cost 0
    pub determined : IsDetermined book cost [] 0 new.path

  abbrev pub IsOutcome : State → State → Outcome → Type 0
  IsOutcome old new Goes = HasGone old new
  IsOutcome old new ComesRound = HasComeRound new
  IsOutcome old new (Ends size) = IsCapped cap cost (IsGenerated book 0) size
