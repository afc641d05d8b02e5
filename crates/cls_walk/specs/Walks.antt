-- internal: what a walk over codes lists
use Rattle.std.specs.Prelude.{ℕ, ◌≡◌, ◌<◌, ◌≤◌, Bool, true, false, List, ◌∷◌, ◌++◌, length, map}
use Rattle.cls_base.specs.Terms.{Precedes}
use Rattle.cls_term.specs.Costs.{cost_of}
use Rattle.cls_enum.specs.Members.{IsIn}
use Rattle.cls_walk.specs.Counts.{HeadRule}
use Rattle.cls_walk.specs.Filled.{code_size, IsFilled}
use Rattle.cls_walk.specs.Fronts.{IsFront}
use Rattle.cls_walk.specs.Stretches.{Remembers}
use Rattle.cls_walk.specs.declared.cursor.Cursor.{Cursor}
use Rattle.cls_walk.specs.declared.plan.Plan.{Plan}
use Rattle.cls_walk.specs.declared.walk.Walk.{Walk}

-- the codes come after what is left of the cursor
abbrev pub IsBehind : Cursor → List ℕ → Type 0
IsBehind cursor w = cursor.passed ≡ false → Precedes cursor.code.now w

module _ (plan : Plan) where
  -- the codes of terms of these nodes that have this size together and come after what is left of the cursor
  pub record IsWanted (ns : List ℕ) (size : ℕ) (cursor : Cursor) (w : List ℕ) : Type 0 where
    pub filled : IsFilled plan.forms.now ns w
    pub sized : code_size (cost_of plan.costs.now) w ≡ size
    pub behind : IsBehind cursor w

  -- the same, where the code of the first term begins with this form, and the nodes behind it are these
  pub record IsWantedBy (h : HeadRule) (ns : List ℕ) (size : ℕ) (cursor : Cursor) (w : List ℕ) : Type 0 where
    pub rest : List ℕ
    pub begins : w ≡ h.0 ∷ length h.1 ∷ rest
    pub filled : IsFilled plan.forms.now (h.1 ++ ns) rest
    pub sized : code_size (cost_of plan.costs.now) w ≡ size
    pub behind : IsBehind cursor w

  -- the same, for one of these forms
  abbrev pub IsWantedByOne : List HeadRule → List ℕ → ℕ → Cursor → List ℕ → Type 0
  IsWantedByOne hs ns size cursor w = (h : HeadRule) × IsIn hs h × IsWantedBy h ns size cursor w

  -- The walk is back, and whether it is to go on: it is, unless the list is full. What was known stays right.
  pub record IsBack (old new : Walk) (going : Bool) : Type 0 where
    pub awaited : new.awaited.items ≡ old.awaited.items
    pub code : new.code.items ≡ old.code.items
    pub few : going ≡ true → length new.codes ≤ plan.take
    pub full : going ≡ false → plan.take < length new.codes
    pub remembers : Remembers plan old → Remembers plan new

-- It listed the codes with P in their order, each behind the code so far. If it isn't to go on, some of the last ones
-- may be missing.
abbrev pub Lists : (List ℕ → Type 0) → Walk → Walk → Bool → Type 0
Lists P old new going =
    (ws : List (List ℕ)) × IsFront P (going ≡ false) ws
    × (new.codes ≡ old.codes ++ map (λ w. old.code.items ++ w) ws)
