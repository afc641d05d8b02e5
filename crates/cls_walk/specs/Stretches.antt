-- internal: stretches of a listing, in which the codes of the terms of one node stand
use Rattle.std.specs.Prelude.{ℕ, ◌≡◌, ◌+◌, List, [], ◌∷◌, ◌++◌, length, map, take, slice_index_or, Option, None, Some, Bool, true}
use Rattle.cls_term.specs.Costs.{cost_of}
use Rattle.cls_walk.specs.Filled.{code_size, IsFilled, needs}
use Rattle.cls_walk.specs.Fronts.{IsFront}
use Rattle.cls_walk.specs.declared.plan.Plan.{Plan}
use Rattle.cls_walk.specs.declared.stretch.Stretch.{Stretch}
use Rattle.cls_walk.specs.declared.walk.Walk.{Walk}

-- what is known for a node and slack, in columns by node
abbrev pub stretch_at : List (List (Option Stretch)) → ℕ → ℕ → Option Stretch
stretch_at columns node slack = slice_index_or (slice_index_or columns node []) slack None

-- At the places of the stretch stand these codes, each behind what was written before it.
pub record Holds (r : Stretch) (listed ws : List (List ℕ)) : Type 0 where
  pub earlier : List (List ℕ)
  pub begun : List ℕ
  pub later : List (List ℕ)
  pub codes : listed ≡ earlier ++ map (λ w. begun ++ w) ws ++ later
  pub start : length earlier ≡ r.start
  pub end : r.start + length ws ≡ r.end
  pub from : length begun ≡ r.from

-- the codes of the stretch are listed again, each behind the code so far: all of them, if the walk is to go on
abbrev pub Copies : List (List ℕ) → Walk → Walk → Bool → Type 0
Copies ws old new going =
    (k : ℕ) × (going ≡ true → k ≡ length ws) × (new.codes ≡ old.codes ++ map (λ w. old.code.items ++ w) (take k ws))

module _ (plan : Plan) where
  -- the code of a term of the node that has this size
  pub record IsOf (n size : ℕ) (w : List ℕ) : Type 0 where
    pub filled : IsFilled plan.forms.now (n ∷ []) w
    pub sized : code_size (cost_of plan.costs.now) w ≡ size

  -- at its places stand the codes of all terms of the node that come to so much more than its least size
  abbrev pub HoldsAll : ℕ → ℕ → Stretch → List (List ℕ) → Type 0
  HoldsAll n slack r codes =
      (ws : List (List ℕ)) × Holds r codes ws × IsFront (IsOf n (needs plan.least.now (n ∷ []) + slack)) ⊥ ws

  -- each stretch that is known holds these codes of its node and slack
  abbrev pub Remembers : Walk → Type 0
  Remembers walk = (n slack : ℕ) (r : Stretch) → stretch_at walk.known n slack ≡ Some r → HoldsAll n slack r walk.codes
