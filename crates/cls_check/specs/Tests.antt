-- internal: what the tests of a certificate tell, by a table of the normal forms of goals
use Rattle.std.specs.Prelude.{ℕ, zero, suc, ◌<◌, ◌⊎◌, List, [], ◌∷◌, All, Contains, Option, None, Some, slice_index_or}
use Rattle.cls_path.specs.Paths.{TypePath, Paths, listed, type_of_paths}
use Rattle.cls_library.specs.Libraries.{Library, arrows_at}
use Rattle.cls_proof.specs.Certificates.{ProofRow, Block}
use Rattle.cls_check.specs.declared.findings.Findings.{Findings}
use Rattle.cls_check.specs.declared.fault.Reason.{Reason}
use Rattle.cls_check.specs.declared.fault.Reason.TheVariants.{Layers, Unblocked}
use Rattle.cls_check.specs.declared.met.MetCovers.{MetCovers}
use Rattle.cls_check.specs.declared.place.Place.{Place}
use Rattle.cls_base.specs.Firsts.{First}
use Rattle.cls_check.specs.Arguments.{argument_type}
use Rattle.cls_check.specs.Checking.{path_total, empty_layers, layers_for, row_causes, PassesRow, PassesLayers, PassesUnblocked, IsBlocked, BlockedFrom, Steps}
use Rattle.cls_check.specs.Goals.{IsAboveGoal, IsBelowGoal}
use Rattle.cls_check.specs.Known.{SetKey, key_of}
use Rattle.cls_check.specs.Layers.{AllMet}
use Rattle.cls_check.specs.Places.{arrows_in, block_place}

module _ (l : Library) (goals : List (List TypePath)) where
  -- a row passes, or the reason is its first test that fails
  abbrev pub TellsRow : ProofRow → Option Reason → Type 0
  TellsRow r None = PassesRow l (IsAboveGoal l goals) r
  TellsRow r (Some reason) = First (row_causes l (IsAboveGoal l goals) r) reason

  -- the set is blocked over the arrows of the place
  abbrev pub IsStopped : Place → List ℕ → Type 0
  IsStopped p s = IsBlocked l (IsBelowGoal l goals) (arrows_in l p) p.n s

  -- each of the sets that are known is blocked
  abbrev pub AreStopped : List SetKey → Type 0
  AreStopped known = (p : Place) (s : List ℕ) → Contains known (key_of p s) → IsStopped p s

  -- what is known of sets and of arguments is right
  pub record AreRight (known : Findings) : Type 0 where
    pub sets : AreStopped known.sets
    pub below : (g : List TypePath) → Contains known.below g → IsBelowGoal l goals (type_of_paths (listed g))
    pub free : (g : List TypePath) → Contains known.free g → IsBelowGoal l goals (type_of_paths (listed g)) → ⊥

  -- for each argument the intersection of what the arrows at the positions take is above a goal
  abbrev pub Meets : Place → List ℕ → Type 0
  Meets p s = (i : ℕ) → i < p.n → IsAboveGoal l goals (argument_type (arrows_in l p) s i)

  -- so it is for each of the covers that are known
  abbrev pub AllMeet : List SetKey → Type 0
  AllMeet known = (p : Place) (s : List ℕ) → Contains known (key_of p s) → Meets p s

  -- what is known of covers and of arguments is right
  pub record AreMet (known : MetCovers) : Type 0 where
    pub covers : AllMeet known.covers
    pub above : (g : List TypePath) → Contains known.above g → IsAboveGoal l goals (type_of_paths (listed g))

  -- the set is blocked, or with each number of the family it contains a set of the layer
  abbrev pub IsSettled : Place → List ℕ → List (List ℕ) → List ℕ → Type 0
  IsSettled p family layer s = IsStopped p s ⊎ AllMet family layer s

  -- so it is for each of the sets that are kept at the place
  abbrev pub AreSettled : Place → List ℕ → List (List ℕ) → List SetKey → Type 0
  AreSettled p family layer kept = (s : List ℕ) → Contains kept (key_of p s) → IsSettled p family layer s

  -- each set of the layer is blocked, or leads to the next layer
  abbrev pub AllStep : Place → TypePath → List (List ℕ) → List (List ℕ) → Type 0
  AllStep p q sets layer = All (λ s. IsStopped p s ⊎ Steps l (arrows_in l p) layer q s) sets

  -- the layers lead from the empty set to sets that are all blocked
  abbrev pub IsWalked : Place → Paths → List (List (List ℕ)) → Type 0
  IsWalked p form layers = BlockedFrom l (IsBelowGoal l goals) (arrows_in l p) p.n form ([] ∷ []) layers

  -- the layers of the block do so at its place
  abbrev pub IsBlockWalked : Paths → Block → Type 0
  IsBlockWalked form b = IsWalked (block_place b) form b.layers

  -- if there is no block at the place, layers without a set do so there
  abbrev pub IsOtherWalked : List Place → Paths → Place → Type 0
  IsOtherWalked places form p = (Contains places p → ⊥) → IsWalked p form (empty_layers (path_total form))

  -- the same for the layers of the blocks
  abbrev pub IsWalkedAt : List Block → Paths → ℕ → ℕ → Type 0
  IsWalkedAt blocks form x n =
      BlockedFrom l (IsBelowGoal l goals) (arrows_at l x n) n form ([] ∷ []) (layers_for blocks (path_total form) x n)

  -- the two tests of a member with these blocks whose goal has this normal form
  abbrev pub TellsMember : List Block → Paths → Option Reason → Type 0
  TellsMember blocks form None =
      PassesLayers l blocks (path_total form) × PassesUnblocked l (IsBelowGoal l goals) blocks form
  TellsMember blocks form (Some Layers) = PassesLayers l blocks (path_total form) → ⊥
  TellsMember blocks form (Some Unblocked) =
      PassesLayers l blocks (path_total form) × (PassesUnblocked l (IsBelowGoal l goals) blocks form → ⊥)
  TellsMember blocks form (Some _) = ⊥

-- the sets from which the step of this number goes
abbrev pub sets_at : List (List ℕ) → List (List (List ℕ)) → ℕ → List (List ℕ)
sets_at start layers zero = start
sets_at start layers (suc i) = slice_index_or layers i []
