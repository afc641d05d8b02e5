-- When a certificate is accepted, and otherwise the first row or member that fails a test, with the first test that it
-- fails.
use Rattle.std.specs.Prelude.{ℕ, zero, suc, ◌+◌, ◌≡◌, ◌==◌, ◌&&◌, ◌≤◌, ◌<◌, ◌⊎◌, if◌then◌else◌, List, [], ◌∷◌, ◌++◌, length, map, All, Contains, IsSomeAnd, slice_get}
use Rattle.std.specs.List.Sorted.{IsStrictlyIncreasing}
use Rattle.cls_base.specs.Lists.{AreBelow, AreDistinct}
use Rattle.cls_base.specs.Types.{ClosedType}
use Rattle.cls_base.specs.Subtyping.{Subtype}
use Rattle.cls_path.specs.Paths.{TypePath, Paths, none, more, paths_of}
use Rattle.cls_path.specs.NormalForms.{IsNormalForm}
use Rattle.cls_library.specs.Arrows.{MultiArrow, arity_of}
use Rattle.cls_library.specs.Libraries.{Library, below_in, variances_in, paths_at, arrows_at}
use Rattle.cls_library.specs.Reaching.{PathLeIn, CoversGoal}
use Rattle.cls_proof.specs.Certificates as proof
use Rattle.cls_proof.specs.Certificates.{ProofRow, Block, Certificate, inhabited, empty}
use Rattle.cls_check.specs.declared.fault.Reason.{Reason}
use Rattle.cls_check.specs.declared.fault.Reason.TheVariants.{Arrow, Target, Argument, Goal, Layers, Unblocked}
use Rattle.cls_check.specs.Arguments.{argument_type}
use Rattle.cls_base.specs.Firsts.{Cause, First, FirstAlong}

-- the number of paths
abbrev pub path_total : Paths → ℕ
path_total none = 0
path_total (more p n) = suc (path_total n)

-- so many layers without a set
abbrev pub empty_layers : ℕ → List (List (List ℕ))
empty_layers zero = []
empty_layers (suc k) = [] ∷ empty_layers k

-- the component of a block, and how many arguments its arrows take
abbrev pub place_of : Block → ℕ × ℕ
place_of b = (b.component, b.n)

-- the layers of the first block for component x and n arguments, or k layers without a set if there is none
abbrev pub layers_for : List Block → ℕ → ℕ → ℕ → List (List (List ℕ))
layers_for [] k x n = empty_layers k
layers_for (b ∷ blocks) k x n = if (x == b.component) && (n == b.n) then b.layers else layers_for blocks k x n

-- strictly ascending positions of so many arrows
pub record ArePositions (count : ℕ) (s : List ℕ) : Type 0 where
  pub ascend : IsStrictlyIncreasing s
  pub within : AreBelow count s

-- each number of t is one of s
abbrev pub IsPartOf : List ℕ → List ℕ → Type 0
IsPartOf t s = (j : ℕ) → Contains t j → Contains s j

module _ (l : Library) where
  -- there is a derivation that the first type is below the second
  abbrev pub IsSubtype : ClosedType → ClosedType → Type 0
  IsSubtype s t = Subtype (below_in l.taxonomy) (variances_in l.taxonomy) s t

  -- the one normal form of a type
  abbrev pub IsForm : ClosedType → Paths → Type 0
  IsForm t n = IsNormalForm (below_in l.taxonomy) (variances_in l.taxonomy) t n

  -- there is an arrow at the position, and its target is below the path
  abbrev pub LeadsTo : List MultiArrow → TypePath → ℕ → Type 0
  LeadsTo arrows q i = IsSomeAnd (slice_get arrows i) (λ a. PathLeIn l a.target q)

  -- the component has arrows that take n arguments
  pub record IsPlace (x n : ℕ) : Type 0 where
    pub declared : x < length l.components
    pub within : n ≤ arity_of (paths_at l x)

  -- The three tests of a row. IsAbove says of a type that the goal of an earlier row is below it.
  abbrev pub PassesArrow : ProofRow → Type 0
  PassesArrow r = IsPlace r.component r.n × ArePositions (length (arrows_at l r.component r.n)) r.cover

  -- each path of the goal is above the target of an arrow at one of the positions
  abbrev pub PassesTarget : ProofRow → Type 0
  PassesTarget r =
      CoversGoal l (arrows_at l r.component r.n) (paths_of (variances_in l.taxonomy) r.goal) r.cover

  -- for each argument the intersection of what the arrows take
  abbrev pub PassesArgument : (ClosedType → Type 0) → ProofRow → Type 0
  PassesArgument IsAbove r =
      (i : ℕ) → i < r.n → IsAbove (argument_type (arrows_at l r.component r.n) r.cover i)

  pub record PassesRow (IsAbove : ClosedType → Type 0) (r : ProofRow) : Type 0 where
    pub arrow : PassesArrow r
    pub target : PassesTarget r
    pub argument : PassesArgument IsAbove r

  abbrev pub row_causes : (ClosedType → Type 0) → ProofRow → List (Cause Reason)
  row_causes IsAbove r =
      (λ reason. (PassesArrow r → ⊥) × (reason ≡ Arrow))
      ∷ (λ reason. (PassesTarget r → ⊥) × (reason ≡ Target))
      ∷ (λ reason. (PassesArgument IsAbove r → ⊥) × (reason ≡ Argument))
      ∷ []

  -- the goal of one of the rows is below the type
  abbrev pub IsAboveRow : List ProofRow → ClosedType → Type 0
  IsAboveRow rows t = (e : ProofRow) × Contains rows e × IsSubtype e.goal t

  -- each row passes after those before it
  abbrev pub PassRows : List ProofRow → List ProofRow → Type 0
  PassRows earlier [] = Unit {0}
  PassRows earlier (r ∷ rows) = PassesRow (IsAboveRow earlier) r × PassRows (earlier ++ r ∷ []) rows

  -- there is a row, and the goal of the last one is below the asked type
  abbrev pub EndsBelow : List ProofRow → ClosedType → Type 0
  EndsBelow [] asked = ⊥
  EndsBelow (r ∷ []) asked = IsSubtype r.goal asked
  EndsBelow (r ∷ s ∷ rows) asked = EndsBelow (s ∷ rows) asked

  -- The two tests of a member. IsBelow says of a type that it is below the goal of a member.
  -- For some argument the intersection of what the arrows take is below such a goal.
  abbrev pub IsBlocked : (ClosedType → Type 0) → List MultiArrow → ℕ → List ℕ → Type 0
  IsBlocked IsBelow arrows n s = (i : ℕ) × (i < n) × IsBelow (argument_type arrows s i)

  -- with each arrow that leads to the path the set contains a set of the layer
  abbrev pub Steps : List MultiArrow → List (List ℕ) → TypePath → List ℕ → Type 0
  Steps arrows layer q s =
      (i : ℕ) → LeadsTo arrows q i → (t : List ℕ) × Contains layer t × IsPartOf t (i ∷ s)

  -- Each set is blocked, or steps to the next layer, path after path. Each set of the last layer is blocked.
  abbrev pub BlockedFrom :
      (ClosedType → Type 0) → List MultiArrow → ℕ → Paths → List (List ℕ) → List (List (List ℕ)) → Type 0
  BlockedFrom IsBelow arrows n none sets layers = All (IsBlocked IsBelow arrows n) sets
  BlockedFrom IsBelow arrows n (more q rest) sets [] = ⊥
  BlockedFrom IsBelow arrows n (more q rest) sets (layer ∷ layers) =
      All (λ s. IsBlocked IsBelow arrows n s ⊎ Steps arrows layer q s) sets
      × BlockedFrom IsBelow arrows n rest layer layers

  -- what a block is to be where the normal form of the member's goal has k paths
  pub record IsFormed (k : ℕ) (b : Block) : Type 0 where
    pub place : IsPlace b.component b.n
    pub as_many : length b.layers ≡ k
    pub positions : All (All (ArePositions (length (arrows_at l b.component b.n)))) b.layers

  pub record PassesLayers (blocks : List Block) (k : ℕ) : Type 0 where
    pub formed : All (IsFormed k) blocks
    pub different : AreDistinct (map place_of blocks)

  -- from the empty set alone, for each component and each number of arguments
  abbrev pub PassesUnblocked : (ClosedType → Type 0) → List Block → Paths → Type 0
  PassesUnblocked IsBelow blocks form =
      (x n : ℕ) → IsPlace x n
      → BlockedFrom IsBelow (arrows_at l x n) n form ([] ∷ []) (layers_for blocks (path_total form) x n)

  pub record PassesMember (IsBelow : ClosedType → Type 0) (m : proof.Member) : Type 0 where
    pub form : Paths
    pub is_form : IsForm m.goal form
    pub layers : PassesLayers m.blocks (path_total form)
    pub unblocked : PassesUnblocked IsBelow m.blocks form

  -- the normal form of the member's goal, of which there is one, has the property
  abbrev pub WithForm : proof.Member → (Paths → Type 0) → Type 0
  WithForm m P = (form : Paths) × IsForm m.goal form × P form

  abbrev pub member_causes : (ClosedType → Type 0) → proof.Member → List (Cause Reason)
  member_causes IsBelow m =
      (λ reason. WithForm m (λ form. PassesLayers m.blocks (path_total form) → ⊥) × (reason ≡ Layers))
      ∷ (λ reason. WithForm m (λ form. PassesUnblocked IsBelow m.blocks form → ⊥) × (reason ≡ Unblocked))
      ∷ []

  -- the type is below the goal of one of the members
  abbrev pub IsBelowMember : List proof.Member → ClosedType → Type 0
  IsBelowMember members t = (m : proof.Member) × Contains members m × IsSubtype t m.goal

  -- The rows pass in turn, and the last one is below the asked type. Or all members pass, and it is below one of them.
  pub data Accepts (asked : ClosedType) : Certificate → Type 0 where
    by_rows : {rows : List ProofRow} → PassRows [] rows → EndsBelow rows asked → Accepts asked (inhabited rows)
    by_members :
        {members : List proof.Member} → All (PassesMember (IsBelowMember members)) members
        → IsBelowMember members asked → Accepts asked (empty members)

  -- a row or member after those before it, counted from 1, by its first test that fails
  abbrev pub row_refusal : List ProofRow → ProofRow → Cause (ℕ × Reason)
  row_refusal earlier r p = (p.0 ≡ length earlier + 1) × First (row_causes (IsAboveRow earlier) r) p.1

  abbrev pub member_refusal : List proof.Member → List proof.Member → proof.Member → Cause (ℕ × Reason)
  member_refusal members earlier m p = (p.0 ≡ length earlier + 1) × First (member_causes (IsBelowMember members) m) p.1

  -- Each row or member in turn, and the test `goal` after them all: at the number of rows, or at 0.
  abbrev pub refusals : ClosedType → Certificate → List (Cause (ℕ × Reason))
  refusals asked (inhabited rows) =
      FirstAlong row_refusal rows
      ∷ (λ p. (EndsBelow rows asked → ⊥) × (p ≡ (length rows, Goal)))
      ∷ []
  refusals asked (empty members) =
      FirstAlong (member_refusal members) members
      ∷ (λ p. (IsBelowMember members asked → ⊥) × (p ≡ (0, Goal)))
      ∷ []

  abbrev pub Refuses : ClosedType → Certificate → Cause (ℕ × Reason)
  Refuses asked c p = First (refusals asked c) p
