-- A certificate without rows, computed: its members, their blocks, and the layers of these. It is the one that is made.
use Rattle.std.specs.Prelude.{ℕ, zero, suc, ◌-◌, Bool, true, false, List, [], ◌∷◌, ◌++◌, length, Option, None, Some}
use Rattle.cls_path.specs.Paths.{TypePath, Paths, none, more, type_of_paths}
use Rattle.cls_path.specs.Tests.{path_below}
use Rattle.cls_taxon.specs.Decisions.{is_below}
use Rattle.cls_library.specs.declared.place.Place.{Place}
use Rattle.cls_library.specs.Arrows.{MultiArrow, arity_of}
use Rattle.cls_library.specs.Libraries.{Library, variances_in, paths_at, arrows_at}
use Rattle.cls_proof.specs.Certificates as proof
use Rattle.cls_proof.specs.Certificates.{Block}
use Rattle.cls_cert.specs.CoverLists.{made_covers}

-- the minimal covers of the families
abbrev pub covers_of : List (List ℕ) → List (List ℕ)
covers_of families = (made_covers families).0

-- the covers of the front and the first of the others, of it and the first two, and so on
abbrev pub layers_from : (front others : List (List ℕ)) → List (List (List ℕ))
layers_from front [] = []
layers_from front (f ∷ others) = covers_of (front ++ f ∷ []) ∷ layers_from (front ++ f ∷ []) others

-- the block of the place with these families, if the first of them isn't empty
abbrev pub block_by : ℕ → ℕ → List (List ℕ) → List Block
block_by x n [] = []
block_by x n ([] ∷ families) = []
block_by x n ((i ∷ f) ∷ families) = record { component = x; n = n; layers = layers_from [] ((i ∷ f) ∷ families) } ∷ []

-- the number too, if this holds
abbrev pub put_if : Bool → ℕ → List ℕ → List ℕ
put_if true i s = i ∷ s
put_if false i s = s

-- where the blocks of a goal begin
abbrev pub start_place : Place
start_place = record { component = 0; count = 0 }

module _ (l : Library) where
  -- the arrow leads to the path
  abbrev pub leads : MultiArrow → TypePath → Bool
  leads a q = path_below (is_below l.taxonomy) (variances_in l.taxonomy) a.target q

  -- the positions of the arrows that lead to the path, where these stand from a position on
  abbrev pub positions_from : TypePath → ℕ → List MultiArrow → List ℕ
  positions_from q i [] = []
  positions_from q i (a ∷ arrows) = put_if (leads a q) i (positions_from q (suc i) arrows)

  -- the family of each path
  abbrev pub families_by : List MultiArrow → Paths → List (List ℕ)
  families_by arrows none = []
  families_by arrows (more q rest) = positions_from q 0 arrows ∷ families_by arrows rest

  module _ (goal : Paths) where
    -- the block of a place, if an arrow there leads to the first path
    abbrev pub block_at : ℕ → ℕ → List Block
    block_at x n = block_by x n (families_by (arrows_at l x n) goal)

    -- those of a component for n arguments and more, so many numbers
    abbrev pub counts_from : ℕ → ℕ → ℕ → List Block
    counts_from x n zero = []
    counts_from x n (suc k) = block_at x n ++ counts_from x (suc n) k

    -- those of a component for n arguments and more
    abbrev pub blocks_in : ℕ → ℕ → List Block
    blocks_in x n = counts_from x n (suc (arity_of (paths_at l x)) - n)

    -- the same with those of the components behind it, so many components
    abbrev pub components_from : ℕ → ℕ → ℕ → List Block
    components_from x n zero = []
    components_from x n (suc k) = blocks_in x n ++ components_from (suc x) 0 k

    -- the blocks from a place on
    abbrev pub blocks_from : Place → List Block
    blocks_from p = components_from p.component p.count (length l.components - p.component)

    abbrev pub member_of : proof.Member
    member_of = record { goal = type_of_paths goal; blocks = blocks_from start_place }

  -- a member for each goal without a rank
  abbrev pub members_from : List Paths → List (Option ℕ) → List proof.Member
  members_from [] ranks = []
  members_from (goal ∷ goals) [] = []
  members_from (goal ∷ goals) (None ∷ ranks) = member_of goal ∷ members_from goals ranks
  members_from (goal ∷ goals) (Some h ∷ ranks) = members_from goals ranks
