-- internal: aims that the code adds to a list, and levels from one on
use Rattle.std.specs.Prelude.{ℕ, ◌+◌, nat_eq, List, [], ◌∷◌, ◌++◌, map, slice_index_or, if◌then◌else◌}
use Rattle.cls_walk.specs.FrameAims.{Aim, AreThinned}
use Rattle.cls_walk.specs.FrameBegins.{aim_of}
use Rattle.cls_walk.specs.declared.aims.Aim as aim
use Rattle.cls_walk.specs.declared.rules.Pair as pair

-- Whatever the list was thinned from, it is thinned from that and these aims now.
abbrev pub Adds : List Aim → List aim.Aim → List aim.Aim → Type 0
Adds more old new =
    (whole : List Aim) → AreThinned whole (map aim_of old) → AreThinned (whole ++ more) (map aim_of new)

-- the aim by a pair, if it begins with node l
abbrev pub aimed_pair : ℕ → ℕ → ℕ × ℕ → List Aim
aimed_pair l behind p = if nat_eq p.0 l then (p.1, behind) ∷ [] else []

-- the aim of node m, if another is of node l, with so much awaited between
abbrev pub aimed_begun : ℕ → ℕ → ℕ → Aim → List Aim
aimed_begun l m own a = if nat_eq a.0 l then (m, own + a.1) ∷ [] else []

-- the levels from this one on
abbrev pub levels_from : List (List Aim) → ℕ → ℕ → List Aim
levels_from levels first q = slice_index_or levels (first + q) []

-- an aim and a pair that stand for none
abbrev pub no_aim : aim.Aim
no_aim = record { node = 0; behind = 0 }

abbrev pub no_pair : pair.Pair
no_pair = record { left = 0; right = 0 }
