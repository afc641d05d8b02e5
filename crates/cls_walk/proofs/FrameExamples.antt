-- The steps over frames by two tiny rule books.
use Rattle.std.proofs.Common.{◌≡◌, ℕ, List, [], ◌∷◌, refl}
use Rattle.cls_base.specs.declared.rule.Rule.{Rule}
use Rattle.cls_base.specs.declared.rule.Rule.TheVariants.{Head, Any}
use Rattle.cls_walk.specs.Frames.{Frame, asked, opened, advanced, complete}
use Rattle.cls_walk.specs.FrameAims.{start_aims, whole_levels, opened_with, next_aims}

-- Node 0 has the rules `f 0` and `x`, where f is component 5 and x is component 6.
abbrev loop : List (List (Rule ℕ))
loop = (Head 5 (0 ∷ []) ∷ Head 6 [] ∷ []) ∷ []

-- of size 1 at least
abbrev ones : ℕ → ℕ
ones n = 1

abbrev f_open : Frame
f_open = record { places = (0, 0 ∷ []) ∷ []; left = 1 }

abbrev whole : Frame
whole = record { places = (0, []) ∷ []; left = 0 }

f-opened : opened loop (asked loop 0 []) 5 1 ≡ f_open
f-opened = refl

f-alone : opened loop (asked loop 0 []) 5 0 ≡ record { places = []; left = 0 }
f-alone = refl

x-opened : opened loop (asked loop 0 (f_open ∷ [])) 6 0 ≡ whole
x-opened = refl

f-whole : advanced loop (complete whole) f_open ≡ whole
f-whole = refl

-- x comes to nothing more behind two f
f-aims : next_aims loop ones (whole_levels loop ones (next_aims loop ones (whole_levels loop ones (start_aims 0)) f_open)) f_open ≡ (0, 0) ∷ []
f-aims = refl

f-offered : opened_with loop ones (whole_levels loop ones (start_aims 0)) 5 1 ≡ ((0, 0 ∷ []), 1) ∷ []
f-offered = refl

-- Node 0 has the pair of nodes (1, 0), and node 1 the rule `g`, which is component 7: node 0 has no term.
abbrev chain : List (List (Rule ℕ))
chain = (Any 1 0 ∷ []) ∷ (Head 7 [] ∷ []) ∷ []

abbrev g_open : ℕ → Frame
g_open k = record { places = (1, []) ∷ []; left = k }

g-opened : opened chain (asked chain 0 []) 7 1 ≡ g_open 1
g-opened = refl

g-alone : opened chain (asked chain 0 []) 7 0 ≡ record { places = []; left = 0 }
g-alone = refl

g-again : opened chain (asked chain 0 (g_open 1 ∷ [])) 7 1 ≡ g_open 1
g-again = refl

g-twice : opened chain (asked chain 0 []) 7 2 ≡ record { places = []; left = 2 }
g-twice = refl

g-whole : advanced chain (0 ∷ []) (g_open 1) ≡ whole
g-whole = refl

-- with an argument of node 1 it is nothing
g-dead : advanced chain (1 ∷ []) (g_open 1) ≡ record { places = []; left = 0 }
g-dead = refl

g-aims : next_aims chain ones (whole_levels chain ones (next_aims chain ones (whole_levels chain ones (start_aims 0)) (g_open 1))) (g_open 1) ≡ (0, 0) ∷ []
g-aims = refl

g-offered : opened_with chain ones (whole_levels chain ones (start_aims 0)) 7 1 ≡ ((1, []), 1) ∷ []
g-offered = refl

-- two pairs are too many for the start
g-far : opened_with chain ones (whole_levels chain ones (start_aims 0)) 7 2 ≡ []
g-far = refl
