-- internal: how far the head rules of a node are known to be in order
use Rattle.std.specs.Prelude.{◌≡◌, ◌<◌, ◌≤◌, ◌⊎◌, List, length}
use Rattle.cls_enum.specs.Members.{IsIn}
use Rattle.cls_walk.specs.Counts.{HeadRule}
use Rattle.cls_walk.specs.Orders.{InOrder}
use Rattle.cls_walk.specs.declared.order.Last.{Last}

-- they are in order, and none of them comes after the last one
abbrev pub EndWith : Last → List HeadRule → Type 0
EndWith last hs = InOrder hs × ((h : HeadRule) → IsIn hs h
    → (h.0 < last.component) ⊎ ((h.0 ≡ last.component) × (length h.1 ≤ last.arguments)))
