-- internal: there is at most one proof that head rules are in order
use Rattle.std.specs.Prelude.{ℕ, ◌≡◌, ◌<◌, true, Bool, List, [], ◌∷◌}
use mathlib.Core.Logic.{inl, inr}
use mathlib.Core.Path.{subst}
use Rattle.std.specs.Cmp.{below_irrefl}
use Rattle.std.specs.Coded.{×_prop, Unit-prop, le_prop, Coded-set, coded_ℕ}
use Rattle.cls_walk.specs.Counts.{HeadRule}
use Rattle.cls_walk.specs.Orders.{InOrder, NotAfter}

pub NotAfter-prop : (h g : HeadRule) → IsProp (NotAfter h g)
NotAfter-prop h g (inl a) (inl b) = λ i. inl (le_prop a b i)
NotAfter-prop h g (inl a) (inr b) = absurd (below_irrefl g.0 (subst (λ (x : ℕ). x < g.0) b.0 a))
NotAfter-prop h g (inr a) (inl b) = absurd (below_irrefl g.0 (subst (λ (x : ℕ). x < g.0) a.0 b))
NotAfter-prop h g (inr a) (inr b) = λ i. inr (×_prop (Coded-set coded_ℕ h.0 g.0) le_prop a b i)

pub InOrder-prop : (hs : List HeadRule) → IsProp (InOrder hs)
InOrder-prop [] = Unit-prop
InOrder-prop (h ∷ hs) = ×_prop (λ f k i g m. NotAfter-prop h g (f g m) (k g m) i) (InOrder-prop hs)

-- the same of all nodes, where it is claimed
pub AllInOrder-prop : (t : Bool) (heads : ℕ → List HeadRule) → IsProp (t ≡ true → (n : ℕ) → InOrder (heads n))
AllInOrder-prop t heads f k = λ i e n. InOrder-prop (heads n) (f e n) (k e n) i
