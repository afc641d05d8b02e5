-- What holds of every rule book and request.
use Rattle.std.specs.Prelude.{ℕ, ◌<◌, ◌≤◌, Bool, List, length}
use Rattle.cls_base.specs.declared.rule.Rule.{Rule}
use Rattle.cls_base.specs.Terms.{Applicative}
use Rattle.cls_base.specs.Pages.{Request, IsDue, IsPage}
use Rattle.cls_base.specs.Pools.{PoolIs, IsDecidingSize}
use Rattle.cls_base.specs.Languages.{IsGenerated}

-- there is a size that decides the page, and a pool at it
abbrev pub EachPageIsDecided : Type 0
EachPageIsDecided = (book : List (List (Rule ℕ))) (r : Request) → 0 < length book → ((x : ℕ) → 1 ≤ r.cost x) → (s : ℕ) × IsDecidingSize (IsDue (IsGenerated book 0) r) r.cost r.take r.max s × ((n : ℕ) × PoolIs book r.cost s n)

-- There is a page, and whether further terms follow it is known.
abbrev pub EachPageExists : Type 0
EachPageExists = (book : List (List (Rule ℕ))) (r : Request) → 0 < length book → ((x : ℕ) → 1 ≤ r.cost x) → 0 < r.take → (terms : List Applicative) × ((more : Bool) × IsPage (IsGenerated book 0) r terms more)
