-- internal: runs of head rules, as they are kept while the rules of a node are counted
use Rattle.std.specs.Prelude.{ℕ, ◌≡◌, ◌+◌, List}
use Rattle.cls_walk.specs.Counts.{HeadRule, run}
use Rattle.cls_walk.specs.Tables.{capped}
use Rattle.cls_walk.specs.declared.run.Run.{Run}

-- with the head rules that are still to come, the runs have this sum
abbrev pub ComesTo : (HeadRule → ℕ) → List HeadRule → ℕ → Run → Type 0
ComesTo f hs sum r = capped (r.total + run f r.component r.arguments r.best hs) ≡ capped sum

-- whatever sum the old run comes to with the first rules, the new one comes to it with the others
abbrev pub KeepsSum : (HeadRule → ℕ) → List HeadRule → List HeadRule → Run → Run → Type 0
KeepsSum f hs rest old new = (sum : ℕ) → ComesTo f hs sum old → ComesTo f rest sum new
