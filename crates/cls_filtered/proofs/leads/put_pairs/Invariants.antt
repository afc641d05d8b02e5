use Rattle.std.proofs.Common.{◌≡◌, ◌++◌, ℕ, map}
use Rattle.std.specs.Prelude.{filter}
use Rattle.cls_filtered.specs.Filtered.{below, leads_to}
use Rattle.cls_filtered.proofs.leads.put_pairs.Given as goal

abbrev pub invariant-loop-right : goal.invariant-loop-right
invariant-loop-right l =
    l.pairs ≡ l.fn.pairs ++ filter (leads_to l.filter l.state) (map (λ (s : ℕ). (l.left, s)) (below l.right))
