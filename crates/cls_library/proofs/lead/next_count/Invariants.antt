use Rattle.std.proofs.Common.{ℕ, ◌<◌, ◌≤◌}
use Rattle.cls_library.specs.Leads.{NoneLeads, place_at}
use Rattle.cls_library.proofs.lead.next_count.Given as goal

abbrev pub invariant-loop-count : goal.invariant-loop-count
invariant-loop-count l = (k : ℕ) → l.fn.from.count ≤ k → k < l.count → NoneLeads l.fn.lib l.fn.sought (place_at l.fn.from.component k)
