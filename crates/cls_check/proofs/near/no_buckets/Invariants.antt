use Rattle.std.proofs.Common.{◌≡◌, length, []}
use Rattle.std.specs.Prelude.{All}
use Rattle.cls_check.proofs.near.no_buckets.Given as goal

abbrev pub invariant-loop-number : goal.invariant-loop-number
invariant-loop-number l = record { count : length l.under.items ≡ l._number; none : All (λ bucket. bucket ≡ []) l.under.items }
