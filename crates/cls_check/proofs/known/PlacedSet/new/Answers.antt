use Rattle.std.proofs.Common.{ℕ, ap, List}
use Rattle.cls_check.specs.Known.{key_of}
use Rattle.cls_check.proofs.known.PlacedSet.new.Goals as goal

pub returns : goal.returns
returns c = ap (λ (s : List ℕ). key_of c.args.place s) c.in_ok-from_slice.ensures.items
