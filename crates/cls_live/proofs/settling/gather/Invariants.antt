use Rattle.std.proofs.Common.{◌≡◌, map, take, slice_index_or}
use Rattle.cls_live.proofs.settling.gather.Given as goal

abbrev pub invariant-loop-place : goal.invariant-loop-place
invariant-loop-place l = l.gathered.items ≡ map (λ i. slice_index_or l.numbers i 0) (take l.place-index l.places)
