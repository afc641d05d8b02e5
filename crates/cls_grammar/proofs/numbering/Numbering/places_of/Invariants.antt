use Rattle.std.proofs.Common.{◌≡◌, map, take, nat_eq}
use Rattle.std.specs.List.{position_or_len}
use Rattle.cls_grammar.proofs.numbering.Numbering.places_of.Given as goal

abbrev pub invariant-loop-number : goal.invariant-loop-number
invariant-loop-number l = l.places.items ≡ map (λ n. position_or_len (nat_eq n) l.self.order) (take l.number-index l.numbers)
