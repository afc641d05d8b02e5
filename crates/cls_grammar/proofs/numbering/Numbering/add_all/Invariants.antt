use Rattle.std.proofs.Common.{◌≡◌, take, nat_eq}
use Rattle.indexmap.specs.IndexSet.{insert_all}
use Rattle.cls_grammar.proofs.numbering.Numbering.add_all.Given as goal

abbrev pub invariant-loop-number : goal.invariant-loop-number
invariant-loop-number l = record {
  order : l.self.order ≡ insert_all nat_eq l.initial.self.order (take l.number-index l.numbers);
  bound : l.self.bound ≡ l.initial.self.bound;
}
