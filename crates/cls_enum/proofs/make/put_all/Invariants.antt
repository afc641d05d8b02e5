use Rattle.std.proofs.Common.{◌≡◌, map, take, length}
use Rattle.cls_term.specs.Banks.{at, term_by}
use Rattle.cls_base.specs.Lists.{AreBelow}
use Rattle.cls_enum.specs.Members.{IsGrown}
use Rattle.cls_enum.proofs.make.put_all.Given as goal

abbrev pub invariant-loop-i : goal.invariant-loop-i
invariant-loop-i l = record {
  grown : IsGrown l.fn.bank l.bank;
  terms : map (at l.bank) l.numbers.items ≡ map (term_by l.fn.bank) (take l.i l.found);
  below : AreBelow (length l.bank) l.numbers.items;
}
