use Rattle.std.proofs.Common.{[], ap, length, arith}
use Rattle.std.proofs.lemmas.List.{length-map}
use Rattle.std.proofs.lemmas.List.Sorted.{length_permutation}
use Rattle.cls_term.specs.Banks.{at, term_by}
use Rattle.cls_enum.specs.CellTables.{cell_of}
use Rattle.cls_enum.specs.Plans.{plan_candidates}
use Rattle.cls_enum.proofs.Additions.{IsOverfull-found}
use Rattle.cls_enum.proofs.Storing.{IsCell-made}
use Rattle.cls_enum.proofs.make.make.Goals as goal

pub returns-clause-cell : goal.returns-clause-cell
returns-clause-cell c =
    IsCell-made c.args.bank.now c.put_all.new.bank c.in_ok-found.found (plan_candidates (cell_of c.args.bank.now c.args.cells.now) c.args.size c.args.plans.now) c.in_ok-numbers.numbers.items c.sort_by_code.new.numbers.items c.in_ok-found.ensures.added c.in_ok-numbers.ensures.terms c.in_ok-numbers.ensures.below c.sort_by_code.ensures.permutation c.sort_by_code.ensures.sorted

pub returns-clause-within : goal.returns-clause-within
returns-clause-within c =
    omega (
      arith,
      length_permutation c.in_ok-numbers.numbers.items c.sort_by_code.new.numbers.items c.sort_by_code.ensures.permutation,
      length-map c.in_ok-numbers.numbers.items (at c.put_all.new.bank),
      length-map c.in_ok-found.found (term_by c.args.bank.now),
      ap length c.in_ok-numbers.ensures.terms,
      c.if-len-limit.false,
      c.len.ensures,
    )

pub returns-then-len-limit-clause-over : goal.returns-then-len-limit-clause-over
returns-then-len-limit-clause-over c =
    IsOverfull-found c.args.bank.now c.args.limit [] c.in_ok-found.found (plan_candidates (cell_of c.args.bank.now c.args.cells.now) c.args.size c.args.plans.now) c.in_ok-found.ensures.added (omega (arith, c.if-len-limit.true, c.len.ensures))
