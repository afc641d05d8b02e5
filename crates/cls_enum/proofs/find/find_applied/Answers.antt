use Rattle.std.proofs.Common.{[], sym, length, arith, map}
use Rattle.std.proofs.lemmas.Result.{err_from_is_err_and}
use Rattle.cls_base.specs.Terms.{Applicative}
use Rattle.cls_base.proofs.Lists.{AreBelow-at}
use Rattle.cls_term.proofs.Spines.{length_at_least_one}
use Rattle.cls_term.specs.Banks.{at}
use Rattle.cls_enum.specs.PartialTerms.{partial_term}
use Rattle.cls_enum.specs.Candidates.{fills}
use Rattle.cls_enum.specs.CellTables.{cell_of}
use Rattle.cls_enum.specs.Plans.{nodes_of}
use Rattle.cls_enum.specs.HeldTerms.{held_terms}
use Rattle.cls_enum.proofs.Additions.{IsAdded-none, IsAdded-same, fills-barren, flat_map-none}
use Rattle.cls_enum.proofs.FillSteps.{IfTooMany-weaker, number-step, number-over}
use Rattle.cls_enum.proofs.find.find_applied.Goals as goal

pub returns-then-is_barren-clause-added : goal.returns-then-is_barren-clause-added
returns-then-is_barren-clause-added c =
    let ts = c.args.held.now.bank.now in
    let cell = cell_of ts c.args.held.now.cells.now in
    IsAdded-same ts c.args.found.now c.args.found.now [] _
    (sym (flat_map-none (λ (f : Applicative). fills cell f (nodes_of c.args.places.now) c.args.rest) (map (at ts) c.args.numbers.now)
    (λ f. fills-barren cell c.args.places.now f c.args.rest 1 c.requires.pruned (length_at_least_one f) (c.is_barren.ensures.0 c.if-is_barren.true))))
    (IsAdded-none ts c.args.found.now c.requires.found)

pub from_term-requires : goal.from_term-requires
from_term-requires c = AreBelow-at (length c.args.held.now.bank.now) c.args.numbers.now c.loop-number.number-index c.requires.numbers (omega (arith, c.loop-number-test.true))

pub loop-number-preserved : goal.loop-number-preserved
loop-number-preserved c =
    let ts = c.args.held.now.bank.now in
    number-step ts (λ (f : Applicative). fills (held_terms c.args.held.now) f (nodes_of c.args.places.now) c.args.rest) c.args.found.now c.loop-number.found c.fill.new.found c.args.numbers.now c.loop-number.number-index (partial_term ts c.in_ok-partial.partial) (omega (arith, c.loop-number-test.true)) c.in_ok-partial.ensures.term c.loop-number.invariant c.in_ok-fill.ensures.added

pub returns-in_err-fill-clause-over : goal.returns-in_err-fill-clause-over
returns-in_err-fill-clause-over c =
    let ts = c.args.held.now.bank.now in
    let p = err_from_is_err_and c.from_residual-in_err-fill.result c.from_residual-in_err-fill.ensures.1 in
    rw (p.1, p.2) (IfTooMany-weaker _ _ _
    (number-over ts (λ (f : Applicative). fills (held_terms c.args.held.now) f (nodes_of c.args.places.now) c.args.rest) c.args.found.now c.loop-number.found c.fill.new.found c.args.numbers.now c.loop-number.number-index c.args.held.now.limit (partial_term ts c.in_ok-partial.partial) (omega (arith, c.loop-number-test.true)) c.in_ok-partial.ensures.term c.loop-number.invariant)
    c.in_err-fill.ensures.over)
