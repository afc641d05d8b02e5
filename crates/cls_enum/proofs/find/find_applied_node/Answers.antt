use Rattle.std.proofs.Common.{ℕ, List, ◌-◌, ap, arith, map}
use Rattle.std.specs.List.{flat_map}
use Rattle.std.proofs.lemmas.Result.{err_from_is_err_and}
use Rattle.cls_base.specs.Terms.{Applicative}
use Rattle.cls_term.specs.Banks.{at}
use Rattle.cls_enum.specs.Candidates.{fills}
use Rattle.cls_enum.specs.CellTables.{cell_of}
use Rattle.cls_enum.specs.Plans.{nodes_of}
use Rattle.cls_enum.proofs.FillSteps.{IfTooMany-weaker, over-step, over-over}
use Rattle.cls_enum.proofs.find.find_applied_node.Goals as goal

pub loop-smaller-preserved : goal.loop-smaller-preserved
loop-smaller-preserved c =
    let ts = c.args.held.now.bank.now in
    let cell = cell_of ts c.args.held.now.cells.now in
    over-step ts (λ (t : ℕ). flat_map (λ (f : Applicative). fills cell f (nodes_of c.args.places.now) (c.args.size - t)) (cell t c.args.left)) c.args.found.now c.loop-smaller.found c.find_applied.new.found c.loop-smaller.smaller _
    (ap (λ (ns : List ℕ). flat_map (λ (f : Applicative). fills cell f (nodes_of c.args.places.now) (c.args.size - c.loop-smaller.smaller)) (map (at ts) ns)) c.get-numbers.ensures)
    c.loop-smaller.invariant c.in_ok-find_applied.ensures.added

pub returns-in_err-find_applied-clause-over : goal.returns-in_err-find_applied-clause-over
returns-in_err-find_applied-clause-over c =
    let ts = c.args.held.now.bank.now in
    let cell = cell_of ts c.args.held.now.cells.now in
    let p = err_from_is_err_and c.from_residual.result c.from_residual.ensures.1 in
    rw (p.1, p.2) (IfTooMany-weaker _ _ _
    (over-over ts (λ (t : ℕ). flat_map (λ (f : Applicative). fills cell f (nodes_of c.args.places.now) (c.args.size - t)) (cell t c.args.left)) c.args.found.now c.loop-smaller.found c.find_applied.new.found c.loop-smaller.smaller c.args.size c.args.held.now.limit _ (omega (arith, c.loop-smaller-test.true))
    (ap (λ (ns : List ℕ). flat_map (λ (f : Applicative). fills cell f (nodes_of c.args.places.now) (c.args.size - c.loop-smaller.smaller)) (map (at ts) ns)) c.get-numbers.ensures)
    c.loop-smaller.invariant)
    c.in_err-find_applied.ensures.over)
