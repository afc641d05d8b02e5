use Rattle.std.proofs.Common.{List, ◌-◌, sym, subst, map}
use Rattle.std.specs.Prelude.{IfOk, IfErr}
use Rattle.std.specs.List.{flat_map}
use Rattle.cls_base.specs.Terms.{Applicative}
use Rattle.cls_term.specs.Banks.{term_by}
use Rattle.cls_enum.specs.Candidates.{over, fills}
use Rattle.cls_enum.specs.CellTables.{cell_of}
use Rattle.cls_enum.specs.Faults.{IfTooMany}
use Rattle.cls_enum.specs.Members.{IsAdded, IsOverfull}
use Rattle.cls_enum.specs.Plans.{nodes_of, plan_terms}
use Rattle.cls_enum.specs.declared.plan.Place.{Place}
use Rattle.cls_enum.specs.declared.plan.Plan.{Plan}
use Rattle.cls_enum.proofs.find.find_of.Goals as goal

pub returns-in-Any-clause-added : goal.returns-in-Any-clause-added
returns-in-Any-clause-added c =
    let ts = c.args.held.now.bank.now in
    let cell = cell_of ts c.args.held.now.cells.now in
    let P : List Applicative → Type 0 = λ es. IfOk c.find_applied_node.result (λ _. IsAdded ts c.args.found.now es c.find_applied_node.new.found) in
    subst (λ (p : Plan). P (plan_terms cell c.args.size p)) (sym c.in-Any.is)
    (subst (λ (ps : List Place). P (over c.args.size (λ t. flat_map (λ f. fills cell f (nodes_of ps) (c.args.size - t)) (cell t c.in-Any.left)))) c.as_slice-in-Any.ensures.value c.find_applied_node.ensures.added)

pub returns-in-Any-clause-over : goal.returns-in-Any-clause-over
returns-in-Any-clause-over c =
    let ts = c.args.held.now.bank.now in
    let cell = cell_of ts c.args.held.now.cells.now in
    let P : List Applicative → Type 0 = λ es. IfErr c.find_applied_node.result (λ fault. IfTooMany fault (IsOverfull c.args.held.now.limit (map (term_by ts) c.args.found.now) es)) in
    subst (λ (p : Plan). P (plan_terms cell c.args.size p)) (sym c.in-Any.is)
    (subst (λ (ps : List Place). P (over c.args.size (λ t. flat_map (λ f. fills cell f (nodes_of ps) (c.args.size - t)) (cell t c.in-Any.left)))) c.as_slice-in-Any.ensures.value c.find_applied_node.ensures.over)
