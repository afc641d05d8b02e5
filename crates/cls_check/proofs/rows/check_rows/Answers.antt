use Rattle.std.proofs.Common.{ℕ, sym, subst, ap, ◌∙◌, inl, inr, arith, List, Option, []}
use Rattle.std.proofs.lemmas.Option.{slice_get_within, get_or_from_slice_get}
use Rattle.cls_base.specs.Ty.{type_of}
use Rattle.cls_path.specs.Paths.{TypePath, listed}
use Rattle.cls_proof.specs.Rows.{row_seen}
use Rattle.cls_check.specs.declared.fault.Reason.{Reason}
use Rattle.cls_check.specs.declared.fault.Reason.TheVariants.{Goal}
use Rattle.cls_check.specs.Checking.{by_rows}
use Rattle.cls_check.specs.Tests.{TellsRow}
use Rattle.cls_check.proofs.KnownSets.{none_met, met_later}
use Rattle.cls_check.proofs.Loops.{differs}
use Rattle.cls_check.proofs.Order.{form_by}
use Rattle.cls_check.proofs.RowLaws.{RowsTo, rows_fail, rows_start, rows_next, rows_done}
use Rattle.cls_check.proofs.Verdicts.{rows-pass}
use Rattle.cls_check.proofs.rows.check_rows.Goals as goal

pub loop-i-init : goal.loop-i-init
loop-i-init c =
    let l = c.args.lib.now in
    record {
      passed = subst (λ (goals : List (List TypePath)). RowsTo l c.args.rows.now goals 0) (sym c.new-goals.ensures) (rows_start l c.args.rows.now);
      known = none_met l c.new-goals.result c.new-known.result c.new-known.ensures.covers c.new-known.ensures.above;
    }

pub row_fault-requires-clause-form : goal.row_fault-requires-clause-form
row_fault-requires-clause-form c = form_by c.args.lib.now c.taxonomy.result.now c.taxonomy.ensures (type_of c.get-row.result.goal.now) (listed c.in_ok-goal.goal) c.in_ok-goal.ensures.form

pub returns-in-Some-clause-refused : goal.returns-in-Some-clause-refused
returns-in-Some-clause-refused c =
    let l = c.args.lib.now in
    let rows = c.args.rows.now in
    let r = row_seen c.get-row.result in
    let is = sym (get_or_from_slice_get rows c.loop-i.i r r c.get-row.ensures) in
    let tells = subst (λ (o : Option Reason). TellsRow l c.loop-i.goals r o) c.in-Some.is c.in_ok-reason.ensures.tells in
    inl (rows_fail l rows c.loop-i.goals c.loop-i.i c.loop-i.invariant.passed r is (slice_get_within rows c.loop-i.i r c.get-row.ensures) c.in-Some.reason tells)

pub loop-i-preserved : goal.loop-i-preserved
loop-i-preserved c =
    let l = c.args.lib.now in
    let rows = c.args.rows.now in
    let r = row_seen c.get-row.result in
    let is = sym (get_or_from_slice_get rows c.loop-i.i r r c.get-row.ensures) in
    let tells = subst (λ (o : Option Reason). TellsRow l c.loop-i.goals r o) c.in-None.is c.in_ok-reason.ensures.tells in
    let form = form_by l c.taxonomy.result.now c.taxonomy.ensures (type_of c.get-row.result.goal.now) (listed c.in_ok-goal.goal) c.in_ok-goal.ensures.form in
    record {
      passed = rows_next l rows c.loop-i.goals c.loop-i.i c.loop-i.invariant.passed r is (slice_get_within rows c.loop-i.i r c.get-row.ensures) c.in_ok-goal.goal form c.put.new.self c.in_ok-put-in-None.ensures tells;
      known = met_later l c.loop-i.goals c.put.new.self c.in_ok-goal.goal c.in_ok-put-in-None.ensures c.row_fault.new.known c.in_ok-reason.ensures.known;
    }

pub returns-then-not-branch-clause-refused : goal.returns-then-not-branch-clause-refused
returns-then-not-branch-clause-refused c =
    let l = c.args.lib.now in
    let rows = c.args.rows.now in
    let pass = rows_done l rows c.loop-i.goals c.loop-i.i (omega arith) c.loop-i.invariant.passed in
    inr (rows-pass l [] rows pass, inl ((λ h. differs (sym c.if-not-branch.true ∙ c.in_ok-ends_below.ensures.1 h)), ap (λ (k : ℕ). (k, Goal)) c.len.ensures))

pub returns-clause-accepted : goal.returns-clause-accepted
returns-clause-accepted c =
    let l = c.args.lib.now in
    let rows = c.args.rows.now in
    by_rows (rows_done l rows c.loop-i.goals c.loop-i.i (omega arith) c.loop-i.invariant.passed) (c.in_ok-ends_below.ensures.0 c.if-not-branch.false)
