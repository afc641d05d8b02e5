use Rattle.std.proofs.Common.{◌≡◌, ◌++◌, ◌∷◌, [], Bool, arith, refl, subst}
use Rattle.std.specs.Prelude.{None}
use Rattle.cls_proof.specs.declared.reading.ReadLine.{ReadLine}
use Rattle.cls_proof.specs.Drafts.{after, said_in, place_in, IsAdded}
use Rattle.cls_proof.specs.Said.{statement_of, IsReadAs}
use Rattle.cls_proof.proofs.Chunks.{behind_none, behind_skipped, behind_said, behind_whole, bad_nothing, bad_place}
use Rattle.cls_proof.proofs.SaidLines.{StandsAt, stands_at, grown_on}
use Rattle.cls_proof.proofs.read.read_chunk.Goals as goal

pub loop-i-init : goal.loop-i-init
loop-i-init c = record { so_far = behind_none c.args.components.now c.args.names.now (said_in c.args.draft); grown = ([], refl); counted = omega arith }

pub loop-i-preserved-in-Skipped : goal.loop-i-preserved-in-Skipped
loop-i-preserved-in-Skipped c =
    let l = c.loop-i in
    let new = c.read_line.new.names in
    let line = c.get-line.result in
    let at : StandsAt c.args.chunk.now l.i line = stands_at c.args.chunk.now l.i line (omega (arith, c.loop-i-test.true, c.len-i-end.ensures)) c.get-line.ensures in
    let said = subst (λ (r : ReadLine). IsReadAs c.args.components.now l.names new line r) c.in-Skipped.is c.in_ok-read_line.ensures.read in
    record {
      so_far = behind_skipped c.args.components.now c.args.names.now l.names new c.args.chunk.now l.i line (said_in c.args.draft) (said_in l.draft) at l.invariant.so_far said.0 said.1;
      grown = grown_on c.args.names.now l.names new l.invariant.grown.0 l.invariant.grown.1 c.read_line.ensures.grown;
      counted = omega (arith, l.invariant.counted);
    }

pub loop-i-preserved : goal.loop-i-preserved
loop-i-preserved c =
    let l = c.loop-i in
    let new = c.read_line.new.names in
    let line = c.get-line.result in
    let s = statement_of c.in-Says.statement in
    let at : StandsAt c.args.chunk.now l.i line = stands_at c.args.chunk.now l.i line (omega (arith, c.loop-i-test.true, c.len-i-end.ensures)) c.get-line.ensures in
    let said = subst (λ (r : ReadLine). IsReadAs c.args.components.now l.names new line r) c.in-Says.is c.in_ok-read_line.ensures.read in
    let joined : said_in c.add.new.self ≡ said_in l.draft ++ s ∷ [] = subst (λ (b : Bool). IsAdded (said_in l.draft) (place_in l.draft) s (said_in c.add.new.self) b) c.if-not-branch.false c.in_ok-add.ensures in
    record {
      so_far = behind_said c.args.components.now c.args.names.now l.names new c.args.chunk.now l.i line (said_in c.args.draft) (said_in l.draft) (said_in c.add.new.self) s said.0 at l.invariant.so_far said.1 said.2 said.3 joined;
      grown = grown_on c.args.names.now l.names new l.invariant.grown.0 l.invariant.grown.1 c.read_line.ensures.grown;
      counted = omega (arith, l.invariant.counted);
    }

pub returns-in-Bad-clause-read : goal.returns-in-Bad-clause-read
returns-in-Bad-clause-read c =
    let l = c.loop-i in
    let line = c.get-line.result in
    let at : StandsAt c.args.chunk.now l.i line = stands_at c.args.chunk.now l.i line (omega (arith, c.loop-i-test.true, c.len-i-end.ensures)) c.get-line.ensures in
    let nothing = subst (λ (r : ReadLine). IsReadAs c.args.components.now l.names c.read_line.new.names line r) c.in-Bad.is c.in_ok-read_line.ensures.read in
    bad_nothing c.args.components.now c.args.names.now l.names c.args.chunk.now c.args.before l.i _ line c.args.draft l.draft at l.invariant.so_far (omega (arith, l.invariant.counted)) nothing

pub returns-then-not-branch-clause-read : goal.returns-then-not-branch-clause-read
returns-then-not-branch-clause-read c =
    let l = c.loop-i in
    let new = c.read_line.new.names in
    let line = c.get-line.result in
    let s = statement_of c.in-Says.statement in
    let at : StandsAt c.args.chunk.now l.i line = stands_at c.args.chunk.now l.i line (omega (arith, c.loop-i-test.true, c.len-i-end.ensures)) c.get-line.ensures in
    let said = subst (λ (r : ReadLine). IsReadAs c.args.components.now l.names new line r) c.in-Says.is c.in_ok-read_line.ensures.read in
    let refused : after s (place_in l.draft) ≡ None = subst (λ (b : Bool). IsAdded (said_in l.draft) (place_in l.draft) s (said_in c.add.new.self) b) c.if-not-branch.true c.in_ok-add.ensures in
    bad_place c.args.components.now c.args.names.now l.names new c.args.chunk.now c.args.before l.i _ line c.args.draft l.draft s said.0 at l.invariant.so_far (omega (arith, l.invariant.counted)) said.1 said.2 refused

pub returns-clause-read : goal.returns-clause-read
returns-clause-read c =
    let l = c.loop-i in
    behind_whole c.args.components.now c.args.names.now l.names c.args.chunk.now l.i (said_in c.args.draft) (said_in l.draft) (omega (arith, c.loop-i-test.false, c.len-i-end.ensures)) l.invariant.so_far

pub returns-in_err-read_line-clause-grown : goal.returns-in_err-read_line-clause-grown
returns-in_err-read_line-clause-grown c = grown_on c.args.names.now c.loop-i.names c.read_line.new.names c.loop-i.invariant.grown.0 c.loop-i.invariant.grown.1 c.read_line.ensures.grown

pub returns-in-Bad-clause-grown : goal.returns-in-Bad-clause-grown
returns-in-Bad-clause-grown c = grown_on c.args.names.now c.loop-i.names c.read_line.new.names c.loop-i.invariant.grown.0 c.loop-i.invariant.grown.1 c.read_line.ensures.grown

pub returns-in_err-add-clause-grown : goal.returns-in_err-add-clause-grown
returns-in_err-add-clause-grown c = grown_on c.args.names.now c.loop-i.names c.read_line.new.names c.loop-i.invariant.grown.0 c.loop-i.invariant.grown.1 c.read_line.ensures.grown

pub returns-then-not-branch-clause-grown : goal.returns-then-not-branch-clause-grown
returns-then-not-branch-clause-grown c = grown_on c.args.names.now c.loop-i.names c.read_line.new.names c.loop-i.invariant.grown.0 c.loop-i.invariant.grown.1 c.read_line.ensures.grown
