use Rattle.std.proofs.Common.{subst, map}
use Rattle.std.specs.Prelude.{IfOk, IfErr}
use Rattle.cls_base.specs.Terms.{Applicative}
use Rattle.cls_term.specs.Banks.{term_by}
use Rattle.cls_enum.specs.Candidates.{fills}
use Rattle.cls_enum.specs.Faults.{IfTooMany}
use Rattle.cls_enum.specs.Members.{IsAdded, IsOverfull}
use Rattle.cls_enum.specs.Plans.{nodes_of}
use Rattle.cls_enum.specs.HeldTerms.{held_terms}
use Rattle.cls_enum.proofs.find.find_applied_head.Goals as goal

pub fill-requires-clause-partial : goal.fill-requires-clause-partial
fill-requires-clause-partial c = c.from_head-partial.ensures.partial c.args.held.now.bank.now

pub returns-clause-added : goal.returns-clause-added
returns-clause-added c =
    let ts = c.args.held.now.bank.now in
    subst (λ (e : Applicative). IfOk c.fill.result (λ _. IsAdded ts c.args.found.now (fills (held_terms c.args.held.now) e (nodes_of c.args.places.now) c.args.rest) c.fill.new.found)) (c.from_head-partial.ensures.term ts) c.fill.ensures.added

pub returns-clause-over : goal.returns-clause-over
returns-clause-over c =
    let ts = c.args.held.now.bank.now in
    subst (λ (e : Applicative). IfErr c.fill.result (λ fault. IfTooMany fault (IsOverfull c.args.held.now.limit (map (term_by ts) c.args.found.now) (fills (held_terms c.args.held.now) e (nodes_of c.args.places.now) c.args.rest)))) (c.from_head-partial.ensures.term ts) c.fill.ensures.over
