use Rattle.std.proofs.Common.{ℕ, List, ◌++◌, ap, subst, length}
use Rattle.std.specs.Prelude.{◌<◌, codes}
use Rattle.cls_base.specs.Limits.{max_states}
use Rattle.cls_repo.specs.Declarations.{states_named}
use Rattle.cls_repo.specs.Written.{directive_of, filter_seen}
use Rattle.cls_repo.proofs.Findings.{few_by}
use Rattle.cls_repo.proofs.FilterLines.{own_line}
use Rattle.cls_repo.proofs.StateNames.{named_below}
use Rattle.cls_repo.proofs.draft_filter.DraftFilter.try_line.Goals as goal

pub returns-then-is_crowded-clause-fault : goal.returns-then-is_crowded-clause-fault
returns-then-is_crowded-clause-fault c =
    (subst (λ (ts : List (List ℕ)). max_states < length ts) c.in_ok-name_states.ensures.named (c.is_crowded.ensures.0 c.if-is_crowded.true), ap (λ (ys : List ℕ). codes "states " ++ ys) c.in_ok-from_str.ensures.ok)

pub put_line-requires : goal.put_line-requires
put_line-requires c =
    named_below c.args.self.now.states c.name_states.new.states (states_named (directive_of c.args.said)) c.in_ok-name_states.ensures.named
    (few_by c.is_crowded.result (length c.name_states.new.states) max_states c.is_crowded.ensures c.if-is_crowded.false)

pub returns-clause-few : goal.returns-clause-few
returns-clause-few c = few_by c.is_crowded.result (length c.name_states.new.states) max_states c.is_crowded.ensures c.if-is_crowded.false

pub returns-clause-taken : goal.returns-clause-taken
returns-clause-taken c =
    own_line c.args.components.now (directive_of c.args.said) (filter_seen c.args.self.now) c.name_states.new.states c.put_line.new.filter c.in_ok-name_states.ensures.named c.in_ok-put_line.ensures.put
