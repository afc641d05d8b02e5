use Rattle.std.proofs.Common.{ℕ, [], subst}
use Rattle.std.specs.Prelude.{option_copied, IfOk}
use Rattle.cls_base.specs.Limits.{max_term_length}
use Rattle.cls_term.specs.Costs.{cost_of}
use Rattle.cls_walk.specs.FrameWalks.{IsDueOn}
use Rattle.cls_walk.specs.Walks.{Lists}
use Rattle.cls_walk.proofs.Attempts.{framed-due}
use Rattle.cls_walk.proofs.exact.list_due.Goals as goal

pub returns-clause-listed : goal.returns-clause-listed
returns-clause-listed c = λ book h.
    let q = c.args.search in
    let plan = c.args.plan.now in
    let At : ℕ → Type 0 =
    λ n. IfOk c.stroll.result (Lists (IsDueOn book (cost_of plan.costs.now) n [] c.args.size max_term_length c.in-Some.cursor) c.args.walk.now c.stroll.new.walk) in
    framed-due book plan (option_copied q.after) q.max_size c.args.size c.requires.max c.in-Some.cursor c.args.walk.now c.stroll.new.walk c.stroll.result
    (c.in-Some.ensures.some (cost_of plan.costs.now) h.start)
    (subst At h.node (c.stroll.ensures.listed book h.guide))
