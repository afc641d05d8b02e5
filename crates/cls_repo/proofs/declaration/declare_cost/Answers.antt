use Rattle.std.proofs.Common.{ℕ, ap, ◌∙◌}
use Rattle.cls_repo.specs.Declarations.{with_cost}
use Rattle.cls_repo.specs.Written.{draft_of}
use Rattle.cls_repo.proofs.Findings.{held_at, place_of}
use Rattle.cls_repo.proofs.Wrong.{cost_right}
use Rattle.cls_repo.proofs.declaration.declare_cost.Goals as goal

pub set_cost-requires : goal.set_cost-requires
set_cost-requires c = place_of c.args.draft.now.component_names c.args.component.now c.in-Some.number.0 c.in-Some.ensures.stands

pub returns-clause-taken : goal.returns-clause-taken
returns-clause-taken c =
    let value = c.in-Some-cost_in.ensures in
    record {
      declared = c.set_cost.ensures c.args.component.now c.in-Some.ensures.number ∙ ap (λ (n : ℕ). with_cost (draft_of c.args.draft.now) c.args.component.now n) value.1;
      silent = cost_right (draft_of c.args.draft.now) c.args.line.now.text.now c.args.component.now c.args.digits.text.now (held_at c.args.draft.now.component_names c.args.component.now c.in-Some.number.0 c.in-Some.ensures.stands) value.0.0 value.0.1;
    }
