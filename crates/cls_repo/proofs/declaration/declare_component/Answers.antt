use Rattle.std.proofs.Common.{ℕ, List, ◌++◌, ap, sym, ◌∙◌}
use Rattle.std.specs.Prelude.{codes, string_bytes}
use Rattle.cls_base.specs.Limits.{max_type_nodes}
use Rattle.cls_syntax.specs.SpelledTypes.{type_text}
use Rattle.cls_syntax.specs.TypeTexts.{type_nodes}
use Rattle.cls_repo.specs.Directives.{comp}
use Rattle.cls_repo.specs.Written.{draft_of}
use Rattle.cls_repo.proofs.Findings.{held_by, absent_by, large_by}
use Rattle.cls_repo.proofs.Wrong.{nodes_first, component_first, component_right}
use Rattle.cls_repo.proofs.declaration.declare_component.Goals as goal

pub returns-then-not-is_small-clause-fault : goal.returns-then-not-is_small-clause-fault
returns-then-not-is_small-clause-fault c =
    let t = type_text c.args.spelled in
    nodes_first (draft_of c.args.draft.now) c.args.line.now.text.now (comp c.args.component.now t) (large_by c.is_small.result (type_nodes t) max_type_nodes c.is_small.ensures c.if-not-is_small.true)

pub returns-then-is_some-clause-fault : goal.returns-then-is_some-clause-fault
returns-then-is_some-clause-fault c =
    let x = c.args.component.now in
    let held = held_by c.args.draft.now.component_names x c.find.result (sym c.is_some.ensures ∙ c.if-is_some.true) c.find.ensures.stands in
    component_first (draft_of c.args.draft.now) c.args.line.now.text.now x (type_text c.args.spelled) (codes "duplicate-component " ++ string_bytes c.in_ok-from_str.field-0)
    (c.is_small.ensures.0 c.if-not-is_small.false) held (ap (λ (ys : List ℕ). codes "duplicate-component " ++ ys) c.in_ok-from_str.ensures.ok)

pub put_component-requires : goal.put_component-requires
put_component-requires c = absent_by c.args.draft.now.component_names c.args.component.now c.find.result (sym c.is_some.ensures ∙ c.if-is_some.false) c.find.ensures.absent

pub returns-clause-taken : goal.returns-clause-taken
returns-clause-taken c =
    record {
      declared = c.in_ok-put_component.ensures.put;
      silent = component_right (draft_of c.args.draft.now) c.args.line.now.text.now c.args.component.now (type_text c.args.spelled) (c.is_small.ensures.0 c.if-not-is_small.false)
          (absent_by c.args.draft.now.component_names c.args.component.now c.find.result (sym c.is_some.ensures ∙ c.if-is_some.false) c.find.ensures.absent);
    }
