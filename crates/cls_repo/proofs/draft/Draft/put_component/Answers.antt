use Rattle.std.proofs.Common.{List, [], ◌∷◌, ◌++◌, length, length-append, ap, ◌∙◌, map, arith}
use Rattle.cls_base.specs.Schemas.{schema_of}
use Rattle.cls_base.proofs.Lists.{map_last}
use Rattle.cls_syntax.specs.SpelledTypes.{type_text}
use Rattle.cls_repo.specs.declared.draft.Component.{Component}
use Rattle.cls_repo.specs.Written.{draft_of, component_of}
use Rattle.cls_repo.proofs.Putting.{component_put, with_new}
use Rattle.cls_repo.proofs.draft.Draft.put_component.Goals as goal

pub returns-in-Ok-clause-put : goal.returns-in-Ok-clause-put
returns-in-Ok-clause-put c =
    let old = c.args.self.now in
    let x = c.args.component.now in
    let made : Component = record { schema = c.in-Ok.schema; line = c.args.line; template = c.in_ok-template.template; cost = 1 } in
    component_put (draft_of old) c.schema.new.constructors c.schema.new.variables c.number_name.new.names c.args.line x (type_text c.args.spelled) (schema_of c.in-Ok.schema) c.in_ok-template.template (map component_of c.push_reserved.new.self.items)
    c.in-Ok.ensures.constructors c.in-Ok.ensures.variables
    (c.in_ok-number_name.ensures.table ∙ with_new old.component_names x c.requires)
    c.in-Ok.ensures.schema c.in_ok-template.ensures
    (ap (map component_of) (c.push_reserved.ensures.items ∙ ap (λ (cs : List Component). cs ++ made ∷ []) c.in_ok-reserve.ensures.items) ∙ map_last component_of old.components.items made)

pub invariant_of-self-in-Ok : goal.invariant_of-self-in-Ok
invariant_of-self-in-Ok c =
    let old = c.args.self.now in
    let x = c.args.component.now in
    let made : Component = record { schema = c.in-Ok.schema; line = c.args.line; template = c.in_ok-template.template; cost = 1 } in
    let components = ap length (c.push_reserved.ensures.items ∙ ap (λ (cs : List Component). cs ++ made ∷ []) c.in_ok-reserve.ensures.items) ∙ length-append old.components.items (made ∷ []) in
    let names = ap length (c.in_ok-number_name.ensures.table ∙ with_new old.component_names x c.requires) ∙ length-append old.component_names (x ∷ []) in
    let before = old.counted in
    record { counted = omega (arith, components, names, before); filtered = old.filtered }
