use Rattle.std.proofs.Common.{ℕ, List, [], ◌∷◌, ◌++◌, sym, ap, ◌∙◌, map, subst}
use Rattle.cls_base.specs.Ty.{type_of}
use Rattle.cls_base.specs.Types.{ClosedType}
use Rattle.cls_lexer.specs.Names.{number_of}
use Rattle.cls_syntax.specs.ClosedTypes.{AreSpelled}
use Rattle.cls_syntax.specs.SpelledTypes.{types_text}
use Rattle.cls_repo.specs.Written.{draft_of}
use Rattle.cls_syntax.proofs.ClosedLists.{spelled_some}
use Rattle.cls_repo.proofs.Putting.{kind_put}
use Rattle.cls_repo.proofs.draft.Draft.push_kind.Goals as goal

pub add-requires-clause-nonempty : goal.add-requires-clause-nonempty
add-requires-clause-nonempty c =
    let ts = types_text c.args.spelled.now in
    λ none. spelled_some (number_of c.types.new.names) ts (map type_of c.in_ok-types.field-0.items) c.in_ok-types.ensures.types (sym c.new-choices.ensures ∙ none)

pub returns-clause-put : goal.returns-clause-put
returns-clause-put c =
    let old = c.args.self.now in
    let x = c.args.variable.now in
    let ts = types_text c.args.spelled.now in
    let types = map type_of c.in_ok-types.field-0.items in
    let table = c.in_ok-types.ensures.table in
    let closed = c.requires.closed in
    let kinds = c.in_ok-add.ensures.added ∙ ap (λ (us : List ClosedType). old.kinds ++ (c.in_ok-name.name.0, us) ∷ []) c.new-choices.ensures in
    record {
      types = types;
      spelled = subst (λ (names : List (List ℕ)). AreSpelled (number_of names) ts types) table c.in_ok-types.ensures.types;
      put = kind_put (draft_of old) c.types.new.names c.number_name.new.names x ts c.in_ok-name.name.0 types c.add.new.self closed table c.in_ok-name.ensures.table c.in_ok-name.ensures.number kinds;
    }
