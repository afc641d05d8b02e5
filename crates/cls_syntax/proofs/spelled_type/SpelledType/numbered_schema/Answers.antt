use Rattle.std.proofs.Common.{◌≡◌, Some, None, sym, ap, subst, ◌∙◌}
use Rattle.std.specs.Prelude.{Option, OnSome}
use Rattle.std.specs.Option.{option_map}
use Rattle.cls_base.specs.Schemas.{OpenType, schema_of, variable}
use Rattle.cls_base.specs.declared.schema.Schema.{Schema}
use Rattle.cls_lexer.specs.Words.{words}
use Rattle.cls_lexer.specs.Names.{number_of}
use Rattle.cls_syntax.specs.Spans.{type_in}
use Rattle.cls_syntax.specs.TypeSchemas.{type_schema, with_constructors, with_variables}
use Rattle.cls_syntax.proofs.Numbering.{numbered_is}
use Rattle.cls_syntax.proofs.TypeSpans.{spelled_words}
use Rattle.cls_syntax.proofs.SchemaImages.{schema_is}
use Rattle.cls_syntax.proofs.spelled_type.SpelledType.numbered_schema.Goals as goal

pub unreachable-requires : goal.unreachable-requires
unreachable-requires c =
    let ls = c.args.self.now.tokens.now in
    let said = spelled_words (words ls) c.args.self.now.spelled in
    let constructors = number_of (with_constructors c.args.constructors.now (words ls)) in
    let variables = number_of (with_variables c.args.variables.now (words ls)) in
    let made = numbered_is (λ v. Some (variable v)) ls c.args.constructors.now c.args.variables.now ∙ schema_is constructors variables ls (type_in (words ls)) said in
    let nothing : Path (Option OpenType) None (Some (type_schema constructors variables (type_in (words ls)))) = sym (ap (option_map schema_of) c.in-None.is) ∙ (c.in_ok-schema.ensures.tree ∙ made) in
    cc

pub returns-clause-schema : goal.returns-clause-schema
returns-clause-schema c =
    let ls = c.args.self.now.tokens.now in
    let said = spelled_words (words ls) c.args.self.now.spelled in
    let constructors = number_of (with_constructors c.args.constructors.now (words ls)) in
    let variables = number_of (with_variables c.args.variables.now (words ls)) in
    let made = numbered_is (λ v. Some (variable v)) ls c.args.constructors.now c.args.variables.now ∙ schema_is constructors variables ls (type_in (words ls)) said in
    let is : Path (Option OpenType) (Some (schema_of c.in-Some.schema)) (Some (type_schema constructors variables (type_in (words ls)))) = sym (ap (option_map schema_of) c.in-Some.is) ∙ (c.in_ok-schema.ensures.tree ∙ made) in
    let con = subst (λ (o : Option Schema). OnSome o (c.build.new.constructors ≡ with_constructors c.args.constructors.now (words ls))) c.in-Some.is c.in_ok-schema.ensures.constructors in
    let var = subst (λ (o : Option Schema). OnSome o (c.build.new.variables ≡ with_variables c.args.variables.now (words ls))) c.in-Some.is c.in_ok-schema.ensures.variables in
    let same : schema_of c.in-Some.schema ≡ type_schema constructors variables (type_in (words ls)) = cc in
    rw (con, var) same
