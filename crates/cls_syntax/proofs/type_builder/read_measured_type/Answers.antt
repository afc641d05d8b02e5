-- What the builder reads is the whole of a type.
use Rattle.std.proofs.Common.{◌≡◌, ℕ, List, IsTrue, IsSome, IfSome, OnSome, length, refl, ap, sym, ◌∙◌, subst}
use Rattle.std.specs.Prelude.{false, Option, Some, None}
use Rattle.std.specs.Option.{option_map}
use Rattle.cls_base.specs.Schemas.{OpenType}
use Rattle.cls_lexer.specs.Names.{number_of}
use Rattle.cls_lexer.specs.Words.{Word, words}
use Rattle.cls_lexer.specs.declared.token.Token.{Token}
use Rattle.cls_syntax.specs.ClosedTypes.{opened, HasNoDollar, Spells}
use Rattle.cls_syntax.specs.MeasuredTypes.{measured_type}
use Rattle.cls_syntax.specs.declared.measured.MeasuredTy.{MeasuredTy}
use Rattle.cls_syntax.specs.Numberings.{numbered_reading}
use Rattle.cls_syntax.specs.SchemaReading.{operand, whole, empty_level}
use Rattle.cls_syntax.specs.Spans.{is_whole, type_in}
use Rattle.cls_syntax.specs.TypeReading.{type_front}
use Rattle.cls_syntax.specs.TypePrinting.{HasNamesBelow}
use Rattle.cls_syntax.specs.TypeSchemas.{type_schema, with_constructors}
use Rattle.cls_syntax.proofs.Numbering.{numbered_is}
use Rattle.cls_syntax.proofs.ReadTypes.{read_below}
use Rattle.cls_syntax.proofs.ClosedReading.{closed_is}
use Rattle.cls_syntax.proofs.TypeSpans.{spelled_words}
use Rattle.cls_syntax.proofs.WholeReadings.{whole_reading, closed_reading}
use Rattle.cls_syntax.proofs.type_builder.read_measured_type.Goals as goal

-- what the builder makes of the tokens, which name no variable
abbrev reading : (cs vs : List (List ℕ)) (ls : List Token) → Option OpenType
reading cs vs ls = numbered_reading (λ _. None) cs vs false (operand whole empty_level) ls

made : (cs vs : List (List ℕ)) (ls : List Token) (v : List ℕ → ℕ) → IsTrue (is_whole (type_front (words ls))) → HasNoDollar (words ls)
    → reading cs vs ls ≡ Some (type_schema (number_of (with_constructors cs (words ls))) v (type_in (words ls)))
made cs vs ls v spelled free =
    let none : Option OpenType = None in
    numbered_is (λ (n : ℕ). none) ls cs vs ∙ closed_is (number_of (with_constructors cs (words ls))) v (λ (x : List ℕ). none) ls (type_in (words ls)) (spelled_words (words ls) spelled) free

-- the type that was read
abbrev tree_of : Option MeasuredTy → Option OpenType
tree_of o = option_map (λ (ty : MeasuredTy). opened (measured_type ty)) o

of_read : (P : MeasuredTy → Type 0) (Q : Type 0) (o : Option MeasuredTy) (r : Option OpenType) → tree_of o ≡ r → OnSome o Q → ((ty : MeasuredTy) → r ≡ Some (opened (measured_type ty)) → Q → P ty) → IfSome o P
of_read P Q None r e q f = tt
of_read P Q (Some ty) r e q f = f ty (sym e) q

is_read : (o : Option MeasuredTy) (t : OpenType) → tree_of o ≡ Some t → IsSome o
is_read None t e = cc
is_read (Some ty) t e = refl

spells : (cs vs names : List (List ℕ)) (ls : List Token) (ty : MeasuredTy) → reading cs vs ls ≡ Some (opened (measured_type ty)) → names ≡ with_constructors cs (words ls) → Spells (number_of names) (type_in (words ls)) (measured_type ty)
spells cs vs names ls ty e con = λ v.
    let is : Path (Option OpenType) (Some (opened (measured_type ty))) (Some (type_schema (number_of (with_constructors cs (words ls))) v (type_in (words ls)))) = sym e ∙ made cs vs ls v (whole_reading (λ _. None) ls cs vs _ e) (closed_reading ls cs vs _ e) in
    let same : opened (measured_type ty) ≡ type_schema (number_of (with_constructors cs (words ls))) v (type_in (words ls)) = cc in
    rw (con) same

names_below : (cs vs names : List (List ℕ)) (ls : List Token) (ty : MeasuredTy) → reading cs vs ls ≡ Some (opened (measured_type ty)) → names ≡ with_constructors cs (words ls) → HasNamesBelow (length names) (measured_type ty)
names_below cs vs names ls ty e con =
    let text = type_in (words ls) in
    let said = spelled_words (words ls) (whole_reading (λ _. None) ls cs vs _ e) in
    let all = con ∙ ap (λ (ws : List Word). with_constructors cs ws) said in
    subst (λ (table : List (List ℕ)). HasNamesBelow (length table) (measured_type ty)) (sym all)
    (read_below cs text (measured_type ty) (subst (λ (ws : List Word). HasNoDollar ws) said (closed_reading ls cs vs _ e))
    (subst (λ (table : List (List ℕ)). Spells (number_of table) text (measured_type ty)) all (spells cs vs names ls ty e con)))

pub returns-clause-whole : goal.returns-clause-whole
returns-clause-whole c =
    of_read _ _ c.in_ok-build.field-0 _ c.in_ok-build.ensures.tree c.in_ok-build.ensures.constructors
    (λ ty e con. whole_reading (λ _. None) c.args.tokens.now _ _ _ e)

pub returns-clause-closed : goal.returns-clause-closed
returns-clause-closed c =
    of_read _ _ c.in_ok-build.field-0 _ c.in_ok-build.ensures.tree c.in_ok-build.ensures.constructors
    (λ ty e con. closed_reading c.args.tokens.now _ _ _ e)

pub returns-clause-some : goal.returns-clause-some
returns-clause-some c = λ spelled free. is_read c.in_ok-build.field-0 _ (c.in_ok-build.ensures.tree ∙ made c.args.constructors.now _ c.args.tokens.now (λ (x : List ℕ). 0) spelled free)

pub returns-clause-ty : goal.returns-clause-ty
returns-clause-ty c =
    of_read _ _ c.in_ok-build.field-0 _ c.in_ok-build.ensures.tree c.in_ok-build.ensures.constructors
    (λ ty e con. spells c.args.constructors.now _ c.build.new.constructors c.args.tokens.now ty e con)

pub returns-clause-held : goal.returns-clause-held
returns-clause-held c =
    of_read _ _ c.in_ok-build.field-0 _ c.in_ok-build.ensures.tree c.in_ok-build.ensures.constructors
    (λ ty e con. names_below c.args.constructors.now _ c.build.new.constructors c.args.tokens.now ty e con)
