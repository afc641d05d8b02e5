use Rattle.std.proofs.Common.{ℕ, List, sym, ap, ◌∙◌, subst, take}
use Rattle.cls_syntax.specs.Forms.{type_parts, constructors_named}
use Rattle.cls_syntax.specs.SpelledTypes.{type_text}
use Rattle.cls_query.specs.Queries.{type_in, with_names}
use Rattle.cls_query.proofs.Numbering.{spelled_is, names_of_type, type_stays, old_stays, grown_texts, IsGrown}
use Rattle.cls_query.proofs.build.both_types.Goals as goal

pub returns-in-Ok-clause-lower : goal.returns-in-Ok-clause-lower
returns-in-Ok-clause-lower c =
    let s = type_text c.args.lower.now in
    let t = type_text c.args.upper.now in
    let old = c.args.constructors.now in
    let first = c.in_ok-lower.ensures.constructors ∙ names_of_type old s in
    let second = c.in-Ok.ensures.constructors ∙ names_of_type _ t in
    let joined = second ∙ ap (λ (names : List (List ℕ)). with_names names (type_parts t)) first in
    spelled_is _ s _ c.in_ok-lower.ensures.ty
    ∙ (ap (λ (names : List (List ℕ)). type_in names s) first
    ∙ sym (ap (λ (names : List (List ℕ)). type_in names s) joined ∙ type_stays old (constructors_named (type_parts t)) s))

pub returns-in-Ok-clause-upper : goal.returns-in-Ok-clause-upper
returns-in-Ok-clause-upper c = spelled_is _ (type_text c.args.upper.now) _ c.in-Ok.ensures.ty

pub returns-in-Err-clause-stay : goal.returns-in-Err-clause-stay
returns-in-Err-clause-stay c =
    let s = type_text c.args.lower.now in
    let old = c.args.constructors.now in
    let first = c.in_ok-lower.ensures.constructors ∙ names_of_type old s in
    let grown : IsGrown old c.measured_ty.new.constructors = subst (λ (new : List (List ℕ)). IsGrown old new) (sym first) (grown_texts old (constructors_named (type_parts s))) in
    c.cut.ensures.kept ∙ ((λ i. take (c.len-count.ensures.count i) (c.in-Err.ensures.constructors_stay i)) ∙ old_stays old c.measured_ty.new.constructors grown)
