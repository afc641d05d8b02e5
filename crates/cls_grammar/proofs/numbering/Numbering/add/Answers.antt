use Rattle.std.proofs.Common.{arith, sym, ap, subst, ◌∙◌, ◌≡◌, ◌<◌, ◌++◌, ◌∷◌, [], length, set, slice_get, ℕ, Some, None}
use Rattle.std.specs.Prelude.{nat_eq}
use Rattle.indexmap.specs.IndexSet.{insert_key}
use Rattle.cls_grammar.specs.Numberings.{Numbered, HasPlaces}
use Rattle.cls_grammar.proofs.Additions.{order-short, add-old, add-new, add-places}
use Rattle.cls_grammar.proofs.numbering.Numbering.add.Goals as goal

pub overflow_cast-place : goal.overflow_cast-place
overflow_cast-place c =
    let i = c.self.inside in
    omega (arith, c.len-place.ensures, i.order.ok.0, order-short i.order.items i.places.items c.self.invariant, c.self.invariant.few)

pub invariant_of-self-then-is_new : goal.invariant_of-self-then-is_new
invariant_of-self-then-is_new c =
    let i = c.self.inside in
    let new = subst (λ l. slice_get l c.args.number ≡ Some None) c.as_slice.ensures.value (c.is_new.ensures.0 c.if-is_new.true) in
    let count : length i.order.items ≡ c.len-place.result = omega (arith, c.len-place.ensures, i.order.ok.0) in
    let P : ℕ → Type 0 = λ n. HasPlaces (i.order.items ++ c.args.number ∷ []) (set i.places.items c.args.number (Some n)) in
    let added = subst P count (add-places i.order.items i.places.items c.self.invariant c.args.number new) in
    subst (λ l. HasPlaces l (set i.places.items c.args.number (Some c.len-place.result))) (sym c.in_ok-push.ensures.items) added

pub returns-in_ok-push-clause-order : goal.returns-in_ok-push-clause-order
returns-in_ok-push-clause-order c =
    let i = c.self.inside in
    let new = subst (λ l. slice_get l c.args.number ≡ Some None) c.as_slice.ensures.value (c.is_new.ensures.0 c.if-is_new.true) in
    c.in_ok-push.ensures.items ∙ (add-new i.order.items i.places.items c.self.invariant c.args.number new ∙ ap (λ (s : Numbered). insert_key nat_eq s.order c.args.number) c.self.view_is)

pub returns-else-is_new-clause-order : goal.returns-else-is_new-clause-order
returns-else-is_new-clause-order c =
    let i = c.self.inside in
    let less : c.args.number < length i.places.items = omega (arith, c.requires, ap (λ (s : Numbered). s.bound) c.self.view_is) in
    let old = add-old i.order.items i.places.items c.self.invariant c.args.number less (λ e. let t = c.is_new.ensures.1 (subst (λ l. slice_get l c.args.number ≡ Some None) (sym c.as_slice.ensures.value) e) in let f = c.if-is_new.false in cc) in
    ap (λ (s : Numbered). s.order) (sym c.self.view_is) ∙ (old ∙ ap (λ (s : Numbered). insert_key nat_eq s.order c.args.number) c.self.view_is)
