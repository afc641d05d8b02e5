use Rattle.std.proofs.Common.{sym, ap, subst, ◌∙◌, ◌≡◌, slice_get, Some}
use Rattle.std.specs.Prelude.{nat_eq, Contains}
use Rattle.std.specs.List.{position_or_len}
use Rattle.cls_grammar.specs.Numberings.{Numbered}
use Rattle.cls_grammar.proofs.Additions.{has-place}
use Rattle.cls_grammar.proofs.numbering.Numbering.place_of.Goals as goal

pub known_place-requires : goal.known_place-requires
known_place-requires c =
    let i = c.self.inside in
    let p = has-place i.order.items i.places.items c.self.invariant c.args.number (subst (λ (s : Numbered). Contains s.order c.args.number) (sym c.self.view_is) c.requires) in
    (p.0, subst (λ l. slice_get l c.args.number ≡ Some (Some p.0)) (sym c.as_slice.ensures.value) p.1)

pub returns : goal.returns
returns c =
    let i = c.self.inside in
    let p = has-place i.order.items i.places.items c.self.invariant c.args.number (subst (λ (s : Numbered). Contains s.order c.args.number) (sym c.self.view_is) c.requires) in
    let at = subst (λ l. slice_get l c.args.number ≡ Some (Some c.known_place.result)) c.as_slice.ensures.value c.known_place.ensures in
    let there = p.1 in
    let same : c.known_place.result ≡ p.0 = cc in
    same ∙ (p.2 ∙ ap (λ (s : Numbered). position_or_len (nat_eq c.args.number) s.order) c.self.view_is)
