use Rattle.std.proofs.Common.{ℕ, ◌≡◌, ◌+◌, ◌-◌, ◌<◌, length, get_or, set, replicate, sym, subst, ap, ◌∙◌, arith, rules}
use Rattle.std.proofs.lemmas.List.{get_or_default}
use Rattle.cls_base.proofs.Lists.{AreBelow-at}
use Rattle.cls_library.specs.Chains.{AreChained}
use Rattle.cls_library.proofs.Chaining.{chained-none, chained-more}
use Rattle.cls_library.proofs.chains.Chains.new.Goals as goal

pub index-requires : goal.index-requires
index-requires c =
    let l = c.loop-place-test.true in
    let w = c.loop-place.invariant.within in
    let b = AreBelow-at c.args.count c.args.kinds.now (c.loop-place.place - 1) c.requires (omega arith) in
    let e = c.loop-place.invariant.chained.count_firsts in omega arith

pub index_mut-requires-in-loop-place : goal.index_mut-requires-in-loop-place
index_mut-requires-in-loop-place c =
    let l = c.loop-place-test.true in
    let w = c.loop-place.invariant.within in
    let b = AreBelow-at c.args.count c.args.kinds.now (c.loop-place.place - 1) c.requires (omega arith) in
    let e = c.loop-place.invariant.chained.count_firsts in omega arith

pub loop-place-init : goal.loop-place-init
loop-place-init c =
    let kinds = c.args.kinds.now in
    let e : c.in-Ok.end ≡ length kinds = search rules in
    let a : c.in_ok-firsts.firsts.items ≡ replicate c.args.count (length kinds) = c.in_ok-firsts.ensures.items_if_clones_equal (λ y h. h) ∙ ap (λ (x : ℕ). replicate c.args.count x) e in
    let b : c.in_ok-next.next.items ≡ replicate (length kinds) (length kinds) = c.in_ok-next.ensures.items_if_clones_equal (λ y h. h) ∙ ap (λ (x : ℕ). replicate (length kinds) x) e in
    record {
      within = omega (arith, e);
      chained = subst (λ (m : ℕ). AreChained m c.args.count kinds c.in_ok-firsts.firsts.items c.in_ok-next.next.items) (sym e) (chained-none kinds c.args.count c.in_ok-firsts.firsts.items c.in_ok-next.next.items a b);
    }

pub loop-place-preserved : goal.loop-place-preserved
loop-place-preserved c =
    let p = c.loop-place.place - 1 in
    let kinds = c.args.kinds.now in
    let firsts = c.loop-place.firsts.items in
    let next = c.loop-place.next.items in
    let t = c.loop-place-test.true in
    let w = c.loop-place.invariant.within in
    let here : p < length kinds = omega arith in
    let one : c.loop-place.place ≡ p + 1 = omega arith in
    let b : get_or kinds p 0 < c.args.count = AreBelow-at c.args.count kinds p c.requires here in
    let k : get_or kinds p 0 < length firsts = (let e = c.loop-place.invariant.chained.count_firsts in omega arith) in
    let is : c.index.result.now ≡ get_or firsts (get_or kinds p 0) 0 = c.index.ensures ∙ get_or_default firsts (get_or kinds p 0) c.index.result.now 0 k in
    record {
      within = omega arith;
      chained = subst (λ (x : ℕ). AreChained p c.args.count kinds (set firsts (get_or kinds p 0) p) (set next p x)) (sym is)
          (chained-more p c.args.count kinds firsts next (subst (λ (m : ℕ). AreChained m c.args.count kinds firsts next) one c.loop-place.invariant.chained) here b);
    }

pub returns : goal.returns
returns c =
    let zero_is : c.loop-place.place ≡ 0 = (let f = c.loop-place-test.false in omega arith) in
    subst (λ (m : ℕ). AreChained m c.args.count c.args.kinds.now c.loop-place.firsts.items c.loop-place.next.items) zero_is c.loop-place.invariant.chained
