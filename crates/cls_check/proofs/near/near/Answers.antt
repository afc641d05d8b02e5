use Rattle.std.proofs.Common.{ℕ, ◌++◌, [], length, get_or, take, sym, ap, ◌∙◌, arith, List}
use Rattle.std.specs.List.{flat_map}
use Rattle.std.proofs.lemmas.List.{get_or_default, take_more, flat_map_more}
use Rattle.cls_base.proofs.Lists.{AreBelow-at}
use Rattle.cls_check.specs.Near.{at}
use Rattle.cls_check.proofs.near.near.Goals as goal

pub index-requires : goal.index-requires
index-requires c = let m = AreBelow-at (length c.args.index.now.under.items) c.args.set.now c.loop-number.number-index c.requires c.loop-number-test.true in omega arith

pub loop-number-preserved : goal.loop-number-preserved
loop-number-preserved c =
    let under = c.args.index.now.under.items in
    let s = c.args.set.now in
    let i = c.loop-number.number-index in
    c.in_ok-extend_from_slice-2.ensures.items
    ∙ (ap (λ (q : List ℕ). q ++ c.as_slice-in-loop-number.result.now) c.loop-number.invariant
    ∙ (ap (λ (q : List ℕ). (c.args.index.now.small ++ flat_map (at under) (take i s)) ++ q) (c.as_slice-in-loop-number.ensures ∙ (c.index.ensures ∙ get_or_default under (get_or s i 0) c.index.result.now [] (let m = AreBelow-at (length under) s i c.requires c.loop-number-test.true in omega arith)))
    ∙ (flat_map_more (at under) c.args.index.now.small (take i s) (get_or s i 0)
    ∙ ap (λ (t : List ℕ). c.args.index.now.small ++ flat_map (at under) t) (sym (take_more s i 0 c.loop-number-test.true)))))
