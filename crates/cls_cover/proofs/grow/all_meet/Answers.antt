use Rattle.std.proofs.Common.{ℕ, ◌≡◌, ◌+◌, ◌<◌, ◌⊎◌, inl, inr, length, get_or, ap, sym, ◌∙◌, subst, arith, IsTrue}
use Rattle.cls_cover.specs.declared.cover.Cover.{Cover}
use Rattle.cls_cover.specs.Flags.{bit}
use Rattle.cls_cover.proofs.Lists.{member_contains, get_any}
use Rattle.cls_cover.proofs.Grouping.{item_member}
use Rattle.cls_cover.proofs.Words.{word_there}
use Rattle.cls_cover.proofs.grow.all_meet.Goals as goal

pub has-requires : goal.has-requires
has-requires c =
    let m = item_member c.args.covers.now c.loop-cover.cover-index c.cover-item.result c.loop-cover-test.true c.cover-item.is in
    word_there c.cover-item.result.met _ c.args.front.now.count (c.requires.known c.cover-item.result m).met_wide c.requires.front.more

pub loop-cover-preserved : goal.loop-cover-preserved
loop-cover-preserved c = λ k d l. go k d (split k c.loop-cover.cover-index l)
  where
    split : (k n : ℕ) → k < n + 1 → (k < n) ⊎ (k ≡ n)
    split k n l = grind arith

    go : (k : ℕ) (d : Cover) → (k < c.loop-cover.cover-index) ⊎ (k ≡ c.loop-cover.cover-index) → IsTrue (bit (get_or c.args.covers.now k d).met c.args.front.now.count)
    go k d (inl m) = c.loop-cover.invariant k d m
    go k d (inr e) =
        let read : c.cover-item.result ≡ get_or c.args.covers.now k d = c.cover-item.is ∙ (get_any c.args.covers.now c.loop-cover.cover-index c.cover-item.result d c.loop-cover-test.true ∙ ap (λ q. get_or c.args.covers.now q d) (sym e)) in
        subst (λ (b : Cover). IsTrue (bit b.met c.args.front.now.count)) read (sym c.has.ensures ∙ c.if-not-has.false)

pub returns : goal.returns
returns c = λ _ d m.
    let r = member_contains m in
    let l : r.0 < length c.args.covers.now = r.1 in
    subst (λ (b : Cover). IsTrue (bit b.met c.args.front.now.count)) r.2 (c.loop-cover.invariant r.0 d (omega arith))
