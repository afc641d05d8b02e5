use Rattle.std.proofs.Common.{ℕ, ◌≡◌, ◌<◌, length, get_or, subst, sym, ap, arith, List, []}
use Rattle.std.proofs.lemmas.List.{length-set}
use Rattle.std.proofs.lemmas.List.Elements.{All-get_or}
use Rattle.std.specs.Prelude.{Contains}
use Rattle.cls_base.specs.Lists.{AreBelow}
use Rattle.cls_check.specs.Layers.{AllBelow}
use Rattle.cls_check.specs.Near.{AreIndexed}
use Rattle.cls_check.proofs.Indexing.{index_small, index_under}
use Rattle.cls_check.proofs.Sets.{below_at}
use Rattle.cls_check.proofs.near.index_of.Goals as goal
use Rattle.cls_check.proofs.near.index_of.Goals.{in-Some+in_ok-put_under-in-Some+in_ok-put_under-in-Some-2, in-None+in_ok-put-in-None}

-- a number of the set that the loop looks at
below_here : (count : ℕ) (layer : List (List ℕ)) (k : ℕ) (s : List ℕ) → AllBelow count layer → k < length layer → s ≡ get_or layer k [] → (a : ℕ) → Contains s a → a < count
below_here count layer k s all l e a c = below_at count s a (subst (λ (q : List ℕ). AreBelow count q) (sym e) (All-get_or (AreBelow count) layer k [] l all)) c

stands_here : (layer : List (List ℕ)) (k : ℕ) (s : List ℕ) → s ≡ get_or layer k [] → (a : ℕ) → Contains s a → Contains (get_or layer k []) a
stands_here layer k s e a c = subst (λ (q : List ℕ). Contains q a) e c

pub put_under-requires : goal.put_under-requires
put_under-requires c =
    let l : c.loop-k.k < length c.args.layer.now = omega arith in
    let m = below_here c.args.count c.args.layer.now c.loop-k.k c.get.result.now c.requires l c.get.ensures c.in-Some.a c.in-Some.ensures.0 in
    let e = c.loop-k.invariant.counted in omega arith

pub put_under-requires-in-Some : goal.put_under-requires-in-Some
put_under-requires-in-Some c =
    let l : c.loop-k.k < length c.args.layer.now = omega arith in
    let m = below_here c.args.count c.args.layer.now c.loop-k.k c.get.result.now c.requires l c.get.ensures c.in-Some.b c.in-Some.ensures.1 in
    let e = c.loop-k.invariant.counted in
    omega (arith, ap (λ (q : List (List ℕ)). length q) c.in_ok-put_under-in-Some.ensures, length-set {A = List ℕ})

pub loop-k-preserved : goal.loop-k-preserved
loop-k-preserved c =
    let layer = c.args.layer.now in
    let k = c.loop-k.k in
    let s = c.get.result.now in
    let l : k < length layer = omega arith in
    let e = c.loop-k.invariant.counted in
    elim c.match-two_of.branch [
      | in-Some+in_ok-put_under-in-Some+in_ok-put_under-in-Some-2 w ↦ (
          let la = below_here c.args.count layer k s c.requires l c.get.ensures w.in-Some.a w.in-Some.ensures.0 in
          let lb = below_here c.args.count layer k s c.requires l c.get.ensures w.in-Some.b w.in-Some.ensures.1 in
          rw (w.under-is, w.small-is) (index_under c.args.count layer k c.loop-k.under.items c.loop-k.small c.loop-k.invariant l w.in-Some.a w.in-Some.b (omega arith) (omega arith)
          (stands_here layer k s c.get.ensures w.in-Some.a w.in-Some.ensures.0)
          (stands_here layer k s c.get.ensures w.in-Some.b w.in-Some.ensures.1)
          w.in-Some.ensures.2 w.put_under.new.under.items w.put_under-in-Some.new.under.items w.in_ok-put_under-in-Some.ensures w.in_ok-put_under-in-Some-2.ensures))
      | in-None+in_ok-put-in-None w ↦ rw (w.under-is, w.small-is) (index_small c.args.count layer k c.loop-k.under.items c.loop-k.small c.loop-k.invariant l w.put.new.self w.in_ok-put-in-None.ensures)
    ]

pub returns : goal.returns
returns c = subst (λ (k : ℕ). AreIndexed c.args.count c.args.layer.now k c.loop-k.under.items c.loop-k.small) (let a = c.loop-k.auto.k-end in let b = c.loop-k-test.false in let e : c.loop-k.k ≡ length c.args.layer.now = omega arith in e) c.loop-k.invariant
