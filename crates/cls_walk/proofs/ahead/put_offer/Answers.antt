use Rattle.std.proofs.Common.{ℕ, ◌≤◌, ◌<◌, List, length, get_or, ap, sym, subst, arith}
use Rattle.cls_walk.specs.Openings.{no_opening, ArePut, IsBelow, IsGathered}
use Rattle.cls_walk.specs.declared.opening.Opening.{Opening}
use Rattle.std.proofs.lemmas.List.{get_or_read}
use Rattle.cls_walk.proofs.PutOffers.{here-at, put-at}
use Rattle.cls_walk.proofs.ahead.put_offer.Goals as goal
use Rattle.cls_walk.proofs.ahead.put_offer.Goals.{then-place-len-via-then-place-len, then-place-len-via-else-place-len+then-is_before}

-- those before the place, and the one there
before-place : (c : goal.In_ok-insert) → (i : ℕ) → c.args.first ≤ i → i < c.place_from-place.result → IsBelow (get_or c.args.offers.now.items i no_opening) c.args.opening.component c.args.opening.count
before-place c =
    let P : List Opening → Type 0 = λ os. (i : ℕ) → c.args.first ≤ i → i < c.place_from-place.result → IsBelow (get_or os i no_opening) c.args.opening.component c.args.opening.count in
    subst P c.as_slice-3.ensures.value c.place_from-place.ensures.before

behind-place : (c : goal.In_ok-insert) → let p = c.place_from-place.result in let os = c.args.offers.now.items in p < length os → IsBelow c.args.opening (get_or os p no_opening).component (get_or os p no_opening).count
behind-place c l =
    let os = c.args.offers.now.items in
    let p = c.place_from-place.result in
    elim c.then-place-len.branch [
      | then-place-len-via-then-place-len w ↦ absurd (let e = w.if-place-len.true in let n = c.len.ensures in omega (arith, e, n, l))
      | then-place-len-via-else-place-len+then-is_before w ↦
          let P : Opening → Type 0 = λ z. IsBelow c.args.opening z.component z.count in
          subst P (get_or_read os p _ l w.index.ensures no_opening) (w.is_before.ensures.before w.if-is_before.true)
    ]

within-place : (c : goal.In_ok-insert) → c.place_from-place.result ≤ length c.args.offers.now.items
within-place c = let e = ap (λ (os : List Opening). length os) c.as_slice-3.ensures.value in let w = c.place_from-place.ensures.within in omega (arith, e, w)

pub returns-in_ok-insert-clause-put : goal.returns-in_ok-insert-clause-put
returns-in_ok-insert-clause-put c =
    let P : List Opening → Type 0 = λ os. ArePut c.args.first c.args.offers.now.items os in
    subst P (sym c.in_ok-insert.ensures.items) (put-at c.args.first c.args.offers.now.items c.requires.rising c.args.opening c.place_from-place.result c.place_from-place.ensures.from (within-place c) (before-place c) (behind-place c))

pub returns-in_ok-insert-clause-here : goal.returns-in_ok-insert-clause-here
returns-in_ok-insert-clause-here c =
    let P : List Opening → Type 0 = λ os. IsGathered c.args.first os c.args.opening.component c.args.opening.count in
    subst P (sym c.in_ok-insert.ensures.items) (here-at c.args.first c.args.offers.now.items c.requires.rising c.args.opening c.place_from-place.result c.place_from-place.ensures.from (within-place c) (before-place c) (behind-place c))
