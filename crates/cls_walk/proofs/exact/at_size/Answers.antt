use Rattle.std.proofs.Common.{◌≡◌, ◌-◌, ◌<◌, length, inl, inr, arith}
use Rattle.std.specs.Prelude.{◌⊎◌}
use Rattle.std.proofs.lemmas.Result.{err_from_is_err_and}
use Rattle.cls_enum.proofs.FillSteps.{IfTooMany-weaker}
use Rattle.cls_walk.specs.Exact.{asked}
use Rattle.cls_walk.proofs.ExactCounts.{exceeds-at, exceeds-next, found-at, made-more, searched-next}
use Rattle.cls_walk.proofs.exact.at_size.Goals as goal
use Rattle.cls_walk.proofs.exact.at_size.Goals.{then-not-going-via-then-not-going, then-not-going-via-else-not-going+then-size-search}

pub returns-in_err-own-clause-over : goal.returns-in_err-own-clause-over
returns-in_err-own-clause-over c = λ book h s.
    let plan = c.args.plan.now in
    let q = c.args.search in
    let some : 0 < length book = omega (arith, h.width, h.some) in
    let p = err_from_is_err_and c.from_residual-in_err-own.result c.from_residual-in_err-own.ensures.1 in
    rw (p.1, p.2) (IfTooMany-weaker _ _ _
    (λ a. exceeds-at book (asked plan q) plan.positive c.args.size c.args.made (q.pool - c.args.made) q.pool c.args.walk.now some c.requires.max s a (omega arith))
    (c.in_err-own.ensures.over book h.guide))

pub returns-then-not-going-clause-found : goal.returns-then-not-going-clause-found
returns-then-not-going-clause-found c = λ book h s none.
    let plan = c.args.plan.now in
    let q = c.args.search in
    let old = c.args.walk.now in
    let new = c.list_due.new.walk in
    let some : 0 < length book = omega (arith, h.width, h.some) in
    let full = c.in_ok-going.ensures.back.full in
    let known : (plan.take < length new.codes) ⊎ (c.args.size ≡ q.max_size) = elim c.then-not-going.branch [
      | then-not-going-via-then-not-going w ↦ inl (full w.if-not-going.true)
      | then-not-going-via-else-not-going+then-size-search w ↦ inr w.if-size-search.true
    ] in
    found-at book (asked plan q) plan.positive c.requires.some c.args.size c.args.made c.in_ok-own.own q.pool old new c.in_ok-going.going some c.requires.max s
    (c.in_ok-going.ensures.listed book h) full known (c.in_ok-own.ensures.exact book h.guide)
    (omega (arith, c.requires.within, c.in_ok-own.ensures.within))

pub returns-in_err-total-clause-over : goal.returns-in_err-total-clause-over
returns-in_err-total-clause-over c = λ book h s.
    let plan = c.args.plan.now in
    let q = c.args.search in
    let r = asked plan q in
    let going = c.in_ok-going.going in
    let back = c.in_ok-going.ensures.back in
    let some : 0 < length book = omega (arith, h.width, h.some) in
    let made = made-more book r plan.positive c.args.size 0 c.args.made c.in_ok-own.own some s.made (c.in_ok-own.ensures.exact book h.guide) in
    let p = err_from_is_err_and c.from_residual-in_err-total.result c.from_residual-in_err-total.ensures.1 in
    let less : c.args.size < q.max_size = omega (arith, c.requires.max, c.if-size-search.false) in
    rw (p.1, p.2) (IfTooMany-weaker _ _ _
    (λ a. exceeds-next book r plan.positive c.args.size c.args.made q.pool c.args.walk.now c.list_due.new.walk going less s (c.in_ok-going.ensures.listed book h) c.if-not-going.false (back.few c.if-not-going.false) a)
    (c.in_err-total.ensures.over book h made))

pub returns-clause-searched : goal.returns-clause-searched
returns-clause-searched c = λ book h s.
    let plan = c.args.plan.now in
    let q = c.args.search in
    let r = asked plan q in
    let back = c.in_ok-going.ensures.back in
    let some : 0 < length book = omega (arith, h.width, h.some) in
    let made = made-more book r plan.positive c.args.size 0 c.args.made c.in_ok-own.own some s.made (c.in_ok-own.ensures.exact book h.guide) in
    searched-next book r plan.positive c.args.size c.args.made c.in_ok-total.total c.args.walk.now c.list_due.new.walk c.in_ok-going.going s
    (c.in_ok-going.ensures.listed book h) c.if-not-going.false back.code (back.few c.if-not-going.false)
    (c.in_ok-total.ensures.made book h made)
