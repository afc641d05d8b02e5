use Rattle.std.proofs.Common.{◌≡◌, ◌<◌, ◌≤◌, List, Bool, arith, inl, inr, length, subst, sym, ◌∙◌}
use Rattle.std.specs.Prelude.{◌⊎◌, nat_lt, option_copied}
use Rattle.std.proofs.lemmas.Bool.{eqb-true}
use Rattle.cls_base.specs.Languages.{IsGenerated}
use Rattle.cls_base.specs.Pages.{IsPage}
use Rattle.cls_base.specs.Terms.{Applicative}
use Rattle.cls_enum.specs.Requests.{request}
use Rattle.cls_walk.proofs.Attempts.{page-known, page-within}
use Rattle.cls_walk.proofs.attempt.walk_by.Goals as goal
use Rattle.cls_walk.proofs.attempt.walk_by.Goals.{then-len-plan, else-len-plan}

pub page_of-requires : goal.page_of-requires
page_of-requires g c =
    let q = c.args.question in
    let book = g.B.RuleBook.book c.args.book.now in
    let h = c.in_ok-size.ensures.listed book q.max_size c.requires.plan q.last in
    (h.0, h.1)

pub returns-clause-page : goal.returns-clause-page
returns-clause-page g c =
    let q = c.args.question in
    let plan = c.args.plan.now in
    let book = g.B.RuleBook.book c.args.book.now in
    let r = request plan.costs.now (option_copied q.after) q.max_size plan.take in
    let codes = c.walk_sizes.new.walk.codes in
    let s = c.in_ok-size.size in
    let l = q.last in
    let within = c.in_ok-size.ensures.within in
    let m : s ≤ q.max_size = omega (arith, l, within) in
    let h = c.in_ok-size.ensures.listed book q.max_size c.requires.plan l in
    let d : (plan.take < length codes) ⊎ (s ≡ q.max_size) = elim c.if-len-plan.branch [
      | then-len-plan w ↦ inl (omega (arith, w.if-len-plan.true, c.len.ensures))
      | else-len-plan w ↦ inr (eqb-true s q.max_size (sym w.is_known-is ∙ c.if-not-is_known.false))
    ] in
    let k = page-known book r c.requires.some s codes m h d in
    let P : List Applicative → Type 0 = λ es. IsPage (IsGenerated book 0) r es (nat_lt r.take (length codes)) in
    let Q : Bool → Type 0 = λ b. IsPage (IsGenerated book 0) r c.page_of.result.terms b in
    subst Q (sym c.page_of.ensures.more)
    (subst P (sym (c.page_of.ensures.terms h.0 h.1)) k.0)

pub returns-clause-within : goal.returns-clause-within
returns-clause-within g c =
    let q = c.args.question in
    let plan = c.args.plan.now in
    let book = g.B.RuleBook.book c.args.book.now in
    let r = request plan.costs.now (option_copied q.after) q.max_size plan.take in
    let codes = c.walk_sizes.new.walk.codes in
    let s = c.in_ok-size.size in
    let l = q.last in
    let within = c.in_ok-size.ensures.within in
    let m : s ≤ q.max_size = omega (arith, l, within) in
    let h = c.in_ok-size.ensures.listed book q.max_size c.requires.plan l in
    let d : (plan.take < length codes) ⊎ (s ≡ q.max_size) = elim c.if-len-plan.branch [
      | then-len-plan w ↦ inl (omega (arith, w.if-len-plan.true, c.len.ensures))
      | else-len-plan w ↦ inr (eqb-true s q.max_size (sym w.is_known-is ∙ c.if-not-is_known.false))
    ] in
    let k = page-known book r c.requires.some s codes m h d in
    page-within book r plan.positive (omega (arith, c.count.ensures.count, c.count.ensures.some)) q.counted.now.last s q.pool c.count.result plan.upper.now c.count.ensures.count c.requires.plan.upper within k.1 (c.is_within.ensures c.if-not-is_within.false)
