use Rattle.std.proofs.Common.{List, Bool, length, subst, sym}
use Rattle.std.specs.Prelude.{nat_lt}
use Rattle.cls_base.specs.Languages.{IsGenerated}
use Rattle.cls_base.specs.Pages.{IsPage}
use Rattle.cls_base.specs.Terms.{Applicative}
use Rattle.cls_walk.specs.Exact.{asked}
use Rattle.cls_walk.proofs.Attempts.{page-known}
use Rattle.cls_walk.proofs.exact.by_plan.Goals as goal

pub returns-clause-page : goal.returns-clause-page
returns-clause-page c = λ book h.
    let r = asked c.args.plan.now c.args.search in
    let f = c.in_ok-by_sizes.ensures.found book h c.if-not-branch.false in
    let codes = c.by_sizes.new.walk.codes in
    let due = f.1.due in
    let k = page-known book r c.requires.some f.0 codes f.1.within due f.1.known in
    let P : List Applicative → Type 0 = λ es. IsPage (IsGenerated book 0) r es (nat_lt r.take (length codes)) in
    let Q : Bool → Type 0 = λ b. IsPage (IsGenerated book 0) r c.page_of.result.terms b in
    subst Q (sym c.page_of.ensures.more)
    (subst P (sym (c.page_of.ensures.terms due.0 due.1)) k.0)

pub returns-clause-within : goal.returns-clause-within
returns-clause-within c = λ book h. (c.in_ok-by_sizes.ensures.found book h c.if-not-branch.false).1.fits
