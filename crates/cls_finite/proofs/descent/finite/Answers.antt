use Rattle.std.proofs.Common.{sym, ◌∙◌, ap, subst, arith, ℕ, List}
use Rattle.cls_base.specs.Languages.{IsGenerated}
use Rattle.cls_term.specs.Costs.{cost_of}
use Rattle.cls_base.specs.declared.limits.TheConstants.{MAX_FINITE_SIZE}
use Rattle.cls_finite.specs.declared.sizes.TheConstants.{SIZE_CAP}
use Rattle.cls_finite.specs.Descents.{begun, IsKept, IsCapped}
use Rattle.cls_finite.specs.Finiteness.{HasPositiveCosts, IsUnbounded}
use Rattle.cls_finite.specs.Outcomes.{IsOutcome}
use Rattle.cls_finite.proofs.Advancing.{unbounded-not_over}
use Rattle.cls_finite.proofs.Descending.{kept-begun}
use Rattle.cls_finite.proofs.Greatest.{capped-bounded}
use Rattle.cls_finite.proofs.descent.finite.Goals as goal

pub loop-descent-init : goal.loop-descent-init
loop-descent-init g c =
    let book = g.B.RuleBook.book c.args.book.now in
    let flags = c.flags.inside.items.items in
    subst (IsKept SIZE_CAP (cost_of c.args.costs.now) book flags) (sym (c.in_ok-descent.ensures ∙ ap begun c.count.ensures.count)) (kept-begun SIZE_CAP (cost_of c.args.costs.now) book flags (omega (arith, c.count.ensures.count, c.count.ensures.some)))

pub advance-requires-clause-costs : goal.advance-requires-clause-costs
advance-requires-clause-costs g c = subst (λ (l : List ℕ). HasPositiveCosts (g.B.RuleBook.book c.args.book.now) (cost_of l)) (sym c.as_slice.ensures) c.requires

pub returns-in-ComesRound-clause-over : goal.returns-in-ComesRound-clause-over
returns-in-ComesRound-clause-over g c =
    let book = g.B.RuleBook.book c.args.book.now in
    let round = subst (IsOutcome SIZE_CAP (cost_of c.as_slice.result.now) book c.in_ok-flags.flags c.loop-descent.descent c.advance.new.self) c.in-ComesRound.is c.in_ok-advance.ensures in
    let unbounded = subst (λ (l : List ℕ). IsUnbounded book (cost_of l) 0) c.as_slice.ensures round.unbounded in
    ((λ e. cc), (λ g. absurd (unbounded-not_over book (cost_of c.args.costs.now) MAX_FINITE_SIZE unbounded g)))

pub returns-in-ComesRound-clause-infinite : goal.returns-in-ComesRound-clause-infinite
returns-in-ComesRound-clause-infinite g c =
    let book = g.B.RuleBook.book c.args.book.now in
    let round = subst (IsOutcome SIZE_CAP (cost_of c.as_slice.result.now) book c.in_ok-flags.flags c.loop-descent.descent c.advance.new.self) c.in-ComesRound.is c.in_ok-advance.ensures in
    ((λ t. subst (λ (l : List ℕ). IsUnbounded book (cost_of l) 0) c.as_slice.ensures round.unbounded), (λ u. tt))

pub returns-in-Ends-clause-infinite : goal.returns-in-Ends-clause-infinite
returns-in-Ends-clause-infinite g c =
    let book = g.B.RuleBook.book c.args.book.now in
    let ends = subst (IsOutcome SIZE_CAP (cost_of c.as_slice.result.now) book c.in_ok-flags.flags c.loop-descent.descent c.advance.new.self) c.in-Ends.is c.in_ok-advance.ensures in
    let capped = subst (λ (l : List ℕ). IsCapped SIZE_CAP (cost_of l) (IsGenerated book 0) c.in-Ends.size) c.as_slice.ensures ends in
    ((λ i. absurd (c.answer_of.ensures.bounded i)), (λ u. absurd (capped-bounded SIZE_CAP (cost_of c.args.costs.now) book 0 c.in-Ends.size capped u)))
