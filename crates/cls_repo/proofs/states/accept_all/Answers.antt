use Rattle.std.proofs.Common.{ℕ, ◌<◌, drop, ◌+◌, refl, sym, ap, ◌∙◌, subst}
use Rattle.std.proofs.lemmas.List.{drop_all}
use Rattle.cls_base.specs.Limits.{max_states}
use Rattle.cls_filter.specs.Lines.{with_accepting}
use Rattle.cls_syntax.specs.TokenTexts.{texts}
use Rattle.cls_repo.specs.Written.{AreBelowLimit}
use Rattle.cls_repo.proofs.StateNames.{one_accepting, all_accepting, next_text}
use Rattle.cls_repo.proofs.states.accept_all.Goals as goal

pub loop-token-init : goal.loop-token-init
loop-token-init c = record { accepting = refl; below = c.requires }

pub accept-requires : goal.accept-requires
accept-requires c =
    let named = c.args.named.now in
    let next = next_text named c.loop-token.token-index c.token-item.result c.loop-token-test.true c.token-item.is in
    subst (λ (n : ℕ). n < max_states) (sym c.number.ensures) (subst (AreBelowLimit c.args.states.now) next c.loop-token.invariant.below).0

pub loop-token-preserved : goal.loop-token-preserved
loop-token-preserved c =
    let named = c.args.named.now in
    let token = c.token-item.result in
    one_accepting c.args.states.now c.args.filter.now (texts named) c.loop-token.filter c.accept.new.self (texts (drop c.loop-token.token-index named)) (texts (drop (c.loop-token.token-index + 1) named)) token.text.now
    (next_text named c.loop-token.token-index token c.loop-token-test.true c.token-item.is) (c.accept.ensures ∙ ap (with_accepting c.loop-token.filter) c.number.ensures) c.loop-token.invariant

pub returns : goal.returns
returns c =
    let named = c.args.named.now in
    all_accepting c.args.states.now c.args.filter.now (texts named) c.loop-token.filter (texts (drop c.loop-token.token-index named)) (ap texts (drop_all c.loop-token.token-index named c.loop-token-test.false)) c.loop-token.invariant
