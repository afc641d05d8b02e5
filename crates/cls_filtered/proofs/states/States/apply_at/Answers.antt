use Rattle.std.proofs.Common.{◌≡◌, true, sym, ◌∙◌}
use Rattle.std.proofs.lemmas.Result.{on_ok_weaker}
use Rattle.cls_filtered.specs.States.{is_known}
use Rattle.cls_filtered.proofs.Following.{applies-unknown, applies-joined}
use Rattle.cls_filtered.proofs.states.States.apply_at.Goals as goal

pub returns-then-not-has : goal.returns-then-not-has
returns-then-not-has c =
    applies-unknown c.args.filter.now c.args.node c.args.left.0 c.args.left.1 c.args.right c.args.self.now (sym c.has.ensures ∙ c.if-not-has.true)

pub returns : goal.returns
returns c =
    let known : is_known c.args.self.now.flags c.args.left.0 c.args.left.1 ≡ true = sym c.has.ensures ∙ c.if-not-has.false in
    on_ok_weaker c.join.result
    (λ h. applies-joined c.args.filter.now c.args.node c.args.left.0 c.args.left.1 c.args.right c.args.self.now c.join.new.self known h)
    c.join.ensures
