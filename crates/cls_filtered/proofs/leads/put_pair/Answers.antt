use Rattle.std.proofs.Common.{◌++◌, ◌∷◌, [], ℕ, Bool, Option, cond, sym, ap, ◌∙◌}
use Rattle.cls_filtered.specs.Filtered.{is_state}
use Rattle.cls_filtered.proofs.Leading.{put-none}
use Rattle.cls_filtered.proofs.leads.put_pair.Goals as goal

pub returns-then-not-is_state : goal.returns-then-not-is_state
returns-then-not-is_state c =
    let old = c.args.pairs.now in
    let test = c.is_state.ensures ∙ ap (λ (o : Option ℕ). is_state o c.args.state) c.joined_state.ensures.state in
    put-none old ∙ ap (λ (b : Bool). old ++ cond b ((c.args.left, c.args.right) ∷ []) []) (sym (sym test ∙ c.if-not-is_state.true))

pub returns : goal.returns
returns c =
    let old = c.args.pairs.now in
    let test = c.is_state.ensures ∙ ap (λ (o : Option ℕ). is_state o c.args.state) c.joined_state.ensures.state in
    c.in_ok-push.ensures ∙ ap (λ (b : Bool). old ++ cond b ((c.args.left, c.args.right) ∷ []) []) (sym (sym test ∙ c.if-not-is_state.false))
