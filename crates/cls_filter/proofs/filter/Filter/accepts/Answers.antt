use Rattle.std.proofs.Common.{◌≡◌, Bool, false, IsTrue, sym, ap, subst, ◌∙◌}
use Rattle.cls_filter.specs.Automata.{state_of, is_accepted}
use Rattle.cls_filter.proofs.filter.Filter.accepts.Goals as goal

pub returns-in-Some : goal.returns-in-Some
returns-in-Some c =
    let a = c.args.self.now in
    let same : c.is_accepting.result ≡ is_accepted a (state_of a c.args.term.now) = c.is_accepting.ensures.accepting ∙ ap (is_accepted a) c.in-Some.ensures in
    ((λ t. subst (λ (b : Bool). IsTrue b) same t), (λ t. subst (λ (b : Bool). IsTrue b) (sym same) t))

pub returns-in-None : goal.returns-in-None
returns-in-None c =
    let a = c.args.self.now in
    let same : false ≡ is_accepted a (state_of a c.args.term.now) = ap (is_accepted a) c.in-None.ensures in
    ((λ t. subst (λ (b : Bool). IsTrue b) same t), (λ t. subst (λ (b : Bool). IsTrue b) (sym same) t))
