use Rattle.std.proofs.Common.{ℕ, List, ap, ◌∙◌, sym, subst, length, arith}
use Rattle.cls_base.specs.Terms.{length_of}
use Rattle.cls_term.proofs.BankSteps.{spine-found}
use Rattle.cls_base.proofs.Lists.{AreBelow-more}
use Rattle.cls_term.specs.Banks.{at, term_by}
use Rattle.cls_base.specs.Lists.{AreBelow}
use Rattle.cls_enum.proofs.partial_term.PartialTerm.from_term.Goals as goal

pub returns-clause-term : goal.returns-clause-term
returns-clause-term c =
    let ts = c.args.bank.now in
    ap (λ (l : List ℕ). term_by ts (c.head.result, l)) (c.in_ok-args.ensures.items_if_clones_equal (λ x y h. h)) ∙ spine-found ts (at ts c.args.number) c.head.result c.args-2.result.now c.head.ensures c.args-2.ensures.terms

pub returns-clause-partial : goal.returns-clause-partial
returns-clause-partial c =
    let ts = c.args.bank.now in
    let q = c.in_ok-args.ensures.items_if_clones_equal (λ x y h. h) in
    let e = ap (λ (l : List ℕ). term_by ts (c.head.result, l)) q ∙ spine-found ts (at ts c.args.number) c.head.result c.args-2.result.now c.head.ensures c.args-2.ensures.terms in
    record {
      below = subst (λ (l : List ℕ). AreBelow (length ts) l) (sym q) (AreBelow-more c.args.number (length ts) c.args-2.result.now (omega (arith, c.requires)) c.args-2.ensures.earlier);
      counted = c.from.ensures ∙ c.length.ensures ∙ ap length_of (sym e);
    }
