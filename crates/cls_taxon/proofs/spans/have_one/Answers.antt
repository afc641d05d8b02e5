use Rattle.std.proofs.Common.{ℕ, ◌≡◌, ◌≤◌, ◌-◌, length, IsTrue, rules, leb, sym, subst, ◌∙◌, arith}
use Rattle.cls_taxon.proofs.SpanSets.{only_number}
use Rattle.cls_taxon.proofs.spans.have_one.Goals as goal

le_of_test : (a b : ℕ) → IsTrue (leb a b) → a ≤ b
le_of_test a b t = search rules

pub returns-in-Some : goal.returns-in-Some
returns-in-Some c = λ t m n h k.
    let s = c.in-Some.span.now in
    let one : length c.args.spans.now ≡ 1 = omega (arith, c.if-spans-ne1.false) in
    let at = sym c.in-Some.ensures.lookup.1 in
    let short : s.end - 1 ≤ s.start = subst (λ x. x ≤ s.start) c.saturating_sub.ensures (le_of_test c.saturating_sub.result s.start t) in
    only_number c.args.spans.now s one at short m h ∙ sym (only_number c.args.spans.now s one at short n k)
