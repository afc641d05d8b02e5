use Rattle.std.proofs.Common.{◌≡◌, ℕ, ◌+◌, ◌-◌, ◌<◌, ◌≤◌, List, [], ◌∷◌, ◌++◌, length, sym, ap, ◌∙◌, arith, append_assoc, add-one}
use Rattle.cls_grammar.specs.declared.waiting.Waiting.{Waiting}
use Rattle.cls_grammar.specs.declared.waiting.Link.{Link}
use Rattle.cls_grammar.specs.WaitingLists.{link_at, rules_among, AreOrdered}
use Rattle.cls_grammar.proofs.Waits.{rules-step, before-less}
use Rattle.cls_grammar.proofs.waiting.collect.Goals as goal

-- one rule more of the list
next : (links : List Link) (n m : ℕ) (front whole : List Waiting) → AreOrdered links → n ≡ m + 1 → m < length links → front ++ rules_among links n ≡ whole
    → (front ++ (link_at links m).waiting ∷ []) ++ rules_among links (link_at links m).before ≡ whole
next links n m front whole o s less e =
    let q = link_at links m in
    append_assoc front (q.waiting ∷ []) (rules_among links q.before) ∙ (ap (λ ws. front ++ ws) (sym (rules-step links m o less) ∙ ap (rules_among links) (sym (s ∙ add-one m))) ∙ e)

pub loop-among-preserved : goal.loop-among-preserved
loop-among-preserved c =
    let links = c.args.links.now in
    let n = c.loop-among.among in
    let i = c.loop-among.invariant in
    let q = link_at links (n - 1) in
    let m : q.before ≤ n - 1 = before-less links (n - 1) c.requires.ordered (omega arith) in
    let less : n - 1 < length links = omega arith in
    let one : n ≡ (n - 1) + 1 = omega arith in
    (omega arith, ap (λ ws. ws ++ rules_among links q.before) c.in_ok-push.ensures ∙ next links n (n - 1) c.loop-among.queue _ c.requires.ordered one less i.1)
