use Rattle.std.proofs.Common.{◌≡◌, ◌++◌, ◌∷◌, [], List, ℕ, string_bytes, length, length-append, ap, sym, ◌∙◌, subst, arith}
use Rattle.cls_base.specs.Cuts.{cut}
use Rattle.cls_base.proofs.Cutting.{cut-push}
use Rattle.cls_proof.specs.TextEnds.{AreTextEnds}
use Rattle.cls_proof.proofs.TextEnds.{text_ends-push}
use Rattle.cls_proof.proofs.line_columns.TextLines.push.Goals as goal

bytes : (c : goal.In_ok-push) → string_bytes c.push_str.new.self ≡ string_bytes c.self.inside.column ++ c.args.line.now
bytes c = c.in_ok-push_str.ensures.bytes

ends : (c : goal.In_ok-push) → c.push.new.self.items ≡ c.self.inside.ends.items ++ c.in-Ok.end ∷ []
ends c = c.in_ok-push.ensures.items ∙ ap (λ (es : List ℕ). es ++ c.in-Ok.end ∷ []) c.reserve.ensures.items

last : (c : goal.In_ok-push) → c.in-Ok.end ≡ length (string_bytes c.self.inside.column ++ c.args.line.now)
last c = omega (arith, length-append (string_bytes c.self.inside.column) c.args.line.now, c.in-Ok.ensures, c.len.ensures)

pub invariant_of-self-2 : goal.invariant_of-self-2
invariant_of-self-2 c =
    let b = string_bytes c.self.inside.column in
    let es = c.self.inside.ends.items in
    let h = text_ends-push b c.args.line.now es c.in-Ok.end c.utf8.line (last c) c.self.invariant in
    subst (λ (bs : List ℕ). AreTextEnds bs c.push.new.self.items) (sym (bytes c))
    (subst (λ (ns : List ℕ). AreTextEnds (b ++ c.args.line.now) ns) (sym (ends c)) h)

pub returns : goal.returns
returns c =
    let b = string_bytes c.self.inside.column in
    let es = c.self.inside.ends.items in
    (λ i. cut (bytes c i) 0 (ends c i))
    ∙ (cut-push b c.args.line.now c.in-Ok.end es c.self.invariant.rise (last c)
    ∙ ap (λ (ls : List (List ℕ)). ls ++ c.args.line.now ∷ []) c.self.view_is)
