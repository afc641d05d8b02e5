use Rattle.std.proofs.Common.{ℕ, ◌≡◌, ◌+◌, ◌<◌, ◌++◌, ◌∷◌, [], List, ap, sym, ◌∙◌, arith, string_bytes}
use Rattle.std.proofs.lemmas.Fmt.{decimal_digit}
use Rattle.std.specs.Char.{encode_utf8}
use Rattle.cls_proof.proofs.print.write_number.Goals as goal

pub returns-then-number-lt10 : goal.returns-then-number-lt10
returns-then-number-lt10 c =
    let less : c.args.number < 10 = c.if-number-lt10.true in
    let digit : c.from.result ≡ 48 + c.args.number = c.from.ensures in
    let ascii : encode_utf8 c.from.result ≡ c.from.result ∷ [] = c.in_ok-push.ensures.ascii (omega arith) in
    c.in_ok-push.ensures.bytes ∙ ap (λ (digits : List ℕ). string_bytes c.args.text.now ++ digits)
    (ascii ∙ (ap (λ (k : ℕ). k ∷ []) digit ∙ sym (decimal_digit c.args.number less)))
