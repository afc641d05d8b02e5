-- How many parentheses a line can have open at once.
use Rattle.std.proofs.Common.{◌≡◌, ◌≤◌, ◌<◌, ℕ, ◌+◌, ◌∙◌, Bool, false, List, [], ◌∷◌, length, sym, ap, arith}
use Rattle.std.specs.Prelude.{max, IsTrue, ◌↔◌}
use Rattle.std.proofs.lemmas.Bool.{true≢false}
use Rattle.std.proofs.lemmas.List.{length-map}
use Rattle.cls_base.specs.Limits.{max_type_depth}
use Rattle.cls_lexer.specs.declared.token.Token.{Token}
use Rattle.cls_lexer.specs.Words.{Word, words, word_of}
use Rattle.cls_syntax.specs.declared.sort.Sort.{Sort}
use Rattle.cls_syntax.specs.declared.sort.Sort.TheVariants.{Omega, Name, To, And, Times, Open, Close, Comma, Dollar, Other}
use Rattle.cls_syntax.specs.Depths.{open_after, most_open}
use Rattle.cls_syntax.specs.Sorts.{sort_of}

one_more : (n : ℕ) (s : Sort) → open_after n s ≤ n + 1
one_more n Omega = omega arith
one_more n Name = omega arith
one_more n To = omega arith
one_more n And = omega arith
one_more n Times = omega arith
one_more n Open = omega arith
one_more n Close = omega arith
one_more n Comma = omega arith
one_more n Dollar = omega arith
one_more n Other = omega arith

-- each word opens one at most
opens_few : (now most : ℕ) (ws : List Word) → most_open now most ws ≤ max most (now + length ws)
opens_few now most [] = omega arith
opens_few now most (w ∷ ws) =
    let h = one_more now (sort_of w) in
    let k = opens_few (open_after now (sort_of w)) (max (open_after now (sort_of w)) most) ws in
    omega (arith, h, k)

pub few_open : (ls : List Token) → most_open 0 0 (words ls) ≤ length ls
few_open ls = let h = opens_few 0 0 (words ls) in let e = length-map ls word_of in omega (arith, h, e)

-- what isn't too deep is flat
pub is_flat : (deep : Bool) (ws us : List Word) → IsTrue deep ↔ (max_type_depth < most_open 0 0 ws) → ws ≡ us → deep ≡ false → most_open 0 0 us ≤ max_type_depth
is_flat deep ws us said same shallow =
    let e : most_open 0 0 ws ≡ most_open 0 0 us = ap (most_open 0 0) same in
    let not_deeper : max_type_depth < most_open 0 0 ws → ⊥ = λ h. true≢false (sym (said.1 h) ∙ shallow) in
    omega (arith, e, not_deeper)
