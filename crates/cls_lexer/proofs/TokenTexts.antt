-- The text of a token of a line.
use Rattle.std.proofs.Common.{Option, slice_get, ◌≡◌, ℕ, ◌+◌, ◌<◌, List, ◌∷◌, map, take, drop, get_or, length, false, ap, sym, subst, ◌∙◌}
use Rattle.std.specs.Prelude.{IsTrue}
use Rattle.std.specs.Option.{option_map}
use Rattle.std.proofs.lemmas.Bool.{and_from}
use Rattle.std.proofs.lemmas.List.{drop_more}
use Rattle.std.proofs.lemmas.Option.{slice_get-map}
use Rattle.std.proofs.lemmas.Simd.{map-map}
use Rattle.cls_lexer.specs.declared.token.TokenKind.{TokenKind}
use Rattle.cls_lexer.specs.declared.token.TokenKind.TheVariants.{Number}
use Rattle.cls_lexer.specs.declared.token.Token.{Token}
use Rattle.cls_lexer.specs.Numerals.{is_numeral}
use Rattle.cls_lexer.specs.Characters.{is_blank}
use Rattle.cls_lexer.specs.Tokens.{Located, token_at, located, tokens_of}
use Rattle.cls_lexer.specs.Spelling.{Spells, name, number, to, at_most, and, times, opens, closes, comma, dollar, colon, equals, bar, too_long, other}
use Rattle.cls_lexer.specs.Words.{said, words, words_of}
use Rattle.cls_lexer.proofs.TokenSpelling.{token_spelled}

numeral_spelled : (kind : TokenKind) (text : List ℕ) → Spells kind text → kind ≡ Number → IsTrue (is_numeral text)
numeral_spelled _ _ (name start all few) e = cc
numeral_spelled _ _ (number start all) e = and_from _ _ start all
numeral_spelled _ _ to e = cc
numeral_spelled _ _ at_most e = cc
numeral_spelled _ _ and e = cc
numeral_spelled _ _ times e = cc
numeral_spelled _ _ opens e = cc
numeral_spelled _ _ closes e = cc
numeral_spelled _ _ comma e = cc
numeral_spelled _ _ dollar e = cc
numeral_spelled _ _ colon e = cc
numeral_spelled _ _ equals e = cc
numeral_spelled _ _ bar e = cc
numeral_spelled _ _ (too_long start all many) e = cc
numeral_spelled _ _ (other start digit sign blank all) e = cc

-- the text of a number is digits
pub token_numeral :
    (b : ℕ) (bs : List ℕ) → is_blank b ≡ false → (token_at b bs).0 ≡ Number → IsTrue (is_numeral (take (token_at b bs).1 (b ∷ bs)))
token_numeral b bs blank e = numeral_spelled (token_at b bs).0 (take (token_at b bs).1 (b ∷ bs)) (token_spelled b bs blank) e

-- what all tokens say is what the line says
pub words_of-tokens : (line : List ℕ) (tokens : List Token) → map located tokens ≡ tokens_of line → words tokens ≡ words_of line
unfolding words_of
words_of-tokens line tokens are = sym (map-map said located tokens) ∙ ap (map said) are

-- what the first token says is the first of what the line says
pub first_word : (line : List ℕ) (token : Option Located) → token ≡ slice_get (tokens_of line) 0 → option_map said token ≡ slice_get (words_of line) 0
unfolding words_of
first_word line token is = ap (option_map said) is ∙ sym (slice_get-map said (tokens_of line) 0)

-- the text of a token that the loop over the line cuts off
pub loop_numeral :
    (line bytes text : List ℕ) (at : ℕ) (p : TokenKind × ℕ) → bytes ≡ line → at < length line
    → is_blank (get_or bytes at 0) ≡ false → p ≡ token_at (get_or bytes at 0) (drop (at + 1) bytes)
    → text ≡ take p.1 (drop at line) → p.0 ≡ Number → IsTrue (is_numeral text)
loop_numeral line bytes text at p same l b is cut e =
    let first = get_or line at 0 in
    let rest = drop (at + 1) line in
    let token : p ≡ token_at first rest = is ∙ ap (λ (xs : List ℕ). token_at (get_or xs at 0) (drop (at + 1) xs)) same in
    let blank : is_blank first ≡ false = ap (λ (xs : List ℕ). is_blank (get_or xs at 0)) (sym same) ∙ b in
    let shown : text ≡ take (token_at first rest).1 (first ∷ rest)
    = cut ∙ (ap (λ (q : TokenKind × ℕ). take q.1 (drop at line)) token ∙ ap (λ (xs : List ℕ). take (token_at first rest).1 xs) (drop_more line at 0 l)) in
    subst (λ (xs : List ℕ). IsTrue (is_numeral xs)) (sym shown) (token_numeral first rest blank (sym (ap (λ (q : TokenKind × ℕ). q.0) token) ∙ e))
