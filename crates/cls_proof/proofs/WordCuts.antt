-- The words of bytes that have spaces between their parts.
use Rattle.std.proofs.Common.{◌≡◌, ℕ, suc, zero, ◌+◌, ◌-◌, ◌≤◌, ◌==◌, Bool, true, false, cond, List, [], ◌∷◌, ◌++◌, refl, ap, sym, ◌∙◌, take, length, arith, append-nil}
use Rattle.std.specs.Prelude.{if◌then◌else◌}
use Rattle.std.specs.List.{prefix_len, list_all, flat_map}
use Rattle.std.proofs.lemmas.Bool.{and_parts}
use Rattle.std.proofs.lemmas.List.{take_all, take-append-le}
use Rattle.cls_lexer.specs.declared.token.TokenKind.{TokenKind}
use Rattle.cls_lexer.specs.declared.token.TokenKind.TheVariants as kind
use Rattle.cls_lexer.specs.Characters.{is_blank, is_digit, is_name_start, is_name_byte, is_continuation}
use Rattle.cls_lexer.specs.Numerals.{is_numeral}
use Rattle.cls_lexer.specs.Tokens.{token_at, begins_with}
use Rattle.cls_lexer.specs.Words.{Word, word_from, number}
use Rattle.cls_lexer.proofs.Runs.{prefix_len-list_all-nil}
use Rattle.cls_lexer.proofs.TokenSteps.{token_at-within}
use Rattle.cls_syntax.proofs.TypeBytes.{words_from}

prefix_cut : (p : ℕ → Bool) (xs rest : List ℕ) → p 32 ≡ false → prefix_len p (xs ++ 32 ∷ rest) ≡ prefix_len p xs
prefix_cut p [] rest e = rw e refl
prefix_cut p (x ∷ xs) rest e = ap (λ (n : ℕ). cond (p x) (1 + n) 0) (prefix_cut p xs rest e)

begins_cut : (c : ℕ) (xs rest : List ℕ) → (32 == c) ≡ false → begins_with c (xs ++ 32 ∷ rest) ≡ begins_with c xs
begins_cut c [] rest e = e
begins_cut c (x ∷ xs) rest e = refl

-- a space ends a token
token_cut : (b : ℕ) (bs rest : List ℕ) → Path (TokenKind × ℕ) (token_at b (bs ++ 32 ∷ rest)) (token_at b bs)
unfolding token_at
token_cut b bs rest = rw (prefix_cut is_name_byte bs rest refl, prefix_cut is_digit bs rest refl, prefix_cut is_continuation bs rest refl, begins_cut 62 bs rest refl, begins_cut 61 bs rest refl) refl

-- so words are cut at it
pub words_cut : (xs rest : List ℕ) (skip : ℕ) → skip ≤ length xs → words_from skip (xs ++ 32 ∷ rest) ≡ words_from skip xs ++ words_from 0 rest
unfolding words_from
words_cut [] rest zero l = refl
words_cut [] rest (suc n) l = absurd (omega arith)
words_cut (x ∷ xs) rest (suc n) l = words_cut xs rest n (omega arith)
words_cut (x ∷ xs) rest zero l =
    let n : ℕ = (token_at x xs).1 in
    let within : n ≤ 1 + length xs = (token_at-within x xs).1 in
    let more = words_cut xs rest (n - 1) (omega arith) in
    let none = words_cut xs rest 0 (omega arith) in
    let token = token_cut x xs rest in
    let front : take n (x ∷ (xs ++ 32 ∷ rest)) ≡ take n (x ∷ xs) = take-append-le n (x ∷ xs) (32 ∷ rest) (omega arith) in
    elim (is_blank x) as (λ v. (if v then words_from 0 (xs ++ 32 ∷ rest) else word_from (token_at x (xs ++ 32 ∷ rest)).0 (take (token_at x (xs ++ 32 ∷ rest)).1 (x ∷ (xs ++ 32 ∷ rest))) ∷ words_from ((token_at x (xs ++ 32 ∷ rest)).1 - 1) (xs ++ 32 ∷ rest)) ≡ (if v then words_from 0 xs else word_from (token_at x xs).0 (take n (x ∷ xs)) ∷ words_from (n - 1) xs) ++ words_from 0 rest) [
      | true ↦ none
      | false ↦ (λ i. word_from (token i).0 (take (token i).1 (x ∷ (xs ++ 32 ∷ rest))) ∷ words_from ((token i).1 - 1) (xs ++ 32 ∷ rest)) ∙ (λ i. word_from (token_at x xs).0 (front i) ∷ more i)
    ]

-- parts with a space before each
abbrev pub behind : List (List ℕ) → List ℕ
behind [] = []
behind (p ∷ ps) = 32 ∷ (p ++ behind ps)

pub words_parts : (p : List ℕ) (ps : List (List ℕ)) → words_from 0 (p ++ behind ps) ≡ words_from 0 p ++ flat_map (words_from 0) ps
words_parts p [] = ap (words_from 0) (append-nil p) ∙ sym (append-nil (words_from 0 p))
words_parts p (q ∷ ps) = words_cut p (q ++ behind ps) 0 (omega arith) ∙ ap (λ (ws : List Word). words_from 0 p ++ ws) (words_parts q ps)

-- digits are one word
passed : (xs : List ℕ) → words_from (length xs) xs ≡ []
unfolding words_from
passed [] = refl
passed (x ∷ xs) = passed xs

no_start : (d : ℕ) → is_digit d ≡ true → is_name_start d ≡ false
no_start d h = grind arith

no_blank : (d : ℕ) → is_digit d ≡ true → is_blank d ≡ false
no_blank d h = grind arith

digits_token : (d : ℕ) (ds : List ℕ) → is_name_start d ≡ false → is_digit d ≡ true → prefix_len is_digit ds ≡ length ds → Path (TokenKind × ℕ) (token_at d ds) (kind.Number, 1 + length ds)
unfolding token_at
digits_token d ds n h run = rw (n, h, run) refl

pub at_number : (ds : List ℕ) → is_numeral ds ≡ true → words_from 0 ds ≡ number ds ∷ []
unfolding words_from
at_number [] h = absurd (let e : ◌≡◌ {A = Bool} false true = h in cc)
at_number (d ∷ ds) h =
    let p = and_parts (is_digit d) (list_all is_digit ds) h in
    let blank = no_blank d p.0 in
    let token : Path (TokenKind × ℕ) (token_at d ds) (kind.Number, 1 + length ds) = digits_token d ds (no_start d p.0) p.0 (prefix_len-list_all-nil is_digit ds p.1) in
    let taken : take (1 + length ds) (d ∷ ds) ≡ d ∷ ds = take_all (1 + length ds) (d ∷ ds) (omega arith) in
    let skip : 1 + length ds - 1 ≡ length ds = omega arith in
    rw (blank, token, taken, skip, passed ds) refl
