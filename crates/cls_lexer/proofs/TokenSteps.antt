-- How the tokens of a line follow one another.
use Rattle.std.proofs.Common.{Option, Some, None, slice_get, ◌≡◌, ℕ, suc, zero, ◌+◌, ◌-◌, ◌<◌, ◌≤◌, Bool, true, false, List, [], ◌∷◌, ◌++◌, refl, ap, sym, ◌∙◌, drop, take, length, get_or, arith, add-zero, append_assoc, append-nil}
use Rattle.std.proofs.lemmas.List.{drop_more, drop_all, drop-drop, length-take-le}
use Rattle.std.specs.Prelude.{if◌then◌else◌, ◌==◌, ◌&&◌}
use Rattle.std.proofs.lemmas.List.Sums.{prefix_len-le-length}
use Rattle.std.proofs.lemmas.Bool.{and_parts}
use Rattle.cls_lexer.specs.declared.token.TokenKind.{TokenKind}
use Rattle.cls_lexer.specs.Tokens.{Located}
use Rattle.cls_lexer.specs.Characters.{is_digit, is_name_start, is_name_byte, is_continuation, is_blank}
use Rattle.cls_lexer.specs.Tokens.{begins_with, token_at, located_at, end_of, tokens_from, tokens_of}

pub tokens_from-skip : (n at : ℕ) (bs : List ℕ) → n ≤ length bs → tokens_from at n bs ≡ tokens_from (at + n) 0 (drop n bs)
unfolding tokens_from
tokens_from-skip zero at bs h = rw add-zero refl
tokens_from-skip (suc n) at [] h = absurd (omega arith)
tokens_from-skip (suc n) at (b ∷ bs) h = tokens_from-skip n (at + 1) bs (omega arith) ∙ ap (λ (k : ℕ). tokens_from k 0 (drop n bs)) (omega arith)

-- at least one byte, and no more than there are
abbrev Fits : List ℕ → TokenKind × ℕ → Type 0
Fits bs p = (1 ≤ p.1) × (p.1 ≤ 1 + length bs)

either : (bs : List ℕ) (c : Bool) (x y : TokenKind × ℕ) → (c ≡ true → Fits bs x) → Fits bs y → Fits bs (if c then x else y)
either bs true x y a b = a refl
either bs false x y a b = b

two : (c : ℕ) (bs : List ℕ) → begins_with c bs ≡ true → 2 ≤ 1 + length bs
two c [] h = cc
two c (b ∷ bs) h = omega arith

pub token_at-within : (b : ℕ) (bs : List ℕ) → (1 ≤ (token_at b bs).1) × ((token_at b bs).1 ≤ 1 + length bs)
unfolding token_at
token_at-within b bs =
    let name = prefix_len-le-length is_name_byte bs in
    let digit = prefix_len-le-length is_digit bs in
    let more = prefix_len-le-length is_continuation bs in
    either bs (is_name_start b) _ _ (λ _. (omega arith, omega arith))
    (either bs (is_digit b) _ _ (λ _. (omega arith, omega arith))
    (either bs (b == 45 && begins_with 62 bs) _ _ (λ e. (omega arith, two 62 bs (and_parts _ _ e).1))
    (either bs (b == 60 && begins_with 61 bs) _ _ (λ e. (omega arith, two 61 bs (and_parts _ _ e).1))
    (either bs (b == 38) _ _ (λ _. (omega arith, omega arith))
    (either bs (b == 42) _ _ (λ _. (omega arith, omega arith))
    (either bs (b == 40) _ _ (λ _. (omega arith, omega arith))
    (either bs (b == 41) _ _ (λ _. (omega arith, omega arith))
    (either bs (b == 44) _ _ (λ _. (omega arith, omega arith))
    (either bs (b == 36) _ _ (λ _. (omega arith, omega arith))
    (either bs (b == 58) _ _ (λ _. (omega arith, omega arith))
    (either bs (b == 61) _ _ (λ _. (omega arith, omega arith))
    (either bs (b == 124) _ _ (λ _. (omega arith, omega arith))
    (omega arith, omega arith)))))))))))))

-- where the token ends
pub token_size : (b : ℕ) (bs : List ℕ) → length (take (token_at b bs).1 (b ∷ bs)) ≡ (token_at b bs).1
token_size b bs = let long = token_at-within b bs in length-take-le (token_at b bs).1 (b ∷ bs) (omega (arith, long.1))

pub token_end : (at b : ℕ) (bs : List ℕ) → end_of (located_at at b bs) ≡ at + (token_at b bs).1
token_end at b bs = ap (λ (k : ℕ). at + k) (token_size b bs)

pub tokens_from-blank : (b at : ℕ) (bs : List ℕ) → is_blank b ≡ true → tokens_from at 0 (b ∷ bs) ≡ tokens_from (at + 1) 0 bs
unfolding tokens_from
tokens_from-blank b at bs h = rw h refl

pub tokens_from-token :
    (b at : ℕ) (bs : List ℕ) → is_blank b ≡ false
    → tokens_from at 0 (b ∷ bs) ≡ located_at at b bs ∷ tokens_from (at + (token_at b bs).1) 0 (drop (token_at b bs).1 (b ∷ bs))
unfolding tokens_from
tokens_from-token b at bs h =
    let long = token_at-within b bs in
    let n = (token_at b bs).1 in
    let one : n ≡ suc (n - 1) = omega (arith, long.0) in
    let next : tokens_from (at + 1) (n - 1) bs ≡ tokens_from (at + n) 0 (drop n (b ∷ bs))
    = tokens_from-skip (n - 1) (at + 1) bs (omega (arith, long.1)) ∙ (ap (λ (k : ℕ). tokens_from k 0 (drop (n - 1) bs)) (omega (arith, long.0)) ∙ ap (λ (k : ℕ). tokens_from (at + n) 0 (drop k (b ∷ bs))) (sym one)) in
    rw (h, next) refl

pub ruleset runs = prefix_len-le-length

-- a step of the loop over the line
pub loop_blank :
    (line bytes : List ℕ) (out : List Located) (at : ℕ) → bytes ≡ line → at < length line
    → is_blank (get_or bytes at 0) ≡ true → out ++ tokens_from at 0 (drop at line) ≡ tokens_of line
    → out ++ tokens_from (at + 1) 0 (drop (at + 1) line) ≡ tokens_of line
loop_blank line bytes out at same l b h =
    let blank : is_blank (get_or line at 0) ≡ true = ap (λ (xs : List ℕ). is_blank (get_or xs at 0)) (sym same) ∙ b in
    ap (λ (ts : List Located). out ++ ts) (sym (ap (λ (xs : List ℕ). tokens_from at 0 xs) (drop_more line at 0 l) ∙ tokens_from-blank (get_or line at 0) at (drop (at + 1) line) blank)) ∙ h

pub loop_token :
    (line bytes : List ℕ) (out new : List Located) (at : ℕ) (p : TokenKind × ℕ) → bytes ≡ line → at < length line
    → is_blank (get_or bytes at 0) ≡ false → p ≡ token_at (get_or bytes at 0) (drop (at + 1) bytes)
    → new ≡ out ++ record { kind = p.0; start = at; text = take p.1 (drop at line) } ∷ []
    → out ++ tokens_from at 0 (drop at line) ≡ tokens_of line
    → new ++ tokens_from (at + p.1) 0 (drop (at + p.1) line) ≡ tokens_of line
loop_token line bytes out new at p same l b is pushed h =
    let first = get_or line at 0 in
    let rest = drop (at + 1) line in
    let token : p ≡ token_at first rest = is ∙ ap (λ (xs : List ℕ). token_at (get_or xs at 0) (drop (at + 1) xs)) same in
    let blank : is_blank first ≡ false = ap (λ (xs : List ℕ). is_blank (get_or xs at 0)) (sym same) ∙ b in
    let split : drop at line ≡ first ∷ rest = drop_more line at 0 l in
    let one : TokenKind × ℕ → List ℕ → List Located = λ q xs. record { kind = q.0; start = at; text = take q.1 xs } ∷ [] in
    let make : TokenKind × ℕ → List Located = λ q. one q (first ∷ rest) ++ tokens_from (at + q.1) 0 (drop q.1 (first ∷ rest)) in
    let read : tokens_from at 0 (drop at line) ≡ make p = ap (λ (xs : List ℕ). tokens_from at 0 xs) split ∙ (tokens_from-token first at rest blank ∙ ap make (sym token)) in
    let left : drop (at + p.1) line ≡ drop p.1 (first ∷ rest) = sym (drop-drop p.1 at line) ∙ ap (λ (xs : List ℕ). drop p.1 xs) split in
    let put : new ≡ out ++ one p (first ∷ rest) = pushed ∙ ap (λ (xs : List ℕ). out ++ one p xs) split in
    ap (λ (ts : List Located). ts ++ tokens_from (at + p.1) 0 (drop (at + p.1) line)) put
    ∙ (append_assoc out (one p (first ∷ rest)) (tokens_from (at + p.1) 0 (drop (at + p.1) line))
    ∙ (ap (λ (xs : List ℕ). out ++ (one p (first ∷ rest) ++ tokens_from (at + p.1) 0 xs)) left
    ∙ (ap (λ (ts : List Located). out ++ ts) (sym read) ∙ h)))

pub loop_end : (line : List ℕ) (out : List Located) (at : ℕ) → length line ≤ at → out ++ tokens_from at 0 (drop at line) ≡ tokens_of line → out ≡ tokens_of line
unfolding tokens_from
loop_end line out at l h = sym (append-nil out) ∙ (ap (λ (xs : List ℕ). out ++ tokens_from at 0 xs) (sym (drop_all at line l)) ∙ h)

-- the first token of the line is the one that stands behind blanks alone
pub first_token :
    (line bytes text : List ℕ) (at : ℕ) (p : TokenKind × ℕ) → bytes ≡ line → at < length line
    → is_blank (get_or bytes at 0) ≡ false → p ≡ token_at (get_or bytes at 0) (drop (at + 1) bytes)
    → text ≡ take p.1 (drop at line) → tokens_from at 0 (drop at line) ≡ tokens_of line
    → ◌≡◌ {A = Option Located} (Some (record { kind = p.0; start = at; text = text })) (slice_get (tokens_of line) 0)
first_token line bytes text at p same l b is cut h =
    let here : List ℕ → Located = λ xs. record { kind = p.0; start = at; text = xs } in
    ap (λ (xs : List ℕ). Some (here xs)) cut
    ∙ ap (λ (ts : List Located). slice_get ts 0) (loop_token line bytes [] (here (take p.1 (drop at line)) ∷ []) at p same l b is refl h)

-- a line of blanks has none
pub no_token : (line : List ℕ) (at : ℕ) → length line ≤ at → tokens_from at 0 (drop at line) ≡ tokens_of line → ◌≡◌ {A = Option Located} None (slice_get (tokens_of line) 0)
no_token line at l h = ap (λ (ts : List Located). slice_get ts 0) (loop_end line [] at l h)
