-- The token that bytes begin with is spelled by its kind, and is the longest.
use Rattle.std.proofs.Common.{◌≡◌, ℕ, ◌+◌, ◌<◌, ◌≤◌, Bool, true, false, List, [], ◌∷◌, ◌++◌, refl, ap, sym, ◌∙◌, subst, drop, take, length, arith}
use Rattle.std.specs.Prelude.{if◌then◌else◌, nat_le, ◌==◌, ◌&&◌}
use Rattle.std.specs.List.{prefix_len, list_all}
use Rattle.std.proofs.lemmas.Bool.{true≢false, and_parts, leb-true, leb-false, le-leb, lt-leb, eqb-true, or_parts, and_right}
use Rattle.std.proofs.lemmas.List.{take-append-drop, length-take-le}
use Rattle.cls_lexer.specs.declared.token.TokenKind.{TokenKind}
use Rattle.cls_lexer.specs.declared.token.TokenKind.TheVariants.{Name, Number, To, And, Times, Open, Close, Comma, Dollar, Colon, Equals, Bar, AtMost, Bad}
use Rattle.cls_lexer.specs.Characters.{is_digit, is_name_start, is_name_byte, is_continuation, is_blank}
use Rattle.cls_base.specs.Limits.{max_name_bytes}
use Rattle.cls_lexer.specs.Tokens.{begins_with, token_at}
use Rattle.cls_lexer.specs.Spelling.{is_sign, Spells, IsLongest, name, number, to, at_most, and, times, opens, closes, comma, dollar, colon, equals, bar, too_long, other}
use Rattle.cls_lexer.proofs.Runs.{one_more, list_all-prefix, run_long, prefix_len-list_all, prefix_len-list_all-nil}
use Rattle.cls_lexer.proofs.TokenSteps.{token_at-within}

-- the front of the length is spelled by the kind
abbrev Spelled : ℕ → List ℕ → TokenKind × ℕ → Type 0
Spelled b bs p = Spells p.0 (take p.1 (b ∷ bs))

choose : (b : ℕ) (bs : List ℕ) (c : Bool) (x y : TokenKind × ℕ) → (c ≡ true → Spelled b bs x) → (c ≡ false → Spelled b bs y) → Spelled b bs (if c then x else y)
choose b bs true x y f g = f refl
choose b bs false x y f g = g refl

name_spelled :
    (b : ℕ) (bs : List ℕ) → is_name_start b ≡ true
    → Spelled b bs ((if nat_le (1 + prefix_len is_name_byte bs) max_name_bytes then Name else Bad), 1 + prefix_len is_name_byte bs)
name_spelled b bs start =
    let n = prefix_len is_name_byte bs in
    let all = list_all-prefix is_name_byte bs in
    let long = run_long is_name_byte b bs in
    subst (λ (k : ℕ). Spells (if nat_le (1 + n) max_name_bytes then Name else Bad) (take k (b ∷ bs))) (sym (one_more n))
    ((elim (nat_le (1 + n) max_name_bytes) as (λ v. nat_le (1 + n) max_name_bytes ≡ v → Spells (if v then Name else Bad) (b ∷ take n bs)) [
      | true ↦ λ e. name start all (let few = leb-true _ _ e in omega arith)
      | false ↦ λ e. too_long start all (let many = leb-false _ _ e in omega arith)
    ]) refl)

number_spelled : (b : ℕ) (bs : List ℕ) → is_digit b ≡ true → Spelled b bs (Number, 1 + prefix_len is_digit bs)
number_spelled b bs start = subst (λ (k : ℕ). Spells Number (take k (b ∷ bs))) (sym (one_more (prefix_len is_digit bs))) (number start (list_all-prefix is_digit bs))

one_sign : (kind : TokenKind) (b c : ℕ) (bs : List ℕ) → Spells kind (c ∷ []) → (b == c) ≡ true → Spelled b bs (kind, 1)
one_sign kind b c bs s e = subst (λ (x : ℕ). Spells kind (x ∷ [])) (sym (eqb-true b c e)) s

two_signs : (kind : TokenKind) (b c d : ℕ) (bs : List ℕ) → Spells kind (c ∷ d ∷ []) → (b == c && begins_with d bs) ≡ true → Spelled b bs (kind, 2)
two_signs kind b c d [] s e = absurd (true≢false (sym (and_parts (b == c) false e).1))
two_signs kind b c d (x ∷ bs) s e =
    let parts = and_parts (b == c) (x == d) e in
    let first = eqb-true b c parts.0 in
    let second = eqb-true x d parts.1 in
    subst (λ (y : ℕ). Spells kind (y ∷ x ∷ [])) (sym first) (subst (λ (y : ℕ). Spells kind (c ∷ y ∷ [])) (sym second) s)

no_sign :
    (b : ℕ) → (b == 38) ≡ false → (b == 42) ≡ false → (b == 40) ≡ false → (b == 41) ≡ false → (b == 44) ≡ false
    → (b == 36) ≡ false → (b == 58) ≡ false → (b == 61) ≡ false → (b == 124) ≡ false → is_sign b ≡ false
no_sign b h1 h2 h3 h4 h5 h6 h7 h8 h9 = rw (h1, h2, h3, h4, h5, h6, h7, h8, h9) refl

other_spelled :
    (b : ℕ) (bs : List ℕ) → is_name_start b ≡ false → is_digit b ≡ false → is_blank b ≡ false → is_sign b ≡ false
    → Spelled b bs (Bad, 1 + prefix_len is_continuation bs)
other_spelled b bs start digit blank sign = subst (λ (k : ℕ). Spells Bad (take k (b ∷ bs))) (sym (one_more (prefix_len is_continuation bs))) (other start digit sign blank (list_all-prefix is_continuation bs))

-- the token that bytes begin with is spelled by its kind
pub token_spelled : (b : ℕ) (bs : List ℕ) → is_blank b ≡ false → Spells (token_at b bs).0 (take (token_at b bs).1 (b ∷ bs))
unfolding token_at
token_spelled b bs blank =
    choose b bs (is_name_start b) _ _ (name_spelled b bs) (λ start.
    choose b bs (is_digit b) _ _ (number_spelled b bs) (λ digit.
    choose b bs (b == 45 && begins_with 62 bs) _ _ (two_signs To b 45 62 bs to) (λ _.
    choose b bs (b == 60 && begins_with 61 bs) _ _ (two_signs AtMost b 60 61 bs at_most) (λ _.
    choose b bs (b == 38) _ _ (one_sign And b 38 bs and) (λ h1.
    choose b bs (b == 42) _ _ (one_sign Times b 42 bs times) (λ h2.
    choose b bs (b == 40) _ _ (one_sign Open b 40 bs opens) (λ h3.
    choose b bs (b == 41) _ _ (one_sign Close b 41 bs closes) (λ h4.
    choose b bs (b == 44) _ _ (one_sign Comma b 44 bs comma) (λ h5.
    choose b bs (b == 36) _ _ (one_sign Dollar b 36 bs dollar) (λ h6.
    choose b bs (b == 58) _ _ (one_sign Colon b 58 bs colon) (λ h7.
    choose b bs (b == 61) _ _ (one_sign Equals b 61 bs equals) (λ h8.
    choose b bs (b == 124) _ _ (one_sign Bar b 124 bs bar) (λ h9.
    other_spelled b bs start digit blank (no_sign b h1 h2 h3 h4 h5 h6 h7 h8 h9))))))))))))))

digit_no_letter : (b : ℕ) → is_digit b ≡ true → is_name_start b ≡ false
digit_no_letter b h = grind arith

-- what the token at a name character or at a digit is
token_at-name :
    (b : ℕ) (bs : List ℕ) → is_name_start b ≡ true
    → token_at b bs ≡ ((if nat_le (1 + prefix_len is_name_byte bs) max_name_bytes then Name else Bad), 1 + prefix_len is_name_byte bs)
unfolding token_at
token_at-name b bs h = rw h refl

token_at-digit : (b : ℕ) (bs : List ℕ) → is_digit b ≡ true → token_at b bs ≡ (Number, 1 + prefix_len is_digit bs)
unfolding token_at
token_at-digit b bs h = rw (digit_no_letter b h, h) refl

continues : (c : ℕ) (bs : List ℕ) → c < 128 → list_all is_continuation bs ≡ true → (bs ≡ [] → ⊥) → (left : List ℕ) → begins_with c (bs ++ left) ≡ false
continues c [] small h some left = absurd (some refl)
continues c (b ∷ bs) small h some left = let parts = and_parts (is_continuation b) (list_all is_continuation bs) h in let here = parts.0 in grind arith

-- any other character, of which the bytes aren't the first of a longer sign
token_at-other :
    (b : ℕ) (bs : List ℕ) → is_name_start b ≡ false → is_digit b ≡ false → is_sign b ≡ false
    → begins_with 62 bs ≡ false → begins_with 61 bs ≡ false → token_at b bs ≡ (Bad, 1 + prefix_len is_continuation bs)
unfolding token_at
token_at-other b bs start digit sign no_to no_at_most =
    let s8 = or_parts _ (b == 124) sign in
    let s7 = or_parts _ (b == 61) s8.0 in
    let s6 = or_parts _ (b == 58) s7.0 in
    let s5 = or_parts _ (b == 36) s6.0 in
    let s4 = or_parts _ (b == 44) s5.0 in
    let s3 = or_parts _ (b == 41) s4.0 in
    let s2 = or_parts _ (b == 40) s3.0 in
    let s1 = or_parts (b == 38) (b == 42) s2.0 in
    let to_no = and_right (b == 45) (begins_with 62 bs) no_to in
    let at_most_no = and_right (b == 60) (begins_with 61 bs) no_at_most in
    let h1 = s1.0 in let h2 = s1.1 in let h3 = s2.1 in let h4 = s3.1 in let h5 = s4.1 in let h6 = s5.1 in let h7 = s6.1 in let h8 = s7.1 in let h9 = s8.1 in
    rw (start, digit, to_no, at_most_no, h1, h2, h3, h4, h5, h6, h7, h8, h9) refl

-- the token at the front of the same bytes is at least as long
abbrev Reaches : List ℕ → List ℕ → Type 0
Reaches [] left = Unit {0}
Reaches (b ∷ bs) left = length (b ∷ bs) ≤ (token_at b (bs ++ left)).1

one_byte : (b : ℕ) (left : List ℕ) → Reaches (b ∷ []) left
one_byte b left = let long = token_at-within b left in omega (arith, long.0)

by_length : (b : ℕ) (bs left : List ℕ) (p : TokenKind × ℕ) → token_at b (bs ++ left) ≡ p → length (b ∷ bs) ≤ p.1 → Reaches (b ∷ bs) left
by_length b bs left p e h = subst (λ (q : TokenKind × ℕ). length (b ∷ bs) ≤ q.1) (sym e) h

reaches_name : (b : ℕ) (bs left : List ℕ) → is_name_start b ≡ true → list_all is_name_byte bs ≡ true → Reaches (b ∷ bs) left
reaches_name b bs left start all = by_length b bs left _ (token_at-name b (bs ++ left) start) (let run = prefix_len-list_all is_name_byte bs left all in omega arith)

reaches_other :
    (b : ℕ) (bs left : List ℕ) → is_name_start b ≡ false → is_digit b ≡ false → is_sign b ≡ false
    → list_all is_continuation bs ≡ true → Reaches (b ∷ bs) left
reaches_other b [] left start digit sign all = one_byte b left
reaches_other b (c ∷ bs) left start digit sign all =
    by_length b (c ∷ bs) left _ (token_at-other b (c ∷ bs ++ left) start digit sign (continues 62 (c ∷ bs) (omega arith) all (λ e. cc) left) (continues 61 (c ∷ bs) (omega arith) all (λ e. cc) left))
    (let run = prefix_len-list_all is_continuation (c ∷ bs) left all in omega arith)

reaches : (kind : TokenKind) (front left : List ℕ) → Spells kind front → Reaches front left
unfolding token_at
reaches _ _ left (name {b} {bs} start all few) = reaches_name b bs left start all
reaches _ _ left (number {b} {bs} start all) = by_length b bs left _ (token_at-digit b (bs ++ left) start) (let run = prefix_len-list_all is_digit bs left all in omega arith)
reaches _ _ left to = omega arith
reaches _ _ left at_most = omega arith
reaches _ _ left and = one_byte 38 left
reaches _ _ left times = one_byte 42 left
reaches _ _ left opens = one_byte 40 left
reaches _ _ left closes = one_byte 41 left
reaches _ _ left comma = one_byte 44 left
reaches _ _ left dollar = one_byte 36 left
reaches _ _ left colon = one_byte 58 left
reaches _ _ left equals = one_byte 61 left
reaches _ _ left bar = one_byte 124 left
reaches _ _ left (too_long {b} {bs} start all many) = reaches_name b bs left start all
reaches _ _ left (other {b} {bs} start digit sign blank all) = reaches_other b bs left start digit sign all

-- no front that is spelled by a kind is longer than the token
longest_front : (b : ℕ) (bs : List ℕ) (kind : TokenKind) (front rest : List ℕ) → front ++ rest ≡ b ∷ bs → Spells kind front → length front ≤ (token_at b bs).1
longest_front b bs kind [] rest e s = omega arith
longest_front b bs kind (c ∷ cs) rest e s =
    let first : c ≡ b = cc in
    let others : cs ++ rest ≡ bs = cc in
    subst (λ (x : ℕ). length (c ∷ cs) ≤ (token_at x bs).1) first (subst (λ (xs : List ℕ). length (c ∷ cs) ≤ (token_at c xs).1) others (reaches kind (c ∷ cs) rest s))

-- the token that bytes begin with is the longest
pub token_longest : (b : ℕ) (bs : List ℕ) → is_blank b ≡ false → IsLongest (token_at b bs).0 (take (token_at b bs).1 (b ∷ bs)) (drop (token_at b bs).1 (b ∷ bs))
token_longest b bs blank =
    let n = (token_at b bs).1 in
    let long = token_at-within b bs in
    let whole : take n (b ∷ bs) ++ drop n (b ∷ bs) ≡ b ∷ bs = take-append-drop n (b ∷ bs) in
    let size : length (take n (b ∷ bs)) ≡ n = length-take-le n (b ∷ bs) (omega (arith, long.1)) in
    record {
      spelled = token_spelled b bs blank;
      longest = λ kind front rest e s. let most = longest_front b bs kind front rest (e ∙ whole) s in omega (arith, most, size);
    }

-- the token of these bytes, all of them, has the kind
abbrev IsOfKind : TokenKind → List ℕ → Type 0
IsOfKind kind [] = ⊥
IsOfKind kind (b ∷ bs) = kind ≡ (token_at b bs).0

by_kind : (kind : TokenKind) (b : ℕ) (bs : List ℕ) (p : TokenKind × ℕ) → token_at b bs ≡ p → kind ≡ p.0 → IsOfKind kind (b ∷ bs)
by_kind kind b bs p e h = h ∙ sym (ap (λ (q : TokenKind × ℕ). q.0) e)

continues_not : (c : ℕ) (bs : List ℕ) → c < 128 → list_all is_continuation bs ≡ true → begins_with c bs ≡ false
continues_not c [] small h = refl
continues_not c (b ∷ bs) small h = let parts = and_parts (is_continuation b) (list_all is_continuation bs) h in let here = parts.0 in grind arith

kind_of_name :
    (b : ℕ) (bs : List ℕ) → list_all is_name_byte bs ≡ true → length (b ∷ bs) ≤ max_name_bytes
    → Name ≡ (if nat_le (1 + prefix_len is_name_byte bs) max_name_bytes then Name else Bad)
kind_of_name b bs all few = let run = prefix_len-list_all-nil is_name_byte bs all in let test : nat_le (1 + prefix_len is_name_byte bs) max_name_bytes ≡ true = le-leb _ _ (omega arith) in rw test refl

kind_of_long :
    (b : ℕ) (bs : List ℕ) → list_all is_name_byte bs ≡ true → max_name_bytes < length (b ∷ bs)
    → Bad ≡ (if nat_le (1 + prefix_len is_name_byte bs) max_name_bytes then Name else Bad)
kind_of_long b bs all many = let run = prefix_len-list_all-nil is_name_byte bs all in let test : nat_le (1 + prefix_len is_name_byte bs) max_name_bytes ≡ false = lt-leb _ _ (omega arith) in rw test refl

kind_is : (kind : TokenKind) (text : List ℕ) → Spells kind text → IsOfKind kind text
unfolding token_at
kind_is _ _ (name {b} {bs} start all few) = by_kind Name b bs _ (token_at-name b bs start) (kind_of_name b bs all few)
kind_is _ _ (number {b} {bs} start all) = by_kind Number b bs _ (token_at-digit b bs start) refl
kind_is _ _ to = refl
kind_is _ _ at_most = refl
kind_is _ _ and = refl
kind_is _ _ times = refl
kind_is _ _ opens = refl
kind_is _ _ closes = refl
kind_is _ _ comma = refl
kind_is _ _ dollar = refl
kind_is _ _ colon = refl
kind_is _ _ equals = refl
kind_is _ _ bar = refl
kind_is _ _ (too_long {b} {bs} start all many) = by_kind Bad b bs _ (token_at-name b bs start) (kind_of_long b bs all many)
kind_is _ _ (other {b} {bs} start digit sign blank all) = by_kind Bad b bs _ (token_at-other b bs start digit sign (continues_not 62 bs (omega arith) all) (continues_not 61 bs (omega arith) all)) refl

-- no bytes are spelled by two kinds
pub Spells-once : (kind kind' : TokenKind) (text : List ℕ) → Spells kind text → Spells kind' text → kind ≡ kind'
Spells-once kind kind' [] s s' = absurd (kind_is kind [] s)
Spells-once kind kind' (b ∷ bs) s s' = kind_is kind (b ∷ bs) s ∙ sym (kind_is kind' (b ∷ bs) s')
