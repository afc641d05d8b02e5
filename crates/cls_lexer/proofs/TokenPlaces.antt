-- Where the tokens of a line lie.
use Rattle.std.proofs.Common.{◌≡◌, ℕ, suc, zero, ◌+◌, ◌-◌, ◌<◌, ◌≤◌, Bool, true, false, List, [], ◌∷◌, refl, ap, sym, ◌∙◌, subst, drop, take, length, get_or, arith, cond, count_by, not, ⊎_elim}
use Rattle.std.specs.Prelude.{if◌then◌else◌}
use Rattle.std.specs.List.{list_all, AllByRecursion}
use Rattle.std.proofs.lemmas.Bool.{and_from, not-true, not_from_false, cases_lt, and_left, and_right, le-leb, lt-leb, lt-ltb, le-ltb}
use Rattle.std.proofs.lemmas.List.{drop-drop, get_or-take, length-take-le}
use Rattle.std.proofs.lemmas.List.Sums.{sum_by-cons}
use Rattle.cls_lexer.specs.declared.token.TokenKind.{TokenKind}
use Rattle.cls_lexer.specs.Tokens.{Located}
use Rattle.cls_lexer.specs.Characters.{is_digit, is_name_start, is_name_byte, is_continuation, is_blank}
use Rattle.cls_lexer.specs.Tokens.{token_at, located_at, end_of, tokens_from, tokens_of}
use Rattle.cls_lexer.specs.Spelling.{Spells, name, number, to, at_most, and, times, opens, closes, comma, dollar, colon, equals, bar, too_long, other, IsLongest, IsLongestAt, holds_place, IsAscending}
use Rattle.cls_lexer.proofs.Runs.{list_all-weaker, list_all-at}
use Rattle.cls_lexer.proofs.TokenSteps.{token_at-within, token_size, token_end}
use Rattle.cls_lexer.proofs.TokenSpelling.{token_spelled, token_longest}

-- one byte of the line further
next_rest : (line bs : List ℕ) (b at : ℕ) → drop at line ≡ b ∷ bs → drop (at + 1) line ≡ bs
next_rest line bs b at e = sym (drop-drop 1 at line) ∙ ap (λ (xs : List ℕ). drop 1 xs) e

longest_here :
    (line bs : List ℕ) (b at : ℕ) → drop at line ≡ b ∷ bs → at + length (b ∷ bs) ≡ length line → is_blank b ≡ false
    → IsLongestAt line (located_at at b bs)
longest_here line bs b at e l blank =
    let n = (token_at b bs).1 in
    let long = token_at-within b bs in
    let size = token_size b bs in
    let whole : take n (b ∷ bs) ≡ take (length (take n (b ∷ bs))) (drop at line)
    = ap (λ (k : ℕ). take k (b ∷ bs)) (sym size) ∙ ap (λ (xs : List ℕ). take (length (take n (b ∷ bs))) xs) (sym e) in
    let rest : drop (end_of (located_at at b bs)) line ≡ drop n (b ∷ bs)
    = ap (λ (k : ℕ). drop k line) (token_end at b bs) ∙ (sym (drop-drop n at line) ∙ ap (λ (xs : List ℕ). drop n xs) e) in
    record {
      not_empty = omega (arith, long.0, size);
      within = omega (arith, long.1, size, l);
      stands = whole;
      is = subst (λ (ys : List ℕ). IsLongest (token_at b bs).0 (take n (b ∷ bs)) ys) (sym rest) (token_longest b bs blank);
    }

longest_from : (line bs : List ℕ) (at skip : ℕ) → drop at line ≡ bs → at + length bs ≡ length line → AllByRecursion (IsLongestAt line) (tokens_from at skip bs)
unfolding tokens_from
longest_from line [] at skip e l = tt
longest_from line (b ∷ bs) at (suc n) e l = longest_from line bs (at + 1) n (next_rest line bs b at e) (omega (arith, l))
longest_from line (b ∷ bs) at zero e l =
    (elim (is_blank b) as (λ v. is_blank b ≡ v → AllByRecursion (IsLongestAt line) (if v then tokens_from (at + 1) 0 bs else located_at at b bs ∷ tokens_from (at + 1) ((token_at b bs).1 - 1) bs)) [
      | true ↦ λ t. longest_from line bs (at + 1) 0 (next_rest line bs b at e) (omega (arith, l))
      | false ↦ λ t. (longest_here line bs b at e l t, longest_from line bs (at + 1) ((token_at b bs).1 - 1) (next_rest line bs b at e) (omega (arith, l)))
    ]) refl

-- each token of a line is the longest that begins there
pub tokens_longest : (line : List ℕ) → AllByRecursion (IsLongestAt line) (tokens_of line)
tokens_longest line = longest_from line line 0 0 refl (omega arith)

ascends_from : (bs : List ℕ) (least at skip : ℕ) → least ≤ at + skip → IsAscending least (tokens_from at skip bs)
unfolding tokens_from
ascends_from [] least at skip h = tt
ascends_from (b ∷ bs) least at (suc n) h = ascends_from bs least (at + 1) n (omega arith)
ascends_from (b ∷ bs) least at zero h =
    let long = token_at-within b bs in
    let size = token_size b bs in
    (elim (is_blank b) as (λ v. IsAscending least (if v then tokens_from (at + 1) 0 bs else located_at at b bs ∷ tokens_from (at + 1) ((token_at b bs).1 - 1) bs)) [
      | true ↦ ascends_from bs least (at + 1) 0 (omega arith)
      | false ↦ (omega arith, ascends_from bs (end_of (located_at at b bs)) (at + 1) ((token_at b bs).1 - 1) (omega (arith, long.0, size)))
    ])

-- the tokens of a line follow one another
pub tokens_ascend : (line : List ℕ) → IsAscending 0 (tokens_of line)
tokens_ascend line = ascends_from line 0 0 0 (omega arith)

abbrev is_ink : ℕ → Bool
is_ink b = not (is_blank b)

ink_name : (x : ℕ) → is_name_byte x ≡ true → is_ink x ≡ true
ink_name x h = grind arith

ink_start : (x : ℕ) → is_name_start x ≡ true → is_ink x ≡ true
ink_start x h = grind arith

ink_digit : (x : ℕ) → is_digit x ≡ true → is_ink x ≡ true
ink_digit x h = grind arith

ink_continuation : (x : ℕ) → is_continuation x ≡ true → is_ink x ≡ true
ink_continuation x h = grind arith

-- no byte of a token is blank
ink : (kind : TokenKind) (text : List ℕ) → Spells kind text → list_all is_ink text ≡ true
ink _ _ (name {b} {bs} start all few) = and_from _ _ (ink_start b start) (list_all-weaker is_name_byte is_ink ink_name bs all)
ink _ _ (number {b} {bs} start all) = and_from _ _ (ink_digit b start) (list_all-weaker is_digit is_ink ink_digit bs all)
ink _ _ to = refl
ink _ _ at_most = refl
ink _ _ and = refl
ink _ _ times = refl
ink _ _ opens = refl
ink _ _ closes = refl
ink _ _ comma = refl
ink _ _ dollar = refl
ink _ _ colon = refl
ink _ _ equals = refl
ink _ _ bar = refl
ink _ _ (too_long {b} {bs} start all many) = and_from _ _ (ink_start b start) (list_all-weaker is_name_byte is_ink ink_name bs all)
ink _ _ (other {b} {bs} start digit sign blank all) = and_from _ _ (not_from_false _ blank) (list_all-weaker is_continuation is_ink ink_continuation bs all)

not_blank : (b : ℕ) (bs : List ℕ) (i : ℕ) → is_blank b ≡ false → i < (token_at b bs).1 → is_blank (get_or (b ∷ bs) i 0) ≡ false
not_blank b bs i blank l =
    let n = (token_at b bs).1 in
    let long = token_at-within b bs in
    let all = ink (token_at b bs).0 (take n (b ∷ bs)) (token_spelled b bs blank) in
    let size : length (take n (b ∷ bs)) ≡ n = length-take-le n (b ∷ bs) (omega (arith, long.1)) in
    not-true _ (ap is_ink (sym (get_or-take n (b ∷ bs) i 0 l)) ∙ list_all-at is_ink (take n (b ∷ bs)) i all (omega (arith, size, l)))

-- how many tokens hold the place
abbrev holders : ℕ → List Located → ℕ
holders place tokens = count_by (holds_place place) tokens

holders-in :
    (place : ℕ) (token : Located) (tokens : List Located) → token.start ≤ place → place < end_of token
    → holders place (token ∷ tokens) ≡ 1 + holders place tokens
holders-in place token tokens h l =
    let test : holds_place place token ≡ true = and_from _ _ (le-leb _ _ h) (lt-ltb _ _ l) in
    sum_by-cons (λ (t : Located). cond (holds_place place t) 1 0) token tokens ∙ ap (λ (b : Bool). cond b 1 0 + holders place tokens) test

holders-before : (place : ℕ) (token : Located) (tokens : List Located) → place < token.start → holders place (token ∷ tokens) ≡ holders place tokens
holders-before place token tokens h =
    let test : holds_place place token ≡ false = and_left _ _ (lt-leb _ _ h) in
    sum_by-cons (λ (t : Located). cond (holds_place place t) 1 0) token tokens ∙ (ap (λ (b : Bool). cond b 1 0 + holders place tokens) test ∙ omega arith)

holders-past : (place : ℕ) (token : Located) (tokens : List Located) → end_of token ≤ place → holders place (token ∷ tokens) ≡ holders place tokens
holders-past place token tokens h =
    let test : holds_place place token ≡ false = and_right _ _ (le-ltb _ _ h) in
    sum_by-cons (λ (t : Located). cond (holds_place place t) 1 0) token tokens ∙ (ap (λ (b : Bool). cond b 1 0 + holders place tokens) test ∙ omega arith)

-- the tokens that are still to come hold no earlier place
holders-early : (bs : List ℕ) (place at skip : ℕ) → place < at + skip → holders place (tokens_from at skip bs) ≡ 0
unfolding tokens_from
holders-early [] place at skip h = refl
holders-early (b ∷ bs) place at (suc n) h = holders-early bs place (at + 1) n (omega arith)
holders-early (b ∷ bs) place at zero h =
    elim (is_blank b) as (λ v. holders place (if v then tokens_from (at + 1) 0 bs else located_at at b bs ∷ tokens_from (at + 1) ((token_at b bs).1 - 1) bs) ≡ 0) [
      | true ↦ holders-early bs place (at + 1) 0 (omega arith)
      | false ↦ holders-before place (located_at at b bs) (tokens_from (at + 1) ((token_at b bs).1 - 1) bs) (omega arith) ∙ holders-early bs place (at + 1) ((token_at b bs).1 - 1) (omega arith)
    ]

covered_from :
    (bs : List ℕ) (place at skip i : ℕ) → at + skip ≤ place → place ≡ at + i → i < length bs
    → holders place (tokens_from at skip bs) ≡ (if is_blank (get_or bs i 0) then 0 else 1)
unfolding tokens_from
covered_from [] place at skip i h e l = absurd (omega arith)
covered_from (b ∷ bs) place at (suc n) zero h e l = absurd (omega arith)
covered_from (b ∷ bs) place at (suc n) (suc i) h e l = covered_from bs place (at + 1) n i (omega arith) (omega arith) (omega arith)
covered_from (b ∷ bs) place at zero zero h e l =
    let long = token_at-within b bs in
    let n = (token_at b bs).1 in
    let size = token_size b bs in
    elim (is_blank b) as (λ v. holders place (if v then tokens_from (at + 1) 0 bs else located_at at b bs ∷ tokens_from (at + 1) (n - 1) bs) ≡ (if v then 0 else 1)) [
      | true ↦ holders-early bs place (at + 1) 0 (omega arith)
      | false ↦ holders-in place (located_at at b bs) (tokens_from (at + 1) (n - 1) bs) (omega arith) (omega (arith, long.0, size)) ∙ ap (λ (k : ℕ). 1 + k) (holders-early bs place (at + 1) (n - 1) (omega arith))
    ]
covered_from (b ∷ bs) place at zero (suc i) h e l =
    let long = token_at-within b bs in
    let n = (token_at b bs).1 in
    let size = token_size b bs in
    let later = covered_from bs place (at + 1) (n - 1) i in
    (elim (is_blank b) as (λ v. is_blank b ≡ v → holders place (if v then tokens_from (at + 1) 0 bs else located_at at b bs ∷ tokens_from (at + 1) (n - 1) bs) ≡ (if is_blank (get_or bs i 0) then 0 else 1)) [
      | true ↦ λ t. covered_from bs place (at + 1) 0 i (omega arith) (omega arith) (omega arith)
      | false ↦ λ t. ⊎_elim
          (λ (near : suc i < n).
          let ink_here : is_blank (get_or bs i 0) ≡ false = not_blank b bs (suc i) t near in
          holders-in place (located_at at b bs) (tokens_from (at + 1) (n - 1) bs) (omega arith) (omega (arith, size, near)) ∙ (ap (λ (k : ℕ). 1 + k) (holders-early bs place (at + 1) (n - 1) (omega arith)) ∙ ap (λ (v : Bool). if v then 0 else 1) (sym ink_here)))
          (λ (far : n ≤ suc i). holders-past place (located_at at b bs) (tokens_from (at + 1) (n - 1) bs) (omega (arith, size, far)) ∙ later (omega (arith, long.0)) (omega arith) (omega arith))
          (cases_lt (suc i) n)
    ]) refl

-- each byte that isn't blank lies in one token, and a blank in none
pub tokens_cover :
    (line : List ℕ) (place : ℕ) → place < length line
    → count_by (holds_place place) (tokens_of line) ≡ (if is_blank (get_or line place 0) then 0 else 1)
tokens_cover line place l = covered_from line place 0 0 place (omega arith) (omega arith) l
