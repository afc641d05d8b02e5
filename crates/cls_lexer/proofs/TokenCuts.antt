-- Where the tokens of a line are cut, no character is split.
use Rattle.std.proofs.Common.{◌≡◌, ℕ, suc, zero, ◌+◌, ◌-◌, ◌<◌, ◌≤◌, Bool, true, false, List, [], ◌∷◌, refl, ap, sym, ◌∙◌, subst, drop, length, get_or, arith, IsUtf8, inl, inr, length-drop, get_or-drop}
use Rattle.std.specs.List.{AllByRecursion}
use Rattle.std.proofs.lemmas.List.{drop-drop, drop_more}
use Rattle.std.specs.Prelude.{◌⊎◌, if◌then◌else◌, ◌==◌, ◌&&◌}
use Rattle.std.specs.List.{prefix_len}
use Rattle.std.specs.Str.{IsCharBoundary}
use Rattle.std.proofs.lemmas.Str.{IsCharBoundary-after_ascii, IsCharBoundary-start}
use Rattle.std.proofs.lemmas.List.Sums.{prefix_len_stops, prefix_len_passes}
use Rattle.std.proofs.lemmas.Bool.{and_parts}
use Rattle.cls_lexer.specs.declared.token.TokenKind.{TokenKind}
use Rattle.cls_lexer.specs.Characters.{is_digit, is_name_start, is_name_byte, is_continuation, is_blank}
use Rattle.cls_lexer.specs.Tokens.{begins_with, token_at, located_at, tokens_from, tokens_of, IsCut}
use Rattle.cls_lexer.proofs.TokenSteps.{token_at-within, token_end}

-- a byte that doesn't go on with a character
abbrev Begins : ℕ → Type 0
Begins b = is_continuation b ≡ false

-- the token's last byte is ASCII, or the byte after it begins a character
abbrev Ends : ℕ → List ℕ → ℕ → Type 0
Ends b bs n = (get_or (b ∷ bs) (n - 1) 0 < 128) ⊎ (n < 1 + length bs → is_continuation (get_or (b ∷ bs) n 0) ≡ false)

by_run : (p : ℕ → Bool) → ((x : ℕ) → p x ≡ true → x < 128) → (b : ℕ) (bs : List ℕ) (n : ℕ) → n ≡ prefix_len p bs → b < 128 → get_or (b ∷ bs) n 0 < 128
by_run p small b bs zero e h = h
by_run p small b bs (suc n) e h = small (get_or bs n 0) (prefix_len_passes p bs n 0 (omega (arith, e)))

run_ends : (p : ℕ → Bool) → ((x : ℕ) → p x ≡ true → x < 128) → (b : ℕ) (bs : List ℕ) → b < 128 → get_or (b ∷ bs) (prefix_len p bs) 0 < 128
run_ends p small b bs h = by_run p small b bs (prefix_len p bs) refl h

small_name : (x : ℕ) → is_name_byte x ≡ true → x < 128
small_name x h = grind arith

small_start : (x : ℕ) → is_name_start x ≡ true → x < 128
small_start x h = grind arith

small_digit : (x : ℕ) → is_digit x ≡ true → x < 128
small_digit x h = grind arith

choose : (b : ℕ) (bs : List ℕ) (c : Bool) (x y : TokenKind × ℕ) → (c ≡ true → Ends b bs x.1) → Ends b bs y.1 → Ends b bs (if c then x else y).1
choose b bs true x y f g = f refl
choose b bs false x y f g = g

at_last : (b : ℕ) (bs : List ℕ) (n : ℕ) → get_or (b ∷ bs) n 0 < 128 → Ends b bs (1 + n)
at_last b bs n h = inl (let e : 1 + n - 1 ≡ n = omega arith in rw e h)

single : (b c : ℕ) (bs : List ℕ) → (b == c) ≡ true → c < 128 → Ends b bs 1
single b c bs e h = inl (grind arith)

double : (b c : ℕ) (bs : List ℕ) → begins_with c bs ≡ true → c < 128 → Ends b bs 2
double b c [] e h = cc
double b c (d ∷ bs) e h = inl (grind arith)

char_ends : (b : ℕ) (bs : List ℕ) → Ends b bs (1 + prefix_len is_continuation bs)
char_ends b bs = inr (λ l. let e : 1 + prefix_len is_continuation bs ≡ suc (prefix_len is_continuation bs) = omega arith in rw e (prefix_len_stops is_continuation bs 0 (omega arith)))

-- where the token ends
token_ends : (b : ℕ) (bs : List ℕ) → Ends b bs (token_at b bs).1
unfolding token_at
token_ends b bs =
    choose b bs (is_name_start b) _ _ (λ e. at_last b bs (prefix_len is_name_byte bs) (run_ends is_name_byte small_name b bs (small_start b e)))
    (choose b bs (is_digit b) _ _ (λ e. at_last b bs (prefix_len is_digit bs) (run_ends is_digit small_digit b bs (small_digit b e)))
    (choose b bs (b == 45 && begins_with 62 bs) _ _ (λ e. double b 62 bs (and_parts _ _ e).1 (omega arith))
    (choose b bs (b == 60 && begins_with 61 bs) _ _ (λ e. double b 61 bs (and_parts _ _ e).1 (omega arith))
    (choose b bs (b == 38) _ _ (λ e. single b 38 bs e (omega arith))
    (choose b bs (b == 42) _ _ (λ e. single b 42 bs e (omega arith))
    (choose b bs (b == 40) _ _ (λ e. single b 40 bs e (omega arith))
    (choose b bs (b == 41) _ _ (λ e. single b 41 bs e (omega arith))
    (choose b bs (b == 44) _ _ (λ e. single b 44 bs e (omega arith))
    (choose b bs (b == 36) _ _ (λ e. single b 36 bs e (omega arith))
    (choose b bs (b == 58) _ _ (λ e. single b 58 bs e (omega arith))
    (choose b bs (b == 61) _ _ (λ e. single b 61 bs e (omega arith))
    (choose b bs (b == 124) _ _ (λ e. single b 124 bs e (omega arith))
    (char_ends b bs)))))))))))))

-- from a cut, the end of the token that begins there is a cut
small_blank : (x : ℕ) → is_blank x ≡ true → x < 128
small_blank x h = grind arith

not_more : (x : ℕ) → is_continuation x ≡ false → 128 ≤ x → 192 ≤ x
not_more x h l = grind arith

pub next_cut : (line bs : List ℕ) (b at : ℕ) → IsUtf8 line → drop at line ≡ b ∷ bs → at < length line → IsCharBoundary line (at + (token_at b bs).1)
next_cut line bs b at u e l =
    let n = (token_at b bs).1 in
    let long = token_at-within b bs in
    let size : length (b ∷ bs) ≡ length line - at = ap length (sym e) ∙ length-drop at line in
    let here : (i : ℕ) → get_or line (at + i) 0 ≡ get_or (b ∷ bs) i 0 = λ i. sym (get_or-drop at line i 0) ∙ ap (λ (xs : List ℕ). get_or xs i 0) e in
    (elim (token_ends b bs) as (λ _. IsCharBoundary line (at + n)) [
      | inl small ↦
          let one : at + (n - 1) + 1 ≡ at + n = omega (arith, long.0) in
          subst (λ (k : ℕ). IsCharBoundary line k) one (IsCharBoundary-after_ascii line (at + (n - 1)) u (omega (arith, long.0, long.1, size)) (let h = here (n - 1) in omega (arith, h, small)))
      | inr start ↦ (omega (arith, long.1, size), λ inside high. let h = here n in not_more (get_or line (at + n) 0) (ap is_continuation h ∙ start (omega (arith, size, inside))) high)
    ])

cuts :
    (line bs : List ℕ) (at : ℕ) (skip : ℕ) → IsUtf8 line → drop at line ≡ bs → at + length bs ≡ length line
    → skip ≤ length bs → IsCharBoundary line (at + skip) → AllByRecursion (IsCut line) (tokens_from at skip bs)
unfolding tokens_from
cuts line [] at skip u e l s c = tt
cuts line (b ∷ bs) at (suc n) u e l s c = cuts line bs (at + 1) n u (sym (drop-drop 1 at line) ∙ ap (λ (xs : List ℕ). drop 1 xs) e) (omega (arith, l)) (omega (arith, s)) (subst (λ (k : ℕ). IsCharBoundary line k) (omega arith) c)
cuts line (b ∷ bs) at zero u e l s c =
    let tail : drop (at + 1) line ≡ bs = sym (drop-drop 1 at line) ∙ ap (λ (xs : List ℕ). drop 1 xs) e in
    let rest : at + 1 + length bs ≡ length line = omega (arith, l) in
    let long = token_at-within b bs in
    let n = (token_at b bs).1 in
    let end = next_cut line bs b at u e (omega (arith, l)) in
    let here : get_or line at 0 ≡ b = ap (λ (k : ℕ). get_or line k 0) (omega arith) ∙ (sym (get_or-drop at line 0 0) ∙ ap (λ (xs : List ℕ). get_or xs 0 0) e) in
    (elim (is_blank b) as (λ v. is_blank b ≡ v → AllByRecursion (IsCut line) (if v then tokens_from (at + 1) 0 bs else located_at at b bs ∷ tokens_from (at + 1) ((token_at b bs).1 - 1) bs)) [
      | true ↦ λ t. let small = small_blank b t in cuts line bs (at + 1) 0 u tail rest (omega arith) (subst (λ (k : ℕ). IsCharBoundary line k) (omega arith) (IsCharBoundary-after_ascii line at u (omega (arith, l)) (omega (arith, here, small))))
      | false ↦ λ t. ((subst (λ (k : ℕ). IsCharBoundary line k) (omega arith) c, subst (λ (k : ℕ). IsCharBoundary line k) (sym (token_end at b bs)) end), cuts line bs (at + 1) (n - 1) u tail rest (omega (arith, long.1)) (subst (λ (k : ℕ). IsCharBoundary line k) (omega (arith, long.0)) end))
    ]) refl

pub tokens_cut : (line : List ℕ) → IsUtf8 line → AllByRecursion (IsCut line) (tokens_of line)
tokens_cut line u = cuts line line 0 0 u refl (omega arith) (omega arith) (IsCharBoundary-start line u)

-- from a cut, the end of the token or of the blank that stands there is a cut
module _ (line bytes : List ℕ) (at : ℕ) (utf8 : IsUtf8 line) (same : bytes ≡ line) (l : at < length line) where
  pub loop_cut : (p : TokenKind × ℕ) → p ≡ token_at (get_or bytes at 0) (drop (at + 1) bytes) → IsCharBoundary line (at + p.1)
  loop_cut p is =
      let token : p ≡ token_at (get_or line at 0) (drop (at + 1) line) = is ∙ ap (λ (xs : List ℕ). token_at (get_or xs at 0) (drop (at + 1) xs)) same in
      subst (λ (k : ℕ). IsCharBoundary line (at + k)) (sym (ap (λ (q : TokenKind × ℕ). q.1) token)) (next_cut line (drop (at + 1) line) (get_or line at 0) at utf8 (drop_more line at 0 l) l)

  pub loop_blank_cut : is_blank (get_or bytes at 0) ≡ true → IsCharBoundary line (at + 1)
  loop_blank_cut blank =
      let small = small_blank (get_or line at 0) (ap (λ (xs : List ℕ). is_blank (get_or xs at 0)) (sym same) ∙ blank) in
      IsCharBoundary-after_ascii line at utf8 l small
