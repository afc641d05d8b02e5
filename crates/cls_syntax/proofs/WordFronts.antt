-- The front of a line's words.
use Rattle.std.proofs.Common.{◌≡◌, ℕ, Bool, true, false, eqb, List, [], ◌∷◌, refl, ap, sym, ◌∙◌}
use Rattle.std.specs.Prelude.{Option, Some, None, if◌then◌else◌, ◌==◌, ◌↔◌}
use Rattle.std.specs.Option.{option_map_or}
use Rattle.std.specs.Str.{bytes_eq}
use Rattle.std.proofs.lemmas.Slice.Eq.{bytes_eq-Decides}
use Rattle.std.proofs.lemmas.Bool.{false_from_ne_true, eqb-true, eq-eqb}
use Rattle.cls_lexer.specs.declared.token.TokenKind.{TokenKind}
use Rattle.cls_lexer.specs.declared.token.TokenKind.TheVariants.{Name, Number, To, And, Times, Open, Close, Comma, Dollar, Colon, Equals, Bar, AtMost, Bad}
use Rattle.cls_lexer.specs.Words.{Word, omega, name, number, sign}
use Rattle.cls_syntax.specs.Fronts.{first_name, first_number, after_word, after_sign, kind_place, FrontsAreExact}

-- the parts of a pair that is there
pub some_pair : {A B : Type 0} (a a' : A) (b b' : B) → Path (Option (A × B)) (Some (a, b)) (Some (a', b')) → (a ≡ a') × (b ≡ b')
some_pair {A} {B} a a' b b' h = (ap (λ (o : Option (A × B)). option_map_or (λ p. p.0) o a) h, ap (λ (o : Option (A × B)). option_map_or (λ p. p.1) o b) h)

-- a name that is the word
pub after_word-same : (ws rest : List Word) (text word : List ℕ) → first_name ws ≡ Some (text, rest) → text ≡ word → after_word word ws ≡ Some rest
after_word-same [] rest text word h e = cc
after_word-same (omega ∷ ws) rest text word h e = cc
after_word-same (name x ∷ ws) rest text word h e =
    let parts = some_pair {A = List ℕ} {B = List Word} x text ws rest h in
    let same = parts.0 in
    let left = parts.1 in
    let test : bytes_eq word x ≡ true = (bytes_eq-Decides word x).1 (sym (same ∙ e)) in
    ap (λ (b : Bool). if b then Some ws else None) test ∙ ap (λ (r : List Word). Some r) left
after_word-same (number x ∷ ws) rest text word h e = cc
after_word-same (sign k ∷ ws) rest text word h e = cc

-- a name that is another
pub after_word-other : (ws rest : List Word) (text word : List ℕ) → first_name ws ≡ Some (text, rest) → (text ≡ word → ⊥) → after_word word ws ≡ None
after_word-other [] rest text word h e = refl
after_word-other (omega ∷ ws) rest text word h e = refl
after_word-other (name x ∷ ws) rest text word h e =
    let same = (some_pair {A = List ℕ} {B = List Word} x text ws rest h).0 in
    let test : bytes_eq word x ≡ false = false_from_ne_true _ (λ t. e (sym same ∙ sym ((bytes_eq-Decides word x).0 t))) in
    ap (λ (b : Bool). if b then Some ws else None) test
after_word-other (number x ∷ ws) rest text word h e = refl
after_word-other (sign k ∷ ws) rest text word h e = refl

-- no name
pub after_word-none : (ws : List Word) (word : List ℕ) → first_name ws ≡ None → after_word word ws ≡ None
after_word-none [] word h = refl
after_word-none (omega ∷ ws) word h = refl
after_word-none (name x ∷ ws) word h = cc
after_word-none (number x ∷ ws) word h = refl
after_word-none (sign k ∷ ws) word h = refl

pub ruleset fronts = (after_word-same, after_word-other, after_word-none)

first_name-exact : (ws rest : List Word) (text : List ℕ) → (first_name ws ≡ Some (text, rest)) ↔ (ws ≡ name text ∷ rest)
first_name-exact [] rest text = (λ h. cc, λ h. cc)
first_name-exact (omega ∷ ws) rest text = (λ h. cc, λ h. cc)
first_name-exact (name x ∷ ws) rest text = (
  λ h. let parts = some_pair {A = List ℕ} {B = List Word} x text ws rest h in let same = parts.0 in let left = parts.1 in cc,
  λ h. let same : x ≡ text = cc in let left : ws ≡ rest = cc in λ i. Some (same i, left i),
)
first_name-exact (number x ∷ ws) rest text = (λ h. cc, λ h. cc)
first_name-exact (sign k ∷ ws) rest text = (λ h. cc, λ h. cc)

first_number-exact : (ws rest : List Word) (digits : List ℕ) → (first_number ws ≡ Some (digits, rest)) ↔ (ws ≡ number digits ∷ rest)
first_number-exact [] rest text = (λ h. cc, λ h. cc)
first_number-exact (omega ∷ ws) rest text = (λ h. cc, λ h. cc)
first_number-exact (name x ∷ ws) rest text = (λ h. cc, λ h. cc)
first_number-exact (number x ∷ ws) rest text = (
  λ h. let parts = some_pair {A = List ℕ} {B = List Word} x text ws rest h in let same = parts.0 in let left = parts.1 in cc,
  λ h. let same : x ≡ text = cc in let left : ws ≡ rest = cc in λ i. Some (same i, left i),
)
first_number-exact (sign k ∷ ws) rest text = (λ h. cc, λ h. cc)

-- a choice by a test that decides a fact
chosen : {P : Type 0} (b : Bool) (ws rest : List Word) → (b ≡ true → P) → (if b then Some ws else None) ≡ Some rest → P × (ws ≡ rest)
chosen true ws rest fact h = (fact refl, cc)
chosen false ws rest fact h = cc

after_word-exact : (ws rest : List Word) (text : List ℕ) → (after_word text ws ≡ Some rest) ↔ (ws ≡ name text ∷ rest)
after_word-exact [] rest text = (λ h. cc, λ h. cc)
after_word-exact (omega ∷ ws) rest text = (λ h. cc, λ h. cc)
after_word-exact (name x ∷ ws) rest text = (
  λ h. let r = chosen (bytes_eq text x) ws rest (bytes_eq-Decides text x).0 h in let same = r.0 in let left = r.1 in cc,
  λ h. let same : text ≡ x = cc in let left : ws ≡ rest = cc in ap (λ (b : Bool). if b then Some ws else None) ((bytes_eq-Decides text x).1 same) ∙ ap (λ (r : List Word). Some r) left,
)
after_word-exact (number x ∷ ws) rest text = (λ h. cc, λ h. cc)
after_word-exact (sign k ∷ ws) rest text = (λ h. cc, λ h. cc)

-- the kind at the place
abbrev kind_from : ℕ → TokenKind
kind_from n =
    if n == 0 then Name
    else (if n == 1 then Number
    else (if n == 2 then To
    else (if n == 3 then And
    else (if n == 4 then Times
    else (if n == 5 then Open
    else (if n == 6 then Close
    else (if n == 7 then Comma
    else (if n == 8 then Dollar
    else (if n == 9 then Colon
    else (if n == 10 then Equals
    else (if n == 11 then Bar
    else (if n == 12 then AtMost
    else Bad))))))))))))

kind_from-place : (kind : TokenKind) → kind_from (kind_place kind) ≡ kind
kind_from-place Name = refl
kind_from-place Number = refl
kind_from-place To = refl
kind_from-place And = refl
kind_from-place Times = refl
kind_from-place Open = refl
kind_from-place Close = refl
kind_from-place Comma = refl
kind_from-place Dollar = refl
kind_from-place Colon = refl
kind_from-place Equals = refl
kind_from-place Bar = refl
kind_from-place AtMost = refl
kind_from-place Bad = refl

pub kind_place-same : (k l : TokenKind) → kind_place k ≡ kind_place l → k ≡ l
kind_place-same k l h = sym (kind_from-place k) ∙ (ap kind_from h ∙ kind_from-place l)

after_sign-exact : (ws rest : List Word) (kind : TokenKind) → (after_sign kind ws ≡ Some rest) ↔ (ws ≡ sign kind ∷ rest)
after_sign-exact [] rest kind = (λ h. cc, λ h. cc)
after_sign-exact (omega ∷ ws) rest kind = (λ h. cc, λ h. cc)
after_sign-exact (name x ∷ ws) rest kind = (λ h. cc, λ h. cc)
after_sign-exact (number x ∷ ws) rest kind = (λ h. cc, λ h. cc)
after_sign-exact (sign k ∷ ws) rest kind = (
  λ h. let r = chosen (eqb (kind_place kind) (kind_place k)) ws rest (λ t. kind_place-same kind k (eqb-true _ _ t)) h in let same = r.0 in let left = r.1 in cc,
  λ h. let same : k ≡ kind = cc in let left : ws ≡ rest = cc in ap (λ (b : Bool). if b then Some ws else None) (eq-eqb _ _ (ap kind_place (sym same))) ∙ ap (λ (r : List Word). Some r) left,
)

-- each front says exactly what stands there
pub fronts_exact : FrontsAreExact
fronts_exact = record { names = first_name-exact; numbers = first_number-exact; this_name = after_word-exact; signs = after_sign-exact }
