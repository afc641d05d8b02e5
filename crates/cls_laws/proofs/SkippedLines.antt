-- A line that says nothing begins with no name, so it opens no certificate and changes nothing.
use Rattle.std.proofs.Common.{ℕ, ◌≡◌, ◌+◌, ◌⊎◌, inl, inr, Bool, true, false, List, [], ◌∷◌, length, refl, sym, ◌∙◌, ap, map, codes, arith}
use Rattle.std.specs.Prelude.{◌==◌, ◌||◌}
use Rattle.std.proofs.lemmas.Bool.{true≢false}
use Rattle.std.proofs.lemmas.Bool.Decides.{nat_tests}
use Rattle.std.proofs.lemmas.Slice.Eq.{bytes_eq-Decides}
use Rattle.cls_lexer.specs.Characters.{is_blank}
use Rattle.cls_lexer.specs.Skipped.{says_nothing, IsSkipped}
use Rattle.cls_lexer.specs.Tokens.{token_at, tokens_from, located_at}
use Rattle.cls_lexer.specs.Words as word
use Rattle.cls_lexer.specs.Words.{Word, name, number, sign, said, words_of}
use Rattle.cls_syntax.specs.Fronts.{is_word}
use Rattle.cls_query.specs.Readable.{begins_with}
use Rattle.cls_replies.specs.LineKinds.{Opens, Changes}

hash : (x : List ℕ) (at : ℕ) (bs : List ℕ) → is_word x (said (located_at at 35 bs)) ≡ false
unfolding token_at
hash x at bs = refl

is_hash : (b : ℕ) → (b == 35) ≡ true → b ≡ 35
is_hash b e = grind (arith, nat_tests)

-- the words begin with this name, from this place on
abbrev Begins : List ℕ → ℕ → List ℕ → Type 0
Begins x at bs = begins_with x (map said (tokens_from at 0 bs)) ≡ true

step : (x : List ℕ) (at b : ℕ) (bs : List ℕ) (blank : Bool) → is_blank b ≡ blank → (says_nothing bs ≡ true → Begins x (at + 1) bs → ⊥) → says_nothing (b ∷ bs) ≡ true → Begins x at (b ∷ bs) → ⊥
unfolding tokens_from
step x at b bs true e rest h k = rest (rw e at h) (rw e at k)
step x at b bs false e rest h k =
    let none : (b == 35) ≡ true = rw e at h in
    let begins : is_word x (said (located_at at b bs)) ≡ true = rw e at k in
    true≢false (sym begins ∙ (ap (λ (c : ℕ). is_word x (said (located_at at c bs))) (is_hash b none) ∙ hash x at bs))

no_name : (x : List ℕ) (at : ℕ) (bs : List ℕ) → says_nothing bs ≡ true → Begins x at bs → ⊥
unfolding tokens_from
no_name x at [] h k = true≢false (sym k)
no_name x at (b ∷ bs) h k = step x at b bs (is_blank b) refl (no_name x (at + 1) bs) h k

pub skipped_nameless : (x line : List ℕ) → IsSkipped line → begins_with x (words_of line) ≡ true → ⊥
unfolding words_of
skipped_nameless x line h k = no_name x 0 line h.1 k

pub skipped_opens : (line : List ℕ) → IsSkipped line → Opens line → ⊥
skipped_opens line h k = skipped_nameless (codes "verify") line h k.begins

-- nor does it change anything
or_true : (a b : Bool) → (a || b) ≡ true → (a ≡ true) ⊎ (b ≡ true)
or_true true b e = inl refl
or_true false b e = inr e

pub skipped_changes : (line : List ℕ) → IsSkipped line → Changes line → ⊥
skipped_changes line h k = elim (or_true (begins_with (codes "add") (words_of line)) (begins_with (codes "drop") (words_of line)) k.begins) [
  | inl a ↦ skipped_nameless (codes "add") line h a
  | inr a ↦ skipped_nameless (codes "drop") line h a
]

-- no line begins with two words
two_words : (x y : List ℕ) → (x ≡ y → ⊥) → (ws : List Word) → begins_with x ws ≡ true → begins_with y ws ≡ true → ⊥
two_words x y n [] h k = true≢false (sym h)
two_words x y n (word.omega ∷ ws) h k = true≢false (sym h)
two_words x y n (name z ∷ ws) h k = n ((bytes_eq-Decides x z).0 h ∙ sym ((bytes_eq-Decides y z).0 k))
two_words x y n (number d ∷ ws) h k = true≢false (sym h)
two_words x y n (sign s ∷ ws) h k = true≢false (sym h)

-- a line that opens a certificate changes nothing
pub opens_changes : (line : List ℕ) → Opens line → Changes line → ⊥
opens_changes line h k = elim (or_true (begins_with (codes "add") (words_of line)) (begins_with (codes "drop") (words_of line)) k.begins) [
  | inl a ↦ two_words (codes "verify") (codes "add") (λ e. let n = ap length e in absurd (omega (arith, n))) (words_of line) h.begins a
  | inr a ↦ two_words (codes "verify") (codes "drop") (λ e. let n = ap length e in absurd (omega (arith, n))) (words_of line) h.begins a
]
