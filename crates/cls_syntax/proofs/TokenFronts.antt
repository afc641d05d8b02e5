-- The fronts of tokens, by what the code tests.
use Rattle.std.proofs.Common.{◌≡◌, ℕ, Bool, true, false, List, length, ◌∷◌, refl, ap, sym, ◌∙◌}
use Rattle.std.specs.Prelude.{Option, Some, None, Ok, Err, if◌then◌else◌}
use Rattle.std.specs.Str.{bytes_eq}
use Rattle.std.proofs.lemmas.Slice.Eq.{bytes_eq-Decides}
use Rattle.std.proofs.lemmas.Bool.{false_from_ne_true}
use Rattle.cls_lexer.specs.declared.token.TokenKind.{TokenKind}
use Rattle.cls_lexer.specs.declared.token.TokenKind.TheVariants.{Name}
use Rattle.cls_lexer.specs.declared.token.Token.{Token}
use Rattle.cls_lexer.specs.Words as word
use Rattle.cls_lexer.specs.Words.{Word, name, number, sign, word_from, word_of, name_word, reserved_name}
use Rattle.cls_syntax.specs.declared.role.Role.{Role}
use Rattle.cls_syntax.specs.Roles.{may_stand, takes_names}
use Rattle.cls_syntax.specs.Sorts.{is_name}
use Rattle.cls_syntax.specs.Fronts.{first_name, after_word, is_word}
use Rattle.cls_syntax.specs.Faults.{stop}
use Rattle.cls_syntax.specs.Forms.{the_word, a_name}
use Rattle.cls_syntax.specs.LineReading.{item_front, after_or_stop, or_stop, in_role}

name_front_at : (b : Bool) (x : List ℕ) (ws : List Word) → is_name (if b then word.omega else name x) ≡ true → first_name ((if b then word.omega else name x) ∷ ws) ≡ Some (x, ws)
name_front_at true x ws h = cc
name_front_at false x ws h = refl

-- the text of what the code takes for a name
name_front_of : (kind : TokenKind) (x : List ℕ) (ws : List Word) → is_name (word_from kind x) ≡ true → first_name (word_from kind x ∷ ws) ≡ Some (x, ws)
name_front_of Name x ws h = name_front_at (bytes_eq x reserved_name) x ws h
name_front_of _ x ws h = cc

other_front : (w : Word) (ws : List Word) → is_name w ≡ false → first_name (w ∷ ws) ≡ None
other_front word.omega ws h = refl
other_front (name x) ws h = cc
other_front (number n) ws h = refl
other_front (sign kind) ws h = refl

-- a name that may stand there
pub name_front : (r : Role) (l : Token) (ws : List Word) → is_name (word_of l) ≡ true → may_stand r l.text.now ≡ true → item_front (a_name r) (word_of l ∷ ws) ≡ Ok (l.text.now, ws)
name_front r l ws h m =
    ap (λ (o : Option (List ℕ × List Word)). or_stop (takes_names r) (word_of l ∷ ws) (in_role r o)) (name_front_of l.kind l.text.now ws h)
    ∙ ap (λ (b : Bool). or_stop {A = List ℕ} (takes_names r) (word_of l ∷ ws) (if b then Some (l.text.now, ws) else None)) m

-- a name that may not
pub other_name_front : (r : Role) (l : Token) (ws : List Word) → is_name (word_of l) ≡ true → may_stand r l.text.now ≡ false → item_front (a_name r) (word_of l ∷ ws) ≡ Err (stop (word_of l ∷ ws) (takes_names r))
other_name_front r l ws h m =
    ap (λ (o : Option (List ℕ × List Word)). or_stop (takes_names r) (word_of l ∷ ws) (in_role r o)) (name_front_of l.kind l.text.now ws h)
    ∙ ap (λ (b : Bool). or_stop {A = List ℕ} (takes_names r) (word_of l ∷ ws) (if b then Some (l.text.now, ws) else None)) m

-- no name
pub no_name_front : (r : Role) (l : Token) (ws : List Word) → is_name (word_of l) ≡ false → item_front (a_name r) (word_of l ∷ ws) ≡ Err (stop (word_of l ∷ ws) (takes_names r))
no_name_front r l ws h = ap (λ (o : Option (List ℕ × List Word)). or_stop (takes_names r) (word_of l ∷ ws) (in_role r o)) (other_front (word_of l) ws h)

pub ruleset name_fronts = (name_front, other_name_front, no_name_front)

-- the word, or another
after_front : (x : List ℕ) (w : Word) (ws : List Word) → after_word x (w ∷ ws) ≡ (if is_word x w then Some ws else None)
after_front x word.omega ws = refl
after_front x (name y) ws = refl
after_front x (number n) ws = refl
after_front x (sign kind) ws = refl

pub word_front : (x : List ℕ) (w : Word) (ws : List Word) → is_word x w ≡ true → item_front (the_word x) (w ∷ ws) ≡ Ok (tt, ws)
word_front x w ws h = ap (λ (o : Option (List Word)). after_or_stop (w ∷ ws) o) (after_front x w ws ∙ ap (λ (b : Bool). if b then Some ws else None) h)

pub no_word_front : (x : List ℕ) (w : Word) (ws : List Word) → is_word x w ≡ false → item_front (the_word x) (w ∷ ws) ≡ Err (stop (w ∷ ws) false)
no_word_front x w ws h = ap (λ (o : Option (List Word)). after_or_stop (w ∷ ws) o) (after_front x w ws ∙ ap (λ (b : Bool). if b then Some ws else None) h)

pub ruleset word_fronts = (word_front, no_word_front)

-- what the code tests of a word
name_test_at : (b : Bool) (x y : List ℕ) → is_name (if b then word.omega else name y) ≡ true → is_word x (if b then word.omega else name y) ≡ bytes_eq x y
name_test_at true x y h = cc
name_test_at false x y h = refl

name_test : (kind : TokenKind) (x y : List ℕ) → is_name (word_from kind y) ≡ true → is_word x (word_from kind y) ≡ bytes_eq x y
name_test Name x y h = name_test_at (bytes_eq y reserved_name) x y h
name_test _ x y h = cc

no_name_test : (x : List ℕ) (w : Word) → is_name w ≡ false → is_word x w ≡ false
no_name_test x word.omega h = refl
no_name_test x (name y) h = cc
no_name_test x (number n) h = refl
no_name_test x (sign kind) h = refl

pub same_test : (x : List ℕ) (l : Token) → is_name (word_of l) ≡ true → l.text.now ≡ x → is_word x (word_of l) ≡ true
same_test x l h e = name_test l.kind x l.text.now h ∙ (bytes_eq-Decides x l.text.now).1 (sym e)

pub other_test : (x : List ℕ) (l : Token) → is_name (word_of l) ≡ true → (l.text.now ≡ x → ⊥) → is_word x (word_of l) ≡ false
other_test x l h n = name_test l.kind x l.text.now h ∙ false_from_ne_true _ (λ t. n (sym ((bytes_eq-Decides x l.text.now).0 t)))

pub none_test : (x : List ℕ) (l : Token) → is_name (word_of l) ≡ false → is_word x (word_of l) ≡ false
none_test x l h = no_name_test x (word_of l) h

pub length_test : (x : List ℕ) (l : Token) → (length l.text.now ≡ length x → ⊥) → is_word x (word_of l) ≡ false
length_test x l h =
    (elim (is_name (word_of l)) as (λ b. is_name (word_of l) ≡ b → is_word x (word_of l) ≡ false) [
      | true ↦ λ e. other_test x l e (λ q. h (ap length q))
      | false ↦ λ e. none_test x l e
    ]) refl

pub ruleset word_tests = (same_test, other_test, none_test, length_test)
