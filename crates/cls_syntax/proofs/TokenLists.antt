-- Tokens of one sort up to the end of a line.
use Rattle.std.proofs.Common.{◌≡◌, ℕ, suc, ◌+◌, ◌<◌, Bool, true, false, cond, List, [], ◌∷◌, refl, ap, sym, ◌∙◌, take, drop, length, arith}
use Rattle.std.specs.Prelude.{Option, Some, None, Result, IsTrue, Ok, Err, if◌then◌else◌, ◌&&◌}
use Rattle.std.specs.List.{prefix_len, list_all}
use Rattle.std.specs.Str.{bytes_eq}
use Rattle.std.proofs.lemmas.Bool.{and_parts, and_from, true≢false}
use Rattle.cls_lexer.specs.declared.token.TokenKind.{TokenKind}
use Rattle.cls_lexer.specs.declared.token.TokenKind.TheVariants.{Name, Number}
use Rattle.cls_lexer.specs.declared.token.Token.{Token}
use Rattle.cls_lexer.specs.Words as word
use Rattle.cls_lexer.specs.Words.{Word, name, number, sign, words, word_from, word_of, reserved_name}
use Rattle.cls_syntax.specs.declared.role.Role.{Role}
use Rattle.cls_syntax.specs.Roles.{may_stand}
use Rattle.cls_syntax.specs.Sorts.{is_name, is_number}
use Rattle.cls_syntax.specs.Faults.{Stop, stop}
use Rattle.cls_syntax.specs.LineReading.{name_text, number_text, in_front, taken, all_read}
use Rattle.cls_syntax.specs.TokenTexts.{texts}

next_count : (n : ℕ) → 1 + n ≡ suc n
next_count n = omega arith

-- The test says which tokens are of the sort.
module _ (take_word : Word → Option (List ℕ)) (wants : Bool) (test : Token → Bool)
    (here : (t : Token) → test t ≡ true → take_word (word_of t) ≡ Some t.text.now)
    (gone : (t : Token) → test t ≡ false → take_word (word_of t) ≡ None) where
  abbrev ended : List (List ℕ) → List Word → Result (List (List ℕ)) Stop
  ended xs [] = Ok xs
  ended xs (w ∷ ws) = Err (stop (w ∷ ws) wants)

  one_more : (x : List ℕ) (xs : List (List ℕ)) (ws : List Word) → in_front x (ended xs ws) ≡ ended (x ∷ xs) ws
  one_more x xs [] = refl
  one_more x xs (w ∷ ws) = refl

  splits : (ts : List Token) → all_read take_word wants (words ts) ≡ ended (texts (take (prefix_len test ts) ts)) (words (drop (prefix_len test ts) ts))
  splits [] = refl
  splits (t ∷ ts) =
      (elim (test t) as (λ b. test t ≡ b → taken wants (word_of t ∷ words ts) (take_word (word_of t)) (all_read take_word wants (words ts)) ≡ ended (texts (take (cond b (1 + prefix_len test ts) 0) (t ∷ ts))) (words (drop (cond b (1 + prefix_len test ts) 0) (t ∷ ts)))) [
        | true ↦ λ e.
            let next = next_count (prefix_len test ts) in
            let n : ℕ = prefix_len test ts in
            ap (λ (o : Option (List ℕ)). taken wants (word_of t ∷ words ts) o (all_read take_word wants (words ts))) (here t e)
            ∙ (ap (λ (r : Result (List (List ℕ)) Stop). in_front t.text.now r) (splits ts)
            ∙ (one_more t.text.now (texts (take n ts)) (words (drop n ts))
            ∙ ap (λ (k : ℕ). ended (texts (take k (t ∷ ts))) (words (drop k (t ∷ ts)))) (sym next)))
        | false ↦ λ e. ap (λ (o : Option (List ℕ)). taken wants (word_of t ∷ words ts) o (all_read take_word wants (words ts))) (gone t e)
      ]) refl

  all_pass : (ts : List Token) → list_all test (take (prefix_len test ts) ts) ≡ true
  all_pass [] = refl
  all_pass (t ∷ ts) =
      (elim (test t) as (λ b. test t ≡ b → list_all test (take (cond b (1 + prefix_len test ts) 0) (t ∷ ts)) ≡ true) [
        | true ↦ λ e. ap (λ (k : ℕ). list_all test (take k (t ∷ ts))) (next_count (prefix_len test ts)) ∙ and_from _ _ e (all_pass ts)
        | false ↦ λ e. refl
      ]) refl

  nothing_left : (ts : List Token) (xs : List (List ℕ)) → length ts ≡ 0 → ended xs (words ts) ≡ Ok xs
  nothing_left [] xs h = refl
  nothing_left (t ∷ ts) xs h = absurd (omega arith)

  something_left : (ts : List Token) (xs : List (List ℕ)) → 0 < length ts → ended xs (words ts) ≡ Err (stop (words ts) wants)
  something_left [] xs h = absurd (omega arith)
  something_left (t ∷ ts) xs h = refl

  module _ (ts front rest : List Token) (n : ℕ) (is : n ≡ prefix_len test ts) (f : front ≡ take n ts) (r : rest ≡ drop n ts) where
    read : all_read take_word wants (words ts) ≡ ended (texts front) (words rest)
    read =
        splits ts ∙ (ap (λ (k : ℕ). ended (texts (take k ts)) (words (drop k ts))) (sym is)
        ∙ (ap (λ (us : List Token). ended (texts us) (words (drop n ts))) (sym f) ∙ ap (λ (us : List Token). ended (texts front) (words us)) (sym r)))

    pub all_there : length rest ≡ 0 → all_read take_word wants (words ts) ≡ Ok (texts front)
    all_there h = read ∙ nothing_left rest (texts front) h

    pub not_all : 0 < length rest → all_read take_word wants (words ts) ≡ Err (stop (words rest) wants)
    not_all h = read ∙ something_left rest (texts front) h

    pub front_passes : IsTrue (list_all test front)
    front_passes = ap (λ (us : List Token). list_all test us) (f ∙ ap (λ (k : ℕ). take k ts) is) ∙ all_pass ts

-- names
abbrev pub is_named : Role → Token → Bool
is_named r t = is_name (word_of t) && may_stand r t.text.now

name_is : (b : Bool) (x : List ℕ) (r : Role) → is_name (if b then word.omega else name x) ≡ true → may_stand r x ≡ true → name_text r (if b then word.omega else name x) ≡ Some x
name_is true x r h m = cc
name_is false x r h m = ap (λ (c : Bool). if c then Some x else None) m

name_here : (r : Role) (kind : TokenKind) (x : List ℕ) → is_name (word_from kind x) ≡ true → may_stand r x ≡ true → name_text r (word_from kind x) ≡ Some x
name_here r Name x h m = name_is (bytes_eq x reserved_name) x r h m
name_here r _ x h m = cc

pub named_here : (r : Role) (t : Token) → is_named r t ≡ true → name_text r (word_of t) ≡ Some t.text.now
named_here r t h = let parts = and_parts (is_name (word_of t)) (may_stand r t.text.now) h in name_here r t.kind t.text.now parts.0 parts.1

not_named : (r : Role) (b : Bool) (x : List ℕ) → (is_name (if b then word.omega else name x) && may_stand r x) ≡ false → name_text r (if b then word.omega else name x) ≡ None
not_named r true x h = refl
not_named r false x h = ap (λ (c : Bool). if c then Some x else None) h

name_gone : (r : Role) (kind : TokenKind) (x : List ℕ) → (is_name (word_from kind x) && may_stand r x) ≡ false → name_text r (word_from kind x) ≡ None
name_gone r Name x h = not_named r (bytes_eq x reserved_name) x h
name_gone r _ x h = refl

pub named_gone : (r : Role) (t : Token) → is_named r t ≡ false → name_text r (word_of t) ≡ None
named_gone r t h = name_gone r t.kind t.text.now h

-- numbers
abbrev pub is_numeral_token : Token → Bool
is_numeral_token t = is_number (word_of t)

no_number : (b : Bool) (x : List ℕ) → is_number (if b then word.omega else name x) ≡ false
no_number true x = refl
no_number false x = refl

number_not : (b : Bool) (x : List ℕ) → number_text (if b then word.omega else name x) ≡ None
number_not true x = refl
number_not false x = refl

-- what is a number has the kind of one
kind_number : (kind : TokenKind) (x : List ℕ) → is_number (word_from kind x) ≡ true → kind ≡ Number
kind_number Name x h = absurd (true≢false (sym h ∙ no_number (bytes_eq x reserved_name) x))
kind_number Number x h = refl
kind_number _ x h = cc

number_here : (kind : TokenKind) (x : List ℕ) → is_number (word_from kind x) ≡ true → number_text (word_from kind x) ≡ Some x
number_here kind x h = ap (λ (k : TokenKind). number_text (word_from k x)) (kind_number kind x h)

pub numeral_here : (t : Token) → is_numeral_token t ≡ true → number_text (word_of t) ≡ Some t.text.now
numeral_here t h = number_here t.kind t.text.now h

number_gone : (kind : TokenKind) (x : List ℕ) → is_number (word_from kind x) ≡ false → number_text (word_from kind x) ≡ None
number_gone Name x h = number_not (bytes_eq x reserved_name) x
number_gone Number x h = cc
number_gone _ x h = refl

pub numeral_gone : (t : Token) → is_numeral_token t ≡ false → number_text (word_of t) ≡ None
numeral_gone t h = number_gone t.kind t.text.now h

-- what the code tests of a number
abbrev numbers_kind : TokenKind → Bool
numbers_kind Number = true
numbers_kind _ = false

pub number_kind : (kind : TokenKind) (x : List ℕ) → is_number (word_from kind x) ≡ numbers_kind kind
number_kind Name x = no_number (bytes_eq x reserved_name) x
number_kind _ x = refl

-- the first of some numbers
pub all_parts : (t : Token) (ts : List Token) → IsTrue (list_all is_numeral_token (t ∷ ts)) → (t.kind ≡ Number) × IsTrue (list_all is_numeral_token ts)
all_parts t ts h = let p = and_parts (is_numeral_token t) (list_all is_numeral_token ts) h in (kind_number t.kind t.text.now p.0, p.1)

pub ruleset parts = (all_parts)
