-- Tables that grow.
use Rattle.std.proofs.Common.{◌≡◌, ℕ, ◌+◌, true, false, cond, not, List, [], ◌∷◌, ◌++◌, refl, ap, ◌∙◌, take, length}
use Rattle.std.specs.Prelude.{if◌then◌else◌, ◌||◌}
use Rattle.std.specs.List.{list_any}
use Rattle.std.specs.Str.{bytes_eq}
use Rattle.std.proofs.lemmas.Slice.Eq.{bytes_eq-Decides}
use Rattle.cls_lexer.specs.Names.{number_of, with_text, with_texts}

take_all : (texts : List (List ℕ)) → take (length texts) texts ≡ texts
take_all [] = refl
take_all (x ∷ xs) = ap (λ ts. x ∷ ts) (take_all xs)

-- what stood in front stays there
take_more : (old texts more : List (List ℕ)) → take (length old) texts ≡ old → take (length old) (texts ++ more) ≡ old
take_more [] texts more h = refl
take_more (x ∷ old) [] more h = cc
take_more (x ∷ old) (t ∷ texts) more h = let a = head_is x t old (take (length old) texts) h in λ i. a.0 i ∷ take_more old texts more a.1 i where
  head_is : (x t : List ℕ) (xs ts : List (List ℕ)) → t ∷ ts ≡ x ∷ xs → (t ≡ x) × (ts ≡ xs)
  head_is x t xs ts h = (cc, cc)

pub kept_more : (old texts : List (List ℕ)) (text : List ℕ) → take (length old) texts ≡ old → take (length old) (with_text texts text) ≡ old
kept_more old texts text h =
    elim (list_any (bytes_eq text) texts) as (λ b. take (length old) (if b then texts else texts ++ text ∷ []) ≡ old) [ true ↦ h | false ↦ take_more old texts (text ∷ []) h ]

pub kept_all : (old : List (List ℕ)) → take (length old) old ≡ old
kept_all old = take_all old

pub ruleset kept = (kept_more, kept_all)

-- what came into a table stays there
stays_one : (texts : List (List ℕ)) (x y : List ℕ) → list_any (bytes_eq x) texts ≡ true → list_any (bytes_eq x) (texts ++ y ∷ []) ≡ true
stays_one [] x y h = cc
stays_one (t ∷ texts) x y h =
    (elim (bytes_eq x t) as (λ b. (b || list_any (bytes_eq x) texts) ≡ true → (b || list_any (bytes_eq x) (texts ++ y ∷ [])) ≡ true) [ true ↦ λ k. refl | false ↦ λ k. stays_one texts x y k ]) h

stays : (texts : List (List ℕ)) (x y : List ℕ) → list_any (bytes_eq x) texts ≡ true → list_any (bytes_eq x) (with_text texts y) ≡ true
stays texts x y h = elim (list_any (bytes_eq y) texts) as (λ b. list_any (bytes_eq x) (if b then texts else texts ++ y ∷ []) ≡ true) [ true ↦ h | false ↦ stays_one texts x y h ]

comes : (texts : List (List ℕ)) (x : List ℕ) → list_any (bytes_eq x) (texts ++ x ∷ []) ≡ true
comes [] x = let e = (bytes_eq-Decides x x).1 refl in rw e refl
comes (t ∷ texts) x = elim (bytes_eq x t) as (λ b. (b || list_any (bytes_eq x) (texts ++ x ∷ [])) ≡ true) [ true ↦ refl | false ↦ comes texts x ]

pub comes_in : (texts : List (List ℕ)) (x : List ℕ) → list_any (bytes_eq x) (with_text texts x) ≡ true
comes_in texts x = (elim (list_any (bytes_eq x) texts) as (λ b. list_any (bytes_eq x) texts ≡ b → list_any (bytes_eq x) (if b then texts else texts ++ x ∷ []) ≡ true) [ true ↦ λ e. e | false ↦ λ e. comes texts x ]) refl

pub stays_all : (texts xs : List (List ℕ)) (x : List ℕ) → list_any (bytes_eq x) texts ≡ true → list_any (bytes_eq x) (with_texts texts xs) ≡ true
stays_all texts [] x h = h
stays_all texts (y ∷ xs) x h = stays_all (with_text texts y) xs x (stays texts x y h)

-- a text that stands in a table keeps its number
number_one : (texts : List (List ℕ)) (x y : List ℕ) → list_any (bytes_eq x) texts ≡ true → number_of (texts ++ y ∷ []) x ≡ number_of texts x
number_one [] x y h = cc
number_one (t ∷ texts) x y h =
    (elim (bytes_eq x t) as (λ b. (b || list_any (bytes_eq x) texts) ≡ true → cond (not b) (1 + number_of (texts ++ y ∷ []) x) 0 ≡ cond (not b) (1 + number_of texts x) 0) [
      | true ↦ λ k. refl
      | false ↦ λ k. ap (λ n. 1 + n) (number_one texts x y k)
    ]) h

number_next : (texts : List (List ℕ)) (x y : List ℕ) → list_any (bytes_eq x) texts ≡ true → number_of (with_text texts y) x ≡ number_of texts x
number_next texts x y h = elim (list_any (bytes_eq y) texts) as (λ b. number_of (if b then texts else texts ++ y ∷ []) x ≡ number_of texts x) [ true ↦ refl | false ↦ number_one texts x y h ]

pub number_stays : (texts xs : List (List ℕ)) (x : List ℕ) → list_any (bytes_eq x) texts ≡ true → number_of (with_texts texts xs) x ≡ number_of texts x
number_stays texts [] x h = refl
number_stays texts (y ∷ xs) x h = number_stays (with_text texts y) xs x (stays texts x y h) ∙ number_next texts x y h

-- a new text has the number that it is given
number_last : (texts : List (List ℕ)) (x : List ℕ) → number_of (texts ++ x ∷ []) x ≡ number_of texts x
number_last [] x = let e = (bytes_eq-Decides x x).1 refl in rw e refl
number_last (t ∷ texts) x = ap (λ (n : ℕ). cond (not (bytes_eq x t)) (1 + n) 0) (number_last texts x)

pub number_comes : (texts : List (List ℕ)) (x : List ℕ) → number_of (with_text texts x) x ≡ number_of texts x
number_comes texts x = elim (list_any (bytes_eq x) texts) as (λ b. number_of (if b then texts else texts ++ x ∷ []) x ≡ number_of texts x) [ true ↦ refl | false ↦ number_last texts x ]

-- texts that come after others
pub with_more : (texts xs ys : List (List ℕ)) → with_texts texts (xs ++ ys) ≡ with_texts (with_texts texts xs) ys
with_more texts [] ys = refl
with_more texts (x ∷ xs) ys = with_more (with_text texts x) xs ys
