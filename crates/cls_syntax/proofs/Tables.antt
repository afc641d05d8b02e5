-- Tables of names that grow: what is numbered keeps its number.
use Rattle.std.proofs.Common.{◌≡◌, ℕ, ◌+◌, true, false, cond, not, List, [], ◌∷◌, ◌++◌, refl, sym, ap, ◌∙◌, take, drop, length, append_assoc, append-nil}
use Rattle.std.specs.Prelude.{if◌then◌else◌, ◌||◌}
use Rattle.std.specs.List.{list_any, AllByRecursion}
use Rattle.std.specs.Str.{bytes_eq}
use Rattle.std.proofs.Math.Seq.{take-append_seam}
use Rattle.std.proofs.lemmas.List.{take-append-drop}
use Rattle.std.proofs.lemmas.Slice.Eq.{bytes_eq-Decides}
use Rattle.cls_lexer.specs.Names.{number_of, with_text, with_texts}

-- the text is held
abbrev pub Held : List (List ℕ) → List ℕ → Type 0
Held texts x = list_any (bytes_eq x) texts ≡ true

-- a table that came from another one begins with it
pub record Grows (old new : List (List ℕ)) : Type 0 where
  pub more : List (List ℕ)
  pub joined : new ≡ old ++ more

pub grows_one : (texts : List (List ℕ)) (x : List ℕ) → Grows texts (with_text texts x)
grows_one texts x = elim (list_any (bytes_eq x) texts) as (λ b. Grows texts (if b then texts else texts ++ x ∷ [])) [ true ↦ record { more = []; joined = sym (append-nil texts) } | false ↦ record { more = x ∷ []; joined = refl } ]

pub grows_on : {a b c : List (List ℕ)} → Grows a b → Grows b c → Grows a c
grows_on {a} {b} {c} g h = record { more = g.more ++ h.more; joined = h.joined ∙ (ap (λ xs. xs ++ h.more) g.joined ∙ append_assoc a g.more h.more) }

pub grows_all : (texts xs : List (List ℕ)) → Grows texts (with_texts texts xs)
grows_all texts [] = record { more = []; joined = sym (append-nil texts) }
grows_all texts (x ∷ xs) = grows_on (grows_one texts x) (grows_all (with_text texts x) xs)

-- what stood in front stays there
pub kept : {old new : List (List ℕ)} → Grows old new → take (length old) new ≡ old
kept {old} {new} g = ap (take (length old)) g.joined ∙ take-append_seam old g.more

pub grows_kept : {old new : List (List ℕ)} → take (length old) new ≡ old → Grows old new
grows_kept {old} {new} e = record { more = drop (length old) new; joined = sym (take-append-drop (length old) new) ∙ ap (λ xs. xs ++ drop (length old) new) e }

pub kept_one : (texts : List (List ℕ)) (x : List ℕ) → take (length texts) (with_text texts x) ≡ texts
kept_one texts x = kept (grows_one texts x)

pub kept_all : (texts xs : List (List ℕ)) → take (length texts) (with_texts texts xs) ≡ texts
kept_all texts xs = kept (grows_all texts xs)

number_last : (texts : List (List ℕ)) (x : List ℕ) → number_of (texts ++ x ∷ []) x ≡ number_of texts x
number_last [] x = let e = (bytes_eq-Decides x x).1 refl in rw e refl
number_last (t ∷ texts) x = elim (bytes_eq x t) as (λ b. cond (not b) (1 + number_of (texts ++ x ∷ []) x) 0 ≡ cond (not b) (1 + number_of texts x) 0) [ true ↦ refl | false ↦ ap (λ n. 1 + n) (number_last texts x) ]

-- a text gets the number that it has already, or the next one
pub number_new : (texts : List (List ℕ)) (x : List ℕ) → number_of (with_text texts x) x ≡ number_of texts x
number_new texts x = elim (list_any (bytes_eq x) texts) as (λ b. number_of (if b then texts else texts ++ x ∷ []) x ≡ number_of texts x) [ true ↦ refl | false ↦ number_last texts x ]

stays_in : (texts more : List (List ℕ)) (x : List ℕ) → Held texts x → number_of (texts ++ more) x ≡ number_of texts x
stays_in [] more x h = cc
stays_in (t ∷ texts) more x h =
    (elim (bytes_eq x t) as (λ b. (b || list_any (bytes_eq x) texts) ≡ true → cond (not b) (1 + number_of (texts ++ more) x) 0 ≡ cond (not b) (1 + number_of texts x) 0) [
      | true ↦ λ k. refl
      | false ↦ λ k. ap (λ n. 1 + n) (stays_in texts more x k)
    ]) h

held_in : (texts more : List (List ℕ)) (x : List ℕ) → Held texts x → Held (texts ++ more) x
held_in [] more x h = cc
held_in (t ∷ texts) more x h =
    (elim (bytes_eq x t) as (λ b. (b || list_any (bytes_eq x) texts) ≡ true → (b || list_any (bytes_eq x) (texts ++ more)) ≡ true) [ true ↦ λ k. refl | false ↦ λ k. held_in texts more x k ]) h

-- the number of a text that is held stays, and so does the text
pub stays : {old new : List (List ℕ)} → Grows old new → (x : List ℕ) → Held old x → number_of new x ≡ number_of old x
stays {old} {new} g x h = ap (λ ts. number_of ts x) g.joined ∙ stays_in old g.more x h

pub held_still : {old new : List (List ℕ)} → Grows old new → (x : List ℕ) → Held old x → Held new x
held_still {old} {new} g x h = ap (list_any (bytes_eq x)) g.joined ∙ held_in old g.more x h

held_last : (texts : List (List ℕ)) (x : List ℕ) → Held (texts ++ x ∷ []) x
held_last [] x = let e = (bytes_eq-Decides x x).1 refl in rw e refl
held_last (t ∷ texts) x = elim (bytes_eq x t) as (λ b. (b || list_any (bytes_eq x) (texts ++ x ∷ [])) ≡ true) [ true ↦ refl | false ↦ held_last texts x ]

-- a text that came is held
pub held_new : (texts : List (List ℕ)) (x : List ℕ) → Held (with_text texts x) x
held_new texts x = (elim (list_any (bytes_eq x) texts) as (λ b. list_any (bytes_eq x) texts ≡ b → Held (if b then texts else texts ++ x ∷ []) x) [ true ↦ λ e. e | false ↦ λ e. held_last texts x ]) refl

pub held_all : (texts xs : List (List ℕ)) → AllByRecursion (Held (with_texts texts xs)) xs
held_all texts [] = tt
held_all texts (x ∷ xs) = (held_still (grows_all (with_text texts x) xs) x (held_new texts x), held_all (with_text texts x) xs)

-- two names in a row
pub both_stay : (texts : List (List ℕ)) (x y : List ℕ) → number_of (with_text (with_text texts x) y) x ≡ number_of (with_text texts x) x
both_stay texts x y = stays (grows_one (with_text texts x) y) x (held_new texts x)

pub with_both : (texts xs ys : List (List ℕ)) → with_texts texts (xs ++ ys) ≡ with_texts (with_texts texts xs) ys
with_both texts [] ys = refl
with_both texts (x ∷ xs) ys = with_both (with_text texts x) xs ys

pub ruleset numbers = (number_new, both_stay, kept_one)
