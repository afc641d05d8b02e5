-- Lists of codes, and the terms that they are the codes of.
use Rattle.std.proofs.Common.{◌≡◌, ℕ, zero, suc, ◌<◌, List, [], ◌∷◌, ◌++◌, length, map, take, drop, refl, sym, ap, ◌∙◌, arith, append_assoc, append-nil}
use Rattle.std.specs.Prelude.{slice_index_or}
use Rattle.cls_base.specs.Terms.{Applicative, component, apply, head_of, argument_count, argument_codes, code_of}
use Rattle.cls_base.specs.Spines.{spine}
use Rattle.cls_term.specs.Banks.{at, arguments_of}
use Rattle.cls_term.specs.Decodes.{BeginsWithTerm, decoded, term_in}
use Rattle.cls_term.proofs.Banks.{spine-arguments_of, argument_count-length}

take-seam : (xs ys : List Applicative) → take (length xs) (xs ++ ys) ≡ xs
take-seam [] ys = refl
take-seam (x ∷ xs) ys = ap (λ (zs : List Applicative). x ∷ zs) (take-seam xs ys)

drop-seam : (xs ys : List Applicative) → drop (length xs) (xs ++ ys) ≡ ys
drop-seam [] ys = refl
drop-seam (x ∷ xs) ys = drop-seam xs ys

-- a head with its arguments before further terms
made : (e : Applicative) (found rest : List Applicative) → found ≡ arguments_of e ++ rest → spine (component (head_of e)) (take (argument_count e) found) ∷ drop (argument_count e) found ≡ e ∷ rest
made e found rest p =
    let es = arguments_of e in
    let n = argument_count-length e in
    let a : take (argument_count e) found ≡ es = (λ i. take (n i) (p i)) ∙ take-seam es rest in
    let b : drop (argument_count e) found ≡ rest = (λ i. drop (n i) (p i)) ∙ drop-seam es rest in
    λ i. (ap (spine (component (head_of e))) a ∙ spine-arguments_of e) i ∷ b i

decoded-arguments : (e : Applicative) (rest : List ℕ) → decoded (argument_codes e ++ rest) ≡ arguments_of e ++ decoded rest
decoded-arguments (component x) rest = refl
decoded-arguments (apply f a) rest =
    ap decoded (append_assoc (argument_codes f) (code_of a) rest)
    ∙ decoded-arguments f (code_of a ++ rest)
    ∙ ap (λ (es : List Applicative). arguments_of f ++ es) (made a (decoded (argument_codes a ++ rest)) (decoded rest) (decoded-arguments a rest))
    ∙ sym (append_assoc (arguments_of f) (a ∷ []) (decoded rest))

-- a code is read as its term
pub decoded-code_of : (e : Applicative) (rest : List ℕ) → decoded (code_of e ++ rest) ≡ e ∷ decoded rest
decoded-code_of e rest = made e (decoded (argument_codes e ++ rest)) (decoded rest) (decoded-arguments e rest)

pub term_in-code_of : (e : Applicative) → term_in (code_of e) ≡ e
term_in-code_of e =
    ap (λ (w : List ℕ). term_in w) (sym (append-nil (code_of e))) ∙ ap (λ (es : List Applicative). at es 0) (decoded-code_of e [])

pub terms-of_codes : (es : List Applicative) → map term_in (map code_of es) ≡ es
terms-of_codes [] = refl
terms-of_codes (e ∷ es) = λ i. term_in-code_of e i ∷ terms-of_codes es i

-- lists that are codes of terms
pub read-codes : (lists : List (List ℕ)) (es : List Applicative) → lists ≡ map code_of es → map term_in lists ≡ es
read-codes lists es p = ap (map term_in) p ∙ terms-of_codes es

pub are-codes : (lists : List (List ℕ)) (es : List Applicative) → lists ≡ map code_of es → lists ≡ map code_of (map term_in lists)
are-codes lists es p = p ∙ ap (map code_of) (sym (read-codes lists es p))

pub are-code : (code : List ℕ) (e : Applicative) → code ≡ code_of e → code ≡ code_of (term_in code)
are-code code e p = p ∙ ap code_of (sym (ap (λ (w : List ℕ). term_in w) p ∙ term_in-code_of e))

pub read-code : (code : List ℕ) (e : Applicative) → code ≡ code_of e → term_in code ≡ e
read-code code e p = ap (λ (w : List ℕ). term_in w) p ∙ term_in-code_of e

map-push : {A B : Type 0} (f : A → B) (xs : List A) (x : A) → map f (xs ++ x ∷ []) ≡ map f xs ++ f x ∷ []
map-push f [] x = refl
map-push f (y ∷ xs) x = ap (λ ys. f y ∷ ys) (map-push f xs x)

pub read-push : (old new : List (List ℕ)) (code : List ℕ) (e : Applicative) → new ≡ old ++ code ∷ [] → code ≡ code_of e → map term_in new ≡ map term_in old ++ e ∷ []
read-push old new code e p q =
    ap (map term_in) p ∙ map-push term_in old code ∙ ap (λ (f : Applicative). map term_in old ++ f ∷ []) (ap term_in q ∙ term_in-code_of e)

pub are-push : (old new : List (List ℕ)) (code : List ℕ) (e : Applicative) → old ≡ map code_of (map term_in old) → new ≡ old ++ code ∷ [] → code ≡ code_of e → new ≡ map code_of (map term_in new)
are-push old new code e h p q =
    p ∙ (λ i. h i ++ q i ∷ []) ∙ sym (map-push code_of (map term_in old) e) ∙ ap (map code_of) (sym (read-push old new code e p q))

same-long : {A B : Type 0} (f : A → B) (xs : List A) → length (map f xs) ≡ length xs
same-long f [] = refl
same-long f (x ∷ xs) = ap suc (same-long f xs)

pub length-read : (lists : List (List ℕ)) → length (map term_in lists) ≡ length lists
length-read lists = same-long term_in lists

code-at : (es : List Applicative) (i : ℕ) → i < length es → slice_index_or (map code_of es) i [] ≡ code_of (at es i)
code-at [] i l = absurd (omega arith)
code-at (e ∷ es) zero l = refl
code-at (e ∷ es) (suc i) l = code-at es i (omega arith)

-- the list at a place is the code of the term there
pub read-at : (lists : List (List ℕ)) (i : ℕ) → lists ≡ map code_of (map term_in lists) → i < length (map term_in lists) → slice_index_or lists i [] ≡ code_of (at (map term_in lists) i)
read-at lists i h l = ap (λ (ws : List (List ℕ)). slice_index_or ws i []) h ∙ code-at (map term_in lists) i l

-- a whole code begins with its term
pub begins-whole : (code : List ℕ) (e : Applicative) → code ≡ code_of e → BeginsWithTerm code
begins-whole code e p = (e, [], p ∙ sym (append-nil (code_of e)))

pub ruleset codes = (read-code, are-code, begins-whole)

pub ruleset lists = (read-codes, are-codes, read-push, are-push, length-read, read-at, begins-whole)
