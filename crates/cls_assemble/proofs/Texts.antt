-- The text of a spine, and the texts of its arguments.
use Rattle.std.proofs.Common.{◌≡◌, ℕ, ◌+◌, ◌<◌, ◌≤◌, List, [], ◌∷◌, ◌++◌, length, map, get_or, refl, sym, ap, ◌∙◌, arith, append_assoc, append-nil, suc, zero}
use Rattle.std.proofs.lemmas.List.{get_or_read, get_or_default, length-map}
use Rattle.std.proofs.Math.ListN.{get_or-map}
use Rattle.cls_base.specs.Terms.{Applicative, component, apply, head_of, length_of}
use Rattle.cls_base.specs.Spines.{spine, lengths_of}
use Rattle.cls_term.specs.Components.{greatest_of, greatest_in}
use Rattle.cls_term.proofs.Spines.{head_of-spine, length_of-spine_of, greatest_of-spine_of}
use Rattle.cls_assemble.specs.declared.piece.Piece.{Piece}
use Rattle.cls_assemble.specs.Texts.{template_at, filled, text_of, argument_texts}

argument_texts-spine : (template : ℕ → List Piece) (f : Applicative) (es : List Applicative) → argument_texts template (spine f es) ≡ argument_texts template f ++ map (text_of template) es
argument_texts-spine template f [] = sym (append-nil (argument_texts template f))
argument_texts-spine template f (e ∷ es) = argument_texts-spine template (apply f e) es ∙ append_assoc (argument_texts template f) (text_of template e ∷ []) (map (text_of template) es)

text_of-filled : (template : ℕ → List Piece) (e : Applicative) → text_of template e ≡ filled (template (head_of e)) (argument_texts template e)
text_of-filled template (component x) = refl
text_of-filled template (apply f a) = refl

pub text_of-spine : (template : ℕ → List Piece) (x : ℕ) (es : List Applicative) → text_of template (spine (component x) es) ≡ filled (template x) (map (text_of template) es)
text_of-spine template x es =
    text_of-filled template (spine (component x) es) ∙ (λ i. filled (template (head_of-spine (component x) es i)) (argument_texts-spine template (component x) es i))

greatest_in-at : (es : List Applicative) (i : ℕ) (d : Applicative) → i < length es → greatest_of (get_or es i d) ≤ greatest_in es
greatest_in-at [] i d l = absurd (omega arith)
greatest_in-at (e ∷ es) zero d l = omega arith
greatest_in-at (e ∷ es) (suc i) d l = omega (arith, greatest_in-at es i d (omega arith))

-- an argument has no greater components than the list
pub greatest_of-argument : (es : List Applicative) (i : ℕ) (e : Applicative) → e ≡ get_or es i e → i < length es → greatest_of e ≤ greatest_in es
greatest_of-argument es i e h l = let most = greatest_in-at es i e l in let same = ap greatest_of h in omega (arith, most, same)

pub greatest_of-parts : (x : ℕ) (es : List Applicative) (e : Applicative) → spine (component x) es ≡ e → (x ≤ greatest_of e) × (greatest_in es ≤ greatest_of e)
greatest_of-parts x es e h = let top = greatest_of-spine_of x es in let same = ap greatest_of h in (omega (arith, top, same), omega (arith, top, same))

pub greatest_of-inside : (x : ℕ) (es : List Applicative) (e : Applicative) (n : ℕ) → spine (component x) es ≡ e → greatest_of e < n → (i : ℕ) (a : Applicative) → a ≡ get_or es i a → i < length es → greatest_of a < n
greatest_of-inside x es e n h m i a k l = omega (arith, (greatest_of-parts x es e h).1, greatest_of-argument es i a k l)

lengths_of-at : (es : List Applicative) (i : ℕ) (d : Applicative) → i < length es → length_of (get_or es i d) ≤ lengths_of es
lengths_of-at [] i d l = absurd (omega arith)
lengths_of-at (e ∷ es) zero d l = omega arith
lengths_of-at (e ∷ es) (suc i) d l = omega (arith, lengths_of-at es i d (omega arith))

-- an argument is shorter than the term
pub length_of-inside : (x : ℕ) (es : List Applicative) (e : Applicative) → spine (component x) es ≡ e → (i : ℕ) (a : Applicative) → a ≡ get_or es i a → i < length es → length_of a < length_of e
length_of-inside x es e h i a k l =
    let whole = length_of-spine_of x es in
    let same = ap length_of h in
    let part = ap length_of k in
    omega (arith, whole, same, part, lengths_of-at es i a l)

-- the text of a term, by its head's template in the list and its arguments
pub text_of-parts : (templates slice : List (List Piece)) (x : ℕ) (es items : List Applicative) (e : Applicative) (ps : List Piece) → spine (component x) es ≡ e → items ≡ es → slice ≡ templates → x < length slice → ps ≡ get_or slice x ps → text_of (template_at templates) e ≡ filled ps (map (text_of (template_at templates)) items)
text_of-parts templates slice x es items e ps v i s l h =
    let same : template_at templates x ≡ ps = ap (λ (ts : List (List Piece)). get_or ts x []) (sym s) ∙ sym (get_or_read slice x ps l h []) in
    ap (text_of (template_at templates)) (sym v) ∙ (text_of-spine (template_at templates) x es ∙ (λ j. filled (same j) (map (text_of (template_at templates)) (sym i j))))

pub length_of-argument : (es : List Applicative) (i : ℕ) (e : Applicative) → e ≡ get_or es i e → i < length es → length_of e ≤ lengths_of es
length_of-argument es i e h l = let part = ap length_of h in omega (arith, part, lengths_of-at es i e l)

-- the arguments of a term, by its measures
pub measures_of-parts : (x : ℕ) (es items : List Applicative) (e : Applicative) → spine (component x) es ≡ e → items ≡ es → (length_of e ≡ 1 + lengths_of items) × (greatest_in items ≤ greatest_of e) × (x ≤ greatest_of e)
measures_of-parts x es items e v i =
    let whole = length_of-spine_of x es in
    let same = ap length_of v in
    let sum = ap lengths_of i in
    let most = ap greatest_in i in
    let parts = greatest_of-parts x es e v in
    (omega (arith, whole, same, sum), omega (arith, parts.1, most), parts.0)

pub argument_text-at : (template : ℕ → List Piece) (es : List Applicative) (i : ℕ) (e : Applicative) (d : List ℕ) → e ≡ get_or es i e → i < length es → text_of template e ≡ get_or (map (text_of template) es) i d
argument_text-at template es i e d h l =
    ap (text_of template) h ∙ (sym (get_or-map (text_of template) es i e) ∙ get_or_default (map (text_of template) es) i (text_of template e) d (omega (arith, length-map es (text_of template))))

pub ruleset parts = (greatest_of-spine_of, greatest_of-argument)
