-- The state of a spine, argument by argument.
use Rattle.std.proofs.Common.{◌≡◌, ℕ, ◌+◌, ◌<◌, ◌≤◌, List, [], ◌∷◌, Option, length, get_or, drop, refl, sym, ap, ◌∙◌, arith, zero, suc}
use Rattle.std.proofs.lemmas.List.{drop_all}
use Rattle.cls_base.specs.Terms.{Applicative, component, apply, length_of}
use Rattle.cls_base.specs.Spines.{spine, lengths_of}
use Rattle.cls_term.proofs.Spines.{length_of-spine_of}
use Rattle.cls_term.proofs.Steps.{drop-item}
use Rattle.cls_filter.specs.Automata.{Automaton, leaf_state, applied_state, state_of}
use Rattle.cls_filter.specs.States.{spine_state}

state_of-spine : (a : Automaton) (f : Applicative) (es : List Applicative) → state_of a (spine f es) ≡ spine_state a (state_of a f) es
state_of-spine a f [] = refl
state_of-spine a f (e ∷ es) = state_of-spine a (apply f e) es

-- the state of the head, before any argument
pub begun : (a : Automaton) (x : ℕ) (es items : List Applicative) (e : Applicative) (state : Option ℕ) → spine (component x) es ≡ e → items ≡ es → state ≡ leaf_state a x → spine_state a state items ≡ state_of a e
begun a x es items e state v i h =
    (λ j. spine_state a (h j) (i j)) ∙ (sym (state_of-spine a (component x) es) ∙ ap (state_of a) v)

-- one argument more
pub stepped : (a : Automaton) (state own next : Option ℕ) (es : List Applicative) (i : ℕ) (e : Applicative) (whole : Option ℕ) → e ≡ get_or es i e → i < length es → own ≡ state_of a e → next ≡ applied_state a state own → spine_state a state (drop i es) ≡ whole → spine_state a next (drop (i + 1) es) ≡ whole
stepped a state own next es i e whole k l o h so =
    let is : next ≡ applied_state a state (state_of a e) = h ∙ ap (applied_state a state) o in
    ap (λ (s : Option ℕ). spine_state a s (drop (i + 1) es)) is ∙ (sym (ap (spine_state a state) (drop-item es i e k l)) ∙ so)

-- no argument is left
pub ended : (a : Automaton) (state : Option ℕ) (es : List Applicative) (i : ℕ) (whole : Option ℕ) → length es ≤ i → spine_state a state (drop i es) ≡ whole → state ≡ whole
ended a state es i whole l so = sym (ap (spine_state a state) (drop_all i es l)) ∙ so

lengths_of-at : (es : List Applicative) (i : ℕ) (d : Applicative) → i < length es → length_of (get_or es i d) ≤ lengths_of es
lengths_of-at [] i d l = absurd (omega arith)
lengths_of-at (e ∷ es) zero d l = omega arith
lengths_of-at (e ∷ es) (suc i) d l = omega (arith, lengths_of-at es i d (omega arith))

-- an argument is shorter than the term
pub shorter : (x : ℕ) (es items : List Applicative) (e : Applicative) (i : ℕ) (a : Applicative) → spine (component x) es ≡ e → items ≡ es → a ≡ get_or items i a → i < length items → length_of a < length_of e
shorter x es items e i a v s k l =
    let whole = length_of-spine_of x es in
    let same = ap length_of v in
    let list = ap lengths_of s in
    let part = ap length_of k in
    omega (arith, whole, same, list, part, lengths_of-at items i a l)

pub ruleset states = (begun, stepped, ended)
