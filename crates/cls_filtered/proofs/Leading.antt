-- Lists over the numbers below n, number by number.
use Rattle.std.proofs.Common.{◌≡◌, ℕ, suc, ◌+◌, ◌<◌, Bool, cond, List, [], ◌∷◌, ◌++◌, length, map, get_or, sym, ap, ◌∙◌, arith, append_assoc, append-nil}
use Rattle.std.specs.Prelude.{filter}
use Rattle.std.specs.List.{flat_map}
use Rattle.std.proofs.lemmas.List.{map_push, length-map, get_or-map}
use Rattle.std.proofs.lemmas.List.Concat.{flat_map-append}
use Rattle.std.proofs.lemmas.List.Elements.{filter-append}
use Rattle.cls_base.specs.Limits.{max_states}
use Rattle.cls_filter.specs.Automata.{Automaton}
use Rattle.cls_filtered.specs.Filtered.{below, pairs_to}
use Rattle.cls_filtered.proofs.FlagLists.{below-length, below-at}

-- one number more
pub below-next : (n : ℕ) → below (n + 1) ≡ below n ++ n ∷ []
below-next n = ap below (let e : n + 1 ≡ suc n = omega arith in e)

pub map-next : {A : Type 0} (g : ℕ → A) (n : ℕ) (old new : List A) (x : A) → old ≡ map g (below n) → x ≡ g n → new ≡ old ++ x ∷ [] → new ≡ map g (below (n + 1))
map-next g n old new x h e f = f ∙ ((λ j. h j ++ e j ∷ []) ∙ sym (ap (map g) (below-next n) ∙ map_push g (below n) n))

filter-next : {A : Type 0} (p : A → Bool) (g : ℕ → A) (n : ℕ) → filter p (map g (below (n + 1))) ≡ filter p (map g (below n)) ++ cond (p (g n)) (g n ∷ []) []
filter-next p g n =
    ap (λ (qs : List ℕ). filter p (map g qs)) (below-next n) ∙ (ap (filter p) (map_push g (below n) n) ∙ filter-append p (map g (below n)) (g n ∷ []))

pub put-none : {A : Type 0} (old : List A) → old ≡ old ++ []
put-none old = sym (append-nil old)

pub put-next : {A : Type 0} (p : A → Bool) (g : ℕ → A) (n : ℕ) (old now new : List A) → now ≡ old ++ filter p (map g (below n)) → new ≡ now ++ cond (p (g n)) (g n ∷ []) [] → new ≡ old ++ filter p (map g (below (n + 1)))
put-next p g n old now new h e =
    let last = cond (p (g n)) (g n ∷ []) [] in
    e ∙ (ap (λ xs. xs ++ last) h ∙ (append_assoc old (filter p (map g (below n))) last ∙ ap (λ xs. old ++ xs) (sym (filter-next p g n))))

pub flats-next : {A : Type 0} (p : A → Bool) (F : ℕ → List A) (n : ℕ) (old new : List A) → old ≡ filter p (flat_map F (below n)) → new ≡ old ++ filter p (F n) → new ≡ filter p (flat_map F (below (n + 1)))
flats-next p F n old new h e =
    let parts : flat_map F (below (n + 1)) ≡ flat_map F (below n) ++ F n =
    ap (flat_map F) (below-next n) ∙ (flat_map-append F (below n) (n ∷ []) ∙ ap (λ xs. flat_map F (below n) ++ xs) (append-nil (F n))) in
    e ∙ (ap (λ xs. xs ++ filter p (F n)) h ∙ sym (ap (filter p) parts ∙ filter-append p (flat_map F (below n)) (F n)))

-- the pairs of states that lead to a state
pub leads-many : (a : Automaton) → length (map (pairs_to a) (below max_states)) ≡ max_states
leads-many a = length-map (below max_states) (pairs_to a) ∙ below-length max_states

pub lead-at : (a : Automaton) (q : ℕ) → q < max_states → get_or (map (pairs_to a) (below max_states)) q [] ≡ pairs_to a q
lead-at a q l =
    get_or-map (pairs_to a) (below max_states) q 0 [] (omega (arith, l, below-length max_states)) ∙ ap (pairs_to a) (below-at max_states q 0 l)
