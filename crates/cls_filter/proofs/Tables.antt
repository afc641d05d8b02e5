-- What is said after a line, thing by thing.
use Rattle.std.proofs.Common.{◌≡◌, ℕ, zero, suc, ◌+◌, ◌-◌, ◌<◌, ◌≤◌, Bool, true, false, cond, List, [], ◌∷◌, ◌++◌, Option, Some, None, length, set, take, drop, replicate, refl, sym, ap, ◌∙◌, subst, inl, inr, arith, append_assoc, append-nil, length-append}
use Rattle.std.specs.Prelude.{IfSome, nat_lt, remove}
use Rattle.std.proofs.lemmas.Bool.{cases_eq, cases_lt, cond_below, cond_above}
use Rattle.std.proofs.lemmas.List.{length-replicate, length-take-le, get_or-set_same, get_or-set_other, get_or_at, set_at, take_all, drop_all, drop_more, take_more}
use Rattle.cls_filter.specs.Tables.{first_said, said_at, with_room, with_said, map_from}
use Rattle.cls_filter.specs.States.{IsState, AreStates}
use Rattle.cls_base.specs.Limits.{max_states}
use Rattle.cls_filter.specs.Automata.{settled}
use Rattle.cls_filter.specs.Lines.{is_pair_named, pair_said, with_pairs, first_other}

-- room for more
pub enough_room : (said : List (Option (Option ℕ))) (i : ℕ) → i + 1 ≤ length said → said ≡ with_room said i
enough_room said i l =
    let none : i + 1 - length said ≡ 0 = omega arith in
    sym (append-nil said) ∙ ap (λ (n : ℕ). said ++ replicate n None) (sym none)

pub more_room : (said : List (Option (Option ℕ))) (i len : ℕ) → len ≡ length said → length said ≤ i + 1 → take (i + 1) said ++ replicate (i + 1 - len) None ≡ with_room said i
more_room said i len e l =
    ap (λ (xs : List (Option (Option ℕ))). xs ++ replicate (i + 1 - len) None) (take_all (i + 1) said l) ∙ ap (λ (n : ℕ). said ++ replicate (i + 1 - n) None) e

pub room_within : (said : List (Option (Option ℕ))) (i : ℕ) → i < length (with_room said i)
room_within said i = omega (arith, length-append said (replicate (i + 1 - length said) None), length-replicate {A = Option (Option ℕ)} (i + 1 - length said) None)

said_at-none : (n i : ℕ) → said_at (replicate n None) i ≡ None
said_at-none zero i = refl
said_at-none (suc n) zero = refl
said_at-none (suc n) (suc i) = said_at-none n i

said_at-more : (said : List (Option (Option ℕ))) (n i : ℕ) → said_at (said ++ replicate n None) i ≡ said_at said i
said_at-more [] n i = said_at-none n i
said_at-more (s ∷ said) n zero = refl
said_at-more (s ∷ said) n (suc i) = said_at-more said n i

-- in room there was nothing is said
pub said_at-room : (said : List (Option (Option ℕ))) (i j : ℕ) → said_at (with_room said i) j ≡ said_at said j
said_at-room said i j = said_at-more said (i + 1 - length said) j

pub said_at-same : (said : List (Option (Option ℕ))) (i : ℕ) (state : Option ℕ) → said_at (with_said said i state) i ≡ first_said (said_at said i) state
said_at-same said i state = get_or-set_same (with_room said i) i (first_said (said_at said i) state) None (room_within said i)

pub said_at-other : (said : List (Option (Option ℕ))) (i j : ℕ) (state : Option ℕ) → (i ≡ j → ⊥) → said_at (with_said said i state) j ≡ said_at said j
said_at-other said i j state n = get_or-set_other (with_room said i) i j (first_said (said_at said i) state) None (λ e. n (sym e)) ∙ said_at-room said i j

-- what the code writes, from what it reads
pub said_written : (old room : List (Option (Option ℕ))) (i : ℕ) (state : Option ℕ) (first : Option (Option ℕ)) → room ≡ with_room old i → first ≡ first_said (said_at old i) state → set room i first ≡ with_said old i state
said_written old room i state first r f = λ j. set (r j) i (f j)

-- states stay below their limit
pub first-state : (said : Option (Option ℕ)) (state : Option ℕ) → IfSome said IsState → IsState state → IfSome (first_said said state) IsState
first-state None state h k = k
first-state (Some earlier) state h k = h

pub none-states : (n : ℕ) → AreStates (replicate n None)
none-states n i = let P : Option (Option ℕ) → Type 0 = λ s. IfSome s IsState in subst P (sym (said_at-none n i)) tt

pub nil-states : AreStates []
nil-states i = tt

pub said-states : (said : List (Option (Option ℕ))) (x : ℕ) (state : Option ℕ) → AreStates said → IsState state → AreStates (with_said said x state)
said-states said x state h k i =
    let P : Option (Option ℕ) → Type 0 = λ s. IfSome s IsState in
    elim (cases_eq x i) [
      | inl e ↦ subst (λ (j : ℕ). P (said_at (with_said said x state) j)) e (subst P (sym (said_at-same said x state)) (first-state (said_at said x) state (h x) k))
      | inr n ↦ subst P (sym (said_at-other said x i state n)) (h i)
    ]

-- taken out
said_at-below : (said : List (Option (Option ℕ))) (x y : ℕ) → y < x → said_at (remove said x) y ≡ said_at said y
said_at-below [] zero y l = absurd (omega arith)
said_at-below [] (suc x) y l = refl
said_at-below (s ∷ said) zero y l = absurd (omega arith)
said_at-below (s ∷ said) (suc x) zero l = refl
said_at-below (s ∷ said) (suc x) (suc y) l = said_at-below said x y (omega arith)

said_at-above : (said : List (Option (Option ℕ))) (x y : ℕ) → x ≤ y → said_at (remove said x) y ≡ said_at said (y + 1)
said_at-above [] zero y l = refl
said_at-above [] (suc x) y l = refl
said_at-above (s ∷ said) zero y l = ap (said_at (s ∷ said)) (let e : suc y ≡ y + 1 = omega arith in e)
said_at-above (s ∷ said) (suc x) zero l = absurd (omega arith)
said_at-above (s ∷ said) (suc x) (suc y) l =
    said_at-above said x y (omega arith) ∙ ap (said_at (s ∷ said)) (let e : suc (y + 1) ≡ suc y + 1 = omega arith in e)

pub said_at-removed : (said : List (Option (Option ℕ))) (x y : ℕ) → said_at (remove said x) y ≡ said_at said (cond (nat_lt y x) y (y + 1))
said_at-removed said x y = elim (cases_lt y x) [
  | inl l ↦ said_at-below said x y l ∙ ap (said_at said) (cond_below y x y (y + 1) l)
  | inr l ↦ said_at-above said x y l ∙ ap (said_at said) (cond_above y x y (y + 1) (y + 1) l refl)
]

pub removed-states : (said : List (Option (Option ℕ))) (x : ℕ) → AreStates said → AreStates (remove said x)
removed-states said x h i =
    let P : Option (Option ℕ) → Type 0 = λ s. IfSome s IsState in
    subst P (sym (said_at-removed said x i)) (h (cond (nat_lt i x) i (i + 1)))

-- there is nothing to take out
pub none_removed : (said : List (Option (Option ℕ))) (x : ℕ) → length said ≤ x → said ≡ remove said x
none_removed said x l =
    sym ((λ j. take_all x said l j ++ drop_all (suc x) said (omega arith) j) ∙ append-nil said)

-- a function of each item and its number
at-mapped : (f : ℕ → Option (Option ℕ) → Option (Option ℕ)) (k : ℕ) (xs : List (Option (Option ℕ))) (i : ℕ) → i < length xs → said_at (map_from f k xs) i ≡ f (k + i) (said_at xs i)
at-mapped f k [] i l = absurd (omega arith)
at-mapped f k (x ∷ xs) zero l = ap (λ (n : ℕ). f n x) (let e : k ≡ k + 0 = omega arith in e)
at-mapped f k (x ∷ xs) (suc i) l =
    at-mapped f (suc k) xs i (omega arith) ∙ ap (λ (n : ℕ). f n (said_at xs i)) (let e : suc k + i ≡ k + suc i = omega arith in e)

length-mapped : (f : ℕ → Option (Option ℕ) → Option (Option ℕ)) (k : ℕ) (xs : List (Option (Option ℕ))) → length (map_from f k xs) ≡ length xs
length-mapped f k [] = refl
length-mapped f k (x ∷ xs) = ap suc (length-mapped f (suc k) xs)

pub pairs_length : (p q state : Option ℕ) (pairs : List (Option (Option ℕ))) → length (with_pairs p q state pairs) ≡ length pairs
pairs_length p q state pairs = length-mapped (pair_said p q state) 0 pairs

pub pairs_at : (p q state : Option ℕ) (pairs : List (Option (Option ℕ))) (i : ℕ) → i < length pairs → said_at (with_pairs p q state pairs) i ≡ pair_said p q state i (said_at pairs i)
pairs_at p q state pairs i l =
    at-mapped (pair_said p q state) 0 pairs i l ∙ ap (λ (n : ℕ). pair_said p q state n (said_at pairs i)) (let e : 0 + i ≡ i = omega arith in e)

-- a loop that writes over each item, one item on and at the end
pub mapped : (f : ℕ → Option (Option ℕ) → Option (Option ℕ)) (old now : List (Option (Option ℕ))) (i : ℕ) (v : Option (Option ℕ)) → i < length old → now ≡ take i (map_from f 0 old) ++ drop i old → v ≡ f i (said_at now i) → set now i v ≡ take (i + 1) (map_from f 0 old) ++ drop (i + 1) old
mapped f old now i v l h e =
    let whole = map_from f 0 old in
    let long : i < length whole = omega (arith, l, length-mapped f 0 old) in
    let front : length (take i whole) ≡ i = length-take-le i whole (omega (arith, long)) in
    let split : now ≡ take i whole ++ said_at old i ∷ drop (i + 1) old = h ∙ ap (λ (ys : List (Option (Option ℕ))). take i whole ++ ys) (drop_more old i None l) in
    let read : said_at now i ≡ said_at old i = ap (λ (xs : List (Option (Option ℕ))). said_at xs i) split ∙ get_or_at (take i whole) (said_at old i) (drop (i + 1) old) None i front in
    let mine : said_at whole i ≡ f i (said_at old i) = at-mapped f 0 old i l ∙ ap (λ (n : ℕ). f n (said_at old i)) (let z : 0 + i ≡ i = omega arith in z) in
    let value : v ≡ said_at whole i = e ∙ (ap (f i) read ∙ sym mine) in
    let more : take (i + 1) whole ++ drop (i + 1) old ≡ take i whole ++ said_at whole i ∷ drop (i + 1) old =
    ap (λ (xs : List (Option (Option ℕ))). xs ++ drop (i + 1) old) (take_more whole i None long) ∙ append_assoc (take i whole) (said_at whole i ∷ []) (drop (i + 1) old) in
    ap (λ (xs : List (Option (Option ℕ))). set xs i v) split
    ∙ (set_at (take i whole) (said_at old i) (drop (i + 1) old) v i front
    ∙ (ap (λ (w : Option (Option ℕ)). take i whole ++ w ∷ drop (i + 1) old) value ∙ sym more))

pub mapped_all : (f : ℕ → Option (Option ℕ) → Option (Option ℕ)) (old now : List (Option (Option ℕ))) (i : ℕ) → length old ≤ i → now ≡ take i (map_from f 0 old) ++ drop i old → now ≡ map_from f 0 old
mapped_all f old now i l h =
    let whole = map_from f 0 old in
    h ∙ ((λ j. take_all i whole (omega (arith, l, length-mapped f 0 old)) j ++ drop_all i old l j) ∙ append-nil whole)

mapped-states : (f : ℕ → Option (Option ℕ) → Option (Option ℕ)) → ((k : ℕ) (s : Option (Option ℕ)) → IfSome s IsState → IfSome (f k s) IsState) → (k : ℕ) (xs : List (Option (Option ℕ))) → AreStates xs → AreStates (map_from f k xs)
mapped-states f g k [] h i = tt
mapped-states f g k (x ∷ xs) h zero = g k x (h 0)
mapped-states f g k (x ∷ xs) h (suc i) = mapped-states f g (suc k) xs (λ j. h (suc j)) i

chosen-state : (b : Bool) (said : Option (Option ℕ)) (state : Option ℕ) → IfSome said IsState → IsState state → IfSome (cond b (first_said said state) said) IsState
chosen-state true said state h k = first-state said state h k
chosen-state false said state h k = h

pub pairs-states : (p q state : Option ℕ) (pairs : List (Option (Option ℕ))) → AreStates pairs → IsState state → AreStates (with_pairs p q state pairs)
pairs-states p q state pairs h k =
    mapped-states (pair_said p q state) (λ i s m. chosen-state (is_pair_named p q i) s state m k) 0 pairs h

pub settled-state : (said : Option (Option ℕ)) (other : Option ℕ) → IfSome said IsState → IsState other → IsState (settled said other)
settled-state None other h k = k
settled-state (Some state) other h k = h

pub other-state : (other : Option ℕ) (q : ℕ) → IsState other → q < max_states → IsState (first_other other q)
other-state None q h l = l
other-state (Some earlier) q h l = h
