-- Of the lines that match, the first one counts.
use Rattle.std.proofs.Common.{◌≡◌, ℕ, ◌+◌, ◌*◌, ◌/◌, ◌%◌, ◌<◌, Bool, true, false, cond, ◌&&◌, ◌||◌, List, [], ◌∷◌, Option, Some, None, length, get_or, set, refl, sym, ap, ◌∙◌, subst, inl, inr, arith}
use Rattle.std.specs.Prelude.{nat_eq}
use Rattle.std.proofs.lemmas.Bool.{cases_eq, eq-eqb, ne_eqb}
use Rattle.std.proofs.lemmas.List.{length-set, length-replicate, get_or-replicate, get_or-set_same, get_or-set_other}
use Rattle.cls_base.specs.Limits.{max_states}
use Rattle.cls_filter.specs.Tables.{first_said, said_at, with_said}
use Rattle.cls_filter.specs.Automata.{Automaton, pair_number, settled, is_accepting}
use Rattle.cls_filter.specs.Lines.{no_lines, is_named, is_pair_named, first_other}
use Rattle.cls_filter.specs.Laws.{Line, accepts_line, leaf_line, app_line, other_line, with_line, with_lines, automaton_of, leaf_said, app_said, other_said, is_accepted_by, or_later, first_said_by, is_said_by, FirstLeavesCount, FirstAppsCount, NamedStatesAccept, OthersKeepTheirStates}
use Rattle.cls_filter.proofs.Tables.{said_at-same, said_at-other, said_at-removed, pairs_length, pairs_at}

module _ {A : Type 0} where
  or-none : (s : Option A) → or_later s None ≡ s
  or-none None = refl
  or-none (Some x) = refl

  or-or : (s t u : Option A) → or_later (or_later s t) u ≡ or_later s (or_later t u)
  or-or None t u = refl
  or-or (Some x) t u = refl

-- a thing that one line settles, if it isn't settled, is settled by the first of the lines that say something
module _ {A : Type 0} (told : Automaton → Option A) (says : Line → Option A) (Fits : Automaton → Type 0)
    (one : (a : Automaton) (l : Line) → Fits a → told (with_line a l) ≡ or_later (told a) (says l))
    (fits : (a : Automaton) (l : Line) → Fits a → Fits (with_line a l)) where
  by-lines : (ls : List Line) (a : Automaton) → Fits a → told (with_lines a ls) ≡ or_later (told a) (first_said_by says ls)
  by-lines [] a f = sym (or-none (told a))
  by-lines (l ∷ ls) a f =
      by-lines ls (with_line a l) (fits a l f)
      ∙ (ap (λ (s : Option A). or_later s (first_said_by says ls)) (one a l f) ∙ or-or (told a) (says l) (first_said_by says ls))

first-is-or : (said : Option (Option ℕ)) (state : Option ℕ) → first_said said state ≡ or_later said (Some state)
first-is-or None state = refl
first-is-or (Some earlier) state = refl

other-is-or : (other : Option ℕ) (q : ℕ) → first_other other q ≡ or_later other (Some q)
other-is-or None q = refl
other-is-or (Some earlier) q = refl

chosen-is-or : (b : Bool) (said : Option (Option ℕ)) (state : Option ℕ) → cond b (first_said said state) said ≡ or_later said (cond b (Some state) None)
chosen-is-or true said state = first-is-or said state
chosen-is-or false said state = sym (or-none said)

-- leaves
leaf-line : (leaves : List (Option (Option ℕ))) (y : ℕ) (state : Option ℕ) (x : ℕ) → said_at (with_said leaves y state) x ≡ or_later (said_at leaves x) (cond (nat_eq y x) (Some state) None)
leaf-line leaves y state x = elim (cases_eq y x) [
  | inl e ↦
      subst (λ (z : ℕ). said_at (with_said leaves y state) z ≡ or_later (said_at leaves z) (cond (nat_eq y z) (Some state) None)) e
      (said_at-same leaves y state ∙ (first-is-or (said_at leaves y) state ∙ ap (λ (b : Bool). or_later (said_at leaves y) (cond b (Some state) None)) (sym (eq-eqb y y refl))))
  | inr n ↦
      said_at-other leaves y x state n ∙ (sym (or-none (said_at leaves x)) ∙ ap (λ (b : Bool). or_later (said_at leaves x) (cond b (Some state) None)) (sym (ne_eqb y x n)))
]

leaves-by : (x : ℕ) (a : Automaton) (l : Line) → Unit {0} → said_at (with_line a l).leaves x ≡ or_later (said_at a.leaves x) (leaf_said x l)
leaves-by x a (accepts_line q) f = sym (or-none (said_at a.leaves x))
leaves-by x a (leaf_line y state) f = leaf-line a.leaves y state x
leaves-by x a (app_line p q state) f = sym (or-none (said_at a.leaves x))
leaves-by x a (other_line q) f = sym (or-none (said_at a.leaves x))

-- pairs
abbrev HasPairs : Automaton → Type 0
HasPairs a = length a.pairs ≡ max_states * max_states

pairs-kept : (a : Automaton) (l : Line) → HasPairs a → HasPairs (with_line a l)
pairs-kept a (accepts_line q) h = h
pairs-kept a (leaf_line x state) h = h
pairs-kept a (app_line p q state) h = pairs_length p q state a.pairs ∙ h
pairs-kept a (other_line q) h = h

named-parts : (left right : Option ℕ) (p q : ℕ) → q < max_states → is_pair_named left right (pair_number p q) ≡ (is_named left p && is_named right q)
named-parts left right p q l =
    let high : (p * 16 + q) / 16 ≡ p = omega (arith, l) in
    let low : (p * 16 + q) % 16 ≡ q = omega (arith, l) in
    λ j. is_named left (high j) && is_named right (low j)

pairs-by : (p q : ℕ) → p < max_states → q < max_states → (a : Automaton) (l : Line) → HasPairs a → said_at (with_line a l).pairs (pair_number p q) ≡ or_later (said_at a.pairs (pair_number p q)) (app_said p q l)
pairs-by p q m n a (accepts_line r) h = sym (or-none (said_at a.pairs (pair_number p q)))
pairs-by p q m n a (leaf_line x state) h = sym (or-none (said_at a.pairs (pair_number p q)))
pairs-by p q m n a (app_line left right state) h =
    let within : pair_number p q < length a.pairs = omega (arith, m, n, h) in
    let said = said_at a.pairs (pair_number p q) in
    pairs_at left right state a.pairs (pair_number p q) within
    ∙ (chosen-is-or (is_pair_named left right (pair_number p q)) said state
    ∙ ap (λ (b : Bool). or_later said (cond b (Some state) None)) (named-parts left right p q n))
pairs-by p q m n a (other_line r) h = sym (or-none (said_at a.pairs (pair_number p q)))

-- the rest
others-by : (a : Automaton) (l : Line) → Unit {0} → (with_line a l).other ≡ or_later a.other (other_said l)
others-by a (accepts_line q) f = sym (or-none a.other)
others-by a (leaf_line x state) f = sym (or-none a.other)
others-by a (app_line p q state) f = sym (or-none a.other)
others-by a (other_line q) f = other-is-or a.other q

others-said : (ls : List Line) → (automaton_of ls).other ≡ first_said_by other_said ls
others-said ls = by-lines (λ (a : Automaton). a.other) other_said (λ (a : Automaton). Unit {0}) others-by (λ a l f. tt) ls no_lines tt

pub first_leaves_count : FirstLeavesCount
first_leaves_count ls x =
    let leaves = by-lines (λ (a : Automaton). said_at a.leaves x) (leaf_said x) (λ (a : Automaton). Unit {0}) (leaves-by x) (λ a l f. tt) ls no_lines tt in
    λ j. settled (leaves j) (others-said ls j)

pub first_apps_count : FirstAppsCount
first_apps_count ls p q m n =
    let number = pair_number p q in
    let none : said_at no_lines.pairs number ≡ None = get_or-replicate (max_states * max_states) number None None (omega (arith, m, n)) in
    let sized : HasPairs no_lines = length-replicate {A = Option (Option ℕ)} (max_states * max_states) None in
    let pairs = by-lines (λ (a : Automaton). said_at a.pairs number) (app_said p q) HasPairs (pairs-by p q m n) pairs-kept ls no_lines sized in
    let said : said_at (automaton_of ls).pairs number ≡ first_said_by (app_said p q) ls = pairs ∙ ap (λ (s : Option (Option ℕ)). or_later s (first_said_by (app_said p q) ls)) none in
    λ j. settled (said j) (others-said ls j)

-- accepting states
abbrev HasFlags : Automaton → Type 0
HasFlags a = length a.accepting ≡ max_states

flags-kept : (a : Automaton) (l : Line) → HasFlags a → HasFlags (with_line a l)
flags-kept a (accepts_line q) h = length-set a.accepting q true ∙ h
flags-kept a (leaf_line x state) h = h
flags-kept a (app_line p q state) h = h
flags-kept a (other_line q) h = h

either-false : (b : Bool) → (b || false) ≡ b
either-false true = refl
either-false false = refl

either-true : (b : Bool) → (b || true) ≡ true
either-true true = refl
either-true false = refl

either-either : (a b c : Bool) → ((a || b) || c) ≡ (a || (b || c))
either-either true b c = refl
either-either false b c = refl

flag-set : (flags : List Bool) (r q : ℕ) → q < length flags → get_or (set flags r true) q false ≡ (get_or flags q false || nat_eq r q)
flag-set flags r q l = elim (cases_eq r q) [
  | inl e ↦
      subst (λ (k : ℕ). get_or (set flags k true) q false ≡ (get_or flags q false || nat_eq k q)) (sym e)
      (get_or-set_same flags q true false l ∙ (sym (either-true (get_or flags q false)) ∙ ap (λ (b : Bool). get_or flags q false || b) (sym (eq-eqb q q refl))))
  | inr n ↦
      get_or-set_other flags r q true false (λ e. n (sym e)) ∙ (sym (either-false (get_or flags q false)) ∙ ap (λ (b : Bool). get_or flags q false || b) (sym (ne_eqb r q n)))
]

flags-by : (q : ℕ) → q < max_states → (a : Automaton) (l : Line) → HasFlags a → is_accepting (with_line a l) q ≡ (is_accepting a q || is_accepted_by q l)
flags-by q m a (accepts_line r) h = flag-set a.accepting r q (omega (arith, m, h))
flags-by q m a (leaf_line x state) h = sym (either-false (is_accepting a q))
flags-by q m a (app_line left right state) h = sym (either-false (is_accepting a q))
flags-by q m a (other_line r) h = sym (either-false (is_accepting a q))

flags-by-lines : (q : ℕ) → q < max_states → (ls : List Line) (a : Automaton) → HasFlags a → is_accepting (with_lines a ls) q ≡ (is_accepting a q || is_said_by (is_accepted_by q) ls)
flags-by-lines q m [] a h = sym (either-false (is_accepting a q))
flags-by-lines q m (l ∷ ls) a h =
    let rest = is_said_by (is_accepted_by q) ls in
    flags-by-lines q m ls (with_line a l) (flags-kept a l h)
    ∙ (ap (λ (b : Bool). b || rest) (flags-by q m a l h) ∙ either-either (is_accepting a q) (is_accepted_by q l) rest)

pub named_states_accept : NamedStatesAccept
named_states_accept ls q m =
    let none : is_accepting no_lines q ≡ false = get_or-replicate max_states q false false m in
    let sized : HasFlags no_lines = length-replicate {A = Bool} max_states false in
    flags-by-lines q m ls no_lines sized ∙ ap (λ (b : Bool). b || is_said_by (is_accepted_by q) ls) none

pub others_keep_their_states : OthersKeepTheirStates
others_keep_their_states a x y = ap (λ (s : Option (Option ℕ)). settled s a.other) (said_at-removed a.leaves x y)
