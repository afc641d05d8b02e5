-- The names of the states of a filter, and their numbers.
use Rattle.std.proofs.Common.{◌≡◌, ℕ, ◌+◌, ◌≤◌, ◌<◌, true, false, not, cond, List, [], ◌∷◌, length, map, take, drop, get_or, refl, sym, ap, ◌∙◌, subst, arith}
use Rattle.std.specs.Prelude.{◌||◌, if◌then◌else◌, Option, Some, None}
use Rattle.std.specs.List.{list_any, AllByRecursion}
use Rattle.std.specs.Str.{bytes_eq}
use Rattle.std.proofs.lemmas.Bool.{true≢false}
use Rattle.std.proofs.lemmas.List.{drop_more}
use Rattle.cls_base.specs.Limits.{max_states}
use Rattle.cls_filter.specs.Automata.{Automaton}
use Rattle.cls_filter.specs.Lines.{with_accepting}
use Rattle.cls_filter.specs.States.{IsState}
use Rattle.cls_lexer.specs.declared.token.Token.{Token}
use Rattle.cls_lexer.specs.Names.{number_of, with_text, with_texts}
use Rattle.cls_syntax.specs.Roles.{is_set_aside}
use Rattle.cls_syntax.specs.TokenTexts.{texts}
use Rattle.cls_syntax.proofs.Tables.{Held, Grows, grows_one, grows_on, grows_all, grows_kept, kept, held_all}
use Rattle.cls_repo.specs.Declarations.{state_names, state_number, with_all_accepting}
use Rattle.cls_repo.specs.Written.{AreBelowLimit}

-- what stands in front of a table that grows twice
pub kept_on : (a b c : List (List ℕ)) → take (length a) b ≡ a → take (length b) c ≡ b → take (length a) c ≡ a
kept_on a b c e f = kept (grows_on (grows_kept {old = a} {new = b} e) (grows_kept {old = b} {new = c} f))

pub kept_same : (a b : List (List ℕ)) → b ≡ a → take (length a) b ≡ a
kept_same a b e = ap (take (length a)) e ∙ kept (grows_all a [])

-- a word that names no state, and one that does
pub aside_named : (table : List (List ℕ)) (x : List ℕ) → is_set_aside x ≡ true → table ≡ with_texts table (state_names (x ∷ []))
aside_named table x =
    elim (is_set_aside x) as (λ b. b ≡ true → table ≡ with_texts table (cond (not b) (x ∷ []) [])) [ true ↦ λ e. refl | false ↦ λ e. absurd (true≢false (sym e)) ]

pub state_named : (table : List (List ℕ)) (x : List ℕ) → is_set_aside x ≡ false → with_text table x ≡ with_texts table (state_names (x ∷ []))
state_named table x =
    elim (is_set_aside x) as (λ b. b ≡ false → with_text table x ≡ with_texts table (cond (not b) (x ∷ []) [])) [ true ↦ λ e. absurd (true≢false e) | false ↦ λ e. refl ]

states_more : (table : List (List ℕ)) (x : List ℕ) (xs : List (List ℕ)) → with_texts table (state_names (x ∷ xs)) ≡ with_texts (with_texts table (state_names (x ∷ []))) (state_names xs)
states_more table x xs =
    elim (is_set_aside x) as (λ b. with_texts table (cond (not b) (x ∷ state_names xs) (state_names xs)) ≡ with_texts (with_texts table (cond (not b) (x ∷ []) [])) (state_names xs)) [ true ↦ refl | false ↦ refl ]

-- three words in turn
pub three_named : (table one two three : List (List ℕ)) (p q r : List ℕ) → one ≡ with_texts table (state_names (p ∷ [])) → two ≡ with_texts one (state_names (q ∷ [])) → three ≡ with_texts two (state_names (r ∷ []))
    → three ≡ with_texts table (state_names (p ∷ q ∷ r ∷ []))
three_named table one two three p q r e f g =
    let first = with_texts table (state_names (p ∷ [])) in
    g
    ∙ (ap (λ (ts : List (List ℕ)). with_texts ts (state_names (r ∷ []))) (f ∙ ap (λ (ts : List (List ℕ)). with_texts ts (state_names (q ∷ []))) e)
    ∙ (sym (states_more first q (r ∷ [])) ∙ sym (states_more table p (q ∷ r ∷ []))))

-- a name that is held has a number below the count
held_below : (table : List (List ℕ)) (x : List ℕ) → Held table x → number_of table x < length table
held_below [] x h = absurd (true≢false (sym h))
held_below (t ∷ table) x h =
    (elim (bytes_eq x t) as (λ b. (b || list_any (bytes_eq x) table) ≡ true → cond (not b) (1 + number_of table x) 0 < length (t ∷ table)) [
      | true ↦ λ k. omega arith
      | false ↦ λ k. let l = held_below table x k in omega (arith, l)
    ]) h

all_below : (table xs : List (List ℕ)) → length table ≤ max_states → AllByRecursion (Held table) xs → AreBelowLimit table xs
all_below table [] few h = tt
all_below table (x ∷ xs) few h = let l = held_below table x h.0 in (omega (arith, l, few), all_below table xs few h.1)

-- the names that came into a table of few names
pub named_below : (old new xs : List (List ℕ)) → new ≡ with_texts old xs → length new ≤ max_states → AreBelowLimit new xs
named_below old new xs e few = all_below new xs few (subst (λ (ts : List (List ℕ)). AllByRecursion (Held ts) xs) (sym e) (held_all old xs))

-- the number of a state is one below the limit, or none
pub number_below : (table : List (List ℕ)) (x : List ℕ) (state : Option ℕ) → state ≡ state_number table x → AreBelowLimit table (state_names (x ∷ [])) → IsState state
number_below table x state e h = subst IsState (sym e) (below h)
  where
    below : AreBelowLimit table (state_names (x ∷ [])) → IsState (state_number table x)
    below = elim (is_set_aside x) as (λ b. AreBelowLimit table (cond (not b) (x ∷ []) []) → IsState (if b then None else Some (number_of table x))) [ true ↦ λ k. tt | false ↦ λ k. k.0 ]

-- the last of three words
pub third_below : (table : List (List ℕ)) (p q r : List ℕ) → AreBelowLimit table (state_names (p ∷ q ∷ r ∷ [])) → AreBelowLimit table (state_names (r ∷ []))
third_below table p q r h = behind q (r ∷ []) (behind p (q ∷ r ∷ []) h)
  where
    behind : (x : List ℕ) (xs : List (List ℕ)) → AreBelowLimit table (state_names (x ∷ xs)) → AreBelowLimit table (state_names xs)
    behind x xs = elim (is_set_aside x) as (λ b. AreBelowLimit table (cond (not b) (x ∷ state_names xs) (state_names xs)) → AreBelowLimit table (state_names xs)) [ true ↦ λ k. k | false ↦ λ k. k.1 ]

-- TOKENS IN TURN
-- the next token
pub next_text : (tokens : List Token) (i : ℕ) (token : Token) → i < length tokens → token ≡ get_or tokens i token → texts (drop i tokens) ≡ token.text.now ∷ texts (drop (i + 1) tokens)
next_text tokens i token l is = ap texts (drop_more tokens i token l ∙ ap (λ (t : Token). t ∷ drop (i + 1) tokens) (sym is))

-- some of the names came, and the others are left
pub record AreNaming (old all now left : List (List ℕ)) : Type 0 where
  pub named : with_texts now left ≡ with_texts old all
  pub grown : Grows old now

pub none_named : (old all : List (List ℕ)) → AreNaming old all old all
none_named old all = record { named = refl; grown = grows_all old [] }

pub one_named : (old all now new left rest : List (List ℕ)) (x : List ℕ) → left ≡ x ∷ rest → new ≡ with_text now x → AreNaming old all now left → AreNaming old all new rest
one_named old all now new left rest x is e n = record {
  named = ap (λ (ts : List (List ℕ)). with_texts ts rest) e ∙ (sym (ap (with_texts now) is) ∙ n.named);
  grown = grows_on n.grown (subst (Grows now) (sym e) (grows_one now x));
}

pub all_named : (old all now left : List (List ℕ)) → left ≡ [] → AreNaming old all now left → now ≡ with_texts old all
all_named old all now left none n = sym (ap (with_texts now) none) ∙ n.named

-- some of the states are accepting, and the others are left
pub record AreAccepting (states : List (List ℕ)) (old : Automaton) (all : List (List ℕ)) (now : Automaton) (left : List (List ℕ)) : Type 0 where
  pub accepting : with_all_accepting now (map (number_of states) left) ≡ with_all_accepting old (map (number_of states) all)
  pub below : AreBelowLimit states left

pub one_accepting : (states : List (List ℕ)) (old : Automaton) (all : List (List ℕ)) (now new : Automaton) (left rest : List (List ℕ)) (x : List ℕ) → left ≡ x ∷ rest → new ≡ with_accepting now (number_of states x)
    → AreAccepting states old all now left → AreAccepting states old all new rest
one_accepting states old all now new left rest x is e a = record {
  accepting = ap (λ (b : Automaton). with_all_accepting b (map (number_of states) rest)) e ∙ (sym (ap (λ (xs : List (List ℕ)). with_all_accepting now (map (number_of states) xs)) is) ∙ a.accepting);
  below = (subst (AreBelowLimit states) is a.below).1;
}

pub all_accepting : (states : List (List ℕ)) (old : Automaton) (all : List (List ℕ)) (now : Automaton) (left : List (List ℕ)) → left ≡ [] → AreAccepting states old all now left
    → now ≡ with_all_accepting old (map (number_of states) all)
all_accepting states old all now left none a = sym (ap (λ (xs : List (List ℕ)). with_all_accepting now (map (number_of states) xs)) none) ∙ a.accepting
