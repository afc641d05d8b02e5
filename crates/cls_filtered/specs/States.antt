-- internal: how the states of the terms of nodes become known
use Rattle.std.specs.Prelude.{ℕ, ◌≡◌, ◌+◌, ◌*◌, ◌-◌, ◌≤◌, ◌<◌, ◌⊎◌, Bool, true, false, List, [], ◌∷◌, ◌++◌, Some, length, slice_set, slice_index_or, Contains}
use Rattle.cls_base.specs.Limits.{max_states}
use Rattle.cls_base.specs.declared.rule.Rule.{Rule}
use Rattle.cls_base.specs.declared.rule.Rule.TheVariants.{Head, Any}
use Rattle.cls_base.specs.Languages.{NodeRule, rules_at}
use Rattle.cls_filter.specs.Automata.{Automaton, leaf_state, joined_state}
use Rattle.cls_filtered.specs.Filtered.{pair_of, HasState, count_true}
use Rattle.cls_filtered.specs.Stepwise.{AreSteps}

-- whether each pair is known to have a term, and the nodes that got a state since they had their turn
pub record Known : Type 0 where
  pub flags : List Bool
  pub changed : List ℕ

abbrev pub is_known : List Bool → ℕ → ℕ → Bool
is_known flags i q = slice_index_or flags (pair_of i q) false

-- the node has a term of the state, which wasn't known
abbrev pub reached : Known → ℕ → ℕ → Known
reached s i q = record { flags = slice_set s.flags (pair_of i q) true; changed = s.changed ++ i ∷ [] }

-- each flag may be set, and each node that got a state may have its turn
abbrev pub work_left : Known → ℕ
work_left s = 2 * (length s.flags - count_true s.flags) + length s.changed

-- as much is known, or more, and no more is left to do
pub record IsOnward (old new : Known) : Type 0 where
  pub sized : length new.flags ≡ length old.flags
  pub kept : (k : ℕ) → slice_index_or old.flags k false ≡ true → slice_index_or new.flags k false ≡ true
  pub same_or_more : (new ≡ old) ⊎ (count_true old.flags < count_true new.flags)
  pub less : work_left new ≤ work_left old

module _ (a : Automaton) where
  -- the rule of the node adds nothing to what is known
  abbrev pub IsFollowed : List Bool → ℕ → Rule ℕ → Type 0
  IsFollowed flags i (Head x ns) = (q : ℕ) → leaf_state a x ≡ Some q → is_known flags i q ≡ true
  IsFollowed flags i (Any l m) =
      (p s q : ℕ) → p < max_states → s < max_states → is_known flags l p ≡ true → is_known flags m s ≡ true
      → joined_state a p s ≡ Some q → is_known flags i q ≡ true

  abbrev pub AreFollowed : List Bool → ℕ → List (Rule ℕ) → Type 0
  AreFollowed flags i rs = (r : Rule ℕ) → Contains rs r → IsFollowed flags i r

  -- what is known is so: each flag that is true has a term
  pub record IsSound (book : List (List (Rule ℕ))) (flags : List Bool) : Type 0 where
    pub count : length flags ≡ length book * max_states
    pub has : (i q : ℕ) → i < length book → q < max_states → is_known flags i q ≡ true → HasState book a i q

  -- no rule of a node adds anything
  abbrev pub IsClosed : List (List (Rule ℕ)) → List Bool → Type 0
  IsClosed book flags = (i : ℕ) → i < length book → AreFollowed flags i (rules_at book i)

  -- The rule of the node is followed.
  pub record Follows (i : ℕ) (r : Rule ℕ) (old new : Known) : Type 0 where
    pub onward : IsOnward old new
    pub sound : (book : List (List (Rule ℕ))) → AreSteps book → NodeRule book i r → IsSound book old.flags → IsSound book new.flags
    pub followed : new ≡ old → IsFollowed new.flags i r

  -- A part of that: left node l, which has a term of state p, is applied to right node m at state s, if it has a term of it.
  pub record JoinsAt (i l p m s : ℕ) (old new : Known) : Type 0 where
    pub onward : IsOnward old new
    pub sound : (book : List (List (Rule ℕ))) → AreSteps book → NodeRule book i (Any l m) → is_known old.flags l p ≡ true
        → IsSound book old.flags → IsSound book new.flags
    pub followed : new ≡ old → (q : ℕ) → is_known new.flags m s ≡ true → joined_state a p s ≡ Some q → is_known new.flags i q ≡ true

  -- The same at each state of the right node that is below n.
  pub record Joins (i l p m n : ℕ) (old new : Known) : Type 0 where
    pub onward : IsOnward old new
    pub sound : (book : List (List (Rule ℕ))) → AreSteps book → NodeRule book i (Any l m) → is_known old.flags l p ≡ true
        → IsSound book old.flags → IsSound book new.flags
    pub followed : new ≡ old → (s q : ℕ) → s < n → is_known new.flags m s ≡ true → joined_state a p s ≡ Some q
        → is_known new.flags i q ≡ true

  -- Left node l is applied at state p, if it has a term of it.
  pub record AppliesAt (i l p m : ℕ) (old new : Known) : Type 0 where
    pub onward : IsOnward old new
    pub sound : (book : List (List (Rule ℕ))) → AreSteps book → NodeRule book i (Any l m) → IsSound book old.flags → IsSound book new.flags
    pub followed : new ≡ old → (s q : ℕ) → s < max_states → is_known new.flags l p ≡ true → is_known new.flags m s ≡ true
        → joined_state a p s ≡ Some q → is_known new.flags i q ≡ true

  -- The same at each state of the left node that is below n.
  pub record Applies (i l m n : ℕ) (old new : Known) : Type 0 where
    pub onward : IsOnward old new
    pub sound : (book : List (List (Rule ℕ))) → AreSteps book → NodeRule book i (Any l m) → IsSound book old.flags → IsSound book new.flags
    pub followed : new ≡ old → (p s q : ℕ) → p < n → s < max_states → is_known new.flags l p ≡ true → is_known new.flags m s ≡ true
        → joined_state a p s ≡ Some q → is_known new.flags i q ≡ true

  -- Rules of the node are followed.
  pub record FollowsRules (book : List (List (Rule ℕ))) (i : ℕ) (rs : List (Rule ℕ)) (old new : Known) : Type 0 where
    pub onward : IsOnward old new
    pub sound : AreSteps book → IsSound book old.flags → IsSound book new.flags
    pub followed : new ≡ old → AreFollowed new.flags i rs

  abbrev pub FollowsAll : List (List (Rule ℕ)) → ℕ → Known → Known → Type 0
  FollowsAll book i old new = FollowsRules book i (rules_at book i) old new

  -- Nodes have their turn, whichever.
  pub record Turns (book : List (List (Rule ℕ))) (old new : Known) : Type 0 where
    pub onward : IsOnward old new
    pub sound : AreSteps book → IsSound book old.flags → IsSound book new.flags

  -- The nodes below n have their turn.
  pub record Passes (book : List (List (Rule ℕ))) (n : ℕ) (old new : Known) : Type 0 where
    pub turns : Turns book old new
    pub followed : new ≡ old → (i : ℕ) → i < n → AreFollowed new.flags i (rules_at book i)

  -- As much is known, or more, whichever nodes were taken off those that changed.
  pub record Keeps (book : List (List (Rule ℕ))) (old new : Known) : Type 0 where
    pub sized : length new.flags ≡ length old.flags
    pub no_less : count_true old.flags ≤ count_true new.flags
    pub sound : AreSteps book → IsSound book old.flags → IsSound book new.flags

-- The node has a term of the state, and that is known.
pub record Reaches (i q : ℕ) (old new : Known) : Type 0 where
  pub onward : IsOnward old new
  pub sound : (a : Automaton) (book : List (List (Rule ℕ))) → HasState book a i q → IsSound a book old.flags → IsSound a book new.flags
  pub known : is_known new.flags i q ≡ true
