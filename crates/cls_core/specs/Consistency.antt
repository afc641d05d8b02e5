-- internal: the facts that the core keeps of its columns and counts, and those that finished rows keep
use Rattle.std.specs.Prelude.{◌≡◌, ◌+◌, ◌<◌, ◌≤◌, ◌^◌, ℕ, List, length}
use Rattle.cls_core.specs.declared.entry.Entry.{Entry}
use Rattle.cls_core.specs.Rows.{Machine}
use Rattle.cls_core.specs.Machine.{NoneFreeBelow, EachFiled, held_in, rules_in}

module _ {G : Type 0} (r : Machine G) where
  -- The core looks for free rows from the row `first` on. It counts the rows that are held, and the rules of the filed
  -- ones. `room` is the number of entries for which memory was taken.
  pub record IsConsistent (first held rules : ℕ) (history : List Entry) (room : ℕ) : Type 0 where
    -- each row has a goal and a state
    pub paired : length r.states ≡ length r.goals
    -- a row's number is one of 32 bits
    pub small : length r.goals < 2 ^ 32
    pub none_free_below : NoneFreeBelow r.states first
    pub first_within : first ≤ length r.states
    pub held_counted : held ≡ held_in r.states
    pub rules_counted : rules ≡ rules_in r.states
    -- each row that is held can be filed without memory for its entry
    pub entries_fit : length history + held ≤ room

  -- each row has a goal and a state, which is filed
  pub record AreFinished : Type 0 where
    pub paired : length r.states ≡ length r.goals
    pub small : length r.goals < 2 ^ 32
    pub filed : EachFiled r.states
