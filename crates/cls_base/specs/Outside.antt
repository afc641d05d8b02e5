-- What a source and a sink show of themselves, and what their calls do to it.
use Rattle.std.specs.Prelude.{ℕ, ◌≡◌, ◌+◌, ◌-◌, ◌^◌, ◌<◌, ◌≤◌, ◌⊎◌, List, Option, None, Some}

-- What a source shows: the bytes that are left to read and those that the last read gave, if it tells them, and how many
-- reads have failed. The count stands still at the end of its type.
pub record SourceSeen : Type 0 where
  pub left : Option (List ℕ)
  pub last : Option (List ℕ)
  pub faults : ℕ

-- What a sink shows: the bytes that were taken so far, if it tells them, how many bytes it is sure to take yet, if it
-- tells that, and how many writes have failed. The count stands still at the end of its type.
pub record SinkSeen : Type 0 where
  pub held : Option (List ℕ)
  pub room : Option ℕ
  pub faults : ℕ

-- The count of faults rose, or stands at the last value of its type.
abbrev pub HasRisen : ℕ → ℕ → Type 0
HasRisen old new = (old < new) ⊎ (new ≡ 2 ^ 64 - 1)

-- The room, if it is told, is enough for n bytes.
abbrev pub Holds : Option ℕ → ℕ → Type 0
Holds None n = Unit {0}
Holds (Some room) n = n ≤ room

-- n bytes took their room, if it is told. A room that isn't told at first isn't told later.
abbrev pub Fills : Option ℕ → Option ℕ → ℕ → Type 0
Fills None None n = Unit {0}
Fills None (Some new) n = ⊥
Fills (Some old) None n = ⊥
Fills (Some old) (Some new) n = old ≡ new + n
