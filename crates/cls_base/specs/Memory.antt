-- Sources and sinks over memory, as contracts see them.
use Rattle.std.specs.Prelude.{ℕ, ◌+◌, ◌-◌, ◌^◌, min, List}

-- What is left, what the last read gave, how many bytes a read gives at most, the numbers of the reads that fail, and how
-- many reads there were and failed.
pub record Input : Type 0 where
  pub left : List ℕ
  pub last : List ℕ
  pub chunk : ℕ
  pub fails : List ℕ
  pub reads : ℕ
  pub faults : ℕ

-- What is held and how much at most, how many bytes a write takes at most, the numbers of the writes that fail, and how
-- many writes there were and failed.
pub record Output : Type 0 where
  pub held : List ℕ
  pub spare : ℕ
  pub chunk : ℕ
  pub fails : List ℕ
  pub writes : ℕ
  pub faults : ℕ

-- A source that never fails: what is left, and what the last read gave.
pub record SureInput : Type 0 where
  pub left : List ℕ
  pub last : List ℕ

-- A sink that takes all that it is offered: what is held, and the room that is left.
pub record SureOutput : Type 0 where
  pub held : List ℕ
  pub room : ℕ

-- one more, as far as a count of 64 bits goes
abbrev pub next_count : ℕ → ℕ
next_count n = min (n + 1) (2 ^ 64 - 1)
