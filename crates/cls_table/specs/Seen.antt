-- What contracts see of a table, its parts and its seats.
use Rattle.std.specs.Prelude.{ℕ, Bool, List, Option}
use Rattle.atomic_table.specs.Seated.{TableId}
use Rattle.cls_table.specs.declared.tag.Tag.{Tag}
use Rattle.cls_core.specs.Rows.{Machine, Recorded}
use Rattle.cls_core.specs.declared.entry.Entry.{Entry}
use Rattle.cls_core.specs.declared.answer.Answer.{Answer}

-- a machine with its history, under a tag
pub record ProgressSeen (B G : Type 0) : Type 0 where
  pub tag : Tag B G
  pub rows : Machine G
  pub history : List Entry

pub record TableSeen (B G : Type 0) : Type 0 where
  pub tag : Tag B G
  pub rows : Machine G
  pub history : List Entry
  -- the count of claims made
  pub claims : ℕ
  pub large : Bool
  pub stopped : Bool

-- what the core machine shows of it
abbrev pub core_of : {B G : Type 0} → ProgressSeen B G → Recorded G
core_of p = record { rows = p.rows; history = p.history }

abbrev pub progress_of : {B G : Type 0} → TableSeen B G → ProgressSeen B G
progress_of t = record { tag = t.tag; rows = t.rows; history = t.history }

abbrev pub table_of : {B G : Type 0} → ProgressSeen B G → ℕ → Bool → Bool → TableSeen B G
table_of p claims large stopped = record {
  tag = p.tag;
  rows = p.rows;
  history = p.history;
  claims = claims;
  large = large;
  stopped = stopped;
}

pub record ClaimSeen (B G : Type 0) : Type 0 where
  pub tag : Tag B G
  pub worker : ℕ
  pub row : ℕ
  pub number : ℕ
  pub goal : G

pub record FiledSeen (B G : Type 0) : Type 0 where
  pub claim : ClaimSeen B G
  pub answer : Answer G

pub record BatchSeen (B G : Type 0) : Type 0 where
  -- what was claimed and not worked on
  pub claims : List (ClaimSeen B G)
  -- what was worked on and not filed
  pub filings : List (FiledSeen B G)

pub record SeatSeen (B G : Type 0) : Type 0 where
  -- which table the seat is of
  pub turn : TableId
  pub tag : Option (Tag B G)
  pub worker : ℕ
  -- the parts of the ledger that its share has, and the claims that the share counts
  pub parts : ℕ
  pub amount : ℕ
