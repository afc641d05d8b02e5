-- The closed types as finite trees, and their measures.
use Rattle.std.specs.Prelude.{ℕ, ◌+◌, ◌*◌, max, nat_lt, if◌then◌else◌}

-- A name is its number in the table of constructor names. A bare name is that name over omega.
pub data ClosedType : Type 0 where
  omega : ClosedType
  constructor : (name : ℕ) → (argument : ClosedType) → ClosedType
  product : (left right : ClosedType) → ClosedType
  arrow : (source target : ClosedType) → ClosedType
  meet : (left right : ClosedType) → ClosedType

abbrev pub nodes : ClosedType → ℕ
nodes omega = 1
nodes (constructor c s) = 1 + nodes s
nodes (product s t) = 1 + nodes s + nodes t
nodes (arrow s t) = 1 + nodes s + nodes t
nodes (meet s t) = 1 + nodes s + nodes t

-- the number of paths before any is dropped
abbrev pub path_count : ClosedType → ℕ
path_count omega = 0
path_count (constructor c s) = max 1 (path_count s)
path_count (product s t) = max 1 (path_count s + path_count t)
path_count (arrow s t) = path_count t
path_count (meet s t) = path_count s + path_count t

-- a bound on the work of taking the type apart
abbrev pub spread : ClosedType → ℕ
spread omega = 0
spread (constructor c s) = spread s + max 1 (path_count s)
spread (product s t) = spread s + spread t + max 1 (path_count s + path_count t)
spread (arrow s t) = spread t + path_count t * (1 + spread s)
spread (meet s t) = spread s + spread t

-- The parentheses that are open at once in the text of the type, where a form of at least this strength
-- is wanted: 0 any, 1 no arrow, 2 no intersection, 3 an atom.
abbrev pub open_at : ℕ → ClosedType → ℕ
open_at k omega = 0
open_at k (constructor c omega) = 0
open_at k (constructor c (constructor d s)) = 1 + open_at 0 (constructor d s)
open_at k (constructor c (product s t)) = 1 + open_at 0 (product s t)
open_at k (constructor c (arrow s t)) = 1 + open_at 0 (arrow s t)
open_at k (constructor c (meet s t)) = 1 + open_at 0 (meet s t)
open_at k (product s t) = if nat_lt 2 k then 1 + max (open_at 2 s) (open_at 3 t) else max (open_at 2 s) (open_at 3 t)
open_at k (arrow s t) = if nat_lt 0 k then 1 + max (open_at 1 s) (open_at 0 t) else max (open_at 1 s) (open_at 0 t)
open_at k (meet s t) = if nat_lt 1 k then 1 + max (open_at 1 s) (open_at 2 t) else max (open_at 1 s) (open_at 2 t)

abbrev pub depth : ClosedType → ℕ
depth t = open_at 0 t
