-- internal: stems of paths, and the chains of those whose stems have one number
--
-- The stem of a path is what it begins with behind its leading arrows: names, and sides of products, as far as the path
-- goes. Arrows on the way are left out. A path that tells which paths may be below it has the same stem as each of these.
use Rattle.std.specs.Prelude.{ℕ, zero, suc, ◌≡◌, ◌+◌, ◌<◌, ◌≤◌, ◌%◌, List, [], ◌∷◌, map, length, slice_index_or, Option, None, Some}
use Rattle.cls_path.specs.Labels.{mixed}
use Rattle.cls_path.specs.Paths.{TypePath, atom, inside, unit, left, right, function, sealed, PathLe}
use Rattle.cls_taxon.specs.Orders.{Declared}
use Rattle.cls_library.specs.declared.stems.StemTable.{StemTable}
use Rattle.cls_library.specs.declared.stems.Stems.{Stems}
use Rattle.cls_library.specs.Arrows.{leading_arrows}
use Rattle.cls_library.specs.Chains.{AreChained}
use Rattle.cls_library.specs.Libraries.{below_in, variances_in}
use Rattle.cls_library.specs.Splits.{target_at}

-- at most so many names and sides: a side is 0 or 1, and a name its number with 2 added
abbrev pub stem_of : ℕ → TypePath → List ℕ
stem_of zero p = []
stem_of (suc k) (atom c) = (c + 2) ∷ []
stem_of (suc k) (inside c p) = (c + 2) ∷ stem_of k p
stem_of (suc k) unit = []
stem_of (suc k) (left p) = 0 ∷ stem_of k p
stem_of (suc k) (right p) = 1 ∷ stem_of k p
stem_of (suc k) (function n p) = stem_of (suc k) p
stem_of (suc k) (sealed c n) = (c + 2) ∷ []

-- the numbers mixed into one of 64 bits, which few other lists have
abbrev pub digest_of : ℕ → List ℕ → ℕ
digest_of seed [] = seed
digest_of seed (x ∷ xs) = digest_of (mixed seed x) xs

-- the number below count to which the stem of the path falls
abbrev pub stem_number : ℕ → ℕ → TypePath → ℕ
stem_number count depth p = digest_of 0 (stem_of depth p) % count

-- the number of each path
abbrev pub numbers_of : ℕ → ℕ → List TypePath → List ℕ
numbers_of count depth ps = map (stem_number count depth) ps

-- the places of the paths are chained by their numbers
pub record IsStemTable (ps : List TypePath) (t : StemTable) : Type 0 where
  pub some : 0 < t.count
  pub chained : AreChained 0 t.count (numbers_of t.count t.depth ps) t.chains.firsts.items t.chains.next.items

-- the same, if there is a table
abbrev pub IsTableIf : List TypePath → Option StemTable → Type 0
IsTableIf ps None = Unit {0}
IsTableIf ps (Some t) = IsStemTable ps t

abbrev pub AreStems : List TypePath → Stems → Type 0
AreStems ps s = IsTableIf ps s.pairs × IsTableIf ps s.triples

module _ (d : Declared) (n : ℕ) (q : TypePath) (ps : List TypePath) where
  -- the path at the place, behind its first n arrows, isn't below q
  abbrev pub IsSilent : ℕ → Type 0
  IsSilent i = n ≤ leading_arrows (slice_index_or ps i unit) → PathLe (below_in d) (variances_in d) (target_at n (slice_index_or ps i unit)) q → ⊥

  -- by some kinds that are chained, each path of another kind is silent
  pub record HoldsLeading (firsts next : List ℕ) (kind : ℕ) : Type 0 where
    pub kinds : List ℕ
    pub count : ℕ
    pub within : kind < count
    pub many : length kinds ≡ length ps
    pub chained : AreChained 0 count kinds firsts next
    pub other : (i : ℕ) → i < length ps → (slice_index_or kinds i 0 ≡ kind → ⊥) → IsSilent i
