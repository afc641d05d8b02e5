-- What a worker has at hand between two holdings, and what becomes of it.
use Rattle.std.specs.Prelude.{◌≡◌, ℕ, Bool, All, List, [], ◌∷◌, ◌++◌, map, reverse}
use Rattle.cls_core.specs.declared.answer.Answer.{Answer}
use Rattle.cls_table.specs.declared.tag.Tag.{Tag}
use Rattle.cls_table.specs.Holdings.{HasRoom, IsHeldClaim, after_file, large_table}
use Rattle.cls_table.specs.Lawful.{IsLawfulTable}
use Rattle.cls_table.specs.Seen.{BatchSeen, ClaimSeen, FiledSeen, TableSeen}

module _ {B G : Type 0} where
  -- the claim is of a table with this tag, and by this worker
  pub record IsClaimBy (tag : Tag B G) (worker : ℕ) (c : ClaimSeen B G) : Type 0 where
    pub same_tag : c.tag ≡ tag
    pub by_worker : c.worker ≡ worker

  -- the claims, and those of the filings, are of tables with this tag, and by this worker
  pub record IsBatchFor (tag : Tag B G) (worker : ℕ) (b : BatchSeen B G) : Type 0 where
    pub claims : All (IsClaimBy tag worker) b.claims
    pub filings : All (λ (f : FiledSeen B G). IsClaimBy tag worker f.claim) b.filings

  -- nothing is at hand
  abbrev pub HasNothing : BatchSeen B G → Type 0
  HasNothing b = (b.claims ≡ []) × (b.filings ≡ [])

  -- the claims of the filings, and then those that weren't worked on, the last one first
  abbrev pub claims_at_hand : BatchSeen B G → List (ClaimSeen B G)
  claims_at_hand b = map (λ (f : FiledSeen B G). f.claim) b.filings ++ reverse b.claims

  -- Claims were worked on, the last one first: each that left the claims came behind the filings, with its answer, and the
  -- filings before stay.
  pub record KeepsWork (old new : BatchSeen B G) : Type 0 where
    pub claims : claims_at_hand new ≡ claims_at_hand old
    pub filings : (more : List (FiledSeen B G)) × (new.filings ≡ old.filings ++ more)

  module _ (eq : G → G → Bool) where
    -- One filing is filed, or passes the limits, or isn't held and is left. The table t becomes another one.
    pub data Files (t : TableSeen B G) (f : FiledSeen B G) : List (FiledSeen B G) → TableSeen B G → Type 0 where
      is_filed : IsHeldClaim t.rows f.claim → HasRoom eq t.tag t.rows f.answer → Files t f [] (after_file eq t f)
      passes_limits : IsHeldClaim t.rows f.claim → (HasRoom eq t.tag t.rows f.answer → ⊥) → Files t f [] (large_table t)
      is_left : (IsHeldClaim t.rows f.claim → ⊥) → Files t f (f ∷ []) t

    -- the same of filings one after the other, with those that are left in their order
    pub data FilesEach : TableSeen B G → List (FiledSeen B G) → List (FiledSeen B G) → TableSeen B G → Type 0 where
      no_filing : {t : TableSeen B G} → FilesEach t [] [] t
      one_filing :
          {t u v : TableSeen B G} {f : FiledSeen B G} {left fs rest : List (FiledSeen B G)}
          → Files t f left u → FilesEach u fs rest v → FilesEach t (f ∷ fs) (left ++ rest) v

  module _ (eq : G → G → Bool) (IsAnswer : B → G → Answer G → Type 0) where
    -- At a lawful table with the tag the filings were filed one after the other, the last one first, and these are left.
    pub record HasFiled (tag : Tag B G) (filings left : List (FiledSeen B G)) : Type 0 where
      pub before : TableSeen B G
      pub after : TableSeen B G
      pub same_tag : before.tag ≡ tag
      pub lawful : IsLawfulTable eq IsAnswer before
      pub files : FilesEach eq before (reverse filings) left after
