-- internal: what a walk over frames lists
use Rattle.std.specs.Prelude.{ℕ, ◌≡◌, ◌-◌, ◌≤◌, List, ◌∷◌, Option}
use Rattle.cls_base.specs.declared.rule.Rule.{Rule}
use Rattle.cls_walk.specs.Frames.{Frame, ListsBy}
use Rattle.cls_walk.specs.FrameAims.{Aim, Offers}
use Rattle.cls_walk.specs.Openings.{IsDone}
use Rattle.cls_walk.specs.Walks.{IsBehind}
use Rattle.cls_walk.specs.declared.cursor.Cursor.{Cursor}
use Rattle.cls_walk.specs.declared.opening.Opening.{Opening}

-- the codes that the frames list, as far as they come after what is left of the cursor
module _ (book : List (List (Rule ℕ))) (cost : ℕ → ℕ) (start : ℕ) (frames : List Frame) where
  pub record IsDueOn (size room : ℕ) (cursor : Cursor) (w : List ℕ) : Type 0 where
    pub lists : ListsBy book cost start frames size room w
    pub behind : IsBehind cursor w

-- the opening is offered within the size, and has no more arguments than there are occurrences to spare
module _ (book : List (List (Rule ℕ))) (least cost : ℕ → ℕ) (levels : ℕ → List Aim) where
  pub record IsOffered (size spare x k : ℕ) : Type 0 where
    pub cheap : cost x ≤ size
    pub few : k ≤ spare
    pub offers : Offers book least levels (size - cost x) x k

module _ (Wanted : List ℕ → Type 0) where
  -- the wanted codes with the opening
  pub record BeginsWith (o : Opening) (w : List ℕ) : Type 0 where
    pub rest : List ℕ
    pub begins : w ≡ o.component ∷ o.count ∷ rest
    pub wanted : Wanted w

  -- and those with an opening up to the last one
  pub record BeginsTo (last : Option Opening) (w : List ℕ) : Type 0 where
    pub component : ℕ
    pub count : ℕ
    pub rest : List ℕ
    pub begins : w ≡ component ∷ count ∷ rest
    pub done : IsDone last component count
    pub wanted : Wanted w
