-- Families of one position each, given by these positions, have one minimal cover.
use Rattle.std.proofs.Common.{ℕ, ◌≡◌, ◌<◌, ◌↔◌, ◌⊎◌, refl, sym, subst, List, [], ◌∷◌, ◌++◌, take, arith}
use Rattle.std.specs.Prelude.{map}
use Rattle.cls_base.proofs.Lists.{map_last}
use Rattle.cls_cover.specs.Covers.{AreCovers, AreWithinLimit}
use Rattle.cls_cover.specs.Members.{Member, first, later, Ascending}
use Rattle.cls_cover.specs.Growing.{single}
use Rattle.cls_cover.specs.Forced.{IsForced}
use Rattle.cls_cover.specs.Sets.{IsSetOf, members}
use Rattle.cls_cover.proofs.SetBits.{members_in, members_rise}
use Rattle.cls_cover.proofs.SingleFamilies.{forced_none, forced_covers, forced_more, single_within, same_single}
use Rattle.cls_cover.proofs.Public.{to_covers, from_more}

from_singles : (xs : List ℕ) (f : List ℕ) → Member (map single xs) f → (x : ℕ) × Member xs x × (f ≡ single x)
from_singles [] f m = elim m [ ]
from_singles (x ∷ xs) _ first = (x, first, refl)
from_singles (x ∷ xs) f (later m) = let r = from_singles xs f m in (r.0, later r.1, r.2)

in_singles : (xs : List ℕ) (x : ℕ) → Member xs x → Member (map single xs) (single x)
in_singles [] x m = elim m [ ]
in_singles (x ∷ xs) _ first = first
in_singles (y ∷ xs) x (later m) = later (in_singles xs x m)

of_singles : (xs : List ℕ) (x : ℕ) → Member (map single xs) (single x) → Member xs x
of_singles xs x m = let r = from_singles xs (single x) m in subst (λ z. Member xs z) (sym (same_single x r.0 r.2)) r.1

-- no position
pub lone_none : (cover : List ℕ) → cover ≡ [] → IsForced (map single []) cover
lone_none cover e = forced_none cover e

-- the positions as a set
pub lone_set : (xs : List ℕ) (set : ℕ) → IsSetOf xs set → IsForced (map single xs) (members set)
lone_set xs set h = record {
  ascending = members_rise set;
  single_each = (λ f m. let r = from_singles xs f m in (r.0, r.2));
  exactly = (λ x. ((λ m. in_singles xs x ((h x).0 ((members_in set x).0 m))), (λ m. (members_in set x).1 ((h x).1 (of_singles xs x m)))));
}

-- one position more
pub lone_more : (xs : List ℕ) (x : ℕ) (cover next : List ℕ) → IsForced (map single xs) cover → Ascending next
    → ((y : ℕ) → Member next y ↔ (Member cover y ⊎ (y ≡ x))) → IsForced (map single (xs ++ x ∷ [])) next
lone_more xs x cover next h a is =
    subst (λ (fs : List (List ℕ)). IsForced fs next) (sym (map_last single xs x)) (forced_more (map single xs) cover next x (single x) h refl a is)

module _ (xs cover : List ℕ) (h : IsForced (map single xs) cover) where
  pub lone_covers : AreCovers (map single xs) (cover ∷ [])
  lone_covers = to_covers (map single xs) (cover ∷ []) (forced_covers (map single xs) cover h)

  pub lone_within : (limit : ℕ) → 0 < limit → AreWithinLimit (map single xs) limit
  lone_within limit l = λ j k m. single_within (map single xs) h.single_each limit (λ e. omega arith) j (from_more (take j (map single xs)) limit m)
