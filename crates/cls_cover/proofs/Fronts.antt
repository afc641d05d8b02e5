-- What is known of the minimal covers of the first families, as they grow family by family.
use Rattle.std.proofs.Common.{ℕ, ◌≡◌, ◌∙◌, ◌<◌, ◌↔◌, List, [], ◌∷◌, length, map, take, ap, sym, subst}
use Rattle.cls_cover.specs.declared.cover.Cover.{Cover}
use Rattle.cls_cover.specs.declared.growing.Kind.{Kind}
use Rattle.cls_cover.specs.declared.growing.Kind.TheVariants.{Small, Large}
use Rattle.cls_cover.specs.declared.large.LargeCovers.{LargeCovers}
use Rattle.cls_cover.specs.declared.small.SmallCovers.{SmallCovers}
use Rattle.cls_cover.specs.Members.{Member}
use Rattle.cls_cover.specs.MemberCovers.{IsMinimalSet, SharesEach, AreCoverSets}
use Rattle.cls_cover.specs.Sets.{IsIn, members, AreSetsOf}
use Rattle.cls_cover.specs.Growing.{AreFound, sets}
use Rattle.cls_cover.specs.Choosing.{StandsIn, AreAllCoversOf}
use Rattle.cls_cover.specs.Fronts.{AreSmall, AreLarge, AreKept, AreInOrder}
use Rattle.cls_cover.proofs.SetBits.{members_none}
use Rattle.cls_cover.proofs.Choosing.{all_start, few_start}
use Rattle.cls_cover.proofs.Steps.{of_set}
use Rattle.cls_cover.proofs.Testing.{seen_none}

-- the cover of no families, as a set
pub small_start : (families : List (List ℕ)) (limit : ℕ) (s : SmallCovers) → 0 < limit → AreSetsOf families s.sets.items → s.seen ≡ 0 → s.list.items ≡ 0 ∷ [] → AreSmall families limit 0 s
small_start families limit s p a z e =
    let one : map members s.list.items ≡ [] ∷ [] = ap (λ (l : List ℕ). map members l) e ∙ ap (λ (t : List ℕ). t ∷ []) members_none in
    let all = all_start families (map members s.list.items) one in
    record {
      sets = a;
      seen = subst (λ n. (x : ℕ) → IsIn n x ↔ StandsIn families 0 x) (sym z) (seen_none families);
      found = all;
      within = few_start families limit p (map members s.list.items) (ap (λ (l : List (List ℕ)). length l) one) all;
    }

-- the covers that are kept in one of the two ways
pub kept_small : (families : List (List ℕ)) (limit j : ℕ) (kind : Kind) (s : SmallCovers) → kind ≡ Small s → AreKept families limit j kind → AreSmall families limit j s
kept_small families limit j kind s e h = subst (λ (k : Kind). AreKept families limit j k) e h

pub kept_large : (families : List (List ℕ)) (limit j : ℕ) (kind : Kind) (l : LargeCovers) → kind ≡ Large l → AreKept families limit j kind → AreLarge families limit j l
kept_large families limit j kind l e h = subst (λ (k : Kind). AreKept families limit j k) e h

module _ (families : List (List ℕ)) (j : ℕ) (all : List (List ℕ)) where
  -- what has all covers of the first families has them in order
  pub small_in_order : (list : List (List ℕ)) → AreAllCoversOf families j list → AreInOrder list all → AreCoverSets (take j families) all
  small_in_order list f o = record {
    in_order = o.rises;
    exactly = (λ s. ((λ m. f.covers.minimal s ((o.same s).0 m)), (λ m. (o.same s).1 (f.whole s m))));
  }

  pub large_in_order : (list : List Cover) → AreFound families j list → AreInOrder (sets list) all → AreCoverSets (take j families) all
  large_in_order list f o = record {
    in_order = o.rises;
    exactly = (λ s. ((λ m. one s ((o.same s).0 m)), (λ m. (o.same s).1 (f.whole s m))));
  }
    where
      one : (s : List ℕ) → Member (sets list) s → IsMinimalSet (SharesEach (take j families)) s
      one s m = let c = of_set list s m in subst (λ (u : List ℕ). IsMinimalSet (SharesEach (take j families)) u) c.2 (f.known c.0 c.1).minimal
