-- From membership as a data family to std's word and back.
use Rattle.std.proofs.Common.{ℕ, ◌<◌, List, [], ◌∷◌, length, All, take, get_or}
use Rattle.cls_base.specs.Lists.{AreDistinct}
use Rattle.cls_base.specs.Terms.{Precedes}
use Rattle.cls_cover.specs.Lists.{IsAscending, IsLexicographic}
use Rattle.cls_cover.specs.Covers.{IsMinimal, MeetsEach, AreCovers, HaveMore}
use Rattle.cls_cover.specs.Faults.{AreTooMany}
use Rattle.cls_cover.specs.Members.{Rises, Ascending, Differ}
use Rattle.cls_cover.specs.MemberCovers.{IsMinimalSet, SharesEach, AreCoverSets, HaveMoreSets}
use Rattle.cls_cover.specs.MemberFaults.{AreTooManySets}
use Rattle.cls_cover.proofs.Lists.{contains_member, member_contains}

pub ascending_members : (s : List ℕ) → IsAscending s → Ascending s
ascending_members [] a = tt
ascending_members (x ∷ s) a = ((λ y m. a.0 y (member_contains m)), ascending_members s a.1)

members_ascending : (s : List ℕ) → Ascending s → IsAscending s
members_ascending [] a = tt
members_ascending (x ∷ s) a = ((λ y m. a.0 y (contains_member s y m)), members_ascending s a.1)

pub distinct_differ : {A : Type 0} (xs : List A) → AreDistinct xs → Differ xs
distinct_differ [] d = tt
distinct_differ (x ∷ xs) d = ((λ m. d.0 (member_contains m)), distinct_differ xs d.1)

differ_distinct : {A : Type 0} (xs : List A) → Differ xs → AreDistinct xs
differ_distinct [] d = tt
differ_distinct (x ∷ xs) d = ((λ m. d.0 (contains_member xs x m)), differ_distinct xs d.1)

shares_meets : (families : List (List ℕ)) (s : List ℕ) → SharesEach families s → MeetsEach families s
shares_meets families s h family m =
    let r = h family (contains_member families family m) in
    (r.0, member_contains r.1, member_contains r.2)

meets_shares : (families : List (List ℕ)) (s : List ℕ) → MeetsEach families s → SharesEach families s
meets_shares families s h family m =
    let r = h family (member_contains m) in
    (r.0, contains_member family r.0 r.1, contains_member s r.0 r.2)

module _ (families : List (List ℕ)) where
  to_minimal : (s : List ℕ) → IsMinimalSet (SharesEach families) s → IsMinimal (MeetsEach families) s
  to_minimal s m = record {
    ascending = members_ascending s m.ascending;
    covers = shares_meets families s m.covers;
    minimal = (λ t h c. m.minimal t h (meets_shares families t c));
  }

  from_minimal : (s : List ℕ) → IsMinimal (MeetsEach families) s → IsMinimalSet (SharesEach families) s
  from_minimal s m = record {
    ascending = ascending_members s m.ascending;
    covers = meets_shares families s m.covers;
    minimal = (λ t h c. m.minimal t h (shares_meets families t c));
  }

  pub to_more : (n : ℕ) → HaveMoreSets families n → HaveMore families n
  to_more n h = record {
    list = h.list;
    distinct = differ_distinct h.list h.differ;
    minimal = (λ s m. to_minimal s (h.minimal s (contains_member h.list s m)));
    more = h.more;
  }

  pub from_more : (n : ℕ) → HaveMore families n → HaveMoreSets families n
  from_more n h = record {
    list = h.list;
    differ = distinct_differ h.list h.distinct;
    minimal = (λ s m. from_minimal s (h.minimal s (member_contains m)));
    more = h.more;
  }

  in_public_order : (list : List (List ℕ)) → Rises Precedes list → IsLexicographic list
  in_public_order [] r = tt
  in_public_order (s ∷ list) r = ((λ t m. r.0 t (contains_member list t m)), in_public_order list r.1)

  pub to_covers : (list : List (List ℕ)) → AreCoverSets families list → AreCovers families list
  to_covers list a = record {
    in_order = in_public_order list a.in_order;
    exactly = (λ s. (
      (λ m. to_minimal s ((a.exactly s).0 (contains_member list s m))),
      (λ m. member_contains ((a.exactly s).1 (from_minimal s m))),
    ));
  }

pub to_too_many : (families : List (List ℕ)) (limit j : ℕ) → AreTooManySets families limit j → AreTooMany families limit j
to_too_many families limit j h = record {
  within = h.within;
  over = to_more (take j families) limit h.over;
  least = (λ i l m. h.least i l (from_more (take i families) limit m));
}

pub ascending_at : (families : List (List ℕ)) (j : ℕ) → All IsAscending families → j < length families → Ascending (get_or families j [])
ascending_at families j a l = ascending_members (get_or families j []) (a j [] l)
