-- The positions of a family that a cover can take, group by group.
use Rattle.std.proofs.Common.{ℕ, zero, suc, refl, ◌≡◌, ◌+◌, ◌<◌, ◌≤◌, sym, ◌∙◌, subst, ap, inl, inr, List, [], ◌∷◌, ◌++◌, length, take, drop, arith, take-append-drop}
use Rattle.std.proofs.lemmas.List.{length-append}
use native.Mathlib.Decide.{dec_lt}
use Rattle.cls_base.proofs.Lists.{take_whole}
use Rattle.cls_cover.specs.declared.cover.Cover.{Cover}
use Rattle.cls_cover.specs.declared.front.Front.{Front}
use Rattle.cls_cover.specs.Members.{Member, first, later, Differ}
use Rattle.cls_cover.specs.Growing.{IsFront, next_family, IsKnownBefore, MissesNext, StayOwners, AreAllTakeable}
use Rattle.cls_cover.proofs.Lists.{member_append, member_append_left, member_append_right}
use Rattle.cls_cover.proofs.Grouping.{differ_front, taken_member}
use Rattle.cls_cover.proofs.Joining.{stays_minimal, minimal_stays}

-- of what is done, the numbers by which the cover stays minimal, all of them unless there are more than the limit
pub record AreTaken (front : Front) (c : Cover) (limit : ℕ) (done found : List ℕ) : Type 0 where
  pub differ : Differ found
  pub origin : (x : ℕ) → Member found x → Member done x
  pub stay : (x : ℕ) → Member found x → StayOwners front c x
  pub whole : length found ≤ limit → (x : ℕ) → Member done x → StayOwners front c x → Member found x

pub taken_none : (front : Front) (c : Cover) (limit : ℕ) → AreTaken front c limit [] []
taken_none front c limit = record { differ = tt; origin = (λ x m. m); stay = (λ x m. elim m [ ]); whole = (λ w x m s. m) }

differ_both : (xs ys : List ℕ) → Differ xs → Differ ys → ((x : ℕ) → Member xs x → Member ys x → ⊥) → Differ (xs ++ ys)
differ_both [] ys d e f = e
differ_both (x ∷ xs) ys d e f = ((λ m. elim (member_append xs ys x m) [ inl k ↦ d.0 k | inr k ↦ f x first k ]), differ_both xs ys d.1 e (λ z m k. f z (later m) k))

pub differ_apart : {A : Type 0} (xs ys : List A) (x : A) → Differ (xs ++ ys) → Member xs x → Member ys x → ⊥
differ_apart (x ∷ xs) ys _ d first m = d.0 (member_append_right xs ys x m)
differ_apart (y ∷ xs) ys x d (later k) m = differ_apart xs ys x d.1 k m
differ_apart [] ys x d k m = elim k [ ]

differ_later : (xs ys : List ℕ) → Differ (xs ++ ys) → Differ ys
differ_later [] ys d = d
differ_later (x ∷ xs) ys d = differ_later xs ys d.1

module _ (front : Front) (c : Cover) (limit : ℕ) (done found group : List ℕ) (t : AreTaken front c limit done found) where
  -- a group that the cover can take
  pub taken_yes : Differ (done ++ group) → ((x : ℕ) → Member group x → StayOwners front c x) → AreTaken front c limit (done ++ group) (found ++ group)
  taken_yes d s = record {
    differ = differ_both found group t.differ (differ_later done group d) (λ x m k. differ_apart done group x d (t.origin x m) k);
    origin = (λ x m. elim (member_append found group x m) [ inl k ↦ member_append_left group x (t.origin x k) | inr k ↦ member_append_right done group x k ]);
    stay = (λ x m. elim (member_append found group x m) [ inl k ↦ t.stay x k | inr k ↦ s x k ]);
    whole = (λ w x m o. let e = length-append found group in elim (member_append done group x m) [ inl k ↦ member_append_left group x (t.whole (omega arith) x k o) | inr k ↦ member_append_right found group x k ]);
  }

  -- one that it can't take
  pub taken_no : ((x : ℕ) → Member group x → StayOwners front c x → ⊥) → AreTaken front c limit (done ++ group) found
  taken_no n = record {
    differ = t.differ;
    origin = (λ x m. member_append_left group x (t.origin x m));
    stay = t.stay;
    whole = (λ w x m o. elim (member_append done group x m) [ inl k ↦ t.whole w x k o | inr k ↦ absurd (n x k o) ]);
  }

  -- enough were found before
  pub taken_full : limit < length found → AreTaken front c limit (done ++ group) found
  taken_full l = record { differ = t.differ; origin = (λ x m. member_append_left group x (t.origin x m)); stay = t.stay; whole = (λ w x m o. absurd (omega arith)) }

-- all groups were looked at
pub taken_all : (front : Front) (c : Cover) (limit : ℕ) (done found cut : List ℕ) → IsFront front → IsKnownBefore front c → MissesNext front c
    → ((x : ℕ) → Member done x → Member (next_family front) x) → ((x : ℕ) → Member (next_family front) x → Member done x)
    → AreTaken front c limit done found → cut ≡ take (limit + 1) found → AreAllTakeable front c limit cut
taken_all front c limit done found cut f k missed to back t e = record {
  joinable = record {
    differ = subst (λ (l : List ℕ). Differ l) (sym e) (differ_front (take (limit + 1) found) (drop (limit + 1) found) (subst (λ (l : List ℕ). Differ l) (sym (take-append-drop (limit + 1) found)) t.differ));
    in_family = (λ x m. to x (t.origin x (found_of x m)));
    minimal = (λ x m u p. stays_minimal front.families.now front.rows.now f.rows front.count f.more c k missed x (to x (t.origin x (found_of x m))) u p front.flags.now f.exactly (t.stay x (found_of x m)));
  };
  whole = (λ w x m u p q.
      let o = minimal_stays front.families.now front.rows.now f.rows front.count f.more c k missed x m u p front.flags.now f.exactly q in
      let s = short w in
      subst (λ (l : List ℕ). Member l x) (sym (e ∙ take_whole found (limit + 1) (omega arith))) (t.whole s x (back x m) o));
}
  where
    found_of : (x : ℕ) → Member cut x → Member found x
    found_of x m = taken_member found (limit + 1) x (subst (λ (l : List ℕ). Member l x) e m)

    cut_length : (n : ℕ) (xs : List ℕ) → n ≤ length xs → length (take n xs) ≡ n
    cut_length zero xs l = refl
    cut_length (suc n) [] l = absurd (omega arith)
    cut_length (suc n) (x ∷ xs) l = ap suc (cut_length n xs (omega arith))

    long : length cut ≤ limit → limit < length found → ⊥
    long w l =
        let d = cut_length (limit + 1) found (omega arith) in
        let g : length cut ≡ length (take (limit + 1) found) = ap (λ (l : List ℕ). length l) e in omega arith

    short : length cut ≤ limit → length found ≤ limit
    short w = go (dec_lt limit (length found))
      where
        go : Dec (limit < length found) → length found ≤ limit
        go (yes l) = absurd (long w l)
        go (no n) = omega (arith, n)
