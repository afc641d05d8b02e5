-- Numbers with their places: one more number keeps what holds.
use Rattle.std.proofs.Common.{◌≡◌, ◌≢◌, ℕ, ◌<◌, ◌≤◌, ◌^◌, Bool, true, false, List, [], ◌∷◌, ◌++◌, Option, None, Some, length, set, slice_get, refl, sym, ap, subst, ◌∙◌, arith, ◌⊎◌, inl, inr, length-set, if◌then◌else◌}
use Rattle.std.specs.Prelude.{nat_eq, replicate, Contains}
use Rattle.std.specs.List.{list_any, position_or_len}
use Rattle.std.proofs.lemmas.List.{length-replicate}
use Rattle.std.proofs.lemmas.List.Elements.{Contains-push_cases}
use Rattle.std.proofs.lemmas.Option.{slice_get_within}
use Rattle.indexmap.specs.IndexSet.{insert_key}
use Rattle.cls_base.proofs.Lists.{Contains-nil, Contains-at, AreDistinct-push, AreDistinct-one_place}
use Rattle.cls_core.proofs.Columns.{get-set-same, get-set-other, get-front, get-some}
use Rattle.cls_core.proofs.Members.{any-contains, contains-any}
use Rattle.cls_core.proofs.Renumbering.{place-is}
use Rattle.cls_grammar.specs.Numberings.{HasPlaces}
use Rattle.cls_grammar.proofs.Climbing.{equal-or-not, push-last, none-at}
use Rattle.cls_grammar.proofs.Places.{nat-exact, nat-reflexive, numbers-below}

pub no-places : (count : ℕ) → count < 2 ^ 32 → HasPlaces [] (replicate count None)
no-places count few = record {
  distinct = tt;
  few = omega (arith, few, length-replicate {A = Option ℕ} count None);
  within = λ n c. absurd (Contains-nil n c);
  known = λ n p e. absurd (let f : Some p ≡ None = none-at count n None (Some p) e in cc);
  unknown = λ n e c. Contains-nil n c;
}

module _ (order : List ℕ) (places : List (Option ℕ)) (h : HasPlaces order places) where
  -- there are no more numbers than places
  pub order-short : length order ≤ length places
  order-short = numbers-below order (length places) h.distinct h.within

  module _ (n : ℕ) where
    -- a number that has a place stays where it is
    pub add-known : (p : ℕ) → slice_get places n ≡ Some (Some p) → order ≡ insert_key nat_eq order n
    add-known p e = by (contains-any nat_eq nat-exact nat-reflexive order n (Contains-at order p n (h.known n p e)))
      where
        by : list_any (nat_eq n) order ≡ true → order ≡ insert_key nat_eq order n
        by f = ap (λ b. if b then order else order ++ n ∷ []) (sym f)

    -- a number that isn't new stays where it is
    pub add-old : n < length places → (slice_get places n ≡ Some None → ⊥) → order ≡ insert_key nat_eq order n
    add-old l d = by (get-some places n l)
      where
        by : (o : Option ℕ) × (slice_get places n ≡ Some o) → order ≡ insert_key nat_eq order n
        by (None, e) = absurd (d e)
        by (Some p, e) = add-known p e

    module _ (e : slice_get places n ≡ Some None) where
      -- a number that has none comes last
      pub add-new : order ++ n ∷ [] ≡ insert_key nat_eq order n
      add-new = by (list_any (nat_eq n) order) refl
        where
          by : (b : Bool) → list_any (nat_eq n) order ≡ b → order ++ n ∷ [] ≡ (if b then order else order ++ n ∷ [])
          by true f = absurd (h.unknown n e (any-contains nat_eq nat-exact nat-reflexive order n f))
          by false f = refl

      pub add-places : HasPlaces (order ++ n ∷ []) (set places n (Some (length order)))
      add-places = record {
        distinct = AreDistinct-push order n h.distinct (h.unknown n e);
        few = omega (arith, h.few, length-set places n (Some (length order)));
        within = λ m c. omega (arith, length-set places n (Some (length order)), below m (Contains-push_cases order n m c));
        known = λ m p f. place m p f (equal-or-not m n);
        unknown = λ m f c. elim (equal-or-not m n) [ inl s ↦ (let g = now m s in let k : Some None ≡ Some (Some (length order)) = sym f ∙ g in cc) | inr d ↦ elim (Contains-push_cases order n m c) [ inl k ↦ h.unknown m (sym (get-set-other places n m (Some (length order)) d) ∙ f) k | inr s ↦ d (sym s) ] ];
      }
        where
          less : n < length places
          less = slice_get_within places n None e

          below : (m : ℕ) → Contains order m ⊎ (n ≡ m) → m < length places
          below m (inl k) = h.within m k
          below m (inr s) = omega (arith, s, less)

          now : (m : ℕ) → m ≡ n → slice_get (set places n (Some (length order))) m ≡ Some (Some (length order))
          now m s = subst (λ x. slice_get (set places n (Some (length order))) x ≡ Some (Some (length order))) (sym s) (get-set-same places n (Some (length order)) less)

          place : (m p : ℕ) → slice_get (set places n (Some (length order))) m ≡ Some (Some p) → (m ≡ n) ⊎ (m ≢ n) → slice_get (order ++ n ∷ []) p ≡ Some m
          place m p f (inl s) =
              let g = now m s in
              let k : length order ≡ p = cc in
              subst (λ x. slice_get (order ++ n ∷ []) x ≡ Some m) k (push-last order n ∙ ap Some (sym s))
          place m p f (inr d) = get-front order (n ∷ []) p m (h.known m p (sym (get-set-other places n m (Some (length order)) d) ∙ f))

    -- the place of a number
    pub has-place : Contains order n → (p : ℕ) × (slice_get places n ≡ Some (Some p)) × (p ≡ position_or_len (nat_eq n) order)
    has-place c = by (get-some places n (h.within n c))
      where
        by : (o : Option ℕ) × (slice_get places n ≡ Some o) → (p : ℕ) × (slice_get places n ≡ Some (Some p)) × (p ≡ position_or_len (nat_eq n) order)
        by (None, e) = absurd (h.unknown n e c)
        by (Some p, e) = (p, e, AreDistinct-one_place order p (position_or_len (nat_eq n) order) n h.distinct (h.known n p e) (place-is nat_eq nat-exact nat-reflexive order n c))
