-- Whether a cover stays minimal where a position joins it, as its set says.
use Rattle.std.proofs.Common.{ℕ, ◌≡◌, ◌+◌, ◌<◌, ◌↔◌, refl, sym, subst, ◌⊎◌, inl, inr, List, [], ◌∷◌, length, take, get_or, arith}
use Rattle.std.specs.Int.RustNames.{bit_or}
use Rattle.std.specs.Int.Bits.{bit_and}
use Rattle.std.proofs.lemmas.List.{get_or-take, length-take}
use native.Mathlib.Decide.{dec_lt}
use Rattle.cls_cover.specs.declared.small.Begun.{Begun}
use Rattle.cls_cover.specs.Members.{Member, first, later}
use Rattle.cls_cover.specs.MemberCovers.{IsMinimalSet, SharesEach}
use Rattle.cls_cover.specs.Rows.{family_at}
use Rattle.cls_cover.specs.Growing.{IsPut}
use Rattle.cls_cover.specs.Sets.{IsIn, members, IsSetOf, MeetsAlone}
use Rattle.cls_cover.specs.Choosing.{StandsIn, IsBegun, next_of, IsCoverBefore, IsCoverAfter, Misses}
use Rattle.cls_cover.proofs.Lists.{get_member}
use Rattle.cls_cover.proofs.Extension.{with_last, needed_minimal}
use Rattle.cls_cover.proofs.Growth.{IsOwn, own, KeepsOwn, kept_minimal, taken}
use Rattle.cls_cover.proofs.Steps.{family_take, length_taken}
use Rattle.cls_cover.proofs.SetBits.{in_or, in_and, none_in, members_in, members_rise, members_more}

module _ (begun : Begun) (b : IsBegun begun) (cover x one : ℕ) (m : IsCoverBefore begun cover) (missed : Misses begun cover) (here : Member (next_of begun) x) (is_one : (y : ℕ) → IsIn one y ↔ (y ≡ x)) where
  abbrev families : List (List ℕ)
  families = begun.families.now

  abbrev larger : ℕ
  larger = bit_or cover one

  pub joined_put : IsPut x (members cover) (members larger)
  joined_put = record {
    ascending = members_rise larger;
    has = (members_more cover one x is_one x).1 (inr refl);
    kept = (λ y k. (members_more cover one x is_one y).1 (inl k));
    origin = (λ y k. from y ((members_more cover one x is_one y).0 k));
  }
    where
      from : (y : ℕ) → Member (members cover) y ⊎ (y ≡ x) → Member (x ∷ members cover) y
      from y (inl k) = later k
      from y (inr e) = subst (λ z. Member (z ∷ members cover) y) e first

  -- a position that stands in no family before
  pub unseen_minimal : bit_and begun.seen one ≡ 0 → IsCoverAfter begun (members larger)
  unseen_minimal z =
      subst (λ fs. IsMinimalSet (SharesEach fs) (members larger)) (sym (taken families begun.count b.more))
      (kept_minimal (take begun.count families) (next_of begun) (members cover) (members larger) x m missed here joined_put (λ y k. keeps y (own (take begun.count families) (members cover) m y k)))
    where
      unseen : (f : ℕ) → f < length (take begun.count families) → Member (family_at (take begun.count families) f) x → ⊥
      unseen f l k =
          let n : length (take begun.count families) ≡ begun.count = length_taken families begun.count (let o = b.more in omega arith) in
          let h : f < begun.count = omega arith in
          let s : IsIn begun.seen x = (b.seen x).1 (f, h, subst (λ (g : List ℕ). Member g x) (family_take families begun.count f h) k) in
          none_in (bit_and begun.seen one) x z ((in_and begun.seen one x).1 (s, (is_one x).1 refl))

      keeps : (y : ℕ) → IsOwn (take begun.count families) (members cover) y → KeepsOwn (take begun.count families) (next_of begun) (members cover) (members larger) x m missed here joined_put y
      keeps y o = record { place = o.place; within = o.within; met = o.met; alone = o.alone; free = unseen o.place o.within }

  abbrev sets : List ℕ
  sets = take (begun.count + 1) begun.sets.now

  abbrev fronts : List (List ℕ)
  fronts = take (begun.count + 1) families

  count_sets : length sets ≡ begun.count + 1
  count_sets = let e = b.sets.same in let o = b.more in let t = length-take (begun.count + 1) begun.sets.now in omega arith

  count_fronts : length fronts ≡ begun.count + 1
  count_fronts = length_taken families (begun.count + 1) (let o = b.more in omega arith)

  set_here : (f y : ℕ) → f < begun.count + 1 → IsIn (get_or sets f 0) y ↔ Member (family_at fronts f) y
  set_here f y l =
      let o = b.more in
      let e = get_or-take (begun.count + 1) begun.sets.now f 0 l in
      let d = family_take families (begun.count + 1) f l in
      subst (λ n. IsIn n y ↔ Member (family_at fronts f) y) (sym e)
      (subst (λ (g : List ℕ). IsIn (get_or begun.sets.now f 0) y ↔ Member g y) (sym d) (b.sets.each f (omega arith) y))

  -- each position meets a family alone
  pub alone_minimal : ((y : ℕ) → IsIn larger y → MeetsAlone sets (length sets) larger y) → IsCoverAfter begun (members larger)
  alone_minimal f = needed_minimal fronts (members larger) (members_rise larger) covers (λ y k h. clash y k (f y ((members_in larger y).0 k)) h)
    where
      covers : SharesEach fronts (members larger)
      covers =
          subst (λ fs. SharesEach fs (members larger)) (sym (taken families begun.count b.more))
          (with_last (take begun.count families) (next_of begun) (members larger) (λ g k. let r = m.covers g k in (r.0, r.1, joined_put.kept r.0 r.2)) (x, here, joined_put.has))

      clash : (y : ℕ) → Member (members larger) y → MeetsAlone sets (length sets) larger y → ((g : List ℕ) → Member fronts g → (i : ℕ) × Member g i × Member (members larger) i × (i ≡ y → ⊥)) → ⊥
      clash y k a h =
          let w : a.place < length sets = a.within in
          let n = count_sets in
          let q = count_fronts in
          let l : a.place < begun.count + 1 = omega arith in
          let u = h (family_at fronts a.place) (get_member fronts a.place [] (omega arith)) in
          u.3 (a.alone u.0 ((set_here a.place u.0 l).1 u.1) ((members_in larger u.0).0 u.2))

  pub minimal_alone : IsCoverAfter begun (members larger) → (y : ℕ) → IsIn larger y → MeetsAlone sets (length sets) larger y
  minimal_alone q y h =
      let o = own fronts (members larger) q y ((members_in larger y).1 h) in
      let w : o.place < length fronts = o.within in
      let n = count_sets in
      let p = count_fronts in
      let l : o.place < begun.count + 1 = omega arith in
      record {
        place = o.place;
        within = omega arith;
        has = (set_here o.place y l).1 o.met;
        alone = (λ z i k. o.alone z ((set_here o.place z l).0 i) ((members_in larger z).1 k));
      }

-- the positions of one family more are seen
pub seen_more : (families : List (List ℕ)) (j seen set : ℕ) → ((x : ℕ) → IsIn seen x ↔ StandsIn families j x) → IsSetOf (family_at families j) set → (x : ℕ) → IsIn (bit_or seen set) x ↔ StandsIn families (j + 1) x
seen_more families j seen set f g x = ((λ h. to ((in_or seen set x).0 h)), (λ h. (in_or seen set x).1 (back h (dec_lt h.0 j))))
  where
    to : IsIn seen x ⊎ IsIn set x → StandsIn families (j + 1) x
    to (inl h) = let o = (f x).0 h in let l : o.0 < j = o.1 in (o.0, omega arith, o.2)
    to (inr h) = (j, omega arith, (g x).0 h)

    same : (k : ℕ) → k < j + 1 → (k < j → ⊥) → k ≡ j
    same k l n = omega (arith, n)

    back : (h : StandsIn families (j + 1) x) → Dec (h.0 < j) → IsIn seen x ⊎ IsIn set x
    back h (yes l) = inl ((f x).1 (h.0, l, h.2))
    back h (no n) = inr ((g x).1 (subst (λ k. Member (family_at families k) x) (same h.0 h.1 n) h.2))

pub seen_none : (families : List (List ℕ)) (x : ℕ) → IsIn 0 x ↔ StandsIn families 0 x
seen_none families x = ((λ h. absurd (none_in 0 x refl h)), (λ h. let l : h.0 < 0 = h.1 in absurd (omega arith)))
