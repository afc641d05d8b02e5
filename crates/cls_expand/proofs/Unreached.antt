-- A place none of whose arrows leads to the first path of a goal makes no rule for it.
use Rattle.std.proofs.Common.{ℕ, ◌≡◌, ◌+◌, ◌-◌, ◌*◌, ◌<◌, ◌≤◌, ◌⊎◌, inl, inr, refl, sym, ◌∙◌, subst, List, [], ◌∷◌, length, arith, Contains}
use Rattle.cls_base.specs.Lists.{AreDistinct}
use Rattle.cls_base.proofs.Lists.{Contains-nil, Contains-here, Contains-later}
use Rattle.cls_path.specs.Paths.{TypePath, Paths, none, more, first_in}
use Rattle.cls_cover.specs.Lists.{Sublist, ends, drops}
use Rattle.cls_cover.specs.Covers.{IsMinimal, HasMore}
use Rattle.cls_library.specs.declared.place.Place.{Place}
use Rattle.cls_library.specs.Arrows.{MultiArrow}
use Rattle.cls_library.specs.Families.{IsFamilyIn, NoneBegins, NoneBeginsAt, IsEarlier, IsBefore, IsPlace, IsNextPlace}
use Rattle.cls_library.specs.Libraries.{Library, arrows_at}
use Rattle.cls_library.specs.Reaching.{CoversGoal}
use Rattle.cls_library.specs.Rules.{Choice, IsChoice, HasManyCovers, Front, more_front}
use Rattle.cls_base.specs.declared.rule.Rule.{Rule}
use Rattle.cls_base.specs.Limits.{max_covers}
use Rattle.cls_expand.specs.Making.{AreBegun}

none_in : (s : List ℕ) → Sublist [] s
none_in [] = ends
none_in (x ∷ s) = drops (none_in s)

same_first : (p q : TypePath) (n m : Paths) → Front (more p n) (more q m) → p ≡ q
same_first p _ n m (more_front f) = refl

module _ (l : Library) (arrows : List MultiArrow) where
  -- the goal without a path has one minimal cover
  one_cover : (list : List (List ℕ)) → AreDistinct list → ((s : List ℕ) → Contains list s → IsMinimal (CoversGoal l arrows none) s) → 1 < length list → ⊥
  one_cover [] d m k = omega arith
  one_cover (s ∷ []) d m k = omega arith
  one_cover (s ∷ t ∷ list) d m k =
      let empty : (u : List ℕ) → Contains (s ∷ t ∷ list) u → [] ≡ u = λ u i. (m u i).minimal [] (none_in u) (λ q j. elim j [ ]) in
      d.0 (subst (λ (u : List ℕ). Contains (t ∷ list) u) (sym (empty t (Contains-later t s (t ∷ list) (Contains-here t list))) ∙ empty s (Contains-here s (t ∷ list))) (Contains-here t list))

  module _ (q : TypePath) (h : IsFamilyIn l.taxonomy arrows q []) where
    uncovered : (rest : Paths) (s : List ℕ) → CoversGoal l arrows (more q rest) s → ⊥
    uncovered rest s c = let r = c q first_in in Contains-nil r.0 ((h.exactly r.0).1 r.2)

    few_covers : (rest front : Paths) → Front front (more q rest) → HasMore (CoversGoal l arrows front) max_covers → ⊥
    few_covers rest none f m = one_cover m.list m.distinct m.minimal (let k : 1024 < length m.list = m.more in omega arith)
    few_covers rest (more p front) f m = some m.list m.minimal (let k : 1024 < length m.list = m.more in omega arith)
      where
        some : (list : List (List ℕ)) → ((s : List ℕ) → Contains list s → IsMinimal (CoversGoal l arrows (more p front)) s) → 0 < length list → ⊥
        some [] m k = omega arith
        some (s ∷ list) m k = uncovered front s (subst (λ (z : TypePath). CoversGoal l arrows (more z front) s) (same_first p q front rest f) (m s (Contains-here s list)).covers)

compare : (a b : ℕ) → (a < b) ⊎ ((a ≡ b) ⊎ (b < a))
compare a b = grind arith

-- component y with k arguments is component x with n, or comes later
abbrev pub IsReached : ℕ → ℕ → ℕ → ℕ → Type 0
IsReached x n y k = (x < y) ⊎ ((y ≡ x) × (n ≤ k))

earlier_or_reached : (x n y k : ℕ) → IsEarlier x n y k ⊎ IsReached x n y k
earlier_or_reached x n y k = by (compare y x) (compare k n)
  where
    by : (y < x) ⊎ ((y ≡ x) ⊎ (x < y)) → (k < n) ⊎ ((k ≡ n) ⊎ (n < k)) → IsEarlier x n y k ⊎ IsReached x n y k
    by (inl h) m = inl (inl h)
    by (inr (inr h)) m = inr (inl h)
    by (inr (inl e)) (inl m) = inl (inr (e, m))
    by (inr (inl e)) (inr (inl m)) = inr (inr (e, omega arith))
    by (inr (inl e)) (inr (inr m)) = inr (inr (e, omega arith))

not_earlier : (x n y k : ℕ) → IsReached x n y k → IsEarlier x n y k → ⊥
not_earlier x n y k (inl h) (inl i) = omega arith
not_earlier x n y k (inl h) (inr i) = let e : y ≡ x = i.0 in omega arith
not_earlier x n y k (inr h) (inl i) = let e : y ≡ x = h.0 in omega arith
not_earlier x n y k (inr h) (inr i) = let a : n ≤ k = h.1 in let b : k < n = i.1 in omega arith

pub reached : (x n y k : ℕ) → (IsEarlier x n y k → ⊥) → IsReached x n y k
reached x n y k f = elim (earlier_or_reached x n y k) [
  | inl i ↦ absurd (f i)
  | inr h ↦ h
]

pub reached_at_most : (x n y k : ℕ) → IsReached x n y k → x ≤ y
reached_at_most x n y k (inl h) = omega arith
reached_at_most x n y k (inr h) = let e : y ≡ x = h.0 in omega arith

pub reached_start : (x y : ℕ) → x ≤ y → IsReached x 0 y 0
reached_start x y h = by (compare x y)
  where
    by : (x < y) ⊎ ((x ≡ y) ⊎ (y < x)) → IsReached x 0 y 0
    by (inl l) = inl l
    by (inr (inl e)) = inr (sym e, omega arith)
    by (inr (inr l)) = absurd (omega arith)

earlier_later : (x n y k c m : ℕ) → IsReached x n y k → IsEarlier x n c m → IsEarlier y k c m
earlier_later x n y k c m (inl h) (inl i) = inl (omega arith)
earlier_later x n y k c m (inl h) (inr i) = let e : c ≡ x = i.0 in inl (omega arith)
earlier_later x n y k c m (inr h) (inl i) = let e : y ≡ x = h.0 in inl (omega arith)
earlier_later x n y k c m (inr h) (inr i) =
    let a : n ≤ k = h.1 in let b : m < n = i.1 in inr (i.0 ∙ sym h.0, omega arith)

begins_nowhere : (l : Library) (goal : Paths) (q : TypePath) (rest : Paths) (x n : ℕ) → goal ≡ more q rest → NoneBegins l goal x n → IsFamilyIn l.taxonomy (arrows_at l x n) q []
begins_nowhere l goal q rest x n e h = subst (λ (g : Paths). NoneBegins l g x n) e h

module _ (l : Library) (goal : Paths) (q : TypePath) (rest : Paths) (e : goal ≡ more q rest) where
  no_choice : (c : Choice) → IsChoice l goal c → NoneBegins l goal c.component c.places → ⊥
  no_choice c h m =
      uncovered l (arrows_at l c.component c.places) q (begins_nowhere l goal q rest c.component c.places e m) rest c.cover
      (subst (λ (p : Paths). CoversGoal l (arrows_at l c.component c.places) p c.cover) e h.minimal.covers)

  no_many : (x n : ℕ) → HasManyCovers l goal x n → NoneBegins l goal x n → ⊥
  no_many x n h m =
      few_covers l (arrows_at l x n) q (begins_nowhere l goal q rest x n e m) rest h.front
      (subst (λ (p : Paths). Front h.front p) e h.is_front) h.over

  module _ (begin : ℕ) (from : Place) (rules : List (Rule Paths)) (b : AreBegun l goal begin from.component from.count [] rules) where
    -- up to another place, where no arrow leads to the goal's first path before it
    begun_passed :
        (p : Place) → IsReached from.component from.count p.component p.count
        → ((x n : ℕ) → IsEarlier p.component p.count x n → x < length l.components)
        → ((r : Place) → IsPlace l r → (IsBefore r from → ⊥) → IsBefore r p → NoneBeginsAt l goal r)
        → AreBegun l goal begin p.component p.count [] rules
    begun_passed p later within passed = record {
      choices = b.choices;
      chosen = record {
        in_order = b.chosen.in_order;
        exactly = (λ c. (
          (λ m. let r = (b.chosen.exactly c).0 m in (r.0, r.1, earlier_later _ _ _ _ c.component c.places later r.2)),
          (λ k. (b.chosen.exactly c).1 (k.0, k.1, before c k.0 k.2 (earlier_or_reached from.component from.count c.component c.places))),
        ));
      };
      candidates = b.candidates;
      made = b.made;
      first_ones = b.first_ones;
      fit = b.fit;
      narrow = (λ x n h i m. b.narrow x n h (narrowed x n i m (earlier_or_reached from.component from.count x n)) m);
    }
      where
        before : (c : Choice) → IsChoice l goal c → IsEarlier p.component p.count c.component c.places
            → IsEarlier from.component from.count c.component c.places ⊎ IsReached from.component from.count c.component c.places
            → IsEarlier from.component from.count c.component c.places
        before c h i (inl k) = k
        before c h i (inr k) = absurd (no_choice c h (passed (record { component = c.component; count = c.places })
            (record { declared = h.declared; within = h.within }) (not_earlier from.component from.count c.component c.places k) i))

        narrowed : (x n : ℕ) → IsEarlier p.component p.count x n → HasManyCovers l goal x n
            → IsEarlier from.component from.count x n ⊎ IsReached from.component from.count x n → IsEarlier from.component from.count x n
        narrowed x n i m (inl k) = k
        narrowed x n i m (inr k) = absurd (no_many x n m (passed (record { component = x; count = n })
            (record { declared = within x n i; within = m.within }) (not_earlier from.component from.count x n k) i))

    -- up to the next place
    pub begun_next : (p : Place) → IsNextPlace l goal from p → AreBegun l goal begin p.component p.count [] rules
    begun_next p h = begun_passed p (reached from.component from.count p.component p.count h.later) within h.passed
      where
        within : (x n : ℕ) → IsEarlier p.component p.count x n → x < length l.components
        within x n (inl i) = let d : p.component < length l.components = h.place.declared in omega arith
        within x n (inr i) =
            let d : p.component < length l.components = h.place.declared in let e : x ≡ p.component = i.0 in omega arith

    -- up to a component, where no place is left before it
    pub begun_before :
        (end : ℕ) → end ≤ length l.components → IsReached from.component from.count end 0
        → ((r : Place) → IsPlace l r → (IsBefore r from → ⊥) → r.component < end → NoneBeginsAt l goal r)
        → AreBegun l goal begin end 0 [] rules
    begun_before end d later none_left =
        begun_passed (record { component = end; count = 0 }) later within (λ r h f i. none_left r h f (below r.component r.count i))
      where
        below : (x n : ℕ) → IsEarlier end 0 x n → x < end
        below x n (inl i) = i
        below x n (inr i) = let j : n < 0 = i.1 in absurd (omega arith)

        within : (x n : ℕ) → IsEarlier end 0 x n → x < length l.components
        within x n i = let j : x < end = below x n i in omega arith

-- the places that are left get fewer
pub fewer_left : (size x n y k : ℕ) → IsReached x n y k → x ≤ size → n ≤ 33 → y < size → k ≤ 32
    → (size + 1) * 34 - (y * 34 + (k + 1)) < (size + 1) * 34 - (x * 34 + n)
fewer_left size x n y k (inl h) a b c d = omega arith
fewer_left size x n y k (inr h) a b c d = let e : y ≡ x = h.0 in let m : n ≤ k = h.1 in omega arith
