-- Positions of arrows that are found by families, path after path.
use Rattle.std.proofs.Common.{ℕ, zero, suc, ◌≡◌, ◌+◌, ◌<◌, ◌↔◌, ◌⊎◌, inl, inr, List, [], ◌∷◌, ◌++◌, length, get_or, sym, subst, ap, ◌∙◌, arith, Contains}
use Rattle.std.specs.Prelude.{IsSomeAnd, slice_get}
use Rattle.std.proofs.lemmas.List.Elements.{Contains-append_left, Contains-append_right, Contains-append_cases}
use Rattle.cls_base.proofs.Lists.{Contains-map, Contains-from_map, Contains-nil}
use Rattle.cls_path.specs.Paths.{TypePath, Paths, none, more, InPaths, first_in, listed, unit}
use Rattle.cls_library.specs.Arrows.{MultiArrow}
use Rattle.cls_library.specs.Families.{IsFamilyIn}
use Rattle.cls_library.specs.Libraries.{Library}
use Rattle.cls_library.specs.Reaching.{PathLeIn}
use Rattle.cls_check.specs.Deciding.{IsLeading, SomeAbove, arrow_of, no_arrow, source_of, sources_of}
use Rattle.cls_check.specs.Found.{Adds, HasOne}
use Rattle.cls_check.proofs.Arguments.{sole}
use Rattle.cls_check.proofs.Keeping.{has_position, position_has}
use Rattle.cls_check.proofs.Lists.{in_position, position_in}

-- an element that a list has at a position
some-at : (P : MultiArrow → Type 0) (arrows : List MultiArrow) (k : ℕ) → IsSomeAnd (slice_get arrows k) P ↔ ((k < length arrows) × P (arrow_of arrows k))
some-at P [] k = ((λ h. absurd h), (λ h. absurd (let l : k < 0 = h.0 in omega arith)))
some-at P (a ∷ arrows) zero = ((λ h. (omega arith, h)), (λ h. h.1))
some-at P (a ∷ arrows) (suc k) =
    let r = some-at P arrows k in
    ((λ h. let s = r.0 h in let l : k < length arrows = s.0 in (omega arith, s.1)), (λ h. let l : suc k < suc (length arrows) = h.0 in r.1 (omega arith, h.1)))

module _ (arrows : List MultiArrow) where
  -- nothing is added
  pub adds-none : (P : TypePath → Type 0) (ks : List ℕ) → ((p : TypePath) → P p → ⊥) → Adds arrows P ks ks
  adds-none P ks n k = ((λ m. inl m), (λ h. elim h [ inl m ↦ m | inr r ↦ absurd (n (arrow_of arrows k).target r.1) ]))

  -- the same is added for a property that says the same
  pub adds-alike : (P R : TypePath → Type 0) (old new : List ℕ) → ((p : TypePath) → P p ↔ R p) → Adds arrows P old new → Adds arrows R old new
  adds-alike P R old new f h k = (
    (λ m. elim ((h k).0 m) [ inl o ↦ inl o | inr r ↦ inr (r.0, (f (arrow_of arrows k).target).0 r.1) ]),
    (λ o. (h k).1 (elim o [ inl m ↦ inl m | inr r ↦ inr (r.0, (f (arrow_of arrows k).target).1 r.1) ])),
  )

  -- what one property adds behind another
  adds-both : (P Q : TypePath → Type 0) (a b c : List ℕ) → Adds arrows P a b → Adds arrows Q b c → Adds arrows (λ p. P p ⊎ Q p) a c
  adds-both P Q a b c f g k = (
    (λ m. elim ((g k).0 m) [
      | inl n ↦ elim ((f k).0 n) [ inl o ↦ inl o | inr r ↦ inr (r.0, inl r.1) ]
      | inr r ↦ inr (r.0, inr r.1)
    ]),
    (λ o. elim o [
      | inl m ↦ (g k).1 (inl ((f k).1 (inl m)))
      | inr r ↦ elim r.1 [
        | inl p ↦ (g k).1 (inl ((f k).1 (inr (r.0, p))))
        | inr q ↦ (g k).1 (inr (r.0, q))
      ]
    ]),
  )

  last-or-before : (k i : ℕ) → k < i + 1 → (k < i) ⊎ (k ≡ i)
  last-or-before k i l = grind arith

  -- the first properties, and one more
  pub adds-more : (Leads : ℕ → TypePath → Type 0) (i : ℕ) (a b c : List ℕ) → Adds arrows (HasOne Leads i) a b → Adds arrows (Leads i) b c → Adds arrows (HasOne Leads (i + 1)) a c
  adds-more Leads i a b c f g = adds-alike (λ p. HasOne Leads i p ⊎ Leads i p) (HasOne Leads (i + 1)) a c
      (λ p. (
        (λ h. elim h [
          | inl r ↦ (let l : r.0 < i = r.1 in (r.0, omega arith, r.2))
          | inr s ↦ (i, omega arith, s)
        ]),
        (λ r. elim (last-or-before r.0 i r.1) [
          | inl l ↦ inl (r.0, l, r.2)
          | inr e ↦ inr (subst (λ (j : ℕ). Leads j p) e r.2)
        ]),
      )) (adds-both (HasOne Leads i) (Leads i) a b c f g)

  pub adds-begin : (Leads : ℕ → TypePath → Type 0) (ks : List ℕ) → Adds arrows (HasOne Leads 0) ks ks
  adds-begin Leads ks = adds-none (HasOne Leads 0) ks (λ p r. let l : r.0 < 0 = r.1 in absurd (omega arith))

-- a family is added
pub adds-family : (l : Library) (arrows : List MultiArrow) (q : TypePath) (old family : List ℕ) → IsFamilyIn l.taxonomy arrows q family → Adds arrows (λ p. PathLeIn l p q) old (old ++ family)
adds-family l arrows q old family h k =
    let P : MultiArrow → Type 0 = λ a. PathLeIn l a.target q in (
      (λ m. elim (Contains-append_cases old family k m) [
        | inl o ↦ inl o
        | inr f ↦ inr ((some-at P arrows k).0 ((h.exactly k).0 f))
      ]),
      (λ o. elim o [
        | inl m ↦ Contains-append_left old family k m
        | inr r ↦ Contains-append_right old family k ((h.exactly k).1 ((some-at P arrows k).1 r))
      ]),
    )

-- the paths of a goal, one after another
pub goal-above : (l : Library) (goal : List TypePath) (n : ℕ) → n ≡ length goal → (p : TypePath) → HasOne (λ k r. PathLeIn l r (get_or goal k unit)) n p ↔ SomeAbove l (listed goal) p
goal-above l goal n e p = (
  (λ r. let i : r.0 < n = r.1 in (get_or goal r.0 unit, position_in goal r.0 unit (omega (arith, i, e)), r.2)),
  (λ s.
      let k = in_position goal s.0 s.1 in
      let i : k.0 < length goal = k.1 in
      (k.0, omega (arith, i, e), subst (λ (q : TypePath). PathLeIn l p q) (sym (k.2 unit)) s.2)),
)

-- what kept arrows take as one of their arguments, arrow after arrow
pub sources-lead : (l : Library) (kept : List MultiArrow) (at n : ℕ) → n ≡ length kept → (p : TypePath) → HasOne (λ k r. SomeAbove l (source_of (arrow_of kept k) at) r) n p ↔ IsLeading l (sources_of kept at) p
sources-lead l kept at n e p = (
  (λ r.
      let i : r.0 < n = r.1 in
      let a = arrow_of kept r.0 in
      let within : r.0 < length kept = omega (arith, i, e) in
      (r.2.0, (source_of a at, Contains-map (λ (b : MultiArrow). source_of b at) kept a (position_has no_arrow kept r.0 within), r.2.1), r.2.2)),
  (λ s.
      let m = Contains-from_map (λ (b : MultiArrow). source_of b at) kept s.1.0 s.1.1 in
      let k = has_position no_arrow kept m.0 m.1 in
      let i : k.0 < length kept = k.1 in
      let same : s.1.0 ≡ source_of (arrow_of kept k.0) at = m.2 ∙ ap (λ (b : MultiArrow). source_of b at) (sym k.2) in
      (k.0, omega (arith, i, e), (s.0, subst (λ (n : Paths). InPaths n s.0) same s.1.2, s.2))),
)

-- all positions are added to none
pub adds-all : (arrows : List MultiArrow) (P : TypePath → Type 0) (new : List ℕ) → Adds arrows P [] new → (k : ℕ) → Contains new k ↔ ((k < length arrows) × P (arrow_of arrows k).target)
adds-all arrows P new h k = ((λ m. elim ((h k).0 m) [ inl o ↦ absurd (Contains-nil k o) | inr r ↦ r ]), (λ r. (h k).1 (inr r)))

-- a path of a list of one path, and of none
pub above-one : (l : Library) (q p : TypePath) → PathLeIn l p q ↔ SomeAbove l (more q none) p
above-one l q p = ((λ h. (q, first_in, h)), (λ s. subst (λ (r : TypePath). PathLeIn l p r) (sole q s.0 s.1) s.2))

pub above-none : (l : Library) (p : TypePath) → SomeAbove l none p → ⊥
above-none l p s = elim s.1 [ ]
