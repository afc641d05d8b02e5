-- Places that are passed, component after component.
use Rattle.std.proofs.Common.{◌≡◌, ℕ, ◌+◌, ◌<◌, ◌≤◌, inl, inr, List, [], ◌∷◌, length, map, get_or, Option, None, Some, refl, sym, subst, ap, ◌∙◌, arith}
use Rattle.std.specs.Prelude.{All, slice_get}
use Rattle.std.specs.Borrow.{Bor}
use Rattle.std.proofs.lemmas.Option.{slice_get_within}
use Rattle.cls_path.specs.Paths.{TypePath, Paths, more, listed}
use Rattle.cls_library.specs.declared.index.Entry.{Entry}
use Rattle.cls_library.specs.declared.lead.Lead.{Lead}
use Rattle.cls_library.specs.declared.place.Place.{Place}
use Rattle.cls_library.specs.declared.sought.Sought.{Sought}
use Rattle.cls_library.specs.Arrows.{arity_of}
use Rattle.cls_library.specs.Endings.{IsSought}
use Rattle.cls_library.specs.Families.{IsBefore, IsNext, IsPlace}
use Rattle.cls_library.specs.Leads.{AreNone, AreSoughtEntries, IsFirstFrom, IsIdle, IsLead, IsNextCount, IsNextFor, NoneLeads, path_of, place_at}
use Rattle.cls_library.specs.Libraries.{Library, paths_at}
use Rattle.cls_library.proofs.Leading.{next-none}
use Rattle.cls_library.proofs.Orders.{less-or-not, same_place}

module _ (l : Library) (s : Sought) (from : Place) where
  -- at the places from the first one on, up to this one, no arrow leads
  abbrev pub HasPassed : ℕ → ℕ → Type 0
  HasPassed x n = (p : Place) → IsPlace l p → (IsBefore p from → ⊥) → IsBefore p (place_at x n) → NoneLeads l s p

  module _ (x n : ℕ) (le : from.component ≤ x) (passed : HasPassed x n) where
    at : (p : Place) → p.component ≡ x → place_at x p.count ≡ p
    at p e = same_place (place_at x p.count) p (sym e) refl

    pub component-passed : ((k : ℕ) → n ≤ k → k ≤ arity_of (paths_at l x) → NoneLeads l s (place_at x k)) → HasPassed (x + 1) 0
    component-passed here p w later before = elim before [
      | inl m ↦ elim (less-or-not p.component x) [
        | inl a ↦ passed p w later (inl a)
        | inr a ↦ (let e : p.component ≡ x = omega arith in
            let k : p.count ≤ arity_of (paths_at l x) = subst (λ (y : ℕ). p.count ≤ arity_of (paths_at l y)) e w.within in
            elim (less-or-not p.count n) [
              | inl b ↦ passed p w later (inr (e, b))
              | inr b ↦ subst (λ (r : Place). NoneLeads l s r) (at p e) (here p.count b k)
            ])
      ]
      | inr m ↦ absurd (let k = m.1 in omega arith)
    ]

    pub place-found : x < length l.components → (IsBefore (place_at x n) from → ⊥) → (p : Place) → IsNextCount l s (place_at x n) p → IsNextFor l s from (Some p)
    place-found declared start p h = λ q rest sought. record {
      place = record {
        declared = let e = h.component in omega arith;
        within = subst (λ (y : ℕ). p.count ≤ arity_of (paths_at l y)) (sym h.component) h.within;
      };
      later = λ before. start (elim before [
        | inl m ↦ inl (let e = h.component in omega arith)
        | inr m ↦ inr (sym h.component ∙ m.0, let a = m.1 in let b = h.later in omega arith)
      ]);
      passed = λ r w later before. elim before [
        | inl m ↦ passed r w later (inl (let e = h.component in omega arith)) q sought
        | inr m ↦ (let e : r.component ≡ x = m.0 ∙ h.component in
            elim (less-or-not r.count n) [
              | inl b ↦ passed r w later (inr (e, b)) q sought
              | inr b ↦ subst (λ (t : Place). NoneLeads l s t) (at r e) (h.passed r.count b m.1) q sought
            ])
      ];
    }

-- the first path of a goal is that of its first lead
pub first-next : (l : Library) (leads : List Lead) (lead : Lead) (from : Place) (next : Option Place) → All (IsLead l) leads → 0 < length leads → lead ≡ get_or leads 0 lead → IsNextFor l lead.sought from next → IsNext l (listed (map path_of leads)) from next
first-next l [] lead from next h w e found = absurd (omega arith)
first-next l (x ∷ leads) lead from next h w e found =
    let at : IsNextFor l x.sought from next = subst (λ (y : Lead). IsNextFor l y.sought from next) e found in
    let is : IsLead l x = h 0 x (omega arith) in
    at (path_of x) (listed (map path_of leads)) is.sought

-- what no arrow may lead to has no next place
idle-next : (l : Library) (s : Sought) (q : TypePath) (rest : Paths) (from : Place) (entries : Option (Bor (List Entry))) → IsSought l.taxonomy q s → AreSoughtEntries l s entries → AreNone entries → IsNext l (more q rest) from None
idle-next l s q rest from None sought kept empty = absurd empty
idle-next l s q rest from (Some entries) sought kept empty =
    let z : length entries.now ≡ 0 = ap length empty in
    let first : IsFirstFrom entries.now from 0 = record {
      within = omega arith;
      before = λ k t m e. absurd (omega arith);
      from = λ t e before. absurd (let m = slice_get_within entries.now 0 t e in omega arith);
    } in
    next-none l q s sought kept.0 entries.now kept.1 from 0 first rest (omega arith)

-- no place is found for a goal whose first path is that of an idle lead
pub idle-goal : (l : Library) (goal : List TypePath) (lead : Lead) (from : Place) → Some lead.path.now ≡ slice_get goal 0 → IsLead l lead → IsIdle lead → IsNext l (listed goal) from None
idle-goal l [] lead from e is idle = cc
idle-goal l (q ∷ rest) lead from e is idle =
    let same : lead.path.now ≡ q = cc in
    idle-next l lead.sought q (listed rest) from lead.entries (subst (λ (p : TypePath). IsSought l.taxonomy p lead.sought) same is.sought) is.entries idle
