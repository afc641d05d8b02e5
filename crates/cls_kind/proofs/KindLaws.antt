-- The kind of a variable as it is looked up and added.
use Rattle.std.proofs.Common.{◌≡◌, ℕ, zero, suc, ◌+◌, ◌<◌, Bool, true, false, cond, List, [], ◌∷◌, ◌++◌, length, map, take, drop, get_or, Option, None, Some, refl, sym, ap, ◌∙◌, subst, arith}
use Rattle.std.specs.Prelude.{All, ◌==◌, if◌then◌else◌}
use Rattle.std.proofs.lemmas.List.{take-append-drop, drop_more, map_more, take_more}
use Rattle.std.specs.Map.{lookup}
use Rattle.std.proofs.lemmas.Bool.Decides.{nat_tests}
use Rattle.std.proofs.lemmas.List.Elements.{All-push}
use Rattle.indexmap.specs.IndexMap.{insert_entry}
use Rattle.cls_base.specs.declared.ty.Ty.{Ty}
use Rattle.cls_base.specs.Ty.{type_of}
use Rattle.cls_base.specs.Types.{ClosedType}
use Rattle.cls_base.specs.Schemas.{OpenType}
use Rattle.cls_kind.specs.Instances.{variables_of, AreFull}
use Rattle.cls_kind.specs.Kinds.{kind_of, ranges_of, AreKnown}
use Rattle.cls_kind.proofs.Counting.{full-first, full-rest}

abbrev pub found_kind : Option (List ClosedType) → List ClosedType
found_kind None = []
found_kind (Some ts) = ts

pub lookup-kind : (kinds : List (ℕ × List ClosedType)) (v : ℕ) → found_kind (lookup (λ k. v == k) kinds) ≡ kind_of kinds v
lookup-kind [] v = refl
lookup-kind (k ∷ kinds) v = go (v == k.0) (lookup-kind kinds v)
  where
    go : (b : Bool) → found_kind (lookup (λ k. v == k) kinds) ≡ kind_of kinds v → found_kind (cond b (Some k.1) (lookup (λ k. v == k) kinds)) ≡ (if b then k.1 else kind_of kinds v)
    go true h = refl
    go false h = h

-- a variable without a kind goes last
pub insert-new : (kinds : List (ℕ × List ClosedType)) (v : ℕ) (ts : List ClosedType) → AreFull kinds → kind_of kinds v ≡ [] → insert_entry (λ x y. x == y) kinds v ts ≡ kinds ++ (v, ts) ∷ []
insert-new [] v ts h e = refl
insert-new (k ∷ kinds) v ts h e = go (v == k.0) e (insert-new kinds v ts (full-rest k kinds h))
  where
    go : (b : Bool) → (if b then k.1 else kind_of kinds v) ≡ [] → (kind_of kinds v ≡ [] → insert_entry (λ x y. x == y) kinds v ts ≡ kinds ++ (v, ts) ∷ []) → (if b then (k.0, ts) ∷ kinds else k ∷ insert_entry (λ x y. x == y) kinds v ts) ≡ k ∷ (kinds ++ (v, ts) ∷ [])
    go true e f = absurd (full-first k kinds h e)
    go false e f = ap (λ (x : List (ℕ × List ClosedType)). k ∷ x) (f e)

pub kinds-more : (kinds : List (ℕ × List ClosedType)) (v : ℕ) (ts : List ClosedType) → AreFull kinds → (ts ≡ [] → ⊥) → AreFull (kinds ++ (v, ts) ∷ [])
kinds-more kinds v ts h n = All-push (λ k. k.1 ≡ [] → ⊥) kinds (v, ts) h n

-- a variable in the list, and what stands before and after it
pub first-unknown : (kinds : List (ℕ × List ClosedType)) (vs : List ℕ) (i : ℕ) → i < length vs → All (λ w. kind_of kinds w ≡ [] → ⊥) (take i vs) → kind_of kinds (get_or vs i 0) ≡ []
    → (before after : List ℕ) × (vs ≡ before ++ get_or vs i 0 ∷ after) × All (λ w. kind_of kinds w ≡ [] → ⊥) before × (kind_of kinds (get_or vs i 0) ≡ [])
first-unknown kinds vs i l h e = (take i vs, drop (i + 1) vs, sym (take-append-drop i vs) ∙ ap (λ x. take i vs ++ x) (drop_more vs i 0 l), h, e)

pub ranges-more : (kinds : List (ℕ × List ClosedType)) (vs : List ℕ) (i : ℕ) (ranges : List (ℕ × List ClosedType)) → i < length vs → ranges ≡ map (λ v. (v, kind_of kinds v)) (take i vs)
    → ranges ++ (get_or vs i 0, kind_of kinds (get_or vs i 0)) ∷ [] ≡ map (λ v. (v, kind_of kinds v)) (take (i + 1) vs)
ranges-more kinds vs i ranges l e = ap (λ x. x ++ (get_or vs i 0, kind_of kinds (get_or vs i 0)) ∷ []) e ∙ sym (map_more (λ v. (v, kind_of kinds v)) vs i 0 l)

pub known-more : (kinds : List (ℕ × List ClosedType)) (vs : List ℕ) (i : ℕ) → i < length vs → All (λ w. kind_of kinds w ≡ [] → ⊥) (take i vs) → (kind_of kinds (get_or vs i 0) ≡ [] → ⊥) → All (λ w. kind_of kinds w ≡ [] → ⊥) (take (i + 1) vs)
known-more kinds vs i l h n = subst (λ x. All (λ w. kind_of kinds w ≡ [] → ⊥) x) (sym (take_more vs i 0 l)) (All-push (λ w. kind_of kinds w ≡ [] → ⊥) (take i vs) (get_or vs i 0) h n)

pub is-empty : (types : List Ty) (ts : List ClosedType) → map type_of types ≡ ts → (length types == 0) ≡ true → ts ≡ []
is-empty [] ts e h = sym e
is-empty (t ∷ types) ts e h = absurd (no h)
  where
    no : (length (t ∷ types) == 0) ≡ true → ⊥
    no h = grind (arith, nat_tests)

pub not-empty : (types : List Ty) (ts : List ClosedType) → map type_of types ≡ ts → (length types == 0) ≡ false → ts ≡ [] → ⊥
not-empty [] ts e h k = grind (arith, nat_tests)
not-empty (t ∷ types) ts e h k = cc

-- each variable of the schema has a list with something in it
pub full-ranges : (kinds : List (ℕ × List ClosedType)) (vs : List ℕ) → All (λ v. kind_of kinds v ≡ [] → ⊥) vs → AreFull (map (λ v. (v, kind_of kinds v)) vs)
full-ranges kinds [] h k d l = absurd (omega arith)
full-ranges kinds (v ∷ vs) h zero d l = h 0 v (omega arith)
full-ranges kinds (v ∷ vs) h (suc k) d l = full-ranges kinds vs (λ j e m. h (suc j) e (omega arith)) k d (omega arith)

pub full-known : (kinds rs : List (ℕ × List ClosedType)) (s : OpenType) → rs ≡ ranges_of kinds s → AreKnown kinds s → AreFull rs
full-known kinds rs s e h = subst AreFull (sym e) (full-ranges kinds (variables_of s) h)
