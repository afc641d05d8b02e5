-- The variances of a draft, as the map of the code has them.
use Rattle.std.proofs.Common.{◌≡◌, ℕ, Bool, true, false, cond, List, [], ◌∷◌, ◌++◌, map, Some, refl, sym, ap, ◌∙◌, subst, inl, inr}
use Rattle.std.specs.Prelude.{Contains, ◌==◌, ◌↔◌, IsTrue, is_some}
use Rattle.std.specs.List.{IsDistinct}
use Rattle.std.specs.Map.{lookup}
use Rattle.std.proofs.lemmas.Bool.{true≢false}
use Rattle.indexmap.specs.IndexMap.{insert_entry}
use Rattle.cls_base.specs.declared.taxa.Variance.{Variance}
use Rattle.cls_base.specs.declared.ty.Name.{Name}
use Rattle.cls_base.specs.Lists.{AreDistinct}
use Rattle.cls_base.specs.Taxonomies as taxonomies
use Rattle.cls_base.specs.Taxa.{variance_of}
use Rattle.cls_base.proofs.Lists.{Contains-nil, Contains-head, Contains-later, Contains-cases, Contains-map, map_last, AreDistinct-from_IsDistinct}
use Rattle.cls_taxon.specs.DecisionLaws.{same_name, name_same}
use Rattle.cls_taxon.specs.Variances.{declared_of, entry_of}
use Rattle.cls_taxon.proofs.VarianceLaws.{insert-new}

abbrev pub name_in : ℕ × taxonomies.Variance → ℕ
name_in v = v.0

abbrev pub names_in : List (ℕ × Variance) → List ℕ
names_in entries = map name_in (map entry_of entries)

found_held : (entries : List (ℕ × Variance)) (n : ℕ) → is_some (lookup (λ k. n == k) entries) ≡ true → Contains (names_in entries) n
found_held [] n h = absurd (true≢false (sym h))
found_held (e ∷ entries) n h =
    (elim (n == e.0) as (λ b. (n == e.0) ≡ b → is_some (cond b (Some e.1) (lookup (λ k. n == k) entries)) ≡ true → Contains (names_in (e ∷ entries)) n) [
      | true ↦ λ t k. Contains-head n e.0 (names_in entries) (same_name n e.0 t)
      | false ↦ λ t k. Contains-later n e.0 (names_in entries) (found_held entries n k)
    ]) refl h

held_found : (entries : List (ℕ × Variance)) (n : ℕ) → Contains (names_in entries) n → is_some (lookup (λ k. n == k) entries) ≡ true
held_found [] n c = absurd (Contains-nil n c)
held_found (e ∷ entries) n c =
    (elim (n == e.0) as (λ b. (n == e.0) ≡ b → is_some (cond b (Some e.1) (lookup (λ k. n == k) entries)) ≡ true) [
      | true ↦ λ t. refl
      | false ↦ λ t. elim (Contains-cases e.0 (names_in entries) n c) [
        | inl here ↦ absurd (true≢false (sym (name_same n e.0 here) ∙ t))
        | inr there ↦ held_found entries n there
      ]
    ]) refl

-- a key of the map is the name of a variance
pub has_name : (entries : List (ℕ × Variance)) (n : ℕ) (b : Bool) → b ≡ is_some (lookup (λ k. n == k) entries) → IsTrue b ↔ Contains (names_in entries) n
has_name entries n b e = ((λ t. found_held entries n (sym e ∙ t)), (λ c. e ∙ held_found entries n c))

-- a name that has no variance goes last
pub one_more : (entries new : List (ℕ × Variance)) (n : ℕ) (v : Variance) → (Contains (names_in entries) n → ⊥) → new ≡ insert_entry (λ x y. x == y) entries n v
    → map entry_of new ≡ map entry_of entries ++ (n, variance_of v) ∷ []
one_more entries new n v none is = ap (map entry_of) (is ∙ insert-new entries n v (λ w c. none (Contains-map name_in (map entry_of entries) (n, w) c))) ∙ map_last entry_of entries (n, v)

declared_names : (declared : List (Name × Variance)) → map (λ d. d.0.0) declared ≡ map name_in (map declared_of declared)
declared_names [] = refl
declared_names (d ∷ declared) = ap (λ (ns : List ℕ). d.0.0 ∷ ns) (declared_names declared)

entry_names : (entries : List (ℕ × Variance)) → names_in entries ≡ map (λ e. e.0) entries
entry_names [] = refl
entry_names (e ∷ entries) = ap (λ (ns : List ℕ). e.0 ∷ ns) (entry_names entries)

-- the entries of the map as a list name no name twice
pub named_once : (entries : List (ℕ × Variance)) (declared : List (Name × Variance)) → map declared_of declared ≡ map entry_of entries → IsDistinct (λ a b. a == b) (map (λ e. e.0) entries)
    → AreDistinct (map (λ d. d.0.0) declared)
named_once entries declared same once =
    let names = declared_names declared ∙ (ap (map name_in) same ∙ entry_names entries) in
    subst (λ (ns : List ℕ). AreDistinct ns) (sym names) (AreDistinct-from_IsDistinct (map (λ e. e.0) entries) once)
