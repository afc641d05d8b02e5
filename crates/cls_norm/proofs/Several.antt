-- What is below several types, and names that several types have.
use Rattle.std.proofs.Common.{◌≡◌, sym, subst, ℕ, zero, suc, ◌+◌, ◌<◌, inl, inr, List, [], ◌∷◌, length, get_or, drop, arith, Bor}
use Rattle.std.specs.Prelude.{Contains}
use Rattle.std.specs.List.Sorted.{IsPermutation}
use Rattle.std.proofs.lemmas.List.Elements.{Contains-append_cases}
use Rattle.std.proofs.lemmas.List.Sorted.{Contains-permutation, IsPermutation-sym}
use Rattle.cls_base.specs.Types as types
use Rattle.cls_base.specs.Types.{ClosedType, constructor, product, arrow, meet}
use Rattle.cls_base.specs.Taxonomies.{Variance, covariant}
use Rattle.cls_base.specs.Ty.{type_of}
use Rattle.cls_base.specs.declared.ty.Ty.{Ty}
use Rattle.cls_base.proofs.Lists.{Contains-nil, Contains-cases}
use Rattle.cls_path.specs.Paths.{Paths, none, atom, SomeLe, PathsLe, constructor_paths, paths_of}
use Rattle.cls_norm.specs.Subtypes.{paths_of_all}
use Rattle.cls_norm.specs.Names.{name_of, names_of_all, IsNamed}
use Rattle.cls_norm.proofs.Steps.{to_append_first, to_append_second}
use Rattle.cls_norm.proofs.Parts.{drop_item, le_append, name_at}
use Rattle.cls_norm.proofs.Uppers.{bare_upper}

module _ (below : ℕ → ℕ → Type 0) (variance : ℕ → Variance) where
  abbrev P : ClosedType → Paths
  P t = paths_of variance t

  abbrev All : List (Bor Ty) → Paths
  All ts = paths_of_all variance ts

  abbrev Le : Paths → Paths → Type 0
  Le n m = PathsLe below variance n m

  -- what is below several types is below each of them
  pub le_at : (x : Paths) (ts : List (Bor Ty)) (i : ℕ) (t : Bor Ty) → i < length ts → t ≡ get_or ts i t → Le x (All ts) → Le x (P (type_of t.now))
  le_at x [] i t h e l = absurd (omega arith)
  le_at x (u ∷ ts) zero t h e l = subst (λ (z : Bor Ty). Le x (P (type_of z.now))) (sym e) ((le_append below variance x (P (type_of u.now)) (All ts)).0 l).0
  le_at x (u ∷ ts) (suc i) t h e l = le_at x ts i t (omega arith) e ((le_append below variance x (P (type_of u.now)) (All ts)).0 l).1

  -- what is below one of them and those behind it is below those from it on
  pub le_from :
      (x : Paths) (ts : List (Bor Ty)) (i : ℕ) (t : Bor Ty) → i < length ts → t ≡ get_or ts i t
      → Le x (P (type_of t.now)) → Le x (All (drop (i + 1) ts)) → Le x (All (drop i ts))
  le_from x ts i t h e one rest =
      subst (λ (l : List (Bor Ty)). Le x (All l)) (sym (drop_item ts i t h e)) ((le_append below variance x (P (type_of t.now)) (All (drop (i + 1) ts))).1 (one, rest))

  module _ (reflexive : (c : ℕ) → below c c) (one_variance : (c d : ℕ) → below c d → variance c ≡ variance d) (c : ℕ) (co : variance c ≡ covariant) where
    has_name : (s : ClosedType) → Contains (name_of s) c → SomeLe below variance (P s) (atom c)
    has_name types.omega h = absurd (Contains-nil c h)
    has_name (constructor d s) h = elim (Contains-cases d [] c h) [
      | inl e ↦ (name_at below variance one_variance d c s co).0 (subst (λ x. below x c) e (reflexive c))
      | inr k ↦ absurd (Contains-nil c k)
    ]
    has_name (product s u) h = absurd (Contains-nil c h)
    has_name (arrow s u) h = absurd (Contains-nil c h)
    has_name (meet s u) h = absurd (Contains-nil c h)

    some_has : (ts : List (Bor Ty)) → Contains (names_of_all ts) c → SomeLe below variance (All ts) (atom c)
    some_has [] h = absurd (Contains-nil c h)
    some_has (t ∷ ts) h = elim (Contains-append_cases (name_of (type_of t.now)) (names_of_all ts) c h) [
      | inl a ↦ to_append_first below variance (P (type_of t.now)) (All ts) (atom c) (has_name (type_of t.now) a)
      | inr b ↦ to_append_second below variance (P (type_of t.now)) (All ts) (atom c) (some_has ts b)
    ]

  -- a type that is among the names of several types is above them
  pub named_above :
      ((c : ℕ) → below c c) → ((c d : ℕ) → below c d → variance c ≡ variance d) → (ts : List (Bor Ty)) (names : List ℕ) (s : ClosedType)
      → IsPermutation (names_of_all ts) names → IsNamed variance names s → Le (All ts) (P s)
  named_above reflexive one_variance ts names types.omega p h = absurd h
  named_above reflexive one_variance ts names (constructor c s) p (e, co, k) =
      let o = some_has reflexive one_variance c co ts (Contains-permutation names (names_of_all ts) c (IsPermutation-sym (names_of_all ts) names p) k) in
      let n : P s ≡ none = (λ i. P (e i)) in
      subst (λ (w : Variance). Le (All ts) (constructor_paths w c (P s))) (sym co) ((bare_upper below variance (All ts) c (P s) n).0 o)
  named_above reflexive one_variance ts names (product s u) p h = absurd h
  named_above reflexive one_variance ts names (arrow s u) p h = absurd h
  named_above reflexive one_variance ts names (meet s u) p h = absurd h
