-- Each type has a normal form: its paths, with normal lists inside, are put one by one into a normal list.
use Rattle.std.proofs.Common.{◌≡◌, refl, ℕ, Bool, true, false, List, [], inl, inr}
use Rattle.cls_base.specs.Types as types
use Rattle.cls_base.specs.Types.{ClosedType, constructor, product, arrow, meet}
use Rattle.cls_base.specs.Taxonomies.{Variance, covariant, contravariant, invariant}
use Rattle.cls_base.specs.Taxa.{Below}
use Rattle.cls_path.specs.Paths.{TypePath, atom, inside, unit, left, right, function, sealed, Paths, none, more, first_in, later_in, append, map_paths, or_one, type_of_path, type_of_paths, Suits, listed}
use Rattle.cls_path.specs.NormalForms.{IsCanonicalPath, IsNormal, IsNormalForm}
use Rattle.cls_path.specs.PathLists.{ArePathsOf}
use Rattle.cls_path.specs.Tests.{some_below}
use Rattle.cls_path.specs.Insertion.{place, without_above}
use Rattle.cls_path.specs.Laws.{FormsExist}
use Rattle.cls_path.proofs.Insertion.{inserted_form, kept_form}
use Rattle.cls_path.proofs.Remains.{Remains, remains_all, remains_step, next_suits, next_canonical, first_or_later, whole_of}
use Rattle.cls_path.proofs.TypeParts.{omega_paths, name_paths, sealed_paths, product_paths, arrow_paths, meet_paths}

module _ (test : ℕ → ℕ → Bool) (variance : ℕ → Variance) (reflexive : (c : ℕ) → Below test c c) (transitive : (c d e : ℕ) → Below test c d → Below test d e → Below test c e) (one_variance : (c d : ℕ) → Below test c d → variance c ≡ variance d) where
  -- a list as the code holds it, and that it is the normal form of the type
  abbrev Formed : ClosedType → Type 0
  Formed t = (n : List TypePath) × IsNormalForm (Below test) variance t (listed n)

  abbrev Parted : ClosedType → Type 0
  Parted t = (n : Paths) × ArePathsOf (Below test) variance t n

  with_path :
      (p : TypePath) (n : List TypePath) → Suits variance p → IsCanonicalPath (Below test) variance p
      → IsNormal (Below test) variance (listed n) → Formed (meet (type_of_paths (listed n)) (type_of_path p))
  with_path p n s d h = step (some_below test variance (listed n) p) refl
    where
      step : (v : Bool) → some_below test variance (listed n) p ≡ v → Formed (meet (type_of_paths (listed n)) (type_of_path p))
      step true e = (n, kept_form test variance reflexive transitive one_variance p n s h e)
      step false e = (place p (without_above test variance p n), inserted_form test variance reflexive transitive one_variance p n s d h e)

  all_put :
      (whole : Paths) (out : List TypePath) (rest : Paths) → Remains (Below test) variance whole (listed out) rest
      → (n : List TypePath) × Remains (Below test) variance whole (listed n) none
  all_put whole out none h = (out, h)
  all_put whole out (more p rest) h =
      let f = with_path p out (next_suits (Below test) variance p h first_in) (next_canonical (Below test) variance p h first_in) h.normal in
      all_put whole f.0 rest (remains_step (Below test) variance reflexive transitive p rest (listed f.0) h first_in (λ q i. first_or_later p q rest i) (λ q i. later_in i) f.1)

  formed : (t : ClosedType) → Parted t → Formed t
  formed t (n, h) =
      let r = all_put n [] n (remains_all (Below test) variance reflexive transitive none n (record { suits = tt; canonical = tt }) h.suits h.canonical) in
      (r.0, whole_of (Below test) variance reflexive transitive t n (listed r.0) h.lower h.upper r.1)

  under_name : (v : Variance) (c : ℕ) (s : ClosedType) → variance c ≡ v → Parted s → Parted (constructor c s)
  under_name covariant c s e r = (or_one (atom c) (map_paths (inside c) r.0), name_paths (Below test) variance reflexive transitive c s r.0 e r.1)
  under_name contravariant c s e r = let f = formed s r in (more (sealed c (listed f.0)) none, sealed_paths (Below test) variance reflexive transitive c s (listed f.0) (inl e) f.1)
  under_name invariant c s e r = let f = formed s r in (more (sealed c (listed f.0)) none, sealed_paths (Below test) variance reflexive transitive c s (listed f.0) (inr e) f.1)

  parted : (t : ClosedType) → Parted t
  parted types.omega = (none, omega_paths (Below test) variance reflexive transitive)
  parted (constructor c s) = under_name (variance c) c s refl (parted s)
  parted (product s t) =
      let n = parted s in
      let m = parted t in
      (or_one unit (append (map_paths left n.0) (map_paths right m.0)), product_paths (Below test) variance reflexive transitive s t n.0 m.0 n.1 m.1)
  parted (arrow s t) =
      let n = formed s (parted s) in
      let m = parted t in
      (map_paths (function (listed n.0)) m.0, arrow_paths (Below test) variance reflexive transitive s t (listed n.0) m.0 n.1 m.1)
  parted (meet s t) =
      let n = parted s in
      let m = parted t in
      (append n.0 m.0, meet_paths (Below test) variance reflexive transitive s t n.0 m.0 n.1 m.1)

  form_of : (t : ClosedType) → (n : Paths) × IsNormalForm (Below test) variance t n
  form_of t = let f = formed t (parted t) in (listed f.0, f.1)

pub forms_exist : FormsExist
forms_exist test variance o one_variance t = form_of test variance o.reflexive o.transitive one_variance t
