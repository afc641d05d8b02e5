-- The instances of a schema, gathered one by one.
use Rattle.std.proofs.Common.{◌≡◌, ℕ, ◌+◌, ◌<◌, ◌≤◌, max, List, [], ◌∷◌, ◌++◌, refl, sym, subst, ap, ◌∙◌, arith, append_assoc, Some, Result, Ok, Err}
use Rattle.std.proofs.lemmas.List.{append-nil}
use Rattle.cls_base.specs.Limits.{max_arity, max_library_weight}
use Rattle.cls_base.specs.declared.ty.Ty.{Ty}
use Rattle.cls_base.specs.Ty.{type_of}
use Rattle.cls_base.specs.Taxonomies.{Variance}
use Rattle.cls_base.specs.Types.{ClosedType, meet, spread}
use Rattle.cls_base.specs.Schemas.{OpenType}
use Rattle.cls_path.specs.Paths.{TypePath, Paths, none, more, PathsLe, append, paths_of, type_of_paths, listed}
use Rattle.cls_path.specs.NormalForms.{IsNormalForm}
use Rattle.cls_path.proofs.Remains.{canonical_each, listed-append}
use Rattle.cls_path.specs.PathLists.{ArePathsOf}
use Rattle.cls_path.proofs.TypeParts.{omega_paths, meet_paths, form_of_paths}
use Rattle.cls_taxon.specs.Orders.{Declared}
use Rattle.cls_taxon.specs.DecisionLaws.{is_below-reflexive, is_below-transitive}
use Rattle.cls_kind.specs.declared.fault.KindFault.{KindFault}
use Rattle.cls_kind.specs.declared.fault.KindFault.TheVariants as kind_faults
use Rattle.cls_kind.specs.Instances.{IsSmall}
use Rattle.cls_kind.specs.Kinds.{HasInstances, instances_of}
use Rattle.cls_kind.specs.Faults.{HasNoInstances, IsAnswerFor, TakesFirst, left_after}
use Rattle.cls_library.specs.declared.fault.LibraryKind.{LibraryKind}
use Rattle.cls_library.specs.declared.fault.LibraryKind.TheVariants.{TooManyComponents, LibraryTooLarge, Kind, ArityTooLarge, OutOfMemory}
use Rattle.cls_library.specs.Arrows.{arity_of}
use Rattle.cls_library.specs.Faults.{kind_of_fault}
use Rattle.cls_library.specs.Gathered.{RefusesInstance, AreGathered, ArePartlyGathered}
use Rattle.cls_library.specs.Libraries.{below_in, variances_in, all_of, weight_of}
use Rattle.cls_library.specs.Refusals.{IsAcceptable, AreAcceptable, RefusesSchema}
use Rattle.cls_kind.specs.Pruned.{pruned}
use Rattle.cls_kind.proofs.Pruning.{spread_pruned, small-pruned}
use Rattle.cls_norm.proofs.Steps.{append_none}
use Rattle.cls_library.proofs.PrunedPaths.{paths-pruned}
use Rattle.cls_library.proofs.Splitting.{arity-form}

append_assoc' : (n m k : Paths) → append n (append m k) ≡ append (append n m) k
append_assoc' none m k = refl
append_assoc' (more p n) m k = ap (more p) (append_assoc' n m k)

-- one type more has the paths of the intersection with it
all-last : (v : ℕ → Variance) (ts : List ClosedType) (t : ClosedType) → paths_of v (all_of (ts ++ t ∷ [])) ≡ paths_of v (meet (all_of ts) t)
all-last v [] t = append_none (paths_of v t)
all-last v (s ∷ ts) t = ap (append (paths_of v s)) (all-last v ts t) ∙ append_assoc' (paths_of v s) (paths_of v (all_of ts)) (paths_of v t)

weight-last : (ts : List ClosedType) (t : ClosedType) → weight_of (ts ++ t ∷ []) ≡ weight_of ts + (spread t + 1)
weight-last [] t = omega arith
weight-last (s ∷ ts) t = let h = weight-last ts t in omega arith

acceptable-last : (v : ℕ → Variance) (w : ℕ) (ts : List ClosedType) (t : ClosedType) → AreAcceptable v w ts → IsAcceptable v (w + weight_of ts) t → AreAcceptable v w (ts ++ t ∷ [])
acceptable-last v w [] t h k = (subst (λ n. IsAcceptable v n t) (omega arith) k, tt)
acceptable-last v w (s ∷ ts) t h k = (h.0, acceptable-last v (w + (spread s + 1)) ts t h.1 (subst (λ n. IsAcceptable v n t) (omega arith) k))

pub arity-append : (n m : Paths) → arity_of (append n m) ≡ max (arity_of n) (arity_of m)
arity-append none m = omega arith
arity-append (more p n) m = let h = arity-append n m in omega arith

-- the intersection of accepted instances takes few arguments
pub acceptable-arity : (v : ℕ → Variance) (w : ℕ) (ts : List ClosedType) → AreAcceptable v w ts → arity_of (paths_of v (all_of ts)) ≤ max_arity
acceptable-arity v w [] h = omega arith
acceptable-arity v w (t ∷ ts) h =
    let a = h.0.arity in
    let b = acceptable-arity v (w + (spread t + 1)) ts h.1 in
    let e = arity-append (paths_of v t) (paths_of v (all_of ts)) in
    omega arith

-- an instance that came isn't too large, nor is what came of it
pub small-step :
    (left : List ClosedType) (made : Result Ty KindFault) (left' : List ClosedType) (ty : Ty)
    → TakesFirst left (Some made) left' → made ≡ Ok ty → IsSmall (type_of ty)
small-step left made left' ty r e =
    let came : IsAnswerFor r.0 (Ok ty) = subst (IsAnswerFor r.0) e r.3 in
    subst IsSmall (sym came.0) (small-pruned r.0 came.1)

module _ (d : Declared) where
  -- what holds of the pruned instance u holds of the instance t
  module _ (t u : ClosedType) (e : u ≡ pruned t) where
    same-paths : paths_of (variances_in d) u ≡ paths_of (variances_in d) t
    same-paths = ap (paths_of (variances_in d)) e ∙ paths-pruned (variances_in d) t

    same-spread : spread u ≡ spread t
    same-spread = ap spread e ∙ spread_pruned t

    acceptable-whole : (w : ℕ) → IsSmall t → IsAcceptable (variances_in d) w u → IsAcceptable (variances_in d) w t
    acceptable-whole w small k = record {
      small = small;
      arity = subst (λ (n : Paths). arity_of n ≤ max_arity) same-paths k.arity;
      light = let l = k.light in let s = same-spread in omega arith;
    }

    form-whole : (n : Paths) → IsNormalForm (below_in d) (variances_in d) u n → IsNormalForm (below_in d) (variances_in d) t n
    form-whole n h = record {
      normal = h.normal;
      lower = subst (λ (m : Paths). PathsLe (below_in d) (variances_in d) n m) same-paths h.lower;
      upper = subst (λ (m : Paths). PathsLe (below_in d) (variances_in d) m n) same-paths h.upper;
    }

    refused-whole : (w : ℕ) (kind : LibraryKind) → RefusesInstance (variances_in d) w u kind → RefusesInstance (variances_in d) w t kind
    refused-whole w ArityTooLarge r = subst (λ (n : Paths). max_arity < arity_of n) same-paths r
    refused-whole w LibraryTooLarge r =
        (subst (λ (n : Paths). arity_of n ≤ max_arity) same-paths r.0, (let b = r.1 in let s = same-spread in omega arith))
    refused-whole w OutOfMemory r = tt
    refused-whole w TooManyComponents r = absurd r
    refused-whole w (Kind fault) r = absurd r

  paths-same : (s t : ClosedType) (n : Paths) → paths_of (variances_in d) s ≡ paths_of (variances_in d) t → ArePathsOf (below_in d) (variances_in d) t n → ArePathsOf (below_in d) (variances_in d) s n
  paths-same s t n e h = record {
    suits = h.suits;
    canonical = h.canonical;
    lower = subst (λ m. PathsLe (below_in d) (variances_in d) n m) (sym e) h.lower;
    upper = subst (λ m. PathsLe (below_in d) (variances_in d) m n) (sym e) h.upper;
  }

  form-paths : (t : ClosedType) (n : Paths) → IsNormalForm (below_in d) (variances_in d) t n → ArePathsOf (below_in d) (variances_in d) t n
  form-paths t n h = record { suits = h.normal.suits; canonical = canonical_each (below_in d) (variances_in d) n h.normal.canonical; lower = h.lower; upper = h.upper }

  paths-last : (ts : List ClosedType) (t : ClosedType) (ps form : List TypePath) → ArePathsOf (below_in d) (variances_in d) (all_of ts) (listed ps) → IsNormalForm (below_in d) (variances_in d) t (listed form) → ArePathsOf (below_in d) (variances_in d) (all_of (ts ++ t ∷ [])) (listed (ps ++ form))
  paths-last ts t ps form h k =
      paths-same (all_of (ts ++ t ∷ [])) (meet (all_of ts) t) (listed (ps ++ form)) (all-last (variances_in d) ts t)
      (subst (λ n. ArePathsOf (below_in d) (variances_in d) (meet (all_of ts) t) n) (sym (listed-append ps form))
      (meet_paths (below_in d) (variances_in d) (is_below-reflexive d) (is_below-transitive d) (all_of ts) t (listed ps) (listed form) h (form-paths t (listed form) k)))

  pub partly-none : (held : ℕ) (all : List ClosedType) → held ≤ max_library_weight → ArePartlyGathered d held all none held all
  partly-none held all l = record {
    before = [];
    split = refl;
    gathered = record { acceptable = tt; paths = omega_paths (below_in d) (variances_in d) (is_below-reflexive d) (is_below-transitive d); weight = omega arith; light = l };
  }

  module _ (held : ℕ) (all : List ClosedType) (ps : List TypePath) (w : ℕ) (left : List ClosedType) (t : ClosedType) (rest : List ClosedType) (e : left ≡ t ∷ rest) (h : ArePartlyGathered d held all (listed ps) w left) where
    pub partly-more : (ps' form : List TypePath) (w' : ℕ) (left' : List ClosedType) → left' ≡ rest → IsAcceptable (variances_in d) w t → IsNormalForm (below_in d) (variances_in d) t (listed form) → ps' ≡ ps ++ form → w' ≡ w + (spread t + 1) → ArePartlyGathered d held all (listed ps') w' left'
    partly-more ps' form w' left' r k f p q = record {
      before = h.before ++ t ∷ [];
      split = h.split ∙ ap (λ l. h.before ++ l) e ∙ sym (append_assoc h.before (t ∷ []) rest) ∙ ap (λ l. (h.before ++ t ∷ []) ++ l) (sym r);
      gathered = record {
        acceptable = acceptable-last (variances_in d) held h.before t h.gathered.acceptable (subst (λ n. IsAcceptable (variances_in d) n t) h.gathered.weight k);
        paths = subst (λ l. ArePathsOf (below_in d) (variances_in d) (all_of (h.before ++ t ∷ [])) (listed l)) (sym p) (paths-last h.before t ps form h.gathered.paths f);
        weight = let a = h.gathered.weight in let b = weight-last h.before t in omega arith;
        light = let a = k.light in omega arith;
      };
    }

    module _ (kinds : List (ℕ × List ClosedType)) (s : OpenType) (same : all ≡ instances_of kinds s) (has : HasInstances kinds s) where
      at : instances_of kinds s ≡ h.before ++ t ∷ rest
      at = sym same ∙ h.split ∙ ap (λ l. h.before ++ l) e

      pub partly-refused : IsSmall t → (kind : LibraryKind) → RefusesInstance (variances_in d) w t kind → RefusesSchema d kinds held s kind
      partly-refused small ArityTooLarge r = (has, (h.before, rest, t, at, h.gathered.acceptable, (small, r)))
      partly-refused small LibraryTooLarge r = (has, (h.before, rest, t, at, h.gathered.acceptable, (small, (r.0, (let a = h.gathered.weight in let b = r.1 in omega arith)))))
      partly-refused small OutOfMemory r = tt
      partly-refused small TooManyComponents r = r
      partly-refused small (Kind (kind_faults.UnknownVariable v)) r = absurd r
      partly-refused small (Kind kind_faults.TooManyInstances) r = absurd r
      partly-refused small (Kind kind_faults.InstanceTooLarge) r = absurd r
      partly-refused small (Kind kind_faults.OutOfMemory) r = absurd r

      pub partly-fault : (fault : KindFault) → IsAnswerFor t (Err fault) → RefusesSchema d kinds held s (kind_of_fault fault)
      partly-fault (kind_faults.UnknownVariable v) c = absurd c
      partly-fault kind_faults.TooManyInstances c = absurd c
      partly-fault kind_faults.InstanceTooLarge c = (has, (h.before, rest, t, at, h.gathered.acceptable, c))
      partly-fault kind_faults.OutOfMemory c = tt

  -- an instance that came and was put in
  pub partly-step : (held : ℕ) (all : List ClosedType) (ps : List TypePath) (w : ℕ) (left : List ClosedType) (made : Result Ty KindFault) (left' : List ClosedType) (ty : Ty) (ps' : List TypePath) (w' : ℕ)
      → ArePartlyGathered d held all (listed ps) w left → TakesFirst left (Some made) left' → made ≡ Ok ty → IsAcceptable (variances_in d) w (type_of ty)
      → ((form : List TypePath) × IsNormalForm (below_in d) (variances_in d) (type_of ty) (listed form) × (ps' ≡ ps ++ form)) → w' ≡ w + (spread (type_of ty) + 1) → ArePartlyGathered d held all (listed ps') w' left'
  partly-step held all ps w left made left' ty ps' w' h r e k f q =
      let came : IsAnswerFor r.0 (Ok ty) = subst (IsAnswerFor r.0) e r.3 in
      let same : type_of ty ≡ pruned r.0 = came.0 in
      partly-more held all ps w left r.0 r.1 r.2 h ps' f.0 w' left' (r.4 ∙ ap (left_after r.1) e) (acceptable-whole r.0 (type_of ty) same w came.1 k)
      (form-whole r.0 (type_of ty) same (listed f.0) f.1) f.2 (q ∙ ap (λ (n : ℕ). w + (n + 1)) (same-spread r.0 (type_of ty) same))

  -- one that was refused
  pub step-refused : (kinds : List (ℕ × List ClosedType)) (s : OpenType) (held : ℕ) (ps : List TypePath) (w : ℕ) (left : List ClosedType) (made : Result Ty KindFault) (left' : List ClosedType) (ty : Ty) (kind : LibraryKind)
      → HasInstances kinds s → ArePartlyGathered d held (instances_of kinds s) (listed ps) w left → TakesFirst left (Some made) left' → made ≡ Ok ty → RefusesInstance (variances_in d) w (type_of ty) kind → RefusesSchema d kinds held s kind
  step-refused kinds s held ps w left made left' ty kind has h r e k =
      let came : IsAnswerFor r.0 (Ok ty) = subst (IsAnswerFor r.0) e r.3 in
      partly-refused held (instances_of kinds s) ps w left r.0 r.1 r.2 h kinds s refl has came.1 kind (refused-whole r.0 (type_of ty) came.0 w kind k)

  pub step-fault : (kinds : List (ℕ × List ClosedType)) (s : OpenType) (held : ℕ) (ps : List TypePath) (w : ℕ) (left : List ClosedType) (made : Result Ty KindFault) (left' : List ClosedType) (fault : KindFault)
      → HasInstances kinds s → ArePartlyGathered d held (instances_of kinds s) (listed ps) w left → TakesFirst left (Some made) left' → made ≡ Err fault → RefusesSchema d kinds held s (kind_of_fault fault)
  step-fault kinds s held ps w left made left' fault has h r e = partly-fault held (instances_of kinds s) ps w left r.0 r.1 r.2 h kinds s refl has fault (subst (IsAnswerFor r.0) e r.3)

  pub partly-all : (held : ℕ) (all : List ClosedType) (n : Paths) (w : ℕ) (left : List ClosedType) → left ≡ [] → ArePartlyGathered d held all n w left → AreGathered d held all n w
  partly-all held all n w left e h = subst (λ ts. AreGathered d held ts n w) (sym (h.split ∙ ap (λ l. h.before ++ l) e ∙ append-nil h.before)) h.gathered

  -- a fault of the schema's kinds
  pub kinds-refused : (kinds : List (ℕ × List ClosedType)) (held : ℕ) (s : OpenType) (fault : KindFault) → HasNoInstances kinds s fault → RefusesSchema d kinds held s (kind_of_fault fault)
  kinds-refused kinds held s (kind_faults.UnknownVariable v) h = h
  kinds-refused kinds held s kind_faults.TooManyInstances h = h
  kinds-refused kinds held s kind_faults.InstanceTooLarge h = absurd h
  kinds-refused kinds held s kind_faults.OutOfMemory h = tt

  -- the normal form of what was gathered
  pub gathered-form : (held : ℕ) (ts : List ClosedType) (ps nf : List TypePath) (w : ℕ) → AreGathered d held ts (listed ps) w → IsNormalForm (below_in d) (variances_in d) (type_of_paths (listed ps)) (listed nf) → IsNormalForm (below_in d) (variances_in d) (all_of ts) (listed nf)
  gathered-form held ts ps nf w h f = form_of_paths (below_in d) (variances_in d) (is_below-reflexive d) (is_below-transitive d) (all_of ts) (listed ps) (listed nf) h.paths f

  pub gathered-arity : (held : ℕ) (ts : List ClosedType) (ps nf : List TypePath) (w : ℕ) → AreGathered d held ts (listed ps) w → IsNormalForm (below_in d) (variances_in d) (type_of_paths (listed ps)) (listed nf) → arity_of (listed nf) ≤ max_arity
  gathered-arity held ts ps nf w h f =
      let e = arity-form (below_in d) (variances_in d) (all_of ts) (listed nf) (gathered-form held ts ps nf w h f) in
      let l = acceptable-arity (variances_in d) held ts h.acceptable in
      omega arith
