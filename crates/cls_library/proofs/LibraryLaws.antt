-- Libraries of lists of schemas.
use Rattle.std.proofs.Common.{◌≡◌, ℕ, suc, ◌+◌, ◌<◌, ◌≤◌, List, [], ◌∷◌, ◌++◌, length, map, take, drop, get_or, refl, sym, subst, ap, ◌∙◌, arith}
use Rattle.std.specs.Prelude.{All}
use Rattle.std.proofs.lemmas.List.{drop_more, map-append, take-append-drop}
use Rattle.cls_base.specs.Limits.{max_instances, max_components, max_arity, max_library_weight}
use Rattle.cls_base.specs.Types.{ClosedType, spread}
use Rattle.cls_base.specs.Schemas.{OpenType}
use Rattle.cls_base.specs.Subtyping.{reflexivity}
use Rattle.cls_path.specs.Paths.{paths_of}
use Rattle.cls_path.proofs.Uniqueness.{form_unique}
use Rattle.cls_taxon.specs.Orders.{Declared}
use Rattle.cls_taxon.specs.DecisionLaws.{is_below-reflexive, is_below-transitive, is_below-antisymmetric}
use Rattle.cls_kind.specs.declared.fault.KindFault.TheVariants as kind_faults
use Rattle.cls_kind.specs.Instances.{IsSmall, count_of}
use Rattle.cls_kind.specs.Kinds.{kind_of, ranges_of, instances_of, AreKnown}
use Rattle.cls_kind.specs.Faults.{IsFirstUnknown}
use Rattle.cls_library.specs.declared.fault.LibraryFault.{LibraryFault}
use Rattle.cls_library.specs.declared.fault.LibraryKind.{LibraryKind}
use Rattle.cls_library.specs.declared.fault.LibraryKind.TheVariants.{TooManyComponents, LibraryTooLarge, Kind, ArityTooLarge, OutOfMemory}
use Rattle.cls_library.specs.Arrows.{arity_of}
use Rattle.cls_library.specs.Libraries.{Component, Library, below_in, variances_in, total_of, all_of, weight_of, IsComponentOf, AreComponentsOf, no_components, one_component}
use Rattle.cls_library.specs.Refusals.{TakesTooManyArguments, IsTooHeavy, IsAcceptable, AreAcceptable, FirstRefused, IsAccepted, RefusesSchema, IsRefused, Adds, AreAccepted, weight_of_all, IsLibraryOf, RefusesAt}

module _ (d : Declared) (kinds : List (ℕ × List ClosedType)) where
  components-length : {ss : List OpenType} {cs : List Component} → AreComponentsOf d kinds ss cs → length cs ≡ length ss
  components-length no_components = refl
  components-length (one_component h k) = ap suc (components-length k)

  components-weight : {ss : List OpenType} {cs : List Component} → AreComponentsOf d kinds ss cs → total_of cs ≡ weight_of_all d kinds ss
  components-weight no_components = refl
  components-weight (one_component h k) = let a = h.weight in let b = components-weight k in omega arith

  components-last : {ss : List OpenType} {cs : List Component} (s : OpenType) (c : Component) → AreComponentsOf d kinds ss cs → IsComponentOf d kinds s c → AreComponentsOf d kinds (ss ++ s ∷ []) (cs ++ c ∷ [])
  components-last s c no_components h = one_component h no_components
  components-last s c (one_component k r) h = one_component k (components-last s c r h)

  accepted-last : (number weight : ℕ) (ss : List OpenType) (s : OpenType) → AreAccepted d kinds number weight ss → IsAccepted d kinds (number + length ss) (weight + weight_of_all d kinds ss) s → AreAccepted d kinds number weight (ss ++ s ∷ [])
  accepted-last number weight [] s h k = (subst (λ n. IsAccepted d kinds n weight s) (omega arith) (subst (λ w. IsAccepted d kinds (number + length {A = OpenType} []) w s) (omega arith) k), tt)
  accepted-last number weight (r ∷ ss) s h k =
      (h.0, accepted-last (number + 1) (weight + weight_of (instances_of kinds r)) ss s h.1 (subst (λ n. IsAccepted d kinds n (weight + weight_of (instances_of kinds r) + weight_of_all d kinds ss) s) (omega arith) (subst (λ w. IsAccepted d kinds (number + length (r ∷ ss)) w s) (omega arith) k)))

  pub adding : (schemas : List OpenType) (s : OpenType) (old new : Library) → IsLibraryOf d kinds schemas old → Adds d kinds s old new → IsLibraryOf d kinds (schemas ++ s ∷ []) new
  adding schemas s old new h k = record {
    taxonomy = ap (λ (l : Library). l.taxonomy) k.added ∙ h.taxonomy;
    accepted = accepted-last 0 0 schemas s h.accepted
        (subst (λ n. IsAccepted d kinds n (0 + weight_of_all d kinds schemas) s) (let e = components-length h.components in omega arith)
        (subst (λ w. IsAccepted d kinds (length old.components) w s) (let e = components-weight h.components in omega arith) k.accepted));
    components = subst (λ cs. AreComponentsOf d kinds (schemas ++ s ∷ []) cs) (sym (ap (λ (l : Library). l.components) k.added)) (components-last s k.component h.components k.of_schema);
  }

  component-unique : (s : OpenType) (b c : Component) → IsComponentOf d kinds s b → IsComponentOf d kinds s c → b ≡ c
  component-unique s b c h k =
      let t = all_of (instances_of kinds s) in
      let p : b.paths ≡ c.paths = form_unique (below_in d) (variances_in d) (is_below-reflexive d) (is_below-transitive d) (is_below-antisymmetric d) t t b.paths c.paths h.form k.form reflexivity reflexivity in
      let w : b.weight ≡ c.weight = h.weight ∙ sym k.weight in
      λ i. record { paths = p i; weight = w i }

  components-unique : {ss : List OpenType} {bs cs : List Component} → AreComponentsOf d kinds ss bs → AreComponentsOf d kinds ss cs → bs ≡ cs
  components-unique no_components no_components = refl
  components-unique (one_component {s = s} {c = b} h k) (one_component {c = c} j l) = λ i. component-unique s b c h j i ∷ components-unique k l i

  pub library-unique : (schemas : List OpenType) (l m : Library) → IsLibraryOf d kinds schemas l → IsLibraryOf d kinds schemas m → l ≡ m
  library-unique schemas l m h k =
      let t : l.taxonomy ≡ m.taxonomy = h.taxonomy ∙ sym k.taxonomy in
      let c : l.components ≡ m.components = components-unique h.components k.components in
      λ i. record { taxonomy = t i; components = c i }

  -- accepted instances aren't refused
  acceptable-at : (w : ℕ) (before after : List ClosedType) (t : ClosedType) → AreAcceptable (variances_in d) w (before ++ t ∷ after) → IsAcceptable (variances_in d) (w + weight_of before) t
  acceptable-at w [] after t h = subst (λ n. IsAcceptable (variances_in d) n t) (omega arith) h.0
  acceptable-at w (s ∷ before) after t h = subst (λ n. IsAcceptable (variances_in d) n t) (omega arith) (acceptable-at (w + (spread s + 1)) before after t h.1)

  not-first : (w : ℕ) (ts : List ClosedType) (P : ℕ → ClosedType → Type 0) → AreAcceptable (variances_in d) w ts → ((v : ℕ) (t : ClosedType) → IsAcceptable (variances_in d) v t → P v t → ⊥) → FirstRefused (variances_in d) w ts P → ⊥
  not-first w ts P h n r = n (w + weight_of r.0) r.2 (acceptable-at w r.0 r.1 r.2 (subst (λ l. AreAcceptable (variances_in d) w l) r.3 h)) r.5

  known-at : (before after : List ℕ) (v : ℕ) → All (λ w. kind_of kinds w ≡ [] → ⊥) (before ++ v ∷ after) → kind_of kinds v ≡ [] → ⊥
  known-at [] after v h = h 0 v (omega arith)
  known-at (u ∷ before) after v h = known-at before after v (λ k e l. h (suc k) e (omega arith))

  all-known : (s : OpenType) (v : ℕ) → AreKnown kinds s → IsFirstUnknown kinds s v → ⊥
  all-known s v h r = known-at r.0 r.1 v (subst (λ l. All (λ w. kind_of kinds w ≡ [] → ⊥) l) r.2 h) r.4

  not-refused : (number weight : ℕ) (s : OpenType) (kind : LibraryKind) → IsAccepted d kinds number weight s → IsRefused d kinds number weight s kind → kind ≡ OutOfMemory
  not-refused number weight s TooManyComponents h r = absurd (full h.room r)
    where
      full : number < max_components → number ≡ max_components → ⊥
      full l e = omega arith
  not-refused number weight s (Kind (kind_faults.UnknownVariable v)) h r = absurd (all-known s v.0 h.has_instances.known r.1)
  not-refused number weight s (Kind kind_faults.TooManyInstances) h r = absurd (many h.has_instances.few_choices r.1.1)
    where
      many : count_of (ranges_of kinds s) ≤ max_instances → max_instances < count_of (ranges_of kinds s) → ⊥
      many l e = omega arith
  not-refused number weight s (Kind kind_faults.InstanceTooLarge) h r = absurd (not-first weight (instances_of kinds s) (λ w t. IsSmall t → ⊥) h.acceptable (λ v t a n. n a.small) r.1.1)
  not-refused number weight s (Kind kind_faults.OutOfMemory) h r = absurd r.1
  not-refused number weight s ArityTooLarge h r = absurd (not-first weight (instances_of kinds s) (λ w t. IsSmall t × TakesTooManyArguments (variances_in d) t) h.acceptable (λ v t a n. over (arity_of (paths_of (variances_in d) t)) a.arity n.1) r.1.1)
    where
      over : (n : ℕ) → n ≤ max_arity → max_arity < n → ⊥
      over n l e = omega arith
  not-refused number weight s LibraryTooLarge h r = absurd (not-first weight (instances_of kinds s) (λ w t. IsSmall t × IsTooHeavy (variances_in d) w t) h.acceptable (λ v t a n. heavy (v + (spread t + 1)) a.light n.1.1) r.1.1)
    where
      heavy : (n : ℕ) → n ≤ max_library_weight → max_library_weight < n → ⊥
      heavy n l e = omega arith
  not-refused number weight s OutOfMemory h r = refl

  accepted-at : (number weight : ℕ) (before after : List OpenType) (s : OpenType) → AreAccepted d kinds number weight (before ++ s ∷ after) → IsAccepted d kinds (number + length before) (weight + weight_of_all d kinds before) s
  accepted-at number weight [] after s h = subst (λ n. IsAccepted d kinds n (weight + 0) s) (omega arith) (subst (λ w. IsAccepted d kinds number w s) (omega arith) h.0)
  accepted-at number weight (r ∷ before) after s h =
      subst (λ n. IsAccepted d kinds n (weight + weight_of_all d kinds (r ∷ before)) s) (omega arith)
      (subst (λ w. IsAccepted d kinds (number + 1 + length before) w s) (omega arith) (accepted-at (number + 1) (weight + weight_of (instances_of kinds r)) before after s h.1))

  pub refusal-exact :
      (schemas : List OpenType) (l : Library) (f : LibraryFault)
      → IsLibraryOf d kinds schemas l → RefusesAt d kinds schemas f → f.kind ≡ OutOfMemory
  refusal-exact schemas l f h r =
      let n = length r.before in
      let w = weight_of_all d kinds r.before in
      let all = subst (λ ss. AreAccepted d kinds 0 0 ss) r.split h.accepted in
      let a : IsAccepted d kinds (0 + n) (0 + w) r.schema = accepted-at 0 0 r.before r.after r.schema all in
      let count : 0 + n ≡ n = omega arith in
      let weight : 0 + w ≡ w = omega arith in
      not-refused n w r.schema f.kind
      (subst (λ x. IsAccepted d kinds n x r.schema) weight (subst (λ m. IsAccepted d kinds m (0 + w) r.schema) count a)) r.refused

  -- the schema that is refused behind a library of the earlier ones
  pub refuses-next : (schemas : List OpenType) (before after : List OpenType) (s : OpenType) (l : Library) (f : LibraryFault) → schemas ≡ before ++ s ∷ after → IsLibraryOf d kinds before l → f.component ≡ length l.components → IsRefused d kinds (length l.components) (total_of l.components) s f.kind → RefusesAt d kinds schemas f
  refuses-next schemas before after s l f e h n r = record {
    before = before;
    schema = s;
    after = after;
    split = e;
    accepted = h.accepted;
    number = n ∙ components-length h.components;
    refused = subst (λ w. IsRefused d kinds (length before) w s f.kind) (components-weight h.components) (subst (λ m. IsRefused d kinds m (total_of l.components) s f.kind) (components-length h.components) r);
  }

  pub refused-kind : (number weight : ℕ) (s : OpenType) (kind : LibraryKind) → number < max_components → RefusesSchema d kinds weight s kind → IsRefused d kinds number weight s kind
  refused-kind number weight s TooManyComponents l r = absurd r
  refused-kind number weight s (Kind (kind_faults.UnknownVariable v)) l r = (l, r)
  refused-kind number weight s (Kind kind_faults.TooManyInstances) l r = (l, r)
  refused-kind number weight s (Kind kind_faults.InstanceTooLarge) l r = (l, r)
  refused-kind number weight s (Kind kind_faults.OutOfMemory) l r = (l, r)
  refused-kind number weight s ArityTooLarge l r = (l, r)
  refused-kind number weight s LibraryTooLarge l r = (l, r)
  refused-kind number weight s OutOfMemory l r = (l, r)

pub library-none : (d : Declared) (kinds : List (ℕ × List ClosedType)) → IsLibraryOf d kinds [] (record { taxonomy = d; components = [] })
library-none d kinds = record { taxonomy = refl; accepted = tt; components = no_components }

-- a list at one of its places
pub map-split : {A B : Type 0} → (f : A → B) (xs : List A) (i : ℕ) (x : A) → i < length xs → x ≡ get_or xs i x → map f xs ≡ map f (take i xs) ++ f x ∷ map f (drop (i + 1) xs)
map-split f xs i x l e =
    ap (map f) (sym (take-append-drop i xs) ∙ ap (λ z. take i xs ++ z) (drop_more xs i x l ∙ ap (λ z. z ∷ drop (i + 1) xs) (sym e))) ∙ map-append f (take i xs) (x ∷ drop (i + 1) xs)
