-- Of the components of a repository one is refused, and for one reason.
use Rattle.std.proofs.Common.{◌≡◌, ℕ, suc, ◌+◌, ◌≤◌, ◌<◌, List, [], ◌∷◌, ◌++◌, length, sym, ap, ◌∙◌, subst, inl, inr, arith, All}
use Rattle.std.specs.Prelude.{codes, Some}
use Rattle.cls_base.specs.Firsts.{Cause, First, IsDetermined}
use Rattle.cls_base.specs.Limits.{max_instances, max_components, max_arity, max_library_weight}
use Rattle.cls_base.specs.Schemas.{OpenType}
use Rattle.cls_base.specs.Types.{ClosedType, spread}
use Rattle.cls_base.proofs.Firsts.{first-determined}
use Rattle.cls_kind.specs.Faults.{IsFirstUnknown}
use Rattle.cls_kind.specs.Instances.{count_of, IsSmall}
use Rattle.cls_kind.specs.Kinds.{kind_of, ranges_of, AreKnown, instances_of}
use Rattle.cls_kind.specs.declared.fault.KindFault.TheVariants as kind_faults
use Rattle.cls_library.specs.Libraries.{variances_in, weight_of}
use Rattle.cls_library.specs.Refusals.{TakesTooManyArguments, IsAcceptable, AreAcceptable, FirstRefused, IsAccepted, IsRefused, AreAccepted, weight_of_all, RefusesAt}
use Rattle.cls_library.specs.declared.fault.LibraryFault.{LibraryFault}
use Rattle.cls_library.specs.declared.fault.LibraryKind.{LibraryKind}
use Rattle.cls_library.specs.declared.fault.LibraryKind.TheVariants.{TooManyComponents, LibraryTooLarge, Kind, ArityTooLarge, OutOfMemory}
use Rattle.cls_taxon.specs.Orders.{Declared}
use Rattle.cls_syntax.proofs.OnePlace.{same, longer, shorter, compared, heads}
use Rattle.cls_repo.specs.EndFaults.{name_at, library_words}
use Rattle.cls_repo.proofs.OneFault.{said_alone, some_one, none_some}

module _ (d : Declared) (kinds : List (ℕ × List ClosedType)) (variables : List (List ℕ)) where
  -- what is wrong with an instance behind others of this weight
  abbrev instance_faults : (x : List ℕ) → (weight : ℕ) → ClosedType → List (Cause (List ℕ))
  instance_faults x w t =
      (λ u. (IsSmall t → ⊥) × (u ≡ codes "instance " ++ x))
      ∷ (λ u. TakesTooManyArguments (variances_in d) t × (u ≡ codes "arity " ++ x))
      ∷ (λ u. (max_library_weight < w + (spread t + 1)) × (u ≡ codes "library"))
      ∷ []

  instance_one : (x : List ℕ) (w : ℕ) (t : ClosedType) → IsDetermined (First (instance_faults x w t))
  instance_one x w t =
      first-determined (instance_faults x w t)
      (said_alone (IsSmall t → ⊥) (codes "instance " ++ x), (said_alone (TakesTooManyArguments (variances_in d) t) (codes "arity " ++ x), (said_alone (max_library_weight < w + (spread t + 1)) (codes "library"), tt)))

  few : (n : ℕ) → n ≤ max_arity → max_arity < n → ⊥
  few n l g = omega arith

  light : (n : ℕ) → n ≤ max_library_weight → max_library_weight < n → ⊥
  light n l g = omega arith

  sound : (x : List ℕ) (w : ℕ) (t : ClosedType) → IsAcceptable (variances_in d) w t → (u : List ℕ) → First (instance_faults x w t) u → ⊥
  sound x w t a u (inl h) = h.0 a.small
  sound x w t a u (inr (s, inl h)) = few _ a.arity h.0
  sound x w t a u (inr (s, inr (r, inl h))) = light (w + (spread t + 1)) a.light h.0
  sound x w t a u (inr (s, inr (r, inr (q, h)))) = h

  acceptable_there : (w : ℕ) (before after : List ClosedType) (t : ClosedType) → AreAcceptable (variances_in d) w (before ++ t ∷ after) → IsAcceptable (variances_in d) (w + weight_of before) t
  acceptable_there w [] after t h = subst (λ n. IsAcceptable (variances_in d) n t) (omega arith) h.0
  acceptable_there w (s ∷ before) after t h = subst (λ n. IsAcceptable (variances_in d) n t) (omega arith) (acceptable_there (w + (spread s + 1)) before after t h.1)

  -- the first instance that is refused
  abbrev Instance : (x : List ℕ) → ℕ → List ClosedType → Cause (List ℕ)
  Instance x w ts u = FirstRefused (variances_in d) w ts (λ v t. First (instance_faults x v t) u)

  all_sound : (x : List ℕ) (w : ℕ) (ts : List ClosedType) → AreAcceptable (variances_in d) w ts → (u : List ℕ) → Instance x w ts u → ⊥
  all_sound x w ts a u r =
      sound x (w + weight_of r.0) r.2 (acceptable_there w r.0 r.1 r.2 (subst (λ (us : List ClosedType). AreAcceptable (variances_in d) w us) r.3 a)) u r.5

  -- one that is accepted by another reading isn't refused
  before_other : (x : List ℕ) (w : ℕ) (ts : List ClosedType) (u : List ℕ) (r : Instance x w ts u) (others more : List ClosedType) (t : ClosedType) → AreAcceptable (variances_in d) w others → others ≡ r.0 ++ t ∷ more → r.2 ≡ t → ⊥
  before_other x w ts u r others more t a e f =
      sound x (w + weight_of r.0) r.2 (subst (λ (s : ClosedType). IsAcceptable (variances_in d) (w + weight_of r.0) s) (sym f) (acceptable_there w r.0 more t (subst (λ (us : List ClosedType). AreAcceptable (variances_in d) w us) e a))) u r.5

  instances_one : (x : List ℕ) (w : ℕ) (ts : List ClosedType) → IsDetermined (Instance x w ts)
  instances_one x w ts u v r q = elim (compared r.0 (r.2 ∷ r.1) q.0 (q.2 ∷ q.1) (sym r.3 ∙ q.3)) [
    | same e f ↦ instance_one x (w + weight_of r.0) r.2 u v r.5
        (subst (λ (t : ClosedType). First (instance_faults x (w + weight_of r.0) t) v) (sym (heads f)) (subst (λ (ss : List ClosedType). First (instance_faults x (w + weight_of ss) q.2) v) (sym e) q.5))
    | longer t us e f ↦ absurd (before_other x w ts u r q.0 us t q.4 e (heads f))
    | shorter t us e f ↦ absurd (before_other x w ts v q r.0 us t r.4 e (heads f))
  ]

  unknown_there : (before after : List ℕ) (v : ℕ) → All (λ w. kind_of kinds w ≡ [] → ⊥) (before ++ v ∷ after) → kind_of kinds v ≡ [] → ⊥
  unknown_there [] after v h = h 0 v (omega arith)
  unknown_there (u ∷ before) after v h = unknown_there before after v (λ k e l. h (suc k) e (omega arith))

  all_known : (s : OpenType) (v : ℕ) → AreKnown kinds s → IsFirstUnknown kinds s v → ⊥
  all_known s v h r = unknown_there r.0 r.1 v (subst (λ (vs : List ℕ). All (λ w. kind_of kinds w ≡ [] → ⊥) vs) r.2 h) r.4

  known_before : (s : OpenType) (v w : ℕ) (r : IsFirstUnknown kinds s v) (others more : List ℕ) → All (λ w. kind_of kinds w ≡ [] → ⊥) others → others ≡ r.0 ++ w ∷ more → v ≡ w → ⊥
  known_before s v w r others more h e f = unknown_there r.0 more w (subst (λ (vs : List ℕ). All (λ w. kind_of kinds w ≡ [] → ⊥) vs) e h) (subst (λ (n : ℕ). kind_of kinds n ≡ []) f r.4)

  unknown_one : (s : OpenType) (v w : ℕ) → IsFirstUnknown kinds s v → IsFirstUnknown kinds s w → v ≡ w
  unknown_one s v w r q = elim (compared r.0 (v ∷ r.1) q.0 (w ∷ q.1) (sym r.2 ∙ q.2)) [
    | same e f ↦ heads f
    | longer t us e f ↦ absurd (known_before s v t r q.0 us q.3 e (heads f))
    | shorter t us e f ↦ absurd (known_before s w t q r.0 us r.3 e (heads f))
  ]

  -- what is wrong with a component behind so many others of this weight
  abbrev pub component_faults : (x : List ℕ) → (number weight : ℕ) → OpenType → List (Cause (List ℕ))
  component_faults x number weight s =
      (λ u. (number ≡ max_components) × (u ≡ codes "components"))
      ∷ (λ u. (v : ℕ) × IsFirstUnknown kinds s v × (u ≡ codes "variable " ++ name_at variables v))
      ∷ (λ u. (max_instances < count_of (ranges_of kinds s)) × (u ≡ codes "instances " ++ x))
      ∷ Instance x weight (instances_of kinds s)
      ∷ []

  pub component_one : (x : List ℕ) (number weight : ℕ) (s : OpenType) → IsDetermined (First (component_faults x number weight s))
  component_one x number weight s =
      first-determined (component_faults x number weight s)
      (said_alone (number ≡ max_components) (codes "components"), (variable_one, (said_alone (max_instances < count_of (ranges_of kinds s)) (codes "instances " ++ x), (instances_one x weight (instances_of kinds s), tt))))
    where
      variable_one : IsDetermined (λ u. (v : ℕ) × IsFirstUnknown kinds s v × (u ≡ codes "variable " ++ name_at variables v))
      variable_one u v p q = p.2 ∙ (ap (λ n. codes "variable " ++ name_at variables n) (unknown_one s p.0 q.0 p.1 q.1) ∙ sym q.2)

  full : (number : ℕ) → number < max_components → number ≡ max_components → ⊥
  full number l e = omega arith

  many : (n : ℕ) → n ≤ max_instances → max_instances < n → ⊥
  many n l g = omega arith

  -- a component that is accepted
  pub accepted_sound : (x : List ℕ) (number weight : ℕ) (s : OpenType) → IsAccepted d kinds number weight s → (u : List ℕ) → First (component_faults x number weight s) u → ⊥
  accepted_sound x number weight s a u (inl h) = full number a.room h.0
  accepted_sound x number weight s a u (inr (p, inl h)) = all_known s h.0 a.has_instances.known h.1
  accepted_sound x number weight s a u (inr (p, inr (q, inl h))) = many (count_of (ranges_of kinds s)) a.has_instances.few_choices h.0
  accepted_sound x number weight s a u (inr (p, inr (q, inr (r, inl h)))) = all_sound x weight (instances_of kinds s) a.acceptable u h
  accepted_sound x number weight s a u (inr (p, inr (q, inr (r, inr (t, h))))) = h

  accepted_there : (number weight : ℕ) (before after : List OpenType) (s : OpenType) → AreAccepted d kinds number weight (before ++ s ∷ after) → IsAccepted d kinds (number + length before) (weight + weight_of_all d kinds before) s
  accepted_there number weight [] after s h = subst (λ n. IsAccepted d kinds n (weight + 0) s) (omega arith) (subst (λ w. IsAccepted d kinds number w s) (omega arith) h.0)
  accepted_there number weight (r ∷ before) after s h =
      subst (λ n. IsAccepted d kinds n (weight + weight_of_all d kinds (r ∷ before)) s) (omega arith)
      (subst (λ w. IsAccepted d kinds (number + 1 + length before) w s) (omega arith) (accepted_there (number + 1) (weight + weight_of (instances_of kinds r)) before after s h.1))

  -- the words of a refusal are those of its first cause
  pub refusal_first : (x : List ℕ) (number weight : ℕ) (s : OpenType) (kind : LibraryKind) (u : List ℕ) → IsRefused d kinds number weight s kind → library_words variables x kind ≡ Some u → First (component_faults x number weight s) u
  refusal_first x number weight s TooManyComponents u r e = inl (r, sym (some_one e))
  refusal_first x number weight s (Kind (kind_faults.UnknownVariable v)) u r e = inr ((λ t h. full number r.0 h.0), inl (v.0, r.1, sym (some_one e)))
  refusal_first x number weight s (Kind kind_faults.TooManyInstances) u r e =
      inr ((λ t h. full number r.0 h.0), inr ((λ t h. all_known s h.0 r.1.0 h.1), inl (r.1.1, sym (some_one e))))
  refusal_first x number weight s (Kind kind_faults.InstanceTooLarge) u r e =
      let f = r.1.1 in
      inr ((λ t h. full number r.0 h.0), inr ((λ t h. all_known s h.0 r.1.0.known h.1), inr ((λ t h. many (count_of (ranges_of kinds s)) r.1.0.few_choices h.0), inl (f.0, f.1, f.2, f.3, f.4, inl (f.5, sym (some_one e))))))
  refusal_first x number weight s (Kind kind_faults.OutOfMemory) u r e = absurd r.1
  refusal_first x number weight s ArityTooLarge u r e =
      let f = r.1.1 in
      inr ((λ t h. full number r.0 h.0), inr ((λ t h. all_known s h.0 r.1.0.known h.1), inr ((λ t h. many (count_of (ranges_of kinds s)) r.1.0.few_choices h.0), inl (f.0, f.1, f.2, f.3, f.4, inr ((λ t h. h.0 f.5.0), inl (f.5.1, sym (some_one e)))))))
  refusal_first x number weight s LibraryTooLarge u r e =
      let f = r.1.1 in
      inr (
        (λ t h. full number r.0 h.0),
        inr (
          (λ t h. all_known s h.0 r.1.0.known h.1),
          inr (
            (λ t h. many (count_of (ranges_of kinds s)) r.1.0.few_choices h.0),
            inl (f.0, f.1, f.2, f.3, f.4, inr ((λ t h. h.0 f.5.0), inr ((λ t h. few _ f.5.1.0 h.0), inl (f.5.1.1, sym (some_one e))))),
          ),
        ),
      )
  refusal_first x number weight s OutOfMemory u r e = absurd (none_some u e)

  module _ (schemas : List OpenType) where
    -- a component that is accepted by another reading isn't refused
    refused_before : (f : LibraryFault) (r : RefusesAt d kinds schemas f) (x u : List ℕ) → library_words variables x f.kind ≡ Some u → (others more : List OpenType) (s : OpenType) → AreAccepted d kinds 0 0 others → others ≡ r.before ++ s ∷ more → r.schema ≡ s → ⊥
    refused_before f r x u e others more s all is at =
        let there = accepted_there 0 0 r.before more s (subst (λ (ss : List OpenType). AreAccepted d kinds 0 0 ss) is all) in
        let a : IsAccepted d kinds (length r.before) (weight_of_all d kinds r.before) r.schema =
        subst (λ (t : OpenType). IsAccepted d kinds (length r.before) (weight_of_all d kinds r.before) t) (sym at)
        (subst (λ (w : ℕ). IsAccepted d kinds (length r.before) w s) (omega arith) (subst (λ (n : ℕ). IsAccepted d kinds n (0 + weight_of_all d kinds r.before) s) (omega arith) there)) in
        accepted_sound x (length r.before) (weight_of_all d kinds r.before) r.schema a u (refusal_first x (length r.before) (weight_of_all d kinds r.before) r.schema f.kind u r.refused e)

    -- two refusals with words are of one component, and have the same words
    pub refusal_one : (f g : LibraryFault) (r : RefusesAt d kinds schemas f) (q : RefusesAt d kinds schemas g) (names : List (List ℕ)) (u v : List ℕ) → library_words variables (name_at names f.component) f.kind ≡ Some u
        → library_words variables (name_at names g.component) g.kind ≡ Some v → (f.component ≡ g.component) × (u ≡ v)
    refusal_one f g r q names u v e h = elim (compared r.before (r.schema ∷ r.after) q.before (q.schema ∷ q.after) (sym r.split ∙ q.split)) [
      | same b t ↦
          (let place : f.component ≡ g.component = r.number ∙ (ap length b ∙ sym q.number) in
          let x = name_at names f.component in
          let other : First (component_faults (name_at names g.component) (length q.before) (weight_of_all d kinds q.before) q.schema) v =
          refusal_first (name_at names g.component) (length q.before) (weight_of_all d kinds q.before) q.schema g.kind v q.refused h in
          let named = subst (λ (n : ℕ). First (component_faults (name_at names n) (length q.before) (weight_of_all d kinds q.before) q.schema) v) (sym place) other in
          let moved = subst (λ (ss : List OpenType). First (component_faults x (length ss) (weight_of_all d kinds ss) q.schema) v) (sym b) named in
          let here = subst (λ (s : OpenType). First (component_faults x (length r.before) (weight_of_all d kinds r.before) s) v) (sym (heads t)) moved in
          (place, component_one x (length r.before) (weight_of_all d kinds r.before) r.schema u v (refusal_first x (length r.before) (weight_of_all d kinds r.before) r.schema f.kind u r.refused e) here))
      | longer s ss b t ↦ absurd (refused_before f r (name_at names f.component) u e q.before ss s q.accepted b (heads t))
      | shorter s ss b t ↦ absurd (refused_before g q (name_at names g.component) v h r.before ss s r.accepted b (heads t))
    ]
