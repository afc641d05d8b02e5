-- A draft no component of which is refused has a library.
use Rattle.std.proofs.Common.{ℕ, ◌≡◌, ◌+◌, ◌≤◌, ◌<◌, ◌⊎◌, inl, inr, refl, sym, ap, subst, ◌∙◌, arith, List, [], ◌∷◌, ◌++◌, length, Some, append_assoc, append-nil}
use Rattle.std.specs.Prelude.{All, map, slice_get}
use Rattle.std.proofs.lemmas.List.Elements.{All-push}
use Rattle.cls_base.specs.Firsts.{IsSilent}
use Rattle.cls_base.specs.Limits.{max_arity, max_components, max_instances, max_library_weight}
use Rattle.cls_base.specs.Schemas.{OpenType}
use Rattle.cls_base.specs.Types.{ClosedType, spread}
use Rattle.cls_path.specs.Paths.{paths_of}
use Rattle.cls_kind.specs.declared.fault.KindFault.TheVariants as kind_faults
use Rattle.cls_kind.specs.Faults.{IsFirstUnknown}
use Rattle.cls_kind.specs.Instances.{variables_of, count_of, IsSmall}
use Rattle.cls_kind.specs.Kinds.{kind_of, ranges_of, AreKnown, HasInstances, instances_of}
use Rattle.cls_taxon.specs.Orders.{Declared}
use Rattle.cls_library.specs.declared.fault.LibraryFault.{LibraryFault}
use Rattle.cls_library.specs.declared.fault.LibraryKind.{LibraryKind}
use Rattle.cls_library.specs.declared.fault.LibraryKind.TheVariants.{TooManyComponents, LibraryTooLarge, Kind, ArityTooLarge}
use Rattle.cls_library.specs.Arrows.{arity_of}
use Rattle.cls_library.specs.Libraries.{Library, Component, AreComponentsOf, no_components, one_component, variances_in, all_of, weight_of}
use Rattle.cls_library.specs.Refusals.{IsAcceptable, AreAcceptable, IsAccepted, RefusesSchema, IsRefused, AreAccepted, weight_of_all, IsLibraryOf, RefusesAt}
use Rattle.cls_repo.specs.Drafts as drafts
use Rattle.cls_repo.specs.Drafts.{Draft}
use Rattle.cls_repo.specs.EndFaults.{name_at, declared_in, schemas_in, library_words, refused_component}
use Rattle.cls_laws.specs.Possible.{IsPossible}
use Rattle.cls_laws.proofs.Classical.{surely, then, after, either_way}
use Rattle.cls_laws.proofs.Verdicts.{form_exists}

up_to_or_over : (n m : ℕ) → (n ≤ m) ⊎ (m < n)
up_to_or_over n m = grind arith

-- there is room for one more, or none
pub room_or : (n : ℕ) → n ≤ max_components → (n < max_components) ⊎ (n ≡ max_components)
room_or n l = grind arith

-- THE COMPONENTS
module _ (d : Declared) (kinds : List (ℕ × List ClosedType)) where
  components_exist : (ss : List OpenType) → (cs : List Component) × AreComponentsOf d kinds ss cs
  components_exist [] = ([], no_components)
  components_exist (s ∷ ss) =
      let ts = instances_of kinds s in
      let n = form_exists (record { taxonomy = d; components = [] }) (all_of ts) in
      let r = components_exist ss in
      (record { paths = n.0; weight = weight_of ts } ∷ r.0, one_component (record { form = n.1; weight = refl }) r.1)

  -- WHETHER A SCHEMA IS ACCEPTED
  -- a refusal that has words
  abbrev pub HasWords : LibraryKind → Type 0
  HasWords kind = (variables : List (List ℕ)) (x : List ℕ) → (words : List ℕ) × (library_words variables x kind ≡ Some words)

  abbrev pub HasRefusal : ℕ → OpenType → Type 0
  HasRefusal weight s = (kind : LibraryKind) × RefusesSchema d kinds weight s kind × HasWords kind × ((number : ℕ) → number < max_components → IsRefused d kinds number weight s kind)

  module _ (weight : ℕ) (s : OpenType) where
    -- the variables have kinds
    has_kind : (v : ℕ) (ts : List ClosedType) → kind_of kinds v ≡ ts → (kind_of kinds v ≡ [] → ⊥) ⊎ (kind_of kinds v ≡ [])
    has_kind v [] e = inr e
    has_kind v (t ∷ ts) e = inl (λ f. let g : t ∷ ts ≡ [] = sym e ∙ f in cc)

    abbrev Unknown : Type 0
    Unknown = (v : ℕ) × IsFirstUnknown kinds s v

    known_or : (before rest : List ℕ) → variables_of s ≡ before ++ rest → All (λ w. kind_of kinds w ≡ [] → ⊥) before → AreKnown kinds s ⊎ Unknown
    known_or before [] e all = inl (subst (λ (vs : List ℕ). All (λ w. kind_of kinds w ≡ [] → ⊥) vs) (sym (e ∙ append-nil before)) all)
    known_or before (v ∷ rest) e all = elim (has_kind v (kind_of kinds v) refl) [
      | inl some ↦ known_or (before ++ v ∷ []) rest (e ∙ sym (append_assoc before (v ∷ []) rest)) (All-push (λ w. kind_of kinds w ≡ [] → ⊥) before v all some)
      | inr none ↦ inr (v, (before, rest, e, all, none))
    ]

    -- the instances are accepted one after another
    acceptable_push : (w : ℕ) (ts : List ClosedType) (t : ClosedType) → AreAcceptable (variances_in d) w ts → IsAcceptable (variances_in d) (w + weight_of ts) t → AreAcceptable (variances_in d) w (ts ++ t ∷ [])
    acceptable_push w [] t h k = (subst (λ n. IsAcceptable (variances_in d) n t) (omega arith) k, tt)
    acceptable_push w (u ∷ ts) t h k = (h.0, acceptable_push (w + (spread u + 1)) ts t h.1 (subst (λ n. IsAcceptable (variances_in d) n t) (omega arith) k))

    module _ (has : HasInstances kinds s) where
      module _ (before rest : List ClosedType) (t : ClosedType) (split : instances_of kinds s ≡ before ++ t ∷ rest) (all : AreAcceptable (variances_in d) weight before) where
        one_light : IsSmall t → arity_of (paths_of (variances_in d) t) ≤ max_arity → ((weight + weight_of before) + (spread t + 1) ≤ max_library_weight) ⊎ (max_library_weight < (weight + weight_of before) + (spread t + 1))
            → IsAcceptable (variances_in d) (weight + weight_of before) t ⊎ HasRefusal weight s
        one_light small few (inl light) = inl (record { small = small; arity = few; light = light })
        one_light small few (inr heavy) = inr (LibraryTooLarge, (has, (before, rest, t, split, all, (small, (few, heavy)))), (λ vs x. (_, refl)), (λ n l. (l, (has, (before, rest, t, split, all, (small, (few, heavy)))))))

        one_arity : IsSmall t → (arity_of (paths_of (variances_in d) t) ≤ max_arity) ⊎ (max_arity < arity_of (paths_of (variances_in d) t)) → IsAcceptable (variances_in d) (weight + weight_of before) t ⊎ HasRefusal weight s
        one_arity small (inl few) = one_light small few (up_to_or_over ((weight + weight_of before) + (spread t + 1)) max_library_weight)
        one_arity small (inr many) = inr (ArityTooLarge, (has, (before, rest, t, split, all, (small, many))), (λ vs x. (_, refl)), (λ n l. (l, (has, (before, rest, t, split, all, (small, many))))))

        one_by : IsSmall t ⊎ (IsSmall t → ⊥) → IsAcceptable (variances_in d) (weight + weight_of before) t ⊎ HasRefusal weight s
        one_by (inl small) = one_arity small (up_to_or_over (arity_of (paths_of (variances_in d) t)) max_arity)
        one_by (inr large) = inr (Kind kind_faults.InstanceTooLarge, (has, (before, rest, t, split, all, large)), (λ vs x. (_, refl)), (λ n l. (l, (has, (before, rest, t, split, all, large)))))

      abbrev AllOr : Type 0
      AllOr = AreAcceptable (variances_in d) weight (instances_of kinds s) ⊎ HasRefusal weight s

      instances_or : (before rest : List ClosedType) → instances_of kinds s ≡ before ++ rest → AreAcceptable (variances_in d) weight before → IsPossible AllOr
      instances_or before [] e all = surely (inl (subst (AreAcceptable (variances_in d) weight) (sym (e ∙ append-nil before)) all))
      instances_or before (t ∷ rest) e all =
          then (either_way (IsSmall t)) (λ u.
          elim (one_by before rest t e all u) [
            | inl ok ↦ instances_or (before ++ t ∷ []) rest (e ∙ sym (append_assoc before (t ∷ []) rest)) (acceptable_push weight before t all ok)
            | inr bad ↦ surely (inr bad)
          ])

    abbrev AcceptedOr : ℕ → Type 0
    AcceptedOr number = IsAccepted d kinds number weight s ⊎ HasRefusal weight s

    accepted_with : (number : ℕ) → number < max_components → (has : HasInstances kinds s) → AllOr has → AcceptedOr number
    accepted_with number room has (inl all) = inl (record { room = room; has_instances = has; acceptable = all })
    accepted_with number room has (inr bad) = inr bad

    choices_or : (number : ℕ) → number < max_components → AreKnown kinds s → (count_of (ranges_of kinds s) ≤ max_instances) ⊎ (max_instances < count_of (ranges_of kinds s)) → IsPossible (AcceptedOr number)
    choices_or number room known (inl few) =
        let has : HasInstances kinds s = record { known = known; few_choices = few } in
        after (instances_or has [] (instances_of kinds s) refl tt) (accepted_with number room has)
    choices_or number room known (inr many) = surely (inr (Kind kind_faults.TooManyInstances, (known, many), (λ vs x. (_, refl)), (λ n l. (l, (known, many)))))

    schema_or : (number : ℕ) → number < max_components → AreKnown kinds s ⊎ Unknown → IsPossible (AcceptedOr number)
    schema_or number room (inl known) = choices_or number room known (up_to_or_over (count_of (ranges_of kinds s)) max_instances)
    schema_or number room (inr (v, unknown)) = surely (inr (Kind (kind_faults.UnknownVariable (record { 0 = v })), unknown, (λ vs x. (_, refl)), (λ n l. (l, unknown))))

    pub accepted_or_refused : (number : ℕ) → number < max_components → IsPossible (AcceptedOr number)
    accepted_or_refused number room = schema_or number room (known_or [] (variables_of s) refl (λ k e h. absurd (omega arith)))

  -- SCHEMA AFTER SCHEMA
  accepted_push : (number weight : ℕ) (ss : List OpenType) (s : OpenType) → AreAccepted d kinds number weight ss → IsAccepted d kinds (number + length ss) (weight + weight_of_all d kinds ss) s → AreAccepted d kinds number weight (ss ++ s ∷ [])
  accepted_push number weight [] s h k = (subst (λ n. IsAccepted d kinds number n s) (omega arith) (subst (λ n. IsAccepted d kinds n (weight + 0) s) (omega arith) k), tt)
  accepted_push number weight (u ∷ ss) s h k = (
    h.0,
    accepted_push (number + 1) (weight + weight_of (instances_of kinds u)) ss s h.1
        (subst (λ n. IsAccepted d kinds ((number + 1) + length ss) n s) (omega arith) (subst (λ n. IsAccepted d kinds n (weight + weight_of_all d kinds (u ∷ ss)) s) (omega arith) k)),
  )

  from_nothing : (ss : List OpenType) (s : OpenType) → IsAccepted d kinds (length ss) (weight_of_all d kinds ss) s → IsAccepted d kinds (0 + length ss) (0 + weight_of_all d kinds ss) s
  from_nothing ss s k =
      let a : length ss ≡ 0 + length ss = omega arith in
      let b : weight_of_all d kinds ss ≡ 0 + weight_of_all d kinds ss = omega arith in
      subst (λ n. IsAccepted d kinds (0 + length ss) n s) b (subst (λ n. IsAccepted d kinds n (weight_of_all d kinds ss) s) a k)

  few_schemas : (number weight : ℕ) (ss : List OpenType) → number ≤ max_components → AreAccepted d kinds number weight ss → number + length ss ≤ max_components
  few_schemas number weight [] few a = omega arith
  few_schemas number weight (s ∷ ss) few a =
      let room = a.0.room in
      let rest = few_schemas (number + 1) (weight + weight_of (instances_of kinds s)) ss (omega arith) a.1 in
      omega arith

  module _ (ss : List OpenType) where
    -- the first schema that is refused, with words
    abbrev IsRefusedAt : Type 0
    IsRefusedAt = (f : LibraryFault) × RefusesAt d kinds ss f × HasWords f.kind

    refused_at : (before rest : List OpenType) (s : OpenType) → ss ≡ before ++ s ∷ rest → AreAccepted d kinds 0 0 before → (kind : LibraryKind) → IsRefused d kinds (length before) (weight_of_all d kinds before) s kind → HasWords kind → IsRefusedAt
    refused_at before rest s e all kind refused words =
        (record { component = length before; kind = kind }, record { before = before; schema = s; after = rest; split = e; accepted = all; number = refl; refused = refused }, words)

    all_or : (before rest : List OpenType) → ss ≡ before ++ rest → AreAccepted d kinds 0 0 before → IsPossible (AreAccepted d kinds 0 0 ss ⊎ IsRefusedAt)
    all_or before [] e all = surely (inl (subst (AreAccepted d kinds 0 0) (sym (e ∙ append-nil before)) all))
    all_or before (s ∷ rest) e all =
        elim (room_or (length before) (let f = few_schemas 0 0 before (omega arith) all in omega arith)) [
          | inl room ↦
              then (accepted_or_refused (weight_of_all d kinds before) s (length before) room) (λ u.
              elim u [
                | inl ok ↦ all_or (before ++ s ∷ []) rest (e ∙ sym (append_assoc before (s ∷ []) rest)) (accepted_push 0 0 before s all (from_nothing before s ok))
                | inr bad ↦ surely (inr (refused_at before rest s e all bad.0 (bad.3 (length before) room) bad.2))
              ])
          | inr full ↦ surely (inr (refused_at before rest s e all TooManyComponents full (λ vs x. (_, refl))))
        ]

-- THE LIBRARY OF A DRAFT
module _ (d : Draft) (silent : IsSilent (refused_component d)) where
  component_at : (cs : List drafts.Component) (before after : List OpenType) (s : OpenType) → map (λ c. c.schema) cs ≡ before ++ s ∷ after → (c : drafts.Component) × (slice_get cs (length before) ≡ Some c)
  component_at [] [] after s e = absurd (cc)
  component_at [] (b ∷ before) after s e = absurd (cc)
  component_at (c ∷ cs) [] after s e = (c, refl)
  component_at (c ∷ cs) (b ∷ before) after s e = component_at cs before after s (let f : map (λ c. c.schema) cs ≡ before ++ s ∷ after = cc in f)

  not_refused : IsRefusedAt (declared_in d) d.kinds (schemas_in d) → ⊥
  not_refused (f, r, words) =
      let c = component_at d.components r.before r.after r.schema r.split in
      let at : slice_get d.components f.component ≡ Some c.0 = ap (slice_get d.components) r.number ∙ c.1 in
      let w = words d.variables (name_at d.component_names f.component) in
      silent (c.0.line, w.0) (f, c.0, r, at, refl, w.1)

  abbrev pub HasLibrary : Type 0
  HasLibrary = (l : Library) × IsLibraryOf (declared_in d) d.kinds (schemas_in d) l

  library_by : AreAccepted (declared_in d) d.kinds 0 0 (schemas_in d) ⊎ IsRefusedAt (declared_in d) d.kinds (schemas_in d) → HasLibrary
  library_by (inl all) =
      let cs = components_exist (declared_in d) d.kinds (schemas_in d) in
      (record { taxonomy = declared_in d; components = cs.0 }, record { taxonomy = refl; accepted = all; components = cs.1 })
  library_by (inr bad) = absurd (not_refused bad)

  pub library_exists : IsPossible HasLibrary
  library_exists = after (all_or (declared_in d) d.kinds (schemas_in d) [] (schemas_in d) refl tt) library_by
