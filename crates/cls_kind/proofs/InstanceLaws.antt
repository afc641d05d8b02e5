-- The instances in the list are those of the definition.
use Rattle.std.proofs.Common.{◌≡◌, ℕ, inl, inr, Bool, true, false, List, [], ◌∷◌, ◌++◌, map, refl, sym, subst, ap, ◌∙◌, arith, ◌↔◌}
use Rattle.std.specs.Prelude.{Contains, ◌==◌, ◌||◌, if◌then◌else◌}
use Rattle.std.specs.List.{list_any}
use Rattle.std.proofs.lemmas.Bool.{cases_Bool}
use Rattle.std.proofs.lemmas.Bool.Decides.{nat_tests}
use Rattle.std.proofs.lemmas.List.Elements.{Contains-push, Contains-append_left}
use Rattle.cls_base.specs.Types as types
use Rattle.cls_base.specs.Types.{ClosedType}
use Rattle.cls_base.specs.Schemas.{OpenType, omega, constructor, product, arrow, meet, variable}
use Rattle.cls_kind.specs.Instances.{instance_of, with_variables, variables_of, type_for, choices_from}
use Rattle.cls_kind.specs.Kinds.{kind_of, ranges_of, instances_of, IsInstance}
use Rattle.cls_base.proofs.Lists.{Contains-nil, Contains-here, Contains-later, Contains-cases, Contains-map, Contains-from_map, Contains-flat_map, Contains-from_flat_map}

same : (a b : ℕ) → (a == b) ≡ true → a ≡ b
same a b e = grind (arith, nat_tests)

equal : (a b : ℕ) → a ≡ b → (a == b) ≡ true
equal a b e = grind (arith, nat_tests)

differs : false ≡ true → ⊥
differs e = cc

with-in : (b : Bool) (vs : List ℕ) (v x : ℕ) → Contains vs x → Contains (if b then vs else vs ++ v ∷ []) x
with-in true vs v x c = c
with-in false vs v x c = Contains-append_left vs (v ∷ []) x c

any-held : (vs : List ℕ) (v : ℕ) → list_any (λ w. v == w) vs ≡ true → Contains vs v
any-held [] v e = absurd (differs e)
any-held (w ∷ vs) v e = elim (cases_Bool (v == w)) [
  | inl f ↦ subst (λ x. Contains (w ∷ vs) x) (sym (same v w f)) (Contains-here w vs)
  | inr f ↦ Contains-later v w vs (any-held vs v (later f e))
]
  where
    later : {x y : Bool} → x ≡ false → (x || y) ≡ true → y ≡ true
    later {x} {y} f e = subst (λ z. (z || y) ≡ true) f e

with-held : (b : Bool) (vs : List ℕ) (v : ℕ) → (b ≡ true → Contains vs v) → Contains (if b then vs else vs ++ v ∷ []) v
with-held true vs v h = h refl
with-held false vs v h = Contains-push vs v

-- what stands in the list stays
kept : (vs : List ℕ) (s : OpenType) (x : ℕ) → Contains vs x → Contains (with_variables vs s) x
kept vs omega x c = c
kept vs (constructor n s) x c = kept vs s x c
kept vs (product s t) x c = kept (with_variables vs s) t x (kept vs s x c)
kept vs (arrow s t) x c = kept (with_variables vs s) t x (kept vs s x c)
kept vs (meet s t) x c = kept (with_variables vs s) t x (kept vs s x c)
kept vs (variable v) x c = with-in (list_any (λ w. v == w) vs) vs v x c

-- functions that give the same types at the variables give the same instance
agree : (f g : ℕ → ClosedType) (vs : List ℕ) (s : OpenType) → ((v : ℕ) → Contains (with_variables vs s) v → f v ≡ g v) → instance_of f s ≡ instance_of g s
agree f g vs omega h = refl
agree f g vs (constructor n s) h = ap (types.constructor n) (agree f g vs s h)
agree f g vs (product s t) h = λ i. types.product (agree f g vs s (λ v c. h v (kept (with_variables vs s) t v c)) i) (agree f g (with_variables vs s) t h i)
agree f g vs (arrow s t) h = λ i. types.arrow (agree f g vs s (λ v c. h v (kept (with_variables vs s) t v c)) i) (agree f g (with_variables vs s) t h i)
agree f g vs (meet s t) h = λ i. types.meet (agree f g vs s (λ v c. h v (kept (with_variables vs s) t v c)) i) (agree f g (with_variables vs s) t h i)
agree f g vs (variable v) h = h v (with-held (list_any (λ w. v == w) vs) vs v (any-held vs v))

module _ (kinds : List (ℕ × List ClosedType)) where
  abbrev ranges : List ℕ → List (ℕ × List ClosedType)
  ranges vs = map (λ v. (v, kind_of kinds v)) vs

  abbrev put_first : ℕ → ClosedType → List (ℕ × ClosedType) → List (ℕ × ClosedType)
  put_first v t c = (v, t) ∷ c

  -- the type that a choice has for a variable is one of its kind
  of_kind : (vs : List ℕ) (c : List (ℕ × ClosedType)) (v : ℕ) → Contains (choices_from (ranges vs)) c → Contains vs v → Contains (kind_of kinds v) (type_for c v)
  of_kind [] c v h k = absurd (Contains-nil v k)
  of_kind (w ∷ vs) c v h k =
      let r = Contains-from_flat_map (λ t. map (put_first w t) (choices_from (ranges vs))) (kind_of kinds w) c h in
      let q = Contains-from_map (put_first w r.0) (choices_from (ranges vs)) c r.2 in
      subst (λ x. Contains (kind_of kinds v) (type_for x v)) (sym q.2) (elim (cases_Bool (v == w)) [
        | inl e ↦ rw e (subst (λ x. Contains (kind_of kinds x) r.0) (sym (same v w e)) r.1)
        | inr e ↦ rw e (of_kind vs q.0 v q.1 (elim (Contains-cases w vs v k) [ inl here ↦ absurd (differs (sym e ∙ equal v w here)) | inr there ↦ there ]))
      ])

  -- the choice that a function makes
  abbrev made : (ℕ → ClosedType) → List ℕ → List (ℕ × ClosedType)
  made f vs = map (λ v. (v, f v)) vs

  is_choice : (f : ℕ → ClosedType) (vs : List ℕ) → ((v : ℕ) → Contains vs v → Contains (kind_of kinds v) (f v)) → Contains (choices_from (ranges vs)) (made f vs)
  is_choice f [] h = Contains-here [] []
  is_choice f (v ∷ vs) h =
      Contains-flat_map (λ t. map (put_first v t) (choices_from (ranges vs))) (kind_of kinds v) (f v) (made f (v ∷ vs)) (h v (Contains-here v vs))
      (Contains-map (put_first v (f v)) (choices_from (ranges vs)) (made f vs) (is_choice f vs (λ w c. h w (Contains-later w v vs c))))

  makes : (f : ℕ → ClosedType) (vs : List ℕ) (v : ℕ) → Contains vs v → type_for (made f vs) v ≡ f v
  makes f [] v k = absurd (Contains-nil v k)
  makes f (w ∷ vs) v k = elim (cases_Bool (v == w)) [
    | inl e ↦ rw e (ap f (sym (same v w e)))
    | inr e ↦ rw e (makes f vs v (elim (Contains-cases w vs v k) [ inl here ↦ absurd (differs (sym e ∙ equal v w here)) | inr there ↦ there ]))
  ]

  pub instances-exact : (s : OpenType) (t : ClosedType) → Contains (instances_of kinds s) t ↔ IsInstance kinds s t
  instances-exact s t = (
    (λ h. let r = Contains-from_map (λ c. instance_of (type_for c) s) (choices_from (ranges_of kinds s)) t h in
        (type_for r.0, (λ v k. of_kind (variables_of s) r.0 v r.1 k), r.2)),
    (λ h. let c = made h.0 (variables_of s) in
        subst (λ x. Contains (instances_of kinds s) x) (agree (type_for c) h.0 [] s (λ v k. makes h.0 (variables_of s) v k) ∙ sym h.2)
        (Contains-map (λ c. instance_of (type_for c) s) (choices_from (ranges_of kinds s)) c (is_choice h.0 (variables_of s) h.1))),
  )
