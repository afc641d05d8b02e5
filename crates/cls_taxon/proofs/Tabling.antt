-- The places that are kept, name by name.
use Rattle.std.proofs.Common.{◌≡◌, ℕ, suc, ◌<◌, ◌≤◌, Bool, true, false, cond, ltb, List, [], ◌∷◌, ◌++◌, length, refl, sym, ap, ◌∙◌, subst, inl, inr, arith, Option, Some, None}
use Rattle.std.specs.Prelude.{◌==◌, ◌||◌}
use Rattle.std.specs.List.{list_any, IsDistinct}
use Rattle.std.specs.Cmp.{nat_eq_equiv}
use Rattle.std.specs.Option.{is_some}
use Rattle.std.proofs.lemmas.Bool.{cases_Bool, ltb-true, ltb-false, lt-ltb, le-ltb}
use Rattle.std.proofs.lemmas.Map.Keys.{IsDistinct-push}
use Rattle.cls_taxon.specs.Places.{place_of, place_in, with_name, IsSet}
use Rattle.cls_taxon.specs.DecisionLaws.{same_name, name_same}
use Rattle.cls_taxon.proofs.PlaceLaws.{place-here, place-later}

differs : false ≡ true → ⊥
differs e = cc

or-first : (x y : Bool) → x ≡ true → (x || y) ≡ false → ⊥
or-first x y f e = differs (sym (subst (λ z. (z || y) ≡ false) f e))

or-rest : (x y : Bool) → x ≡ false → (x || y) ≡ false → y ≡ false
or-rest x y f e = subst (λ z. (z || y) ≡ false) f e

some-if : (p n : ℕ) → p < n → cond (ltb p n) (Some p) None ≡ Some p
some-if p n l = ap (λ b. cond b (Some p) None) (lt-ltb p n l)

none-if : (p n : ℕ) → n ≤ p → cond (ltb p n) (Some p) None ≡ None
none-if p n l = ap (λ b. cond b (Some p) None) (le-ltb p n l)

-- a place behind the first one
abbrev next : Option ℕ → Option ℕ
next None = None
next (Some n) = Some (suc n)

place-first : (a b : ℕ) (names : List ℕ) → (a == b) ≡ true → place_in (b ∷ names) a ≡ Some 0
place-first a b names e =
    ap (λ n. cond (ltb n (suc (length names))) (Some n) None) (place-here a b names (same_name a b e)) ∙ some-if 0 (suc (length names)) (omega arith)

next-if : (p n : ℕ) → cond (ltb (suc p) (suc n)) (Some (suc p)) None ≡ next (cond (ltb p n) (Some p) None)
next-if p n = elim (cases_Bool (ltb p n)) [
  | inl h ↦ some-if (suc p) (suc n) (let l = ltb-true p n h in omega arith) ∙ sym (ap (λ t. next (cond t (Some p) None)) h)
  | inr h ↦ none-if (suc p) (suc n) (let l = ltb-false p n h in omega arith) ∙ sym (ap (λ t. next (cond t (Some p) None)) h)
]

place-next : (a b : ℕ) (names : List ℕ) → (a == b) ≡ false → place_in (b ∷ names) a ≡ next (place_in names a)
place-next a b names e =
    ap (λ n. cond (ltb n (suc (length names))) (Some n) None) (place-later a b names e) ∙ next-if (place_of names a) (length names)

some-next : (o : Option ℕ) → is_some (next o) ≡ is_some o
some-next None = refl
some-next (Some n) = refl

is-there : (names : List ℕ) (a : ℕ) → is_some (place_in names a) ≡ list_any (λ b. a == b) names
is-there [] a = ap is_some (none-if 0 0 (omega arith))
is-there (x ∷ names) a = elim (cases_Bool (a == x)) [
  | inl h ↦ ap is_some (place-first a x names h) ∙ sym (ap (λ t. t || list_any (λ b. a == b) names) h)
  | inr h ↦ ap is_some (place-next a x names h) ∙ some-next (place_in names a) ∙ is-there names a ∙ sym (ap (λ t. t || list_any (λ b. a == b) names) h)
]

-- a name that is there changes nothing
pub stays : (names : List ℕ) (a : ℕ) → is_some (place_in names a) ≡ true → names ≡ with_name names a
stays names a e = sym (ap (λ t. cond t names (names ++ a ∷ [])) (sym (is-there names a) ∙ e))

last : (names : List ℕ) (b : ℕ) → list_any (λ x. b == x) names ≡ false → place_in (names ++ b ∷ []) b ≡ Some (length names)
last [] b e = place-first b b [] (name_same b b refl)
last (x ∷ names) b e = elim (cases_Bool (b == x)) [
  | inl h ↦ absurd (or-first (b == x) (list_any (λ y. b == y) names) h e)
  | inr h ↦ place-next b x (names ++ b ∷ []) h ∙ ap next (last names b (or-rest (b == x) (list_any (λ y. b == y) names) h e))
]

others : (names : List ℕ) (a b : ℕ) → (a == b) ≡ false → place_in (names ++ b ∷ []) a ≡ place_in names a
others [] a b e = place-next a b [] e ∙ ap next (none-if 0 0 (omega arith)) ∙ sym (none-if 0 0 (omega arith))
others (x ∷ names) a b e = elim (cases_Bool (a == x)) [
  | inl h ↦ place-first a x (names ++ b ∷ []) h ∙ sym (place-first a x names h)
  | inr h ↦ place-next a x (names ++ b ∷ []) h ∙ ap next (others names a b e) ∙ sym (place-next a x names h)
]

-- A name that isn't there goes last.
absent : (names : List ℕ) (a : ℕ) → is_some (place_in names a) ≡ false → list_any (λ b. a == b) names ≡ false
absent names a e = sym (is-there names a) ∙ e

pub goes-last : (names : List ℕ) (a : ℕ) → is_some (place_in names a) ≡ false → names ++ a ∷ [] ≡ with_name names a
goes-last names a e = sym (ap (λ t. cond t names (names ++ a ∷ [])) (absent names a e))

pub distinct-last : (names : List ℕ) (a : ℕ) → place_in names a ≡ None → IsDistinct (λ a b. a == b) names → IsDistinct (λ a b. a == b) (names ++ a ∷ [])
distinct-last names a e d = IsDistinct-push nat_eq_equiv names a d (absent names a (ap is_some e))

-- once its place is set, the places of all names are kept with it
pub kept-last : (names : List ℕ) (old new : ℕ → Option ℕ) (b : ℕ) → place_in names b ≡ None → ((a : ℕ) → old a ≡ place_in names a) → IsSet old new b (length names) → (a : ℕ) → new a ≡ place_in (names ++ b ∷ []) a
kept-last names old new b e kept s a = elim (cases_Bool (a == b)) [
  | inl h ↦ s a ∙ (ap (λ t. cond t (Some (length names)) (old a)) h ∙ subst (λ (x : ℕ). Some (length names) ≡ place_in (names ++ b ∷ []) x) (sym (same_name a b h)) (sym (last names b (absent names b (ap is_some e)))))
  | inr h ↦ s a ∙ (ap (λ t. cond t (Some (length names)) (old a)) h ∙ (kept a ∙ sym (others names a b h)))
]
