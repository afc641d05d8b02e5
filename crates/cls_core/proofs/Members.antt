-- Which goals stand in a list after others were put behind it.
use Rattle.std.proofs.Common.{◌≡◌, Bool, true, false, List, [], ◌∷◌, ◌++◌, refl, sym, ap, subst, ◌⊎◌, inl, inr, if◌then◌else◌, ◌||◌}
use Rattle.std.specs.Prelude.{Contains}
use Rattle.std.specs.List.{list_any}
use Rattle.std.proofs.lemmas.List.Elements.{Contains-push, Contains-push_cases, Contains-append_left}
use Rattle.indexmap.specs.IndexSet.{insert_key, insert_all}
use Rattle.cls_base.specs.Lists.{AreDistinct}
use Rattle.cls_base.proofs.Lists.{Contains-nil, Contains-head, Contains-later, Contains-cases, AreDistinct-push}

-- goals that are put behind others, unless they are among them
module _ {G : Type 0} (eq : G → G → Bool) (exact : (x y : G) → eq x y ≡ true → x ≡ y) (reflexive : (x : G) → eq x x ≡ true) where
  pub any-contains : (gs : List G) (x : G) → list_any (eq x) gs ≡ true → Contains gs x
  any-contains [] x e = cc
  any-contains (g ∷ gs) x e = by (any-contains gs x) (eq x g) refl e
    where
      by : (list_any (eq x) gs ≡ true → Contains gs x) → (b : Bool) → eq x g ≡ b
          → (eq x g || list_any (eq x) gs) ≡ true → Contains (g ∷ gs) x
      by rest true is h = Contains-head x g gs (exact x g is)
      by rest false is h = Contains-later x g gs (rest (subst (λ b. (b || list_any (eq x) gs) ≡ true) is h))

  pub contains-any : (gs : List G) (x : G) → Contains gs x → list_any (eq x) gs ≡ true
  contains-any [] x h = absurd (Contains-nil x h)
  contains-any (g ∷ gs) x h = elim (Contains-cases g gs x h) [
    | inl e ↦ ap (λ b. b || list_any (eq x) gs) (subst (λ y. eq x y ≡ true) e (reflexive x))
    | inr k ↦ elim (eq x g) as (λ b. (b || list_any (eq x) gs) ≡ true) [ true ↦ refl | false ↦ contains-any gs x k ]
  ]

  key-distinct : (gs : List G) (x : G) → AreDistinct gs → AreDistinct (insert_key eq gs x)
  key-distinct gs x d = by (list_any (eq x) gs) refl
    where
      by : (b : Bool) → list_any (eq x) gs ≡ b → AreDistinct (if b then gs else gs ++ x ∷ [])
      by true e = d
      by false e = AreDistinct-push gs x d (λ h. let t = contains-any gs x h in cc)

  key-contains : (gs : List G) (x : G) → Contains (insert_key eq gs x) x
  key-contains gs x = by (list_any (eq x) gs) refl
    where
      by : (b : Bool) → list_any (eq x) gs ≡ b → Contains (if b then gs else gs ++ x ∷ []) x
      by true e = any-contains gs x e
      by false e = Contains-push gs x

  key-keeps : (gs : List G) (x y : G) → Contains gs y → Contains (insert_key eq gs x) y
  key-keeps gs x y h =
      elim (list_any (eq x) gs) as (λ b. Contains (if b then gs else gs ++ x ∷ []) y) [ true ↦ h | false ↦ Contains-append_left gs (x ∷ []) y h ]

  key-only : (gs : List G) (x y : G) → Contains (insert_key eq gs x) y → Contains gs y ⊎ (y ≡ x)
  key-only gs x y =
      elim (list_any (eq x) gs) as (λ b. Contains (if b then gs else gs ++ x ∷ []) y → Contains gs y ⊎ (y ≡ x)) [ true ↦ λ h. inl h | false ↦ λ h. elim (Contains-push_cases gs x y h) [ inl l ↦ inl l | inr e ↦ inr (sym e) ] ]

  pub all-distinct : (gs xs : List G) → AreDistinct gs → AreDistinct (insert_all eq gs xs)
  all-distinct gs [] d = d
  all-distinct gs (x ∷ xs) d = all-distinct (insert_key eq gs x) xs (key-distinct gs x d)

  pub all-keeps : (gs xs : List G) (y : G) → Contains gs y → Contains (insert_all eq gs xs) y
  all-keeps gs [] y h = h
  all-keeps gs (x ∷ xs) y h = all-keeps (insert_key eq gs x) xs y (key-keeps gs x y h)

  pub all-contains : (gs xs : List G) (y : G) → Contains xs y → Contains (insert_all eq gs xs) y
  all-contains gs [] y h = absurd (Contains-nil y h)
  all-contains gs (x ∷ xs) y h = elim (Contains-cases x xs y h) [
    | inl e ↦ all-keeps (insert_key eq gs x) xs y (subst (λ z. Contains (insert_key eq gs x) z) (sym e) (key-contains gs x))
    | inr k ↦ all-contains (insert_key eq gs x) xs y k
  ]

  pub all-only : (gs xs : List G) (y : G) → Contains (insert_all eq gs xs) y → Contains gs y ⊎ Contains xs y
  all-only gs [] y h = inl h
  all-only gs (x ∷ xs) y h = elim (all-only (insert_key eq gs x) xs y h) [
    | inl l ↦ elim (key-only gs x y l) [ inl a ↦ inl a | inr b ↦ inr (Contains-head y x xs b) ]
    | inr k ↦ inr (Contains-later y x xs k)
  ]
