-- Goals and places as keys of a table.
use Rattle.std.proofs.Common.{ℕ, ◌≡◌, ◌↔◌, ◌⊎◌, ◌==◌, ◌&&◌, ◌||◌, inl, inr, refl, sym, subst, ap, ◌∙◌, List, [], ◌∷◌, ◌++◌, Bool, true, false, IsTrue, cond, arith}
use Rattle.std.specs.Prelude.{Contains}
use Rattle.std.specs.List.{list_any}
use Rattle.std.specs.Ordering.{eq_by_cmp}
use Rattle.std.proofs.lemmas.List.Elements.{Contains-push, Contains-push_cases, Contains-append_left}
use Rattle.std.proofs.lemmas.Map.Views.{list_any-from_Contains, Contains-from_any}
use Rattle.indexmap.specs.IndexSet.{insert_key}
use Rattle.cls_base.proofs.Lists.{Contains-nil, Contains-cases}
use Rattle.cls_path.specs.Paths.{TypePath}
use Rattle.cls_path.specs.PathOrder.{list_order}
use Rattle.cls_path.specs.OrderLaws.{list_equal, list_same}
use Rattle.cls_check.specs.declared.place.Place.{Place}
use Rattle.cls_check.specs.contracts.place.PlacePartialEq.TheImpl.{eq-value}
use Rattle.cls_check.proofs.Loops.{differs}

abbrev Goal : Type 0
Goal = List TypePath

-- a goal is found if and only if it is one of the keys
found : (keys : List Goal) (g : Goal) → list_any (eq_by_cmp list_order g) keys ≡ true ↔ Contains keys g
found keys g = (Contains-from_any list_same g keys, list_any-from_Contains list_equal g keys)

-- the keys with a goal more
put_key : (keys new : List Goal) (g : Goal) → new ≡ insert_key (eq_by_cmp list_order) keys g → (k : Goal) → Contains new k ↔ (Contains keys k ⊎ (k ≡ g))
put_key keys new g e k = by (list_any (eq_by_cmp list_order g) keys) refl
  where
    by : (b : Bool) → list_any (eq_by_cmp list_order g) keys ≡ b → Contains new k ↔ (Contains keys k ⊎ (k ≡ g))
    by true h =
        let same : new ≡ keys = e ∙ ap (λ (c : Bool). cond c keys (keys ++ g ∷ [])) h in (
          (λ m. inl (subst (λ (q : List Goal). Contains q k) same m)),
          (λ u. subst (λ (q : List Goal). Contains q k) (sym same) (elim u [ inl m ↦ m | inr f ↦ subst (λ (q : Goal). Contains keys q) (sym f) ((found keys g).0 h) ])),
        )
    by false h =
        let same : new ≡ keys ++ g ∷ [] = e ∙ ap (λ (c : Bool). cond c keys (keys ++ g ∷ [])) h in (
          (λ m. elim (Contains-push_cases keys g k (subst (λ (q : List Goal). Contains q k) same m)) [ inl a ↦ inl a | inr b ↦ inr (sym b) ]),
          (λ u. subst (λ (q : List Goal). Contains q k) (sym same) (elim u [ inl m ↦ Contains-append_left keys (g ∷ []) k m | inr f ↦ subst (λ (q : Goal). Contains (keys ++ g ∷ []) q) (sym f) (Contains-push keys g) ])),
        )

-- the same if the list of keys is seen under another name
pub found_as : (keys seen : List Goal) → keys ≡ seen → (g : Goal) (b : Bool) → b ≡ list_any (eq_by_cmp list_order g) keys → IsTrue b ↔ Contains seen g
found_as keys seen v g b e = ((λ t. subst (λ (q : List Goal). Contains q g) v ((found keys g).0 (sym e ∙ t))), (λ m. e ∙ (found keys g).1 (subst (λ (q : List Goal). Contains q g) (sym v) m)))

pub put_as : (keys seen new : List Goal) → keys ≡ seen → (g : Goal) → new ≡ insert_key (eq_by_cmp list_order) keys g → (k : Goal) → Contains new k ↔ (Contains seen k ⊎ (k ≡ g))
put_as keys seen new v g e k = subst (λ (q : List Goal). Contains new k ↔ (Contains q k ⊎ (k ≡ g))) v (put_key keys new g e k)

-- places
abbrev pub same : Place → Place → Bool
same = eq-value.it

both_true : (a b c d : ℕ) → ((a == b) && (c == d)) ≡ true → (a ≡ b) × (c ≡ d)
both_true a b c d h = (grind arith, grind arith)

both_same : (a b : ℕ) → ((a == a) && (b == b)) ≡ true
both_same a b = grind arith

pub same_place : (x y : Place) → same x y ≡ true → x ≡ y
same_place x y h = let r = both_true x.component y.component x.n y.n h in λ i. record { component = r.0 i; n = r.1 i }

pub same_itself : (x : Place) → same x x ≡ true
same_itself x = both_same x.component x.n

pub place_found : (keys : List Place) (p : Place) → list_any (same p) keys ≡ true → Contains keys p
place_found keys p h = Contains-from_any same_place p keys h

or_left : (a b : Bool) → a ≡ true → (a || b) ≡ true
or_left a b e = ap (λ (c : Bool). c || b) e

or_right : (a b : Bool) → b ≡ true → (a || b) ≡ true
or_right true b e = refl
or_right false b e = e

place_stands : (keys : List Place) (p : Place) → Contains keys p → list_any (same p) keys ≡ true
place_stands [] p c = absurd (Contains-nil p c)
place_stands (q ∷ keys) p c = elim (Contains-cases q keys p c) [
  | inl e ↦ or_left (same p q) (list_any (same p) keys) (ap (same p) (sym e) ∙ same_itself p)
  | inr d ↦ or_right (same p q) (list_any (same p) keys) (place_stands keys p d)
]

pub place_missing : (keys : List Place) (p : Place) → list_any (same p) keys ≡ false → Contains keys p → ⊥
place_missing keys p e c = differs (sym e ∙ place_stands keys p c)
