-- Sets of positions at places as keys of a table, and tests that they are known to pass.
use Rattle.std.proofs.Common.{ℕ, ◌≡◌, ◌↔◌, ◌⊎◌, inl, inr, refl, sym, subst, ap, ◌∙◌, List, [], ◌∷◌, ◌++◌, Bool, true, false, IsTrue, map, cond}
use Rattle.std.specs.Prelude.{◌&&◌, ◌||◌, ◌<◌, nat_eq, Contains}
use Rattle.std.specs.Cmp.Lexicographic.{pointwise}
use Rattle.std.specs.List.{list_any}
use Rattle.std.proofs.lemmas.Bool.Decides.{Decides-eqb}
use Rattle.std.proofs.lemmas.List.{map-append}
use Rattle.std.proofs.lemmas.Slice.Eq.{slice_eq-Decides}
use Rattle.indexmap.specs.IndexSet.{insert_key}
use Rattle.cls_base.proofs.Lists.{Contains-nil, Contains-here, Contains-later, Contains-cases}
use Rattle.cls_path.specs.Paths.{TypePath}
use Rattle.cls_library.specs.Libraries.{Library, arrows_at}
use Rattle.cls_check.specs.Arguments.{argument_type}
use Rattle.cls_check.specs.Checking.{IsBlocked}
use Rattle.cls_check.specs.Goals.{IsAboveGoal, IsBelowGoal}
use Rattle.cls_check.specs.Known.{SetKey, key_of, placed}
use Rattle.cls_check.specs.Tests.{IsStopped, AreStopped, AreRight, IsSettled, AreSettled, Meets, AllMeet, AreMet}
use Rattle.cls_check.specs.contracts.known.PlacedSetPartialEq.TheImpl.{eq-value}
use Rattle.cls_check.specs.declared.findings.Findings.{Findings}
use Rattle.cls_check.specs.declared.known.PlacedSet.{PlacedSet}
use Rattle.cls_check.specs.declared.met.MetCovers.{MetCovers}
use Rattle.cls_check.specs.declared.place.Place.{Place}
use Rattle.cls_check.proofs.Keys.{same, same_place, same_itself}
use Rattle.cls_check.proofs.Lists.{Contains-last, Contains-put}
use Rattle.cls_check.proofs.Loops.{differs}

both_true : (a b : Bool) → (a && b) ≡ true → (a ≡ true) × (b ≡ true)
both_true true b e = (refl, e)
both_true false b e = absurd (differs e)

both_back : (a b : Bool) → a ≡ true → b ≡ true → (a && b) ≡ true
both_back true b e f = f
both_back false b e f = absurd (differs e)

-- the place of a key
abbrev back : SetKey → Place
back x = record { component = x.0.0; n = x.0.1 }

-- two sets are equal if and only if their keys are
same_key : (k l : PlacedSet) → eq-value.it k l ≡ true → placed k ≡ placed l
same_key k l e =
    let r = both_true (same k.place l.place) (pointwise nat_eq k.positions.items l.positions.items) e in
    let p : k.place ≡ l.place = same_place k.place l.place r.0 in
    let q : k.positions.items ≡ l.positions.items = (slice_eq-Decides Decides-eqb k.positions.items l.positions.items (pointwise nat_eq k.positions.items l.positions.items) refl).0 r.1 in
    λ i. key_of (p i) (q i)

key_same : (k l : PlacedSet) → placed k ≡ placed l → eq-value.it k l ≡ true
key_same k l e =
    let p : k.place ≡ l.place = ap back e in
    let q : k.positions.items ≡ l.positions.items = ap (λ (x : SetKey). x.1) e in
    both_back (same k.place l.place) (pointwise nat_eq k.positions.items l.positions.items)
    (subst (λ (x : Place). same k.place x ≡ true) p (same_itself k.place))
    ((slice_eq-Decides Decides-eqb k.positions.items l.positions.items (pointwise nat_eq k.positions.items l.positions.items) refl).1 q)

found : (keys : List PlacedSet) (k : PlacedSet) → list_any (eq-value.it k) keys ≡ true → Contains (map placed keys) (placed k)
found [] k e = absurd (differs e)
found (l ∷ keys) k e = go (λ h. found keys k h) (eq-value.it k l) refl e
  where
    go : (list_any (eq-value.it k) keys ≡ true → Contains (map placed keys) (placed k)) → (b : Bool) → eq-value.it k l ≡ b → (b || list_any (eq-value.it k) keys) ≡ true → Contains (map placed (l ∷ keys)) (placed k)
    go rest true f g = subst (λ (x : SetKey). Contains (map placed (l ∷ keys)) x) (sym (same_key k l f)) (Contains-here (placed l) (map placed keys))
    go rest false f g = Contains-later (placed k) (placed l) (map placed keys) (rest g)

stands : (keys : List PlacedSet) (k : PlacedSet) → Contains (map placed keys) (placed k) → list_any (eq-value.it k) keys ≡ true
stands [] k m = absurd (Contains-nil (placed k) m)
stands (l ∷ keys) k m = go (λ h. stands keys k h) (Contains-cases (placed l) (map placed keys) (placed k) m)
  where
    or_true : (b c : Bool) → c ≡ true → (b || c) ≡ true
    or_true true c e = refl
    or_true false c e = e

    go : (Contains (map placed keys) (placed k) → list_any (eq-value.it k) keys ≡ true) → (placed k ≡ placed l) ⊎ Contains (map placed keys) (placed k) → list_any (eq-value.it k) (l ∷ keys) ≡ true
    go rest (inl e) = ap (λ (b : Bool). b || list_any (eq-value.it k) keys) (key_same k l e)
    go rest (inr h) = or_true (eq-value.it k l) (list_any (eq-value.it k) keys) (rest h)

-- the keys with a set more
put_key : (keys new : List PlacedSet) (k : PlacedSet) → new ≡ insert_key eq-value.it keys k → (x : SetKey) → Contains (map placed new) x ↔ (Contains (map placed keys) x ⊎ (x ≡ placed k))
put_key keys new k e x = by (list_any (eq-value.it k) keys) refl
  where
    by : (b : Bool) → list_any (eq-value.it k) keys ≡ b → Contains (map placed new) x ↔ (Contains (map placed keys) x ⊎ (x ≡ placed k))
    by true h =
        let as_before : new ≡ keys = e ∙ ap (λ (c : Bool). cond c keys (keys ++ k ∷ [])) h in (
          (λ m. inl (subst (λ (q : List PlacedSet). Contains (map placed q) x) as_before m)),
          (λ u. subst (λ (q : List PlacedSet). Contains (map placed q) x) (sym as_before) (elim u [ inl m ↦ m | inr f ↦ subst (λ (y : SetKey). Contains (map placed keys) y) (sym f) (found keys k h) ])),
        )
    by false h =
        let longer : new ≡ keys ++ k ∷ [] = e ∙ ap (λ (c : Bool). cond c keys (keys ++ k ∷ [])) h in
        let seen : map placed new ≡ map placed keys ++ placed k ∷ [] = ap (λ (q : List PlacedSet). map placed q) longer ∙ map-append placed keys (k ∷ []) in (
          (λ m. Contains-last (map placed keys) (placed k) x (subst (λ (q : List SetKey). Contains q x) seen m)),
          (λ u. subst (λ (q : List SetKey). Contains q x) (sym seen) (Contains-put (map placed keys) (placed k) x u)),
        )

-- the same if the keys are seen under other names
pub found_as : (keys : List PlacedSet) (seen : List SetKey) → map placed keys ≡ seen → (k : PlacedSet) (key : SetKey) → placed k ≡ key → (b : Bool) → b ≡ list_any (eq-value.it k) keys → IsTrue b ↔ Contains seen key
found_as keys seen v k key q b e = (
  (λ t. subst (λ (x : List SetKey). Contains x key) v (subst (λ (x : SetKey). Contains (map placed keys) x) q (found keys k (sym e ∙ t)))),
  (λ m. e ∙ stands keys k (subst (λ (x : SetKey). Contains (map placed keys) x) (sym q) (subst (λ (x : List SetKey). Contains x key) (sym v) m))),
)

pub put_as : (keys : List PlacedSet) (seen : List SetKey) → map placed keys ≡ seen → (k : PlacedSet) (key : SetKey) → placed k ≡ key → (new : List PlacedSet) → new ≡ insert_key eq-value.it keys k → (x : SetKey) → Contains (map placed new) x ↔ (Contains seen x ⊎ (x ≡ key))
put_as keys seen v k key q new e x =
    subst (λ (y : SetKey). Contains (map placed new) x ↔ (Contains seen x ⊎ (x ≡ y))) q
    (subst (λ (ks : List SetKey). Contains (map placed new) x ↔ (Contains ks x ⊎ (x ≡ placed k))) v (put_key keys new k e x))

-- sets of which a test is known, and one more
module _ (l : Library) (goals : List (List TypePath)) (known : List SetKey) where
  pub none_settled : (p : Place) (family : List ℕ) (layer : List (List ℕ)) → known ≡ [] → AreSettled l goals p family layer known
  none_settled p family layer e s m = absurd (Contains-nil (key_of p s) (subst (λ (ks : List SetKey). Contains ks (key_of p s)) e m))

  module _ (new : List SetKey) (place : Place) (set : List ℕ) (put : (k : SetKey) → Contains new k ↔ (Contains known k ⊎ (k ≡ key_of place set))) where
    pub stopped_more : AreStopped l goals known → IsStopped l goals place set → AreStopped l goals new
    stopped_more h one p s m = elim ((put (key_of p s)).0 m) [
      | inl a ↦ h p s a
      | inr e ↦ subst (λ (k : SetKey). IsBlocked l (IsBelowGoal l goals) (arrows_at l k.0.0 k.0.1) k.0.1 k.1) (sym e) one
    ]

    pub settled_more : (family : List ℕ) (layer : List (List ℕ)) → AreSettled l goals place family layer known → IsSettled l goals place family layer set → AreSettled l goals place family layer new
    settled_more family layer h one s m = elim ((put (key_of place s)).0 m) [
      | inl a ↦ h s a
      | inr e ↦ subst (λ (t : List ℕ). IsSettled l goals place family layer t) (sym (ap (λ (k : SetKey). k.1) e)) one
    ]

    pub meets_more : AllMeet l goals known → Meets l goals place set → AllMeet l goals new
    meets_more h one p s m = elim ((put (key_of p s)).0 m) [
      | inl a ↦ h p s a
      | inr e ↦ subst (λ (k : SetKey). (i : ℕ) → i < k.0.1 → IsAboveGoal l goals (argument_type (arrows_at l k.0.0 k.0.1) k.1 i)) (sym e) one
    ]

-- what holds of the goals of a table, and of one more
pub holds_more : (P : List TypePath → Type 0) (old new : List (List TypePath)) (nf : List TypePath) → ((g : List TypePath) → Contains new g → Contains old g ⊎ (g ≡ nf)) → ((g : List TypePath) → Contains old g → P g) → P nf → (g : List TypePath) → Contains new g → P g
holds_more P old new nf put h one g m = elim (put g m) [ inl a ↦ h g a | inr e ↦ subst P (sym e) one ]

-- where nothing is known
pub none_right : (l : Library) (goals : List (List TypePath)) (a : Findings) → a.sets ≡ [] → a.below ≡ [] → a.free ≡ [] → AreRight l goals a
none_right l goals a s b f = record {
  sets = λ p t m. absurd (Contains-nil (key_of p t) (subst (λ (ks : List SetKey). Contains ks (key_of p t)) s m));
  below = λ g m. absurd (Contains-nil g (subst (λ (gs : List (List TypePath)). Contains gs g) b m));
  free = λ g m. absurd (Contains-nil g (subst (λ (gs : List (List TypePath)). Contains gs g) f m));
}

pub none_met : (l : Library) (goals : List (List TypePath)) (a : MetCovers) → a.covers ≡ [] → a.above ≡ [] → AreMet l goals a
none_met l goals a s b = record {
  covers = λ p t m. absurd (Contains-nil (key_of p t) (subst (λ (ks : List SetKey). Contains ks (key_of p t)) s m));
  above = λ g m. absurd (Contains-nil g (subst (λ (gs : List (List TypePath)). Contains gs g) b m));
}

-- what is known of covers and of arguments after some goals is right after a further one
pub met_later : (l : Library) (goals new : List (List TypePath)) (nf : List TypePath) → ((f : List TypePath) → Contains new f ↔ (Contains goals f ⊎ (f ≡ nf))) → (a : MetCovers) → AreMet l goals a → AreMet l new a
met_later l goals new nf put a h = record {
  covers = λ p s m i low. let u = h.covers p s m i low in (u.0, (put u.0).1 (inl u.1), u.2);
  above = λ g m. let u = h.above g m in (u.0, (put u.0).1 (inl u.1), u.2);
}
