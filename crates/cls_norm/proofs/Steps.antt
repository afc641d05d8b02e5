-- What lies behind a step in the paths of a type.
use Rattle.std.proofs.Common.{◌≡◌, refl, sym, ◌∙◌, ap, subst, ℕ, ◌+◌, ◌≤◌, ◌↔◌, ◌⊎◌, inl, inr, List, [], ◌∷◌, ◌++◌, arith, Bor}
use Rattle.std.specs.Prelude.{Some}
use Rattle.cls_base.specs.Types.{nodes}
use Rattle.cls_base.specs.Taxonomies.{Variance}
use Rattle.cls_base.specs.Ty.{type_of}
use Rattle.cls_base.specs.declared.ty.Ty.{Ty}
use Rattle.cls_path.specs.Paths.{TypePath, atom, inside, unit, left, right, function, sealed, Paths, none, more, PathLe, atoms, inside_atom, insides, units, left_unit, right_unit, lefts, rights, functions, contravariants, invariants, SomeLe, here, there, PathsLe, append, map_paths, or_one, paths_of}
use Rattle.cls_norm.specs.declared.subtypes.Step.{Step}
use Rattle.cls_norm.specs.Subtypes.{paths_of_all, nodes_of_all, IsFilled, path_behind, path_at, Adds}

-- the forms of types that paths come from
abbrev pub shape : TypePath → ℕ
shape (atom c) = 0
shape (inside c p) = 0
shape unit = 1
shape (left p) = 1
shape (right p) = 1
shape (function n p) = 2
shape (sealed c n) = 3

abbrev pub AllOf : ℕ → Paths → Type 0
AllOf k none = Unit {0}
AllOf k (more p n) = (shape p ≡ k) × AllOf k n

map_shape : (f : TypePath → TypePath) (k : ℕ) → ((p : TypePath) → shape (f p) ≡ k) → (n : Paths) → AllOf k (map_paths f n)
map_shape f k h none = tt
map_shape f k h (more p n) = (h p, map_shape f k h n)

append_shape : (k : ℕ) (n m : Paths) → AllOf k n → AllOf k m → AllOf k (append n m)
append_shape k none m h j = j
append_shape k (more p n) m h j = (h.0, append_shape k n m h.1 j)

one_shape : (k : ℕ) (p : TypePath) (n : Paths) → shape p ≡ k → AllOf k n → AllOf k (or_one p n)
one_shape k p none h j = (h, tt)
one_shape k p (more q n) h j = j

pub product_shape : (n m : Paths) → AllOf 1 (or_one unit (append (map_paths left n) (map_paths right m)))
product_shape n m = one_shape 1 unit _ refl (append_shape 1 (map_paths left n) (map_paths right m) (map_shape left 1 (λ p. refl) n) (map_shape right 1 (λ p. refl) m))

pub arrow_shape : (m n : Paths) → AllOf 2 (map_paths (function m) n)
arrow_shape m n = map_shape (function m) 2 (λ p. refl) n

pub covariant_shape : (c : ℕ) (n : Paths) → AllOf 0 (or_one (atom c) (map_paths (inside c) n))
covariant_shape c n = one_shape 0 (atom c) _ refl (map_shape (inside c) 0 (λ p. refl) n)

pub append_none : (n : Paths) → append n none ≡ n
append_none none = refl
append_none (more p n) = ap (more p) (append_none n)

module _ (below : ℕ → ℕ → Type 0) (variance : ℕ → Variance) where
  abbrev pub Above : Paths → TypePath → Type 0
  Above n q = SomeLe below variance n q

  le_shape : {p q : TypePath} → PathLe below variance p q → shape p ≡ shape q
  le_shape (atoms b) = refl
  le_shape (inside_atom b) = refl
  le_shape (insides b h) = refl
  le_shape units = refl
  le_shape left_unit = refl
  le_shape right_unit = refl
  le_shape (lefts h) = refl
  le_shape (rights h) = refl
  le_shape (functions c h) = refl
  le_shape (contravariants v w b c) = refl
  le_shape (invariants v w b c d) = refl

  pub some_shape : (k : ℕ) (n : Paths) (q : TypePath) → AllOf k n → Above n q → shape q ≡ k
  some_shape k none q s h = elim h [ ]
  some_shape k (more p n) q s (here h) = sym (le_shape h) ∙ s.0
  some_shape k (more p n) q s (there a) = some_shape k n q s.1 a

  pub from_append : (n m : Paths) (q : TypePath) → Above (append n m) q → Above n q ⊎ Above m q
  from_append none m q h = inr h
  from_append (more p n) m q (here h) = inl (here h)
  from_append (more p n) m q (there a) = elim (from_append n m q a) [ inl l ↦ inl (there l) | inr r ↦ inr r ]

  pub to_append_first : (n m : Paths) (q : TypePath) → Above n q → Above (append n m) q
  to_append_first none m q h = elim h [ ]
  to_append_first (more p n) m q (here h) = here h
  to_append_first (more p n) m q (there a) = there (to_append_first n m q a)

  pub to_append_second : (n m : Paths) (q : TypePath) → Above m q → Above (append n m) q
  to_append_second none m q h = h
  to_append_second (more p n) m q h = there (to_append_second n m q h)

  -- one path, or those that stand in its place
  from_one : (p : TypePath) (n : Paths) (q : TypePath) → Above (or_one p n) q → Above n q ⊎ PathLe below variance p q
  from_one p none q (here h) = inr h
  from_one p none q (there a) = elim a [ ]
  from_one p (more r n) q h = inl h

  to_one : (p : TypePath) (n : Paths) (q : TypePath) → Above n q → Above (or_one p n) q
  to_one p none q h = elim h [ ]
  to_one p (more r n) q h = h

  -- under a name
  from_insides : (c d : ℕ) (n : Paths) (q : TypePath) → Above (map_paths (inside c) n) (inside d q) → below c d × Above n q
  from_insides c d none q h = elim h [ ]
  from_insides c d (more p n) q (here (insides b h)) = (b, here h)
  from_insides c d (more p n) q (there a) = let r = from_insides c d n q a in (r.0, there r.1)

  to_insides : (c d : ℕ) (n : Paths) (q : TypePath) → below c d → Above n q → Above (map_paths (inside c) n) (inside d q)
  to_insides c d none q b h = elim h [ ]
  to_insides c d (more p n) q b (here h) = here (insides b h)
  to_insides c d (more p n) q b (there a) = there (to_insides c d n q b a)

  pub from_inside : (c d : ℕ) (n : Paths) (q : TypePath) → Above (or_one (atom c) (map_paths (inside c) n)) (inside d q) → below c d × Above n q
  from_inside c d n q h = elim (from_one (atom c) (map_paths (inside c) n) (inside d q) h) [ inl a ↦ from_insides c d n q a | inr l ↦ elim l [ ] ]

  pub to_inside : (c d : ℕ) (n : Paths) (q : TypePath) → below c d → Above n q → Above (or_one (atom c) (map_paths (inside c) n)) (inside d q)
  to_inside c d n q b h = to_one (atom c) (map_paths (inside c) n) (inside d q) (to_insides c d n q b h)

  from_atoms : (c d : ℕ) (n : Paths) → Above (map_paths (inside c) n) (atom d) → below c d
  from_atoms c d none h = elim h [ ]
  from_atoms c d (more p n) (here (inside_atom b)) = b
  from_atoms c d (more p n) (there a) = from_atoms c d n a

  pub from_atom : (c d : ℕ) (n : Paths) → Above (or_one (atom c) (map_paths (inside c) n)) (atom d) → below c d
  from_atom c d none (here (atoms b)) = b
  from_atom c d none (there a) = elim a [ ]
  from_atom c d (more p n) h = from_atoms c d (more p n) h

  pub to_atom : (c d : ℕ) (n : Paths) → below c d → Above (or_one (atom c) (map_paths (inside c) n)) (atom d)
  to_atom c d none b = here (atoms b)
  to_atom c d (more p n) b = here (inside_atom b)

  -- behind a source
  pub from_function : (m k n : Paths) (q : TypePath) → Above (map_paths (function m) n) (function k q) → PathsLe below variance k m × Above n q
  from_function m k none q h = elim h [ ]
  from_function m k (more p n) q (here (functions c h)) = (c, here h)
  from_function m k (more p n) q (there a) = let r = from_function m k n q a in (r.0, there r.1)

  pub to_function : (m k n : Paths) (q : TypePath) → PathsLe below variance k m → Above n q → Above (map_paths (function m) n) (function k q)
  to_function m k none q c h = elim h [ ]
  to_function m k (more p n) q c (here h) = here (functions c h)
  to_function m k (more p n) q c (there a) = there (to_function m k n q c a)

  -- on a side
  from_lefts : (n : Paths) (q : TypePath) → Above (map_paths left n) (left q) → Above n q
  from_lefts none q h = elim h [ ]
  from_lefts (more p n) q (here (lefts h)) = here h
  from_lefts (more p n) q (there a) = there (from_lefts n q a)

  to_lefts : (n : Paths) (q : TypePath) → Above n q → Above (map_paths left n) (left q)
  to_lefts none q h = elim h [ ]
  to_lefts (more p n) q (here h) = here (lefts h)
  to_lefts (more p n) q (there a) = there (to_lefts n q a)

  from_rights : (n : Paths) (q : TypePath) → Above (map_paths right n) (right q) → Above n q
  from_rights none q h = elim h [ ]
  from_rights (more p n) q (here (rights h)) = here h
  from_rights (more p n) q (there a) = there (from_rights n q a)

  to_rights : (n : Paths) (q : TypePath) → Above n q → Above (map_paths right n) (right q)
  to_rights none q h = elim h [ ]
  to_rights (more p n) q (here h) = here (rights h)
  to_rights (more p n) q (there a) = there (to_rights n q a)

  no_left_right : (n : Paths) (q : TypePath) → Above (map_paths right n) (left q) → ⊥
  no_left_right none q h = elim h [ ]
  no_left_right (more p n) q (here h) = elim h [ ]
  no_left_right (more p n) q (there a) = no_left_right n q a

  no_right_left : (n : Paths) (q : TypePath) → Above (map_paths left n) (right q) → ⊥
  no_right_left none q h = elim h [ ]
  no_right_left (more p n) q (here h) = elim h [ ]
  no_right_left (more p n) q (there a) = no_right_left n q a

  pub from_left : (n m : Paths) (q : TypePath) → Above (or_one unit (append (map_paths left n) (map_paths right m))) (left q) → Above n q
  from_left n m q h = elim (from_one unit _ (left q) h) [
    | inl a ↦ elim (from_append (map_paths left n) (map_paths right m) (left q) a) [ inl l ↦ from_lefts n q l | inr r ↦ absurd (no_left_right m q r) ]
    | inr l ↦ elim l [ ]
  ]

  pub to_left : (n m : Paths) (q : TypePath) → Above n q → Above (or_one unit (append (map_paths left n) (map_paths right m))) (left q)
  to_left n m q h = to_one unit _ (left q) (to_append_first (map_paths left n) (map_paths right m) (left q) (to_lefts n q h))

  pub from_right : (n m : Paths) (q : TypePath) → Above (or_one unit (append (map_paths left n) (map_paths right m))) (right q) → Above m q
  from_right n m q h = elim (from_one unit _ (right q) h) [
    | inl a ↦ elim (from_append (map_paths left n) (map_paths right m) (right q) a) [ inl l ↦ absurd (no_right_left n q l) | inr r ↦ from_rights m q r ]
    | inr l ↦ elim l [ ]
  ]

  pub to_right : (n m : Paths) (q : TypePath) → Above m q → Above (or_one unit (append (map_paths left n) (map_paths right m))) (right q)
  to_right n m q h = to_one unit _ (right q) (to_append_second (map_paths left n) (map_paths right m) (right q) (to_rights m q h))

  pub to_unit : (n m : Paths) → Above (or_one unit (append (map_paths left n) (map_paths right m))) unit
  to_unit none none = here units
  to_unit none (more p m) = here right_unit
  to_unit (more p n) m = here left_unit

  -- what is added
  abbrev pub A : Step → Paths → ℕ → List (Bor Ty) → List (Bor Ty) → Type 0
  A step n k old new = Adds below variance step n k old new

  pub nothing :
      (step : Step) (n : Paths) (k : ℕ) (old : List (Bor Ty))
      → ((q : TypePath) → Above n (path_behind variance step q) → ⊥)
      → ((p : TypePath) → path_at step ≡ Some p → Above n p → ⊥) → A step n k old old
  nothing step n k old f g = record {
    behind = λ q. ((λ h. inl h), (λ h. elim h [ inl a ↦ a | inr b ↦ absurd (f q b) ]));
    at = λ p e. ((λ h. inl h), (λ h. elim h [ inl a ↦ a | inr b ↦ absurd (g p e b) ]));
    small = omega arith;
  }

  all_append : (ts us : List (Bor Ty)) (q : TypePath) → Above (paths_of_all variance (ts ++ us)) q ↔ (Above (paths_of_all variance ts) q ⊎ Above (paths_of_all variance us) q)
  all_append [] us q = ((λ h. inr h), (λ h. elim h [ inl a ↦ elim a [ ] | inr b ↦ b ]))
  all_append (t ∷ ts) us q =
      let n = paths_of variance (type_of t.now) in
      let r = all_append ts us q in (
        (λ h. elim (from_append n (paths_of_all variance (ts ++ us)) q h) [
          | inl a ↦ inl (to_append_first n (paths_of_all variance ts) q a)
          | inr b ↦ elim (r.0 b) [ inl a ↦ inl (to_append_second n (paths_of_all variance ts) q a) | inr d ↦ inr d ]
        ]),
        (λ h. elim h [
          | inl a ↦ elim (from_append n (paths_of_all variance ts) q a) [
            | inl b ↦ to_append_first n (paths_of_all variance (ts ++ us)) q b
            | inr b ↦ to_append_second n (paths_of_all variance (ts ++ us)) q (r.1 (inl b))
          ]
          | inr b ↦ to_append_second n (paths_of_all variance (ts ++ us)) q (r.1 (inr b))
        ]),
      )

  filled_append : (ts : List (Bor Ty)) (t : Bor Ty) → IsFilled (ts ++ (t ∷ []))
  filled_append [] t = tt
  filled_append (u ∷ ts) t = tt

  nodes_append : (ts : List (Bor Ty)) (t : Bor Ty) → nodes_of_all (ts ++ (t ∷ [])) ≡ nodes_of_all ts + nodes (type_of t.now) + 1
  nodes_append [] t = omega arith
  nodes_append (u ∷ ts) t = let e = nodes_append ts t in omega arith

  pub one :
      (step : Step) (n : Paths) (k : ℕ) (old new : List (Bor Ty)) (t : Bor Ty) → new ≡ old ++ (t ∷ [])
      → ((q : TypePath) → Above n (path_behind variance step q) ↔ Above (paths_of variance (type_of t.now)) q)
      → ((p : TypePath) → path_at step ≡ Some p → Above n p) → nodes (type_of t.now) + 1 ≤ k → A step n k old new
  one step n k old new t e f g h = subst (λ (l : List (Bor Ty)). A step n k old l) (sym e) record {
    behind = λ q.
        let r = all_append old (t ∷ []) q in
        let s = append_none (paths_of variance (type_of t.now)) in (
          (λ a. elim (r.0 a) [ inl b ↦ inl b | inr b ↦ inr ((f q).1 (subst (λ (m : Paths). Above m q) s b)) ]),
          (λ a. elim a [ inl b ↦ r.1 (inl b) | inr b ↦ r.1 (inr (subst (λ (m : Paths). Above m q) (sym s) ((f q).0 b))) ]),
        );
    at = λ p i. ((λ a. inr (g p i)), (λ a. filled_append old t));
    small = let j = nodes_append old t in omega arith;
  }

  -- first what lies in the one list of paths, then what lies in the other
  pub both :
      (step : Step) (n m : Paths) (k l j : ℕ) (old mid new : List (Bor Ty)) → k + l ≤ j
      → A step n k old mid → A step m l mid new → A step (append n m) j old new
  both step n m k l j old mid new le a b = record {
    behind = λ q.
        let p = path_behind variance step q in (
          (λ h. elim ((b.behind q).0 h) [
            | inl x ↦ elim ((a.behind q).0 x) [ inl y ↦ inl y | inr y ↦ inr (to_append_first n m p y) ]
            | inr x ↦ inr (to_append_second n m p x)
          ]),
          (λ h. elim h [
            | inl x ↦ (b.behind q).1 (inl ((a.behind q).1 (inl x)))
            | inr x ↦ elim (from_append n m p x) [ inl y ↦ (b.behind q).1 (inl ((a.behind q).1 (inr y))) | inr y ↦ (b.behind q).1 (inr y) ]
          ]),
        );
    at = λ p e. (
      (λ h. elim ((b.at p e).0 h) [
        | inl x ↦ elim ((a.at p e).0 x) [ inl y ↦ inl y | inr y ↦ inr (to_append_first n m p y) ]
        | inr x ↦ inr (to_append_second n m p x)
      ]),
      (λ h. elim h [
        | inl x ↦ (b.at p e).1 (inl ((a.at p e).1 (inl x)))
        | inr x ↦ elim (from_append n m p x) [ inl y ↦ (b.at p e).1 (inl ((a.at p e).1 (inr y))) | inr y ↦ (b.at p e).1 (inr y) ]
      ]),
    );
    small = let x = a.small in let y = b.small in omega arith;
  }
