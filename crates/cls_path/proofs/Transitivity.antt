-- The order of paths is reflexive and transitive, by induction on the path in the middle.
use Rattle.std.proofs.Common.{ℕ, ◌≡◌, sym, ◌∙◌}
use Rattle.cls_base.specs.Taxonomies.{Variance, contravariant, invariant}
use Rattle.cls_path.specs.Paths.{TypePath, atom, inside, unit, left, right, function, sealed, Paths, none, more, PathLe, atoms, inside_atom, insides, units, left_unit, right_unit, lefts, rights, functions, contravariants, invariants, SomeLe, here, there, PathsLe, empty, each}

contra_not_exact : (v : Variance) → v ≡ contravariant → v ≡ invariant → ⊥
contra_not_exact v a b = let e : contravariant ≡ invariant = sym a ∙ b in cc

module _ (below : ℕ → ℕ → Type 0) (variance : ℕ → Variance) (reflexive : (c : ℕ) → below c c) (transitive : (c d e : ℕ) → below c d → below d e → below c e) where
  pub widen : (n m : Paths) (p : TypePath) → PathsLe below variance n m → PathsLe below variance (more p n) m
  widen n none p h = empty
  widen n (more q m) p (each a h) = each (there a) (widen n m p h)

  -- what is below one path is below another, so what is above the one in a list is above the other
  pub above_map :
      (n : Paths) (q r : TypePath) → ((p : TypePath) → PathLe below variance p q → PathLe below variance p r)
      → SomeLe below variance n q → SomeLe below variance n r
  above_map none q r f h = elim h [ ]
  above_map (more p n) q r f (here h) = here (f p h)
  above_map (more p n) q r f (there a) = there (above_map n q r f a)

  pub covers_map :
      (n m l : Paths) → ((q : TypePath) → SomeLe below variance m q → SomeLe below variance n q)
      → PathsLe below variance m l → PathsLe below variance n l
  covers_map n m none f h = empty
  covers_map n m (more q l) f (each a h) = each (f q a) (covers_map n m l f h)

  mutual
    pub le_trans : (q p r : TypePath) → PathLe below variance p q → PathLe below variance q r → PathLe below variance p r
    le_trans (atom d) p r (atoms a) (atoms b) = atoms (transitive _ _ _ a b)
    le_trans (atom d) p r (inside_atom a) (atoms b) = inside_atom (transitive _ _ _ a b)
    le_trans (inside d q) p r (insides a h) (inside_atom b) = inside_atom (transitive _ _ _ a b)
    le_trans (inside d q) p r (insides {p = p'} a h) (insides {q = r'} b k) = insides (transitive _ _ _ a b) (le_trans q p' r' h k)
    le_trans unit p r units k = k
    le_trans unit p r left_unit units = left_unit
    le_trans unit p r right_unit units = right_unit
    le_trans (left q) p r (lefts h) left_unit = left_unit
    le_trans (left q) p r (lefts {p = p'} h) (lefts {q = r'} k) = lefts (le_trans q p' r' h k)
    le_trans (right q) p r (rights h) right_unit = right_unit
    le_trans (right q) p r (rights {p = p'} h) (rights {q = r'} k) = rights (le_trans q p' r' h k)
    le_trans (function m q) p r (functions {n = n} {p = p'} c h) (functions {m = l} {q = r'} d k) = functions (covers_map l m n (λ x a. above_trans m l x d a) c) (le_trans q p' r' h k)
    le_trans (sealed d m) p r (contravariants {n = n} v w a c) (contravariants {m = l} v' w' b e) = contravariants v w' (transitive _ _ _ a b) (covers_map l m n (λ x y. above_trans m l x e y) c)
    le_trans (sealed d m) p r (contravariants v w a c) (invariants v' w' b e f) = absurd (contra_not_exact _ w v')
    le_trans (sealed d m) p r (invariants v w a c c') (contravariants v' w' b e) = absurd (contra_not_exact _ v' w)
    le_trans (sealed d m) p r (invariants {n = n} v w a c c') (invariants {m = l} v' w' b e e') = invariants v w' (transitive _ _ _ a b) (covers_map n m l (λ x y. above_trans m n x c y) e) (covers_map l m n (λ x y. above_trans m l x e' y) c')

    pub above_trans : (m n : Paths) (r : TypePath) → PathsLe below variance n m → SomeLe below variance m r → SomeLe below variance n r
    above_trans none n r h k = elim k [ ]
    above_trans (more q m) n r (each a h) (here k) = above_map n q r (λ p j. le_trans q p r j k) a
    above_trans (more q m) n r (each a h) (there b) = above_trans m n r h b

  pub covers_trans : (n m l : Paths) → PathsLe below variance n m → PathsLe below variance m l → PathsLe below variance n l
  covers_trans n m l h k = covers_map n m l (λ q a. above_trans m n q h a) k
