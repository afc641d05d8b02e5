-- What is below by paths is below by a derivation.
use Rattle.std.proofs.Common.{ℕ}
use Rattle.cls_base.specs.Types.{ClosedType, meet}
use Rattle.cls_base.specs.Taxonomies.{Variance}
use Rattle.cls_base.specs.Subtyping.{Subtype, reflexivity, transitivity, to_omega, meet_left, meet_right, to_meet, arrows, covariants, contravariants as sub_contra, invariants as sub_inv, products}
use Rattle.cls_path.specs.Paths.{TypePath, Paths, none, more, PathLe, atoms, inside_atom, insides, units, left_unit, right_unit, lefts, rights, functions, contravariants, invariants, SomeLe, here, there, PathsLe, empty, each, type_of_path, type_of_paths, meets, Suits, SuitsAll}

module _ (below : ℕ → ℕ → Type 0) (variance : ℕ → Variance) where
  pub meets_head : (s : ClosedType) (n : Paths) → Subtype below variance (meets s n) s
  meets_head s none = reflexivity
  meets_head s (more p n) = transitivity (meets_head (meet s (type_of_path p)) n) meet_left

  -- a smaller type in front
  pub meets_mono : (s t : ClosedType) (n : Paths) → Subtype below variance s t → Subtype below variance (meets s n) (meets t n)
  meets_mono s t none h = h
  meets_mono s t (more p n) h = meets_mono (meet s (type_of_path p)) (meet t (type_of_path p)) n (to_meet (transitivity meet_left h) meet_right)

  meets_rest : (s : ClosedType) (n : Paths) → Subtype below variance (meets s n) (type_of_paths n)
  meets_rest s none = to_omega
  meets_rest s (more p n) = meets_mono (meet s (type_of_path p)) (type_of_path p) n meet_right

  pub to_meets : (r s : ClosedType) (n : Paths) → Subtype below variance r s → Subtype below variance r (type_of_paths n) → Subtype below variance r (meets s n)
  to_meets r s none h k = h
  to_meets r s (more p n) h k = to_meets r (meet s (type_of_path p)) n (to_meet h (transitivity k (meets_head (type_of_path p) n))) (transitivity k (meets_rest (type_of_path p) n))

  mutual
    pub le_sound : {p q : TypePath} → PathLe below variance p q → Suits variance p → Suits variance q → Subtype below variance (type_of_path p) (type_of_path q)
    le_sound (atoms b) s t = covariants s t b reflexivity
    le_sound (inside_atom b) s t = covariants s.0 t b to_omega
    le_sound (insides b h) s t = covariants s.0 t.0 b (le_sound h s.1 t.1)
    le_sound units s t = reflexivity
    le_sound left_unit s t = products to_omega reflexivity
    le_sound right_unit s t = products reflexivity to_omega
    le_sound (lefts h) s t = products (le_sound h s t) reflexivity
    le_sound (rights h) s t = products reflexivity (le_sound h s t)
    le_sound (functions c h) s t = arrows (covers_sound c t.0 s.0) (le_sound h s.1 t.1)
    le_sound (contravariants v w b c) s t = sub_contra v w b (covers_sound c t.1 s.1)
    le_sound (invariants v w b c d) s t = sub_inv v w b (covers_sound c s.1 t.1) (covers_sound d t.1 s.1)

    pub above_sound :
        {n : Paths} {q : TypePath} → SomeLe below variance n q → SuitsAll variance n → Suits variance q
        → Subtype below variance (type_of_paths n) (type_of_path q)
    above_sound (here {p = p} {n = n} h) s t = transitivity (meets_head (type_of_path p) n) (le_sound h s.0 t)
    above_sound (there {p = p} {n = n} a) s t = transitivity (meets_rest (type_of_path p) n) (above_sound a s.1 t)

    pub covers_sound :
        {n m : Paths} → PathsLe below variance n m → SuitsAll variance n → SuitsAll variance m
        → Subtype below variance (type_of_paths n) (type_of_paths m)
    covers_sound empty s t = to_omega
    covers_sound (each {q = q} {n = n} {m = m} a h) s t = to_meets (type_of_paths n) (type_of_path q) m (above_sound a s t.0) (covers_sound h s t.1)
