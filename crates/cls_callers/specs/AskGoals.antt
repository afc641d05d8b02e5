-- Goals under a root: when two are the same, and what a hasher is fed.
use Rattle.std.specs.Prelude.{◌≡◌, ◌++◌, Bool, true, false, IsTrue}
use Rattle.std.specs.Cmp.{IsPartialEquivalence, IsEquivalence, partial_equiv_from_equiv, equiv}
use Rattle.std.specs.Hash.{HashWrites}
use Rattle.std.specs.Hash as fed
use Rattle.std.proofs.Common.{refl, ap}
use Rattle.cls_callers.specs.declared.goal.AskGoal.{AskGoal}
use Rattle.cls_callers.specs.declared.goal.AskGoal.TheVariants.{Root, Of}

module _ {G : Type 0} (eq : G → G → Bool) where
  -- both are the root, or goals that are equal
  abbrev pub ask_eq : AskGoal G → AskGoal G → Bool
  ask_eq Root Root = true
  ask_eq Root (Of h) = false
  ask_eq (Of g) Root = false
  ask_eq (Of g) (Of h) = eq g h

  pub ask_exact : ((x y : G) → IsTrue (eq x y) → x ≡ y) → (x y : AskGoal G) → IsTrue (ask_eq x y) → x ≡ y
  ask_exact exact Root Root e = refl
  ask_exact exact Root (Of h) e = cc
  ask_exact exact (Of g) Root e = cc
  ask_exact exact (Of g) (Of h) e = ap Of (exact g h e)

  pub ask_reflexive : ((x : G) → eq x x ≡ true) → (x : AskGoal G) → ask_eq x x ≡ true
  ask_reflexive reflexive Root = refl
  ask_reflexive reflexive (Of g) = reflexive g

  ask_symmetric : ((x y : G) → eq x y ≡ eq y x) → (x y : AskGoal G) → ask_eq x y ≡ ask_eq y x
  ask_symmetric symmetric Root Root = refl
  ask_symmetric symmetric Root (Of h) = refl
  ask_symmetric symmetric (Of g) Root = refl
  ask_symmetric symmetric (Of g) (Of h) = symmetric g h

  ask_transitive : ((x y z : G) → eq x y ≡ true → eq y z ≡ true → eq x z ≡ true)
      → (x y z : AskGoal G) → ask_eq x y ≡ true → ask_eq y z ≡ true → ask_eq x z ≡ true
  ask_transitive transitive Root Root z e f = f
  ask_transitive transitive Root (Of h) z e f = cc
  ask_transitive transitive (Of g) Root z e f = cc
  ask_transitive transitive (Of g) (Of h) Root e f = f
  ask_transitive transitive (Of g) (Of h) (Of k) e f = transitive g h k e f

module _ {G : Type 0} {eq : G → G → Bool} where
  pub ask_partial : IsPartialEquivalence eq → IsPartialEquivalence (ask_eq eq)
  ask_partial e = record { symm = ask_symmetric eq e.symm; trans = ask_transitive eq e.trans }

  pub ask_equivalence : IsEquivalence eq → IsEquivalence (ask_eq eq)
  ask_equivalence e = equiv (ask_partial (partial_equiv_from_equiv e)) (ask_reflexive eq e.refl)

abbrev pub ask_writes : {G : Type 0} → (G → HashWrites) → AskGoal G → HashWrites
ask_writes writes Root = fed.u8 0
ask_writes writes (Of g) = fed.u8 1 ++ writes g

-- equal ones feed a hasher alike
pub ask_alike : {G : Type 0} (eq : G → G → Bool) (writes : G → HashWrites)
    → ((x y : G) → IsTrue (eq x y) → writes x ≡ writes y)
    → (x y : AskGoal G) → IsTrue (ask_eq eq x y) → ask_writes writes x ≡ ask_writes writes y
ask_alike eq writes alike Root Root e = refl
ask_alike eq writes alike Root (Of h) e = cc
ask_alike eq writes alike (Of g) Root e = cc
ask_alike eq writes alike (Of g) (Of h) e = ap (λ (w : HashWrites). fed.u8 1 ++ w) (alike g h e)
