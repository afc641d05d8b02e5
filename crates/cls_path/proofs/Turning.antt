-- To be above is to be below the other way round, and so with sources of arrows.
use Rattle.std.proofs.Common.{◌≡◌, ◌∙◌, refl, sym, ℕ, Bool, true, false, IsTrue, ◌&&◌, ◌||◌}
use Rattle.std.proofs.lemmas.Bool.{false≢true}
use Rattle.cls_base.specs.Taxonomies.{Variance}
use Rattle.cls_path.specs.Paths.{TypePath, atom, inside, unit, left, right, function, sealed, Paths, none, more}
use Rattle.cls_path.specs.Tests.{some_passes, each_passes, same_paths, sealed_below, path_below, path_above, each_above, some_below, list_below}

module _ (test : ℕ → ℕ → Bool) (variance : ℕ → Variance) where
  -- the two tests agree on the path and any other, from either side
  abbrev pub Turns : TypePath → Type 0
  Turns p = (q : TypePath) → (path_above test variance p q ≡ path_below test variance q p) × (path_above test variance q p ≡ path_below test variance p q)

  abbrev EachTurns : Paths → Type 0
  EachTurns none = Unit {0}
  EachTurns (more p n) = Turns p × EachTurns n

  some_turns : (n : Paths) → EachTurns n → (q : TypePath) → some_passes (λ p. path_above test variance q p) n ≡ some_below test variance n q
  some_turns none h q = refl
  some_turns (more p n) h q = λ i. (h.0 q).1 i || some_turns n h.1 q i

  some_turned : (n : Paths) (q : TypePath) → Turns q → some_passes (λ p. path_above test variance q p) n ≡ some_below test variance n q
  some_turned none q h = refl
  some_turned (more p n) q h = λ i. (h p).0 i || some_turned n q h i

  each_turns : (m n : Paths) → EachTurns n → each_passes (λ q. some_below test variance n q) m ≡ each_above test variance m n
  each_turns none n h = refl
  each_turns (more q m) n h = λ i. sym (some_turns n h q) i && each_turns m n h i

  each_turned : (m n : Paths) → EachTurns m → each_passes (λ q. some_below test variance n q) m ≡ each_above test variance m n
  each_turned none n h = refl
  each_turned (more q m) n h = λ i. sym (some_turned n q h.0) i && each_turned m n h.1 i

  mutual
    pub turns : (p : TypePath) → Turns p
    turns (atom c) (inside d q) = (refl, refl)
    turns unit unit = (refl, refl)
    turns (inside c p) (inside d q) = (λ i. test d c && (turns p q).0 i, λ i. test c d && (turns p q).1 i)
    turns (left p) (left q) = turns p q
    turns (right p) (right q) = turns p q
    turns (function n p) (function m q) =
        (λ i. (turns p q).0 i && each_turns m n (each_turn n) i, λ i. (turns p q).1 i && each_turned n m (each_turn n) i)
    turns (sealed c n) (sealed d m) = (
      λ i. test d c && sealed_below (variance d) (same_paths m n) (each_turns m n (each_turn n) i) (sym (each_turned n m (each_turn n)) i),
      λ i. test c d && sealed_below (variance c) (same_paths n m) (each_turned n m (each_turn n) i) (sym (each_turns m n (each_turn n)) i),
    )
    turns _ _ = (refl, refl)

    each_turn : (n : Paths) → EachTurns n
    each_turn none = tt
    each_turn (more p n) = (turns p, each_turn n)

  pub each_above-list_below : (m n : Paths) → each_above test variance m n ≡ list_below test variance n m
  each_above-list_below none n = refl
  each_above-list_below (more q m) n = λ i. some_turned n q (turns q) i && each_above-list_below m n i

  pub each_passes-list_below : (n m : Paths) → each_passes (λ q. some_below test variance n q) m ≡ list_below test variance n m
  each_passes-list_below n none = refl
  each_passes-list_below n (more q m) = λ i. some_below test variance n q && each_passes-list_below n m i

  -- the test of sealed paths by the tests of their lists
  pub sealed-list_below :
      (c d : ℕ) (n m : Paths)
      → path_below test variance (sealed c n) (sealed d m) ≡ (test c d && sealed_below (variance c) (same_paths n m) (list_below test variance m n) (list_below test variance n m))
  sealed-list_below c d n m = λ i. test c d && sealed_below (variance c) (same_paths n m) (each_above-list_below n m i) (each_passes-list_below n m i)

  -- arrows are not below each other if their sources fail a test that no lists below each other fail
  pub refused_below :
      (p q : TypePath) (n m : Paths) (passes : Bool) → (IsTrue (list_below test variance m n) → IsTrue passes) → passes ≡ false
      → path_below test variance (function n p) (function m q) ≡ false
  refused_below p q n m passes f e = ends (path_below test variance p q) (each_above test variance n m) (λ h. f (sym (each_above-list_below n m) ∙ h))
    where
      ends : (x y : Bool) → (IsTrue y → IsTrue passes) → (x && y) ≡ false
      ends true true g = absurd (false≢true (sym e ∙ g refl))
      ends false y g = refl
      ends true false g = refl

  -- the tests of arrows by those of their sources, one of which is kept as a bare name
  arrow_below :
      (p q : TypePath) (n m : Paths) (sources : Bool) → list_below test variance m n ≡ sources
      → path_below test variance (function n p) (function m q) ≡ (sources && path_below test variance p q)
  arrow_below p q n m sources e =
      (λ i. path_below test variance p q && (each_above-list_below n m ∙ e) i) ∙ turned (path_below test variance p q) sources
    where
      turned : (x y : Bool) → (x && y) ≡ (y && x)
      turned true true = refl
      turned true false = refl
      turned false true = refl
      turned false false = refl

  and_true : (x : Bool) → (x && true) ≡ x
  and_true true = refl
  and_true false = refl

  pub from_arrow :
      (c : ℕ) (p q : TypePath) (m : Paths)
      → path_below test variance (function (more (atom c) none) p) (function m q) ≡ (some_below test variance m (atom c) && path_below test variance p q)
  from_arrow c p q m = arrow_below p q (more (atom c) none) m (some_below test variance m (atom c)) (and_true (some_below test variance m (atom c)))

  pub arrow_from :
      (d : ℕ) (p q : TypePath) (n : Paths)
      → path_below test variance (function n p) (function (more (atom d) none) q) ≡ (list_below test variance (more (atom d) none) n && path_below test variance p q)
  arrow_from d p q n = arrow_below p q n (more (atom d) none) (list_below test variance (more (atom d) none) n) refl
