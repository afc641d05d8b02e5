-- What a flagged set lacks of another one.
use Rattle.std.proofs.Common.{ℕ, zero, suc, ◌≡◌, ◌+◌, ◌<◌, ◌↔◌, ◌⊎◌, inl, inr, refl, sym, subst, ap, ◌∙◌, List, [], ◌∷◌, length, get_or, set, Bool, true, false, IsTrue, Option, None, Some, arith}
use Rattle.std.specs.Prelude.{Contains}
use Rattle.std.proofs.lemmas.List.{get_or-set_same, get_or-set_other, get_or_default}
use native.Mathlib.Decide.{ℕ_discrete}
use Rattle.cls_base.specs.Lists.{AreBelow}
use Rattle.cls_base.proofs.Lists.{AreBelow-at, Contains-here, Contains-later, Contains-cases}
use Rattle.cls_check.specs.Checking.{IsPartOf}
use Rattle.cls_check.specs.declared.lack.Lack.TheVariants.{One, More}
use Rattle.cls_check.specs.Layers.{flag, AreFlagged, AreSetButFor, IsLack, AllMet}

pub last_or_less : (j k : ℕ) → j < k + 1 → (j < k) ⊎ (j ≡ k)
last_or_less zero zero l = inr refl
last_or_less zero (suc k) l = inl (omega arith)
last_or_less (suc j) zero l = absurd (omega arith)
last_or_less (suc j) (suc k) l = elim (last_or_less j k (omega arith)) [ inl h ↦ inl (omega arith) | inr e ↦ inr (ap suc e) ]

-- one flag more
pub flag_set : (flags : List Bool) (p i : ℕ) → p < length flags → IsTrue (flag (set flags p true) i) ↔ (IsTrue (flag flags i) ⊎ (i ≡ p))
flag_set flags p i l = go (ℕ_discrete i p)
  where
    go : Dec (i ≡ p) → IsTrue (flag (set flags p true) i) ↔ (IsTrue (flag flags i) ⊎ (i ≡ p))
    go (yes e) = ((λ t. inr e), (λ u. subst (λ j. flag (set flags p true) j ≡ true) (sym e) (get_or-set_same flags p true false l)))
    go (no n) =
        let other : flag (set flags p true) i ≡ flag flags i = get_or-set_other flags p i true false n in
        ((λ t. inl (sym other ∙ t)), (λ u. elim u [ inl a ↦ other ∙ a | inr e ↦ absurd (n e) ]))

-- the numbers at the first k places are flagged
abbrev pub FlaggedTo : List Bool → List ℕ → ℕ → Type 0
FlaggedTo flags s k = (i : ℕ) → IsTrue (flag flags i) ↔ ((j : ℕ) × (j < k) × (get_or s j 0 ≡ i))

pub flagged_more : (flags : List Bool) (s : List ℕ) (k : ℕ) → get_or s k 0 < length flags → FlaggedTo flags s k → FlaggedTo (set flags (get_or s k 0) true) s (k + 1)
flagged_more flags s k l h i = (
  (λ t. elim ((flag_set flags (get_or s k 0) i l).0 t) [
    | inl a ↦ (let r = (h i).0 a in (r.0, (let m = r.1 in omega arith), r.2))
    | inr e ↦ (k, (omega arith), sym e)
  ]),
  (λ r. (flag_set flags (get_or s k 0) i l).1 (elim (last_or_less r.0 k r.1) [
    | inl m ↦ inl ((h i).1 (r.0, m, r.2))
    | inr e ↦ inr (sym r.2 ∙ ap (λ (j : ℕ). get_or s j 0) e)
  ])),
)

-- an element of the list by its place
place_element : (s : List ℕ) (i : ℕ) → ((j : ℕ) × (j < length s) × (get_or s j 0 ≡ i)) ↔ Contains s i
place_element s i = (
  (λ r. (r.0, r.1, get_or_default s r.0 i 0 r.1 ∙ r.2)),
  (λ c. (c.0, c.1, get_or_default s c.0 0 i c.1 ∙ c.2)),
)

pub flagged_all : (flags : List Bool) (s : List ℕ) (k : ℕ) → k ≡ length s → FlaggedTo flags s k → AreFlagged s flags
flagged_all flags s k e h i = (
  (λ t. let r = (h i).0 t in (place_element s i).0 (r.0, (let m = r.1 in omega arith), r.2)),
  (λ m. let r = (place_element s i).1 m in (h i).1 (r.0, (let n = r.1 in omega arith), r.2)),
)

-- all of the first n numbers are flagged, or all but this one, which is one of them
abbrev pub IsSoFar : List ℕ → List Bool → ℕ → Option ℕ → Type 0
IsSoFar t flags n None = (k : ℕ) → k < n → IsTrue (flag flags (get_or t k 0))
IsSoFar t flags n (Some i) = (IsTrue (flag flags i) → ⊥) × ((j : ℕ) × (j < n) × (get_or t j 0 ≡ i)) × ((k : ℕ) → k < n → IsTrue (flag flags (get_or t k 0)) ⊎ (get_or t k 0 ≡ i))

-- what holds at each place holds of each number
pub each_number : (P : ℕ → Type 0) (t : List ℕ) → ((k : ℕ) → k < length t → P (get_or t k 0)) → (j : ℕ) → Contains t j → P j
each_number P t f j c = subst P (get_or_default t c.0 0 j c.1 ∙ c.2) (f c.0 c.1)

pub number_at : (t : List ℕ) (k : ℕ) → k < length t → Contains t (get_or t k 0)
number_at t k l = (k, l, get_or_default t k (get_or t k 0) 0 l)

pub below_at : (count : ℕ) (t : List ℕ) (i : ℕ) → AreBelow count t → Contains t i → i < count
below_at count t i b c = subst (λ j. j < count) (get_or_default t c.0 0 i c.1 ∙ c.2) (AreBelow-at count t c.0 b c.1)

-- two different numbers that aren't flagged are too many
pub too_many : (flags : List Bool) (t : List ℕ) (i j : ℕ) → Contains t i → Contains t j → (IsTrue (flag flags i) → ⊥) → (IsTrue (flag flags j) → ⊥) → (i ≡ j → ⊥) → (k : ℕ) → AreSetButFor flags t k → ⊥
too_many flags t i j m n f g d k h = elim (h i m) [
  | inl a ↦ f a
  | inr a ↦ elim (h j n) [ inl b ↦ g b | inr b ↦ d (a ∙ sym b) ]
]

module _ (s : List ℕ) (flags : List Bool) (flagged : AreFlagged s flags) where
  from_first : (i j : ℕ) → Contains (i ∷ s) j → IsTrue (flag flags j) ⊎ (j ≡ i)
  from_first i j c = elim (Contains-cases i s j c) [ inl e ↦ inr e | inr m ↦ inl ((flagged j).1 m) ]

  -- what a set lacks, by the flags and by the set
  pub but_for : (t : List ℕ) (i : ℕ) → AreSetButFor flags t i ↔ IsPartOf t (i ∷ s)
  but_for t i = (
    (λ h j m. elim (h j m) [ inl a ↦ Contains-later j i s ((flagged j).0 a) | inr e ↦ subst (λ (q : ℕ). Contains (i ∷ s) q) (sym e) (Contains-here i s) ]),
    (λ h j m. from_first i j (h j m)),
  )

  pub all_set : (t : List ℕ) → ((j : ℕ) → Contains t j → IsTrue (flag flags j)) → IsPartOf t s
  all_set t h j m = (flagged j).0 (h j m)

  pub not_all : (t : List ℕ) (i : ℕ) → Contains t i → (IsTrue (flag flags i) → ⊥) → IsPartOf t s → ⊥
  not_all t i m f h = f ((flagged i).1 (h i m))

  -- if one number alone is lacking, no other one serves
  pub only_one : (t : List ℕ) (i k : ℕ) → Contains t i → (IsTrue (flag flags i) → ⊥) → IsPartOf t (k ∷ s) → i ≡ k
  only_one t i k m f h = elim (from_first k i (h i m)) [ inl a ↦ absurd (f a) | inr e ↦ e ]

-- what the first k sets of a layer meet
pub record MetTo (layer : List (List ℕ)) (s : List ℕ) (k : ℕ) (met : List Bool) : Type 0 where
  pub none : (j : ℕ) → j < k → IsPartOf (get_or layer j []) s → ⊥
  pub exactly : (i : ℕ) → IsTrue (flag met i) ↔ ((j : ℕ) × (j < k) × IsPartOf (get_or layer j []) (i ∷ s))

module _ (s : List ℕ) (flags : List Bool) (flagged : AreFlagged s flags) (layer : List (List ℕ)) (k : ℕ) (t : List ℕ) (is : t ≡ get_or layer k []) (met : List Bool) (h : MetTo layer s k met) where
  at_k : (j : ℕ) (u : List ℕ) → j ≡ k → IsPartOf (get_or layer j []) u → IsPartOf t u
  at_k j u e f = subst (λ (q : List ℕ). IsPartOf q u) (ap (λ (i : ℕ). get_or layer i []) e ∙ sym is) f

  pub met_one : (p : ℕ) → p < length met → IsLack flags t (One p) → MetTo layer s (k + 1) (set met p true)
  met_one p l lack = record {
    none = λ j m f. elim (last_or_less j k m) [ inl n ↦ h.none j n f | inr e ↦ not_all s flags flagged t p lack.1 lack.0 (at_k j s e f) ];
    exactly = λ i. (
      (λ b. elim ((flag_set met p i l).0 b) [
        | inl a ↦ (let r = (h.exactly i).0 a in (r.0, (let m = r.1 in omega arith), r.2))
        | inr e ↦ (k, (omega arith), subst (λ (q : List ℕ). IsPartOf q (i ∷ s)) is (subst (λ (x : ℕ). IsPartOf t (x ∷ s)) (sym e) ((but_for s flags flagged t p).0 lack.2)))
      ]),
      (λ r. (flag_set met p i l).1 (elim (last_or_less r.0 k r.1) [
        | inl m ↦ inl ((h.exactly i).1 (r.0, m, r.2))
        | inr e ↦ inr (sym (only_one s flags flagged t p i lack.1 lack.0 (at_k r.0 (i ∷ s) e r.2)))
      ])),
    );
  }

  pub met_more : IsLack flags t More → MetTo layer s (k + 1) met
  met_more lack = record {
    none = λ j m f. elim (last_or_less j k m) [ inl n ↦ h.none j n f | inr e ↦ lack 0 ((but_for s flags flagged t 0).1 (λ i n. Contains-later i 0 s (at_k j s e f i n))) ];
    exactly = λ i. (
      (λ b. let r = (h.exactly i).0 b in (r.0, (let m = r.1 in omega arith), r.2)),
      (λ r. elim (last_or_less r.0 k r.1) [
        | inl m ↦ (h.exactly i).1 (r.0, m, r.2)
        | inr e ↦ absurd (lack i ((but_for s flags flagged t i).1 (at_k r.0 (i ∷ s) e r.2)))
      ]),
    );
  }

-- all sets of the layer were looked at
pub met_all : (family : List ℕ) (met : List Bool) (layer : List (List ℕ)) (s : List ℕ) (k : ℕ) → k ≡ length layer → MetTo layer s k met → ((i : ℕ) → Contains family i → IsTrue (flag met i)) ↔ AllMet family layer s
met_all family met layer s k e h = (
  (λ f i b. let r = (h.exactly i).0 (f i b) in
      let low : r.0 < length layer = (let m = r.1 in omega arith) in
      (get_or layer r.0 [], (r.0, low, get_or_default layer r.0 (get_or layer r.0 []) [] low), r.2)),
  (λ f i b. let r = f i b in let c = r.1 in
      (h.exactly i).1 (c.0, (let n = c.1 in omega arith), subst (λ (q : List ℕ). IsPartOf q (i ∷ s)) (sym (get_or_default layer c.0 [] r.0 c.1 ∙ c.2)) r.2)),
)
