-- A table of capped numbers serves as the table of the numbers themselves.
use Rattle.std.proofs.Common.{◌≡◌, ℕ, zero, suc, ◌+◌, ◌-◌, ◌*◌, ◌^◌, ◌<◌, ◌≤◌, min, max, List, [], ◌∷◌, ◌++◌, length, refl, sym, ap, ◌∙◌, subst, inl, inr, arith, add-one, Bool, true, false}
use Rattle.std.specs.Prelude.{slice_index, slice_index_or, nat_eq, nat_le, nat_lt, ◌&&◌}
use Rattle.std.proofs.lemmas.Bool.{cases_lt}
use Rattle.std.proofs.lemmas.Bool.Decides.{nat_tests}
use Rattle.cls_base.specs.declared.rule.Rule.{Rule}
use Rattle.cls_base.specs.declared.rule.Rule.TheVariants.{Head, Any}
use Rattle.cls_base.specs.Languages.{rules_at}
use Rattle.cls_walk.specs.Counts.{HeadRule, ways, head_ways, head_ways_if, pair_ways, all_ways, run, runs, greatest, sure_ways, heads_of, pairs_of, with_size, up_to_64, up_below, lo_below}
use Rattle.cls_walk.specs.Tables.{capped, number_at, Holds}
use Rattle.cls_walk.proofs.Capped.{capped-times, capped-total}
use Rattle.cls_walk.proofs.Counts.{chosen, chosen_both}

min-both_max : (m a b c d : ℕ) → min a m ≡ min b m → min c m ≡ min d m → min (max a c) m ≡ min (max b d) m
min-both_max m a b c d p q = omega arith

min-both_plus : (m a b c d : ℕ) → min a m ≡ min b m → min c m ≡ min d m → min (a + c) m ≡ min (b + d) m
min-both_plus m a b c d p q = omega arith

pub capped-twice : (a : ℕ) → capped (capped a) ≡ capped a
capped-twice a = twice (2 ^ 64 - 1) a
  where
    twice : (m a : ℕ) → min (min a m) m ≡ min a m
    twice m a = omega arith

abbrev Alike : ℕ → ℕ → Type 0
Alike a b = capped a ≡ capped b

alike-max : (a b c d : ℕ) → Alike a b → Alike c d → Alike (max a c) (max b d)
alike-max a b c d p q = min-both_max (2 ^ 64 - 1) a b c d p q

alike-plus : (a b c d : ℕ) → Alike a b → Alike c d → Alike (a + c) (b + d)
alike-plus a b c d p q = min-both_plus (2 ^ 64 - 1) a b c d p q

alike-times : (a b c d : ℕ) → Alike a b → Alike c d → Alike (a * c) (b * d)
alike-times a b c d p q = sym (capped-times a c) ∙ (λ i. capped (p i * q i)) ∙ capped-times b d

run-alike : (f g : HeadRule → ℕ) → ((h : HeadRule) → Alike (f h) (g h)) → (x k b c : ℕ) (hs : List HeadRule) → Alike b c → Alike (run f x k b hs) (run g x k c hs)
run-alike f g e x k b c [] p = p
run-alike f g e x k b c (h ∷ hs) p = chosen_both Alike (nat_eq x h.0 && nat_eq k (length h.1))
    (run f x k (max b (f h)) hs) (b + run f h.0 (length h.1) (f h) hs)
    (run g x k (max c (g h)) hs) (c + run g h.0 (length h.1) (g h) hs)
    (λ q. run-alike f g e x k (max b (f h)) (max c (g h)) hs (alike-max b c (f h) (g h) p (e h)))
    (λ q. alike-plus b c (run f h.0 (length h.1) (f h) hs) (run g h.0 (length h.1) (g h) hs) p (run-alike f g e h.0 (length h.1) (f h) (g h) hs (e h)))

greatest-alike : (f g : ℕ × ℕ → ℕ) → ((p : ℕ × ℕ) → Alike (f p) (g p)) → (ps : List (ℕ × ℕ)) → Alike (greatest f ps) (greatest g ps)
greatest-alike f g e [] = refl
greatest-alike f g e (p ∷ ps) = alike-max (f p) (g p) (greatest f ps) (greatest g ps) (e p) (greatest-alike f g e ps)

module _ (f g : ℕ → ℕ → ℕ) (same : (t n : ℕ) → Alike (f t n) (g t n)) (cost : ℕ → ℕ) (s : ℕ) where
  ways-alike : (ns : List ℕ) (rest : ℕ) → Alike (ways f ns rest) (ways g ns rest)
  ways-alike [] rest = refl
  ways-alike (n ∷ ns) rest = capped-total (rest + 1) (λ t. f t n * ways f ns (rest - t)) (λ t. g t n * ways g ns (rest - t)) (λ t l.
      alike-times (f t n) (g t n) (ways f ns (rest - t)) (ways g ns (rest - t)) (same t n) (ways-alike ns (rest - t)))

  head-alike : (h : HeadRule) → Alike (head_ways f cost s h) (head_ways g cost s h)
  head-alike h = chosen_both Alike (nat_le (cost h.0) s) (ways f h.1 (s - cost h.0)) 0 (ways g h.1 (s - cost h.0)) 0 (λ p. ways-alike h.1 (s - cost h.0)) (λ p. refl)

  head_if-alike : (alone : Bool) (h : HeadRule) → Alike (head_ways_if f cost s alone h) (head_ways_if g cost s alone h)
  head_if-alike alone h = chosen_both Alike (alone && nat_lt 0 (length h.1)) 0 (head_ways f cost s h) 0 (head_ways g cost s h) (λ p. refl) (λ p. head-alike h)

  pair-alike : (p : ℕ × ℕ) → Alike (pair_ways f s p) (pair_ways g s p)
  pair-alike p = capped-total s (λ t. f t p.0 * ways f (p.1 ∷ []) (s - t)) (λ t. g t p.0 * ways g (p.1 ∷ []) (s - t)) (λ t l.
      alike-times (f t p.0) (g t p.0) (ways f (p.1 ∷ []) (s - t)) (ways g (p.1 ∷ []) (s - t)) (same t p.0) (ways-alike (p.1 ∷ []) (s - t)))

  all-alike : (rs : List (Rule ℕ)) → Alike (all_ways f cost s rs) (all_ways g cost s rs)
  all-alike [] = refl
  all-alike (Head x ns ∷ rs) = alike-plus (head_ways f cost s (x, ns)) (head_ways g cost s (x, ns)) (all_ways f cost s rs) (all_ways g cost s rs) (head-alike (x, ns)) (all-alike rs)
  all-alike (Any l m ∷ rs) = alike-plus (pair_ways f s (l, m)) (pair_ways g s (l, m)) (all_ways f cost s rs) (all_ways g cost s rs) (pair-alike (l, m)) (all-alike rs)

  runs-alike : (alone : Bool) (hs : List HeadRule) → Alike (runs (head_ways_if f cost s alone) hs) (runs (head_ways_if g cost s alone) hs)
  runs-alike alone hs = run-alike (head_ways_if f cost s alone) (head_ways_if g cost s alone) (head_if-alike alone) 0 0 0 0 hs refl

  sure-alike : (rs : List (Rule ℕ)) → Alike (up_to_64 s (sure_ways f cost s rs)) (up_to_64 s (sure_ways g cost s rs))
  sure-alike rs = chosen_both Alike (nat_le s 64) (sure_ways f cost s rs) 0 (sure_ways g cost s rs) 0
      (λ p. alike-max (runs (head_ways_if f cost s false) (heads_of rs)) (runs (head_ways_if g cost s false) (heads_of rs))
      (runs (head_ways_if f cost s true) (heads_of rs) + greatest (pair_ways f s) (pairs_of rs)) (runs (head_ways_if g cost s true) (heads_of rs) + greatest (pair_ways g s) (pairs_of rs))
      (runs-alike false (heads_of rs))
      (alike-plus (runs (head_ways_if f cost s true) (heads_of rs)) (runs (head_ways_if g cost s true) (heads_of rs)) (greatest (pair_ways f s) (pairs_of rs)) (greatest (pair_ways g s) (pairs_of rs))
      (runs-alike true (heads_of rs)) (greatest-alike (pair_ways f s) (pair_ways g s) pair-alike (pairs_of rs))))
      (λ p. refl)

list-push : (xs : List (List ℕ)) (x : List ℕ) (i : ℕ) → i < length xs → slice_index_or (xs ++ x ∷ []) i [] ≡ slice_index_or xs i []
list-push [] x i l = absurd (omega arith)
list-push (y ∷ xs) x zero l = refl
list-push (y ∷ xs) x (suc i) l = list-push xs x i (omega arith)

list-last : (xs : List (List ℕ)) (x : List ℕ) (i : ℕ) → length xs ≡ i → slice_index_or (xs ++ x ∷ []) i [] ≡ x
list-last [] x zero l = refl
list-last [] x (suc i) l = absurd (omega arith)
list-last (y ∷ xs) x zero l = absurd (omega arith)
list-last (y ∷ xs) x (suc i) l = list-last xs x i (omega arith)

list-past : (xs : List (List ℕ)) (i n : ℕ) → length xs ≤ i → number_at xs i n ≡ 0
list-past [] zero n l = refl
list-past [] (suc i) n l = refl
list-past (y ∷ xs) zero n l = absurd (omega arith)
list-past (y ∷ xs) (suc i) n l = list-past xs i n (omega arith)

length-column : (xs : List (List ℕ)) (x : List ℕ) → length (xs ++ x ∷ []) ≡ length xs + 1
length-column [] x = omega arith
length-column (y ∷ xs) x = omega (arith, length-column xs x)

-- one more size
holds-push : (count : ℕ → ℕ → ℕ) (s : ℕ) (table : List (List ℕ)) (column : List ℕ) (new : ℕ → ℕ) → Holds count s table → ((n : ℕ) → slice_index column n ≡ capped (new n)) → Holds (with_size s new count) (suc s) (table ++ column ∷ [])
holds-push count s table column new h c = (
  omega (arith, h.0, length-column table column),
  (λ t n. chosen (λ (k : ℕ). number_at (table ++ column ∷ []) t n ≡ capped k) (nat_eq t s) (new n) (count t n)
      (λ p.
      let e : length table ≡ t = let z : t ≡ s = grind (arith, nat_tests) in omega (arith, z, h.0) in
      ap (λ (xs : List ℕ). slice_index xs n) (list-last table column t e) ∙ c n)
      (λ p.
      let d : t ≡ s → ⊥ = λ z. differ t s p z in
      elim (cases_lt t (length table)) [
        | inl l ↦ ap (λ (xs : List ℕ). slice_index xs n) (list-push table column t l) ∙ h.1 t n
        | inr l ↦ list-past (table ++ column ∷ []) t n (past t s (length table) (length (table ++ column ∷ [])) d l h.0 (length-column table column)) ∙ sym (list-past table t n l) ∙ h.1 t n
      ])),
)
  where
    differ : (t s : ℕ) → nat_eq t s ≡ false → t ≡ s → ⊥
    differ t s p z = grind (arith, nat_tests)

    past : (t s k m : ℕ) → (t ≡ s → ⊥) → k ≤ t → k ≡ s → m ≡ k + 1 → m ≤ t
    past t s k m d l p q = elim (cases_lt k t) [ inl z ↦ omega arith | inr z ↦ absurd (d (omega arith)) ]

module _ (book : List (List (Rule ℕ))) (cost : ℕ → ℕ) (s : ℕ) (table : List (List ℕ)) (column : List ℕ) where
  pub up-holds : Holds (up_below book cost s) s table → ((n : ℕ) → slice_index column n ≡ capped (all_ways (number_at table) cost s (rules_at book n))) → Holds (up_below book cost (s + 1)) (s + 1) (table ++ column ∷ [])
  up-holds h c =
      let P : ℕ → Type 0 = λ k. Holds (up_below book cost k) k (table ++ column ∷ []) in
      subst P (sym (add-one s)) (holds-push (up_below book cost s) s table column (λ n. all_ways (up_below book cost s) cost s (rules_at book n)) h (λ n.
      c n ∙ all-alike (number_at table) (up_below book cost s) (λ t m. ap capped (h.1 t m) ∙ capped-twice (up_below book cost s t m)) cost s (rules_at book n)))

  pub lo-holds : Holds (lo_below book cost s) s table → ((n : ℕ) → slice_index column n ≡ capped (up_to_64 s (sure_ways (number_at table) cost s (rules_at book n)))) → Holds (lo_below book cost (s + 1)) (s + 1) (table ++ column ∷ [])
  lo-holds h c =
      let P : ℕ → Type 0 = λ k. Holds (lo_below book cost k) k (table ++ column ∷ []) in
      subst P (sym (add-one s)) (holds-push (lo_below book cost s) s table column (λ n. up_to_64 s (sure_ways (lo_below book cost s) cost s (rules_at book n))) h (λ n.
      c n ∙ sure-alike (number_at table) (lo_below book cost s) (λ t m. ap capped (h.1 t m) ∙ capped-twice (lo_below book cost s t m)) cost s (rules_at book n)))
