-- Steps of deciding by the bounds alone that there are too many terms.
use Rattle.std.proofs.Common.{◌≡◌, ℕ, zero, suc, ◌+◌, ◌-◌, ◌^◌, ◌<◌, ◌≤◌, min, List, length, refl, sym, ap, ◌∙◌, inl, inr, arith, add-one, true}
use Rattle.std.specs.Prelude.{nat_eq, nat_le, if◌then◌else◌}
use Rattle.std.proofs.lemmas.Bool.{cases_lt}
use Rattle.std.proofs.lemmas.Bool.Decides.{nat_tests}
use Rattle.cls_base.specs.declared.rule.Rule.{Rule}
use Rattle.cls_base.specs.Languages.{rules_at}
use Rattle.cls_base.specs.Pages.{Request}
use Rattle.cls_enum.specs.States.{ExceedsPool}
use Rattle.cls_walk.specs.Counts.{total_below, with_size, up_below, lo_below, all_ways, sure_ways, up_to_64}
use Rattle.cls_walk.specs.Orders.{IsOrdered}
use Rattle.cls_walk.specs.Tables.{capped, number_at}
use Rattle.cls_walk.specs.Totals.{total_made, total_held, total_due, cursor_size}
use Rattle.cls_walk.proofs.Capped.{total-same, total-step, capped-total}
use Rattle.cls_walk.proofs.Counts.{chosen, chosen_both}
use Rattle.cls_walk.proofs.Pools.{refused}
use Rattle.cls_walk.proofs.Tables.{capped-twice}

differ : (t s : ℕ) → nat_eq t s ≡ true → t < s → ⊥
differ t s p l = let e : t ≡ s = grind (arith, nat_tests) in omega (arith, e, l)

-- one more size changes nothing below it
before : (s t n : ℕ) (new : ℕ → ℕ) (count : ℕ → ℕ → ℕ) → t < s → with_size s new count t n ≡ count t n
before s t n new count l = chosen (λ (k : ℕ). k ≡ count t n) (nat_eq t s) (new n) (count t n) (λ p. absurd (differ t s p l)) (λ p. refl)

module _ (book : List (List (Rule ℕ))) (cost : ℕ → ℕ) (s : ℕ) where
  up-before : (t n : ℕ) → t < s → up_below book cost (s + 1) t n ≡ up_below book cost s t n
  up-before t n l = ap (λ (k : ℕ). up_below book cost k t n) (add-one s) ∙ before s t n (λ m. all_ways (up_below book cost s) cost s (rules_at book m)) (up_below book cost s) l

  lo-before : (t n : ℕ) → t < s → lo_below book cost (s + 1) t n ≡ lo_below book cost s t n
  lo-before t n l = ap (λ (k : ℕ). lo_below book cost k t n) (add-one s) ∙ before s t n (λ m. up_to_64 s (sure_ways (lo_below book cost s) cost s (rules_at book m))) (lo_below book cost s) l

  made-before : (width : ℕ) → total_made (lo_below book cost (s + 1)) width s ≡ total_made (lo_below book cost s) width s
  made-before width = total-same s (λ t. total_below width (λ n. lo_below book cost (s + 1) t n)) (λ t. total_below width (λ n. lo_below book cost s t n)) (λ t l.
      total-same width (λ n. lo_below book cost (s + 1) t n) (λ n. lo_below book cost s t n) (λ n m. lo-before t n l))

  due-before : (from : ℕ) → total_due (up_below book cost (s + 1)) from s ≡ total_due (up_below book cost s) from s
  due-before from = total-same s (λ t. if nat_le from t then up_below book cost (s + 1) t 0 else 0) (λ t. if nat_le from t then up_below book cost s t 0 else 0) (λ t l.
      chosen_both (λ (a b : ℕ). a ≡ b) (nat_le from t) (up_below book cost (s + 1) t 0) 0 (up_below book cost s t 0) 0 (λ p. up-before t 0 l) (λ p. refl))

  pub made-step : (width made x new : ℕ) (table : List (List ℕ)) → ((n : ℕ) → number_at table s n ≡ capped (lo_below book cost (s + 1) s n)) → made ≡ capped (total_made (lo_below book cost s) width s) → x ≡ capped (total_below width (λ n. number_at table s n)) → new ≡ capped (made + x) → new ≡ capped (total_made (lo_below book cost (s + 1)) width (s + 1))
  made-step width made x new table h p q r =
      let f : ℕ → ℕ = λ t. total_below width (λ n. lo_below book cost (s + 1) t n) in
      let e : x ≡ capped (f s) = q ∙ capped-total width (λ n. number_at table s n) (λ n. lo_below book cost (s + 1) s n) (λ n l. ap capped (h n) ∙ capped-twice (lo_below book cost (s + 1) s n)) in
      total-step s made new f (p ∙ ap capped (sym (made-before width))) (r ∙ ap (λ (k : ℕ). capped (made + k)) e)

  pub due-step : (from due x new : ℕ) (table : List (List ℕ)) → number_at table s 0 ≡ capped (up_below book cost (s + 1) s 0) → due ≡ capped (total_due (up_below book cost s) from s) → x ≡ (if nat_le from s then number_at table s 0 else 0) → new ≡ capped (due + x) → new ≡ capped (total_due (up_below book cost (s + 1)) from (s + 1))
  due-step from due x new table h p q r =
      let f : ℕ → ℕ = λ t. if nat_le from t then up_below book cost (s + 1) t 0 else 0 in
      let e : x ≡ capped (f s) = q ∙ chosen_both (λ (a b : ℕ). a ≡ capped b) (nat_le from s) (number_at table s 0) 0 (up_below book cost (s + 1) s 0) 0 (λ z. h) (λ z. omega arith) in
      total-step s due new f (p ∙ ap capped (sym (due-before from))) (r ∙ ap (λ (k : ℕ). capped (due + k)) e)

-- more sizes change nothing below them
pub up-known : (book : List (List (Rule ℕ))) (cost : ℕ → ℕ) (k s n : ℕ) → s < k → up_below book cost k s n ≡ up_below book cost (s + 1) s n
up-known book cost zero s n l = absurd (omega arith)
up-known book cost (suc j) s n l = elim (cases_lt s j) [
  | inl m ↦ before j s n (λ i. all_ways (up_below book cost j) cost j (rules_at book i)) (up_below book cost j) m ∙ up-known book cost j s n m
  | inr m ↦ let e : suc j ≡ s + 1 = omega arith in ap (λ (k : ℕ). up_below book cost k s n) e
]

few-of : (m due total take : ℕ) → due ≡ min total m → due ≤ take → take < m → total ≤ take
few-of m due total take p l k = omega arith

over-of : (m pool made x value a b : ℕ) → made ≡ min a m → x ≡ min b m → value ≡ min (made + x) m → pool < value → pool < a + b
over-of m pool made x value a b p q r l = omega arith

pub refused-here : (book : List (List (Rule ℕ))) (r : Request) → 0 < length book → ((x : ℕ) → 1 ≤ r.cost x) → IsOrdered book → (s pool made due x value : ℕ) (table : List (List ℕ)) → s ≤ r.max → number_at table s 0 ≡ capped (lo_below book r.cost (s + 1) s 0) → made ≡ capped (total_made (lo_below book r.cost s) (length book) s) → due ≡ capped (total_due (up_below book r.cost s) (cursor_size r.cost r.after) s) → due ≤ r.take → r.take < 2 ^ 32 → x ≡ number_at table s 0 → value ≡ capped (made + x) → pool < value → ExceedsPool book r pool
refused-here book r some positive ordered s pool made due x value table m h p q few small e v over =
    let cap = 2 ^ 64 - 1 in
    let a : total_due (up_below book r.cost (s + 1)) (cursor_size r.cost r.after) s ≤ r.take =
    let z = few-of cap due (total_due (up_below book r.cost s) (cursor_size r.cost r.after) s) r.take q few (omega arith) in
    omega (arith, z, due-before book r.cost s (cursor_size r.cost r.after)) in
    let b : pool < total_made (lo_below book r.cost s) (length book) s + lo_below book r.cost (s + 1) s 0 =
    over-of cap pool made x value (total_made (lo_below book r.cost s) (length book) s) (lo_below book r.cost (s + 1) s 0) p (e ∙ h) v over in
    let c : pool < total_held (lo_below book r.cost (s + 1)) (length book) s = omega (arith, b, made-before book r.cost s (length book)) in
    refused book r positive (s + 1) some ordered s (omega arith) m pool a c
