-- Steps of making the column of one size.
use Rattle.std.proofs.Common.{◌≡◌, ℕ, ◌+◌, ◌-◌, ◌<◌, ◌≤◌, List, [], ◌∷◌, ◌++◌, length, take, refl, sym, ap, ◌∙◌, subst, inl, inr, arith}
use Rattle.std.specs.Prelude.{Some, slice_get, slice_index, nat_le}
use Rattle.std.proofs.lemmas.Bool.Decides.{nat_tests}
use Rattle.std.proofs.lemmas.Bool.{cases_lt}
use Rattle.std.proofs.lemmas.List.{take_more, get_or_past}
use Rattle.std.proofs.lemmas.Option.{get_or_from_slice_get, slice_get_within}
use Rattle.cls_base.specs.declared.rule.Rule.{Rule}
use Rattle.cls_base.specs.declared.rule.Rule.TheVariants.{Head, Any}
use Rattle.cls_base.specs.Languages.{rules_at}
use Rattle.cls_walk.specs.Counts.{ways, head_ways, rule_ways, all_ways}
use Rattle.cls_walk.specs.Tables.{capped}
use Rattle.cls_walk.proofs.Capped.{capped-plus, get-push, get-last}
use Rattle.cls_walk.proofs.Counts.{chosen}

all_ways-push : (count : ℕ → ℕ → ℕ) (cost : ℕ → ℕ) (s : ℕ) (rs : List (Rule ℕ)) (r : Rule ℕ) → all_ways count cost s (rs ++ r ∷ []) ≡ all_ways count cost s rs + rule_ways count cost s r
all_ways-push count cost s [] r = omega arith
all_ways-push count cost s (q ∷ rs) r = omega (arith, all_ways-push count cost s rs r)

-- the rules up to the next one
pub rules-next : (rs : List (Rule ℕ)) (i : ℕ) (r : Rule ℕ) → slice_get rs i ≡ Some r → take (i + 1) rs ≡ take i rs ++ r ∷ []
rules-next rs i r p = take_more rs i r (slice_get_within rs i r p) ∙ ap (λ (q : Rule ℕ). take i rs ++ q ∷ []) (get_or_from_slice_get rs i r r p)

pub all_ways-step : (count : ℕ → ℕ → ℕ) (cost : ℕ → ℕ) (s : ℕ) (rs : List (Rule ℕ)) (i : ℕ) (r : Rule ℕ) (total x new : ℕ) → slice_get rs i ≡ Some r → total ≡ capped (all_ways count cost s ((take i rs))) → x ≡ capped (rule_ways count cost s (r)) → new ≡ capped (total + x) → new ≡ capped (all_ways count cost s ((take (i + 1) rs)))
all_ways-step count cost s rs i r total x new p h k q =
    q
    ∙ (λ j. capped (h j + k j))
    ∙ capped-plus (all_ways count cost s ((take i rs))) (rule_ways count cost s (r))
    ∙ ap capped (sym (all_ways-push count cost s ((take i rs)) (r)))
    ∙ ap (λ (qs : List (Rule ℕ)). capped (all_ways count cost s qs)) (sym (rules-next rs i r p))

-- one more number in a column
pub column-push : (f : ℕ → ℕ) (column new : List ℕ) (x i : ℕ) → new ≡ column ++ x ∷ [] → length column ≡ i → ((n : ℕ) → n < i → slice_index column n ≡ f n) → x ≡ f i → (n : ℕ) → n < i + 1 → slice_index new n ≡ f n
column-push f column new x i p e h q n l = elim (cases_lt n i) [
  | inl m ↦ ap (λ (xs : List ℕ). slice_index xs n) p ∙ get-push column x n (omega arith) ∙ h n m
  | inr m ↦
      let z : i ≡ n = omega arith in
      let P : ℕ → Type 0 = λ k. slice_index new k ≡ f k in
      subst P z (ap (λ (xs : List ℕ). slice_index xs i) p ∙ get-last column x i e ∙ q)
]

-- behind its last node a column has 0, and a rule book has no rules
pub column-whole : (f : List (Rule ℕ) → ℕ) (book : List (List (Rule ℕ))) (column : List ℕ) (i : ℕ) → f [] ≡ 0 → length column ≡ i → i ≡ length book → ((n : ℕ) → n < i → slice_index column n ≡ capped (f (rules_at book n))) → (n : ℕ) → slice_index column n ≡ capped (f (rules_at book n))
column-whole f book column i z e d h n = elim (cases_lt n i) [
  | inl l ↦ h n l
  | inr l ↦
      let a : slice_index column n ≡ 0 = get_or_past column n 0 (omega arith) in
      let b : rules_at book n ≡ [] = get_or_past book n [] (omega arith) in
      let c : capped 0 ≡ 0 = omega arith in
      a ∙ sym c ∙ ap capped (sym z) ∙ ap (λ (rs : List (Rule ℕ)). capped (f rs)) (sym b)
]

-- no rule makes a term of size 0
none-at-0 : (count : ℕ → ℕ → ℕ) (cost : ℕ → ℕ) → ((x : ℕ) → 1 ≤ cost x) → (rs : List (Rule ℕ)) → all_ways count cost 0 rs ≡ 0
none-at-0 count cost positive [] = refl
none-at-0 count cost positive (Head x ns ∷ rs) =
    let p = positive x in
    let a : head_ways count cost 0 (x, ns) ≡ 0 = chosen (λ (n : ℕ). n ≡ 0) (nat_le (cost x) 0) (ways count ns (0 - cost x)) 0 (λ q. absurd (grind (arith, nat_tests))) (λ q. refl) in
    let b = none-at-0 count cost positive rs in
    omega (arith, a, b)
none-at-0 count cost positive (Any l m ∷ rs) = let b = none-at-0 count cost positive rs in omega (arith, b)

pub column-none : (count : ℕ → ℕ → ℕ) (cost : ℕ → ℕ) (s : ℕ) (book : List (List (Rule ℕ))) (column : List ℕ) → ((x : ℕ) → 1 ≤ cost x) → s ≡ 0 → column ≡ [] → (n : ℕ) → slice_index column n ≡ capped (all_ways count cost s (rules_at book n))
column-none count cost s book column positive z p n =
    let P : ℕ → Type 0 = λ k. 0 ≡ capped (all_ways count cost k (rules_at book n)) in
    let e = none-at-0 count cost positive (rules_at book n) in
    ap (λ (xs : List ℕ). slice_index xs n) p ∙ get_or_past [] n 0 (omega arith) ∙ subst P (sym z) (omega (arith, e))
