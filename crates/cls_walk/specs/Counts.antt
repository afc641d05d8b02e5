-- Bounds of the number of terms by node and size, by arithmetic over smaller sizes alone.
use Rattle.std.specs.Prelude.{ℕ, zero, suc, ◌+◌, ◌-◌, ◌*◌, ◌≤◌, max, nat_eq, nat_le, nat_lt}
use Rattle.std.specs.Prelude.{Bool, true, false, ◌&&◌, List, [], ◌∷◌, length, if◌then◌else◌}
use Rattle.cls_base.specs.Terms.{Applicative}
use Rattle.cls_base.specs.declared.rule.Rule.{Rule}
use Rattle.cls_base.specs.declared.rule.Rule.TheVariants.{Head, Any}
use Rattle.cls_base.specs.Languages.{rules_at}
use Rattle.cls_base.specs.Lists.{AreDistinct}
use Rattle.cls_enum.specs.Candidates.{IsInCell}
use Rattle.cls_enum.specs.Members.{IsIn}

-- what f gives at the numbers below n, together
abbrev pub total_below : ℕ → (ℕ → ℕ) → ℕ
total_below zero f = 0
total_below (suc n) f = total_below n f + f n

-- a component with the nodes of its arguments, as a head rule has them
abbrev pub HeadRule : Type 0
HeadRule = ℕ × List ℕ

-- the head rules, and the pairs of nodes of the others, which apply any term to any
abbrev pub heads_of : List (Rule ℕ) → List HeadRule
heads_of [] = []
heads_of (Head x ns ∷ rs) = (x, ns) ∷ heads_of rs
heads_of (Any l m ∷ rs) = heads_of rs

abbrev pub pairs_of : List (Rule ℕ) → List (ℕ × ℕ)
pairs_of [] = []
pairs_of (Head x ns ∷ rs) = pairs_of rs
pairs_of (Any l m ∷ rs) = (l, m) ∷ pairs_of rs

-- The sum over the runs of head rules of one kind, a component with as many arguments, of the greatest value in each:
-- only rules of one kind can make the same term. The run that is open is of component x with k arguments, and has
-- `best` so far.
abbrev pub run : (HeadRule → ℕ) → ℕ → ℕ → ℕ → List HeadRule → ℕ
run f x k best [] = best
run f x k best (h ∷ hs) =
    if nat_eq x h.0 && nat_eq k (length h.1) then run f x k (max best (f h)) hs
    else best + run f h.0 (length h.1) (f h) hs

abbrev pub runs : (HeadRule → ℕ) → List HeadRule → ℕ
runs f hs = run f 0 0 0 hs

abbrev pub greatest : (ℕ × ℕ → ℕ) → List (ℕ × ℕ) → ℕ
greatest f [] = 0
greatest f (p ∷ ps) = max (f p) (greatest f ps)

-- count t n is a number for the terms of node n of size t
module _ (count : ℕ → ℕ → ℕ) where
  -- in how many ways terms of the nodes in turn have sizes that come to `rest`
  abbrev pub ways : List ℕ → ℕ → ℕ
  ways [] rest = if nat_eq rest 0 then 1 else 0
  ways (n ∷ ns) rest = total_below (rest + 1) (λ t. count t n * ways ns (rest - t))

  -- in how many ways a head rule makes a term of size s, and a pair of nodes does
  abbrev pub head_ways : (ℕ → ℕ) → ℕ → HeadRule → ℕ
  head_ways cost s h = if nat_le (cost h.0) s then ways h.1 (s - cost h.0) else 0

  abbrev pub pair_ways : ℕ → ℕ × ℕ → ℕ
  pair_ways s p = total_below s (λ t. count t p.0 * ways (p.1 ∷ []) (s - t))

  abbrev pub rule_ways : (ℕ → ℕ) → ℕ → Rule ℕ → ℕ
  rule_ways cost s (Head x ns) = head_ways cost s (x, ns)
  rule_ways cost s (Any l m) = pair_ways s (l, m)

  -- at most: all ways of all rules
  abbrev pub all_ways : (ℕ → ℕ) → ℕ → List (Rule ℕ) → ℕ
  all_ways cost s [] = 0
  all_ways cost s (r ∷ rs) = rule_ways cost s r + all_ways cost s rs

  -- the same, or for a head rule without arguments alone
  abbrev pub head_ways_if : (ℕ → ℕ) → ℕ → Bool → HeadRule → ℕ
  head_ways_if cost s alone h = if alone && nat_lt 0 (length h.1) then 0 else head_ways cost s h

  -- at least, where the head rules are in order: those of different kinds, or those without arguments and the pair of
  -- nodes that makes most
  abbrev pub sure_ways : (ℕ → ℕ) → ℕ → List (Rule ℕ) → ℕ
  sure_ways cost s rs =
      max (runs (head_ways_if cost s false) (heads_of rs))
      (runs (head_ways_if cost s true) (heads_of rs) + greatest (pair_ways s) (pairs_of rs))

-- The table with one more size.
abbrev pub with_size : ℕ → (ℕ → ℕ) → (ℕ → ℕ → ℕ) → ℕ → ℕ → ℕ
with_size s new table t n = if nat_eq t s then new n else table t n

-- a lower bound is claimed up to size 64 alone, since a term of greater size can be too long
abbrev pub up_to_64 : ℕ → ℕ → ℕ
up_to_64 s n = if nat_le s 64 then n else 0

module _ (book : List (List (Rule ℕ))) (cost : ℕ → ℕ) where
  -- The bounds for all sizes below s.
  abbrev pub up_below : ℕ → ℕ → ℕ → ℕ
  up_below zero = λ t n. 0
  up_below (suc s) = with_size s (λ n. all_ways (up_below s) cost s (rules_at book n)) (up_below s)

  abbrev pub lo_below : ℕ → ℕ → ℕ → ℕ
  lo_below zero = λ t n. 0
  lo_below (suc s) = with_size s (λ n. up_to_64 s (sure_ways (lo_below s) cost s (rules_at book n))) (lo_below s)

  -- different terms of the node and size, which may stand on a page
  pub record AreTerms (t n : ℕ) (es : List Applicative) : Type 0 where
    pub different : AreDistinct es
    pub terms : (e : Applicative) → IsIn es e → IsInCell book cost n t e

  -- there are no more than so many, and no fewer
  abbrev pub AtMost : ℕ → ℕ → ℕ → Type 0
  AtMost t n k = (es : List Applicative) → AreTerms t n es → length es ≤ k

  abbrev pub AtLeast : ℕ → ℕ → ℕ → Type 0
  AtLeast t n k = (es : List Applicative) × AreTerms t n es × (k ≤ length es)
