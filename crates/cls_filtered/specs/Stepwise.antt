-- Rule books that apply one argument at a time: each rule is a component alone, or any term of one node applied to any of another.
use Rattle.std.specs.Prelude.{ℕ, suc, ◌≡◌, ◌+◌, ◌<◌, List, [], ◌∷◌, ◌++◌, length, Contains}
use Rattle.cls_base.specs.declared.rule.Rule.{Rule}
use Rattle.cls_base.specs.declared.rule.Rule.TheVariants.{Head, Any}
use Rattle.cls_base.specs.Languages.{rules_at}

-- A component that is applied to so many arguments has a part for each front of them that isn't all: the component alone, and
-- so on. A part is a node with one rule. The parts have the numbers from k on, and r makes the terms of the first.
abbrev pub parts_from : Rule ℕ → ℕ → List ℕ → List (List (Rule ℕ))
parts_from r k [] = []
parts_from r k (n ∷ ns) = (r ∷ []) ∷ parts_from (Any k n) (suc k) ns

-- the rule that applies the last part to the last argument, or r if there is no argument
abbrev pub last_from : Rule ℕ → ℕ → List ℕ → Rule ℕ
last_from r k [] = r
last_from r k (n ∷ ns) = last_from (Any k n) (suc k) ns

abbrev pub parts_of : ℕ → Rule ℕ → List (List (Rule ℕ))
parts_of k (Head x ns) = parts_from (Head x []) k ns
parts_of k (Any l m) = []

abbrev pub last_of : ℕ → Rule ℕ → Rule ℕ
last_of k (Head x ns) = last_from (Head x []) k ns
last_of k (Any l m) = Any l m

abbrev pub part_count : Rule ℕ → ℕ
part_count (Head x ns) = length ns
part_count (Any l m) = 0

-- the same of the rules of a node, one after another
abbrev pub parts_in : ℕ → List (Rule ℕ) → List (List (Rule ℕ))
parts_in k [] = []
parts_in k (r ∷ rs) = parts_of k r ++ parts_in (k + part_count r) rs

abbrev pub lasts_in : ℕ → List (Rule ℕ) → List (Rule ℕ)
lasts_in k [] = []
lasts_in k (r ∷ rs) = last_of k r ∷ lasts_in (k + part_count r) rs

abbrev pub parts_count : List (Rule ℕ) → ℕ
parts_count [] = 0
parts_count (r ∷ rs) = part_count r + parts_count rs

-- and of nodes
abbrev pub all_parts : ℕ → List (List (Rule ℕ)) → List (List (Rule ℕ))
all_parts k [] = []
all_parts k (rs ∷ book) = parts_in k rs ++ all_parts (k + parts_count rs) book

abbrev pub all_lasts : ℕ → List (List (Rule ℕ)) → List (List (Rule ℕ))
all_lasts k [] = []
all_lasts k (rs ∷ book) = lasts_in k rs ∷ all_lasts (k + parts_count rs) book

-- the nodes of the book, and behind them the parts of their rules
abbrev pub stepwise : List (List (Rule ℕ)) → List (List (Rule ℕ))
stepwise book = all_lasts (length book) book ++ all_parts (length book) book

-- a component alone, or an application of nodes below n
abbrev pub IsStep : ℕ → Rule ℕ → Type 0
IsStep n (Head x ns) = ns ≡ []
IsStep n (Any l m) = (l < n) × (m < n)

abbrev pub AreSteps : List (List (Rule ℕ)) → Type 0
AreSteps book = (i : ℕ) (r : Rule ℕ) → Contains (rules_at book i) r → IsStep (length book) r
