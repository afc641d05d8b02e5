-- Steps of the rule books and costs that tests make by hand.
use Rattle.std.proofs.Common.{◌≡◌, ℕ, zero, suc, ◌≤◌, Bool, true, false, List, [], ◌∷◌, ◌++◌, refl, arith, slice_index_or}
use Rattle.std.specs.Prelude.{◌&&◌, nat_lt}
use Rattle.std.proofs.lemmas.Bool.Decides.{nat_tests}
use Rattle.cls_base.specs.Languages.{rules_at}
use Rattle.cls_base.specs.declared.rule.Rule.{Rule}
use Rattle.cls_base.specs.declared.rule.Rule.TheVariants.{Head, Any}
use Rattle.cls_base.specs.Arguments.{arguments_of_rule, arguments_in}
use Rattle.cls_base.specs.Books.{HasNodesBelow, HaveNodesBelow}
use Rattle.cls_base.specs.Lists.{AreBelow}
use Rattle.cls_page_tests.specs.HandBooks.{are_nodes, all_within}

both : (a b : Bool) → (a && b) ≡ true → (a ≡ true) × (b ≡ true)
both true b p = (refl, p)
both false b p = absurd (cc)

AreBelow-tested : (n : ℕ) (is : List ℕ) → are_nodes n is ≡ true → AreBelow n is
AreBelow-tested n [] p = tt
AreBelow-tested n (i ∷ is) p = let q = both (nat_lt i n) (are_nodes n is) p in let l = q.0 in (grind (arith, nat_tests), AreBelow-tested n is q.1)

tested-append : (n : ℕ) (is js : List ℕ) → are_nodes n (is ++ js) ≡ true → (are_nodes n is ≡ true) × (are_nodes n js ≡ true)
tested-append n [] js p = (refl, p)
tested-append n (i ∷ is) js p =
    let q = both (nat_lt i n) (are_nodes n (is ++ js)) p in
    let r = tested-append n is js q.1 in
    ((λ k. q.0 k && r.0 k), r.1)

HasNodesBelow-tested : (n : ℕ) (r : Rule ℕ) → are_nodes n (arguments_of_rule r) ≡ true → HasNodesBelow n r
HasNodesBelow-tested n (Head x ns) p = AreBelow-tested n ns p
HasNodesBelow-tested n (Any l m) p = let b = AreBelow-tested n (l ∷ m ∷ []) p in (b.0, b.1.0)

HaveNodesBelow-tested : (n : ℕ) (rs : List (Rule ℕ)) → are_nodes n (arguments_in rs) ≡ true → HaveNodesBelow n rs
HaveNodesBelow-tested n [] p = tt
HaveNodesBelow-tested n (r ∷ rs) p =
    let q = tested-append n (arguments_of_rule r) (arguments_in rs) p in
    (HasNodesBelow-tested n r q.0, HaveNodesBelow-tested n rs q.1)

-- the rules of each node
pub AllWithin-at : (n : ℕ) (book : List (List (Rule ℕ))) (i : ℕ) → all_within n book ≡ true → HaveNodesBelow n (rules_at book i)
AllWithin-at n [] i p = tt
AllWithin-at n (rs ∷ book) zero p = HaveNodesBelow-tested n rs (both (are_nodes n (arguments_in rs)) (all_within n book) p).0
AllWithin-at n (rs ∷ book) (suc i) p = AllWithin-at n book i (both (are_nodes n (arguments_in rs)) (all_within n book) p).1

pub positive-push : (xs : List ℕ) (c : ℕ) → 1 ≤ c → ((x : ℕ) → 1 ≤ slice_index_or xs x 1) → (x : ℕ) → 1 ≤ slice_index_or (xs ++ c ∷ []) x 1
positive-push [] c l h zero = l
positive-push [] c l h (suc x) = omega arith
positive-push (y ∷ xs) c l h zero = h 0
positive-push (y ∷ xs) c l h (suc x) = positive-push xs c l (λ z. h (suc z)) x
