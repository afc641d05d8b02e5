-- Derivation trees and the terms that they give.
use Rattle.std.proofs.Common.{ℕ, zero, suc, ◌≤◌, ◌↔◌, max, List, arith}
use Rattle.cls_base.specs.Terms.{Applicative, component, apply}
use Rattle.cls_base.specs.declared.rule.Rule.{Rule}
use Rattle.cls_base.specs.Languages.{Generates, Applies, by_head, by_any, done, next}
use Rattle.cls_grammar.specs.Ranks.{HasTree, HaveTrees, head_tree, any_tree, no_trees, more_trees, IsProductive}

module _ (N : Type 0) (IsRule : N → Rule N → Type 0) where
  mutual
    -- a tree is within each greater height
    pub tree_up : {h : ℕ} {i : N} → HasTree N IsRule h i → (k : ℕ) → h ≤ k → HasTree N IsRule k i
    tree_up (head_tree {h = h} r ts) zero l = absurd (omega arith)
    tree_up (head_tree {h = h} r ts) (suc k) l = head_tree r (trees_up ts k (omega arith))
    tree_up (any_tree {h = h} r s t) zero l = absurd (omega arith)
    tree_up (any_tree {h = h} r s t) (suc k) l = any_tree r (tree_up s k (omega arith)) (tree_up t k (omega arith))

    pub trees_up : {h : ℕ} {ns : List N} → HaveTrees N IsRule h ns → (k : ℕ) → h ≤ k → HaveTrees N IsRule k ns
    trees_up no_trees k l = no_trees
    trees_up (more_trees t ts) k l = more_trees (tree_up t k l) (trees_up ts k l)

  mutual
    tree_makes : {h : ℕ} {i : N} → HasTree N IsRule h i → (e : Applicative) × Generates N IsRule i e
    tree_makes (head_tree {x = x} r ts) = let u = trees_make ts (component x) in (u.0, by_head r u.1)
    tree_makes (any_tree r s t) = let u = tree_makes s in let v = tree_makes t in (apply u.0 v.0, by_any r u.1 v.1)

    trees_make : {h : ℕ} {ns : List N} → HaveTrees N IsRule h ns → (f : Applicative) → (e : Applicative) × Applies N IsRule f ns e
    trees_make no_trees f = (f, done)
    trees_make (more_trees t ts) f = let u = tree_makes t in let v = trees_make ts (apply f u.0) in (v.0, next u.1 v.1)

  mutual
    pub makes_tree : {i : N} {e : Applicative} → Generates N IsRule i e → IsProductive N IsRule i
    makes_tree (by_head r a) = let u = makes_trees a in (suc u.0, head_tree r u.1)
    makes_tree (by_any r g k) = let u = makes_tree g in let v = makes_tree k in (suc (max u.0 v.0), any_tree r (tree_up u.1 (max u.0 v.0) (omega arith)) (tree_up v.1 (max u.0 v.0) (omega arith)))

    makes_trees : {f e : Applicative} {ns : List N} → Applies N IsRule f ns e → (h : ℕ) × HaveTrees N IsRule h ns
    makes_trees done = (0, no_trees)
    makes_trees (next g a) = let u = makes_tree g in let v = makes_trees a in (max u.0 v.0, more_trees (tree_up u.1 (max u.0 v.0) (omega arith)) (trees_up v.1 (max u.0 v.0) (omega arith)))

  -- a node is productive if and only if it generates a term
  pub productive_exactly : (i : N) → IsProductive N IsRule i ↔ ((e : Applicative) × Generates N IsRule i e)
  productive_exactly i = ((λ p. tree_makes p.1), (λ g. makes_tree g.1))
