-- internal: with which component a term of a node begins, and of which nodes its arguments are
use Rattle.std.specs.Prelude.{ℕ, ◌≡◌, ◌<◌, ◌≤◌, ◌⊎◌, List, [], ◌∷◌, ◌++◌, length}
use Rattle.cls_base.specs.Terms.{Applicative}
use Rattle.cls_base.specs.Spines.{codes_of}
use Rattle.cls_base.specs.declared.rule.Rule.{Rule}
use Rattle.cls_base.specs.declared.rule.Rule.TheVariants.{Head, Any}
use Rattle.cls_base.specs.Languages.{NodeRule, IsGenerated}
use Rattle.cls_enum.specs.Members.{IsIn}
use Rattle.cls_walk.specs.Counts.{HeadRule}

-- codes that begin with the first form come before those that begin with the second
abbrev pub IsEarlier : HeadRule → HeadRule → Type 0
IsEarlier h g = (h.0 < g.0) ⊎ ((h.0 ≡ g.0) × (length h.1 < length g.1))

-- each form is earlier than all that follow it, so no two begin alike
abbrev pub AreRising : List HeadRule → Type 0
AreRising [] = Unit {0}
AreRising (h ∷ hs) = ((g : HeadRule) → IsIn hs g → IsEarlier h g) × AreRising hs

-- the rules of each node
module _ (book : List (List (Rule ℕ))) where
  -- the component, applied to terms of these nodes, is a term of the node
  pub data HasForm : ℕ → ℕ → List ℕ → Type 0 where
    headed : {n x : ℕ} {ns : List ℕ} → NodeRule book n (Head x ns) → HasForm n x ns
    applied : {n l m x : ℕ} {ns ks : List ℕ}
        → NodeRule book n (Any l m) → HasForm l x ns → ks ≡ ns ++ m ∷ [] → HasForm n x ks

  -- a term of each node in turn
  abbrev pub AreOf : List ℕ → List Applicative → Type 0
  AreOf [] [] = Unit {0}
  AreOf [] (e ∷ es) = ⊥
  AreOf (n ∷ ns) [] = ⊥
  AreOf (n ∷ ns) (e ∷ es) = IsGenerated book n e × AreOf ns es

  -- the codes of a term of each node in turn, one after another
  abbrev pub Fills : List ℕ → List ℕ → Type 0
  Fills ns w = (es : List Applicative) × AreOf ns es × (w ≡ codes_of es)

  -- the forms of the node with at most so many arguments
  pub record AreForms (most n : ℕ) (forms : List HeadRule) : Type 0 where
    pub each : (h : HeadRule) → IsIn forms h → HasForm n h.0 h.1
    pub all : (x : ℕ) (ns : List ℕ) → HasForm n x ns → length ns ≤ most → IsIn forms (x, ns)
