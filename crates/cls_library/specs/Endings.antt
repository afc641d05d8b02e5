-- internal: what a path is at its end, behind its leading arrows
use Rattle.std.specs.Prelude.{ℕ, ◌≡◌, ◌↔◌, ◌%◌, ◌/◌, IsTrue, Option, None, ◌+◌, ◌==◌, ◌&&◌, ◌≤◌, min, Bool, true, false, not, List, [], ◌∷◌, length, slice_get, slice_index_or, Some}
use Rattle.std.specs.Int.{bit_at}
use Rattle.cls_base.specs.Limits.{max_arity}
use Rattle.cls_taxon.specs.Orders.{Declared, class_by}
use Rattle.cls_path.specs.Paths.{TypePath, atom, inside, unit, left, right, function, sealed, listed}
use Rattle.cls_library.specs.declared.ending.Head.{Head}
use Rattle.cls_library.specs.declared.ending.Head.TheVariants.{Covariant, Product, Sealed}
use Rattle.cls_library.specs.declared.ending.Ending.{Ending}
use Rattle.cls_library.specs.declared.sought.Sought.{Sought}
use Rattle.cls_library.specs.Arrows.{leading_arrows, arity_of}
use Rattle.cls_library.specs.Splits.{places_from}

-- what the path is behind its leading arrows, before anything inside it
abbrev pub head_of : TypePath → Head
head_of (atom c) = Covariant (record { 0 = c })
head_of (inside c p) = Covariant (record { 0 = c })
head_of unit = Product
head_of (left p) = Product
head_of (right p) = Product
head_of (function n p) = head_of p
head_of (sealed c n) = Sealed (record { 0 = c })

-- the number of leading arrows, which counts up to one more than a component may take, with the head
abbrev pub ending_of : TypePath → Ending
ending_of p = record { arrows = min (max_arity + 1) (leading_arrows p); head = head_of p }

-- whether the path is a name over omega, or the product of omega and omega
abbrev pub is_bare : TypePath → Bool
is_bare (atom c) = true
is_bare unit = true
is_bare _ = false

-- the ending of a path that has n arrows before a path of this one
abbrev pub ending_behind : ℕ → Ending → Ending
ending_behind n f = record { arrows = min (max_arity + 1) (n + f.arrows); head = f.head }

-- whether the head is a product, or a name that has a class of its own
abbrev pub is_alone : (ℕ → ℕ) → Head → Bool
is_alone class (Covariant c) = not (class c.0 == 0)
is_alone class Product = true
is_alone class (Sealed c) = not (class c.0 == 0)

-- the flag of the head, one of 1,024
abbrev pub mark_of : Head → ℕ
mark_of (Covariant c) = c.0 % 1024
mark_of Product = 0
mark_of (Sealed c) = c.0 % 1024

-- whether the flag is set in the words, each of which has 64
abbrev pub is_set : List ℕ → ℕ → Bool
is_set words k = bit_at (slice_index_or words (k / 64) 0) (k % 64) == 1

-- whether the flag of the head is set
abbrev pub is_marked : List ℕ → Head → Bool
is_marked words h = is_set words (mark_of h)

-- the flag of the head of each path is set
abbrev pub AreMarked : List ℕ → List TypePath → Type 0
AreMarked words [] = Unit {0}
AreMarked words (p ∷ ps) = IsTrue (is_marked words (head_of p)) × AreMarked words ps

-- whether the flag of the number of arrows is set in the word
abbrev pub has_depth : ℕ → ℕ → Bool
has_depth word n = bit_at word n == 1

-- the flag of the number of arrows that each path begins with is set in the word
abbrev pub AreDeep : ℕ → List TypePath → Type 0
AreDeep word [] = Unit {0}
AreDeep word (p ∷ ps) = IsTrue (has_depth word (ending_of p).arrows) × AreDeep word ps

-- what is sought of the endings that may lead to the path
pub record IsSought (d : Declared) (q : TypePath) (s : Sought) : Type 0 where
  pub ending : s.ending ≡ ending_of q
  pub alone : s.alone ≡ is_alone (class_by d.pairs) s.ending.head

module _ (test : ℕ → ℕ → Bool) where
  -- whether a path of the one head may be below one of the other
  abbrev pub may_be_below : Head → Head → Bool
  may_be_below (Covariant c) (Covariant d) = test c.0 d.0
  may_be_below Product Product = true
  may_be_below (Sealed c) (Sealed d) = test c.0 d.0
  may_be_below _ _ = false

  -- whether a path of the first ending, behind n of its arrows, may be below one of the second
  abbrev pub may_end_below : ℕ → Ending → Ending → Bool
  may_end_below n e f = (e.arrows == min (max_arity + 1) (n + f.arrows)) && may_be_below e.head f.head

-- the place where the ending stands among different ones, if it is one of them
abbrev pub IsFound : List Ending → Ending → Option ℕ → Type 0
IsFound kinds e None = (j : ℕ) → slice_get kinds j ≡ Some e → ⊥
IsFound kinds e (Some k) = (j : ℕ) → (slice_get kinds j ≡ Some e) ↔ (j ≡ k)

-- at the place of each path stands its ending
abbrev pub AreEndings : List Ending → List ℕ → List TypePath → Type 0
AreEndings kinds [] [] = Unit {0}
AreEndings kinds (k ∷ ks) (p ∷ ps) = (slice_get kinds k ≡ Some (ending_of p)) × AreEndings kinds ks ps
AreEndings kinds _ _ = ⊥

-- what is kept of a component: for each number of arguments the places of its arrows, and the endings of its paths
pub record IsKept (paths : List TypePath) (columns : List (List ℕ)) (kinds : List Ending) (places : List ℕ) : Type 0 where
  pub count : length columns ≡ arity_of (listed paths) + 1
  pub each : (n : ℕ) → n ≤ arity_of (listed paths) → slice_index_or columns n [] ≡ places_from n 0 paths
  pub endings : AreEndings kinds places paths
