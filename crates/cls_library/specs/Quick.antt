-- the paths to which a library finds what leads without a test of each arrow
--
-- A path tells which others may be below it if it begins, behind its leading arrows, with so many names and sides of products, and
-- each of the names has a class of its own: the others then begin with the same. Arrows on the way are left out.
use Rattle.std.specs.Prelude.{ℕ, zero, suc, ◌==◌, ◌&&◌, Bool, true, false, not}
use Rattle.cls_path.specs.Paths.{TypePath, atom, inside, unit, left, right, function, sealed}

-- whether the name has a class of its own
abbrev pub is_own : (ℕ → ℕ) → ℕ → Bool
is_own class c = not (class c == 0)

-- whether the path begins with so many names and sides of products, and each of the names has a class of its own
abbrev pub tells : (ℕ → ℕ) → ℕ → TypePath → Bool
tells class zero p = true
tells class (suc k) (atom c) = is_own class c && (k == 0)
tells class (suc k) (inside c p) = is_own class c && tells class k p
tells class (suc k) unit = false
tells class (suc k) (left p) = tells class k p
tells class (suc k) (right p) = tells class k p
tells class (suc k) (function n p) = tells class (suc k) p
tells class (suc k) (sealed c n) = is_own class c && (k == 0)

-- whether each path with the head of this one is below it, or its first two names and sides tell which paths may be
abbrev pub is_quick : (ℕ → ℕ) → TypePath → Bool
is_quick class (atom c) = is_own class c
is_quick class unit = true
is_quick class p = tells class 2 p
