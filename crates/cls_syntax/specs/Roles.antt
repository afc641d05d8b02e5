-- What the names of a line are for, and which names may stand there.
use Rattle.std.specs.Prelude.{ℕ, Bool, true, false, not, ◌&&◌, ◌||◌, List, codes, IsTrue}
use Rattle.std.specs.Str.{bytes_eq}
use Rattle.cls_syntax.specs.declared.role.Role.{Role}
use Rattle.cls_syntax.specs.declared.role.Role.TheVariants.{State, StateOrAny, StateOrNone, Variance}

-- The names that a state may not have.
abbrev pub is_none : List ℕ → Bool
is_none x = bytes_eq x (codes "none")

abbrev pub is_any : List ℕ → Bool
is_any x = bytes_eq x (codes "_")

abbrev pub is_set_aside : List ℕ → Bool
is_set_aside x = is_none x || is_any x

-- The name may stand there. `omega` is no name at all.
abbrev pub may_stand : Role → List ℕ → Bool
may_stand State x = not (is_none x) && not (is_any x)
may_stand StateOrAny x = not (is_none x)
may_stand StateOrNone x = not (is_any x)
may_stand Variance x = bytes_eq x (codes "contra") || bytes_eq x (codes "inv")
may_stand _ x = true

abbrev pub MayStand : Role → List ℕ → Type 0
MayStand role x = IsTrue (may_stand role x)

-- Each name may stand there that isn't set aside.
abbrev pub takes_names : Role → Bool
takes_names Variance = false
takes_names _ = true
