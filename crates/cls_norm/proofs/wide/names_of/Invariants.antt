use Rattle.std.proofs.Common.{◌≡◌, ◌++◌, drop}
use Rattle.cls_norm.specs.Names.{names_of_all}
use Rattle.cls_norm.proofs.wide.names_of.Given as goal

-- the names so far, and those of the types that are left
abbrev pub invariant-loop-ty : goal.invariant-loop-ty
invariant-loop-ty l = l.names.items ++ names_of_all (drop l.ty-index l.types) ≡ names_of_all l.types
