-- What holds of each library holds of it with a component more, and without one.
use Rattle.std.proofs.Common.{ℕ, ◌+◌, ◌≤◌, sym, subst, arith, List, [], ◌∷◌}
use Rattle.cls_base.specs.Limits.{max_library_weight}
use Rattle.cls_base.specs.Schemas.{OpenType}
use Rattle.cls_base.specs.Types.{ClosedType, spread}
use Rattle.cls_kind.specs.Kinds.{instances_of}
use Rattle.cls_taxon.specs.Orders.{Declared}
use Rattle.cls_library.specs.Libraries.{Library, IsLibrary, IsWithinLimits, below_in, variances_in, all_of, weight_of, total_of}
use Rattle.cls_library.specs.Refusals.{Adds, AreAcceptable}
use Rattle.cls_library.proofs.Gathering.{acceptable-arity}
use Rattle.cls_library.proofs.Limits.{library-push, library-remove}
use Rattle.cls_library.proofs.Splitting.{arity-form}
use Rattle.cls_replies.specs.Changing.{without}

pub light_instances : (d : Declared) (weight : ℕ) (ts : List ClosedType) → weight ≤ max_library_weight → AreAcceptable (variances_in d) weight ts → weight + weight_of ts ≤ max_library_weight
light_instances d weight [] light a = omega arith
light_instances d weight (t ∷ ts) light a = let rest = light_instances d (weight + (spread t + 1)) ts a.0.light a.1 in omega arith

-- a component that is added
pub library_added : (kinds : List (ℕ × List ClosedType)) (t : OpenType) (old new : Library) → IsLibrary old → Adds old.taxonomy kinds t old new → IsLibrary new
library_added kinds t old new is adds =
    let d = old.taxonomy in
    let ts = instances_of kinds t in
    let c = adds.component in
    let weight = total_of old.components in
    let same = arity-form (below_in d) (variances_in d) (all_of ts) c.paths adds.of_schema.form in
    let few = acceptable-arity (variances_in d) weight ts adds.accepted.acceptable in
    let within : IsWithinLimits d c = record { normal = adds.of_schema.form.normal; arity = omega arith } in
    let all = light_instances d weight ts is.light adds.accepted.acceptable in
    let own = adds.of_schema.weight in
    subst IsLibrary (sym adds.added) (library-push d old.components c is within adds.accepted.room (omega (arith, all, own)))

-- one that is taken out
pub library_without : (library : Library) (x : ℕ) → IsLibrary library → IsLibrary (without library x)
library_without library x is = library-remove library.taxonomy library.components x is
