use Rattle.std.proofs.Common.{ℕ, subst, List}
use Rattle.std.specs.List.Sorted.{IsPermutation}
use Rattle.std.proofs.lemmas.List.Sorted.{IsPermutation-sym}
use Rattle.cls_cover.specs.Members.{Member}
use Rattle.cls_cover.specs.Groups.{AreRuns}
use Rattle.cls_cover.proofs.Grouping.{permuted_member, runs_groups}
use Rattle.cls_cover.proofs.groups.groups_of.Goals as goal

pub runs-requires : goal.runs-requires
runs-requires c = λ x m.
    let p : IsPermutation c.args.family.now c.in_ok-positions.positions.items = c.in_ok-positions.ensures in
    c.requires.below x (permuted_member c.in_ok-positions.positions.items c.args.family.now x (IsPermutation-sym c.args.family.now c.in_ok-positions.positions.items p) (subst (λ (l : List ℕ). Member l x) c.as_slice.ensures.value m))

pub returns : goal.returns
returns c =
    runs_groups c.args.rows.now c.args.family.now c.in_ok-positions.positions.items c.in_ok-runs.field-0 c.requires.ascending c.in_ok-positions.ensures
    (subst (λ (l : List ℕ). AreRuns c.args.rows.now l c.in_ok-runs.field-0) c.as_slice.ensures.value c.in_ok-runs.ensures)
