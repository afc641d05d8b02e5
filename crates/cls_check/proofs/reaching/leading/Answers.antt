use Rattle.std.proofs.Common.{ℕ, ◌<◌, ◌↔◌, List, Contains, length, sym, subst}
use Rattle.cls_library.specs.Arrows.{MultiArrow}
use Rattle.cls_check.specs.Asking.{goals_of}
use Rattle.cls_check.specs.Deciding.{IsLeading, arrow_of}
use Rattle.cls_check.proofs.Keeping.{below_each, kept_of_all}
use Rattle.cls_check.proofs.reaching.leading.Goals as goal

pub invariant_of-result : goal.invariant_of-result
invariant_of-result c =
    let positions = c.in-Some.positions.items in
    let found = rw c.in-Some.is at c.in_ok-positions.ensures in
    below_each (length c.args.arrows) positions
    (λ k m. ((subst (λ (arrows : List MultiArrow). (i : ℕ) → Contains positions i ↔ ((i < length arrows) × IsLeading c.args.lib.now (goals_of c.args.asked.now) (arrow_of arrows i).target)) (sym c.requires.same) found k).0 m).0)

pub returns-in-Some : goal.returns-in-Some
returns-in-Some c =
    let positions = c.in-Some.positions.items in
    let found = rw c.in-Some.is at c.in_ok-positions.ensures in
    kept_of_all c.args.arrows (λ a. IsLeading c.args.lib.now (goals_of c.args.asked.now) a.target) positions
    (subst (λ (arrows : List MultiArrow). (i : ℕ) → Contains positions i ↔ ((i < length arrows) × IsLeading c.args.lib.now (goals_of c.args.asked.now) (arrow_of arrows i).target)) (sym c.requires.same) found)
