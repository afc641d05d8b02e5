use Rattle.std.proofs.Common.{ℕ, ◌<◌, length, subst, sym, ◌∙◌, arith, List, []}
use Rattle.std.proofs.lemmas.List.Elements.{All-get_or}
use Rattle.cls_check.specs.Checking.{ArePositions}
use Rattle.cls_check.proofs.Loops.{not-false, is-true, differs, passed}
use Rattle.cls_check.proofs.layers.are_sets.Goals as goal

pub returns-then-not-are_positions : goal.returns-then-not-are_positions
returns-then-not-are_positions c =
    let l : c.loop-i.i < length c.args.sets.now = omega arith in (
      (λ t. absurd (not-false t)),
      (λ h. absurd (differs (sym c.if-not-are_positions.true ∙ c.are_positions.ensures.1
          (subst (λ (q : List ℕ). ArePositions c.args.count q) (sym c.get.ensures) (All-get_or (ArePositions c.args.count) c.args.sets.now c.loop-i.i [] l h))))),
    )

pub returns : goal.returns
returns c = ((λ t. passed (ArePositions c.args.count) c.args.sets.now [] c.loop-i.i (omega arith) c.loop-i.invariant), (λ h. is-true))
