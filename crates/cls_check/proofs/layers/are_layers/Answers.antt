use Rattle.std.proofs.Common.{ℕ, ◌<◌, length, subst, sym, ◌∙◌, arith, List, []}
use Rattle.std.specs.Prelude.{All}
use Rattle.std.proofs.lemmas.List.Elements.{All-get_or}
use Rattle.cls_check.specs.Checking.{ArePositions}
use Rattle.cls_check.proofs.Loops.{not-false, is-true, differs, passed}
use Rattle.cls_check.proofs.layers.are_layers.Goals as goal

pub returns-then-not-are_sets : goal.returns-then-not-are_sets
returns-then-not-are_sets c =
    let l : c.loop-i.i < length c.args.layers.now = omega arith in (
      (λ t. absurd (not-false t)),
      (λ h. absurd (differs (sym c.if-not-are_sets.true ∙ c.are_sets.ensures.1
          (subst (λ (q : List (List ℕ)). All (ArePositions c.args.count) q) (sym c.get.ensures) (All-get_or (All (ArePositions c.args.count)) c.args.layers.now c.loop-i.i [] l h))))),
    )

pub returns : goal.returns
returns c = ((λ t. passed (All (ArePositions c.args.count)) c.args.layers.now [] c.loop-i.i (omega arith) c.loop-i.invariant), (λ h. is-true))
