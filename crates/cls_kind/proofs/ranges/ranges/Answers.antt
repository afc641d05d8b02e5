use Rattle.std.proofs.Common.{◌≡◌, ◌==◌, true, false, List, [], ◌∷◌, ◌++◌, length, map, get_or, ◌∙◌, ap, rules}
use Rattle.std.proofs.lemmas.List.{map-append}
use Rattle.cls_base.specs.Types.{ClosedType}
use Rattle.cls_kind.specs.Ranges.{range_of}
use Rattle.cls_kind.proofs.KindLaws.{first-unknown, ranges-more, known-more, is-empty, not-empty}
use Rattle.cls_kind.proofs.ranges.ranges.Goals as goal

pub returns-then-is_empty-clause-unknown : goal.returns-then-is_empty-clause-unknown
returns-then-is_empty-clause-unknown c =
    let none : (length c.types_of-choices.result.now == 0) ≡ true = search rules in
    rw (← (c.as_slice-variable-items.ensures.keys ∙ c.in_ok-variables.ensures))
    (first-unknown c.args.kinds.now c.as_slice-variable-items.result.now c.loop-variable.variable-index c.loop-variable-test.true c.loop-variable.invariant.known (is-empty c.types_of-choices.result.now _ c.types_of-choices.ensures.kind none))

pub loop-variable-preserved : goal.loop-variable-preserved
loop-variable-preserved c =
    let vs = c.as_slice-variable-items.result.now in
    let i = c.loop-variable.variable-index in
    let some : (length c.types_of-choices.result.now == 0) ≡ false = search rules in
    record {
      done =
          rw (c.in_ok-push.ensures.items, map-append range_of c.loop-variable.ranges.items)
          (ap (λ (k : List ClosedType). map range_of c.loop-variable.ranges.items ++ (get_or vs i 0, k) ∷ []) c.types_of-choices.ensures.kind
          ∙ ranges-more c.args.kinds.now vs i (map range_of c.loop-variable.ranges.items) c.loop-variable-test.true c.loop-variable.invariant.done);
      known = known-more c.args.kinds.now vs i c.loop-variable-test.true c.loop-variable.invariant.known (not-empty c.types_of-choices.result.now _ c.types_of-choices.ensures.kind some);
    }
