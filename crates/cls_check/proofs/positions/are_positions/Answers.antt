use Rattle.std.proofs.Common.{ℕ, ◌≡◌, ◌≤◌, ◌<◌, [], get_or, drop, subst, sym, arith, List}
use Rattle.std.proofs.lemmas.List.{nil_from_length, length-drop}
use Rattle.std.proofs.Math.Seq.{drop-cons}
use Rattle.cls_check.proofs.Loops.{not-false, is-true}
use Rattle.cls_check.proofs.Rising.{RiseFrom, positions_from, positions_rise}
use Rattle.cls_check.proofs.positions.are_positions.Goals as goal
use Rattle.cls_check.proofs.positions.are_positions.Goals.{then-position-least-via-then-position-least, then-position-least-via-else-position-least+then-position-count}

pub returns-then-position-least : goal.returns-then-position-least
returns-then-position-least c =
    let i = c.loop-position.position-index in (
      (λ t. absurd (not-false t)),
      (λ h.
          let left = c.loop-position.invariant.left.1 (positions_rise c.args.count c.args.positions.now h) in
          let here = c.loop-position-test.true in
          let one = subst (λ (s : List ℕ). RiseFrom c.loop-position.least c.args.count s) (drop-cons c.args.positions.now i 0 here) left in
          let low : c.loop-position.least ≤ get_or c.args.positions.now i 0 = one.0 in
          let high : get_or c.args.positions.now i 0 < c.args.count = one.1 in
          absurd (elim c.then-position-least.branch [
            | then-position-least-via-then-position-least w ↦ (let b = w.if-position-least.true in omega arith)
            | then-position-least-via-else-position-least+then-position-count w ↦ (let b = w.if-position-count.true in omega arith)
          ])),
    )

pub returns : goal.returns
returns c =
    let none : drop c.loop-position.position-index c.args.positions.now ≡ [] = nil_from_length (drop c.loop-position.position-index c.args.positions.now) (simp length-drop (omega arith)) in (
      (λ t. positions_from c.args.count c.args.positions.now (c.loop-position.invariant.left.0 (subst (λ (s : List ℕ). RiseFrom c.loop-position.least c.args.count s) (sym none) tt))),
      (λ h. is-true),
    )
