use Rattle.std.proofs.Common.{◌≡◌, ◌≤◌, ◌+◌, ◌-◌, ℕ, inl, inr, None, Some, length, slice_get, sym, ap, subst, ◌∙◌, arith}
use Rattle.cls_callers.specs.declared.tag.AskTag.{AskTag}
use Rattle.cls_callers.specs.Asking.{IsAskedClosure}
use Rattle.cls_core.proofs.Columns.{get-some, lt-split}
use Rattle.cls_expand.specs.Answers.{IsAnswer}
use Rattle.cls_grammar.specs.Grammars.{first_wide}
use Rattle.cls_library.specs.Libraries.{Library}
use Rattle.cls_engine.specs.Goals.{Goal, same}
use Rattle.cls_engine.proofs.AskedRows.{all-places, no-wide, rooted-ruled}
use Rattle.cls_engine.proofs.asked_rows.first_wide_of.Goals as goal

pub get-requires : goal.get-requires
get-requires c =
    let goals = ap (λ (t : AskTag Library Goal). length t.goals) c.in_ok-closures.ensures in
    (omega arith, omega (arith, c.loop-place-test.true, c.requires.count, goals))

pub returns-in-Some : goal.returns-in-Some
returns-in-Some c =
    let t = c.args.asked.now in
    let k = c.loop-place.place in
    let own = c.in_ok-own.own in
    let start = get-some t.goals k (omega (arith, c.loop-place-test.true, c.requires.count)) in
    let closed = subst (λ (u : AskTag Library Goal). IsAskedClosure same IsAnswer u (k + 1) own) c.in_ok-closures.ensures c.in_ok-own.ensures in
    let here : (k + 1) - 1 ≡ k = omega arith in
    record {
      place = k;
      start = start.0;
      asked = start.1;
      rows = own;
      canonical = closed start.0 (ap (slice_get t.goals) here ∙ start.1);
      is_first = sym c.in_ok-found.ensures ∙ c.in-Some.is;
      none_before = c.loop-place.invariant;
    }

pub loop-place-preserved : goal.loop-place-preserved
loop-place-preserved c =
    let t = c.args.asked.now in
    let k = c.loop-place.place in
    let own = c.in_ok-own.own in
    let closed = subst (λ (u : AskTag Library Goal). IsAskedClosure same IsAnswer u (k + 1) own) c.in_ok-closures.ensures c.in_ok-own.ensures in
    let here : (k + 1) - 1 ≡ k = omega arith in
    let ruled : first_wide own ≡ None = sym c.in_ok-found.ensures ∙ c.in-None.is in
    λ j g less at. elim (lt-split k j (omega arith)) [
      | inl below ↦ c.loop-place.invariant j g below at
      | inr is ↦
          (let now : slice_get t.goals k ≡ Some g = subst (λ (n : ℕ). slice_get t.goals n ≡ Some g) is at in
          no-wide t.by g own (closed g (ap (slice_get t.goals) here ∙ now)) ruled)
    ]

pub unreachable-requires : goal.unreachable-requires
unreachable-requires c =
    let t = c.args.asked.now in
    let whole : length t.goals ≤ c.loop-place.place = omega (arith, c.loop-place-test.false, c.requires.count) in
    c.requires.wide (rooted-ruled t c.args.rows c.requires.rooted (all-places t.by t.goals c.loop-place.place whole c.loop-place.invariant))
