use Rattle.std.proofs.Common.{ℕ, ◌<◌, List, [], length, refl, subst, arith, Contains}
use Rattle.std.specs.Prelude.{map, slice_index_or}
use Rattle.cls_path.specs.Paths.{TypePath, Paths, more, listed, type_of_paths}
use Rattle.cls_norm.specs.Fit.{IsFit}
use Rattle.cls_expand.proofs.Places.{when_false, when_true}
use Rattle.cls_expand.specs.Answers.{rule_of}
use Rattle.cls_expand.proofs.Fresh.{kept_front, few_step}
use Rattle.cls_expand.proofs.Keys.{wide_by, cover_at, cover_step}
use Rattle.cls_expand.proofs.cover_rules.add_few.Goals as goal

pub arguments-requires-clause-below : goal.arguments-requires-clause-below
arguments-requires-clause-below c = λ i m.
    let within : c.loop-place.place < length c.args.covers.now = omega (arith, c.loop-place-test.true, c.len-place-end.ensures) in
    c.requires.below (slice_index_or c.args.covers.now c.loop-place.place []) (cover_at c.args.covers.now c.loop-place.place within) i (subst (λ (s : List ℕ). Contains s i) c.get.ensures m)

pub returns-then-not-branch : goal.returns-then-not-branch
returns-then-not-branch c = λ q rest from le choice b.
    let within : c.loop-place.place < length c.args.covers.now = omega (arith, c.loop-place-test.true, c.len-place-end.ensures) in
    let cover = slice_index_or c.args.covers.now c.loop-place.place [] in
    wide_by c.args.lib.now c.args.x c.args.n cover c.get.result.now q rest (map listed c.arguments.new.args.items) c.get.ensures
    (choice cover (cover_at c.args.covers.now c.loop-place.place within)) c.in_ok-arguments.ensures
    (subst (λ (ns : List (List TypePath)). (n : Paths) × Contains (map listed ns) n × (IsFit (type_of_paths n) → ⊥)) c.as_slice.ensures.value (when_false _ c.if-not-branch.true c.in_ok-all_fit.ensures))

pub loop-place-preserved : goal.loop-place-preserved
loop-place-preserved c =
    let within : c.loop-place.place < length c.args.covers.now = omega (arith, c.loop-place-test.true, c.len-place-end.ensures) in
    let start = c.args.rules.now in
    let front = kept_front _ _ c.len-begin.result start c.loop-place.rules c.add_new.new.rules c.in_ok-add_new.ensures c.loop-place.invariant.within c.loop-place.invariant.front in
    record {
      begun = λ q rest from le choice b.
          cover_step c.args.lib.now c.args.x c.args.n c.args.covers.now c.loop-place.place c.get.result.now (more q rest) from (map rule_of c.loop-place.rules) (map rule_of c.add_new.new.rules) (map listed c.arguments.new.args.items)
          within c.get.ensures c.in_ok-arguments.ensures
          (subst (λ (ns : List (List TypePath)). (n : Paths) → Contains (map listed ns) n → IsFit (type_of_paths n)) c.as_slice.ensures.value (when_true _ c.if-not-branch.false c.in_ok-all_fit.ensures))
          (few_step c.args.lib.now c.requires.library (more q rest) from c.args.x c.args.n (map rule_of start) b c.len-begin.result start c.loop-place.rules c.add_new.new.rules c.get.result.now c.arguments.new.args.items refl c.loop-place.invariant.front c.in_ok-arguments.ensures c.in_ok-add_new.ensures)
          (c.loop-place.invariant.begun q rest from le choice b);
      within = front.0;
      front = front.1;
    }
