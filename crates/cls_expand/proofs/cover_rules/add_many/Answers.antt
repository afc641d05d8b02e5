use Rattle.std.proofs.Common.{ℕ, ◌≡◌, ◌<◌, List, [], length, take, sym, subst, ◌++◌, arith, Contains}
use Rattle.std.specs.Prelude.{map, slice_index_or}
use Rattle.cls_base.specs.declared.rule.Rule.{Rule}
use Rattle.cls_base.proofs.Lists.{take_whole}
use Rattle.cls_path.specs.Paths.{TypePath, Paths, more, listed, type_of_paths}
use Rattle.cls_norm.specs.Fit.{IsFit}
use Rattle.cls_expand.proofs.Places.{when_false, when_true}
use Rattle.cls_expand.specs.Answers.{rule_of}
use Rattle.cls_expand.specs.Making.{AreBegun, rules_of_spines}
use Rattle.cls_expand.proofs.Fresh.{many_step}
use Rattle.cls_expand.proofs.Keys.{wide_by, inserted, cover_at, cover_step}
use Rattle.cls_expand.proofs.cover_rules.add_many.Goals as goal

pub arguments-requires-clause-below : goal.arguments-requires-clause-below
arguments-requires-clause-below c = λ i m.
    let within : c.loop-place.place < length c.args.covers.now = omega (arith, c.loop-place-test.true, c.len-place-end.ensures) in
    c.requires.below (slice_index_or c.args.covers.now c.loop-place.place []) (cover_at c.args.covers.now c.loop-place.place within) i (subst (λ (s : List ℕ). Contains s i) c.get.ensures m)

pub returns-then-not-branch : goal.returns-then-not-branch
returns-then-not-branch c = λ q rest from le choice b.
    let within : c.loop-place.place < length c.args.covers.now = omega (arith, c.loop-place-test.true, c.len-place-end.ensures) in
    let cover = slice_index_or c.args.covers.now c.loop-place.place [] in
    wide_by c.args.lib.now c.args.x c.args.n cover c.get.result.now q rest (map listed c.arguments.new.args.items) c.get.ensures
    (choice cover (cover_at c.args.covers.now c.loop-place.place within)) c.in_ok-arguments.ensures
    (subst (λ (ns : List (List TypePath)). (n : Paths) × Contains (map listed ns) n × (IsFit (type_of_paths n) → ⊥)) c.as_slice.ensures.value (when_false _ c.if-not-branch.true c.in_ok-all_fit.ensures))

pub loop-place-preserved : goal.loop-place-preserved
loop-place-preserved c = λ q rest from le choice b.
    let within : c.loop-place.place < length c.args.covers.now = omega (arith, c.loop-place-test.true, c.len-place-end.ensures) in
    let start = map rule_of c.args.rules.now in
    let keys = c.loop-place.spines.keys in
    let new = c.insert.new.self.keys in
    cover_step c.args.lib.now c.args.x c.args.n c.args.covers.now c.loop-place.place c.get.result.now (more q rest) from (start ++ rules_of_spines keys) (start ++ rules_of_spines new) (map listed c.arguments.new.args.items)
    within c.get.ensures c.in_ok-arguments.ensures
    (subst (λ (ns : List (List TypePath)). (n : Paths) → Contains (map listed ns) n → IsFit (type_of_paths n)) c.as_slice.ensures.value (when_true _ c.if-not-branch.false c.in_ok-all_fit.ensures))
    (many_step c.args.lib.now c.requires.library (more q rest) from c.args.x c.args.n start b keys new c.get.result.now (map listed c.arguments.new.args.items) c.in_ok-arguments.ensures (inserted keys _ new c.in_ok-insert.ensures.keys))
    (c.loop-place.invariant q rest from le choice b)

pub returns : goal.returns
returns c = λ q rest from le choice b.
    let l = c.args.lib.now in
    let covers = c.args.covers.now in
    let made = map rule_of c.args.rules.now ++ rules_of_spines c.loop-place.spines.keys in
    let whole : take c.loop-place.place covers ≡ covers = take_whole covers c.loop-place.place (omega (arith, c.loop-place-test.false, c.len-place-end.ensures)) in
    subst (λ (rs : List (Rule Paths)). AreBegun l (more q rest) from c.args.x c.args.n covers rs) (sym c.in_ok-add_spines.ensures)
    (subst (λ (cs : List (List ℕ)). AreBegun l (more q rest) from c.args.x c.args.n cs made) whole (c.loop-place.invariant q rest from le choice b))
