use Rattle.std.proofs.Common.{List, [], ◌∷◌, refl, subst, arith, Contains}
use Rattle.std.specs.Prelude.{map}
use Rattle.cls_path.specs.Paths.{TypePath, Paths, more, listed, type_of_paths}
use Rattle.cls_norm.specs.Fit.{IsFit}
use Rattle.cls_expand.proofs.Places.{when_false, when_true}
use Rattle.cls_expand.specs.Answers.{rule_of}
use Rattle.cls_expand.proofs.Fresh.{lone_step}
use Rattle.cls_expand.proofs.Keys.{wide_by, cover_step}
use Rattle.cls_expand.proofs.cover_rules.add_lone.Goals as goal

pub returns-then-not-branch : goal.returns-then-not-branch
returns-then-not-branch c = λ q rest from le choice b.
    wide_by c.args.lib.now c.args.x c.args.n c.args.cover.now c.args.cover.now q rest (map listed c.arguments.new.args.items) refl choice c.in_ok-arguments.ensures
    (subst (λ (ns : List (List TypePath)). (n : Paths) × Contains (map listed ns) n × (IsFit (type_of_paths n) → ⊥)) c.as_slice.ensures.value (when_false _ c.if-not-branch.true c.in_ok-all_fit.ensures))

pub returns : goal.returns
returns c = λ q rest from le choice b.
    cover_step c.args.lib.now c.args.x c.args.n (c.args.cover.now ∷ []) 0 c.args.cover.now (more q rest) from (map rule_of c.args.rules.now) (map rule_of c.push_head.new.self) (map listed c.arguments.new.args.items)
    (omega arith) refl c.in_ok-arguments.ensures
    (subst (λ (ns : List (List TypePath)). (n : Paths) → Contains (map listed ns) n → IsFit (type_of_paths n)) c.as_slice.ensures.value (when_true _ c.if-not-branch.false c.in_ok-all_fit.ensures))
    (lone_step c.args.lib.now c.requires.library (more q rest) from c.args.x c.args.n (map rule_of c.args.rules.now) b c.args.rules.now c.push_head.new.self c.args.cover.now c.arguments.new.args.items refl c.in_ok-arguments.ensures c.in_ok-push_head.ensures.ok)
    b
