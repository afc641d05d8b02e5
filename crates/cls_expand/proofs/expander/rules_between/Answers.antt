use Rattle.std.proofs.Common.{[], List, sym, ap, subst}
use Rattle.std.specs.Prelude.{map}
use Rattle.cls_base.specs.declared.rule.Rule.{Rule}
use Rattle.cls_path.specs.Paths.{TypePath, listed}
use Rattle.cls_library.specs.declared.place.Place.{Place}
use Rattle.cls_library.specs.Families.{Finder}
use Rattle.cls_expand.specs.Answers.{rule_of, IsReady}
use Rattle.cls_expand.specs.Making.{AreBegun}
use Rattle.cls_expand.proofs.Known.{between_put, path_of_goal}
use Rattle.cls_expand.proofs.Making.{begun_none}
use Rattle.cls_expand.proofs.Places.{if_ok_map, some_parts}
use Rattle.cls_expand.proofs.Unreached.{reached_start, begun_before}
use Rattle.cls_expand.proofs.expander.rules_between.Goals as goal

pub returns-in_default : goal.returns-in_default
returns-in_default c =
    let l = c.args.lib.now in
    let goal = c.args.goal.now in
    let q = some_parts goal c.requires.path in
    let from : Place = record { component = c.args.begin; count = 0 } in
    let none = rw c.in_default.is at c.in_ok-finder.ensures.none in
    subst (λ (rs : List (Rule (List TypePath))). AreBegun l (listed goal) c.args.begin c.args.end 0 [] (map rule_of rs)) (sym c.new-in_default.ensures)
    (begun_before l (listed goal) q.0 q.1 q.2 c.args.begin from [] (begun_none l (listed goal) c.args.begin) c.args.end c.requires.within
    (reached_start c.args.begin c.args.end c.requires.order) (λ p place later before. none from p place later))

pub put_between-requires-clause-library : goal.put_between-requires-clause-library
put_between-requires-clause-library c = ap (λ (f : Finder). f.library) (rw c.in-Some.is at c.in_ok-finder.ensures.finder)

pub put_between-requires-clause-ready : goal.put_between-requires-clause-ready
put_between-requires-clause-ready c =
    subst (λ (g : List TypePath). IsReady c.args.lib.now g) (sym (ap (λ (f : Finder). f.goal) (rw c.in-Some.is at c.in_ok-finder.ensures.finder))) c.requires.ready

pub put_between-requires-clause-path : goal.put_between-requires-clause-path
put_between-requires-clause-path c =
    path_of_goal _ c.args.goal.now (ap (λ (f : Finder). f.goal) (rw c.in-Some.is at c.in_ok-finder.ensures.finder)) c.requires.path

pub returns : goal.returns
returns c =
    let is = rw c.in-Some.is at c.in_ok-finder.ensures.finder in
    if_ok_map c.put_between.result _ _
    (λ a h. between_put c.args.lib.now _ c.args.goal.now c.args.begin c.args.end c.in_ok-rules.rules a is c.in_ok-rules.ensures h) c.put_between.ensures
