use Rattle.std.proofs.Common.{◌≤◌, List, length, sym, ap, subst, arith}
use Rattle.cls_path.specs.Paths.{TypePath}
use Rattle.cls_library.specs.Families.{Finder}
use Rattle.cls_expand.specs.Answers.{IsReady}
use Rattle.cls_expand.proofs.Known.{all_known, known_alone, known_before, path_of_goal}
use Rattle.cls_expand.proofs.Places.{if_ok_map}
use Rattle.cls_expand.proofs.expander.more_rules.Goals as goal

pub returns-then-x-count : goal.returns-then-x-count
returns-then-x-count c =
    let t : c.count-count.result ≤ c.args.x = c.if-x-count.true in
    let n = c.count-count.ensures.count in
    let w : c.args.x ≤ length c.args.lib.now.components = c.requires.within in
    all_known c.args.lib.now c.args.goal.now c.args.x c.args.known c.requires.path (omega arith) c.requires.before

pub returns-in_default : goal.returns-in_default
returns-in_default c =
    known_alone c.args.lib.now c.args.goal.now c.args.x c.args.known c.requires.path c.requires.within (rw c.in_default.is at c.in_ok-finder.ensures.none) c.requires.before

pub put_between-requires-clause-library : goal.put_between-requires-clause-library
put_between-requires-clause-library c = ap (λ (f : Finder). f.library) (rw c.in-Some.is at c.in_ok-finder.ensures.finder)

pub put_between-requires-clause-ready : goal.put_between-requires-clause-ready
put_between-requires-clause-ready c =
    subst (λ (g : List TypePath). IsReady c.args.lib.now g) (sym (ap (λ (f : Finder). f.goal) (rw c.in-Some.is at c.in_ok-finder.ensures.finder))) c.requires.ready

pub put_between-requires-clause-path : goal.put_between-requires-clause-path
put_between-requires-clause-path c =
    path_of_goal _ c.args.goal.now (ap (λ (f : Finder). f.goal) (rw c.in-Some.is at c.in_ok-finder.ensures.finder)) c.requires.path

pub returns : goal.returns
returns c =
    let is = rw c.in-Some.is at c.in_ok-finder.ensures.finder in
    if_ok_map c.put_between.result _ _
    (λ a h. known_before c.args.lib.now _ c.args.goal.now c.args.x c.count-count.result c.args.known a c.requires.path is c.count-count.ensures.count c.requires.before h)
    c.put_between.ensures
