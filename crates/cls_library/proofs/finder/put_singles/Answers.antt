use Rattle.std.proofs.Common.{◌≡◌, ◌+◌, List, length, map, subst, ◌∙◌, arith}
use Rattle.std.specs.Prelude.{IsSomeAnd, slice_get}
use Rattle.cls_path.specs.Paths.{TypePath}
use Rattle.cls_library.specs.Families.{alone}
use Rattle.cls_library.specs.Leads.{PutsFamily, path_of}
use Rattle.cls_library.proofs.Gaining.{gained, single-more, begun}
use Rattle.cls_library.proofs.Viewing.{paths-length}
use Rattle.cls_library.proofs.finder.put_singles.Goals as goal

pub returns-then-len-i-clause-found : goal.returns-then-len-i-clause-found
returns-then-len-i-clause-found c =
    let l = c.args.lib.now in
    let goal = map path_of c.args.leads.now.items in
    let i = c.loop-i.i in
    let old = c.loop-i.positions.items in
    let new = c.put_one.new.positions.items in
    let puts : IsSomeAnd (slice_get goal i) (λ q. PutsFamily l q c.args.place old new) =
    subst (λ (qs : List TypePath). IsSomeAnd (slice_get qs i) (λ q. PutsFamily l q c.args.place old new)) c.loop-i.invariant.paths c.in_ok-put_one.ensures.family in
    begun l goal c.args.place i old new c.loop-i.invariant.count (gained l goal c.args.place i (map alone old) old new c.loop-i.invariant.found puts)

pub loop-i-preserved : goal.loop-i-preserved
loop-i-preserved c =
    let l = c.args.lib.now in
    let goal = map path_of c.args.leads.now.items in
    let i = c.loop-i.i in
    let old = c.loop-i.positions.items in
    let new = c.put_one.new.positions.items in
    let puts : IsSomeAnd (slice_get goal i) (λ q. PutsFamily l q c.args.place old new) =
    subst (λ (qs : List TypePath). IsSomeAnd (slice_get qs i) (λ q. PutsFamily l q c.args.place old new)) c.loop-i.invariant.paths c.in_ok-put_one.ensures.family in
    let count : length new ≡ i + 1 = omega arith in
    record {
      leads = c.in_ok-put_one.ensures.leads;
      paths = c.in_ok-put_one.ensures.paths ∙ c.loop-i.invariant.paths;
      size = paths-length c.put_one.new.leads.items c.loop-i.leads.items c.in_ok-put_one.ensures.paths ∙ c.loop-i.invariant.size;
      count = count;
      found = single-more l goal c.args.place i old new c.loop-i.invariant.count count (gained l goal c.args.place i (map alone old) old new c.loop-i.invariant.found puts);
    }
