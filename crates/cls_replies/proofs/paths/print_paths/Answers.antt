use Rattle.std.proofs.Common.{◌≤◌, length, arith, string_bytes}
use Rattle.cls_replies.proofs.Portions.{paths_on, paths_done}
use Rattle.cls_replies.proofs.paths.print_paths.Goals as goal

pub returns-then-written-enough-clause-lines : goal.returns-then-written-enough-clause-lines
returns-then-written-enough-clause-lines c =
    paths_on c.args.names.now c.paths-items.result.now c.args.paths.now c.paths-items.ensures c.args.from c.loop-place.place (string_bytes c.args.text.now) (string_bytes c.loop-place.text) c.loop-place.invariant

pub returns-clause-lines : goal.returns-clause-lines
returns-clause-lines c =
    let over : length c.paths-items.result.now ≤ c.loop-place.place = omega (arith, c.loop-place-test.false) in
    paths_done c.args.names.now c.paths-items.result.now c.args.paths.now c.paths-items.ensures c.args.from c.loop-place.place (string_bytes c.args.text.now) (string_bytes c.loop-place.text) c.loop-place.invariant (string_bytes c.write_done.new.text) over c.in_ok-write_done.ensures
