use Rattle.std.proofs.Common.{ℕ, ◌≡◌, ◌<◌, length, get_or, []}
use Rattle.cls_path.specs.Paths.{listed}
use Rattle.cls_check.specs.Arguments.{argument_type}
use Rattle.cls_check.specs.Checking.{IsForm}
use Rattle.cls_check.specs.Places.{arrows_in}
use Rattle.cls_check.proofs.argument.arguments.Given as goal

abbrev pub invariant-loop-number : goal.invariant-loop-number
invariant-loop-number l = record {
  count : length l.arguments.items ≡ l.number;
  each : (i : ℕ) → i < l.number → IsForm l.lib (argument_type (arrows_in l.lib l.place) l.positions i) (listed (get_or l.arguments.items i []));
}
