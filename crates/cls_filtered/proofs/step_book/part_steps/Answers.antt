use Rattle.std.proofs.Common.{◌+◌, ◌-◌, arith}
use Rattle.cls_filtered.proofs.StepBooks.{part-at}
use Rattle.cls_filtered.proofs.step_book.part_steps.Goals as goal

pub returns : goal.returns
returns c = part-at c.args.parts.now c.args.place (c.args.place + 1 - c.args.place) c.requires (omega arith)
