use Rattle.std.proofs.Common.{length, string_bytes}
use Rattle.cls_proof.specs.Texts.{set_text}
use Rattle.cls_cert.proofs.Writing.{none_left, all_done}
use Rattle.cls_cert.proofs.layers.BlockLeft.write_sets.Goals as goal

pub write_sets-requires : goal.write_sets-requires
write_sets-requires c = c.requires.set

pub returns-clause-left : goal.returns-clause-left
returns-clause-left c =
    let left = c.requires in
    record { ascending = left.ascending; few = left.few; forced = left.forced; grown = left.grown; front = left.front; set = c.in_ok-next.ensures.within }

pub returns-clause-lines : goal.returns-clause-lines
returns-clause-lines c = c.in_ok-next.ensures.lines

pub returns-clause-full : goal.returns-clause-full
returns-clause-full c = λ few.
    let sets = c.args.self.now.sets in
    none_left set_text sets c.in_ok-next.next (all_done c.in_ok-next.next (length sets) (length (string_bytes c.write_sets.new.text)) c.args.enough c.in_ok-next.ensures.full few)
