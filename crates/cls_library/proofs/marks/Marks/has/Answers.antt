use Rattle.std.proofs.Common.{◌/◌, ◌%◌, ◌^◌, ◌==◌, ap, ◌∙◌, bit_and}
use Rattle.std.specs.Prelude.{slice_index_or}
use Rattle.std.proofs.lemmas.Nat.Bits.{shr_and_one}
use Rattle.cls_library.specs.Endings.{mark_of}
use Rattle.cls_library.proofs.marks.Marks.has.Goals as goal

pub returns : goal.returns
returns c =
    let words = c.args.self.now.words in
    let k = mark_of c.args.head in
    ap (λ k. bit_and (slice_index_or words (k / 64) 0 / 2 ^ (k % 64)) 1 == 1) c.mark-mark.ensures.mark
    ∙ ap (λ b. b == 1) (shr_and_one (slice_index_or words (k / 64) 0) (k % 64))
