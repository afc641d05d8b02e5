use Rattle.std.proofs.Common.{◌≡◌, ◌++◌, drop, string_bytes}
use Rattle.cls_proof.specs.Texts.{numbers_text}
use Rattle.cls_proof.proofs.print.write_numbers.Given as goal

abbrev pub invariant-loop-number : goal.invariant-loop-number
invariant-loop-number l = string_bytes l.text ++ numbers_text (drop l.number-index l.numbers) ≡ string_bytes l.initial.text ++ numbers_text l.numbers
