use Rattle.std.proofs.Common.{ℕ, List, ◌++◌, length}
use Rattle.cls_syntax.specs.SpelledNumbers.{numerals_of}
use Rattle.cls_proof.specs.Reading.{AreNumbers}
use Rattle.cls_proof.proofs.reading.numbers.Given as goal

abbrev pub invariant-loop-numeral : goal.invariant-loop-numeral
invariant-loop-numeral l = record {
  read : (ns : List ℕ) → AreNumbers (numerals_of l.rest) ns → AreNumbers (numerals_of l.numerals) (l.numbers ++ ns);
  left : (ns : List ℕ) → AreNumbers (numerals_of l.numerals) ns → (rest : List ℕ) × AreNumbers (numerals_of l.rest) rest;
}

abbrev pub decreases-loop-numeral : goal.decreases-loop-numeral
decreases-loop-numeral l = length (numerals_of l.rest)
