use Rattle.std.proofs.Common.{◌≡◌, take}
use Rattle.cls_library.specs.Stems.{numbers_of}
use Rattle.cls_library.proofs.stems.stem_numbers.Given as goal

abbrev pub invariant-loop-path : goal.invariant-loop-path
invariant-loop-path l = l.numbers.items ≡ numbers_of l.count l.depth (take l.path-index l.paths)
