use Rattle.std.proofs.Common.{◌≡◌, ◌++◌, drop, string_bytes}
use Rattle.std.specs.List.{flat_map}
use Rattle.cls_proof.specs.Texts.{set_text}
use Rattle.cls_cert.proofs.layers.write_sets.Given as goal

abbrev pub invariant-loop-place : goal.invariant-loop-place
invariant-loop-place l = string_bytes l.text ++ flat_map set_text (drop l.place l.sets) ≡ string_bytes l.initial.text ++ flat_map set_text (drop l.from l.sets)
