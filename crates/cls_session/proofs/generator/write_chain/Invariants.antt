use Rattle.std.proofs.Common.{◌≡◌, ◌++◌, string_bytes}
use Rattle.cls_session.specs.Generators.{up_to, chain_line}
use Rattle.cls_session.proofs.generator.write_chain.Given as goal

abbrev pub invariant-loop-number : goal.invariant-loop-number
invariant-loop-number l = string_bytes l.text ≡ string_bytes l.initial.text ++ up_to chain_line l.number
