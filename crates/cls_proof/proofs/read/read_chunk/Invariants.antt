use Rattle.std.proofs.Common.{◌≡◌, ◌+◌, take}
use Rattle.cls_proof.specs.Drafts.{said_in}
use Rattle.cls_proof.specs.Chunks.{IsReadBehind}
use Rattle.cls_proof.specs.Said.{HasGrown}
use Rattle.cls_proof.proofs.read.read_chunk.Given as goal

abbrev pub invariant-loop-i : goal.invariant-loop-i
invariant-loop-i l = record {
  so_far : IsReadBehind l.components l.initial.names l.names (take l.i l.chunk) (said_in l.initial.draft) (said_in l.draft);
  grown : HasGrown l.initial.names l.names;
  counted : l.number ≡ l.before + l.i;
}
