use Rattle.std.proofs.Common.{◌≡◌, ◌++◌, length}
use Rattle.std.specs.Vec.Iter.{into_iter_items, into_iter_len}
use Rattle.cls_proof.specs.Drafts.{said_in}
use Rattle.cls_proof.specs.Chunks.{lines_in, AreRead}
use Rattle.cls_proof.proofs.read.read_chunks.Given as goal

abbrev pub invariant-loop-chunk : goal.invariant-loop-chunk
invariant-loop-chunk l = record {
  so_far : AreRead l.components l.initial.names (lines_in l.yielded) l.names (said_in l.draft);
  counted : l.number ≡ length (lines_in l.yielded);
  all : l.yielded ++ into_iter_items l.chunk-iterator ≡ l.fn.chunks.items;
  left : into_iter_len l.chunk-iterator ≡ length (into_iter_items l.chunk-iterator);
}
