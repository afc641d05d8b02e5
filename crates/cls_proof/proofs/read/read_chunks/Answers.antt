use Rattle.std.proofs.Common.{◌++◌, ◌∷◌, [], length, length-append, refl, ap, sym, ◌∙◌, subst, arith, append_assoc}
use Rattle.std.specs.Vec.Iter.{into_iter_items, into_iter_steps}
use Rattle.std.proofs.lemmas.Result.{err_from_is_err_and}
use Rattle.cls_proof.specs.Drafts.{said_in}
use Rattle.cls_proof.specs.Chunks.{lines_in}
use Rattle.cls_proof.proofs.Chunks.{chunks_read, lines_push, all_chunks, fault_of_all, chunk_fits}
use Rattle.cls_proof.proofs.SaidLines.{none_read, grown_on, kept_front}
use Rattle.cls_proof.proofs.WholeLines.{answer, answer_held}
use Rattle.cls_proof.proofs.read.read_chunks.Goals as goal

pub loop-chunk-init : goal.loop-chunk-init
loop-chunk-init c = record {
  so_far = none_read c.args.components.now c.args.names.now;
  counted = refl;
  all = c.into_iter-chunk-iterator.ensures.into_iter_gives.0;
  left = c.into_iter-chunk-iterator.ensures.into_iter_gives.1 ∙ (c.args.chunks.ok.0 ∙ ap length (sym c.into_iter-chunk-iterator.ensures.into_iter_gives.0));
}

pub read_chunk-requires : goal.read_chunk-requires
read_chunk-requires c =
    let l = c.loop-chunk in
    let step = subst (λ r. into_iter_steps l.chunk-iterator r c.next.new.self) c.in-Some.is c.next.ensures.steps in
    omega (arith, c.requires, l.invariant.counted, chunk_fits c.args.chunks.items l.yielded (into_iter_items l.chunk-iterator) _ c.in-Some.chunk l.invariant.all step.0)

pub loop-chunk-preserved : goal.loop-chunk-preserved
loop-chunk-preserved c =
    let l = c.loop-chunk in
    let chunk = c.in-Some.chunk in
    let step = subst (λ r. into_iter_steps l.chunk-iterator r c.next.new.self) c.in-Some.is c.next.ensures.steps in
    record {
      so_far = chunks_read c.args.components.now c.args.names.now l.names c.read_chunk.new.names l.yielded chunk (said_in l.draft) _ l.invariant.so_far c.in_ok-draft.ensures.read;
      counted = omega (arith, l.invariant.counted, ap length (lines_push l.yielded chunk), length-append (lines_in l.yielded) chunk);
      all = append_assoc l.yielded (chunk ∷ []) _ ∙ (ap (λ ps. l.yielded ++ ps) (sym step.0) ∙ l.invariant.all);
      left = omega (arith, step.1, l.invariant.left, ap length step.0);
    }

pub returns-in_err-draft-clause-exact : goal.returns-in_err-draft-clause-exact
returns-in_err-draft-clause-exact c =
    let l = c.loop-chunk in
    let step = subst (λ r. into_iter_steps l.chunk-iterator r c.next.new.self) c.in-Some.is c.next.ensures.steps in
    let p = err_from_is_err_and c.from_residual.result c.from_residual.ensures.1 in
    rw (p.1, p.2) (fault_of_all c.args.components.now c.args.names.now l.names c.args.chunks.items l.yielded (into_iter_items l.chunk-iterator) _ c.in-Some.chunk l.number l.draft _ l.invariant.all step.0 l.invariant.counted l.invariant.so_far c.in_err-draft.ensures.read)

pub returns-in_err-draft-clause-kept : goal.returns-in_err-draft-clause-kept
returns-in_err-draft-clause-kept c =
    let l = c.loop-chunk in
    kept_front c.args.names.now c.read_chunk.new.names (grown_on c.args.names.now l.names c.read_chunk.new.names l.invariant.so_far.texts l.invariant.so_far.numbered c.read_chunk.ensures.grown)

pub returns-clause-exact : goal.returns-clause-exact
returns-clause-exact c =
    let l = c.loop-chunk in
    let step = subst (λ r. into_iter_steps l.chunk-iterator r c.next.new.self) c.in-None.is c.next.ensures.steps in
    let all = all_chunks c.args.components.now c.args.names.now l.names c.args.chunks.items l.yielded (into_iter_items l.chunk-iterator) _ (said_in l.draft) l.invariant.all l.invariant.left step.0 l.invariant.so_far in
    answer c.args.components.now c.args.names.now (lines_in c.args.chunks.items) l.names l.draft c.finish.result c.ok_or.result c.ok_or.ensures.value c.finish.ensures all

pub returns-clause-held : goal.returns-clause-held
returns-clause-held c =
    let l = c.loop-chunk in
    let step = subst (λ r. into_iter_steps l.chunk-iterator r c.next.new.self) c.in-None.is c.next.ensures.steps in
    let all = all_chunks c.args.components.now c.args.names.now l.names c.args.chunks.items l.yielded (into_iter_items l.chunk-iterator) _ (said_in l.draft) l.invariant.all l.invariant.left step.0 l.invariant.so_far in
    answer_held c.args.components.now c.args.names.now (lines_in c.args.chunks.items) l.names l.draft c.finish.result c.ok_or.result c.ok_or.ensures.value c.finish.ensures all

pub returns-clause-kept : goal.returns-clause-kept
returns-clause-kept c = kept_front c.args.names.now c.loop-chunk.names (c.loop-chunk.invariant.so_far.texts, c.loop-chunk.invariant.so_far.numbered)
