use Rattle.std.proofs.Common.{◌≡◌, ◌<◌, ◌+◌, suc, List, length, drop, slice_get, Some, sym, ap, ◌∙◌, add-one, arith}
use Rattle.cls_proof.specs.Certificates.{Block, Member}
use Rattle.cls_proof.specs.MemberColumns.{blocks_start, member_with}
use Rattle.cls_proof.specs.Parts.{next_start}
use Rattle.cls_proof.proofs.PartLaws.{length-parts, parts-at, start-at, end-at}
use Rattle.cls_proof.proofs.member.Members.get.Goals as goal

pub index-member-requires : goal.index-member-requires
index-member-requires c =
    let i = c.self.inside in
    omega (arith, c.requires, ap length c.self.view_is, length-parts blocks_start member_with i.starts.items i.blocks)

pub end_of-end-requires : goal.end_of-end-requires
end_of-end-requires c =
    let i = c.self.inside in
    omega (arith, c.requires, ap length c.self.view_is, length-parts blocks_start member_with i.starts.items i.blocks, ap length c.as_slice.ensures.value)

pub part-requires-clause-rise : goal.part-requires-clause-rise
part-requires-clause-rise c =
    let i = c.self.inside in
    let n : c.end_of-end.result ≡ next_start blocks_start (drop (suc c.args.i) i.starts.items) (length i.blocks) =
    rw add-one at (c.end_of-end.ensures ∙ (λ j. next_start blocks_start (drop (c.args.i + 1) (c.as_slice.ensures.value j)) (c.len.ensures j))) in
    let l : c.args.i < length i.starts.items = omega (arith, c.requires, ap length c.self.view_is, length-parts blocks_start member_with i.starts.items i.blocks) in
    omega (arith, n, start-at blocks_start i.starts.items c.args.i (length i.blocks) c.index-member.result.now c.self.invariant c.index-member.ensures l)

pub part-requires-clause-within : goal.part-requires-clause-within
part-requires-clause-within c =
    let i = c.self.inside in
    let n : c.end_of-end.result ≡ next_start blocks_start (drop (suc c.args.i) i.starts.items) (length i.blocks) =
    rw add-one at (c.end_of-end.ensures ∙ (λ j. next_start blocks_start (drop (c.args.i + 1) (c.as_slice.ensures.value j)) (c.len.ensures j))) in
    omega (arith, n, end-at blocks_start i.starts.items (suc c.args.i) (length i.blocks) c.self.invariant)

pub returns : goal.returns
returns c =
    let i = c.self.inside in
    let b = c.index-member.result.now in
    let e = c.end_of-end.result in
    let l : c.args.i < length i.starts.items = omega (arith, c.requires, ap length c.self.view_is, length-parts blocks_start member_with i.starts.items i.blocks) in
    let n : e ≡ next_start blocks_start (drop (suc c.args.i) i.starts.items) (length i.blocks) =
    rw add-one at (c.end_of-end.ensures ∙ (λ j. next_start blocks_start (drop (c.args.i + 1) (c.as_slice.ensures.value j)) (c.len.ensures j))) in
    ap (λ (members : List Member). slice_get members c.args.i) (sym c.self.view_is)
    ∙ (parts-at blocks_start member_with i.starts.items c.args.i b e i.blocks c.index-member.ensures l n
    ∙ ap (λ (blocks : List Block). Some (member_with b blocks)) (sym c.part.ensures))
