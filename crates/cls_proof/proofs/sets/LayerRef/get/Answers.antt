use Rattle.std.proofs.Common.{◌≡◌, length, take, drop, ap, arith}
use Rattle.cls_proof.proofs.PartLaws.{part-length}
use Rattle.cls_proof.proofs.sets.LayerRef.get.Goals as goal

pub overflow_add-self-inside : goal.overflow_add-self-inside
overflow_add-self-inside c =
    let i = c.self.inside in
    let v : length (drop i.start (take i.end i.all.now)) ≡ length c.args.self.now = ap length c.self.view_is in
    omega (arith, c.requires, part-length i.all.now i.start i.end c.self.invariant.1)
