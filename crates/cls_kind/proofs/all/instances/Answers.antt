use Rattle.std.proofs.Common.{map, ap, ◌∙◌, ◌<◌, arith, subst}
use Rattle.std.proofs.lemmas.Bool.Decides.{nat_tests}
use Rattle.cls_base.specs.Schemas.{schema_of}
use Rattle.cls_kind.specs.Instances.{instance_by}
use Rattle.cls_kind.specs.Ranges.{AreLargest, capped_nodes, chosen_of, range_of}
use Rattle.cls_kind.proofs.KindLaws.{full-known}
use Rattle.cls_kind.proofs.LargestLaws.{few-all}
use Rattle.cls_kind.proofs.all.instances.Goals as goal

pub count-requires : goal.count-requires
count-requires c =
    full-known c.args.kinds.now (map range_of c.deref.result.now) (schema_of c.args.schema.now)
    (ap (map range_of) c.deref.ensures.value ∙ c.in_ok-ranges.ensures.ranges) c.in_ok-ranges.ensures.known

pub largest-requires : goal.largest-requires
largest-requires c =
    full-known c.args.kinds.now (map range_of c.deref-2.result.now) (schema_of c.args.schema.now)
    (ap (map range_of) c.deref-2.ensures.value ∙ c.in_ok-ranges.ensures.ranges) c.in_ok-ranges.ensures.known

pub new-requires-clause-few : goal.new-requires-clause-few
new-requires-clause-few c f =
    few-all (map range_of c.in_ok-ranges.ranges.items) (map chosen_of c.in_ok-largest.largest.items) (schema_of c.args.schema.now)
    (subst (λ rs. AreLargest (map range_of rs) (map chosen_of c.in_ok-largest.largest.items)) c.deref-2.ensures.value c.in_ok-largest.ensures)
    (subst (λ cs. capped_nodes (instance_by (map chosen_of cs) (schema_of c.args.schema.now)) < 4097) c.deref-3.ensures.value
    (subst (λ n. n < 4097) c.filled_nodes-few_nodes.ensures (grind (arith, nat_tests))))
