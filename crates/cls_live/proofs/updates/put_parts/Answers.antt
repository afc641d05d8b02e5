use Rattle.std.proofs.Common.{◌++◌, ◌∷◌, ◌∙◌, [], List, append_assoc, length, refl, sym, ap, arith, rules}
use Rattle.std.proofs.lemmas.List.{length-set}
use Rattle.cls_live.specs.declared.known.Part.{Part}
use Rattle.cls_live.specs.Updates.{with_parts}
use Rattle.cls_live.proofs.Parting.{parts_done, part_within_of}
use Rattle.cls_live.proofs.updates.put_parts.Goals as goal

pub loop-part-init : goal.loop-part-init
loop-part-init c = record { split = search rules; put = search rules; count = refl }

pub index_mut-requires : goal.index_mut-requires
index_mut-requires c =
    let inv = c.loop-part.invariant in
    let split = inv.split ∙ ap (λ (us : List Part). c.loop-part.yielded ++ us) c.in-Some.ensures.steps.0 in
    let less = part_within_of c.args.parts.items c.loop-part.yielded c.next.new.self.rest.items c.in-Some.part (length c.args.known.now.items) split c.requires in
    omega (arith, inv.count, c.loop-part.known.ok.0)

pub loop-part-preserved : goal.loop-part-preserved
loop-part-preserved c =
    let inv = c.loop-part.invariant in
    record {
      split =
          inv.split ∙ (ap (λ (us : List Part). c.loop-part.yielded ++ us) c.in-Some.ensures.steps.0
          ∙ sym (append_assoc c.loop-part.yielded (c.in-Some.part ∷ []) c.next.new.self.rest.items));
      put = ap (with_parts c.loop-part.known.items) (sym c.in-Some.ensures.steps.0) ∙ inv.put;
      count = length-set c.loop-part.known.items c.in-Some.part.number c.in-Some.part.known ∙ inv.count;
    }

pub returns : goal.returns
returns c =
    parts_done c.loop-part.known.items c.loop-part.part-iterator.rest.items
    (sym c.loop-part.part-iterator.rest.ok.0 ∙ c.in-None.ensures.steps.0) ∙ c.loop-part.invariant.put
