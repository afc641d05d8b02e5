use Rattle.std.proofs.Common.{ap, length, List, Option, ℕ, ◌∙◌, arith}
use Rattle.cls_filter.specs.Tables.{first_said, said_at}
use Rattle.cls_filter.proofs.Tables.{room_within, said_written}
use Rattle.cls_filter.proofs.table.put_said.Goals as goal

pub index_mut-requires : goal.index_mut-requires
index_mut-requires c =
    let same = ap length c.in_ok-make_room.ensures.ok in
    omega (arith, same, room_within c.args.said.now.items c.args.number, c.make_room.new.said.ok.0)

pub returns-clause-ok : goal.returns-clause-ok
returns-clause-ok c =
    let before = c.said_at.ensures ∙ ap (λ (xs : List (Option (Option ℕ))). said_at xs c.args.number) c.as_slice.ensures.value in
    said_written c.args.said.now.items c.make_room.new.said.items c.args.number c.args.state c.first_said-first.result c.in_ok-make_room.ensures.ok (c.first_said-first.ensures ∙ ap (λ (s : Option (Option ℕ)). first_said s c.args.state) before)
