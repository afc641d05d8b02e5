use Rattle.std.proofs.Common.{◌++◌, ◌∷◌, [], ap, ◌∙◌, arith}
use Rattle.cls_base.specs.Columns.{rule_of}
use Rattle.cls_filtered.specs.Makings.{MadeRules}
use Rattle.cls_filtered.proofs.making.Making.push.Goals as goal

pub returns-then-room-eq0-clause-large : goal.returns-then-room-eq0-clause-large
returns-then-room-eq0-clause-large c =
    let room = ap (λ (s : MadeRules). s.room) c.self.view_is in
    let none = c.if-room-eq0.true in
    omega (arith, room, none)

pub returns-clause-ok : goal.returns-clause-ok
returns-clause-ok c = record {
  rules = c.in_ok-push.ensures.ok ∙ ap (λ (s : MadeRules). s.rules ++ rule_of c.args.rule ∷ []) c.self.view_is;
  room = (let room = ap (λ (s : MadeRules). s.room) c.self.view_is in let some = c.if-room-eq0.false in omega (arith, room, some));
}
