use Rattle.std.proofs.Common.{◌≡◌, ◌∙◌, ◌<◌, ◌++◌, length, ap, sym, subst, arith, string_bytes}
use Rattle.std.specs.Prelude.{IfSome, Option}
use Rattle.cls_library.specs.declared.place.Place.{Place}
use Rattle.cls_path.specs.Paths.{Paths, listed}
use Rattle.cls_proof.specs.Texts.{line}
use Rattle.std.specs.Prelude.{codes}
use Rattle.cls_cert.specs.Conditions.{forms_of}
use Rattle.cls_cert.specs.Left.{IsStart, block_left, blocks_left, blocks_text, members_text}
use Rattle.cls_cert.specs.Making.{goal_in}
use Rattle.cls_cert.proofs.MemberWriting.{goal_written}
use Rattle.cls_cert.proofs.Ruled.{ruled}
use Rattle.cls_cert.proofs.members.MembersLeft.write_goal.Goals as goal

pub returns-in_default-clause-full : goal.returns-in_default-clause-full
returns-in_default-clause-full c = λ few. (c.requires.full few, c.in_default.is)

pub goal-goal-requires : goal.goal-goal-requires
goal-goal-requires c = c.requires.left.goal

pub write_blocks-requires-clause-ready : goal.write_blocks-requires-clause-ready
write_blocks-requires-clause-ready c = (ruled c.args.lib.now c.args.named.now.grammar.now c.requires.left.grammar c.args.self.now.goal c.goal-goal.result.now c.goal-goal.ensures).ready

pub write_blocks-requires-clause-narrow : goal.write_blocks-requires-clause-narrow
write_blocks-requires-clause-narrow c = (ruled c.args.lib.now c.args.named.now.grammar.now c.requires.left.grammar c.args.self.now.goal c.goal-goal.result.now c.goal-goal.ensures).narrow

pub write_blocks-requires-clause-start : goal.write_blocks-requires-clause-start
write_blocks-requires-clause-start c = subst (λ o. IfSome o (IsStart c.args.lib.now)) c.in-Some.is c.requires.left.from

pub write_blocks-requires-clause-left : goal.write_blocks-requires-clause-left
write_blocks-requires-clause-left c = c.requires.left.block

pub write_blocks-requires-clause-none : goal.write_blocks-requires-clause-none
write_blocks-requires-clause-none c = c.requires.full (let less = c.if-written-enough.false in omega (arith, c.len-written.ensures))

pub returns-then-written-enough-clause-full : goal.returns-then-written-enough-clause-full
returns-then-written-enough-clause-full c = λ few.
    let more = c.if-written-enough.true in
    let less : length (string_bytes c.args.text.now) < c.args.enough = few in
    absurd (omega (arith, c.len-written.ensures))

pub returns-clause-left : goal.returns-clause-left
returns-clause-left c =
    let left = c.requires.left in
    record { grammar = left.grammar; ranks = left.ranks; block = c.in_ok-next.ensures.left; goal = left.goal; from = c.in_ok-next.ensures.within; next = left.next }

pub returns-clause-lines : goal.returns-clause-lines
returns-clause-lines c =
    let m = c.args.self.now in
    let l = c.args.lib.now in
    let components = c.args.named.now.components.now in
    let goals = forms_of c.args.named.now.grammar.now in
    let t = string_bytes c.args.text.now in
    let t' = string_bytes c.write_blocks.new.text in
    let block = c.write_blocks.new.block in
    let rest = members_text c.args.named.now.names.now components l goals m.ranks m.next ++ line (codes "qed") in
    let form : goal_in goals m.goal ≡ listed c.goal-goal.result.now = (ruled l c.args.named.now.grammar.now c.requires.left.grammar m.goal c.goal-goal.result.now c.goal-goal.ensures).goal in
    let none = c.requires.full (let less = c.if-written-enough.false in omega (arith, c.len-written.ensures)) in
    let written : t' ++ (block_left block ++ blocks_left components l (goal_in goals m.goal) c.in_ok-next.next) ≡ t ++ blocks_text components l (goal_in goals m.goal) c.in-Some.from =
    subst (λ (g : Paths). t' ++ (block_left block ++ blocks_left components l g c.in_ok-next.next) ≡ t ++ blocks_text components l g c.in-Some.from) (sym form) c.in_ok-next.ensures.lines in
    goal_written t t' (block_left m.block) (block_left block) (blocks_text components l (goal_in goals m.goal) c.in-Some.from) (blocks_left components l (goal_in goals m.goal) c.in_ok-next.next) rest none written
    ∙ ap (λ (o : Option Place). t ++ (block_left m.block ++ (blocks_left components l (goal_in goals m.goal) o ++ rest))) (sym c.in-Some.is)

pub returns-clause-full : goal.returns-clause-full
returns-clause-full c = c.in_ok-next.ensures.full
