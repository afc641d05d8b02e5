use Rattle.std.proofs.Common.{◌≡◌, ◌∙◌, ◌++◌, [], List, ap, sym, arith, string_bytes}
use Rattle.std.specs.Prelude.{Option, codes}
use Rattle.std.specs.List.{flat_map}
use Rattle.std.proofs.lemmas.List.{length-map}
use Rattle.cls_core.specs.Arguments.{rules_of}
use Rattle.cls_core.specs.Rows.{Row}
use Rattle.cls_library.specs.declared.place.Place.{Place}
use Rattle.cls_path.specs.Paths.{TypePath}
use Rattle.cls_proof.specs.Certificates.{Member}
use Rattle.cls_proof.specs.Texts.{line, member_text}
use Rattle.cls_cert.specs.Conditions.{forms_of}
use Rattle.cls_cert.specs.Left.{block_left, blocks_left, members_text}
use Rattle.cls_cert.specs.Making.{goal_in}
use Rattle.cls_cert.proofs.MadeMembers.{members_left_none}
use Rattle.cls_cert.proofs.MemberWriting.{last_line}
use Rattle.cls_cert.proofs.Writing.{with_end}
use Rattle.cls_cert.proofs.members.MembersLeft.write_lines.Goals as goal

pub write_lines-requires : goal.write_lines-requires
write_lines-requires c = c.requires.block

pub write_goal-requires-clause-left : goal.write_goal-requires-clause-left
write_goal-requires-clause-left c =
    let left = c.requires in
    record { grammar = left.grammar; ranks = left.ranks; block = c.in_ok-write_lines.ensures.left; goal = left.goal; from = left.from; next = left.next }

pub write_goal-requires-clause-full : goal.write_goal-requires-clause-full
write_goal-requires-clause-full c = c.in_ok-write_lines.ensures.full

pub write_members-requires-clause-left : goal.write_members-requires-clause-left
write_members-requires-clause-left c = c.in_ok-write_goal.ensures.left

pub write_members-requires-clause-full : goal.write_members-requires-clause-full
write_members-requires-clause-full c = c.in_ok-write_goal.ensures.full

pub returns-then-written-enough-clause-lines : goal.returns-then-written-enough-clause-lines
returns-then-written-enough-clause-lines c =
    let m = c.args.self.now in
    let rest = blocks_left c.args.components.now c.args.lib.now (goal_in (forms_of c.args.grammar.now) m.goal) m.from ++ (members_text c.args.names.now c.args.components.now c.args.lib.now (forms_of c.args.grammar.now) m.ranks m.next ++ line (codes "qed")) in
    let block = with_end (string_bytes c.write_lines.new.text) (string_bytes c.args.text.now) (block_left c.write_lines.new.self) (block_left m.block) rest c.in_ok-write_lines.ensures.lines in
    (c.in_ok-write_members.ensures.lines ∙ (c.in_ok-write_goal.ensures.lines ∙ block), (let more = c.if-written-enough.true in omega (arith, c.len-written.ensures)))

pub returns-clause-lines : goal.returns-clause-lines
returns-clause-lines c =
    let m = c.args.self.now in
    let l = c.args.lib.now in
    let rows = c.args.grammar.now in
    let goals = forms_of rows in
    let names = c.args.names.now in
    let components = c.args.components.now in
    let done = c.write_members.new.self in
    let t = string_bytes c.write_members.new.text in
    let full = c.in_ok-write_members.ensures.full (let less = c.if-written-enough.false in omega (arith, c.len-written.ensures)) in
    let rest = blocks_left components l (goal_in goals m.goal) m.from ++ (members_text names components l goals m.ranks m.next ++ line (codes "qed")) in
    let block = with_end (string_bytes c.write_lines.new.text) (string_bytes c.args.text.now) (block_left c.write_lines.new.self) (block_left m.block) rest c.in_ok-write_lines.ensures.lines in
    let so_far = c.in_ok-write_members.ensures.lines ∙ (c.in_ok-write_goal.ensures.lines ∙ block) in
    let ranked = c.in_ok-write_members.ensures.left.ranks.count ∙ length-map rows (λ (r : Row (List TypePath)). rules_of r.answer) in
    let none : members_text names components l goals done.ranks done.next ≡ [] =
    ap (λ (ms : List Member). flat_map (member_text names components) ms) (members_left_none l rows done.ranks ranked done.next full.2) in
    last_line t (string_bytes c.push_str.new.self) _ (block_left done.block) (members_text names components l goals done.ranks done.next) (line (codes "qed")) full.0 none c.in_ok-push_str.ensures.bytes
    (ap (λ (o : Option Place). t ++ (block_left done.block ++ (blocks_left components l (goal_in goals done.goal) o ++ (members_text names components l goals done.ranks done.next ++ line (codes "qed"))))) (sym full.1) ∙ so_far)
