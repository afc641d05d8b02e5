use Rattle.std.proofs.Common.{◌≡◌, ◌∙◌, ◌<◌, List, length, ap, refl, sym, subst, arith, string_bytes}
use Rattle.std.specs.Prelude.{IfSome, Option, None, Some}
use Rattle.std.proofs.lemmas.List.{length-map}
use Rattle.cls_core.specs.Arguments.{rules_of}
use Rattle.cls_core.specs.Rows.{Row}
use Rattle.cls_library.specs.Libraries.{Library}
use Rattle.cls_library.specs.declared.place.Place.{Place}
use Rattle.cls_path.specs.Paths.{TypePath}
use Rattle.cls_cert.specs.Computed.{start_place}
use Rattle.cls_cert.specs.Left.{AreMembersLeft, IsStart, block_left}
use Rattle.cls_cert.specs.declared.members.MembersLeft.{MembersLeft}
use Rattle.cls_cert.proofs.members.MembersLeft.write_members.Goals as goal

-- where blocks begin, they may be sought
begins : (l : Library) (o : Option Place) → IfSome o (λ place. place ≡ start_place) → IfSome o (IsStart l)
begins l None e = tt
begins l (Some p) e = subst (λ (q : Place). IsStart l q) (sym e) (record { component = (omega arith); count = (omega arith) })

pub loop-number-init : goal.loop-number-init
loop-number-init c = record { left = c.requires.left; lines = refl; full = c.requires.full; next = refl }

pub begin_member-requires-clause-ranked : goal.begin_member-requires-clause-ranked
begin_member-requires-clause-ranked c = c.loop-number.invariant.left.ranks.count ∙ length-map c.args.named.now.grammar.now (λ (r : Row (List TypePath)). rules_of r.answer)

pub begin_member-requires-clause-next : goal.begin_member-requires-clause-next
begin_member-requires-clause-next c = c.loop-number.invariant.next

pub begin_member-requires-clause-more : goal.begin_member-requires-clause-more
begin_member-requires-clause-more c = (let test = c.loop-number-test.true in omega (arith, c.count-number-end.ensures.count))

pub begin_member-requires-clause-goal : goal.begin_member-requires-clause-goal
begin_member-requires-clause-goal c = c.loop-number.invariant.left.goal

pub begin_member-requires-clause-none : goal.begin_member-requires-clause-none
begin_member-requires-clause-none c = c.loop-number.invariant.full (let less = c.if-written-enough.false in omega (arith, c.len-written.ensures))

pub write_goal-requires-clause-left : goal.write_goal-requires-clause-left
write_goal-requires-clause-left c =
    let left = c.loop-number.invariant.left in
    let more : c.loop-number.number < length c.args.named.now.grammar.now = (let test = c.loop-number-test.true in omega (arith, c.count-number-end.ensures.count)) in
    let b = c.in_ok-begin_member.ensures in
    subst (λ (m : MembersLeft). AreMembersLeft c.args.lib.now c.args.named.now.grammar.now m) (sym b.same)
    (record { grammar = left.grammar; ranks = left.ranks; block = left.block; goal = b.goal; from = begins c.args.lib.now c.begin_member.new.self.from b.from; next = omega arith })

pub write_goal-requires-clause-full : goal.write_goal-requires-clause-full
write_goal-requires-clause-full c = λ few.
    ap (λ (m : MembersLeft). block_left m.block) c.in_ok-begin_member.ensures.same
    ∙ (c.loop-number.invariant.full (let less = c.if-written-enough.false in omega (arith, c.len-written.ensures))).0

pub loop-number-preserved : goal.loop-number-preserved
loop-number-preserved c = record {
  left = c.in_ok-write_goal.ensures.left;
  lines = c.in_ok-write_goal.ensures.lines ∙ (c.in_ok-begin_member.ensures.lines c.args.lib.now ∙ c.loop-number.invariant.lines);
  full = c.in_ok-write_goal.ensures.full;
  next = c.in_ok-write_goal.ensures.next ∙ ap (λ (m : MembersLeft). m.next) c.in_ok-begin_member.ensures.same;
}

pub returns-then-written-enough-clause-full : goal.returns-then-written-enough-clause-full
returns-then-written-enough-clause-full c = λ few.
    let more = c.if-written-enough.true in
    let less : length (string_bytes c.loop-number.text) < c.args.enough = few in
    absurd (omega (arith, c.len-written.ensures))

pub returns-clause-full : goal.returns-clause-full
returns-clause-full c = λ few.
    let full = c.loop-number.invariant.full few in
    let next = c.loop-number.invariant.next in
    let past = c.loop-number-test.false in
    (full.0, full.1, omega (arith, c.count-number-end.ensures.count))
