use Rattle.std.proofs.Common.{◌≡◌, ◌<◌, length, get_or, refl, sym, subst, ◌∙◌, inl, inr, arith, List, [], Option}
use Rattle.std.proofs.lemmas.List.Elements.{All-contains}
use Rattle.cls_path.specs.Paths.{TypePath, listed, type_of_paths}
use Rattle.cls_proof.specs.Certificates as proof
use Rattle.cls_proof.specs.Members.{member_seen}
use Rattle.cls_check.specs.declared.fault.Reason.{Reason}
use Rattle.cls_check.specs.Checking.{by_members, PassesMember, IsBelowMember}
use Rattle.cls_check.specs.Goals.{AreGoals}
use Rattle.cls_check.specs.Tests.{AreRight, TellsMember}
use Rattle.cls_check.proofs.KnownSets.{none_right}
use Rattle.cls_check.proofs.Loops.{got-some, differs}
use Rattle.cls_check.proofs.MemberLaws.{Form, zip_length, below_exactly, goals_suit, form_at, tells_pass, tells_fail, members_fail, members_start, members_next, members_done}
use Rattle.cls_check.proofs.Verdicts.{members-pass}
use Rattle.cls_check.proofs.members.check_members.Goals as goal

pub loop-i-init : goal.loop-i-init
loop-i-init c = record {
  passed = members_start c.args.lib.now c.args.members.now;
  known = none_right c.args.lib.now c.goals.inside.goals.keys c.new-known.result c.new-known.ensures.sets c.new-known.ensures.below c.new-known.ensures.free;
}

pub index-requires : goal.index-requires
index-requires c =
    let z = zip_length (Form c.args.lib.now) c.args.members.now c.in_ok-forms.forms.items c.in_ok-forms.ensures in
    let m = c.loop-i-test.true in omega arith

pub member_fault-requires-clause-goals : goal.member_fault-requires-clause-goals
member_fault-requires-clause-goals c = goals_suit c.args.lib.now c.args.members.now c.in_ok-forms.forms.items c.in_ok-goals.goals c.in_ok-forms.ensures
    (subst (λ (fs : List (List TypePath)). AreGoals fs c.in_ok-goals.goals) c.deref.ensures.value c.in_ok-goals.ensures)

pub member_fault-requires-clause-known : goal.member_fault-requires-clause-known
member_fault-requires-clause-known c =
    subst (λ (g : List (List TypePath)). AreRight c.args.lib.now g c.loop-i.known) c.goals.view_is c.loop-i.invariant.known

pub member_fault-requires-clause-suits : goal.member_fault-requires-clause-suits
member_fault-requires-clause-suits c =
    let l = c.args.lib.now in
    let ms = c.args.members.now in
    let forms = c.in_ok-forms.forms.items in
    let e = subst (λ (fs : List (List TypePath)). AreGoals fs c.in_ok-goals.goals) c.deref.ensures.value c.in_ok-goals.ensures in
    let low : c.loop-i.i < length ms = (let m = c.loop-i-test.true in omega arith) in
    let m = member_seen c.get-member.result in
    let same : m ≡ get_or ms c.loop-i.i m = got-some ms c.loop-i.i m c.get-member.ensures in
    let form : Form l m c.index.result.now = subst (λ (g : List TypePath). Form l m g) (sym c.index.ensures) (subst (λ (q : proof.Member). Form l q (get_or forms c.loop-i.i c.index.result.now)) (sym same) (form_at l ms forms c.in_ok-forms.ensures c.loop-i.i m c.index.result.now low)) in
    form.normal.suits

pub any_above-requires-clause-goals : goal.any_above-requires-clause-goals
any_above-requires-clause-goals c = goals_suit c.args.lib.now c.args.members.now c.in_ok-forms.forms.items c.in_ok-goals.goals c.in_ok-forms.ensures
    (subst (λ (fs : List (List TypePath)). AreGoals fs c.in_ok-goals.goals) c.deref.ensures.value c.in_ok-goals.ensures)

pub returns-then-not-any_above-clause-refused : goal.returns-then-not-any_above-clause-refused
returns-then-not-any_above-clause-refused c =
    let l = c.args.lib.now in
    let ms = c.args.members.now in
    let forms = c.in_ok-forms.forms.items in
    let e = subst (λ (fs : List (List TypePath)). AreGoals fs c.in_ok-goals.goals) c.deref.ensures.value c.in_ok-goals.ensures in
    let i : c.loop-i.i ≡ length ms = (let a = c.loop-i.auto.i-end in let b = c.loop-i-test.false in omega arith) in
    let pass = members_done l ms c.loop-i.i i c.loop-i.invariant.passed in
    inr (members-pass l ms [] ms (λ m k. All-contains (PassesMember l (IsBelowMember l ms)) ms m pass k), inl ((λ h. differs (sym c.if-not-any_above.true ∙ c.any_above.ensures.1 ((below_exactly l ms forms c.in_ok-goals.goals c.in_ok-forms.ensures e (type_of_paths (listed c.args.asked.now))).1 h))), refl))

pub returns-clause-accepted : goal.returns-clause-accepted
returns-clause-accepted c =
    let l = c.args.lib.now in
    let ms = c.args.members.now in
    let forms = c.in_ok-forms.forms.items in
    let e = subst (λ (fs : List (List TypePath)). AreGoals fs c.in_ok-goals.goals) c.deref.ensures.value c.in_ok-goals.ensures in
    let i : c.loop-i.i ≡ length ms = (let a = c.loop-i.auto.i-end in let b = c.loop-i-test.false in omega arith) in
    let pass = members_done l ms c.loop-i.i i c.loop-i.invariant.passed in
    by_members pass ((below_exactly l ms forms c.in_ok-goals.goals c.in_ok-forms.ensures e (type_of_paths (listed c.args.asked.now))).0 (c.any_above.ensures.0 c.if-not-any_above.false))

pub returns-in-Some-clause-refused : goal.returns-in-Some-clause-refused
returns-in-Some-clause-refused c =
    let l = c.args.lib.now in
    let ms = c.args.members.now in
    let forms = c.in_ok-forms.forms.items in
    let e = subst (λ (fs : List (List TypePath)). AreGoals fs c.in_ok-goals.goals) c.deref.ensures.value c.in_ok-goals.ensures in
    let low : c.loop-i.i < length ms = (let m = c.loop-i-test.true in omega arith) in
    let m = member_seen c.get-member.result in
    let same : m ≡ get_or ms c.loop-i.i m = got-some ms c.loop-i.i m c.get-member.ensures in
    let form : Form l m c.index.result.now = subst (λ (g : List TypePath). Form l m g) (sym c.index.ensures) (subst (λ (q : proof.Member). Form l q (get_or forms c.loop-i.i c.index.result.now)) (sym same) (form_at l ms forms c.in_ok-forms.ensures c.loop-i.i m c.index.result.now low)) in
    let tells = subst (λ (o : Option Reason). TellsMember l c.in_ok-goals.goals c.get-member.result.blocks (listed c.index.result.now) o) c.in-Some.is c.in_ok-reason.ensures.tells in
    inl (members_fail l ms c.loop-i.i c.loop-i.invariant.passed m same low c.in-Some.reason (tells_fail l ms forms c.in_ok-goals.goals c.in_ok-forms.ensures e m c.index.result.now c.in-Some.reason form tells))

pub loop-i-preserved : goal.loop-i-preserved
loop-i-preserved c =
    let l = c.args.lib.now in
    let ms = c.args.members.now in
    let forms = c.in_ok-forms.forms.items in
    let e = subst (λ (fs : List (List TypePath)). AreGoals fs c.in_ok-goals.goals) c.deref.ensures.value c.in_ok-goals.ensures in
    let low : c.loop-i.i < length ms = (let m = c.loop-i-test.true in omega arith) in
    let m = member_seen c.get-member.result in
    let same : m ≡ get_or ms c.loop-i.i m = got-some ms c.loop-i.i m c.get-member.ensures in
    let form : Form l m c.index.result.now = subst (λ (g : List TypePath). Form l m g) (sym c.index.ensures) (subst (λ (q : proof.Member). Form l q (get_or forms c.loop-i.i c.index.result.now)) (sym same) (form_at l ms forms c.in_ok-forms.ensures c.loop-i.i m c.index.result.now low)) in
    let tells = subst (λ (o : Option Reason). TellsMember l c.in_ok-goals.goals c.get-member.result.blocks (listed c.index.result.now) o) c.in-None.is c.in_ok-reason.ensures.tells in
    record {
      passed = members_next l ms c.loop-i.i c.loop-i.invariant.passed m same low (tells_pass l ms forms c.in_ok-goals.goals c.in_ok-forms.ensures e m c.index.result.now form tells);
      known = subst (λ (g : List (List TypePath)). AreRight l g c.member_fault.new.known) (sym c.goals.view_is) c.in_ok-reason.ensures.known;
    }
