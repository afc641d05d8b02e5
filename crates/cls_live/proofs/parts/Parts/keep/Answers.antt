use Rattle.std.proofs.Common.{◌≡◌, ◌+◌, ◌≤◌, List, [], inl, inr, ◌∙◌, length, sym, ap, subst, arith}
use Rattle.indexmap.specs.IndexSet.{insert_all}
use Rattle.cls_core.specs.Closure.{goals_of}
use Rattle.cls_expand.proofs.Adding.{goals-count}
use Rattle.cls_expand.proofs.Keeping.{all-at-most}
use Rattle.cls_expand.proofs.Places.{on_ok_map}
use Rattle.cls_library.specs.Libraries.{Library}
use Rattle.cls_live.specs.declared.known.Known.{Known}
use Rattle.cls_live.specs.Parts.{PartsSeen, AreAnswered, StaysKnown, same}
use Rattle.cls_live.specs.Slots.{rules_in, seen}
use Rattle.cls_live.specs.Updates.{rules_in_parts}
use Rattle.cls_live.proofs.Rows.{IsKept, on_ok_always, parts_light, rows_held, no_room, not_fitting, knows_none, no_goals, some_goals, updates_of, kept_within, kept_goals, kept_stored, kept_knows, kept_stays}
use Rattle.cls_live.proofs.parts.Parts.keep.Goals as goal
use Rattle.cls_live.proofs.parts.Parts.keep.Goals.{In-Ok}

pub returns-then-is_empty-clause-held : goal.returns-then-is_empty-clause-held
returns-then-is_empty-clause-held c =
    on_ok_map c.begin.result (λ e. rows_held [] c.begin.new.self.goals c.args.rows.now e) c.begin.ensures.goals

pub returns-then-is_empty-clause-goals : goal.returns-then-is_empty-clause-goals
returns-then-is_empty-clause-goals c = on_ok_map c.begin.result (λ e. inr e) c.begin.ensures.goals

pub returns-then-is_empty-clause-stays : goal.returns-then-is_empty-clause-stays
returns-then-is_empty-clause-stays c =
    let none = no_goals c.self.inside.goals.keys (c.is_empty.ensures.0 c.if-is_empty.true) in
    let seen_none = sym (ap (λ (p : PartsSeen). p.goals) c.self.view_is) ∙ none in
    on_ok_always c.begin.result (λ room. knows_none c.args.self.now c.begin.new.self seen_none)

pub of-requires : goal.of-requires
of-requires c =
    let most = all-at-most same c.self.inside.goals.keys (goals_of c.args.rows.now) in
    record { room = omega (arith, most, goals-count c.args.rows.now, c.requires.fit.0, c.self.invariant.few) }

pub fits-requires-clause-parts : goal.fits-requires-clause-parts
fits-requires-clause-parts c =
    let made = c.in_ok-update.ensures in
    let light = parts_light _ _ _ c.args.rows.now _ c.in_ok-update.update.parts.items made.parts in
    omega (arith, light, c.requires.fit.1)

pub returns-then-not-fits-clause-held : goal.returns-then-not-fits-clause-held
returns-then-not-fits-clause-held c =
    on_ok_map c.begin-then-not-fits.result (λ e. rows_held [] c.begin-then-not-fits.new.self.goals c.args.rows.now e) c.begin-then-not-fits.ensures.goals

pub returns-then-not-fits-clause-goals : goal.returns-then-not-fits-clause-goals
returns-then-not-fits-clause-goals c = on_ok_map c.begin-then-not-fits.result (λ e. inr e) c.begin-then-not-fits.ensures.goals

pub returns-then-not-fits-clause-stays : goal.returns-then-not-fits-clause-stays
returns-then-not-fits-clause-stays c =
    let i = c.self.inside in
    let made = c.in_ok-update.ensures in
    let u = c.in_ok-update.update in
    let light = parts_light _ _ _ c.args.rows.now _ u.parts.items made.parts in
    let full = not_fitting i.goals.keys u.goals.keys i.known.items c.as_slice-3.result.now u.parts.items c.fits.result c.as_slice-3.ensures.value c.fits.ensures c.if-not-fits.true in
    on_ok_always c.begin-then-not-fits.result (λ room. absurd (no_room c.args.self.now i.goals.keys u.goals.keys i.known.items c.args.rows.now u.parts.items
    (sym (ap (λ (p : PartsSeen). p.goals) c.self.view_is)) (sym (ap (λ (p : PartsSeen). p.rules) c.self.view_is)) made.goals light full room))

-- what is there when the parts are put
kept :
    (c : In-Ok)
    → IsKept c.self.inside.library.value c.self.inside.live.items c.self.inside.next c.self.inside.count c.self.inside.goals.keys c.self.inside.known.items
    c.args.rows.now c.in_ok-update.update.goals.keys c.in_ok-update.update.blanks.items c.in_ok-update.update.parts.items c.append-2.new.self.keys
    c.append.new.self.items
kept c =
    let i = c.self.inside in
    let made = c.in_ok-update.ensures in
    record {
      stored = c.self.invariant;
      some = some_goals i.goals.keys c.is_empty.result c.is_empty.ensures c.if-is_empty.false;
      answered = subst (λ (k : Library). AreAnswered k c.args.rows.now) (sym (ap (λ (p : PartsSeen). p.library) c.self.view_is)) c.requires.answered;
      whole = made.goals;
      blank = made.blanks;
      updates = updates_of _ _ i.next _ _ c.args.rows.now _ _ c.in_ok-update.update.parts.items c.as_slice.ensures.value c.as_slice-2.ensures.value made.parts;
      more = c.in-Ok.ensures.keys;
      behind = c.in_ok-append.ensures.items;
    }

pub put_parts-requires : goal.put_parts-requires
put_parts-requires c = kept_within (kept (goal.at.put_parts-requires c).In-Ok)

pub invariant_of-self-2 : goal.invariant_of-self-2
invariant_of-self-2 c =
    let i = c.self.inside in
    let u = c.in_ok-update.update in
    let room = c.fits.ensures.0 c.if-not-fits.false in
    let room_here = subst (λ (ks : List Known). (length i.goals.keys + length u.goals.keys ≤ 20000) × (rules_in ks + rules_in_parts u.parts.items ≤ 1000000)) c.as_slice-3.ensures.value room in
    kept_stored (kept (goal.at.invariant_of-self-2 c).In-Ok) c.put_parts.new.known.items c.put_parts.ensures room_here

pub returns-clause-held : goal.returns-clause-held
returns-clause-held c =
    rows_held c.self.inside.goals.keys c.append-2.new.self.keys c.args.rows.now (kept_goals (kept (goal.at.returns-clause-held c).In-Ok))

pub returns-clause-goals : goal.returns-clause-goals
returns-clause-goals c =
    inl (subst (λ (p : PartsSeen). c.append-2.new.self.keys ≡ insert_all same p.goals (goals_of c.args.rows.now)) c.self.view_is
    (kept_goals (kept (goal.at.returns-clause-goals c).In-Ok)))

pub returns-clause-known : goal.returns-clause-known
returns-clause-known c = kept_knows (kept (goal.at.returns-clause-known c).In-Ok) c.put_parts.new.known.items c.put_parts.ensures

pub returns-clause-stays : goal.returns-clause-stays
returns-clause-stays c = λ room.
    let i = c.self.inside in
    subst (λ (p : PartsSeen). StaysKnown p (seen i.library.value i.live.items c.append-2.new.self.keys c.put_parts.new.known.items)) c.self.view_is
    (kept_stays (kept (goal.at.returns-clause-stays c).In-Ok) c.put_parts.new.known.items c.put_parts.ensures)
