use Rattle.std.proofs.Common.{ℕ, List, ◌∙◌, length, sym, ap, subst, arith}
use Rattle.cls_core.specs.Closure.{goals_of}
use Rattle.cls_expand.proofs.Adding.{goals-count}
use Rattle.cls_expand.proofs.Keeping.{all-at-most}
use Rattle.cls_library.specs.Libraries.{Library}
use Rattle.cls_live.specs.Parts.{PartsSeen, AreAnswered, KnowsRows, same}
use Rattle.cls_live.specs.Slots.{IsStored, seen}
use Rattle.cls_live.proofs.Rows.{IsBegun, begun_within, begun_goals, begun_stored, begun_knows}
use Rattle.cls_live.proofs.parts.Parts.begin.Goals as goal
use Rattle.cls_live.proofs.parts.Parts.begin.Goals.{In_ok-update}

pub of-requires : goal.of-requires
of-requires c =
    let most = all-at-most same c.new-none.result.keys (goals_of c.args.rows.now) in
    record { room = omega (arith, most, goals-count c.args.rows.now, c.requires.fit.0, ap length c.new-none.ensures.empty) }

-- what is there when the parts are put
begun :
    (c : In_ok-update)
    → IsBegun c.self.inside.library.value c.as_slice.result.now c.self.inside.count c.new-none.result.keys c.in_ok-update.update.goals.keys c.args.rows.now
    c.in_ok-update.update.blanks.items c.in_ok-update.update.parts.items
begun c =
    let made = c.in_ok-update.ensures in
    record {
      slots_are = c.as_slice.ensures.value ∙ c.in_ok-live.ensures;
      counted = c.self.invariant.counted;
      empty = c.new-none.ensures.empty;
      answered = subst (λ (k : Library). AreAnswered k c.args.rows.now) (sym (ap (λ (p : PartsSeen). p.library) c.self.view_is)) c.requires.answered;
      whole = made.goals;
      blank = made.blanks;
      updates = made.parts;
    }

pub put_parts-requires : goal.put_parts-requires
put_parts-requires c = begun_within (begun (goal.at.put_parts-requires c).In_ok-update)

pub invariant_of-self : goal.invariant_of-self
invariant_of-self c =
    let i = c.self.inside in
    let known = c.put_parts.new.known.items in
    subst (λ (ns : List ℕ). IsStored i.library.value ns i.count i.count c.in_ok-update.update.goals.keys known) c.as_slice.ensures.value
    (begun_stored (begun (goal.at.invariant_of-self c).In_ok-update) known c.put_parts.ensures c.requires.fit)

pub returns-clause-library : goal.returns-clause-library
returns-clause-library c = ap (λ (p : PartsSeen). p.library) c.self.view_is

pub returns-clause-goals : goal.returns-clause-goals
returns-clause-goals c = begun_goals (begun (goal.at.returns-clause-goals c).In_ok-update)

pub returns-clause-known : goal.returns-clause-known
returns-clause-known c =
    let known = c.put_parts.new.known.items in
    subst (λ (ns : List ℕ). KnowsRows (seen c.self.inside.library.value ns c.in_ok-update.update.goals.keys known) c.args.rows.now) c.as_slice.ensures.value
    (begun_knows (begun (goal.at.returns-clause-known c).In_ok-update) known c.put_parts.ensures)
