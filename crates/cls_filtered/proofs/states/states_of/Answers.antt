use Rattle.std.proofs.Common.{◌+◌, ◌*◌, ◌-◌, ◌<◌, ℕ, List, Bool, false, cond, length, sym, ap, subst, ◌∙◌}
use Rattle.std.specs.Prelude.{replicate}
use Rattle.std.proofs.lemmas.Bool.{true≢false}
use Rattle.cls_base.specs.Limits.{max_states}
use Rattle.cls_filtered.specs.Filtered.{AreStatesOf, count_true}
use Rattle.cls_filtered.specs.States.{Known}
use Rattle.cls_filtered.proofs.Onward.{count-most, sound-none}
use Rattle.cls_filtered.proofs.KnownStates.{closed-states}
use Rattle.cls_filtered.proofs.Following.{pass-less}
use Rattle.cls_filtered.proofs.states.states_of.Goals as goal

pub loop-more-init : goal.loop-more-init
loop-more-init c = record {
  sound = sound-none c.args.filter.now c.args.book.now c.in_ok-states.states.flags
      (ap (λ (s : Known). s.flags) c.in_ok-states.ensures ∙ ap (λ (n : ℕ). replicate (n * max_states) false) c.count.ensures);
  closed = λ none. absurd (true≢false none);
}

pub pass-requires : goal.pass-requires
pass-requires c = c.loop-more.invariant.sound.count

pub loop-more-preserved : goal.loop-more-preserved
loop-more-preserved c = record {
  sound = c.in_ok-more.ensures.keeps.sound c.requires.steps c.loop-more.invariant.sound;
  closed = c.in_ok-more.ensures.closed;
}

pub loop-more-smaller : goal.loop-more-smaller
loop-more-smaller c =
    let old = c.loop-more.states.flags in
    let new = c.pass.new.self.flags in
    let keeps = c.in_ok-more.ensures.keeps in
    let less = pass-less (length old) (count_true old) (length new) (count_true new) c.in_ok-more.more keeps.sized keeps.no_less (count-most new) c.in_ok-more.ensures.more in
    subst (λ (b : Bool). length new - count_true new + cond c.in_ok-more.more 1 0 < length old - count_true old + cond b 1 0) (sym c.loop-more-test.true) less

pub returns : goal.returns
returns c =
    subst (λ (flags : List Bool). AreStatesOf c.args.book.now c.args.filter.now flags) (sym c.into_flags.ensures)
    (closed-states c.args.book.now c.args.filter.now c.requires.steps c.requires.automaton c.loop-more.states.flags (c.loop-more.invariant.closed c.loop-more-test.false) c.loop-more.invariant.sound)
