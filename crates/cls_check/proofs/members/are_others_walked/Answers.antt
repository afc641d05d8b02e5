use Rattle.std.proofs.Common.{◌≡◌, ◌∙◌, ◌<◌, ◌≤◌, List, length, sym, subst, ap, arith}
use Rattle.std.specs.Prelude.{IfNone, IfSome, None, Some}
use Rattle.cls_path.specs.Paths.{TypePath, listed}
use Rattle.cls_library.specs.Arrows.{arity_of}
use Rattle.cls_library.specs.declared.place.Place.{Place}
use Rattle.cls_library.specs.Families.{Finder, IsNext}
use Rattle.cls_library.specs.Libraries.{paths_at}
use Rattle.cls_check.specs.Checking.{empty_layers}
use Rattle.cls_check.proofs.Finding.{walked_start, walked_next, walked_all, arity_within, fewer_left}
use Rattle.cls_check.proofs.Loops.{not-false, is-true, differs}
use Rattle.cls_check.proofs.Stepping.{total_length}
use Rattle.cls_check.proofs.members.are_others_walked.Goals as goal

pub returns-in_default-clause-walked : goal.returns-in_default-clause-walked
returns-in_default-clause-walked c =
    let l = c.args.lib.now in
    let form = listed c.args.form.now in
    let keys = c.args.places.now.keys in
    let start : Place = record { component = 0; count = 0 } in
    let next = subst (λ r. IfNone r ((from : Place) → IsNext l form from None)) c.in_default.is c.in_ok-finder.ensures.none start in (
      (λ t. walked_all l c.args.goals.now keys form start (walked_start l c.args.goals.now keys form) next),
      (λ all. is-true),
    )

pub loop-found-init : goal.loop-found-init
loop-found-init c = record {
  finder = subst (λ r. IfSome r (λ f. f ≡ record { library = c.args.lib.now; goal = c.args.form.now })) c.in-Some.is c.in_ok-finder.ensures.finder;
  walked = walked_start c.args.lib.now c.args.goals.now c.args.places.now.keys (listed c.args.form.now);
  size = omega arith;
  count = omega arith;
  known = c.requires.known;
}

pub next-requires : goal.next-requires
next-requires c = subst (λ (f : Finder). 0 < length f.goal) (sym c.loop-found.invariant.finder) c.requires.path

pub is_other_walked-requires-clause-place : goal.is_other_walked-requires-clause-place
is_other_walked-requires-clause-place c =
    let h = subst (λ (f : Finder). IsNext f.library (listed f.goal) c.loop-found.from (Some c.in-Some-next.found)) c.loop-found.invariant.finder c.in-Some-next.ensures.next in
    record { declared = h.place.declared; within = h.place.within }

pub is_other_walked-requires-clause-none : goal.is_other_walked-requires-clause-none
is_other_walked-requires-clause-none c =
    c.all.ensures ∙ (c.in_ok-none.ensures ∙ ap empty_layers (ap (λ (q : List TypePath). length q) c.paths.ensures ∙ sym (total_length c.args.form.now)))

pub overflow_add-from : goal.overflow_add-from
overflow_add-from c =
    let h = subst (λ (f : Finder). IsNext f.library (listed f.goal) c.loop-found.from (Some c.in-Some-next.found)) c.loop-found.invariant.finder c.in-Some-next.ensures.next in
    let arity : arity_of (paths_at c.args.lib.now c.in-Some-next.found.component) ≤ 32 = arity_within c.args.lib.now c.in-Some-next.found.component c.requires.library h.place.declared in
    let within : c.in-Some-next.found.count ≤ arity_of (paths_at c.args.lib.now c.in-Some-next.found.component) = h.place.within in
    omega arith

pub returns-then-not-branch-clause-walked : goal.returns-then-not-branch-clause-walked
returns-then-not-branch-clause-walked c =
    let h = subst (λ (f : Finder). IsNext f.library (listed f.goal) c.loop-found.from (Some c.in-Some-next.found)) c.loop-found.invariant.finder c.in-Some-next.ensures.next in (
      (λ t. absurd (not-false t)),
      (λ all. absurd (differs (sym c.if-not-branch.true ∙ c.in_ok-is_other_walked.ensures.walked.1
          (all c.in-Some-next.found.component c.in-Some-next.found.count (record { declared = h.place.declared; within = h.place.within }))))),
    )

pub loop-found-preserved : goal.loop-found-preserved
loop-found-preserved c =
    let l = c.args.lib.now in
    let from = c.loop-found.from in
    let p = c.in-Some-next.found in
    let inv = c.loop-found.invariant in
    let h = subst (λ (f : Finder). IsNext f.library (listed f.goal) from (Some p)) inv.finder c.in-Some-next.ensures.next in
    let arity : arity_of (paths_at l p.component) ≤ 32 = arity_within l p.component c.requires.library h.place.declared in
    let within : p.count ≤ arity_of (paths_at l p.component) = h.place.within in
    let declared : p.component < length l.components = h.place.declared in
    record {
      finder = c.in-Some-next.ensures.same ∙ inv.finder;
      walked = walked_next l c.args.goals.now c.args.places.now.keys (listed c.args.form.now) from inv.walked p h (c.in_ok-is_other_walked.ensures.walked.0 c.if-not-branch.false);
      size = omega arith;
      count = omega arith;
      known = c.in_ok-is_other_walked.ensures.known;
    }

pub loop-found-smaller : goal.loop-found-smaller
loop-found-smaller c =
    let l = c.args.lib.now in
    let from = c.loop-found.from in
    let p = c.in-Some-next.found in
    let inv = c.loop-found.invariant in
    let h = subst (λ (f : Finder). IsNext f.library (listed f.goal) from (Some p)) inv.finder c.in-Some-next.ensures.next in
    let arity : arity_of (paths_at l p.component) ≤ 32 = arity_within l p.component c.requires.library h.place.declared in
    let within : p.count ≤ arity_of (paths_at l p.component) = h.place.within in
    fewer_left (length l.components) from.component from.count p.component p.count h.later inv.size inv.count h.place.declared (omega arith)

pub returns-clause-walked : goal.returns-clause-walked
returns-clause-walked c =
    let h = subst (λ (f : Finder). IsNext f.library (listed f.goal) c.loop-found.from None) c.loop-found.invariant.finder c.in_default-next.ensures.next in (
      (λ t. walked_all c.args.lib.now c.args.goals.now c.args.places.now.keys (listed c.args.form.now) c.loop-found.from c.loop-found.invariant.walked h),
      (λ all. is-true),
    )
