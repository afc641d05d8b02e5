use Rattle.std.proofs.Common.{ap, sym, ◌∙◌}
use Rattle.std.specs.Option.{option_copied}
use Rattle.cls_cover.proofs.Grouping.{first_member, alike_rows, no_first}
use Rattle.cls_cover.proofs.Marks.{stays_alike}
use Rattle.cls_cover.proofs.grow.can_take_group.Goals as goal

pub can_take-requires-clause-here : goal.can_take-requires-clause-here
can_take-requires-clause-here c = c.requires.here c.in-Some.x.now (first_member c.args.group.now c.in-Some.x.now (ap option_copied (sym c.in-Some.is) ∙ c.first.ensures.value))

pub returns-in-Some : goal.returns-in-Some
returns-in-Some c = λ x m.
    let h = first_member c.args.group.now c.in-Some.x.now (ap option_copied (sym c.in-Some.is) ∙ c.first.ensures.value) in
    let to = alike_rows c.args.front.now.rows.now c.args.group.now c.in-Some.x.now x c.requires.alike h m in
    let back = alike_rows c.args.front.now.rows.now c.args.group.now x c.in-Some.x.now c.requires.alike m h in (
      (λ t y n. stays_alike c.args.front.now.rows.now c.args.front.now.flags.now c.args.cover.now.once c.in-Some.x.now x y to (c.can_take.ensures.0 t y n)),
      (λ f. c.can_take.ensures.1 (λ y n. stays_alike c.args.front.now.rows.now c.args.front.now.flags.now c.args.cover.now.once x c.in-Some.x.now y back (f y n))),
    )

pub returns-in-None : goal.returns-in-None
returns-in-None c = λ x m. absurd (no_first c.args.group.now x (ap option_copied (sym c.in-None.is) ∙ c.first.ensures.value) m)
