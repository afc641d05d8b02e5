use Rattle.std.proofs.Common.{List, ℕ, ◌≡◌, true, false, sym, subst, ◌∙◌}
use Rattle.cls_cover.specs.Sets.{members}
use Rattle.cls_cover.specs.Choosing.{IsCoverAfter}
use Rattle.cls_cover.proofs.Choosing.{put_unique}
use Rattle.cls_cover.proofs.Testing.{joined_put, unseen_minimal, alone_minimal, minimal_alone}
use Rattle.cls_cover.proofs.small.joined.Goals as goal

pub returns-then-begun-one-eq0-clause-put : goal.returns-then-begun-one-eq0-clause-put
returns-then-begun-one-eq0-clause-put c = joined_put c.args.begun.now c.requires.begun c.args.cover c.args.x c.alone-one.result c.requires.minimal c.requires.missed c.requires.here c.alone-one.ensures

pub returns-then-begun-one-eq0-clause-minimal : goal.returns-then-begun-one-eq0-clause-minimal
returns-then-begun-one-eq0-clause-minimal c = unseen_minimal c.args.begun.now c.requires.begun c.args.cover c.args.x c.alone-one.result c.requires.minimal c.requires.missed c.requires.here c.alone-one.ensures c.if-begun-one-eq0.true

pub returns-then-each_meets_alone-clause-put : goal.returns-then-each_meets_alone-clause-put
returns-then-each_meets_alone-clause-put c = joined_put c.args.begun.now c.requires.begun c.args.cover c.args.x c.alone-one.result c.requires.minimal c.requires.missed c.requires.here c.alone-one.ensures

pub returns-then-each_meets_alone-clause-minimal : goal.returns-then-each_meets_alone-clause-minimal
returns-then-each_meets_alone-clause-minimal c = alone_minimal c.args.begun.now c.requires.begun c.args.cover c.args.x c.alone-one.result c.requires.minimal c.requires.missed c.requires.here c.alone-one.ensures (c.each_meets_alone.ensures.0 c.if-each_meets_alone.true)

pub returns-else-each_meets_alone-clause-none : goal.returns-else-each_meets_alone-clause-none
returns-else-each_meets_alone-clause-none c = λ _ t p q.
    let put = joined_put c.args.begun.now c.requires.begun c.args.cover c.args.x c.alone-one.result c.requires.minimal c.requires.missed c.requires.here c.alone-one.ensures in
    let e = put_unique c.args.x (members c.args.cover) t _ p put in
    let f = minimal_alone c.args.begun.now c.requires.begun c.args.cover c.args.x c.alone-one.result c.requires.minimal c.requires.missed c.requires.here c.alone-one.ensures (subst (λ (u : List ℕ). IsCoverAfter c.args.begun.now u) e q) in
    clash (sym (c.each_meets_alone.ensures.1 f) ∙ c.if-each_meets_alone.false)
  where
    clash : true ≡ false → ⊥
    clash e = cc
