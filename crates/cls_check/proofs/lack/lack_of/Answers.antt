use Rattle.std.proofs.Common.{ℕ, ◌≡◌, ◌⊎◌, get_or, subst, sym, ◌∙◌, arith, IsTrue, Option, length}
use Rattle.std.specs.Prelude.{Contains}
use Rattle.cls_base.proofs.Lists.{AreBelow-at}
use Rattle.cls_check.specs.Layers.{flag}
use Rattle.cls_check.proofs.Loops.{differs}
use Rattle.cls_check.proofs.Sets.{IsSoFar, too_many, each_number, number_at}
use Rattle.cls_check.proofs.lack.lack_of.Goals as goal

pub bounds-flags-number : goal.bounds-flags-number
bounds-flags-number c = AreBelow-at (length c.args.flags.now) c.args.numbers.now c.loop-number.number-index c.requires c.loop-number-test.true

pub returns-in-None-missing : goal.returns-in-None-missing
returns-in-None-missing c =
    let h = subst (λ (o : Option ℕ). IsSoFar c.args.numbers.now c.args.flags.now c.loop-number.number-index o) c.in-None-missing.is c.loop-number.invariant in
    each_number (λ (i : ℕ). IsTrue (flag c.args.flags.now i)) c.args.numbers.now (λ k l. h k (omega arith))

pub returns-in-Some-missing : goal.returns-in-Some-missing
returns-in-Some-missing c =
    let h = subst (λ (o : Option ℕ). IsSoFar c.args.numbers.now c.args.flags.now c.loop-number.number-index o) c.in-Some-missing.is c.loop-number.invariant in
    let e = c.loop-number.auto.number-index-end in (
      h.0,
      subst (λ (i : ℕ). Contains c.args.numbers.now i) h.1.2 (number_at c.args.numbers.now h.1.0 (let l = h.1.1 in omega arith)),
      each_number (λ (i : ℕ). IsTrue (flag c.args.flags.now i) ⊎ (i ≡ c.in-Some-missing.number)) c.args.numbers.now (λ k l. h.2 k (omega arith)),
    )

pub returns-in-Some-2 : goal.returns-in-Some-2
returns-in-Some-2 c =
    let h = subst (λ (o : Option ℕ). IsSoFar c.args.numbers.now c.args.flags.now c.loop-number.number-index o) c.in-Some.is c.loop-number.invariant in
    let e = c.loop-number.auto.number-index-end in
    too_many c.args.flags.now c.args.numbers.now c.in-Some.first (get_or c.args.numbers.now c.loop-number.number-index 0)
    (subst (λ (i : ℕ). Contains c.args.numbers.now i) h.1.2 (number_at c.args.numbers.now h.1.0 (let l = h.1.1 in omega arith)))
    (number_at c.args.numbers.now c.loop-number.number-index c.loop-number-test.true)
    h.0 (λ t. differs (sym c.if-flags-number.false ∙ t)) c.if-first-number.false
