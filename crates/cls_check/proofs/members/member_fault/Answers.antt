use Rattle.std.proofs.Common.{ℕ, length, sym, subst, ap, ◌∙◌, List}
use Rattle.cls_path.specs.Paths.{TypePath}
use Rattle.cls_check.specs.Checking.{PassesLayers}
use Rattle.cls_check.proofs.Loops.{differs}
use Rattle.cls_check.proofs.Stepping.{total_length}
use Rattle.cls_check.proofs.members.member_fault.Goals as goal

pub returns-in-None-clause-tells : goal.returns-in-None-clause-tells
returns-in-None-clause-tells c =
    let k = ap (λ (q : List TypePath). length q) c.paths-count.ensures ∙ sym (total_length c.args.form.now) in
    let h = rw c.in-None.is at c.in_ok-block_places.ensures in
    λ p. h (subst (λ (n : ℕ). PassesLayers c.args.lib.now c.args.blocks.now n) (sym k) p)

pub is_unblocked-requires-clause-layers : goal.is_unblocked-requires-clause-layers
is_unblocked-requires-clause-layers c =
    let k = ap (λ (q : List TypePath). length q) c.paths-count.ensures ∙ sym (total_length c.args.form.now) in
    let h = rw c.in-Some.is at c.in_ok-block_places.ensures in
    subst (λ (n : ℕ). PassesLayers c.args.lib.now c.args.blocks.now n) k h.0

pub is_unblocked-requires-clause-places : goal.is_unblocked-requires-clause-places
is_unblocked-requires-clause-places c = let h = rw c.in-Some.is at c.in_ok-block_places.ensures in h.1

pub returns-then-not-branch-clause-tells : goal.returns-then-not-branch-clause-tells
returns-then-not-branch-clause-tells c =
    let k = ap (λ (q : List TypePath). length q) c.paths-count.ensures ∙ sym (total_length c.args.form.now) in
    let h = rw c.in-Some.is at c.in_ok-block_places.ensures in
    let a = subst (λ (n : ℕ). PassesLayers c.args.lib.now c.args.blocks.now n) k h.0 in
    (a, (λ u. differs (sym c.if-not-branch.true ∙ c.in_ok-is_unblocked.ensures.unblocked.1 u)))

pub returns-clause-tells : goal.returns-clause-tells
returns-clause-tells c =
    let k = ap (λ (q : List TypePath). length q) c.paths-count.ensures ∙ sym (total_length c.args.form.now) in
    let h = rw c.in-Some.is at c.in_ok-block_places.ensures in
    let a = subst (λ (n : ℕ). PassesLayers c.args.lib.now c.args.blocks.now n) k h.0 in
    (a, c.in_ok-is_unblocked.ensures.unblocked.0 c.if-not-branch.false)
