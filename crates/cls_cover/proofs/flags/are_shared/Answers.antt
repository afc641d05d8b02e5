use Rattle.std.proofs.Common.{ℕ, ◌≡◌, List, sym, subst, arith, true, false, refl, rules}
use Rattle.cls_cover.specs.Flags.{AreShared}
use Rattle.cls_cover.proofs.Words.{shared_yes, shared_no}
use Rattle.cls_cover.proofs.flags.are_shared.Goals as goal

moved : (a b c a' b' c' : List ℕ) → a ≡ a' → b ≡ b' → c ≡ c' → AreShared a b c → AreShared a' b' c'
moved a b c a' b' c' d e f s = subst (λ (q : List ℕ). AreShared q b' c') d (subst (λ (q : List ℕ). AreShared a q c') e (subst (λ (q : List ℕ). AreShared a b q) f s))

pub returns-then-once-i-ne0 : goal.returns-then-once-i-ne0
returns-then-once-i-ne0 c =
    let a = c.as_slice-once.result.now in
    let b = c.as_slice-front.result.now in
    let r = c.as_slice-row.result.now in (
      (λ _. moved a b r c.args.once.now c.args.front.now c.args.row.now c.as_slice-once.ensures c.as_slice-front.ensures c.as_slice-row.ensures
          (shared_yes a b r c.loop-i.i (search rules) (λ z. c.if-once-i-ne0.true z))),
      (λ _. let t : true ≡ true = refl in t),
    )

pub returns : goal.returns
returns c =
    let a = c.as_slice-once.result.now in
    let b = c.as_slice-front.result.now in
    let r = c.as_slice-row.result.now in (
      (λ h. absurd (let g : false ≡ true = h in cc)),
      (λ s. absurd (shared_no a b r (λ k l. c.loop-i.invariant k (omega arith))
          (moved c.args.once.now c.args.front.now c.args.row.now a b r (sym c.as_slice-once.ensures) (sym c.as_slice-front.ensures) (sym c.as_slice-row.ensures) s))),
    )
