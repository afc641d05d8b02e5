use Rattle.std.proofs.Common.{ℕ, ◌≡◌, List, sym, subst, arith, true, false, refl, rules}
use Rattle.cls_cover.specs.Flags.{AreSharedApart}
use Rattle.cls_cover.proofs.Words.{apart_yes, apart_no}
use Rattle.cls_cover.proofs.flags.are_shared_apart.Goals as goal

moved : (a b c o a' b' c' o' : List ℕ) → a ≡ a' → b ≡ b' → c ≡ c' → o ≡ o' → AreSharedApart a b c o → AreSharedApart a' b' c' o'
moved a b c o a' b' c' o' d e f g s = subst (λ (q : List ℕ). AreSharedApart q b' c' o') d (subst (λ (q : List ℕ). AreSharedApart a q c' o') e (subst (λ (q : List ℕ). AreSharedApart a b q o') f (subst (λ (q : List ℕ). AreSharedApart a b c q) g s)))

pub returns-then-once-i-ne0 : goal.returns-then-once-i-ne0
returns-then-once-i-ne0 c =
    let a = c.as_slice-once.result.now in
    let b = c.as_slice-front.result.now in
    let r = c.as_slice-row.result.now in
    let o = c.as_slice-other.result.now in (
      (λ _. moved a b r o c.args.once.now c.args.front.now c.args.row.now c.args.other.now c.as_slice-once.ensures c.as_slice-front.ensures c.as_slice-row.ensures c.as_slice-other.ensures
          (apart_yes a b r o c.loop-i.i (search rules) (search rules) (λ z. c.if-once-i-ne0.true z))),
      (λ _. let t : true ≡ true = refl in t),
    )

pub returns : goal.returns
returns c =
    let a = c.as_slice-once.result.now in
    let b = c.as_slice-front.result.now in
    let r = c.as_slice-row.result.now in
    let o = c.as_slice-other.result.now in (
      (λ h. absurd (let g : false ≡ true = h in cc)),
      (λ s. absurd (apart_no a b r o (λ k. search rules) (λ k l. c.loop-i.invariant k (omega arith))
          (moved c.args.once.now c.args.front.now c.args.row.now c.args.other.now a b r o (sym c.as_slice-once.ensures) (sym c.as_slice-front.ensures) (sym c.as_slice-row.ensures) (sym c.as_slice-other.ensures) s))),
    )
