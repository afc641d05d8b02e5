-- Equivalent types have the same verdicts.
use Rattle.std.proofs.Common.{ℕ, List, [], ◌∷◌, inl, inr}
use Rattle.cls_base.specs.Subtyping.{transitivity}
use Rattle.cls_base.specs.Types.{ClosedType}
use Rattle.cls_library.specs.Libraries.{Library}
use Rattle.cls_proof.specs.Certificates.{ProofRow, Member, Certificate, inhabited, empty}
use Rattle.cls_check.specs.declared.fault.Reason.{Reason}
use Rattle.cls_check.specs.Checking.{IsSubtype, EndsBelow, IsBelowMember, Accepts, by_rows, by_members, Refuses}

module _ (l : Library) where
  ends : (a b : ClosedType) → IsSubtype l a b → (rows : List ProofRow) → EndsBelow l rows a → EndsBelow l rows b
  ends a b down [] h = h
  ends a b down (r ∷ []) h = transitivity h down
  ends a b down (r ∷ s ∷ rows) h = ends a b down (s ∷ rows) h

  below : (a b : ClosedType) → IsSubtype l b a → (members : List Member) → IsBelowMember l members a → IsBelowMember l members b
  below a b up members h = (h.0, h.1, transitivity up h.2)

  pub accepts : (a b : ClosedType) → IsSubtype l a b → IsSubtype l b a → (c : Certificate) → Accepts l a c → Accepts l b c
  accepts a b down up _ (by_rows {rows = rows} p e) = by_rows p (ends a b down rows e)
  accepts a b down up _ (by_members {members = members} p m) = by_members p (below a b up members m)

  pub refuses : (a b : ClosedType) → IsSubtype l a b → IsSubtype l b a → (c : Certificate) (p : ℕ × Reason) → Refuses l a c p → Refuses l b c p
  refuses a b down up (inhabited rows) p (inl h) = inl h
  refuses a b down up (inhabited rows) p (inr h) = elim h.1 [ inl k ↦ inr (h.0, inl ((λ e. k.0 (ends b a up rows e)), k.1)) | inr k ↦ absurd k.1 ]
  refuses a b down up (empty members) p (inl h) = inl h
  refuses a b down up (empty members) p (inr h) = elim h.1 [ inl k ↦ inr (h.0, inl ((λ m. k.0 (below b a down members m)), k.1)) | inr k ↦ absurd k.1 ]
