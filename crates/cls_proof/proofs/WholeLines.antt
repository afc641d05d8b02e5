-- The end of the lines: what is said when no line is left.
use Rattle.std.proofs.Common.{◌≡◌, ℕ, List, length, sym, subst, Option, Some, None}
use Rattle.std.specs.Prelude.{Result, false, MatchOption, MatchResult, ⊤}
use Rattle.std.specs.Option.{ok_or}
use Rattle.std.specs.List.{list_any, AllByRecursion}
use Rattle.cls_proof.specs.declared.certificate.Certificate as code
use Rattle.cls_proof.specs.declared.draft.Draft.{Draft}
use Rattle.cls_proof.specs.declared.proof_fault.ProofFault.{ProofFault}
use Rattle.cls_proof.specs.declared.proof_fault.ProofFault.TheVariants.{NoQed}
use Rattle.cls_proof.specs.Drafts.{said_in}
use Rattle.cls_proof.specs.Chunks.{AreRead}
use Rattle.cls_proof.specs.Reading.{SaysCertificate, IsProofFault}
use Rattle.cls_proof.specs.Said.{IsStatementHeld}
use Rattle.cls_proof.specs.Seen.{certificate_of}
use Rattle.cls_proof.specs.Statements.{Statement, statements_of, is_qed}
use Rattle.cls_proof.specs.Texts.{IsHeld}
use Rattle.cls_proof.proofs.SaidLines.{lacks_qed, whole_lines, certificate_held}

module _ (components old lines names : List (List ℕ)) (d : Draft) where
  abbrev pub Finished : Option code.Certificate → Type 0
  Finished o = MatchOption o (list_any is_qed (said_in d) ≡ false) (λ c. statements_of (certificate_of c) ≡ said_in d)

  abbrev pub IsAnswer : Result code.Certificate ProofFault → Type 0
  IsAnswer r = MatchResult r (λ c. SaysCertificate old names components lines (certificate_of c)) (IsProofFault components lines)

  abbrev pub IsHeldAnswer : Result code.Certificate ProofFault → Type 0
  IsHeldAnswer r = MatchResult r (λ c. IsHeld (length names) (length components) (certificate_of c)) (λ f. ⊤)

  answer_at : (o : Option code.Certificate) → Finished o → AreRead components old lines names (said_in d) → IsAnswer (ok_or o NoQed)
  answer_at None h a = lacks_qed components old lines names d h a
  answer_at (Some c) h a = whole_lines components old lines names (said_in d) (certificate_of c) a h

  held_at : (o : Option code.Certificate) → Finished o → AreRead components old lines names (said_in d) → IsHeldAnswer (ok_or o NoQed)
  held_at None h a = tt
  held_at (Some c) h a = certificate_held (length names) (length components) (certificate_of c) (subst (λ (ss : List Statement). AllByRecursion (IsStatementHeld (length names) (length components)) ss) (sym h) a.held)

  pub answer : (o : Option code.Certificate) (r : Result code.Certificate ProofFault) → r ≡ ok_or o NoQed → Finished o → AreRead components old lines names (said_in d) → IsAnswer r
  answer o r e h a = subst IsAnswer (sym e) (answer_at o h a)

  pub answer_held : (o : Option code.Certificate) (r : Result code.Certificate ProofFault) → r ≡ ok_or o NoQed → Finished o → AreRead components old lines names (said_in d) → IsHeldAnswer r
  answer_held o r e h a = subst IsHeldAnswer (sym e) (held_at o h a)
