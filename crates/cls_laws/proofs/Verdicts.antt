-- Each certificate is accepted, or refused at a row or member for a reason.
use Rattle.std.proofs.Common.{ℕ, ◌+◌, ◌⊎◌, refl, inl, inr, arith, List, [], ◌∷◌, ◌++◌, length, All}
use Rattle.std.proofs.lemmas.List.Elements.{All-cons}
use Rattle.cls_base.specs.Firsts.{First, IsSilent, FirstAfter}
use Rattle.cls_base.specs.Types.{ClosedType}
use Rattle.cls_taxon.specs.Decisions.{is_below}
use Rattle.cls_taxon.specs.DecisionLaws.{is_below-reflexive, is_below-transitive, is_below-antisymmetric, is_below-one_variance}
use Rattle.cls_path.specs.Paths.{Paths}
use Rattle.cls_path.proofs.Existence.{forms_exist}
use Rattle.cls_library.specs.Libraries.{Library, variances_in}
use Rattle.cls_proof.specs.Certificates as proof
use Rattle.cls_proof.specs.Certificates.{ProofRow, Certificate, inhabited, empty}
use Rattle.cls_check.specs.declared.fault.Reason.{Reason}
use Rattle.cls_check.specs.declared.fault.Reason.TheVariants.{Arrow, Target, Argument, Goal, Layers, Unblocked}
use Rattle.cls_check.specs.Checking.{IsForm, PassesRow, row_causes, IsAboveRow, PassRows, PassesMember, member_causes, IsBelowMember, Accepts, by_rows, by_members, row_refusal, member_refusal, refusals, Refuses}
use Rattle.cls_laws.specs.Possible.{IsPossible}
use Rattle.cls_laws.specs.Existence.{VerdictsExist, HasVerdict}
use Rattle.cls_laws.proofs.Classical.{surely, then, after, first_decided}

module _ (l : Library) where
  pub form_exists : (t : ClosedType) → (n : Paths) × IsForm l t n
  form_exists t =
      let d = l.taxonomy in
      forms_exist (is_below d) (variances_in d) (record { reflexive = λ c. is_below-reflexive d c; transitive = λ a b c p q. is_below-transitive d a b c p q; antisymmetric = λ a b p q. is_below-antisymmetric d a b p q }) (λ a b p. is_below-one_variance d a b p) t

  -- ROWS
  row_passes : (IsAbove : ClosedType → Type 0) (r : ProofRow) → IsSilent (First (row_causes l IsAbove r)) → IsPossible (PassesRow l IsAbove r)
  row_passes IsAbove r f =
      then (λ no. f Arrow (inl (no, refl))) (λ a.
      then (λ no. f Target (inr ((λ t s. s.0 a), inl (no, refl)))) (λ b.
      after (λ no. f Argument (inr ((λ t s. s.0 a), inr ((λ t s. s.0 b), inl (no, refl))))) (λ c. record { arrow = a; target = b; argument = c })))

  rows_pass : (earlier rows : List ProofRow) → IsSilent (FirstAfter (row_refusal l) earlier rows) → IsPossible (PassRows l earlier rows)
  rows_pass earlier [] f = surely tt
  rows_pass earlier (r ∷ rows) f =
      let here : IsSilent (row_refusal l earlier r) = λ p s. f p (inl s) in
      then (row_passes (IsAboveRow l earlier) r (λ t s. here (length earlier + 1, t) (refl, s))) (λ p.
      after (rows_pass (earlier ++ r ∷ []) rows (λ q s. f q (inr (here, s)))) (λ ps. (p, ps)))

  -- MEMBERS
  member_passes : (IsBelow : ClosedType → Type 0) (m : proof.Member) → IsSilent (First (member_causes l IsBelow m)) → IsPossible (PassesMember l IsBelow m)
  member_passes IsBelow m f =
      let form = form_exists m.goal in
      then (λ no. f Layers (inl ((form.0, form.1, no), refl))) (λ a.
      after (λ no. f Unblocked (inr ((λ t s. f t (inl s)), inl ((form.0, form.1, no), refl)))) (λ b. record { form = form.0; is_form = form.1; layers = a; unblocked = b }))

  members_pass : (all earlier members : List proof.Member) → IsSilent (FirstAfter (member_refusal l all) earlier members)
      → IsPossible (All (PassesMember l (IsBelowMember l all)) members)
  members_pass all earlier [] f = surely (λ k d h. absurd (omega arith))
  members_pass all earlier (m ∷ members) f =
      let here : IsSilent (member_refusal l all earlier m) = λ p s. f p (inl s) in
      then (member_passes (IsBelowMember l all) m (λ t s. here (length earlier + 1, t) (refl, s))) (λ p.
      after (members_pass all (earlier ++ m ∷ []) members (λ q s. f q (inr (here, s)))) (λ ps. All-cons (PassesMember l (IsBelowMember l all)) m members p ps))

  -- what isn't refused is accepted
  accepted : (asked : ClosedType) (c : Certificate) → IsSilent (Refuses l asked c) → IsPossible (Accepts l asked c)
  accepted asked (inhabited rows) f =
      then (rows_pass [] rows (λ p s. f p (inl s))) (λ ps.
      after (λ no. f (length rows, Goal) (inr ((λ p s. f p (inl s)), inl (no, refl)))) (λ e. by_rows ps e))
  accepted asked (empty members) f =
      then (members_pass members [] members (λ p s. f p (inl s))) (λ ps.
      after (λ no. f (0, Goal) (inr ((λ p s. f p (inl s)), inl (no, refl)))) (λ e. by_members ps e))

  verdict_by : (asked : ClosedType) (c : Certificate) → ((p : ℕ × Reason) × Refuses l asked c p) ⊎ IsSilent (Refuses l asked c) → IsPossible (HasVerdict l asked c)
  verdict_by asked c (inl r) = surely (inr r)
  verdict_by asked c (inr s) = after (accepted asked c s) (λ a. inl a)

pub verdicts_exist : VerdictsExist
verdicts_exist l asked c = then (first_decided (refusals l asked c)) (verdict_by l asked c)
