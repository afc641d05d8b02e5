-- No certificate is accepted and refused, and none is refused in two ways.
use Rattle.std.proofs.Common.{ℕ, ◌+◌, ◌≡◌, sym, ◌∙◌, ap, subst, inl, inr, List, [], ◌∷◌, ◌++◌, length}
use Rattle.std.specs.Prelude.{Contains}
use Rattle.std.proofs.lemmas.List.Elements.{All-contains}
use Rattle.cls_base.proofs.Lists.{Contains-here, Contains-later}
use Rattle.cls_base.specs.Types.{ClosedType}
use Rattle.cls_library.specs.Libraries.{Library}
use Rattle.cls_proof.specs.Certificates as proof
use Rattle.cls_proof.specs.Certificates.{ProofRow, Certificate, inhabited, empty}
use Rattle.cls_check.specs.declared.fault.Reason.{Reason}
use Rattle.cls_check.specs.declared.fault.Reason.TheVariants.{Arrow, Target, Argument, Goal, Layers, Unblocked}
use Rattle.cls_base.specs.Firsts.{Cause, IsSilent, IsDetermined, First, FirstAfter}
use Rattle.cls_check.specs.Checking.{path_total, PassesArrow, PassesTarget, PassesArgument, row_causes, PassesRow, PassRows, EndsBelow, PassesLayers, PassesUnblocked, WithForm, member_causes, PassesMember, IsAboveRow, IsBelowMember, Accepts, by_rows, by_members, Refuses, refusals, row_refusal, member_refusal}
use Rattle.cls_base.proofs.Firsts.{first-determined, along-determined}
use Rattle.cls_check.proofs.Order.{one_form}

-- if a fact decides what is said, one thing is said
said-alone : {T : Type 0} (P : Type 0) (t : T) → IsDetermined (λ (u : T). P × (u ≡ t))
said-alone P t u v a b = a.1 ∙ sym b.1

-- at one number one reason
numbered-determined : (n : ℕ) (says : Cause Reason) → IsDetermined says → IsDetermined (λ (p : ℕ × Reason). (p.0 ≡ n) × says p.1)
numbered-determined n says h p q a b = ap (λ m. (m, p.1)) (a.0 ∙ sym b.0) ∙ ap (λ r. (q.0, r)) (h p.1 q.1 a.1 b.1)

module _ (l : Library) where
  row-determined : (IsAbove : ClosedType → Type 0) (r : ProofRow) → IsDetermined (First (row_causes l IsAbove r))
  row-determined IsAbove r = first-determined (row_causes l IsAbove r) (said-alone (PassesArrow l r → ⊥) Arrow, (said-alone (PassesTarget l r → ⊥) Target, (said-alone (PassesArgument l IsAbove r → ⊥) Argument, tt)))

  member-determined : (IsBelow : ClosedType → Type 0) (m : proof.Member) → IsDetermined (First (member_causes l IsBelow m))
  member-determined IsBelow m = first-determined (member_causes l IsBelow m)
      (said-alone (WithForm l m (λ form. PassesLayers l m.blocks (path_total form) → ⊥)) Layers, (said-alone (WithForm l m (λ form. PassesUnblocked l IsBelow m.blocks form → ⊥)) Unblocked, tt))

  pub refusal_determined : (asked : ClosedType) (c : Certificate) → IsDetermined (Refuses l asked c)
  refusal_determined asked (inhabited rows) = first-determined (refusals l asked (inhabited rows)) (
    along-determined (row_refusal l) (λ earlier r. numbered-determined (length earlier + 1) (First (row_causes l (IsAboveRow l earlier) r)) (row-determined (IsAboveRow l earlier) r)) rows,
    (said-alone (EndsBelow l rows asked → ⊥) (length rows, Goal), tt),
  )
  refusal_determined asked (empty members) = first-determined (refusals l asked (empty members)) (
    along-determined (member_refusal l members) (λ earlier m. numbered-determined (length earlier + 1) (First (member_causes l (IsBelowMember l members) m)) (member-determined (IsBelowMember l members) m)) members,
    (said-alone (IsBelowMember l members asked → ⊥) (0, Goal), tt),
  )

  -- a row that passes has no cause
  pub row-passes : (IsAbove : ClosedType → Type 0) (r : ProofRow) → PassesRow l IsAbove r → IsSilent (First (row_causes l IsAbove r))
  row-passes IsAbove r p reason (inl h) = h.0 p.arrow
  row-passes IsAbove r p reason (inr (h, inl k)) = k.0 p.target
  row-passes IsAbove r p reason (inr (h, inr (k, inl l))) = l.0 p.argument
  row-passes IsAbove r p reason (inr (h, inr (k, inr (l, m)))) = m

  pub rows-pass : (earlier rows : List ProofRow) → PassRows l earlier rows → IsSilent (FirstAfter (row_refusal l) earlier rows)
  rows-pass earlier [] h p a = a
  rows-pass earlier (r ∷ rows) h p (inl a) = row-passes (IsAboveRow l earlier) r h.0 p.1 a.1
  rows-pass earlier (r ∷ rows) h p (inr a) = rows-pass (earlier ++ r ∷ []) rows h.1 p a.1

  pub member-passes : (IsBelow : ClosedType → Type 0) (m : proof.Member) → PassesMember l IsBelow m → IsSilent (First (member_causes l IsBelow m))
  member-passes IsBelow m p reason (inl ((n, h, bad), e)) = bad (subst (λ x. PassesLayers l m.blocks (path_total x)) (one_form l m.goal p.form n p.is_form h) p.layers)
  member-passes IsBelow m p reason (inr (s, inl ((n, h, bad), e))) = bad (subst (λ x. PassesUnblocked l IsBelow m.blocks x) (one_form l m.goal p.form n p.is_form h) p.unblocked)
  member-passes IsBelow m p reason (inr (s, inr (t, e))) = e

  pub members-pass : (members before rest : List proof.Member) → ((m : proof.Member) → Contains rest m → PassesMember l (IsBelowMember l members) m)
      → IsSilent (FirstAfter (member_refusal l members) before rest)
  members-pass members before [] h p a = a
  members-pass members before (m ∷ rest) h p (inl a) = member-passes (IsBelowMember l members) m (h m (Contains-here m rest)) p.1 a.1
  members-pass members before (m ∷ rest) h p (inr a) = members-pass members (before ++ m ∷ []) rest (λ n i. h n (Contains-later n m rest i)) p a.1

  pub accepted_silent : (asked : ClosedType) (c : Certificate) → Accepts l asked c → IsSilent (Refuses l asked c)
  accepted_silent asked _ (by_rows {rows = rows} h e) p (inl a) = rows-pass [] rows h p a
  accepted_silent asked _ (by_rows {rows = rows} h e) p (inr (s, inl a)) = a.0 e
  accepted_silent asked _ (by_rows {rows = rows} h e) p (inr (s, inr (t, a))) = a
  accepted_silent asked _ (by_members {members = members} h e) p (inl a) = members-pass members [] members (λ m i. All-contains (PassesMember l (IsBelowMember l members)) members m h i) p a
  accepted_silent asked _ (by_members {members = members} h e) p (inr (s, inl a)) = a.0 e
  accepted_silent asked _ (by_members {members = members} h e) p (inr (s, inr (t, a))) = a
