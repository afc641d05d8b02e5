-- Rows, one after another.
use Rattle.std.proofs.Common.{ℕ, zero, suc, ◌≡◌, ◌+◌, ◌<◌, ◌↔◌, ◌⊎◌, inl, inr, refl, sym, subst, ap, List, [], ◌∷◌, ◌++◌, length, take, drop, get_or, arith}
use Rattle.std.specs.Prelude.{Contains, IsSomeAnd, slice_get, Option, None, Some}
use Rattle.std.proofs.lemmas.List.{length-take}
use Rattle.std.proofs.lemmas.List.Elements.{Contains-push, Contains-push_cases, Contains-append_left}
use Rattle.std.proofs.Math.Seq.{drop-length}
use Rattle.cls_base.specs.Types.{ClosedType}
use Rattle.cls_base.specs.Subtyping.{transitivity}
use Rattle.cls_base.proofs.Lists.{Contains-nil}
use Rattle.cls_path.specs.Paths.{TypePath, Paths, listed, type_of_paths, SuitsAll}
use Rattle.cls_path.proofs.Completeness.{covered}
use Rattle.cls_path.proofs.Transitivity.{le_trans}
use Rattle.cls_library.specs.Arrows.{MultiArrow}
use Rattle.cls_library.specs.Libraries.{Library, below_in, variances_in}
use Rattle.cls_library.specs.Reaching.{PathLeIn, PathsLeIn, CoversGoal}
use Rattle.cls_proof.specs.Certificates.{ProofRow}
use Rattle.cls_check.specs.declared.fault.Reason.{Reason}
use Rattle.cls_check.specs.Checking.{IsSubtype, IsForm, IsAboveRow, row_causes, PassesRow, PassRows, EndsBelow, row_refusal}
use Rattle.cls_base.specs.Firsts.{First, FirstAfter, FirstAlong}
use Rattle.cls_check.specs.Goals.{IsAboveGoal, AllSuit}
use Rattle.cls_check.proofs.Loops.{drop-one, take-one}
use Rattle.cls_check.proofs.Order.{reflexive, transitive, form_down, form_up}
use Rattle.cls_check.proofs.Verdicts.{row-passes}

module _ (l : Library) where
  -- arrows that lead to each path of a list lead to each path above it
  pub covers_up : (arrows : List MultiArrow) (n m : Paths) (s : List ℕ) → PathsLeIn l n m → CoversGoal l arrows n s → CoversGoal l arrows m s
  covers_up arrows n m s h c q i =
      let r = covered (below_in l.taxonomy) (variances_in l.taxonomy) (reflexive l) (transitive l) n m h q i in
      let u = c r.0 r.1 in
      (u.0, u.1, up (slice_get arrows u.0) r.0 u.2 r.2)
    where
      up : (o : Option MultiArrow) (p : TypePath) → IsSomeAnd o (λ a. PathLeIn l a.target p) → PathLeIn l p q → IsSomeAnd o (λ a. PathLeIn l a.target q)
      up None p h k = h
      up (Some a) p h k = le_trans (below_in l.taxonomy) (variances_in l.taxonomy) (reflexive l) (transitive l) p a.target q h k

  -- the same reason by another table of goals
  pub causes_map : (P Q : ClosedType → Type 0) → ((t : ClosedType) → P t ↔ Q t) → (r : ProofRow) (reason : Reason) → First (row_causes l P r) reason → First (row_causes l Q r) reason
  causes_map P Q f r reason (inl a) = inl a
  causes_map P Q f r reason (inr (s, inl a)) = inr (s, inl a)
  causes_map P Q f r reason (inr (s, inr (t, inl a))) = inr (s, inr (t, inl ((λ p. a.0 (λ i k. (f _).1 (p i k))), a.1)))
  causes_map P Q f r reason (inr (s, inr (t, inr a))) = absurd a.1

  pub passes_map : (P Q : ClosedType → Type 0) → ((t : ClosedType) → P t → Q t) → (r : ProofRow) → PassesRow l P r → PassesRow l Q r
  passes_map P Q f r p = record { arrow = p.arrow; target = p.target; argument = λ i k. f _ (p.argument i k) }

  -- the first i rows passed, and the table has their goals
  pub record RowsTo (rows : List ProofRow) (goals : List (List TypePath)) (i : ℕ) : Type 0 where
    pub suits : AllSuit l goals
    pub above : (t : ClosedType) → IsAboveGoal l goals t ↔ IsAboveRow l (take i rows) t
    pub passed : PassRows l (take i rows) (drop i rows) → PassRows l [] rows
    pub refused : (p : ℕ × Reason) → FirstAfter (row_refusal l) (take i rows) (drop i rows) p → FirstAlong (row_refusal l) rows p

  pub rows_start : (rows : List ProofRow) → RowsTo rows [] 0
  rows_start rows = record {
    suits = λ g m. absurd (Contains-nil g m);
    above = λ t. ((λ h. absurd (Contains-nil h.0 h.1)), (λ h. absurd (Contains-nil h.0 h.1)));
    passed = λ h. h;
    refused = λ p h. h;
  }

  module _ (rows : List ProofRow) (goals : List (List TypePath)) (i : ℕ) (h : RowsTo rows goals i) (r : ProofRow) (is : r ≡ get_or rows i r) (m : i < length rows) where
    left_is : drop i rows ≡ r ∷ drop (i + 1) rows
    left_is = drop-one rows i r is m

    front_is : take (i + 1) rows ≡ take i rows ++ r ∷ []
    front_is = take-one rows i r is m

    front_length : length (take i rows) ≡ i
    front_length = simp length-take (omega arith)

    pub rows_fail : (reason : Reason) → First (row_causes l (IsAboveGoal l goals) r) reason → FirstAlong (row_refusal l) rows (i + 1, reason)
    rows_fail reason f =
        h.refused (i + 1, reason) (subst (λ (q : List ProofRow). FirstAfter (row_refusal l) (take i rows) q (i + 1, reason)) (sym left_is)
        (inl (ap (λ (k : ℕ). k + 1) (sym front_length), causes_map (IsAboveGoal l goals) (IsAboveRow l (take i rows)) h.above r reason f)))

    module _ (nf : List TypePath) (form : IsForm l r.goal (listed nf)) (new : List (List TypePath)) (put : (g : List TypePath) → Contains new g ↔ (Contains goals g ⊎ (g ≡ nf))) where
      in_new : (t : ClosedType) → IsAboveGoal l new t ↔ (IsAboveGoal l goals t ⊎ IsSubtype l (type_of_paths (listed nf)) t)
      in_new t = (
        (λ u. elim ((put u.0).0 u.1) [ inl a ↦ inl (u.0, a, u.2) | inr e ↦ inr (subst (λ (g : List TypePath). IsSubtype l (type_of_paths (listed g)) t) e u.2) ]),
        (λ u. elim u [ inl a ↦ (a.0, (put a.0).1 (inl a.1), a.2) | inr b ↦ (nf, (put nf).1 (inr refl), b) ]),
      )

      above_next : (t : ClosedType) → IsAboveGoal l new t ↔ IsAboveRow l (take (i + 1) rows) t
      above_next t = (
        (λ u. subst (λ (q : List ProofRow). IsAboveRow l q t) (sym front_is) (elim ((in_new t).0 u) [
          | inl a ↦ (let b = (h.above t).0 a in (b.0, Contains-append_left (take i rows) (r ∷ []) b.0 b.1, b.2))
          | inr b ↦ (r, Contains-push (take i rows) r, transitivity (form_up l r.goal (listed nf) form) b)
        ])),
        (λ u. let v = subst (λ (q : List ProofRow). IsAboveRow l q t) front_is u in (in_new t).1 (elim (Contains-push_cases (take i rows) r v.0 v.1) [
          | inl a ↦ inl ((h.above t).1 (v.0, a, v.2))
          | inr b ↦ inr (transitivity (form_down l r.goal (listed nf) form) (subst (λ (e : ProofRow). IsSubtype l e.goal t) (sym b) v.2))
        ])),
      )

      pub rows_next : PassesRow l (IsAboveGoal l goals) r → RowsTo rows new (i + 1)
      rows_next p =
          let passes = passes_map (IsAboveGoal l goals) (IsAboveRow l (take i rows)) (λ t. (h.above t).0) r p in
          record {
            suits = λ g k. elim ((put g).0 k) [ inl a ↦ h.suits g a | inr e ↦ subst (λ (q : List TypePath). SuitsAll (variances_in l.taxonomy) (listed q)) (sym e) form.normal.suits ];
            above = above_next;
            passed = λ f. h.passed (subst (λ (q : List ProofRow). PassRows l (take i rows) q) (sym left_is) (passes, subst (λ (q : List ProofRow). PassRows l q (drop (i + 1) rows)) front_is f));
            refused = λ q f. h.refused q (subst (λ (x : List ProofRow). FirstAfter (row_refusal l) (take i rows) x q) (sym left_is)
                (inr ((λ t k. row-passes l (IsAboveRow l (take i rows)) r passes t.1 k.1), subst (λ (x : List ProofRow). FirstAfter (row_refusal l) x (drop (i + 1) rows) q) front_is f)));
          }

  pub rows_done : (rows : List ProofRow) (goals : List (List TypePath)) (i : ℕ) → i ≡ length rows → RowsTo rows goals i → PassRows l [] rows
  rows_done rows goals i e h = h.passed (subst (λ (k : ℕ). PassRows l (take k rows) (drop k rows)) (sym e) (subst (λ (q : List ProofRow). PassRows l (take (length rows) rows) q) (sym (drop-length rows)) tt))

  -- the last row
  pub form_le : (t asked : ClosedType) (n : Paths) → IsForm l t n → IsSubtype l (type_of_paths n) asked ↔ IsSubtype l t asked
  form_le t asked n f = ((λ h. transitivity (form_up l t n f) h), (λ h. transitivity (form_down l t n f) h))

  pub ends_at : (rows : List ProofRow) (k : ℕ) (d : ProofRow) (asked : ClosedType) → length rows ≡ k + 1 → EndsBelow l rows asked ↔ IsSubtype l (get_or rows k d).goal asked
  ends_at [] k d asked e = absurd (omega arith)
  ends_at (r ∷ []) zero d asked e = ((λ h. h), (λ h. h))
  ends_at (r ∷ []) (suc k) d asked e = absurd (omega arith)
  ends_at (r ∷ s ∷ rows) zero d asked e = absurd (omega arith)
  ends_at (r ∷ s ∷ rows) (suc k) d asked e = ends_at (s ∷ rows) k d asked (omega arith)
