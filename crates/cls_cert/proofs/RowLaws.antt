-- The rows of a certificate, rank after rank and goal after goal.
use Rattle.std.proofs.Common.{ℕ, ◌≡◌, ◌+◌, ◌<◌, refl, sym, subst, ◌⊎◌, inl, inr, List, [], ◌∷◌, ◌++◌, arith, Contains}
use Rattle.std.proofs.lemmas.List.Elements.{Contains-push, Contains-push_cases, Contains-append_left}
use Rattle.cls_base.specs.declared.rule.Rule.{Rule}
use Rattle.cls_base.specs.Languages.{NodeRule}
use Rattle.cls_base.proofs.Lists.{Contains-nil}
use Rattle.cls_expand.specs.Listing.{all_last}
use Rattle.cls_path.specs.Paths.{Paths}
use Rattle.cls_grammar.specs.Ranks.{IsRank}
use Rattle.cls_library.specs.Libraries.{Library}
use Rattle.cls_proof.specs.Certificates.{ProofRow}
use Rattle.cls_cert.specs.Making.{Ranked, ComesEarlier, IsRanked, IsRowFor, AreRows}
use Rattle.cls_cert.specs.Building.{AreRowsTo}
use Rattle.cls_cert.proofs.Lists.{rises_last}

module _ (l : Library) (goals : List Paths) (book : List (List (Rule ℕ))) where
  abbrev Is : Ranked → Type 0
  Is e = IsRanked l goals book e

  abbrev IsTo : ℕ → List ℕ → Ranked → Type 0
  IsTo rank done e = (e.rank < rank) ⊎ ((e.rank ≡ rank) × Contains done e.number)

  pub no_rows : (rows : List ProofRow) → rows ≡ [] → AreRowsTo l goals book 0 [] rows
  no_rows rows e = subst (λ (rs : List ProofRow). AreRowsTo l goals book 0 [] rs) (sym e) (record {
    earlier = [];
    in_order = tt;
    exactly = (λ e. ((λ m. absurd (Contains-nil e m)), (λ h. absurd (nothing e h.1))));
    made = tt;
  })
    where
      nothing : (e : Ranked) → IsTo 0 [] e → ⊥
      nothing e (inl k) = omega arith
      nothing e (inr k) = Contains-nil e.number k.1

  abbrev ranked : ℕ → ℕ → Ranked
  ranked x rank = record { number = x; rank = rank }

  -- one row more
  pub rows_step : (rank x : ℕ) (done : List ℕ) (old new : List ProofRow) (row : ProofRow) → new ≡ old ++ row ∷ [] → Is (ranked x rank) → ((d : ℕ) → Contains done d → d < x) → IsRowFor l goals book (ranked x rank) row → AreRowsTo l goals book rank done old → AreRowsTo l goals book rank (done ++ x ∷ []) new
  rows_step rank x done old new row e r f h a = subst (λ (rs : List ProofRow). AreRowsTo l goals book rank (done ++ x ∷ []) rs) (sym e) (record {
    earlier = a.earlier ++ ranked x rank ∷ [];
    in_order = rises_last ComesEarlier a.earlier (ranked x rank) a.in_order (λ d m. before d ((a.exactly d).0 m).1);
    exactly = (λ d. ((λ m. to d (Contains-push_cases a.earlier (ranked x rank) d m)), (λ k. by d k.0 k.1)));
    made = all_last (IsRowFor l goals book) a.earlier old (ranked x rank) row a.made h;
  })
    where
      before : (d : Ranked) → IsTo rank done d → ComesEarlier d (ranked x rank)
      before d (inl k) = inl k
      before d (inr k) = inr (k.0, f d.number k.1)

      wider : (d : Ranked) → IsTo rank done d → IsTo rank (done ++ x ∷ []) d
      wider d (inl k) = inl k
      wider d (inr k) = inr (k.0, Contains-append_left done (x ∷ []) d.number k.1)

      to : (d : Ranked) → Contains a.earlier d ⊎ (ranked x rank ≡ d) → Is d × IsTo rank (done ++ x ∷ []) d
      to d (inl m) = let u = (a.exactly d).0 m in (u.0, wider d u.1)
      to d (inr s) = subst (λ (c : Ranked). Is c × IsTo rank (done ++ x ∷ []) c) s (r, inr (refl, Contains-push done x))

      last : (d : Ranked) → d.rank ≡ rank → x ≡ d.number → Contains (a.earlier ++ ranked x rank ∷ []) d
      last d p q =
          let s : ranked x rank ≡ d = λ i. record { number = q i; rank = sym p i } in
          subst (λ (c : Ranked). Contains (a.earlier ++ ranked x rank ∷ []) c) s (Contains-push a.earlier (ranked x rank))

      by : (d : Ranked) → Is d → IsTo rank (done ++ x ∷ []) d → Contains (a.earlier ++ ranked x rank ∷ []) d
      by d i (inl k) = Contains-append_left a.earlier (ranked x rank ∷ []) d ((a.exactly d).1 (i, inl k))
      by d i (inr k) = elim (Contains-push_cases done x d.number k.1) [
        | inl m ↦ Contains-append_left a.earlier (ranked x rank ∷ []) d ((a.exactly d).1 (i, inr (k.0, m)))
        | inr s ↦ last d k.0 s
      ]

  -- all goals of a rank have rows
  pub rows_next : (rank : ℕ) (done : List ℕ) (rows : List ProofRow) → ((i : ℕ) → IsRank ℕ (NodeRule book) i rank → Contains done i) → AreRowsTo l goals book rank done rows → AreRowsTo l goals book (rank + 1) [] rows
  rows_next rank done rows f a = record {
    earlier = a.earlier;
    in_order = a.in_order;
    exactly = (λ d. ((λ m. let u = (a.exactly d).0 m in (u.0, inl (to d u.1))), (λ k. (a.exactly d).1 (k.0, back d k.0 k.1))));
    made = a.made;
  }
    where
      to : (d : Ranked) → IsTo rank done d → d.rank < rank + 1
      to d (inl k) = omega arith
      to d (inr k) = let e : d.rank ≡ rank = k.0 in omega arith

      cases : (d : Ranked) → d.rank < rank + 1 → (d.rank < rank) ⊎ (d.rank ≡ rank)
      cases d k = by d.rank k
        where
          by : (n : ℕ) → n < rank + 1 → (n < rank) ⊎ (n ≡ rank)
          by n k = grind arith

      back : (d : Ranked) → Is d → IsTo (rank + 1) [] d → IsTo rank done d
      back d i (inl k) = elim (cases d k) [
        | inl j ↦ inl j
        | inr e ↦ inr (e, f d.number (subst (λ (n : ℕ). IsRank ℕ (NodeRule book) d.number n) e i))
      ]
      back d i (inr k) = absurd (Contains-nil d.number k.1)

  -- the row of goal 0 stands last
  pub rows_whole : (rank : ℕ) (old new : List ProofRow) (row : ProofRow) → new ≡ old ++ row ∷ [] → IsRank ℕ (NodeRule book) 0 rank → IsRowFor l goals book (ranked 0 rank) row → AreRowsTo l goals book rank [] old → AreRows l goals book new
  rows_whole rank old new row e r h a = subst (λ (rs : List ProofRow). AreRows l goals book rs) (sym e) (record {
    rank = rank;
    is_rank = r;
    earlier = a.earlier;
    in_order = a.in_order;
    exactly = (λ d. ((λ m. let u = (a.exactly d).0 m in (u.0, to d u.1)), (λ k. (a.exactly d).1 (k.0, inl k.1))));
    made = all_last (IsRowFor l goals book) a.earlier old (ranked 0 rank) row a.made h;
  })
    where
      to : (d : Ranked) → IsTo rank [] d → d.rank < rank
      to d (inl k) = k
      to d (inr k) = absurd (Contains-nil d.number k.1)
