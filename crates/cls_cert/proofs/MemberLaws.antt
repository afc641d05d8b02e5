-- The members of a certificate, goal after goal.
use Rattle.std.proofs.Common.{ℕ, ◌≡◌, ◌+◌, ◌<◌, ◌↔◌, sym, subst, ◌⊎◌, inl, inr, List, [], ◌∷◌, ◌++◌, length, arith, Contains}
use Rattle.std.proofs.lemmas.List.Elements.{Contains-push, Contains-push_cases, Contains-append_left}
use Rattle.cls_base.specs.declared.rule.Rule.{Rule}
use Rattle.cls_base.proofs.Lists.{Contains-nil}
use Rattle.cls_expand.specs.Listing.{all_last}
use Rattle.cls_path.specs.Paths.{Paths}
use Rattle.cls_grammar.specs.Ranks.{IsProductiveIn}
use Rattle.cls_library.specs.Libraries.{Library}
use Rattle.cls_proof.specs.Certificates as proof
use Rattle.cls_cert.specs.Making.{goal_in, IsMemberFor, AreMembers}
use Rattle.cls_cert.specs.Building.{AreMembersTo}
use Rattle.cls_cert.proofs.Lists.{rises_last}

module _ (l : Library) (goals : List Paths) (book : List (List (Rule ℕ))) where
  abbrev Made : ℕ → proof.Member → Type 0
  Made i m = IsMemberFor l (goal_in goals i) m

  pub no_members : (members : List proof.Member) → members ≡ [] → AreMembersTo l goals book 0 members
  no_members members e = subst (λ (ms : List proof.Member). AreMembersTo l goals book 0 ms) (sym e) (record {
    unproductive = [];
    in_order = tt;
    exactly = (λ i. ((λ m. absurd (Contains-nil i m)), (λ h. absurd (let k : i < 0 = h.0 in omega arith))));
    made = tt;
  })

  less_or : (i n : ℕ) → i < n + 1 → (i < n) ⊎ (i ≡ n)
  less_or i n l = grind arith

  pub members_skip : (n : ℕ) (members : List proof.Member) → IsProductiveIn book n → AreMembersTo l goals book n members → AreMembersTo l goals book (n + 1) members
  members_skip n members p a = record {
    unproductive = a.unproductive;
    in_order = a.in_order;
    exactly = (λ i. ((λ m. let r = (a.exactly i).0 m in let k : i < n = r.0 in (omega arith, r.1)), (λ h. by i h.1 (less_or i n h.0))));
    made = a.made;
  }
    where
      by : (i : ℕ) → (IsProductiveIn book i → ⊥) → (i < n) ⊎ (i ≡ n) → Contains a.unproductive i
      by i f (inl k) = (a.exactly i).1 (k, f)
      by i f (inr e) = absurd (f (subst (λ (j : ℕ). IsProductiveIn book j) (sym e) p))

  pub members_step : (n : ℕ) (old new : List proof.Member) (m : proof.Member) → new ≡ old ++ m ∷ [] → (IsProductiveIn book n → ⊥) → IsMemberFor l (goal_in goals n) m → AreMembersTo l goals book n old → AreMembersTo l goals book (n + 1) new
  members_step n old new m e f h a = subst (λ (ms : List proof.Member). AreMembersTo l goals book (n + 1) ms) (sym e) (record {
    unproductive = a.unproductive ++ n ∷ [];
    in_order = rises_last (λ x y. x < y) a.unproductive n a.in_order (λ x k. ((a.exactly x).0 k).0);
    exactly = (λ i. ((λ k. to i (Contains-push_cases a.unproductive n i k)), (λ k. by i k.1 (less_or i n k.0))));
    made = all_last Made a.unproductive old n m a.made h;
  })
    where
      to : (i : ℕ) → Contains a.unproductive i ⊎ (n ≡ i) → (i < n + 1) × (IsProductiveIn book i → ⊥)
      to i (inl k) = let r = (a.exactly i).0 k in let j : i < n = r.0 in (omega arith, r.1)
      to i (inr s) = (omega arith, subst (λ (j : ℕ). IsProductiveIn book j → ⊥) s f)

      by : (i : ℕ) → (IsProductiveIn book i → ⊥) → (i < n) ⊎ (i ≡ n) → Contains (a.unproductive ++ n ∷ []) i
      by i g (inl k) = Contains-append_left a.unproductive (n ∷ []) i ((a.exactly i).1 (k, g))
      by i g (inr s) = subst (λ (j : ℕ). Contains (a.unproductive ++ n ∷ []) j) (sym s) (Contains-push a.unproductive n)

  pub members_whole : (n : ℕ) (members : List proof.Member) → n ≡ length goals → AreMembersTo l goals book n members → AreMembers l goals book members
  members_whole n members e a = record {
    unproductive = a.unproductive;
    in_order = a.in_order;
    exactly = subst (λ (k : ℕ). (i : ℕ) → Contains a.unproductive i ↔ ((i < k) × (IsProductiveIn book i → ⊥))) e a.exactly;
    made = a.made;
  }
