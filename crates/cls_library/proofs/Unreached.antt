-- A component without an ending that may lead to a path has no arrow there.
use Rattle.std.proofs.Common.{◌≡◌, ℕ, zero, suc, ◌≤◌, inl, inr, Bool, true, false, List, [], ◌∷◌, None, Some, refl, sym, subst, ap, ◌∙◌, arith}
use Rattle.std.specs.Prelude.{slice_get, nat_lt, IsSomeAnd, ◌||◌}
use Rattle.std.specs.List.{list_any}
use Rattle.std.proofs.lemmas.Bool.{cases_Bool}
use Rattle.cls_base.proofs.Lists.{Contains-nil}
use Rattle.cls_base.specs.Taxonomies.{Variance}
use Rattle.cls_base.specs.Taxa.{Below}
use Rattle.cls_path.specs.Paths.{TypePath, listed, PathLe}
use Rattle.cls_library.specs.declared.ending.Ending.{Ending}
use Rattle.cls_library.specs.Arrows.{MultiArrow, leading_arrows, arrows_of, onto}
use Rattle.cls_library.specs.Endings.{ending_of, may_end_below, AreEndings}
use Rattle.cls_library.specs.Families.{IsFamily}
use Rattle.cls_library.specs.Splits.{split_at}
use Rattle.cls_library.proofs.EndingLaws.{may-end}
use Rattle.cls_library.proofs.Places.{split-few, split-many, few, many}

differs : false ≡ true → ⊥
differs e = cc

or-left : (x y : Bool) → (x || y) ≡ false → x ≡ false
or-left true y e = absurd (differs (sym e))
or-left false y e = refl

or-right : (x y : Bool) → (x || y) ≡ false → y ≡ false
or-right true y e = absurd (differs (sym e))
or-right false y e = e

-- what no element passes, the one at a place doesn't
each-fails : (f : Ending → Bool) (hs : List Ending) (k : ℕ) (e : Ending) → list_any f hs ≡ false → slice_get hs k ≡ Some e → f e ≡ false
each-fails f [] k e n at = absurd (nothing k e at)
  where
    nothing : (k : ℕ) (e : Ending) → slice_get [] k ≡ Some e → ⊥
    nothing k e at = cc
each-fails f (h ∷ hs) zero e n at = ap (λ o. elim o [ None ↦ false | Some x ↦ f x ]) (sym at) ∙ or-left (f h) (list_any f hs) n
each-fails f (h ∷ hs) (suc k) e n at = each-fails f hs k e (or-right (f h) (list_any f hs) n) at

module _ (test : ℕ → ℕ → Bool) (variance : ℕ → Variance) (n : ℕ) (q : TypePath) where
  abbrev Leads : MultiArrow → Type 0
  Leads a = PathLe (Below test) variance a.target q

  -- the ending of none of the paths may lead there
  abbrev pub NonePasses : List TypePath → Type 0
  NonePasses [] = Unit {0}
  NonePasses (p ∷ ps) = (may_end_below test n (ending_of p) (ending_of q) ≡ false) × NonePasses ps

  unreached : (ps : List TypePath) → NonePasses ps → (i : ℕ) → IsSomeAnd (slice_get (arrows_of n (listed ps)) i) Leads → ⊥
  unreached [] h i s = s
  unreached (p ∷ ps) h i s = elim (cases_Bool (nat_lt (leading_arrows p) n)) [
    | inl e ↦ unreached ps h.1 i (subst (λ o. IsSomeAnd (slice_get (onto o (arrows_of n (listed ps))) i) Leads) (split-few n p (few (leading_arrows p) n e)) s)
    | inr e ↦ here (λ j t. unreached ps h.1 j t) i (subst (λ o. IsSomeAnd (slice_get (onto o (arrows_of n (listed ps))) i) Leads) (split-many n p (many (leading_arrows p) n e)) s) (many (leading_arrows p) n e)
  ]
    where
      here :
          ((j : ℕ) → IsSomeAnd (slice_get (arrows_of n (listed ps)) j) Leads → ⊥) → (i : ℕ)
          → IsSomeAnd (slice_get (split_at n p ∷ arrows_of n (listed ps)) i) Leads → n ≤ leading_arrows p → ⊥
      here rest zero s m = differs (sym h.0 ∙ may-end test variance n p q m s)
      here rest (suc j) s m = rest j s

  pub none-passes : (ps : List TypePath) → NonePasses ps → IsFamily (Below test) variance (arrows_of n (listed ps)) q []
  none-passes ps h = record {
    ascends = λ k l. absurd (omega arith);
    exactly = λ i. ((λ c. absurd (Contains-nil i c)), (λ s. absurd (unreached ps h i s)));
  }

  module _ (hs : List Ending) (none : list_any (λ lower. may_end_below test n lower (ending_of q)) hs ≡ false) where
    fails-all : (ks : List ℕ) (ps : List TypePath) → AreEndings hs ks ps → NonePasses ps
    fails-all [] [] h = tt
    fails-all [] (p ∷ ps) h = absurd h
    fails-all (k ∷ ks) [] h = absurd h
    fails-all (k ∷ ks) (p ∷ ps) h = (each-fails (λ lower. may_end_below test n lower (ending_of q)) hs k (ending_of p) none h.0, fails-all ks ps h.1)

    pub no-family : (ks : List ℕ) (ps : List TypePath) → AreEndings hs ks ps → IsFamily (Below test) variance (arrows_of n (listed ps)) q []
    no-family ks ps h = none-passes ps (fails-all ks ps h)
