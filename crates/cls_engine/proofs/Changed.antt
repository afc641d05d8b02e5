-- An engine whose components changed: each component costs at least 1, and nothing is kept of goals but what the components make.
use Rattle.std.proofs.Common.{ℕ, zero, suc, ◌≡◌, ◌<◌, ◌≤◌, sym, ◌∙◌, subst, inl, inr, List, [], ◌∷◌, ◌++◌, length, append-nil, arith}
use Rattle.std.specs.Prelude.{remove}
use Rattle.std.proofs.lemmas.Bool.{cases_lt}
use Rattle.std.proofs.lemmas.List.{drop_all, take_all}
use Rattle.cls_base.proofs.Lists.{Contains-nil}
use Rattle.cls_library.specs.Libraries.{Library}
use Rattle.cls_term.specs.Costs.{cost_of}
use Rattle.cls_engine.specs.declared.outcomes.Decided.{Decided}
use Rattle.cls_engine.specs.declared.recents.Kept.{Kept}
use Rattle.cls_engine.specs.Engines.{EngineSeen, IsEngine}
use Rattle.cls_engine.specs.Options.{AreInRange}
use Rattle.cls_engine.specs.Outcomes.{AreOutcomes}
use Rattle.cls_engine.specs.Recents.{AreKnown}

pub costs_more : (costs : List ℕ) → ((x : ℕ) → 0 < cost_of costs x) → (x : ℕ) → 0 < cost_of (costs ++ 1 ∷ []) x
costs_more [] h zero = omega arith
costs_more [] h (suc x) = h x
costs_more (c ∷ cs) h zero = h zero
costs_more (c ∷ cs) h (suc x) = costs_more cs (λ y. h (suc y)) x

-- nothing stands at a place past the end
pub remove_past : {A : Type 0} (xs : List A) (i : ℕ) → length xs ≤ i → xs ≡ remove xs i
remove_past xs i l = sym ((λ j. take_all i xs l j ++ drop_all (suc i) xs (omega (arith, l)) j) ∙ append-nil xs)

costs_without : (costs : List ℕ) → ((x : ℕ) → 0 < cost_of costs x) → (i : ℕ) → i < length costs → (x : ℕ) → 0 < cost_of (remove costs i) x
costs_without [] h i l x = absurd (omega arith)
costs_without (c ∷ cs) h zero l x = h (suc x)
costs_without (c ∷ cs) h (suc i) l zero = h zero
costs_without (c ∷ cs) h (suc i) l (suc x) = costs_without cs (λ y. h (suc y)) i (omega arith) x

pub costs_less : (costs : List ℕ) → ((x : ℕ) → 0 < cost_of costs x) → (i x : ℕ) → 0 < cost_of (remove costs i) x
costs_less costs h i x = elim (cases_lt i (length costs)) [
  | inl l ↦ costs_without costs h i l x
  | inr l ↦ subst (λ (ns : List ℕ). 0 < cost_of ns x) (remove_past costs i l) (h x)
]

-- the engine keeps no grammar and no outcome
pub engine_fresh : (e : EngineSeen) (kept_by : Library) (recents : List Kept) (outcomes : List Decided) → AreInRange e.options → ((x : ℕ) → 0 < cost_of e.costs x)
    → kept_by ≡ e.library → recents ≡ [] → outcomes ≡ [] → IsEngine e kept_by recents outcomes
engine_fresh e kept_by recents outcomes range costly kept none gone = record {
  in_range = range;
  costly = costly;
  kept = kept;
  known = subst (AreKnown e.library e.options) (sym none) (λ k has. absurd (Contains-nil k has));
  decided = subst (AreOutcomes e.library e.options (cost_of e.costs)) (sym gone) (λ d has. absurd (Contains-nil d has));
}

-- the engine is as before
pub engine_same : (e f : EngineSeen) (kept_by : Library) (recents : List Kept) (outcomes : List Decided) → f ≡ e → kept_by ≡ f.library
    → AreInRange e.options → ((x : ℕ) → 0 < cost_of e.costs x) → AreKnown e.library e.options recents → AreOutcomes e.library e.options (cost_of e.costs) outcomes
    → IsEngine f kept_by recents outcomes
engine_same e f kept_by recents outcomes same kept range costly known decided = record {
  in_range = subst (λ (z : EngineSeen). AreInRange z.options) (sym same) range;
  costly = subst (λ (z : EngineSeen). (x : ℕ) → 0 < cost_of z.costs x) (sym same) costly;
  kept = kept;
  known = subst (λ (z : EngineSeen). AreKnown z.library z.options recents) (sym same) known;
  decided = subst (λ (z : EngineSeen). AreOutcomes z.library z.options (cost_of z.costs) outcomes) (sym same) decided;
}
