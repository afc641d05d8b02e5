-- What is kept to have come of a goal is so.
use Rattle.std.proofs.Common.{ℕ, ◌<◌, Bool, slice_index_or, ◌≡◌, sym, ◌∙◌, ap, subst, inl, inr, List, Option, None, Some}
use Rattle.std.specs.Prelude.{Contains, Result, Ok, Err, IfSome, IfErr, ◌⊎◌}
use Rattle.std.specs.Option.{unwrap_or}
use Rattle.std.proofs.lemmas.Option.{unwrap_or-slice_get}
use Rattle.cls_base.proofs.Lists.{Contains-at}
use Rattle.cls_base.specs.Types.{ClosedType}
use Rattle.cls_core.specs.Rows.{Row}
use Rattle.cls_finite.specs.declared.answer.FiniteAnswer.{FiniteAnswer}
use Rattle.cls_library.specs.Libraries.{Library}
use Rattle.cls_engine.specs.declared.fault.EngineFault.{EngineFault}
use Rattle.cls_engine.specs.declared.fault.EngineFault.TheVariants as fault
use Rattle.cls_engine.specs.declared.options.Options.{Options}
use Rattle.cls_engine.specs.declared.outcomes.Decided.{Decided}
use Rattle.cls_engine.specs.declared.outcomes.Outcome.{Outcome}
use Rattle.cls_engine.specs.declared.outcomes.Outcome.TheVariants.{Inhabited, Sizes, TooLarge, Wide}
use Rattle.cls_engine.specs.Closing.{IsKnown, IsKnownOf, IsClosingFault}
use Rattle.cls_engine.specs.Goals.{Goal, IsGoalOf}
use Rattle.cls_engine.specs.Outcomes.{fault_in, sizes_in, TellsVerdict, IsDecidedAt, HasVerdict, HasSizes, HasFault, IsVerdict, IsVerdictOn, AreSizes, AreSizesOf, IsOutcome, AreOutcomes}
use Rattle.cls_engine.proofs.Goals.{goal_unique}
use Rattle.cls_engine.proofs.Sizing.{sizes-verdict}

-- what is read at the place of a goal is what is kept of it
module _ (kept : List Decided) (place : ℕ) (goal : Goal) (one : IsDecidedAt kept place goal) (d : Decided) (read : d ≡ slice_index_or kept place d) where
  same : d ≡ one.0
  same = read ∙ sym (unwrap_or-slice_get kept place d) ∙ ap (λ (r : Option Decided). unwrap_or r d) one.1

  pub held-at : Contains kept d
  held-at = Contains-at kept place d (one.1 ∙ ap (λ (x : Decided). Some x) (sym same))

  pub goal-at : d.goal ≡ goal
  goal-at = ap (λ (x : Decided). x.goal) same ∙ one.2

  pub verdict-at : (r : Option Bool) → IfSome r (TellsVerdict d.outcome) → IfSome r (HasVerdict kept goal)
  verdict-at None h = tt
  verdict-at (Some says) h = (d, held-at, goal-at, h)

  pub sizes-at : (r : Option FiniteAnswer) → IfSome r (λ answer. sizes_in d.outcome ≡ Some answer) → IfSome r (HasSizes kept goal)
  sizes-at None h = tt
  sizes-at (Some answer) h = (d, held-at, goal-at, h)

  pub fault-at : (f : EngineFault) → (f ≡ fault.OutOfMemory) ⊎ (fault_in d.outcome ≡ Some f) → (f ≡ fault.OutOfMemory) ⊎ HasFault kept goal f
  fault-at f h = elim h [ inl e ↦ inl e | inr e ↦ inr (d, held-at, goal-at, e) ]

-- whether the start of a type's grammar is productive, as what came of its goal
pub verdict-on : (lib : Library) (o : Options) (t : ClosedType) (goal : Goal) → IsGoalOf lib t goal → (rows : List (Row Goal)) → IsKnownOf lib o t rows → (says : Bool) → IsVerdict rows says → IsVerdictOn lib o goal says
verdict-on lib o t goal is rows k says v = record {
  rows = rows;
  known = subst (λ (g : Goal). IsKnown lib o g rows) (goal_unique lib t k.goal goal k.is_goal is) k.known;
  verdict = v;
}

module _ (lib : Library) (o : Options) (cost : ℕ → ℕ) where
  -- how large the terms of a type's grammar are, as what came of its goal
  pub sizes-on : (t : ClosedType) (goal : Goal) → IsGoalOf lib t goal → (rows : List (Row Goal)) → IsKnownOf lib o t rows → (answer : FiniteAnswer) → AreSizes cost rows answer → AreSizesOf lib o cost goal answer
  sizes-on t goal is rows k answer s = record {
    rows = rows;
    known = subst (λ (g : Goal). IsKnown lib o g rows) (goal_unique lib t k.goal goal k.is_goal is) k.known;
    sizes = s;
  }

  -- a fault that came of a goal, as what is kept of it
  pub outcome-of : (goal : Goal) (f : EngineFault) → IsClosingFault lib o goal f → (outcome : Outcome) → fault_in outcome ≡ Some f → IsOutcome lib o cost goal outcome
  outcome-of goal f h (Inhabited says) e = absurd (let k : ◌≡◌ {A = Option EngineFault} None (Some f) = e in cc)
  outcome-of goal f h (Sizes answer) e = absurd (let k : ◌≡◌ {A = Option EngineFault} None (Some f) = e in cc)
  outcome-of goal f h TooLarge e =
      let k : ◌≡◌ {A = Option EngineFault} (Some fault.TooLarge) (Some f) = e in
      let s : f ≡ fault.TooLarge = cc in
      subst (λ (x : EngineFault). IsClosingFault lib o goal x) s h
  outcome-of goal f h (Wide g) e =
      let k : ◌≡◌ {A = Option EngineFault} (Some (fault.Wide g)) (Some f) = e in
      let s : f ≡ fault.Wide g = cc in
      subst (λ (x : EngineFault). IsClosingFault lib o goal x) s h

  -- and back
  pub fault-of : (goal : Goal) (outcome : Outcome) → IsOutcome lib o cost goal outcome → (f : EngineFault) → fault_in outcome ≡ Some f → IsClosingFault lib o goal f
  fault-of goal (Inhabited says) h f e = absurd (let k : ◌≡◌ {A = Option EngineFault} None (Some f) = e in cc)
  fault-of goal (Sizes answer) h f e = absurd (let k : ◌≡◌ {A = Option EngineFault} None (Some f) = e in cc)
  fault-of goal TooLarge h f e =
      let k : ◌≡◌ {A = Option EngineFault} (Some fault.TooLarge) (Some f) = e in
      let s : fault.TooLarge ≡ f = cc in
      subst (λ (x : EngineFault). IsClosingFault lib o goal x) s h
  fault-of goal (Wide g) h f e =
      let k : ◌≡◌ {A = Option EngineFault} (Some (fault.Wide g)) (Some f) = e in
      let s : fault.Wide g ≡ f = cc in
      subst (λ (x : EngineFault). IsClosingFault lib o goal x) s h

  sizes-told : (goal : Goal) (outcome : Outcome) → IsOutcome lib o cost goal outcome → (answer : FiniteAnswer) → sizes_in outcome ≡ Some answer → AreSizesOf lib o cost goal answer
  sizes-told goal (Inhabited says) h answer e = absurd (let k : ◌≡◌ {A = Option FiniteAnswer} None (Some answer) = e in cc)
  sizes-told goal (Sizes a) h answer e =
      let k : ◌≡◌ {A = Option FiniteAnswer} (Some a) (Some answer) = e in
      let s : a ≡ answer = cc in
      subst (AreSizesOf lib o cost goal) s h
  sizes-told goal TooLarge h answer e = absurd (let k : ◌≡◌ {A = Option FiniteAnswer} None (Some answer) = e in cc)
  sizes-told goal (Wide g) h answer e = absurd (let k : ◌≡◌ {A = Option FiniteAnswer} None (Some answer) = e in cc)

  verdict-told : ((x : ℕ) → 0 < cost x) → (goal : Goal) (outcome : Outcome) → IsOutcome lib o cost goal outcome → (says : Bool) → TellsVerdict outcome says → IsVerdictOn lib o goal says
  verdict-told costly goal (Inhabited kept) h says v = subst (IsVerdictOn lib o goal) v h
  verdict-told costly goal (Sizes answer) h says v = record { rows = h.rows; known = h.known; verdict = sizes-verdict cost costly h.rows answer h.sizes says v }
  verdict-told costly goal TooLarge h says v = absurd v
  verdict-told costly goal (Wide g) h says v = absurd v

  module _ (kept : List Decided) (each : AreOutcomes lib o cost kept) where
    -- what is kept of a goal came of it
    decided : (d : Decided) → Contains kept d → (goal : Goal) → d.goal ≡ goal → IsOutcome lib o cost goal d.outcome
    decided d has goal is = subst (λ (g : Goal). IsOutcome lib o cost g d.outcome) is (each d has)

    pub verdict-known : ((x : ℕ) → 0 < cost x) → (goal : Goal) (r : Option Bool) → IfSome r (HasVerdict kept goal) → IfSome r (IsVerdictOn lib o goal)
    verdict-known costly goal None has = tt
    verdict-known costly goal (Some says) has = verdict-told costly goal has.0.outcome (decided has.0 has.1 goal has.2) says has.3

    pub sizes-known : (goal : Goal) (r : Option FiniteAnswer) → IfSome r (HasSizes kept goal) → IfSome r (AreSizesOf lib o cost goal)
    sizes-known goal None has = tt
    sizes-known goal (Some answer) has = sizes-told goal has.0.outcome (decided has.0 has.1 goal has.2) answer has.3

    pub fault-known : {X : Type 0} (goal : Goal) (r : Result X EngineFault) → IfErr r (λ f. (f ≡ fault.OutOfMemory) ⊎ HasFault kept goal f) → IfErr r (IsClosingFault lib o goal)
    fault-known goal (Ok x) has = tt
    fault-known goal (Err f) has = elim has [
      | inl e ↦ subst (λ (x : EngineFault). IsClosingFault lib o goal x) (sym e) tt
      | inr h ↦ fault-of goal h.0.outcome (decided h.0 h.1 goal h.2) f h.3
    ]

    -- with one more outcome that came of its goal, each did
    pub more-decided : (goal : Goal) (outcome : Outcome) → IsOutcome lib o cost goal outcome → (more : List Decided)
        → ((d : Decided) → Contains more d → Contains kept d ⊎ ((d.goal ≡ goal) × (d.outcome ≡ outcome)))
        → AreOutcomes lib o cost more
    more-decided goal outcome new more from d has = elim (from d has) [
      | inl a ↦ each d a
      | inr e ↦ subst (λ (g : Goal). IsOutcome lib o cost g d.outcome) (sym e.0) (subst (λ (x : Outcome). IsOutcome lib o cost goal x) (sym e.1) new)
    ]
