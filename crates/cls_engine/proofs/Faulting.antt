-- Which fault is the first cause.
use Rattle.std.proofs.Common.{refl, inl, inr, ◌⊎◌, List}
use Rattle.cls_base.specs.Types.{ClosedType}
use Rattle.cls_core.specs.Rows.{Row}
use Rattle.cls_expand.specs.Answers.{IsReady}
use Rattle.cls_library.specs.Libraries.{Library}
use Rattle.cls_engine.specs.declared.options.Options.{Options}
use Rattle.cls_engine.specs.declared.fault.EngineFault.{EngineFault}
use Rattle.cls_engine.specs.declared.fault.EngineFault.TheVariants.{Size, TooLarge, Wide, FilterTooLarge, TooManyTerms, OutOfMemory}
use Rattle.cls_engine.specs.Closing.{IsKnown, IsKnownOf, IsClosingFault}
use Rattle.cls_engine.specs.Faults.{closure_faults, IsFaultOf, IsOversizedOr, AreSilent}
use Rattle.cls_engine.specs.Goals.{Goal, IsSpread, IsGoalOf, IsUnfit, IsClosed}
use Rattle.cls_engine.proofs.Goals.{not_unfit, not_large, not_wide}

module _ (lib : Library) (o : Options) (t : ClosedType) where
  pub by_size : (f : EngineFault) → IsOversizedOr lib t f → IsFaultOf (closure_faults lib o t) f
  by_size OutOfMemory h = tt
  by_size Size h = inl h
  by_size TooLarge h = inl h
  by_size (Wide g) h = inl h
  by_size FilterTooLarge h = inl h
  by_size TooManyTerms h = inl h

  module _ (goal : Goal) (is : IsGoalOf lib t goal) (narrow : IsSpread t → ⊥) where
    abbrev not_oversized : IsReady lib goal → IsSpread t ⊎ IsUnfit lib t → ⊥
    not_oversized ready (inl h) = narrow h
    not_oversized ready (inr h) = not_unfit lib t goal is ready.fit h

    pub by_closing : IsReady lib goal → (f : EngineFault) → IsClosingFault lib o goal f → IsFaultOf (closure_faults lib o t) f
    by_closing ready Size h = absurd h
    by_closing ready FilterTooLarge h = absurd h
    by_closing ready TooManyTerms h = absurd h
    by_closing ready OutOfMemory h = tt
    by_closing ready TooLarge h = inr ((λ f k. not_oversized ready k.0), inl ((goal, is, h), refl))
    by_closing ready (Wide g) h =
        let closed : IsClosed lib t h.1 = record { goal = goal; is_goal = is; fit = ready.fit; canonical = h.2 } in
        inr ((λ f k. not_oversized ready k.0), inr ((λ f k. not_large lib t o.goals o.rules goal is h.0 k.0), inl (g, (h.1, closed, h.3), refl)))

    pub known-closed : (rows : List (Row Goal)) → IsKnown lib o goal rows → IsClosed lib t rows
    known-closed rows k = record { goal = goal; is_goal = is; fit = k.ready.fit; canonical = k.canonical }

    pub known-silent : (rows : List (Row Goal)) → IsKnown lib o goal rows → AreSilent (closure_faults lib o t)
    known-silent rows k = λ f p. elim p [
      | inl h ↦ not_oversized k.ready h.0
      | inr q ↦ elim q.1 [
        | inl h ↦ not_large lib t o.goals o.rules goal is k.not_large h.0
        | inr r ↦ elim r.1 [ inl h ↦ not_wide lib t rows (known-closed rows k) k.none_wide h.0 h.1 | inr s ↦ absurd s.1 ]
      ]
    ]

  pub closed-of : (rows : List (Row Goal)) → IsKnownOf lib o t rows → IsClosed lib t rows
  closed-of rows k = known-closed k.goal k.is_goal k.narrow rows k.known

  pub silent-of : (rows : List (Row Goal)) → IsKnownOf lib o t rows → AreSilent (closure_faults lib o t)
  silent-of rows k = known-silent k.goal k.is_goal k.narrow rows k.known
