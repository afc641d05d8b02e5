-- A grammar that is kept is that of its first goal.
use Rattle.std.proofs.Common.{◌≡◌, refl, sym, ◌∙◌, subst, inl, inr, List, [], ◌∷◌, Option, None, Some, slice_get}
use Rattle.std.specs.Prelude.{option_map, Contains, IfSome, ◌⊎◌}
use Rattle.cls_core.specs.Closure.{goals_of}
use Rattle.cls_core.specs.Rows.{Row}
use Rattle.cls_core.proofs.Grammar.{canonical-closure}
use Rattle.cls_expand.specs.Answers.{IsAnswer}
use Rattle.cls_expand.specs.Determined.{one_answer}
use Rattle.cls_library.specs.Libraries.{Library}
use Rattle.cls_engine.specs.declared.options.Options.{Options}
use Rattle.cls_engine.specs.Closing.{IsKnown}
use Rattle.cls_engine.specs.Goals.{Goal, same}
use Rattle.cls_engine.specs.Recents.{AreKnown, HasFirstGoal}
use Rattle.cls_engine.specs.declared.recents.Kept.{Kept}

first-same : (rows : List (Row Goal)) (g h : Goal) → option_map (λ (r : Row Goal). r.goal) (slice_get rows 0) ≡ Some g → slice_get (goals_of rows) 0 ≡ Some h → h ≡ g
first-same [] g h e f = absurd (let k : ◌≡◌ {A = Option Goal} None (Some g) = e in cc)
first-same (r ∷ rows) g h e f =
    let k : ◌≡◌ {A = Option Goal} (Some r.goal) (Some g) = e in
    let l : ◌≡◌ {A = Option Goal} (Some r.goal) (Some h) = f in
    cc

pub recent-known : (lib : Library) (o : Options) (rows : List (Row Goal)) → (start : Goal) × IsKnown lib o start rows
    → (g goal : Goal) → option_map (λ (r : Row Goal). r.goal) (slice_get rows 0) ≡ Some g → g ≡ goal → IsKnown lib o goal rows
recent-known lib o rows k g goal first is =
    let c = canonical-closure same (IsAnswer lib) k.0 (one_answer lib) rows k.1.canonical in
    subst (λ (x : Goal). IsKnown lib o x rows) (first-same rows g k.0 first c.first ∙ is) k.1

module _ (lib : Library) (o : Options) (kept : List Kept) (known : AreKnown lib o kept) where
  -- a grammar that was kept is known as that of its first goal
  pub kept-known : (k : Kept) → Contains kept k → (goal : Goal) → HasFirstGoal k.grammar goal → IsKnown lib o goal k.grammar
  kept-known k has goal first = recent-known lib o k.grammar (known k has) goal goal first refl

  pub taken-known : (goal : Goal) (taken : Option (List (Row Goal))) → IfSome taken (λ rows. HasFirstGoal rows goal)
      → IfSome taken (λ rows. (k : Kept) × Contains kept k × (k.grammar ≡ rows)) → IfSome taken (IsKnown lib o goal)
  taken-known goal None first was = tt
  taken-known goal (Some rows) first was =
      subst (λ (r : List (Row Goal)). IsKnown lib o goal r) was.2
      (kept-known was.0 was.1 goal (subst (λ (r : List (Row Goal)). HasFirstGoal r goal) (sym was.2) first))

  -- with one more that is known, each is known
  pub more-known : (rows : List (Row Goal)) → (start : Goal) × IsKnown lib o start rows → (more : List Kept)
      → ((k : Kept) → Contains more k → Contains kept k ⊎ (k.grammar ≡ rows)) → AreKnown lib o more
  more-known rows new more each k has = elim (each k has) [
    | inl a ↦ known k a
    | inr e ↦ (new.0, subst (λ (r : List (Row Goal)). IsKnown lib o new.0 r) (sym e) new.1)
  ]
