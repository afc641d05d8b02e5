-- What is written for several types exists, and is one text. So is the fault of a wide goal one.
use Rattle.std.proofs.Common.{◌≡◌, ◌↔◌, ◌⊎◌, ℕ, refl, sym, ◌∙◌, ap, subst, inl, inr, Bool, true, false, List, [], ◌∷◌, ◌++◌, Option, Some}
use Rattle.std.specs.Prelude.{IsTrue}
use Rattle.cls_base.specs.Firsts.{Cause, First, FirstAfter, IsDetermined}
use Rattle.cls_base.specs.Types.{ClosedType}
use Rattle.cls_base.proofs.Firsts.{first-determined}
use Rattle.cls_core.specs.Rows.{Row}
use Rattle.cls_grammar.specs.Grammars.{first_wide}
use Rattle.cls_library.specs.Libraries.{Library}
use Rattle.cls_engine.specs.declared.options.Options.{Options}
use Rattle.cls_engine.specs.declared.fault.EngineFault.{EngineFault}
use Rattle.cls_engine.specs.declared.fault.EngineFault.TheVariants.{Wide}
use Rattle.cls_engine.specs.Batches.{AreVerdicts, IsInhabited, batch_faults}
use Rattle.cls_engine.specs.Goals.{Goal, IsFirstWide}
use Rattle.cls_engine.proofs.Goals.{closed_unique}
use Rattle.cls_replies.specs.Texts.{batch_text}
use Rattle.cls_laws.specs.Possible.{IsPossible}
use Rattle.cls_laws.proofs.Classical.{after, either_way, partners}

some_is : {A : Type 0} (o : Option A) (a b : A) → o ≡ Some a → o ≡ Some b → a ≡ b
some_is o a b e f = cc

module _ (lib : Library) where
  -- THE FAULT
  pub wide_one : (t : ClosedType) → IsDetermined (λ f. (g : Goal) × IsFirstWide lib t g × (f ≡ Wide g))
  wide_one t f f' p q =
      let rows : p.1.0 ≡ q.1.0 = closed_unique lib t p.1.0 q.1.0 p.1.1 q.1.1 in
      let goal : p.0 ≡ q.0 = some_is (first_wide q.1.0) p.0 q.0 (subst (λ (rs : List (Row Goal)). first_wide rs ≡ Some p.0) rows p.1.2) q.1.2 in
      p.2 ∙ (ap (λ (g : Goal). Wide g) goal ∙ sym q.2)

  abbrev WideOf : List ClosedType → ClosedType → Cause EngineFault
  WideOf before t f = (g : Goal) × IsFirstWide lib t g × (f ≡ Wide g)

  -- along a list one thing is said if one is said of each element
  wide_along : (before ts : List ClosedType) → IsDetermined (FirstAfter WideOf before ts)
  wide_along before [] f g h k = absurd h
  wide_along before (t ∷ ts) f g (inl h) (inl k) = wide_one t f g h k
  wide_along before (t ∷ ts) f g (inl h) (inr k) = absurd (k.0 f h)
  wide_along before (t ∷ ts) f g (inr h) (inl k) = absurd (h.0 g k)
  wide_along before (t ∷ ts) f g (inr h) (inr k) = wide_along (before ++ t ∷ []) ts f g h.1 k.1

  pub batch_one : (o : Options) (ts : List ClosedType) → IsDetermined (First (batch_faults lib o ts))
  batch_one o ts = first-determined (batch_faults lib o ts) ((λ f g p q. p.1 ∙ sym q.1), ((λ f g p q. p.1 ∙ sym q.1), (wide_along [] ts, tt)))

  -- THE REPLY
  abbrev IsVerdict : ClosedType → Bool → Type 0
  IsVerdict t b = IsTrue b ↔ IsInhabited lib t

  verdict_by : (t : ClosedType) → IsInhabited lib t ⊎ (IsInhabited lib t → ⊥) → (b : Bool) × IsVerdict t b
  verdict_by t (inl h) = (true, ((λ e. h), (λ k. refl)))
  verdict_by t (inr n) = (false, ((λ e. absurd (let f : false ≡ true = e in cc)), (λ h. absurd (n h))))

  pub verdicts_exist_in_turn : (ts : List ClosedType) → IsPossible ((says : List Bool) × AreVerdicts lib ts says)
  verdicts_exist_in_turn ts = partners IsVerdict ts (λ t m. after (either_way (IsInhabited lib t)) (verdict_by t))

  verdict_one : (t : ClosedType) (a b : Bool) → IsVerdict t a → IsVerdict t b → a ≡ b
  verdict_one t true true h k = refl
  verdict_one t true false h k = sym (k.1 (h.0 refl))
  verdict_one t false true h k = h.1 (k.0 refl)
  verdict_one t false false h k = refl

  verdicts_one : (ts : List ClosedType) (us vs : List Bool) → AreVerdicts lib ts us → AreVerdicts lib ts vs → us ≡ vs
  verdicts_one [] [] [] h k = refl
  verdicts_one [] [] (v ∷ vs) h k = absurd k
  verdicts_one [] (u ∷ us) vs h k = absurd h
  verdicts_one (t ∷ ts) [] vs h k = absurd h
  verdicts_one (t ∷ ts) (u ∷ us) [] h k = absurd k
  verdicts_one (t ∷ ts) (u ∷ us) (v ∷ vs) h k =
      let first = verdict_one t u v h.0 k.0 in
      let rest = verdicts_one ts us vs h.1 k.1 in
      λ i. first i ∷ rest i

  pub batch_reply_one : (ts : List ClosedType) → IsDetermined (λ (text : List ℕ). (says : List Bool) × AreVerdicts lib ts says × (text ≡ batch_text says))
  batch_reply_one ts t u p q = p.2 ∙ (ap batch_text (verdicts_one ts p.0 q.0 p.1 q.1) ∙ sym q.2)
