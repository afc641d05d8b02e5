-- From goals that are decided together to their types.
use Rattle.std.proofs.Common.{◌≡◌, ℕ, zero, suc, ◌<◌, ◌≤◌, ◌+◌, ◌⊎◌, inl, inr, Bool, List, [], ◌∷◌, ◌++◌, Option, None, Some, length, map, take, get_or, slice_get, refl, sym, ap, subst, ◌∙◌, arith}
use Rattle.std.specs.Prelude.{Contains}
use Rattle.std.specs.List.{AllZip, AllByRecursion}
use Rattle.std.proofs.lemmas.List.{map_more}
use Rattle.std.proofs.lemmas.List.Elements.{All-from_recursion}
use Rattle.std.proofs.lemmas.Slice.Zip.{all_zipped_more, AllZip-long}
use Rattle.cls_base.specs.Firsts.{Cause, FirstAfter, IsSilent}
use Rattle.cls_base.specs.Ty.{type_of}
use Rattle.cls_base.specs.Types.{ClosedType}
use Rattle.cls_base.specs.declared.ty.Ty.{Ty}
use Rattle.cls_base.proofs.Lists.{Contains-nil, Contains-here, Contains-later, Contains-cases, Contains-map}
use Rattle.cls_callers.specs.declared.goal.AskGoal.TheVariants.{Root}
use Rattle.cls_callers.specs.declared.tag.AskTag.{AskTag}
use Rattle.cls_callers.specs.Asking.{AreAsked, IsAskAnswer, max_asked}
use Rattle.cls_callers.specs.Unions.{HasLargeUnion}
use Rattle.cls_callers.proofs.Unions.{root-adds}
use Rattle.cls_core.specs.Canonical.{IsCanonical}
use Rattle.cls_core.specs.Closure.{IsTooLarge}
use Rattle.cls_core.specs.Rows.{Row}
use Rattle.cls_core.proofs.Columns.{some-inside}
use Rattle.cls_expand.specs.Answers.{IsAnswer, IsReady}
use Rattle.cls_grammar.specs.Grammars.{first_wide}
use Rattle.cls_library.specs.Libraries.{Library}
use Rattle.cls_table.specs.declared.fault.ExpandFault.{ExpandFault}
use Rattle.cls_table.specs.declared.fault.ExpandFault.TheVariants as expand
use Rattle.cls_engine.specs.declared.options.Options.{Options}
use Rattle.cls_engine.specs.declared.fault.EngineFault.{EngineFault}
use Rattle.cls_engine.specs.declared.fault.EngineFault.TheVariants.{Size, TooLarge, Wide, FilterTooLarge, TooManyTerms, OutOfMemory}
use Rattle.cls_engine.specs.Batches.{asked_of, AreVerdicts, AreGoalsOf, HasLargeTogether, IsSomeOversized, IsSomeOversizedOr, batch_faults}
use Rattle.cls_engine.specs.Batching.{AreDecided, HasNoWide, IsDecidingFault, IsFirstWideOf, IsFitGoalOf, IsLargeTogether, SaysInhabited}
use Rattle.cls_engine.specs.Conversions.{of_expand}
use Rattle.cls_engine.specs.Faults.{AreSilent, IsFaultOf, IsOversizedOr}
use Rattle.cls_engine.specs.Goals.{Goal, same, IsClosed, IsFirstWide, IsSpread, IsUnfit}
use Rattle.cls_engine.proofs.AskedRows.{wide-reached}
use Rattle.cls_engine.proofs.Goals.{goal_unique, not_unfit}
use Rattle.cls_engine.proofs.Languages.{same_terms}

-- the root's closure passes the limits with the root added if and only if the union passes the limits
module _ (t : AskTag Library Goal) (o : Options) (count : ℕ) (is : count ≡ length t.goals) where
  pub union-root : HasLargeUnion IsAnswer t o.goals o.rules → IsTooLarge (IsAskAnswer IsAnswer t) Root (o.goals + 1) (o.rules + count)
  union-root u =
      subst (λ (n : ℕ). IsTooLarge (IsAskAnswer IsAnswer t) Root (o.goals + 1) (o.rules + n)) (sym is) ((root-adds IsAnswer t o.goals o.rules).1 u)

  pub root-union : IsTooLarge (IsAskAnswer IsAnswer t) Root (o.goals + 1) (o.rules + count) → HasLargeUnion IsAnswer t o.goals o.rules
  root-union h =
      (root-adds IsAnswer t o.goals o.rules).0 (subst (λ (n : ℕ). IsTooLarge (IsAskAnswer IsAnswer t) Root (o.goals + 1) (o.rules + n)) is h)

-- what is found under asked goals of a library
module _ (t : AskTag Library Goal) (lib : Library) (o : Options) (gs : List Goal) (is : t ≡ asked_of lib gs) where
  pub decided-of : (says : List Bool) → AllZip (SaysInhabited t.by) t.goals says → (HasLargeUnion IsAnswer t o.goals o.rules → ⊥)
      → ((g : Goal) → Contains t.goals g → HasNoWide t.by g) → AreDecided lib o gs says
  decided-of says each large none = record {
    says_each = subst (λ (u : AskTag Library Goal). AllZip (SaysInhabited u.by) u.goals says) is each;
    not_large = subst (λ (u : AskTag Library Goal). HasLargeUnion IsAnswer u o.goals o.rules → ⊥) is large;
    none_wide = subst (λ (u : AskTag Library Goal). (g : Goal) → Contains u.goals g → HasNoWide u.by g) is none;
  }

  pub wide-of : (w : Goal) → (HasLargeUnion IsAnswer t o.goals o.rules → ⊥) → IsFirstWideOf t w → IsDecidingFault lib o gs (Wide w)
  wide-of w large first = (
    subst (λ (u : AskTag Library Goal). HasLargeUnion IsAnswer u o.goals o.rules → ⊥) is large,
    subst (λ (u : AskTag Library Goal). IsFirstWideOf u w) is first,
  )

  pub large-of : (e : ExpandFault) → (e ≡ expand.TooLarge → HasLargeUnion IsAnswer t o.goals o.rules) → IsDecidingFault lib o gs (of_expand e)
  large-of expand.TooLarge h = subst (λ (u : AskTag Library Goal). HasLargeUnion IsAnswer u o.goals o.rules) is (h refl)
  large-of expand.OutOfMemory h = tt

module _ (lib : Library) where
  abbrev AreFit : List ClosedType → List Goal → Type 0
  AreFit ts gs = AllZip (IsFitGoalOf lib) ts gs

  -- the goals of the first types, and of one more
  pub goals-more : (types : List Ty) (i : ℕ) (x : Ty) (gs more : List Goal) (g : Goal) → i < length types → x ≡ get_or types i x
      → AreFit (map type_of (take i types)) gs → IsFitGoalOf lib (type_of x) g → more ≡ gs ++ g ∷ [] → AreFit (map type_of (take (i + 1) types)) more
  goals-more types i x gs more g within is front one same =
      let cut : map type_of (take (i + 1) types) ≡ map type_of (take i types) ++ type_of x ∷ [] =
      map_more type_of types i x within ∙ ap (λ (y : Ty). map type_of (take i types) ++ type_of y ∷ []) (sym is) in
      subst (λ (ts : List ClosedType). AreFit ts more) (sym cut)
      (subst (AreFit (map type_of (take i types) ++ type_of x ∷ [])) (sym same) (all_zipped_more (IsFitGoalOf lib) (map type_of (take i types)) gs (type_of x) g front one))

  pub oversized-among : (types : List Ty) (i : ℕ) (x : Ty) → i < length types → x ≡ get_or types i x
      → (f : EngineFault) → IsOversizedOr lib (type_of x) f → IsSomeOversizedOr lib (map type_of types) f
  oversized-among types i x within is OutOfMemory h = tt
  oversized-among types i x within is Size h = ((type_of x, Contains-map type_of types x (i, within, sym is), h.0), h.1)
  oversized-among types i x within is TooLarge h = ((type_of x, Contains-map type_of types x (i, within, sym is), h.0), h.1)
  oversized-among types i x within is (Wide g) h = ((type_of x, Contains-map type_of types x (i, within, sym is), h.0), h.1)
  oversized-among types i x within is FilterTooLarge h = ((type_of x, Contains-map type_of types x (i, within, sym is), h.0), h.1)
  oversized-among types i x within is TooManyTerms h = ((type_of x, Contains-map type_of types x (i, within, sym is), h.0), h.1)

  ready-each : (ts : List ClosedType) (gs : List Goal) → AreFit ts gs → AllByRecursion (IsReady lib) gs
  ready-each [] [] z = tt
  ready-each [] (g ∷ gs) z = absurd z
  ready-each (t ∷ ts) [] z = absurd z
  ready-each (t ∷ ts) (g ∷ gs) z = (z.0.ready, ready-each ts gs z.1)

  pub are-asked : (ts : List ClosedType) (gs : List Goal) → AreFit ts gs → 0 < length ts → length ts ≤ max_asked → AreAsked IsReady (asked_of lib gs)
  are-asked ts gs z some few =
      let long = AllZip-long (IsFitGoalOf lib) ts gs z in
      record { some = omega arith; few = omega arith; all_ready = All-from_recursion (IsReady lib) gs (ready-each ts gs z) }

  goals-are : (ts : List ClosedType) (gs : List Goal) → AreFit ts gs → AreGoalsOf lib ts gs
  goals-are [] [] z = tt
  goals-are [] (g ∷ gs) z = absurd z
  goals-are (t ∷ ts) [] z = absurd z
  goals-are (t ∷ ts) (g ∷ gs) z = (z.0.goal, goals-are ts gs z.1)

  goals-unique : (ts : List ClosedType) (gs hs : List Goal) → AreGoalsOf lib ts gs → AreGoalsOf lib ts hs → gs ≡ hs
  goals-unique [] [] [] z y = refl
  goals-unique [] [] (h ∷ hs) z y = absurd y
  goals-unique [] (g ∷ gs) hs z y = absurd z
  goals-unique (t ∷ ts) [] hs z y = absurd z
  goals-unique (t ∷ ts) (g ∷ gs) [] z y = absurd y
  goals-unique (t ∷ ts) (g ∷ gs) (h ∷ hs) z y =
      let first = goal_unique lib t g h z.0 y.0 in
      let rest = goals-unique ts gs hs z.1 y.1 in
      λ i. first i ∷ rest i

  none-oversized : (ts : List ClosedType) (gs : List Goal) → AreFit ts gs → IsSomeOversized lib ts → ⊥
  none-oversized [] gs z h = Contains-nil h.0 h.1
  none-oversized (t ∷ ts) [] z h = absurd z
  none-oversized (t ∷ ts) (g ∷ gs) z h = elim (Contains-cases t ts h.0 h.1) [
    | inl e ↦ here (subst (λ (x : ClosedType). IsSpread x ⊎ IsUnfit lib x) e h.2)
    | inr m ↦ none-oversized ts gs z.1 (h.0, m, h.2)
  ]
    where
      here : IsSpread t ⊎ IsUnfit lib t → ⊥
      here (inl s) = z.0.narrow s
      here (inr u) = not_unfit lib t g z.0.goal z.0.ready.fit u

  pub verdicts : (ts : List ClosedType) (gs : List Goal) (says : List Bool) → AreFit ts gs → AllZip (SaysInhabited lib) gs says → AreVerdicts lib ts says
  verdicts [] [] [] z s = tt
  verdicts [] [] (b ∷ says) z s = absurd s
  verdicts [] (g ∷ gs) says z s = absurd z
  verdicts (t ∷ ts) [] says z s = absurd z
  verdicts (t ∷ ts) (g ∷ gs) [] z s = absurd s
  verdicts (t ∷ ts) (g ∷ gs) (b ∷ says) z s =
      let terms = same_terms lib t g z.0.goal in
      (((λ yes. let e = s.0.0 yes in (e.0, (terms e.0).0 e.1)), (λ e. s.0.1 (e.0, (terms e.0).1 e.1))), verdicts ts gs says z.1 s.1)

  -- no goal of the type's closure is wide
  one-silent : (t : ClosedType) (g : Goal) → IsFitGoalOf lib t g → HasNoWide lib g → (w : Goal) → IsFirstWide lib t w → ⊥
  one-silent t g fit none w h =
      let start = h.1.goal in
      let wide = wide-reached lib start h.0 h.1.canonical w h.2 in
      subst (HasNoWide lib) (goal_unique lib t g start fit.goal h.1.is_goal) none w wide.0 wide.1

  abbrev WideOf : List ClosedType → ClosedType → Cause EngineFault
  WideOf before t f = (g : Goal) × IsFirstWide lib t g × (f ≡ Wide g)

  silent-after : (before ts : List ClosedType) (gs : List Goal) → AreFit ts gs → ((g : Goal) → Contains gs g → HasNoWide lib g) → IsSilent (FirstAfter WideOf before ts)
  silent-after before [] gs z none f h = absurd h
  silent-after before (t ∷ ts) [] z none f h = absurd z
  silent-after before (t ∷ ts) (g ∷ gs) z none f (inl h) = one-silent t g z.0 (none g (Contains-here g gs)) h.0 h.1
  silent-after before (t ∷ ts) (g ∷ gs) z none f (inr h) = silent-after (before ++ t ∷ []) ts gs z.1 (λ k m. none k (Contains-later k g gs m)) f h.1

  first-after : (before ts : List ClosedType) (gs : List Goal) → AreFit ts gs → (place : ℕ) (start : Goal) → slice_get gs place ≡ Some start
      → (rows : List (Row Goal)) → IsCanonical same (IsAnswer lib) start rows → (w : Goal) → first_wide rows ≡ Some w
      → ((k : ℕ) (g : Goal) → k < place → slice_get gs k ≡ Some g → HasNoWide lib g) → FirstAfter WideOf before ts (Wide w)
  first-after before [] [] z place start at rows k w e none = absurd (let f : ◌≡◌ {A = Option Goal} None (Some start) = at in cc)
  first-after before [] (g ∷ gs) z place start at rows k w e none = absurd z
  first-after before (t ∷ ts) [] z place start at rows k w e none = absurd z
  first-after before (t ∷ ts) (g ∷ gs) z zero start at rows k w e none =
      let own : IsCanonical same (IsAnswer lib) g rows = subst (λ (x : Goal). IsCanonical same (IsAnswer lib) x rows) (sym (some-inside g start at)) k in
      let closed : IsClosed lib t rows = record { goal = g; is_goal = z.0.goal; fit = z.0.ready.fit; canonical = own } in
      inl (w, (rows, closed, e), refl)
  first-after before (t ∷ ts) (g ∷ gs) z (suc place) start at rows k w e none = inr (
    (λ f h. one-silent t g z.0 (none 0 g (omega arith) refl) h.0 h.1),
    first-after (before ++ t ∷ []) ts gs z.1 place start at rows k w e (λ j h l i. none (suc j) h (omega arith) i),
  )

  module _ (o : Options) (ts : List ClosedType) where
    pub by-oversized : (f : EngineFault) → IsSomeOversizedOr lib ts f → IsFaultOf (batch_faults lib o ts) f
    by-oversized OutOfMemory h = tt
    by-oversized Size h = inl h
    by-oversized TooLarge h = inl h
    by-oversized (Wide g) h = inl h
    by-oversized FilterTooLarge h = inl h
    by-oversized TooManyTerms h = inl h

    module _ (gs : List Goal) (z : AreFit ts gs) where
      not-large-together : (IsLargeTogether lib o gs → ⊥) → HasLargeTogether lib o.goals o.rules ts → ⊥
      not-large-together n h =
          n (subst (λ (hs : List Goal). IsLargeTogether lib o hs) (goals-unique ts h.0 gs h.1 (goals-are ts gs z)) h.2)

      pub batch-silent : (says : List Bool) → AreDecided lib o gs says → AreSilent (batch_faults lib o ts)
      batch-silent says d = λ f h. elim h [
        | inl p ↦ none-oversized ts gs z p.0
        | inr q ↦ elim q.1 [
          | inl p ↦ not-large-together d.not_large p.0
          | inr r ↦ elim r.1 [ inl s ↦ silent-after [] ts gs z d.none_wide f s | inr n ↦ absurd n.1 ]
        ]
      ]

      pub by-deciding : (f : EngineFault) → IsDecidingFault lib o gs f → IsFaultOf (batch_faults lib o ts) f
      by-deciding Size h = absurd h
      by-deciding FilterTooLarge h = absurd h
      by-deciding TooManyTerms h = absurd h
      by-deciding OutOfMemory h = tt
      by-deciding TooLarge h = inr ((λ f p. none-oversized ts gs z p.0), inl ((gs, goals-are ts gs z, h), refl))
      by-deciding (Wide w) h =
          let u = h.1 in
          inr ((λ f p. none-oversized ts gs z p.0), inr ((λ f p. not-large-together h.0 p.0), inl (first-after [] ts gs z u.place u.start u.asked u.rows u.canonical w u.is_first u.none_before)))
