-- What is known of a closure exists, and so do its certificate, its sizes, its pages and a history of it, if no fault of
-- closing applies.
use Rattle.std.proofs.Common.{ℕ, ◌≡◌, ◌≤◌, ◌<◌, ◌⊎◌, inl, inr, refl, sym, subst, arith, List, [], ◌∷◌, ◌++◌, Option, None, Some, Bool, length}
use Rattle.cls_base.specs.Firsts.{Cause}
use Rattle.cls_base.specs.Pages.{Request, IsPage}
use Rattle.cls_base.specs.Terms.{Applicative}
use Rattle.cls_base.specs.Types.{ClosedType}
use Rattle.cls_path.specs.NormalForms.{IsNormalForm}
use Rattle.cls_path.specs.Paths.{Paths, listed, type_of_paths}
use Rattle.cls_norm.specs.Fit.{IsFit}
use Rattle.cls_core.specs.declared.entry.Entry.{Entry}
use Rattle.cls_core.specs.declared.entry.Entry.TheVariants.{Claim, File}
use Rattle.cls_core.specs.Canonical.{IsCanonical}
use Rattle.cls_core.specs.Rows.{Row}
use Rattle.cls_base.specs.Limits.{max_finite_size}
use Rattle.cls_table.specs.Lawful.{NamesUpTo}
use Rattle.cls_cert.specs.Conditions.{IsGrammarOf}
use Rattle.cls_enum.proofs.Existence.{each_page-exists}
use Rattle.cls_expand.specs.Answers.{IsAnswer}
use Rattle.cls_expand.specs.Listing.{unlisted}
use Rattle.cls_finite.specs.declared.answer.FiniteAnswer.{FiniteAnswer}
use Rattle.cls_finite.specs.declared.answer.FiniteAnswer.TheVariants.{Finite, Over, Infinite}
use Rattle.cls_grammar.specs.Grammars.{book_of, first_wide}
use Rattle.cls_library.specs.Libraries.{Library, IsLibrary, below_in, variances_in}
use Rattle.cls_library.specs.Typing.{HasTypeIn}
use Rattle.cls_engine.specs.declared.options.Options.{Options}
use Rattle.cls_engine.specs.declared.fault.EngineFault.{EngineFault}
use Rattle.cls_engine.specs.declared.fault.EngineFault.TheVariants.{Size, TooLarge, Wide}
use Rattle.cls_engine.specs.Closing.{IsKnownOf}
use Rattle.cls_engine.specs.Faults.{closure_faults, AreSilent}
use Rattle.cls_engine.specs.Goals.{Goal, same, IsGoalOf, IsSpread, IsUnfit, HasLargeClosure, IsFirstWide, IsClosed}
use Rattle.cls_engine.specs.Histories.{IsHistoryOf}
use Rattle.cls_engine.proofs.Faulting.{closed-of}
use Rattle.cls_engine.proofs.Finiteness.{type-greatest, type-unbounded, type-walk}
use Rattle.cls_engine.proofs.Pages.{list-page}
use Rattle.cls_engine.proofs.RuleBooks.{rule_book}
use Rattle.cls_replies.specs.Replies.{TellsSizes}
use Rattle.cls_laws.specs.Histories.{AreBy}
use Rattle.cls_laws.specs.Existence.{TypesHaveClosures, CertificatesExist, SizesExist, PagesExist, AuditsExist}
use Rattle.cls_laws.specs.Possible.{IsPossible}
use Rattle.cls_laws.proofs.Answers.{listed_back}
use Rattle.cls_laws.proofs.BookSizes.{flags_exist, SizesAreFound, sizes_found}
use Rattle.cls_laws.proofs.Classical.{then, after}
use Rattle.cls_laws.proofs.Closures.{closures_exist, histories_exist}
use Rattle.cls_laws.proofs.Making.{certificate_exists}
use Rattle.cls_laws.proofs.Verdicts.{form_exists}

up_to_or_over : (n m : ℕ) → (n ≤ m) ⊎ (m < n)
up_to_or_over n m = grind arith

-- no front of causes applies if none of all of them does
pub front_silent : (xs ys : List (Cause EngineFault)) → AreSilent (xs ++ ys) → AreSilent xs
front_silent [] ys h f k = k
front_silent (x ∷ xs) ys h f (inl k) = h f (inl k)
front_silent (x ∷ xs) ys h f (inr (none, k)) = front_silent xs ys (λ g m. h g (inr (none, m))) f k

module _ (lib : Library) (law : IsLibrary lib) (o : Options) (t : ClosedType) (silent : AreSilent (closure_faults lib o t)) where
  goal_of : (g : Goal) × IsGoalOf lib t g
  goal_of =
      let n = form_exists lib t in
      (unlisted n.0, subst (λ (m : Paths). IsNormalForm (below_in lib.taxonomy) (variances_in lib.taxonomy) t m) (sym (listed_back n.0)) n.1)

  size_silent : (f : EngineFault) → (IsSpread t ⊎ IsUnfit lib t) × (f ≡ Size) → ⊥
  size_silent f h = silent f (inl h)

  large_silent : (f : EngineFault) → HasLargeClosure lib o.goals o.rules t × (f ≡ TooLarge) → ⊥
  large_silent f h = silent f (inr (size_silent, inl h))

  wide_silent : (f : EngineFault) → ((g : Goal) × IsFirstWide lib t g × (f ≡ Wide g)) → ⊥
  wide_silent f h = silent f (inr (size_silent, inr (large_silent, inl h)))

  none_wide : (w : Option Goal) (rows : List (Row Goal)) → IsClosed lib t rows → first_wide rows ≡ w → first_wide rows ≡ None
  none_wide None rows k e = e
  none_wide (Some g) rows k e = absurd (wide_silent (Wide g) (g, (rows, k, e), refl))

  known_with : (g : Goal) (is : IsGoalOf lib t g) → IsFit (type_of_paths (listed g)) → (rows : List (Row Goal)) → IsCanonical same (IsAnswer lib) g rows → IsKnownOf lib o t rows
  known_with g is fit rows c = record {
    goal = g;
    is_goal = is;
    narrow = λ s. size_silent Size (inl s, refl);
    known = record {
      ready = record { library = law; normal = is.normal; fit = fit };
      canonical = c;
      none_wide = none_wide (first_wide rows) rows (record { goal = g; is_goal = is; fit = fit; canonical = c }) refl;
      not_large = λ h. large_silent TooLarge ((g, is, h), refl);
    };
  }

  pub known_exists : IsPossible ((rows : List (Row Goal)) × IsKnownOf lib o t rows)
  known_exists =
      let g = goal_of in
      then (λ (unfit : IsFit (type_of_paths (listed g.0)) → ⊥). size_silent Size (inr (g.0, g.1, unfit), refl)) (λ fit.
      after (closures_exist lib law g.0 o.goals (λ m. large_silent TooLarge ((g.0, g.1, inl m), refl)))
      (λ r. (r.0, known_with g.0 g.1 fit r.0 r.1)))

  names_up_to : (most : ℕ) (es : List Entry) → AreBy 0 es → NamesUpTo most es
  names_up_to most [] h = tt
  names_up_to most (Claim w row ∷ es) h = ((let e : w ≡ 0 = h.0 in omega arith), names_up_to most es h.1)
  names_up_to most (File w row ∷ es) h = ((let e : w ≡ 0 = h.0 in omega arith), names_up_to most es h.1)

  audit_exists : IsPossible ((events : List Entry) × IsHistoryOf lib o.workers t events)
  audit_exists =
      let g = goal_of in
      after (histories_exist lib law g.0 o.goals 0 (λ m. large_silent TooLarge ((g.0, g.1, inl m), refl)))
      (λ h. (h.0, (g.0, g.1, record { machine = h.1; legal = h.2.0; complete = h.2.1; named = names_up_to o.workers h.0 h.3 })))

  -- WHAT FOLLOWS OF THE ROWS
  module _ (rows : List (Row Goal)) (k : IsKnownOf lib o t rows) where
    grammar_of : IsGrammarOf lib rows
    grammar_of = record { start = k.goal; ready = k.known.ready; canonical = k.known.canonical; narrow = k.known.none_wide }

    some_node : 0 < length (book_of rows)
    some_node = let s = (rule_book lib o t rows k).some in omega arith

    module _ (cost : ℕ → ℕ) where
      sizes_told : SizesAreFound cost (book_of rows) → (sizes : FiniteAnswer) × TellsSizes lib cost t sizes
      sizes_told (inl (n, g)) = elim (up_to_or_over n max_finite_size) [
        | inl few ↦ (Finite n, (type-greatest lib o cost t rows k (Finite n) g, few))
        | inr many ↦ (Over, (n, type-greatest lib o cost t rows k (Finite n) g, many))
      ]
      sizes_told (inr (walk, u, d)) = (Infinite walk, ((type-unbounded lib o cost t rows k).0 u, type-walk lib o cost t rows k (Infinite walk) d))

      sizes_known : ((x : ℕ) → 0 < cost x) → IsPossible ((sizes : FiniteAnswer) × TellsSizes lib cost t sizes)
      sizes_known costly =
          then (flags_exist (book_of rows)) (λ flags.
          after (sizes_found cost (book_of rows) flags.0 flags.1 (λ i x ns r. let h = costly x in omega arith) (λ i l. (rule_book lib o t rows k).within i) (let s = some_node in omega arith)) sizes_told)

    abbrev HasPage : Request → Type 0
    HasPage q = (terms : List Applicative) × (more : Bool) × IsPage (λ e. HasTypeIn lib e t) q terms more

    page_known : (q : Request) → ((x : ℕ) → 0 < q.cost x) → 0 < q.take → HasPage q
    page_known q costly some =
        let p = each_page-exists (book_of rows) q some_node (λ x. let h = costly x in omega arith) some in
        (p.0, p.1.0, list-page lib o t rows k q p.0 p.1.0 p.1.1)

pub types_have_closures : TypesHaveClosures
types_have_closures lib law o t silent = after (known_exists lib law o t silent) (λ k. (k.0, closed-of lib o t k.0 k.1))

pub audits_exist : AuditsExist
audits_exist lib law o t silent = audit_exists lib law o t silent

pub certificates_exist : CertificatesExist
certificates_exist lib law o t silent =
    then (known_exists lib law o t silent) (λ k.
    after (certificate_exists lib k.0 (grammar_of lib law o t silent k.0 k.1)) (λ c. (c.0, (k.0, closed-of lib o t k.0 k.1, c.1))))

pub sizes_exist : SizesExist
sizes_exist lib law o t silent cost costly = then (known_exists lib law o t silent) (λ k. sizes_known lib law o t silent k.0 k.1 cost costly)

pub pages_exist : PagesExist
pages_exist lib law o t silent q costly some = after (known_exists lib law o t silent) (λ k. page_known lib law o t silent k.0 k.1 q costly some)
