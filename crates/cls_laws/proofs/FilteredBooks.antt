-- The terms of a rule book that an automaton accepts have a rule book, and a type that the engine can work on has the pages of its
-- terms that an automaton accepts.
use Rattle.std.proofs.Common.{ℕ, ◌≡◌, ◌+◌, ◌*◌, ◌/◌, ◌%◌, ◌<◌, ◌≤◌, ◌⊎◌, ◌↔◌, inl, inr, refl, subst, arith, Bool, true, false, IsTrue, List, [], ◌∷◌, Some, length, slice_get, slice_index_or}
use Rattle.std.proofs.lemmas.Option.{slice_get-get_or}
use Rattle.cls_base.specs.Firsts.{Cause}
use Rattle.cls_base.specs.Limits.{max_states}
use Rattle.cls_base.specs.Pages.{Request, IsPage}
use Rattle.cls_base.specs.Terms.{Applicative}
use Rattle.cls_base.specs.Types.{ClosedType}
use Rattle.cls_base.specs.declared.rule.Rule.{Rule}
use Rattle.cls_core.specs.Rows.{Row}
use Rattle.cls_enum.proofs.Existence.{each_page-exists}
use Rattle.cls_filter.specs.Automata.{Automaton, Accepts}
use Rattle.cls_filter.specs.States.{IsAutomaton}
use Rattle.cls_filtered.specs.Filtered.{pair_of, HasState, AreStatesOf, IsFiltered, filtered_book, rule_total}
use Rattle.cls_filtered.specs.Stepwise.{stepwise}
use Rattle.cls_grammar.specs.Grammars.{book_of}
use Rattle.cls_library.specs.Libraries.{Library}
use Rattle.cls_library.specs.Typing.{HasTypeIn}
use Rattle.cls_engine.specs.declared.options.Options.{Options}
use Rattle.cls_engine.specs.declared.fault.EngineFault.{EngineFault}
use Rattle.cls_engine.specs.declared.fault.EngineFault.TheVariants.{FilterTooLarge, TooManyTerms}
use Rattle.cls_engine.specs.Closing.{IsKnownOf}
use Rattle.cls_engine.specs.Faults.{closure_faults, filter_faults, AreSilent}
use Rattle.cls_engine.specs.Goals.{Goal, HasLargeFilterOf, HasLargeFilteredPool}
use Rattle.cls_engine.proofs.Causes.{first_later}
use Rattle.cls_engine.proofs.Faulting.{closed-of}
use Rattle.cls_engine.proofs.FilteredPages.{some_start, filter-page}
use Rattle.cls_laws.specs.Existence.{FilteredPagesExist}
use Rattle.cls_laws.specs.Possible.{IsPossible}
use Rattle.cls_laws.proofs.Classical.{then, after, either_way, by_index}
use Rattle.cls_laws.proofs.Known.{front_silent, known_exists}

-- WHICH PAIRS OF A NODE AND A STATE HAVE A TERM
module _ (book : List (List (Rule ℕ))) (a : Automaton) where
  abbrev HasPair : ℕ → Type 0
  HasPair n = HasState book a (n / max_states) (n % max_states)

  abbrev Flags : ℕ → Bool → Type 0
  Flags n flag = IsTrue flag ↔ HasPair n

  flag_by : (n : ℕ) → HasPair n ⊎ (HasPair n → ⊥) → (flag : Bool) × Flags n flag
  flag_by n (inl p) = (true, ((λ e. p), (λ q. refl)))
  flag_by n (inr f) = (false, ((λ e. absurd (let g : false ≡ true = e in cc)), (λ p. absurd (f p))))

  -- of a pair, by its number
  flag_at : (flags : List Bool) → length flags ≡ length book * max_states → ((n : ℕ) (flag : Bool) → slice_get flags n ≡ Some flag → Flags n flag)
      → (i q : ℕ) → i < length book → q < max_states → IsTrue (slice_index_or flags (pair_of i q) false) ↔ HasState book a i q
  flag_at flags count each i q l m =
      let high : (i * 16 + q) / 16 ≡ i = omega (arith, m) in
      let low : (i * 16 + q) % 16 ≡ q = omega (arith, m) in
      let within : pair_of i q < length flags = omega (arith, count, l, m) in
      let flag = slice_index_or flags (pair_of i q) false in
      let is = each (pair_of i q) flag (slice_get-get_or flags (pair_of i q) false within) in
      subst (λ (k : ℕ). IsTrue flag ↔ HasState book a k q) high
      (subst (λ (k : ℕ). IsTrue flag ↔ HasState book a ((i * 16 + q) / 16) k) low is)

  states_exist : IsPossible ((flags : List Bool) × AreStatesOf book a flags)
  states_exist =
      after (by_index Flags (length book * max_states) (λ n l. after (either_way (HasPair n)) (flag_by n)))
      (λ r. (r.0, record { count = r.1; each = flag_at r.0 r.1 r.2 }))

filtered_exists : (book : List (List (Rule ℕ))) (a : Automaton) → IsPossible ((filtered : List (List (Rule ℕ))) × IsFiltered book a filtered)
filtered_exists book a =
    after (states_exist (stepwise book) a) (λ s. (filtered_book a s.0 (stepwise book), record { flags = s.0; states = s.1; book_is = refl }))

-- A PAGE
at_most : (n m : ℕ) → (m < n → ⊥) → n ≤ m
at_most n m f = omega arith

module _ (lib : Library) (o : Options) (t : ClosedType) (a : Automaton) (q : Request) (silent : AreSilent (filter_faults lib o t a q)) where
  abbrev later : List (Cause EngineFault)
  later = (λ f. HasLargeFilterOf lib o.rules t a × (f ≡ FilterTooLarge)) ∷ (λ f. HasLargeFilteredPool lib o.pool t a q × (f ≡ TooManyTerms)) ∷ []

  closing : AreSilent (closure_faults lib o t)
  closing = front_silent (closure_faults lib o t) later silent

  not_large : HasLargeFilterOf lib o.rules t a → ⊥
  not_large h = silent FilterTooLarge (first_later (closure_faults lib o t) later FilterTooLarge closing (inl (h, refl)))

  abbrev HasPage : Type 0
  HasPage = (terms : List Applicative) × (more : Bool) × IsPage (λ e. HasTypeIn lib e t × Accepts a e) q terms more

  page_known : (rows : List (Row Goal)) → IsKnownOf lib o t rows → IsAutomaton a → ((x : ℕ) → 0 < q.cost x) → 0 < q.take
      → (filtered : List (List (Rule ℕ))) → IsFiltered (book_of rows) a filtered → HasPage
  page_known rows k small costly some filtered is =
      let within = at_most (rule_total filtered) o.rules (λ l. not_large (rows, closed-of lib o t rows k, (filtered, is, l))) in
      let p = each_page-exists filtered q (some_start (book_of rows) a filtered is) (λ x. let h = costly x in omega arith) some in
      (p.0, p.1.0, filter-page lib o t rows k a small q filtered is within p.0 p.1.0 p.1.1)

pub filtered_pages_exist : FilteredPagesExist
filtered_pages_exist lib law o t a small q silent costly some =
    then (known_exists lib law o t (closing lib o t a q silent)) (λ k.
    after (filtered_exists (book_of k.0) a) (λ f. page_known lib o t a q silent k.0 k.1 small costly some f.0 f.1))
