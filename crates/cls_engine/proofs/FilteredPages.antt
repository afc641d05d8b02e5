-- Pages of a filtered grammar are pages of the terms of its type that the automaton accepts.
use Rattle.std.proofs.Common.{ℕ, ◌≡◌, ◌<◌, ◌≤◌, ◌↔◌, refl, sym, inl, inr, List, [], ◌∷◌, length, Bool, subst, arith}
use Rattle.cls_base.specs.Firsts.{Cause}
use Rattle.cls_base.specs.Languages.{IsGenerated}
use Rattle.cls_base.specs.Pages.{Request, IsDue, IsPage}
use Rattle.cls_base.specs.Pools.{PoolIs, IsDecidingSize}
use Rattle.cls_base.specs.Terms.{Applicative}
use Rattle.cls_base.specs.Types.{ClosedType}
use Rattle.cls_base.specs.declared.rule.Rule.{Rule}
use Rattle.cls_core.specs.Rows.{Row}
use Rattle.cls_enum.specs.Faults.{IfTooMany}
use Rattle.cls_enum.specs.States.{ExceedsPool, FitsPool}
use Rattle.cls_enum.specs.declared.fault.PageFault.{PageFault}
use Rattle.cls_enum.specs.declared.fault.PageFault.TheVariants as faults
use Rattle.cls_enum.proofs.Existence.{each_page-decided}
use Rattle.cls_filter.specs.Automata.{Automaton, Accepts}
use Rattle.cls_filter.specs.States.{IsAutomaton}
use Rattle.cls_filtered.specs.Faults.{IfTooManyRules}
use Rattle.cls_filtered.specs.Filtered.{IsFiltered, HasLargeFilter, rule_total}
use Rattle.cls_filtered.specs.declared.fault.FilterFault.{FilterFault}
use Rattle.cls_filtered.specs.declared.fault.FilterFault.TheVariants as filters
use Rattle.cls_filtered.proofs.FilteredLaws.{filtered_books_generate, filtered_books_are_one}
use Rattle.cls_grammar.specs.Grammars.{book_of}
use Rattle.cls_library.specs.Libraries.{Library}
use Rattle.cls_library.specs.Typing.{HasTypeIn}
use Rattle.cls_engine.specs.declared.fault.EngineFault.{EngineFault}
use Rattle.cls_engine.specs.declared.fault.EngineFault.TheVariants.{FilterTooLarge, TooManyTerms}
use Rattle.cls_engine.specs.declared.options.Options.{Options}
use Rattle.cls_engine.specs.Closing.{IsKnownOf}
use Rattle.cls_engine.specs.Conversions.{of_filter, of_page}
use Rattle.cls_engine.specs.Faults.{closure_faults, filter_faults, IsFaultOf, AreSilent}
use Rattle.cls_engine.specs.Goals.{Goal, IsClosed, HasLargeFilterOf, HasLargeFilteredPool}
use Rattle.cls_engine.proofs.Causes.{first_later, both_silent}
use Rattle.cls_engine.proofs.Faulting.{closed-of, silent-of}
use Rattle.cls_engine.proofs.Goals.{closed_unique}
use Rattle.cls_engine.proofs.Languages.{language}
use Rattle.cls_engine.proofs.Pages.{page_to}
use Rattle.cls_engine.proofs.RuleBooks.{rule_book}

-- a filtered book has a start
pub some_start : (book : List (List (Rule ℕ))) (a : Automaton) (filtered : List (List (Rule ℕ))) → IsFiltered book a filtered → 0 < length filtered
some_start book a filtered is = subst (λ (b : List (List (Rule ℕ))). 0 < length b) (sym is.book_is) (omega arith)

-- the causes behind those of the closure
abbrev later_causes : Library → Options → ClosedType → Automaton → Request → List (Cause EngineFault)
later_causes lib o t a q =
    (λ f. HasLargeFilterOf lib o.rules t a × (f ≡ FilterTooLarge))
    ∷ (λ f. HasLargeFilteredPool lib o.pool t a q × (f ≡ TooManyTerms))
    ∷ []

module _ (lib : Library) (o : Options) (t : ClosedType) (rows : List (Row Goal)) (k : IsKnownOf lib o t rows) (a : Automaton) (small : IsAutomaton a) (q : Request) where
  closed : IsClosed lib t rows
  closed = closed-of lib o t rows k

  -- the book is too large
  pub filter-large : (e : FilterFault) → IfTooManyRules e (HasLargeFilter (book_of rows) a o.rules) → IsFaultOf (filter_faults lib o t a q) (of_filter e)
  filter-large filters.OutOfMemory h = tt
  filter-large filters.TooManyRules h =
      first_later (closure_faults lib o t) (later_causes lib o t a q) FilterTooLarge (silent-of lib o t rows k) (inl ((rows, closed, h), refl))

  module _ (book : List (List (Rule ℕ))) (is : IsFiltered (book_of rows) a book) (within : rule_total book ≤ o.rules) where
    -- what the start generates is what has the type and is accepted
    accepted : (e : Applicative) → IsGenerated book 0 e ↔ (HasTypeIn lib e t × Accepts a e)
    accepted e =
        let u = filtered_books_generate (book_of rows) a book (rule_book lib o t rows k) small is e in
        let v = language lib o t rows k e in
        ((λ h. let w = u.0 h in (v.0 w.0, w.1)), (λ h. u.1 (v.1 h.0, h.1)))

    -- another closure of the type, filtered, is the same book
    same_book : (others : List (Row Goal)) → IsClosed lib t others → (other : List (List (Rule ℕ))) → IsFiltered (book_of others) a other → other ≡ book
    same_book others c other f =
        let e : others ≡ rows = closed_unique lib t others rows c closed in
        filtered_books_are_one (book_of rows) a other book (subst (λ (rs : List (Row Goal)). IsFiltered (book_of rs) a other) e f) is

    not_large : HasLargeFilterOf lib o.rules t a → ⊥
    not_large h =
        let l = h.2 in
        let many : o.rules < rule_total book = subst (λ (b : List (List (Rule ℕ))). o.rules < rule_total b) (same_book h.0 h.1 l.0 l.1) l.2 in
        omega arith

    no_large_pool : FitsPool book q o.pool → HasLargeFilteredPool lib o.pool t a q → ⊥
    no_large_pool fits h =
        let e : h.book ≡ book = same_book h.rows h.closed h.book h.filtered in
        let decides = subst (λ (b : List (List (Rule ℕ))). IsDecidingSize (IsDue (IsGenerated b 0) q) q.cost q.take q.max h.size) e h.decides in
        let pool = subst (λ (b : List (List (Rule ℕ))). PoolIs b q.cost h.size h.count) e h.pool in
        let few = fits h.size h.count decides pool in
        let many = h.over in
        omega arith

    large_pool : ((x : ℕ) → 0 < q.cost x) → ExceedsPool book q o.pool → HasLargeFilteredPool lib o.pool t a q
    large_pool costly over =
        let d = each_page-decided book q (some_start (book_of rows) a book is) (λ x. let h = costly x in omega arith) in
        record { rows = rows; closed = closed; book = book; filtered = is; size = d.0; decides = d.1; count = d.2.0; pool = d.2.1; over = over d.0 d.2.0 d.1 d.2.1 }

    pub filter-page : (es : List Applicative) (more : Bool) → IsPage (IsGenerated book 0) q es more → IsPage (λ e. HasTypeIn lib e t × Accepts a e) q es more
    filter-page es more p = page_to (IsGenerated book 0) (λ e. HasTypeIn lib e t × Accepts a e) accepted q es more p

    pub filter-silent : FitsPool book q o.pool → AreSilent (filter_faults lib o t a q)
    filter-silent fits = both_silent (closure_faults lib o t) (later_causes lib o t a q) (silent-of lib o t rows k)
        (λ f h. elim h [
          | inl p ↦ not_large p.0
          | inr n ↦ elim n.1 [ inl p ↦ no_large_pool fits p.0 | inr m ↦ absurd m.1 ]
        ])

    pub filter-over : ((x : ℕ) → 0 < q.cost x) → (e : PageFault) → IfTooMany e (ExceedsPool book q o.pool) → IsFaultOf (filter_faults lib o t a q) (of_page e)
    filter-over costly faults.OutOfMemory h = tt
    filter-over costly faults.TooManyTerms h =
        first_later (closure_faults lib o t) (later_causes lib o t a q) TooManyTerms (silent-of lib o t rows k)
        (inr ((λ f p. not_large p.0), inl (large_pool costly h, refl)))
