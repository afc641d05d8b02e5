-- Pages of the grammar of a type are pages of its terms.
use Rattle.std.proofs.Common.{ℕ, ◌≡◌, ◌<◌, ◌↔◌, refl, inl, inr, List, [], ◌∷◌, length, Bool, Option, None, Some, slice_get, subst, arith}
use Rattle.cls_base.specs.Languages.{IsGenerated}
use Rattle.cls_base.specs.Pages.{Request, IsDue, IsPage}
use Rattle.cls_base.specs.Pools.{PoolIs, IsDecidingSize}
use Rattle.cls_base.specs.Terms.{Applicative}
use Rattle.cls_base.specs.Types.{ClosedType}
use Rattle.cls_core.specs.Closure.{goals_of}
use Rattle.cls_core.specs.Rows.{Row}
use Rattle.cls_core.proofs.Grammar.{canonical-closure}
use Rattle.cls_enum.specs.Faults.{IfTooMany}
use Rattle.cls_enum.specs.States.{ExceedsPool, FitsPool}
use Rattle.cls_enum.specs.declared.fault.PageFault.{PageFault}
use Rattle.cls_enum.specs.declared.fault.PageFault.TheVariants as faults
use Rattle.cls_enum.proofs.Existence.{each_page-decided}
use Rattle.cls_expand.specs.Answers.{IsAnswer}
use Rattle.cls_expand.specs.Determined.{one_answer}
use Rattle.cls_grammar.specs.Grammars.{book_of}
use Rattle.cls_library.specs.Libraries.{Library}
use Rattle.cls_library.specs.Typing.{HasTypeIn}
use Rattle.cls_engine.specs.declared.options.Options.{Options}
use Rattle.cls_engine.specs.declared.fault.EngineFault.TheVariants.{TooManyTerms}
use Rattle.cls_engine.specs.Closing.{IsKnownOf}
use Rattle.cls_engine.specs.Conversions.{of_page}
use Rattle.cls_engine.specs.Faults.{closure_faults, list_faults, IsFaultOf, AreSilent}
use Rattle.cls_engine.specs.Goals.{Goal, same, IsClosed, HasLargePool}
use Rattle.cls_engine.proofs.Causes.{first_later, both_silent}
use Rattle.cls_engine.proofs.Faulting.{closed-of, silent-of}
use Rattle.cls_engine.proofs.Goals.{closed_unique}
use Rattle.cls_engine.proofs.Languages.{language}

-- terms have the one property if and only if they have the other
module _ (P Q : Applicative → Type 0) (same : (e : Applicative) → P e ↔ Q e) (q : Request) where
  due_to : (e : Applicative) → IsDue P q e → IsDue Q q e
  due_to e d = record { typed = (same e).0 d.typed; small = d.small; short = d.short; later = d.later }

  due_back : (e : Applicative) → IsDue Q q e → IsDue P q e
  due_back e d = record { typed = (same e).1 d.typed; small = d.small; short = d.short; later = d.later }

  pub page_to : (es : List Applicative) (more : Bool) → IsPage P q es more → IsPage Q q es more
  page_to es more p = record {
    rises = p.rises;
    due = λ e c. due_to e (p.due e c);
    complete = λ e d. elim (p.complete e (due_back e d)) [ inl c ↦ inl c | inr a ↦ inr a ];
    more_exactly = (λ m. (let w = p.more_exactly.0 m in (w.0, due_to w.0 w.1, w.2)), λ w. p.more_exactly.1 (w.0, due_back w.0 w.1, w.2));
    at_most = p.at_most;
    full = p.full;
  }

-- a closure has a goal
some_rows : (rows : List (Row Goal)) (g : Goal) → slice_get (goals_of rows) 0 ≡ Some g → 0 < length (book_of rows)
some_rows [] g e = absurd (let f : ◌≡◌ {A = Option Goal} None (Some g) = e in cc)
some_rows (r ∷ rows) g e = omega arith

module _ (lib : Library) (o : Options) (t : ClosedType) (rows : List (Row Goal)) (k : IsKnownOf lib o t rows) (q : Request) where
  closed : IsClosed lib t rows
  closed = closed-of lib o t rows k

  large_pool : ((x : ℕ) → 0 < q.cost x) → ExceedsPool (book_of rows) q o.pool → HasLargePool lib o.pool t q
  large_pool costly over =
      let c = canonical-closure same (IsAnswer lib) k.goal (one_answer lib) rows k.known.canonical in
      let d = each_page-decided (book_of rows) q (some_rows rows k.goal c.first) (λ x. let h = costly x in omega arith) in
      record { rows = rows; closed = closed; size = d.0; decides = d.1; count = d.2.0; pool = d.2.1; over = over d.0 d.2.0 d.1 d.2.1 }

  no_large_pool : FitsPool (book_of rows) q o.pool → HasLargePool lib o.pool t q → ⊥
  no_large_pool fits h =
      let e : h.rows ≡ rows = closed_unique lib t h.rows rows h.closed closed in
      let decides = subst (λ (rs : List (Row Goal)). IsDecidingSize (IsDue (IsGenerated (book_of rs) 0) q) q.cost q.take q.max h.size) e h.decides in
      let pool = subst (λ (rs : List (Row Goal)). PoolIs (book_of rs) q.cost h.size h.count) e h.pool in
      let few = fits h.size h.count decides pool in
      let many = h.over in
      omega arith

  pub list-page : (es : List Applicative) (more : Bool) → IsPage (IsGenerated (book_of rows) 0) q es more → IsPage (λ e. HasTypeIn lib e t) q es more
  list-page es more p = page_to (IsGenerated (book_of rows) 0) (λ e. HasTypeIn lib e t) (language lib o t rows k) q es more p

  pub list-silent : FitsPool (book_of rows) q o.pool → AreSilent (list_faults lib o t q)
  list-silent fits = both_silent (closure_faults lib o t) ((λ f. HasLargePool lib o.pool t q × (f ≡ TooManyTerms)) ∷ []) (silent-of lib o t rows k)
      (λ f h. elim h [ inl p ↦ no_large_pool fits p.0 | inr n ↦ absurd n.1 ])

  pub list-over : ((x : ℕ) → 0 < q.cost x) → (e : PageFault) → IfTooMany e (ExceedsPool (book_of rows) q o.pool) → IsFaultOf (list_faults lib o t q) (of_page e)
  list-over costly faults.OutOfMemory h = tt
  list-over costly faults.TooManyTerms h =
      first_later (closure_faults lib o t) ((λ f. HasLargePool lib o.pool t q × (f ≡ TooManyTerms)) ∷ []) TooManyTerms (silent-of lib o t rows k)
      (inl (large_pool costly h, refl))
