-- What is written for a query that has no error.
use Rattle.std.specs.Prelude.{ℕ, ◌≡◌, ◌≤◌, ◌⊎◌, List, Bool, codes}
use Rattle.cls_base.specs.Terms.{Applicative}
use Rattle.cls_base.specs.Types.{ClosedType}
use Rattle.cls_base.specs.Subtyping.{Subtype}
use Rattle.cls_base.specs.Pages.{Request, IsPage}
use Rattle.cls_base.specs.Limits.{max_finite_size}
use Rattle.cls_core.specs.declared.entry.Entry.{Entry}
use Rattle.cls_core.specs.Rows.{Row}
use Rattle.cls_enum.specs.Requests.{request}
use Rattle.cls_filter.specs.Automata.{Accepts}
use Rattle.cls_finite.specs.declared.answer.FiniteAnswer.{FiniteAnswer}
use Rattle.cls_finite.specs.declared.answer.FiniteAnswer.TheVariants.{Finite, Over, Infinite}
use Rattle.cls_grammar.specs.GrammarTexts.{IsGrammarText}
use Rattle.cls_library.specs.Libraries.{Library, below_in, variances_in, paths_at}
use Rattle.cls_library.specs.Typing.{HasTypeIn}
use Rattle.cls_proof.specs.Certificates.{Certificate}
use Rattle.cls_proof.specs.Texts.{certificate_text}
use Rattle.cls_query.specs.declared.query.Query.TheVariants.{Sub, Paths, Typed, About, Page, Filtered, Batch}
use Rattle.cls_query.specs.declared.word.GoalWord.TheVariants as word
use Rattle.cls_query.specs.declared.word.ListingWord.TheVariants as listing
use Rattle.cls_query.specs.Queries.{Listing, Query}
use Rattle.cls_syntax.specs.TypePrinting.{name_in}
use Rattle.cls_term.specs.Costs.{cost_of}
use Rattle.cls_term.specs.Texts.{name_at}
use Rattle.cls_engine.specs.Batches.{AreVerdicts}
use Rattle.cls_engine.specs.Certified.{IsCertified}
use Rattle.cls_engine.specs.Goals.{Goal, IsClosed}
use Rattle.cls_engine.specs.Histories.{IsHistoryOf}
use Rattle.cls_engine.specs.Sizes.{IsGreatest, IsGreatestOver, IsUnbounded, IsWalk}
use Rattle.cls_replies.specs.Responder.{Responder, filter_in}
use Rattle.cls_replies.specs.Texts.{reply_line, paths_text, history_text, sizes_text, batch_text, term_line, term_lines, page_text}

-- One of two lines, by whether the fact holds.
abbrev pub Says : Type 0 → (so not_so text : List ℕ) → Type 0
Says Fact so not_so text = (Fact × (text ≡ reply_line so)) ⊎ ((Fact → ⊥) × (text ≡ reply_line not_so))

-- The one page of the terms that have the property.
pub record ListsPage (IsListed : Applicative → Type 0) (r : Request) (shown : Applicative → List ℕ) (text : List ℕ)
    : Type 0 where
  pub terms : List Applicative
  pub more : Bool
  pub page : IsPage IsListed r terms more
  pub written : text ≡ page_text shown terms more

-- How large the terms of the type are: the greatest size, which is 0 if there is no term; that it is over the limit; or
-- the one walk that shows that the sizes have no bound.
abbrev pub TellsSizes : Library → (cost : ℕ → ℕ) → ClosedType → FiniteAnswer → Type 0
TellsSizes lib cost t (Finite n) = IsGreatest lib cost t n × (n ≤ max_finite_size)
TellsSizes lib cost t Over = IsGreatestOver lib cost t max_finite_size
TellsSizes lib cost t (Infinite walk) = IsUnbounded lib cost t × IsWalk lib cost t walk

-- the names have numbers
module _ (s : Responder) where
  -- the page that is asked for, with each term shown in this way
  abbrev pub Lists : Listing → (Applicative → List ℕ) → List ℕ → Type 0
  Lists q shown text =
      ListsPage (λ e. HasTypeIn s.engine.library e q.goal) (request s.engine.costs q.after q.max q.take) shown text

  -- the page of the terms that the filter of the number accepts
  abbrev pub ListsFiltered : ℕ → Listing → (Applicative → List ℕ) → List ℕ → Type 0
  ListsFiltered f q shown text =
      ListsPage (λ e. HasTypeIn s.engine.library e q.goal × Accepts (filter_in s f) e)
      (request s.engine.costs q.after q.max q.take) shown text

  -- A query for a certificate isn't answered by its line alone.
  abbrev pub Reply : Query → List ℕ → Type 0
  Reply (Sub a b) text =
      Says (Subtype (below_in s.engine.library.taxonomy) (variances_in s.engine.library.taxonomy) a b)
      (codes "yes") (codes "no") text
  Reply (Paths x) text = text ≡ paths_text s.names (paths_at s.engine.library x)
  Reply (Typed e t) text = Says (HasTypeIn s.engine.library e t) (codes "yes") (codes "no") text
  Reply (About word.Inhabit t) text =
      Says ((e : Applicative) × HasTypeIn s.engine.library e t) (codes "inhabited") (codes "uninhabited") text
  Reply (About word.Grammar t) text =
      (rows : List (Row Goal)) × IsClosed s.engine.library t rows
      × IsGrammarText (name_in s.names) (name_in s.components) rows text
  Reply (About word.Audit t) text =
      (events : List Entry) × IsHistoryOf s.engine.library s.engine.options.workers t events
      × (text ≡ history_text events)
  Reply (About word.Certify t) text =
      (c : Certificate) × IsCertified s.engine.library t c × (text ≡ certificate_text s.names s.components c)
  Reply (About word.Verify t) text = ⊥
  Reply (About word.Finite t) text =
      (sizes : FiniteAnswer) × TellsSizes s.engine.library (cost_of s.engine.costs) t sizes × (text ≡ sizes_text sizes)
  Reply (Page listing.List q) text = Lists q (term_line (name_at s.components)) text
  Reply (Page listing.Texts q) text = Lists q (term_lines (name_at s.components) s.templates) text
  Reply (Filtered f q) text = ListsFiltered f q (term_line (name_at s.components)) text
  Reply (Batch ts) text = (says : List Bool) × AreVerdicts s.engine.library ts says × (text ≡ batch_text says)
