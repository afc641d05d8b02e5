-- What is written for a query that isn't an audit is one text, and queries are answered by one thing after it.
use Rattle.std.proofs.Common.{ℕ, suc, ◌≡◌, refl, sym, ◌∙◌, ap, subst, inl, inr, List, [], ◌∷◌, length, slice_get, Bool, codes, Option, Some, None, arith}
use Rattle.cls_base.specs.Firsts.{First, IsDetermined}
use Rattle.cls_base.specs.Pages.{Request}
use Rattle.cls_base.specs.Terms.{Applicative}
use Rattle.cls_base.specs.Types.{ClosedType}
use Rattle.cls_base.specs.declared.rule.Rule.{Rule}
use Rattle.cls_base.proofs.Firsts.{first-determined}
use Rattle.cls_cert.specs.Conditions.{forms_of}
use Rattle.cls_cert.specs.Making.{IsMadeFor}
use Rattle.cls_cert.proofs.Ranking.{rank_same}
use Rattle.cls_cert.proofs.Unique.{one_made}
use Rattle.cls_core.specs.Rows.{Row}
use Rattle.cls_filter.specs.Automata.{Automaton, Accepts}
use Rattle.cls_grammar.specs.Grammars.{book_of}
use Rattle.cls_grammar.specs.GrammarTexts.{grammar_text}
use Rattle.cls_grammar.specs.Ranks.{IsRankIn, AreRanks}
use Rattle.cls_library.specs.Typing.{HasTypeIn}
use Rattle.cls_enum.specs.Requests.{request}
use Rattle.cls_proof.specs.Certificates.{Certificate}
use Rattle.cls_proof.specs.Texts.{certificate_text}
use Rattle.cls_query.specs.declared.query.Query.TheVariants.{Sub, Paths, Typed, About, Page, Filtered, Batch}
use Rattle.cls_query.specs.declared.word.GoalWord.TheVariants as word
use Rattle.cls_query.specs.declared.word.ListingWord.TheVariants as listing
use Rattle.cls_query.specs.Queries.{Listing, Query, grammar, audit, certify, finite}
use Rattle.cls_syntax.specs.TypePrinting.{name_in}
use Rattle.cls_term.specs.Costs.{cost_of}
use Rattle.cls_term.specs.Texts.{name_at}
use Rattle.cls_term.proofs.Orders.{Before-strict_total}
use Rattle.cls_engine.specs.declared.fault.EngineFault.{EngineFault}
use Rattle.cls_engine.specs.Faults.{compare_faults, closure_faults, list_faults, filter_faults}
use Rattle.cls_engine.specs.Goals.{Goal}
use Rattle.cls_engine.proofs.Goals.{closed_unique}
use Rattle.cls_replies.specs.Responder.{Responder, filter_in}
use Rattle.cls_replies.specs.Texts.{page_text, sizes_text, term_line, term_lines, error_line, fault_words}
use Rattle.cls_replies.specs.Errors.{faults_of}
use Rattle.cls_replies.specs.Replies.{Says, Lists, ListsPage, Reply}
use Rattle.cls_replies.specs.Answering.{Answers}
use Rattle.cls_replies.specs.Answering as answering
use Rattle.cls_laws.proofs.BatchReplies.{wide_one, batch_one, batch_reply_one}
use Rattle.cls_laws.proofs.OnePage.{page_one, more_one}
use Rattle.cls_laws.proofs.OneSize.{sizes_one}

says_one : (Fact : Type 0) (so not_so : List ℕ) → IsDetermined (Says Fact so not_so)
says_one Fact so not_so t u (inl p) (inl q) = p.1 ∙ sym q.1
says_one Fact so not_so t u (inl p) (inr q) = absurd (q.0 p.0)
says_one Fact so not_so t u (inr p) (inl q) = absurd (p.0 q.0)
says_one Fact so not_so t u (inr p) (inr q) = p.1 ∙ sym q.1

-- WHAT THE ENGINE CAN'T DO
module _ (s : Responder) where
  compare_one : (ts : List ClosedType) → IsDetermined (First (compare_faults ts))
  compare_one ts = first-determined (compare_faults ts) ((λ f g p q. p.1 ∙ sym q.1), tt)

  closure_one : (t : ClosedType) → IsDetermined (First (closure_faults s.engine.library s.engine.options t))
  closure_one t = first-determined (closure_faults s.engine.library s.engine.options t) ((λ f g p q. p.1 ∙ sym q.1), ((λ f g p q. p.1 ∙ sym q.1), (wide_one s.engine.library t, tt)))

  list_one : (t : ClosedType) (r : Request) → IsDetermined (First (list_faults s.engine.library s.engine.options t r))
  list_one t r = first-determined (list_faults s.engine.library s.engine.options t r)
      ((λ f g p q. p.1 ∙ sym q.1), ((λ f g p q. p.1 ∙ sym q.1), (wide_one s.engine.library t, ((λ f g p q. p.1 ∙ sym q.1), tt))))

  filter_one : (t : ClosedType) (a : Automaton) (r : Request) → IsDetermined (First (filter_faults s.engine.library s.engine.options t a r))
  filter_one t a r = first-determined (filter_faults s.engine.library s.engine.options t a r)
      ((λ f g p q. p.1 ∙ sym q.1), ((λ f g p q. p.1 ∙ sym q.1), (wide_one s.engine.library t, ((λ f g p q. p.1 ∙ sym q.1), ((λ f g p q. p.1 ∙ sym q.1), tt)))))

  pub fault_one : (q : Query) → IsDetermined (First (faults_of s q))
  fault_one (Sub a b) = compare_one (a ∷ b ∷ [])
  fault_one (Paths x) = λ f g h k. absurd h
  fault_one (Typed u t) = compare_one (t ∷ [])
  fault_one (About word.Verify t) = compare_one (t ∷ [])
  fault_one (About asks t) = closure_one t
  fault_one (Page asks q) = list_one q.goal (request s.engine.costs q.after q.max q.take)
  fault_one (Batch ts) = batch_one s.engine.library s.engine.options ts
  fault_one (Filtered x q) = filter_one q.goal (filter_in s x) (request s.engine.costs q.after q.max q.take)

-- THE REPLIES
-- lists of one length with the same elements at each place
same_at_each : {A : Type 0} (xs ys : List A) → length xs ≡ length ys → ((i : ℕ) (x y : A) → slice_get xs i ≡ Some x → slice_get ys i ≡ Some y → x ≡ y) → xs ≡ ys
same_at_each [] [] l h = refl
same_at_each [] (y ∷ ys) l h = absurd (omega arith)
same_at_each (x ∷ xs) [] l h = absurd (omega arith)
same_at_each (x ∷ xs) (y ∷ ys) l h = ap (λ z. z ∷ xs) (h 0 x y refl refl) ∙ ap (λ zs. y ∷ zs) (same_at_each xs ys (omega arith) (λ i a b e f. h (suc i) a b e f))

module _ (book : List (List (Rule ℕ))) where
  rank_one : (i : ℕ) (a b : Option ℕ) → IsRankIn book i a → IsRankIn book i b → a ≡ b
  rank_one i None None h k = refl
  rank_one i None (Some m) h k = absurd (h (m, k.tree))
  rank_one i (Some n) None h k = absurd (k (n, h.tree))
  rank_one i (Some n) (Some m) h k = ap (λ (x : ℕ). Some x) (rank_same book i n m h k)

  ranks_one : (xs ys : List (Option ℕ)) → AreRanks book xs → AreRanks book ys → xs ≡ ys
  ranks_one xs ys h k = same_at_each xs ys (h.count ∙ sym k.count) (λ i x y e f. rank_one i x y (h.each i x e) (k.each i y f))

module _ (IsListed : Applicative → Type 0) (r : Request) where
  lists_one : (shown : Applicative → List ℕ) → IsDetermined (ListsPage IsListed r shown)
  lists_one shown t u h k =
      let order = Before-strict_total r.cost in
      h.written
      ∙ (ap (λ (es : List Applicative). page_text shown es h.more) (page_one IsListed r order h.terms k.terms h.more k.more h.page k.page)
      ∙ (ap (λ (m : Bool). page_text shown k.terms m) (more_one IsListed r order h.terms k.terms h.more k.more h.page k.page) ∙ sym k.written))

module _ (s : Responder) where
  grammar_one : (t : ClosedType) → IsDetermined (Reply s (grammar t))
  grammar_one t u w p q =
      let rows : p.0 ≡ q.0 = closed_unique s.engine.library t p.0 q.0 p.1 q.1 in
      let ranks : p.2.0 ≡ q.2.0 = ranks_one (book_of q.0) p.2.0 q.2.0 (subst (λ (rs : List (Row Goal)). AreRanks (book_of rs) p.2.0) rows p.2.1) q.2.1 in
      p.2.2 ∙ ((λ i. grammar_text (name_in s.names) (name_in s.components) (rows i) (ranks i)) ∙ sym q.2.2)

  certificate_one : (t : ClosedType) → IsDetermined (Reply s (certify t))
  certificate_one t u w p q =
      let rows : p.1.0 ≡ q.1.0 = closed_unique s.engine.library t p.1.0 q.1.0 p.1.1 q.1.1 in
      let same : p.0 ≡ q.0 = one_made s.engine.library (forms_of q.1.0) (book_of q.1.0) p.0 q.0 (subst (λ (rs : List (Row Goal)). IsMadeFor s.engine.library rs p.0) rows p.1.2) q.1.2 in
      p.2 ∙ (ap (λ (c : Certificate). certificate_text s.names s.components c) same ∙ sym q.2)

  finite_one : (t : ClosedType) → IsDetermined (Reply s (finite t))
  finite_one t u w p q = p.2 ∙ (ap sizes_text (sizes_one s.engine.library (cost_of s.engine.costs) t p.0 q.0 p.1 q.1) ∙ sym q.2)

  page_reply : (q : Listing) (shown : Applicative → List ℕ) → IsDetermined (Lists s q shown)
  page_reply q shown = lists_one (λ e. HasTypeIn s.engine.library e q.goal) (request s.engine.costs q.after q.max q.take) shown

  reply_one : (q : Query) → ((t : ClosedType) → q ≡ audit t → ⊥) → IsDetermined (Reply s q)
  reply_one (Sub a b) n = says_one _ (codes "yes") (codes "no")
  reply_one (Paths x) n = λ t u p q. p ∙ sym q
  reply_one (Typed e t) n = says_one _ (codes "yes") (codes "no")
  reply_one (About word.Inhabit t) n = says_one _ (codes "inhabited") (codes "uninhabited")
  reply_one (About word.Grammar t) n = grammar_one t
  reply_one (About word.Audit t) n = absurd (n t refl)
  reply_one (About word.Certify t) n = certificate_one t
  reply_one (About word.Verify t) n = λ u w p q. absurd p
  reply_one (About word.Finite t) n = finite_one t
  reply_one (Page listing.List q) n = page_reply q (term_line (name_at s.components))
  reply_one (Page listing.Texts q) n = page_reply q (term_lines (name_at s.components) s.templates)
  reply_one (Batch ts) n = batch_reply_one s.engine.library ts
  reply_one (Filtered x q) n =
      lists_one (λ e. HasTypeIn s.engine.library e q.goal × Accepts (filter_in s x) e) (request s.engine.costs q.after q.max q.take) (term_line (name_at s.components))

  pub answer_one : (q : Query) → ((t : ClosedType) → q ≡ audit t → ⊥) → (t u : List ℕ) (m k : Responder) → Answers s q t m → Answers s q u k → (t ≡ u) × (m ≡ k)
  answer_one q n t u m k (answering.Answers.failed f h e same) (answering.Answers.failed g i d same') =
      (e ∙ (ap (λ (x : EngineFault). error_line (fault_words s.names x)) (fault_one s q f g h i) ∙ sym d), same ∙ sym same')
  answer_one q n t u m k (answering.Answers.failed f h e same) (answering.Answers.replied silent r same') = absurd (silent f h)
  answer_one q n t u m k (answering.Answers.replied silent r same) (answering.Answers.failed g i d same') = absurd (silent g i)
  answer_one q n t u m k (answering.Answers.replied silent p same) (answering.Answers.replied silent' r same') = (reply_one q n t u p r, same ∙ sym same')
