-- Each line has a reply, by whatever answers the lines after a repository.
use Rattle.std.proofs.Common.{ℕ, ◌≡◌, ◌≤◌, ◌<◌, ◌⊎◌, inl, inr, refl, sym, ◌∙◌, ap, subst, arith, Bool, List, [], ◌∷◌, ◌++◌, length}
use Rattle.std.specs.Prelude.{codes}
use Rattle.std.specs.Fmt.{decimal}
use Rattle.cls_base.specs.Firsts.{Cause, First, IsSilent}
use Rattle.cls_base.specs.Limits.{max_line_bytes}
use Rattle.cls_base.specs.Subtyping.{Subtype}
use Rattle.cls_base.specs.Terms.{Applicative}
use Rattle.cls_base.specs.Types.{ClosedType}
use Rattle.cls_core.specs.declared.entry.Entry.{Entry}
use Rattle.cls_core.specs.Rows.{Row}
use Rattle.cls_enum.specs.Requests.{request}
use Rattle.cls_filter.specs.States.{IsAutomaton}
use Rattle.cls_finite.specs.declared.answer.FiniteAnswer.{FiniteAnswer}
use Rattle.cls_grammar.specs.GrammarTexts.{IsGrammarText}
use Rattle.cls_lexer.specs.Skipped.{IsSkipped}
use Rattle.cls_library.specs.Libraries.{IsLibrary, below_in, variances_in, paths_at}
use Rattle.cls_library.specs.Typing.{HasTypeIn}
use Rattle.cls_proof.specs.declared.proof_fault.ProofFault.TheVariants.{BadLine, NoQed}
use Rattle.cls_proof.specs.Certificates.{Certificate}
use Rattle.cls_proof.specs.Reading.{SaysCertificate}
use Rattle.cls_proof.specs.Texts.{certificate_text}
use Rattle.cls_query.specs.declared.query.Query.TheVariants.{Sub, Paths, Typed, About, Page, Filtered, Batch}
use Rattle.cls_query.specs.declared.word.GoalWord.TheVariants as word
use Rattle.cls_query.specs.declared.word.ListingWord.TheVariants as listing
use Rattle.cls_query.specs.Changes.{Change}
use Rattle.cls_query.specs.Queries.{Listing, Query, Tables, tables_of, grammar, audit, certify, verify, finite, filtered, batch}
use Rattle.cls_query.specs.QueryErrors.{line_errors}
use Rattle.cls_query.specs.Readable.{IsReadable, IsVerify}
use Rattle.cls_query.specs.ReadQueries.{ReadsQuery}
use Rattle.cls_query.proofs.QueryErrors.{lines_decided}
use Rattle.cls_query.proofs.Readable.{query_readable, query_verify}
use Rattle.cls_syntax.specs.TypePrinting.{name_in}
use Rattle.cls_term.specs.Costs.{cost_of}
use Rattle.cls_term.specs.Texts.{name_at}
use Rattle.cls_engine.specs.declared.fault.EngineFault.{EngineFault}
use Rattle.cls_engine.specs.declared.fault.EngineFault.TheVariants.{TooManyTerms}
use Rattle.cls_engine.specs.declared.verdict.Verdict.TheVariants.{Accepted, Refused}
use Rattle.cls_engine.specs.Batches.{AreVerdicts}
use Rattle.cls_engine.specs.Certified.{IsCertified}
use Rattle.cls_engine.specs.Faults.{closure_faults, AreSilent}
use Rattle.cls_engine.specs.Goals.{Goal, IsClosed, HasLargePool}
use Rattle.cls_engine.specs.Histories.{IsHistoryOf}
use Rattle.cls_replies.specs.Answering.{Asks, Answers, Answered, Judges, Verifies, Verified, IsMisread}
use Rattle.cls_replies.specs.Answering as answering
use Rattle.cls_replies.specs.Errors.{faults_of}
use Rattle.cls_replies.specs.Changing.{Changed, Makes}
use Rattle.cls_replies.specs.Changing as changing
use Rattle.cls_replies.specs.LineKinds.{Opens, IsQed, Changes}
use Rattle.cls_replies.specs.Lines.{Goes, Ends, Replies}
use Rattle.cls_replies.specs.Lines as lines
use Rattle.cls_replies.specs.Replies.{Says, Lists, ListsFiltered, Reply, TellsSizes}
use Rattle.cls_replies.specs.Responder.{Responder, tables_in, with_tables, with_names, holding, AreHeld, filter_in}
use Rattle.cls_replies.specs.Texts.{reply_line, error_line, fault_words, verdict_text, paths_text, history_text, sizes_text, batch_text, term_line, term_lines, page_text}
use Rattle.cls_laws.specs.Existence.{HasReading, HasVerdict}
use Rattle.cls_laws.specs.Possible.{IsPossible}
use Rattle.cls_laws.proofs.BatchReplies.{verdicts_exist_in_turn}
use Rattle.cls_laws.proofs.ChangeReplies.{change_exists, makes_library, makes_costly, makes_small, makes_held}
use Rattle.cls_laws.proofs.Classical.{surely, then, after, either_way, first_decided}
use Rattle.cls_laws.proofs.FilteredBooks.{filtered_pages_exist}
use Rattle.cls_laws.proofs.Grammars.{grammar_texts_exist}
use Rattle.cls_laws.proofs.Known.{front_silent, types_have_closures, audits_exist, certificates_exist, sizes_exist, pages_exist}
use Rattle.cls_laws.proofs.Readings.{readings_exist}
use Rattle.cls_laws.proofs.Verdicts.{verdicts_exist}

-- What answers lines by a library, whose components cost at least 1, and by filters, whose states have numbers below their
-- limit. The lines that are held were opened.
pub record CanAnswer (s : Responder) : Type 0 where
  pub library : IsLibrary s.engine.library
  pub costly : (x : ℕ) → 0 < cost_of s.engine.costs x
  pub small : (i : ℕ) → IsAutomaton (filter_in s i)
  pub opened : AreHeld s.held

-- THE REPLY TO A QUERY
module _ (s : Responder) (can : CanAnswer s) where
  says_by : (Fact : Type 0) (so not_so : List ℕ) → Fact ⊎ (Fact → ⊥) → (text : List ℕ) × Says Fact so not_so text
  says_by Fact so not_so (inl f) = (reply_line so, inl (f, refl))
  says_by Fact so not_so (inr n) = (reply_line not_so, inr (n, refl))

  says_exist : (Fact : Type 0) (so not_so : List ℕ) → IsPossible ((text : List ℕ) × Says Fact so not_so text)
  says_exist Fact so not_so = after (either_way Fact) (says_by Fact so not_so)

  lists_exist : (q : Listing) (shown : Applicative → List ℕ) → AreSilent (closure_faults s.engine.library s.engine.options q.goal) → 1 ≤ q.take → IsPossible ((text : List ℕ) × Lists s q shown text)
  lists_exist q shown silent some =
      after (pages_exist s.engine.library can.library s.engine.options q.goal silent (request s.engine.costs q.after q.max q.take) can.costly (omega arith))
      (λ p. (page_text shown p.0 p.1, record { terms = p.0; more = p.1; page = p.2; written = refl }))

  filtered_exist : (f : ℕ) (q : Listing) → AreSilent (faults_of s (filtered f q)) → 1 ≤ q.take → IsPossible ((text : List ℕ) × ListsFiltered s f q (term_line (name_at s.components)) text)
  filtered_exist f q silent some =
      after (filtered_pages_exist s.engine.library can.library s.engine.options q.goal (filter_in s f) (can.small f) (request s.engine.costs q.after q.max q.take) silent can.costly (omega arith))
      (λ p. (page_text (term_line (name_at s.components)) p.0 p.1, record { terms = p.0; more = p.1; page = p.2; written = refl }))

  abbrev HasReply : Query → Type 0
  HasReply q = (text : List ℕ) × Reply s q text

  grammar_reply : (t : ClosedType) (rows : List (Row Goal)) → IsClosed s.engine.library t rows → (g : (text : List ℕ) × IsGrammarText (name_in s.names) (name_in s.components) rows text) → HasReply (grammar t)
  grammar_reply t rows closed (text, is) = (text, (rows, closed, is))

  audit_reply : (t : ClosedType) → (h : (events : List Entry) × IsHistoryOf s.engine.library s.engine.options.workers t events) → HasReply (audit t)
  audit_reply t (events, is) = (history_text events, (events, is, refl))

  certificate_reply : (t : ClosedType) → (h : (c : Certificate) × IsCertified s.engine.library t c) → HasReply (certify t)
  certificate_reply t (c, is) = (certificate_text s.names s.components c, (c, is, refl))

  sizes_reply : (t : ClosedType) → (h : (sizes : FiniteAnswer) × TellsSizes s.engine.library (cost_of s.engine.costs) t sizes) → HasReply (finite t)
  sizes_reply t (sizes, tells) = (sizes_text sizes, (sizes, tells, refl))

  batch_reply : (ts : List ClosedType) → (h : (says : List Bool) × AreVerdicts s.engine.library ts says) → HasReply (batch ts)
  batch_reply ts (says, are) = (batch_text says, (says, are, refl))

  abbrev pool_faults : Listing → List (Cause EngineFault)
  pool_faults q = (λ f. HasLargePool s.engine.library s.engine.options.pool q.goal (request s.engine.costs q.after q.max q.take) × (f ≡ TooManyTerms)) ∷ []

  reply_exists : (q : Query) → AreSilent (faults_of s q) → IsReadable (length s.components) (length s.filter_names) q → (IsVerify q → ⊥) → IsPossible (HasReply q)
  reply_exists (Sub a b) silent readable asks = says_exist (Subtype (below_in s.engine.library.taxonomy) (variances_in s.engine.library.taxonomy) a b) (codes "yes") (codes "no")
  reply_exists (Paths x) silent readable asks = surely (paths_text s.names (paths_at s.engine.library x), refl)
  reply_exists (Typed e t) silent readable asks = says_exist (HasTypeIn s.engine.library e t) (codes "yes") (codes "no")
  reply_exists (About word.Inhabit t) silent readable asks = says_exist ((e : Applicative) × HasTypeIn s.engine.library e t) (codes "inhabited") (codes "uninhabited")
  reply_exists (About word.Grammar t) silent readable asks =
      then (types_have_closures s.engine.library can.library s.engine.options t silent) (λ r.
      after (grammar_texts_exist (name_in s.names) (name_in s.components) r.0) (grammar_reply t r.0 r.1))
  reply_exists (About word.Audit t) silent readable asks = after (audits_exist s.engine.library can.library s.engine.options t silent) (audit_reply t)
  reply_exists (About word.Certify t) silent readable asks = after (certificates_exist s.engine.library can.library s.engine.options t silent) (certificate_reply t)
  reply_exists (About word.Verify t) silent readable asks = absurd (asks tt)
  reply_exists (About word.Finite t) silent readable asks = after (sizes_exist s.engine.library can.library s.engine.options t silent (cost_of s.engine.costs) can.costly) (sizes_reply t)
  reply_exists (Page listing.List q) silent readable asks =
      lists_exist q (term_line (name_at s.components)) (front_silent (closure_faults s.engine.library s.engine.options q.goal) (pool_faults q) silent) readable.some
  reply_exists (Page listing.Texts q) silent readable asks =
      lists_exist q (term_lines (name_at s.components) s.templates) (front_silent (closure_faults s.engine.library s.engine.options q.goal) (pool_faults q) silent) readable.some
  reply_exists (Filtered f q) silent readable asks = filtered_exist f q silent readable.1.some
  reply_exists (Batch ts) silent readable asks = after (verdicts_exist_in_turn s.engine.library ts) (batch_reply ts)

  abbrev HasAnswer : Query → Type 0
  HasAnswer q = (text : List ℕ) × (s' : Responder) × Answers s q text s'

  replied : (q : Query) → AreSilent (faults_of s q) → HasReply q → HasAnswer q
  replied q silent (text, r) = (text, s, answering.Answers.replied silent r refl)

  answer_by : (q : Query) → IsReadable (length s.components) (length s.filter_names) q → (IsVerify q → ⊥) → ((f : EngineFault) × First (faults_of s q) f) ⊎ IsSilent (First (faults_of s q)) → IsPossible (HasAnswer q)
  answer_by q readable asks (inl (f, first)) = surely (error_line (fault_words s.names f), s, answering.Answers.failed f first refl refl)
  answer_by q readable asks (inr silent) = after (reply_exists q silent readable asks) (replied q silent)

  answer_exists : (q : Query) → IsReadable (length s.components) (length s.filter_names) q → (IsVerify q → ⊥) → IsPossible (HasAnswer q)
  answer_exists q readable asks = then (first_decided (faults_of s q)) (answer_by q readable asks)

  -- THE REPLY TO A CERTIFICATE
  abbrev HasJudgement : ClosedType → Certificate → Type 0
  HasJudgement goal c = (text : List ℕ) × Judges s goal c text

  judged : (goal : ClosedType) (c : Certificate) → AreSilent (faults_of s (verify goal)) → HasVerdict s.engine.library goal c → HasJudgement goal c
  judged goal c silent (inl a) = (verdict_text Accepted, answering.Judges.judged silent Accepted a refl)
  judged goal c silent (inr (p, r)) = (verdict_text (Refused p.0 p.1), answering.Judges.judged silent (Refused p.0 p.1) r refl)

  judgement_by : (goal : ClosedType) (c : Certificate) → ((f : EngineFault) × First (faults_of s (verify goal)) f) ⊎ IsSilent (First (faults_of s (verify goal))) → IsPossible (HasJudgement goal c)
  judgement_by goal c (inl (f, first)) = surely (error_line (fault_words s.names f), answering.Judges.failed f first refl)
  judgement_by goal c (inr silent) = after (verdicts_exist s.engine.library goal c) (judged goal c silent)

  judgement_exists : (goal : ClosedType) (c : Certificate) → IsPossible (HasJudgement goal c)
  judgement_exists goal c = then (first_decided (faults_of s (verify goal))) (judgement_by goal c)

-- with other tables or names, or with other lines held, lines are answered as well
tabled_can : (s : Responder) (tables : Tables) → CanAnswer s → CanAnswer (with_tables s tables)
tabled_can s tables can = record { library = can.library; costly = can.costly; small = can.small; opened = can.opened }

named_can : (s : Responder) (names : List (List ℕ)) → CanAnswer s → CanAnswer (with_names s names)
named_can s names can = record { library = can.library; costly = can.costly; small = can.small; opened = can.opened }

holding_can : (s : Responder) (held : List (List ℕ)) → AreHeld held → CanAnswer s → CanAnswer (holding s held)
holding_can s held opened can = record { library = can.library; costly = can.costly; small = can.small; opened = opened }

module _ (m : Responder) (can : CanAnswer m) (goal : ClosedType) (certificate : List (List ℕ)) where
  abbrev HasVerification : Type 0
  HasVerification = (text : List ℕ) × (s' : Responder) × Verifies m goal certificate text s'

  verified_as : (new : List (List ℕ)) (c : Certificate) → SaysCertificate m.names new m.components certificate c → HasJudgement (with_names m new) (named_can m new can) goal c → HasVerification
  verified_as new c says (text, j) = (text, with_names m new, answering.Verifies.read c says refl j)

  verification_by : HasReading m.names m.components certificate → IsPossible HasVerification
  verification_by (inl (new, c, says)) = after (judgement_exists (with_names m new) (named_can m new can) goal c) (verified_as new c says)
  verification_by (inr (inl (n, bad))) =
      let words = codes "certificate " ++ decimal n in
      surely (error_line words, m, answering.Verifies.bad (BadLine n) words bad refl refl refl)
  verification_by (inr (inr lacks)) = surely (error_line (codes "no-qed"), m, answering.Verifies.bad NoQed (codes "no-qed") lacks refl refl refl)

  verification_exists : IsPossible HasVerification
  verification_exists = then (readings_exist m.names m.components certificate) verification_by

-- ONE LINE
goal_of : (q : Query) → IsVerify q → (t : ClosedType) × (q ≡ verify t)
goal_of (Sub a b) h = absurd h
goal_of (Paths x) h = absurd h
goal_of (Typed e t) h = absurd h
goal_of (About word.Verify t) h = (t, refl)
goal_of (About asks t) h = absurd h
goal_of (Page asks q) h = absurd h
goal_of (Filtered f q) h = absurd h
goal_of (Batch ts) h = absurd h

module _ (s : Responder) (can : CanAnswer s) where
  abbrev IsDecided : List ℕ → Type 0
  IsDecided line = ((words : List ℕ) × First (line_errors (tables_in s) line) words)
      ⊎ ((query : Query) × (tables : Tables) × ReadsQuery (tables_in s) line query tables)

  -- what was read is asked, and leaves these tables
  abbrev kept : Tables → Tables
  kept tables = tables_of tables.constructors tables.variables s.components s.filter_names

  asks_so : (line : List ℕ) (q : Query) (new : Tables) → ReadsQuery (tables_in s) line q new → Asks s line q (with_tables s new)
  asks_so line q new reads =
      let same : new ≡ kept new = reads.numbered ∙ sym (ap kept reads.numbered) in
      (subst (λ (tables : Tables). ReadsQuery (tables_in s) line q tables) same reads, refl)

  misread : (line words : List ℕ) → First (line_errors (tables_in s) line) words → IsMisread s line (error_line words) s
  misread line words first = record { words = words; first = first; written = refl; same = refl }

  -- a certificate that has ended
  abbrev HasEnd : List ℕ → List (List ℕ) → Type 0
  HasEnd line certificate = (text : List ℕ) × (s' : Responder) × Verified s line certificate text s'

  verified_by : (line : List ℕ) (certificate : List (List ℕ)) (tables : Tables) (goal : ClosedType) → ReadsQuery (tables_in s) line (verify goal) tables
      → HasVerification (with_tables s tables) (tabled_can s tables can) goal certificate → HasEnd line certificate
  verified_by line certificate tables goal reads (text, s', v) = (text, s', answering.Verified.asked goal (with_tables s tables) (asks_so line (verify goal) tables reads) v)

  end_by : (line : List ℕ) (certificate : List (List ℕ)) → Opens line → IsDecided line → IsPossible (HasEnd line certificate)
  end_by line certificate opens (inl (words, first)) = surely (error_line words, s, answering.Verified.misread (misread line words first))
  end_by line certificate opens (inr (q, tables, reads)) =
      let g = goal_of q ((query_verify reads).1 opens.begins) in
      let asks : ReadsQuery (tables_in s) line (verify g.0) tables = subst (λ (p : Query). ReadsQuery (tables_in s) line p tables) g.1 reads in
      after (verification_exists (with_tables s tables) (tabled_can s tables can) g.0 certificate) (verified_by line certificate tables g.0 asks)

  end_exists : (line : List ℕ) (certificate : List (List ℕ)) → Opens line → IsPossible (HasEnd line certificate)
  end_exists line certificate opens = end_by line certificate opens (lines_decided (tables_in s) line)

  -- a line by itself
  abbrev IsAnsweredLine : List ℕ → Type 0
  IsAnsweredLine line = (text : List ℕ) × (s' : Responder) × Answered s line text s'

  asks_none : (line : List ℕ) (q : Query) (tables : Tables) → (Opens line → ⊥) → ReadsQuery (tables_in s) line q tables → IsVerify q → ⊥
  asks_none line q tables closed reads v =
      let silent = reads.faultless in
      let short : length line ≤ max_line_bytes = at_most (length line) (λ l. silent (codes "long") (inl (l, refl))) in
      silent (codes "utf8") (inr ((λ t h. silent t (inl h)), inl ((λ u. closed (record { text = (short, u); begins = (query_verify reads).0 v })), refl)))
    where
      at_most : (n : ℕ) → (max_line_bytes < n → ⊥) → n ≤ max_line_bytes
      at_most n f = omega arith

  answered : (line : List ℕ) (q : Query) (tables : Tables) → ReadsQuery (tables_in s) line q tables → HasAnswer (with_tables s tables) (tabled_can s tables can) q → IsAnsweredLine line
  answered line q tables reads (text, s', a) = (text, s', answering.Answered.asked q (with_tables s tables) (asks_so line q tables reads) a)

  answered_by : (line : List ℕ) → (Opens line → ⊥) → IsDecided line → IsPossible (IsAnsweredLine line)
  answered_by line closed (inl (words, first)) = surely (error_line words, s, answering.Answered.misread (misread line words first))
  answered_by line closed (inr (q, tables, reads)) =
      after (answer_exists (with_tables s tables) (tabled_can s tables can) q (query_readable reads) (asks_none line q tables closed reads)) (answered line q tables reads)

  abbrev HasNext : List ℕ → Type 0
  HasNext line = (text : List ℕ) × (s' : Responder) × Goes s line text s'

  asked : (line : List ℕ) → s.held ≡ [] → (IsSkipped line → ⊥) → (Opens line → ⊥) → (Changes line → ⊥) → IsAnsweredLine line → HasNext line
  asked line e unskipped closed unchanging (text, s', a) = (text, s', lines.Goes.asks e (record { unskipped = unskipped; closed = closed; unchanging = unchanging }) a)

  changed : (line : List ℕ) → s.held ≡ [] → Changes line → (h : (text : List ℕ) × (s' : Responder) × Changed s line text s') → HasNext line
  changed line e changes (text, s', a) = (text, s', lines.Goes.changes e changes a)

  unopened_next : (line : List ℕ) → s.held ≡ [] → (IsSkipped line → ⊥) → (Opens line → ⊥) → Changes line ⊎ (Changes line → ⊥) → IsPossible (HasNext line)
  unopened_next line e unskipped closed (inl changes) = after (change_exists s can.library line) (changed line e changes)
  unopened_next line e unskipped closed (inr unchanging) = after (answered_by line closed (lines_decided (tables_in s) line)) (asked line e unskipped closed unchanging)

  closed_next : (line : List ℕ) → s.held ≡ [] → (IsSkipped line → ⊥) → Opens line ⊎ (Opens line → ⊥) → IsPossible (HasNext line)
  closed_next line e unskipped (inl opens) = surely ([], holding s (line ∷ []), lines.Goes.opens e opens refl refl)
  closed_next line e unskipped (inr closed) = then (either_way (Changes line)) (unopened_next line e unskipped closed)

  free_next : (line : List ℕ) → s.held ≡ [] → IsSkipped line ⊎ (IsSkipped line → ⊥) → IsPossible (HasNext line)
  free_next line e (inl skipped) = surely ([], s, lines.Goes.skips e skipped refl refl)
  free_next line e (inr unskipped) = then (either_way (Opens line)) (closed_next line e unskipped)

-- the lines that are held end, or one more is held
module _ (s : Responder) (can : CanAnswer s) where
  free_can : CanAnswer (holding s [])
  free_can = holding_can s [] tt can

  ended : (line first : List ℕ) (inside : List (List ℕ)) → s.held ≡ first ∷ inside → IsQed line → HasEnd (holding s []) free_can first (inside ++ line ∷ []) → HasNext s can line
  ended line first inside e q (text, s', v) = (text, s', lines.Goes.ends first inside e q v)

  held_next : (line first : List ℕ) (inside : List (List ℕ)) → s.held ≡ first ∷ inside → IsQed line ⊎ (IsQed line → ⊥) → IsPossible (HasNext s can line)
  held_next line first inside e (inl q) = after (end_exists (holding s []) free_can first (inside ++ line ∷ []) (subst AreHeld e can.opened)) (ended line first inside e q)
  held_next line first inside e (inr n) = surely ([], holding s (first ∷ (inside ++ line ∷ [])), lines.Goes.holds first inside e n refl refl)

  next_by : (line : List ℕ) (held : List (List ℕ)) → s.held ≡ held → IsPossible (HasNext s can line)
  next_by line [] e = then (either_way (IsSkipped line)) (free_next s can line e)
  next_by line (first ∷ inside) e = then (either_way (IsQed line)) (held_next line first inside e)

  pub next_exists : (line : List ℕ) → IsPossible ((text : List ℕ) × (s' : Responder) × Goes s line text s')
  next_exists line = next_by line s.held refl

  -- THE END OF THE LINES
  abbrev HasLast : Type 0
  HasLast = (text : List ℕ) × Ends s text

  last_ended : (first : List ℕ) (inside : List (List ℕ)) → s.held ≡ first ∷ inside → HasEnd (holding s []) free_can first inside → HasLast
  last_ended first inside e (text, s', v) = (text, lines.Ends.held first inside s' e v)

  last_by : (held : List (List ℕ)) → s.held ≡ held → IsPossible HasLast
  last_by [] e = surely ([], lines.Ends.free e refl)
  last_by (first ∷ inside) e = after (end_exists (holding s []) free_can first inside (subst AreHeld e can.opened)) (last_ended first inside e)

  pub last_exists : IsPossible ((text : List ℕ) × Ends s text)
  last_exists = last_by s.held refl

-- WHAT ANSWERS AFTER A LINE
same_can : (s s' : Responder) → s' ≡ s → CanAnswer s → CanAnswer s'
same_can s s' e can = subst CanAnswer (sym e) can

verifies_can : (m : Responder) (goal : ClosedType) (certificate : List (List ℕ)) (text : List ℕ) (s' : Responder) → Verifies m goal certificate text s' → CanAnswer m → CanAnswer s'
verifies_can m goal certificate text s' (answering.Verifies.bad fault words is w t e) can = same_can m s' e can
verifies_can m goal certificate text s' (answering.Verifies.read c says e j) can = same_can (with_names m s'.names) s' e (named_can m s'.names can)

verified_can : (s : Responder) (line : List ℕ) (certificate : List (List ℕ)) (text : List ℕ) (s' : Responder) → Verified s line certificate text s' → CanAnswer s → CanAnswer s'
verified_can s line certificate text s' (answering.Verified.misread m) can = same_can s s' m.same can
verified_can s line certificate text s' (answering.Verified.asked goal m asks v) can = verifies_can m goal certificate text s' v (same_can (with_tables s (tables_in m)) m asks.1 (tabled_can s (tables_in m) can))

answers_can : (s : Responder) (q : Query) (text : List ℕ) (s' : Responder) → Answers s q text s' → CanAnswer s → CanAnswer s'
answers_can s q text s' (answering.Answers.failed f first e same) can = same_can s s' same can
answers_can s q text s' (answering.Answers.replied silent r same) can = same_can s s' same can

answered_can : (s : Responder) (line text : List ℕ) (s' : Responder) → Answered s line text s' → CanAnswer s → CanAnswer s'
answered_can s line text s' (answering.Answered.misread m) can = same_can s s' m.same can
answered_can s line text s' (answering.Answered.asked q m asks a) can = answers_can m q text s' a (same_can (with_tables s (tables_in m)) m asks.1 (tabled_can s (tables_in m) can))

makes_can : (s : Responder) (c : Change) (text : List ℕ) (s' : Responder) → Makes s c text s' → CanAnswer s → CanAnswer s'
makes_can s c text s' a can = record {
  library = makes_library s c text s' a can.library;
  costly = makes_costly s c text s' a can.costly;
  small = makes_small s c text s' a can.small;
  opened = subst AreHeld (sym (makes_held s c text s' a)) can.opened;
}

changed_can : (s : Responder) (line text : List ℕ) (s' : Responder) → Changed s line text s' → CanAnswer s → CanAnswer s'
changed_can s line text s' (changing.Changed.misread m) can = same_can s s' m.same can
changed_can s line text s' (changing.Changed.makes c m says a) can =
    makes_can m c text s' a (same_can (with_tables s (tables_in m)) m says.1 (tabled_can s (tables_in m) can))

goes_can : (s : Responder) (line text : List ℕ) (s' : Responder) → Goes s line text s' → CanAnswer s → CanAnswer s'
goes_can s line text s' (lines.Goes.skips e skipped t same) can = same_can s s' same can
goes_can s line text s' (lines.Goes.asks e single a) can = answered_can s line text s' a can
goes_can s line text s' (lines.Goes.changes e changes a) can = changed_can s line text s' a can
goes_can s line text s' (lines.Goes.opens e opens t same) can = same_can (holding s (line ∷ [])) s' same (holding_can s (line ∷ []) opens can)
goes_can s line text s' (lines.Goes.holds first inside e n t same) can =
    same_can (holding s (first ∷ (inside ++ line ∷ []))) s' same (holding_can s (first ∷ (inside ++ line ∷ [])) (subst AreHeld e can.opened) can)
goes_can s line text s' (lines.Goes.ends first inside e q v) can = verified_can (holding s []) first (inside ++ line ∷ []) text s' v (holding_can s [] tt can)

pub replies_can : (s : Responder) (rest : List (List ℕ)) (text : List ℕ) (s' : Responder) → Replies s rest text s' → CanAnswer s → CanAnswer s'
replies_can s [] text s' h can = same_can s s' h.1 can
replies_can s (line ∷ rest) text s' (m, first, others, goes, hs, e) can = replies_can m rest others s' hs (goes_can s line first m goes can)
