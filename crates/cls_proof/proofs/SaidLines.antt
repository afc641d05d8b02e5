-- What lines say, one after another.
use Rattle.std.proofs.Common.{◌≡◌, ℕ, ◌+◌, ◌<◌, ◌≤◌, List, [], ◌∷◌, ◌++◌, Option, Some, None, length, map, take, drop, get_or, refl, ap, sym, ◌∙◌, subst, arith, append_assoc, append-nil, inl, inr, rules, add-one, drop-cons}
use Rattle.std.specs.List.{flat_map, list_any, AllByRecursion}
use Rattle.std.proofs.lemmas.List.{get_or_default}
use Rattle.std.specs.Prelude.{Result, Ok, Err, false, slice_index_or}
use Rattle.cls_base.specs.Types as types
use Rattle.cls_base.specs.Types.{ClosedType}
use Rattle.cls_lexer.specs.Names.{number_of, with_text, with_texts}
use Rattle.cls_lexer.specs.Skipped.{IsSkipped}
use Rattle.cls_lexer.specs.Words.{Word, words_of}
use Rattle.cls_syntax.specs.Faults.{Stop}
use Rattle.cls_syntax.specs.Faults as faults
use Rattle.cls_syntax.specs.LineGrammars.{LineOf, row_words, RowStands, grammar_read, IsGoodGrammar}
use Rattle.cls_syntax.specs.TypePrinting.{HasNamesBelow}
use Rattle.cls_syntax.proofs.GrowingTables.{kept_more, kept_all}
use Rattle.cls_syntax.proofs.GrammarFronts.{grammar_exactly, grammar_reads}
use Rattle.cls_proof.specs.Certificates as certificate
use Rattle.cls_proof.specs.Certificates.{ProofRow, Block, Member, Certificate}
use Rattle.cls_proof.specs.Forms.{certificate_rows, Written, line_of}
use Rattle.cls_proof.specs.Forms as written
use Rattle.cls_proof.specs.Statements.{Statement, inhabited, row, empty, member, block, layer, set, qed, is_qed, block_statements, member_statements, statements_of}
use Rattle.cls_proof.specs.Reading.{Means, SaysStatement, Says, no_statement, one_statement, LinesSay, SaysCertificate, BeginCertificate, LacksQed}
use Rattle.cls_proof.specs.Drafts.{Place, at_start, in_rows, in_members, in_member, in_block, in_layer, at_end, after, said_in}
use Rattle.cls_proof.specs.Chunks.{AreRead}
use Rattle.cls_proof.specs.Said.{HasGrown, IsStatementHeld}
use Rattle.cls_proof.specs.Texts.{IsRowHeld, IsBlockHeld, IsMemberHeld, IsHeld}
use Rattle.cls_proof.specs.declared.draft.Draft.{Draft}
use Rattle.cls_base.proofs.Lists.{take_next}
use Rattle.cls_proof.proofs.Allowed.{run_from, run_append, certificate_run}
use Rattle.cls_proof.proofs.DraftLists.{begun}
use Rattle.cls_proof.proofs.GoalTexts.{longer}

pub rows_good : IsGoodGrammar certificate_rows
rows_good = search rules

abbrev said_or : {A : Type 0} → A → Result A Stop → A
said_or a (Ok b) = b
said_or a (Err e) = a

-- The words say the line.
abbrev pub WordsSay : LineOf certificate_rows → List Word → Type 0
WordsSay said ws = faults.Says (row_words certificate_rows) (RowStands certificate_rows) said ws

-- what the words say is read
pub said_reads : (ws : List Word) (said : LineOf certificate_rows) → WordsSay said ws → grammar_read certificate_rows ws ≡ Ok said
said_reads ws said s = subst (λ (us : List Word). grammar_read certificate_rows us ≡ Ok said) s.spelled (grammar_reads certificate_rows rows_good said s.stands)

-- the words say what was read
pub read_says : (ws : List Word) (said : LineOf certificate_rows) → grammar_read certificate_rows ws ≡ Ok said → WordsSay said ws
read_says ws said e = subst (λ (r : Result (LineOf certificate_rows) Stop). faults.Exactly (row_words certificate_rows) (RowStands certificate_rows) ws r) e (grammar_exactly certificate_rows rows_good ws)

-- they say one line alone
pub said_one : (ws : List Word) (a b : LineOf certificate_rows) → WordsSay a ws → WordsSay b ws → a ≡ b
said_one ws a b p q = ap (λ (r : Result (LineOf certificate_rows) Stop). said_or a r) (sym (said_reads ws a p) ∙ said_reads ws b q)

-- the line as it is written
abbrev written_of : LineOf certificate_rows → Written
written_of (inl v) = written.inhabited
written_of (inr (inl v)) = written.row v.0 v.1.0 v.1.1.0 v.1.1.1
written_of (inr (inr (inl v))) = written.empty
written_of (inr (inr (inr (inl v)))) = written.member v.0
written_of (inr (inr (inr (inr (inl v))))) = written.block v.0 v.1.0
written_of (inr (inr (inr (inr (inr (inl v)))))) = written.layer
written_of (inr (inr (inr (inr (inr (inr (inl v))))))) = written.set v
written_of (inr (inr (inr (inr (inr (inr (inr v))))))) = written.qed

written_again : (w : Written) → written_of (line_of w) ≡ w
written_again written.inhabited = refl
written_again (written.row t x d ds) = refl
written_again written.empty = refl
written_again (written.member t) = refl
written_again (written.block x d) = refl
written_again written.layer = refl
written_again (written.set ds) = refl
written_again written.qed = refl

pub written_one : (ws : List Word) (w u : Written) → WordsSay (line_of w) ws → WordsSay (line_of u) ws → w ≡ u
written_one ws w u p q = sym (written_again w) ∙ (ap written_of (said_one ws (line_of w) (line_of u) p q) ∙ written_again u)

-- the lines before, and one more
pub say_more : (number : List ℕ → ℕ) (components before : List (List ℕ)) (line : List ℕ) (names names' : List (List ℕ)) (ss ss' : List Statement) → LinesSay number components before names ss → Says number components line names' ss' → LinesSay number components (before ++ line ∷ []) (names ++ names') (ss ++ ss')
say_more number components [] line names names' ss ss' h k =
    (names', [], ss', [], k, (refl, refl), ap (λ (ns : List (List ℕ)). ns ++ names') h.0 ∙ sym (append-nil names'), ap (λ (ts : List Statement). ts ++ ss') h.1 ∙ sym (append-nil ss'))
say_more number components (l ∷ before) line names names' ss ss' (n1, n2, s1, s2, first, rest, en, es) k =
    (n1, n2 ++ names', s1, s2 ++ ss', first, say_more number components before line n2 names' s2 ss' rest k, ap (λ (ns : List (List ℕ)). ns ++ names') en ∙ append_assoc n1 n2 names', ap (λ (ts : List Statement). ts ++ ss') es ∙ append_assoc s1 s2 ss')

-- what the lines before say, and the last one
pub record SayLast (number : List ℕ → ℕ) (components before : List (List ℕ)) (line : List ℕ) (ss : List Statement) : Type 0 where
  pub names : List (List ℕ)
  pub names' : List (List ℕ)
  pub first : List Statement
  pub last : List Statement
  pub so_far : LinesSay number components before names first
  pub line_says : Says number components line names' last
  pub joined : ss ≡ first ++ last

pub say_last : (number : List ℕ → ℕ) (components before : List (List ℕ)) (line : List ℕ) (names : List (List ℕ)) (ss : List Statement) → LinesSay number components (before ++ line ∷ []) names ss → SayLast number components before line ss
say_last number components [] line names ss (n1, n2, s1, s2, k, none, en, es) = record {
  names = [];
  names' = n1;
  first = [];
  last = s1;
  so_far = (refl, refl);
  line_says = k;
  joined = es ∙ (ap (λ (ts : List Statement). s1 ++ ts) none.1 ∙ append-nil s1);
}
say_last number components (l ∷ before) line names ss (n1, n2, s1, s2, first, rest, en, es) =
    let r = say_last number components before line n2 s2 rest in
    record {
      names = n1 ++ r.names;
      names' = r.names';
      first = s1 ++ r.first;
      last = r.last;
      so_far = (n1, r.names, s1, r.first, first, r.so_far, refl, refl);
      line_says = r.line_says;
      joined = es ∙ (ap (λ (ts : List Statement). s1 ++ ts) r.joined ∙ sym (append_assoc s1 r.first r.last));
    }

-- what may follow doesn't depend on the numbers of a statement
rows_alike : (r r' : ProofRow) (p : Place) → after (row r) p ≡ after (row r') p
rows_alike r r' at_start = refl
rows_alike r r' in_rows = refl
rows_alike r r' in_members = refl
rows_alike r r' in_member = refl
rows_alike r r' in_block = refl
rows_alike r r' in_layer = refl
rows_alike r r' at_end = refl

members_alike : (g g' : ClosedType) (p : Place) → after (member g) p ≡ after (member g') p
members_alike g g' at_start = refl
members_alike g g' in_rows = refl
members_alike g g' in_members = refl
members_alike g g' in_member = refl
members_alike g g' in_block = refl
members_alike g g' in_layer = refl
members_alike g g' at_end = refl

blocks_alike : (c n c' n' : ℕ) (p : Place) → after (block c n) p ≡ after (block c' n') p
blocks_alike c n c' n' at_start = refl
blocks_alike c n c' n' in_rows = refl
blocks_alike c n c' n' in_members = refl
blocks_alike c n c' n' in_member = refl
blocks_alike c n c' n' in_block = refl
blocks_alike c n c' n' in_layer = refl
blocks_alike c n c' n' at_end = refl

sets_alike : (s s' : List ℕ) (p : Place) → after (set s) p ≡ after (set s') p
sets_alike s s' at_start = refl
sets_alike s s' in_rows = refl
sets_alike s s' in_members = refl
sets_alike s s' in_member = refl
sets_alike s s' in_block = refl
sets_alike s s' in_layer = refl
sets_alike s s' at_end = refl

module _ (number number' : List ℕ → ℕ) (components : List (List ℕ)) where
  one_alike : (w : Written) (s s' : Statement) → Means number components w s → Means number' components w s' → (p : Place) → after s p ≡ after s' p
  one_alike written.inhabited s s' h k p = ap (λ (x : Statement). after x p) (h ∙ sym k)
  one_alike (written.row t x d ds) s s' h k p = ap (λ (x : Statement). after x p) h.1 ∙ (rows_alike h.0 k.0 p ∙ ap (λ (x : Statement). after x p) (sym k.1))
  one_alike written.empty s s' h k p = ap (λ (x : Statement). after x p) (h ∙ sym k)
  one_alike (written.member t) s s' h k p = ap (λ (x : Statement). after x p) h.1 ∙ (members_alike h.0 k.0 p ∙ ap (λ (x : Statement). after x p) (sym k.1))
  one_alike (written.block x d) s s' h k p = ap (λ (x : Statement). after x p) h.2 ∙ (blocks_alike h.0 h.1 k.0 k.1 p ∙ ap (λ (x : Statement). after x p) (sym k.2))
  one_alike written.layer s s' h k p = ap (λ (x : Statement). after x p) (h ∙ sym k)
  one_alike (written.set ds) s s' h k p = ap (λ (x : Statement). after x p) h.1 ∙ (sets_alike h.0 k.0 p ∙ ap (λ (x : Statement). after x p) (sym k.1))
  one_alike written.qed s s' h k p = ap (λ (x : Statement). after x p) (h ∙ sym k)

  statements_alike : (line : List ℕ) (names names' : List (List ℕ)) (s s' : Statement) → SaysStatement number components line names s → SaysStatement number' components line names' s' → (p : Place) → after s p ≡ after s' p
  statements_alike line names names' s s' h k p =
      let e = written_one (words_of line) h.written k.written h.says k.says in
      one_alike k.written s s' (subst (λ (w : Written). Means number components w s) e h.means) k.means p

  last_alike : (o : Option Place) (s s' : Statement) → ((p : Place) → after s p ≡ after s' p) → run_from o (s ∷ []) ≡ run_from o (s' ∷ [])
  last_alike None s s' h = refl
  last_alike (Some p) s s' h = ap (λ (q : Option Place). run_from q []) (h p)

  line_alike : (line : List ℕ) (names names' : List (List ℕ)) (ss ss' : List Statement) → Says number components line names ss → Says number' components line names' ss' → (o : Option Place) → run_from o ss ≡ run_from o ss'
  line_alike line names names' ss ss' (no_statement h a e) (no_statement k b f) o = ap (run_from o) (e ∙ sym f)
  line_alike line names names' ss ss' (no_statement h a e) (one_statement s k f) o = absurd (k.unskipped h)
  line_alike line names names' ss ss' (one_statement s h e) (no_statement k b f) o = absurd (h.unskipped k)
  line_alike line names names' ss ss' (one_statement s h e) (one_statement s' k f) o = ap (run_from o) e ∙ (last_alike o s s' (statements_alike line names names' s s' h k) ∙ ap (run_from o) (sym f))

  -- the lines lead to one place, whatever numbers constructors have
  pub lines_alike : (lines names names' : List (List ℕ)) (ss ss' : List Statement) → LinesSay number components lines names ss → LinesSay number' components lines names' ss' → (o : Option Place) → run_from o ss ≡ run_from o ss'
  lines_alike [] names names' ss ss' h k o = ap (run_from o) (h.1 ∙ sym k.1)
  lines_alike (line ∷ lines) names names' ss ss' (n1, n2, s1, s2, a, h, en, es) (m1, m2, t1, t2, b, k, em, et) o =
      ap (run_from o) es
      ∙ (run_append o s1 s2
      ∙ (ap (λ (q : Option Place). run_from q s2) (line_alike line n1 m1 s1 t1 a b o)
      ∙ (lines_alike lines n2 m2 s2 t2 h k (run_from o t1)
      ∙ (sym (run_append o t1 t2) ∙ ap (run_from o) (sym et)))))

-- a line that says nothing is bad
pub nothing_bad : (components before : List (List ℕ)) (line : List ℕ) → ((number : List ℕ → ℕ) (names : List (List ℕ)) (ss : List Statement) → Says number components line names ss → ⊥) → BeginCertificate components (before ++ line ∷ []) → ⊥
nothing_bad components before line h b =
    let r = say_last b.number components before line b.names b.statements b.says in
    h b.number r.names' r.last r.line_says

none_more : (more : List Statement) → run_from None more ≡ None
none_more [] = refl
none_more (x ∷ more) = refl

none_is_no_place : (o : Option Place) (p : Place) → o ≡ None → o ≡ Some p → ⊥
none_is_no_place o p e f = cc

-- so is one that isn't allowed at its place
pub place_bad : (number : List ℕ → ℕ) (components before : List (List ℕ)) (line : List ℕ) (names names' : List (List ℕ)) (ss : List Statement) (s : Statement) (p : Place) → LinesSay number components before names ss → run_from (Some at_start) ss ≡ Some p → SaysStatement number components line names' s → after s p ≡ None → BeginCertificate components (before ++ line ∷ []) → ⊥
place_bad number components before line names names' ss s p so_far leads said refused b =
    let start : Option Place = Some at_start in
    let r = say_last b.number components before line b.names b.statements b.says in
    let here : run_from start r.first ≡ Some p = lines_alike b.number number components before r.names names r.first ss r.so_far so_far start ∙ leads in
    let next : run_from (Some p) r.last ≡ None = line_alike b.number number components line r.names' names' r.last (s ∷ []) r.line_says (one_statement s said refl) (Some p) ∙ ap (λ (q : Option Place). run_from q []) refused in
    let both : run_from start (r.first ++ r.last) ≡ None = run_append start r.first r.last ∙ (ap (λ (q : Option Place). run_from q r.last) here ∙ next) in
    let all : run_from start (b.statements ++ b.more) ≡ None = run_append start b.statements b.more ∙ (ap (λ (q : Option Place). run_from q b.more) (ap (run_from start) r.joined ∙ both) ∙ none_more b.more) in
    none_is_no_place (run_from start (statements_of b.certificate)) at_end (ap (run_from start) b.begins ∙ all) (certificate_run b.certificate)

-- the table after some texts, and then others
pub texts_append : (table xs ys : List (List ℕ)) → with_texts table (xs ++ ys) ≡ with_texts (with_texts table xs) ys
texts_append table [] ys = refl
texts_append table (x ∷ xs) ys = texts_append (with_text table x) xs ys

pub none_read : (components old : List (List ℕ)) → AreRead components old [] old []
none_read components old = record { texts = []; numbered = refl; says = λ later. (refl, refl); held = tt }

-- tables that grow
pub grown_length : (table xs : List (List ℕ)) → length table ≤ length (with_texts table xs)
grown_length table [] = omega arith
grown_length table (x ∷ xs) = omega (arith, longer table x, grown_length (with_text table x) xs)

below_more : (n m : ℕ) (t : ClosedType) → n ≤ m → HasNamesBelow n t → HasNamesBelow m t
below_more n m types.omega l h = tt
below_more n m (types.constructor c s) l h = (omega (arith, h.0, l), below_more n m s l h.1)
below_more n m (types.product s t) l h = (below_more n m s l h.0, below_more n m t l h.1)
below_more n m (types.arrow s t) l h = (below_more n m s l h.0, below_more n m t l h.1)
below_more n m (types.meet s t) l h = (below_more n m s l h.0, below_more n m t l h.1)

held_more : (n m k : ℕ) (s : Statement) → n ≤ m → IsStatementHeld n k s → IsStatementHeld m k s
held_more n m k inhabited l h = tt
held_more n m k (row r) l h = record { goal = below_more n m r.goal l h.goal; component = h.component }
held_more n m k empty l h = tt
held_more n m k (member g) l h = below_more n m g l h
held_more n m k (block c places) l h = h
held_more n m k layer l h = tt
held_more n m k (set s) l h = tt
held_more n m k qed l h = tt

all_more : (n m k : ℕ) (ss : List Statement) → n ≤ m → AllByRecursion (IsStatementHeld n k) ss → AllByRecursion (IsStatementHeld m k) ss
all_more n m k [] l h = tt
all_more n m k (s ∷ ss) l h = (held_more n m k s l h.0, all_more n m k ss l h.1)

pub all_both : (P : Statement → Type 0) (xs ys : List Statement) → AllByRecursion P xs → AllByRecursion P ys → AllByRecursion P (xs ++ ys)
all_both P [] ys h k = k
all_both P (x ∷ xs) ys h k = (h.0, all_both P xs ys h.1 k)

pub more_read : (components old before names new : List (List ℕ)) (line : List ℕ) (ss ss' : List Statement) (texts : List (List ℕ)) → AreRead components old before names ss → new ≡ with_texts names texts → ((later : List (List ℕ)) → Says (number_of (with_texts new later)) components line texts ss') → AllByRecursion (IsStatementHeld (length new) (length components)) ss' → AreRead components old (before ++ line ∷ []) new (ss ++ ss')
more_read components old before names new line ss ss' texts r e h held =
    let Held : Statement → Type 0 = IsStatementHeld (length new) (length components) in
    let few : length names ≤ length new = omega (arith, grown_length names texts, ap length e) in
    record {
      texts = r.texts ++ texts;
      numbered = e ∙ (ap (λ (t : List (List ℕ)). with_texts t texts) r.numbered ∙ sym (texts_append old r.texts texts));
      says = λ later.
          let same : with_texts names (texts ++ later) ≡ with_texts new later = texts_append names texts later ∙ ap (λ (t : List (List ℕ)). with_texts t later) (sym e) in
          say_more (number_of (with_texts new later)) components before line r.texts texts ss ss' (subst (λ (t : List (List ℕ)). LinesSay (number_of t) components before r.texts ss) same (r.says (texts ++ later))) (h later);
      held = all_both Held ss ss' (all_more (length names) (length new) (length components) ss few r.held) held;
    }

-- a skipped line more
pub skipped_read : (components old before names new : List (List ℕ)) (line : List ℕ) (ss : List Statement) → AreRead components old before names ss → IsSkipped line → new ≡ names → AreRead components old (before ++ line ∷ []) new ss
skipped_read components old before names new line ss r h e =
    subst (λ (ts : List Statement). AreRead components old (before ++ line ∷ []) new ts) (append-nil ss) (more_read components old before names new line ss [] [] r e (λ later. no_statement h refl refl) tt)

-- a statement more
pub said_read : (components old before names new : List (List ℕ)) (line : List ℕ) (ss : List Statement) (s : Statement) (texts : List (List ℕ)) → AreRead components old before names ss → new ≡ with_texts names texts → ((later : List (List ℕ)) → SaysStatement (number_of (with_texts new later)) components line texts s) → IsStatementHeld (length new) (length components) s → AreRead components old (before ++ line ∷ []) new (ss ++ s ∷ [])
said_read components old before names new line ss s texts r e h held = more_read components old before names new line ss (s ∷ []) texts r e (λ later. one_statement s (h later) refl) (held, tt)

-- the lines begin a certificate
pub good_lines : (components old lines names : List (List ℕ)) (d : Draft) → AreRead components old lines names (said_in d) → BeginCertificate components lines
good_lines components old lines names d r =
    let b = begun d in
    record { number = number_of names; names = r.texts; statements = said_in d; says = r.says []; certificate = b.certificate; more = b.more; begins = b.begins }

-- none is `qed`
pub lacks_qed : (components old lines names : List (List ℕ)) (d : Draft) → list_any is_qed (said_in d) ≡ false → AreRead components old lines names (said_in d) → LacksQed components lines
unfolding good_lines
lacks_qed components old lines names d h r = record { good = good_lines components old lines names d r; no_qed = h }

-- they say the whole of one
pub whole_lines : (components old lines names : List (List ℕ)) (ss : List Statement) (c : Certificate) → AreRead components old lines names ss → statements_of c ≡ ss → SaysCertificate old names components lines c
whole_lines components old lines names ss c r e = record { names = r.texts; numbered = r.numbered; says = subst (λ (ts : List Statement). LinesSay (number_of names) components lines r.texts ts) (sym e) (r.says []) }

-- The line stands at this place of the lines.
pub record StandsAt (lines : List (List ℕ)) (i : ℕ) (line : List ℕ) : Type 0 where
  pub within : i < length lines
  pub is : line ≡ get_or lines i line

pub stands_at : (lines : List (List ℕ)) (i : ℕ) (line : List ℕ) → i < length lines → line ≡ slice_index_or lines i [] → StandsAt lines i line
stands_at lines i line l e = record { within = l; is = e ∙ get_or_default lines i [] line l }

pub drop_next : (lines : List (List ℕ)) (i : ℕ) (d : List ℕ) → i < length lines → drop i lines ≡ get_or lines i d ∷ drop (i + 1) lines
drop_next lines i d l = rw add-one (drop-cons lines i d l)

pub line_next : (lines : List (List ℕ)) (i : ℕ) (line : List ℕ) → StandsAt lines i line → take (i + 1) lines ≡ take i lines ++ line ∷ []
line_next lines i line at = take_next lines i line at.within ∙ ap (λ (x : List ℕ). take i lines ++ x ∷ []) (sym at.is)

-- what the table of a read that is refused keeps
kept_texts : (old table xs : List (List ℕ)) → take (length old) table ≡ old → take (length old) (with_texts table xs) ≡ old
kept_texts old table [] h = h
kept_texts old table (x ∷ xs) h = kept_texts old (with_text table x) xs (kept_more old table x h)

pub kept_front : (old new : List (List ℕ)) → HasGrown old new → take (length old) new ≡ old
kept_front old new h = ap (λ (t : List (List ℕ)). take (length old) t) h.1 ∙ kept_texts old old h.0 (kept_all old)

pub grown_on : (old names new texts : List (List ℕ)) → names ≡ with_texts old texts → HasGrown names new → HasGrown old new
grown_on old names new texts e h = (texts ++ h.0, h.1 ∙ (ap (λ (t : List (List ℕ)). with_texts t h.0) e ∙ sym (texts_append old texts h.0)))

-- the names and components of a certificate whose statements are held
module _ (n k : ℕ) where
  abbrev Held : Statement → Type 0
  Held = IsStatementHeld n k

  parts : (xs ys : List Statement) → AllByRecursion Held (xs ++ ys) → AllByRecursion Held xs × AllByRecursion Held ys
  parts [] ys h = (tt, h)
  parts (x ∷ xs) ys h = let p = parts xs ys h.1 in ((h.0, p.0), p.1)

  rows_held : (rs : List ProofRow) (rest : List Statement) → AllByRecursion Held (map (λ r. row r) rs ++ rest) → AllByRecursion (IsRowHeld n k) rs
  rows_held [] rest h = tt
  rows_held (r ∷ rs) rest h = (h.0, rows_held rs rest h.1)

  blocks_held : (bs : List Block) → AllByRecursion Held (flat_map block_statements bs) → AllByRecursion (IsBlockHeld k) bs
  blocks_held [] h = tt
  blocks_held (b ∷ bs) h = let p = parts (block_statements b) (flat_map block_statements bs) h in (p.0.0, blocks_held bs p.1)

  members_held : (ms : List Member) → AllByRecursion Held (flat_map member_statements ms) → AllByRecursion (IsMemberHeld n k) ms
  members_held [] h = tt
  members_held (m ∷ ms) h =
      let p = parts (member_statements m) (flat_map member_statements ms) h in
      (record { goal = p.0.0; blocks = blocks_held m.blocks p.0.1 }, members_held ms p.1)

  pub certificate_held : (c : Certificate) → AllByRecursion Held (statements_of c) → IsHeld n k c
  certificate_held (certificate.inhabited rows) h = rows_held rows (qed ∷ []) h.1
  certificate_held (certificate.empty members) h = members_held members (parts (flat_map member_statements members) (qed ∷ []) h.1).0
