-- Each line of a repository is taken, or it has a fault.
use Rattle.std.proofs.Common.{ℕ, ◌≡◌, ◌+◌, ◌-◌, ◌≤◌, ◌<◌, ◌⊎◌, inl, inr, refl, sym, ap, subst, ◌∙◌, arith, rules, List, [], ◌∷◌, length, Option, Some, None}
use Rattle.std.specs.Prelude.{Result, Ok, Err, ◌&&◌, codes, position, IsUtf8}
use Rattle.cls_base.specs.Firsts.{First, IsSilent}
use Rattle.cls_base.specs.Limits.{max_line_bytes}
use Rattle.cls_base.specs.Types.{ClosedType}
use Rattle.cls_lexer.specs.declared.token.TokenKind.TheVariants.{Bar, Equals}
use Rattle.cls_lexer.specs.Names.{number_of}
use Rattle.cls_lexer.specs.Numerals.{number_value}
use Rattle.cls_lexer.specs.Skipped.{IsSkipped}
use Rattle.cls_lexer.specs.Tokens.{tokens_of, byte_at}
use Rattle.cls_lexer.specs.Words.{Word, name, sign, words_of}
use Rattle.cls_syntax.specs.ClosedTypes.{HasNoDollar, AreSpelled}
use Rattle.cls_syntax.specs.Faults.{Stop, stop, Exactly}
use Rattle.cls_syntax.specs.Forms.{types}
use Rattle.cls_syntax.specs.LineGrammars.{LineOf, row_words, RowStands, grammar_read, IsGoodGrammar}
use Rattle.cls_syntax.specs.Sorts.{begins_reserved}
use Rattle.cls_syntax.specs.TypeLists.{types_words}
use Rattle.cls_syntax.specs.TypeSchemas.{is_dollar}
use Rattle.cls_syntax.specs.TypeTexts.{TypeList, last, more, type_words}
use Rattle.cls_syntax.proofs.Dollars.{no_dollar}
use Rattle.cls_syntax.proofs.GrammarFronts.{grammar_exactly}
use Rattle.cls_syntax.proofs.LineParts.{line_same}
use Rattle.cls_query.proofs.FirstErrors.{each_silent}
use Rattle.cls_repo.specs.Declarations.{template_text, AreChoices, with_names, with_pair, with_kind, with_component, with_template, with_cost, with_variance, with_filter, with_filter_line, Declares}
use Rattle.cls_repo.specs.Directives.{Directive, sub, kind, comp, text, end, cost, variance, filter, leaf, app, other, repository_rows, row_of, WordsSay, LineSays, is_end}
use Rattle.cls_repo.specs.Drafts.{Draft}
use Rattle.cls_repo.specs.LineFaults.{misspelled, spelling_words, kind_variable, bad_template, directive_faults, line_faults}
use Rattle.cls_repo.specs.Readings.{Reading, Takes, skipped, declares, Refuses}
use Rattle.cls_syntax.proofs.ClosedLists.{front_left, front_right}
use Rattle.cls_repo.proofs.Lines.{stopped}
use Rattle.cls_laws.specs.Possible.{IsPossible}
use Rattle.cls_laws.proofs.Classical.{surely, then, after, either_way, first_decided}
use Rattle.cls_laws.proofs.Spelling.{spelled_closed}
use Rattle.cls_laws.proofs.Templates.{IsTemplateOrNot, template_or_fault}

-- WHAT THE LINE SAYS
repository_good : IsGoodGrammar repository_rows
repository_good = search rules

row_again : (v : LineOf repository_rows) → (said : Directive) × (row_of said ≡ v)
row_again (inl v) = (sub v.0 v.1.0, refl)
row_again (inr (inl v)) = (kind v.0 v.1, refl)
row_again (inr (inr (inl v))) = (comp v.0 v.1.0, refl)
row_again (inr (inr (inr (inl v)))) = (text v.0 v.1, refl)
row_again (inr (inr (inr (inr (inl v))))) = (end, refl)
row_again (inr (inr (inr (inr (inr (inl v)))))) = (cost v.0 v.1.0, refl)
row_again (inr (inr (inr (inr (inr (inr (inl v))))))) = (variance v.0 v.1.0, refl)
row_again (inr (inr (inr (inr (inr (inr (inr (inl v)))))))) = (filter v.0 v.1.0 v.1.1, refl)
row_again (inr (inr (inr (inr (inr (inr (inr (inr (inl v))))))))) = (leaf v.0 v.1.0 v.1.1.0, refl)
row_again (inr (inr (inr (inr (inr (inr (inr (inr (inr (inl v)))))))))) = (app v.0 v.1.0 v.1.1.0 v.1.1.1.0, refl)
row_again (inr (inr (inr (inr (inr (inr (inr (inr (inr (inr (inl v))))))))))) = (other v.0 v.1.0, refl)
row_again (inr (inr (inr (inr (inr (inr (inr (inr (inr (inr (inr v))))))))))) = absurd v

module _ (line : List ℕ) (spelled : IsSilent (misspelled line)) where
  abbrev ReadAs : Result (LineOf repository_rows) Stop → Type 0
  ReadAs r = Exactly (row_words repository_rows) (RowStands repository_rows) (words_of line) r

  said_by : (r : Result (LineOf repository_rows) Stop) → grammar_read repository_rows (words_of line) ≡ r → ReadAs r → (said : Directive) × WordsSay said (words_of line)
  said_by (Ok v) e s =
      let u = row_again v in
      (u.0, subst (λ (w : LineOf repository_rows). ReadAs (Ok w)) (sym u.1) s)
  said_by (Err (stop rest b)) e s =
      let words = spelling_words (byte_at line (length (tokens_of line) - length rest)) (b && begins_reserved rest) in
      absurd (spelled words (stopped line (words_of line) rest b (length (tokens_of line)) words refl refl e refl))

  said_exists : (said : Directive) × WordsSay said (words_of line)
  said_exists = said_by (grammar_read repository_rows (words_of line)) refl (grammar_exactly repository_rows repository_good (words_of line))

-- THE TYPES OF A KIND
all_spelled : (number : List ℕ → ℕ) (ts : TypeList) → HasNoDollar (types_words Bar ts) → (cs : List ClosedType) × AreSpelled number ts cs
all_spelled number (last t) h = let s = spelled_closed number t h in (s.0 ∷ [], (s.0, s.1, refl))
all_spelled number (more t ts) h =
    let s = spelled_closed number t (front_left (type_words t) (sign Bar ∷ types_words Bar ts) h) in
    let r = all_spelled number ts (front_right (type_words t) (sign Bar ∷ types_words Bar ts) h) in
    (s.0 ∷ r.0, (s.0, r.0, s.1, r.1, refl))

module _ (line x : List ℕ) where
  no_place : (o : Option TypeList) (p : Option ℕ) → position is_dollar (words_of line) ≡ p → IsSilent (kind_variable line (kind x o)) → position is_dollar (words_of line) ≡ None
  no_place o None e silent = e
  no_place o (Some place) e silent = absurd (silent _ (place, e, refl))

  kind_closed : (ts : TypeList) → WordsSay (kind x (Some ts)) (words_of line) → position is_dollar (words_of line) ≡ None → HasNoDollar (types_words Bar ts)
  kind_closed ts says none =
      let are : words_of line ≡ name (codes "kind") ∷ name x ∷ sign Equals ∷ types_words Bar ts = sym says.spelled ∙ ap (λ (ws : List Word). name (codes "kind") ∷ name x ∷ sign Equals ∷ ws) (sym (line_same types ts)) in
      let all : HasNoDollar (name (codes "kind") ∷ name x ∷ sign Equals ∷ types_words Bar ts) = subst HasNoDollar are (no_dollar (words_of line) none) in
      all

  choices_exist : (number : List ℕ → ℕ) (o : Option TypeList) → WordsSay (kind x o) (words_of line) → IsSilent (kind_variable line (kind x o)) → (cs : List ClosedType) × AreChoices number o cs
  choices_exist number None says silent = ([], refl)
  choices_exist number (Some ts) says silent = all_spelled number ts (kind_closed ts says (no_place (Some ts) (position is_dollar (words_of line)) refl silent))

-- WHAT THE LINE DECLARES
module _ (d : Draft) (n : ℕ) (line : List ℕ) where
  abbrev HasDraft : Directive → Type 0
  HasDraft said = (new : Draft) × Declares d n line said new

  template_by : (x : List ℕ) (ws : List Word) → IsSilent (bad_template line (text x ws)) → IsTemplateOrNot (template_text line) → HasDraft (text x ws)
  template_by x ws silent (inl (pieces, is)) = (with_template d x pieces, (pieces, is, refl))
  template_by x ws silent (inr (f, is, words)) = absurd (let w = words (length line - length (template_text line)) in silent w.0 (f, is, w.1))

  draft_exists : (said : Directive) → WordsSay said (words_of line) → IsSilent (First (directive_faults d line said)) → IsPossible (HasDraft said)
  draft_exists (sub a b) says silent = surely (with_pair (with_names d (sub a b)) a b, refl)
  draft_exists (kind x o) says silent =
      let c = choices_exist line x (number_of (with_names d (kind x o)).names) o says (each_silent (directive_faults d line (kind x o)) silent).1.1.1.1.0 in
      surely (with_kind (with_names d (kind x o)) x c.0, (c.0, c.1, refl))
  draft_exists (comp x t) says silent = surely (with_component (with_names d (comp x t)) n x t, refl)
  draft_exists (text x ws) says silent =
      after (template_or_fault (template_text line)) (template_by x ws (each_silent (directive_faults d line (text x ws)) silent).1.1.1.1.1.1.0)
  draft_exists end says silent = surely (d, refl)
  draft_exists (cost x digits) says silent = surely (with_cost d x (number_value digits), refl)
  draft_exists (variance c word) says silent = surely (with_variance (with_names d (variance c word)) c word, refl)
  draft_exists (filter f q qs) says silent = surely (with_filter d (filter f q qs) f, refl)
  draft_exists (leaf f x q) says silent = surely (with_filter_line d (leaf f x q) f, refl)
  draft_exists (app f p q r) says silent = surely (with_filter_line d (app f p q r) f, refl)
  draft_exists (other f q) says silent = surely (with_filter_line d (other f q) f, refl)

-- ONE LINE
module _ (old : Reading) (line : List ℕ) where
  abbrev pub IsTakenOrNot : Type 0
  IsTakenOrNot = ((new : Reading) × Takes old line new) ⊎ ((said : ℕ × List ℕ) × Refuses old line said)

  taken_by : (said : Directive) (says : LineSays line said) → IsSilent (First (line_faults old.draft line)) → HasDraft old.draft (old.lines + 1) line said → IsTakenOrNot
  taken_by said says silent (new, d) = inl (record { draft = new; lines = old.lines + 1; ended = is_end said }, declares said says silent new d refl)

  at_most : (n : ℕ) → (max_line_bytes < n → ⊥) → n ≤ max_line_bytes
  at_most n f = omega arith

  faultless : (IsSkipped line → ⊥) → IsSilent (First (line_faults old.draft line)) → IsPossible IsTakenOrNot
  faultless unskipped silent =
      let each = each_silent (line_faults old.draft line) silent in
      let short = at_most (length line) (λ l. each.0 (codes "long") (l, refl)) in
      let s = said_exists line each.1.1.1.1.0 in
      then (λ (no : IsUtf8 line → ⊥). each.1.0 (codes "utf8") (no, refl)) (λ u.
      let says : LineSays line s.0 = record { text = (short, u); unskipped = unskipped; says = s.1 } in
      let right : IsSilent (First (directive_faults old.draft line s.0)) = λ words h. each.1.1.1.1.1.0 words (s.0, says, h) in
      after (draft_exists old.draft (old.lines + 1) line s.0 s.1 right) (taken_by s.0 says silent))

  line_by : (IsSkipped line → ⊥) → ((words : List ℕ) × First (line_faults old.draft line) words) ⊎ IsSilent (First (line_faults old.draft line)) → IsPossible IsTakenOrNot
  line_by unskipped (inl (words, f)) = surely (inr ((old.lines + 1, words), record { unskipped = unskipped; number = refl; first = f }))
  line_by unskipped (inr silent) = faultless unskipped silent

  skipped_or : IsSkipped line ⊎ (IsSkipped line → ⊥) → IsPossible IsTakenOrNot
  skipped_or (inl s) = surely (inl (record old { lines = old.lines + 1 }, skipped s refl))
  skipped_or (inr n) = then (first_decided (line_faults old.draft line)) (line_by n)

  pub taken_or_refused : IsPossible IsTakenOrNot
  taken_or_refused = then (either_way (IsSkipped line)) skipped_or
