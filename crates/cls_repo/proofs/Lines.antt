-- What the words of a line say, and that nothing else is said of them.
use Rattle.std.proofs.Common.{◌≡◌, ℕ, ◌-◌, Bool, List, [], ◌∷◌, refl, sym, ap, ◌∙◌, subst, rules, inl, inr, length, append_assoc, append-nil}
use Rattle.std.specs.Prelude.{Result, Ok, Err, ◌&&◌}
use Rattle.cls_lexer.specs.Tokens.{tokens_of, byte_at}
use Rattle.cls_lexer.specs.Words.{Word, words_of}
use Rattle.cls_syntax.specs.Faults.{Stop, stop, Exactly, IsFault}
use Rattle.cls_syntax.specs.LineGrammars.{LineOf, row_words, RowStands, grammar_read, IsGoodGrammar}
use Rattle.cls_syntax.specs.Sorts.{begins_reserved}
use Rattle.cls_syntax.specs.SyntaxFaults.{LeavesAt}
use Rattle.cls_syntax.proofs.GrammarFronts.{grammar_exactly, grammar_reads}
use Rattle.cls_syntax.proofs.TypeFaults.{stops_at}
use Rattle.cls_repo.specs.Directives.{Directive, sub, kind, comp, text, end, cost, variance, filter, leaf, app, other, repository_rows, row_of, WordsSay}
use Rattle.cls_repo.specs.LineFaults.{misspelled, spelling_words}

repository_good : IsGoodGrammar repository_rows
repository_good = search rules

-- what a line of the table says
abbrev directive_in : LineOf repository_rows → Directive
directive_in (inl v) = sub v.0 v.1.0
directive_in (inr (inl v)) = kind v.0 v.1
directive_in (inr (inr (inl v))) = comp v.0 v.1.0
directive_in (inr (inr (inr (inl v)))) = text v.0 v.1
directive_in (inr (inr (inr (inr (inl v))))) = end
directive_in (inr (inr (inr (inr (inr (inl v)))))) = cost v.0 v.1.0
directive_in (inr (inr (inr (inr (inr (inr (inl v))))))) = variance v.0 v.1.0
directive_in (inr (inr (inr (inr (inr (inr (inr (inl v)))))))) = filter v.0 v.1.0 v.1.1
directive_in (inr (inr (inr (inr (inr (inr (inr (inr (inl v))))))))) = leaf v.0 v.1.0 v.1.1.0
directive_in (inr (inr (inr (inr (inr (inr (inr (inr (inr (inl v)))))))))) = app v.0 v.1.0 v.1.1.0 v.1.1.1.0
directive_in (inr (inr (inr (inr (inr (inr (inr (inr (inr (inr (inl v))))))))))) = other v.0 v.1.0
directive_in (inr (inr (inr (inr (inr (inr (inr (inr (inr (inr (inr v))))))))))) = absurd v

back : (said : Directive) → directive_in (row_of said) ≡ said
back (sub a b) = refl
back (kind x ts) = refl
back (comp x t) = refl
back (text x ws) = refl
back end = refl
back (cost x ds) = refl
back (variance c w) = refl
back (filter f q qs) = refl
back (leaf f x q) = refl
back (app f p q r) = refl
back (other f q) = refl

abbrev said_or : Directive → Result (LineOf repository_rows) Stop → Directive
said_or d (Ok v) = directive_in v
said_or d (Err e) = d

module _ (ws : List Word) where
  -- the words say what was read
  pub read_says : (said : Directive) → grammar_read repository_rows ws ≡ Ok (row_of said) → WordsSay said ws
  read_says said e = subst (λ (r : Result (LineOf repository_rows) Stop). Exactly (row_words repository_rows) (RowStands repository_rows) ws r) e (grammar_exactly repository_rows repository_good ws)

  -- what the words say is read
  said_reads : (said : Directive) → WordsSay said ws → grammar_read repository_rows ws ≡ Ok (row_of said)
  said_reads said s = subst (λ (us : List Word). grammar_read repository_rows us ≡ Ok (row_of said)) s.spelled (grammar_reads repository_rows repository_good (row_of said) s.stands)

  -- they say one thing alone
  pub said_one : (a b : Directive) → WordsSay a ws → WordsSay b ws → a ≡ b
  said_one a b p q = sym (back a) ∙ (ap (λ (r : Result (LineOf repository_rows) Stop). said_or a r) (sym (said_reads a p) ∙ said_reads b q) ∙ back b)

  -- words that say something leave the table nowhere
  pub no_fault : (said : Directive) → WordsSay said ws → (rest : List Word) (b : Bool) → IsFault (row_words repository_rows) (RowStands repository_rows) ws rest b → ⊥
  no_fault said s [] b f = f.refused (row_of said) s.stands (s.spelled ∙ (f.split ∙ append-nil f.front))
  no_fault said s (w ∷ rest) b f = f.refused (record { line = row_of said; stands = s.stands; more = rest; begins = s.spelled ∙ (f.split ∙ sym (append_assoc f.front (w ∷ []) rest)) })

-- a line that says something isn't misspelled
pub not_misspelled : (line : List ℕ) (said : Directive) → WordsSay said (words_of line) → (words : List ℕ) → misspelled line words → ⊥
not_misspelled line said s words m = no_fault (words_of line) said s m.2.rest m.2.wants_name m.2.fault

-- where the reading of a line stopped
pub stopped : (line : List ℕ) (ws rest : List Word) (b : Bool) (count : ℕ) (words : List ℕ) → ws ≡ words_of line → count ≡ length (tokens_of line) → grammar_read repository_rows ws ≡ Err (stop rest b)
    → words ≡ spelling_words (byte_at line (count - length rest)) (b && begins_reserved rest) → misspelled line words
stopped line ws rest b count words is e h said =
    let f : IsFault (row_words repository_rows) (RowStands repository_rows) (words_of line) rest b =
    subst (λ (r : Result (LineOf repository_rows) Stop). Exactly (row_words repository_rows) (RowStands repository_rows) (words_of line) r) (ap (grammar_read repository_rows) (sym is) ∙ h) (grammar_exactly repository_rows repository_good (words_of line)) in
    let at = stops_at (row_words repository_rows) (RowStands repository_rows) line rest b f in
    (byte_at line (count - length rest), b && begins_reserved rest, subst (λ n. LeavesAt (row_words repository_rows) (RowStands repository_rows) line (byte_at line (n - length rest)) (b && begins_reserved rest)) (sym e) at, said)
