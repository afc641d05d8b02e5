-- Changes as they are read: exactly what the words say is read, and a stop is at the first word that can't follow.
use Rattle.std.proofs.Common.{◌≡◌, ℕ, ◌-◌, Bool, List, [], ◌∷◌, refl, sym, ap, ◌∙◌, subst, rules, inl, inr, length, append_assoc, append-nil}
use Rattle.std.specs.Prelude.{Result, Ok, Err, ◌&&◌}
use Rattle.cls_base.specs.Firsts.{IsSilent}
use Rattle.cls_lexer.specs.Tokens.{tokens_of, byte_at}
use Rattle.cls_lexer.specs.Words.{Word, words_of}
use Rattle.cls_syntax.specs.Faults.{Stop, stop, Exactly, IsFault}
use Rattle.cls_syntax.specs.LineGrammars.{LineOf, row_words, RowStands, grammar_read, IsGoodGrammar}
use Rattle.cls_syntax.specs.Sorts.{begins_reserved}
use Rattle.cls_syntax.proofs.GrammarFronts.{grammar_exactly, grammar_reads}
use Rattle.cls_syntax.proofs.TypeFaults.{stops_at}
use Rattle.cls_query.specs.declared.change.Change.TheVariants.{Add, Remove}
use Rattle.cls_query.specs.Changes.{ChangeText, change_rows, row_of, WordsSay}
use Rattle.cls_query.specs.ChangeErrors.{leaves_changes}
use Rattle.cls_query.specs.QueryErrors.{place_words}

changes_good : IsGoodGrammar change_rows
changes_good = search rules

-- what a line of the table says
abbrev change_at : LineOf change_rows → ChangeText
change_at (inl v) = Add v.0 v.1.0
change_at (inr (inl v)) = Remove v.0
change_at (inr (inr v)) = absurd v

back : (said : ChangeText) → change_at (row_of said) ≡ said
back (Add x t) = refl
back (Remove x) = refl

abbrev said_or : ChangeText → Result (LineOf change_rows) Stop → ChangeText
said_or d (Ok v) = change_at v
said_or d (Err e) = d

module _ (ws : List Word) where
  -- the words say what was read
  pub read_says : (said : ChangeText) → grammar_read change_rows ws ≡ Ok (row_of said) → WordsSay said ws
  read_says said e = subst (λ (r : Result (LineOf change_rows) Stop). Exactly (row_words change_rows) (RowStands change_rows) ws r) e (grammar_exactly change_rows changes_good ws)

  -- what the words say is read
  pub said_reads : (said : ChangeText) → WordsSay said ws → grammar_read change_rows ws ≡ Ok (row_of said)
  said_reads said s = subst (λ (us : List Word). grammar_read change_rows us ≡ Ok (row_of said)) s.spelled (grammar_reads change_rows changes_good (row_of said) s.stands)

  -- they say one thing alone
  pub said_one : (a b : ChangeText) → WordsSay a ws → WordsSay b ws → a ≡ b
  said_one a b p q = sym (back a) ∙ (ap (λ (r : Result (LineOf change_rows) Stop). said_or a r) (sym (said_reads a p) ∙ said_reads b q) ∙ back b)

  -- words that say something leave the table nowhere
  no_fault : (said : ChangeText) → WordsSay said ws → (rest : List Word) (b : Bool) → IsFault (row_words change_rows) (RowStands change_rows) ws rest b → ⊥
  no_fault said s [] b f = f.refused (row_of said) s.stands (s.spelled ∙ (f.split ∙ append-nil f.front))
  no_fault said s (w ∷ rest) b f = f.refused (record { line = row_of said; stands = s.stands; more = rest; begins = s.spelled ∙ (f.split ∙ sym (append_assoc f.front (w ∷ []) rest)) })

  -- a stop is at the place where they leave it
  pub stop_leaves : (rest : List Word) (b : Bool) → grammar_read change_rows ws ≡ Err (stop rest b) → IsFault (row_words change_rows) (RowStands change_rows) ws rest b
  stop_leaves rest b e = subst (λ (r : Result (LineOf change_rows) Stop). Exactly (row_words change_rows) (RowStands change_rows) ws r) e (grammar_exactly change_rows changes_good ws)

-- a line that says something leaves the table nowhere
pub stays : (line : List ℕ) (said : ChangeText) → WordsSay said (words_of line) → IsSilent (leaves_changes line)
stays line said s t h = no_fault (words_of line) said s h.2.rest h.2.wants_name h.2.fault

-- where the reading of a line stopped
pub stopped : (line : List ℕ) (rest : List Word) (b : Bool) → grammar_read change_rows (words_of line) ≡ Err (stop rest b)
    → leaves_changes line (place_words (b && begins_reserved rest) (byte_at line (length (tokens_of line) - length rest)))
stopped line rest b e = (
  byte_at line (length (tokens_of line) - length rest),
  b && begins_reserved rest,
  stops_at (row_words change_rows) (RowStands change_rows) line rest b (stop_leaves (words_of line) rest b e),
  refl,
)
