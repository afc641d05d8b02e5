-- The machine of terms reads exactly the words of terms.
use Rattle.std.proofs.Common.{◌≡◌, ℕ, true, false, List, [], ◌∷◌, ◌++◌, refl, ap, sym, ◌∙◌, append_assoc, append-nil}
use Rattle.std.specs.Prelude.{Option, Some, None}
use Rattle.cls_lexer.specs.declared.token.TokenKind.TheVariants.{Open, Close, Comma}
use Rattle.cls_lexer.specs.Words.{Word, name, sign}
use Rattle.cls_syntax.specs.TermTexts.{TermText, TermList, named, applied, last, more, term_words, terms_words}
use Rattle.cls_syntax.specs.TermReading.{Outer, whole, within, State, operand, after_name, after, with_terms, step_after, step_name, step, ended, wants_name, term_machine, start}
use Rattle.cls_syntax.proofs.MachineRuns.{run, run_then, Ends, Reads}

-- the states after a term and after the last of some terms
abbrev pub past_term : Outer → TermText → State
past_term o (named x) = after_name o x
past_term o (applied x es) = after o (applied x es)

abbrev past_terms : Outer → List ℕ → List TermText → TermList → State
past_terms o x ds (last e) = past_term (within o x ds) e
past_terms o x ds (more e es) = past_terms o x (e ∷ ds) es

term_comma : (o : Outer) (x : List ℕ) (ds : List TermText) (e : TermText) → step (past_term (within o x ds) e) (sign Comma) ≡ Some (operand (within o x (e ∷ ds)))
term_comma o x ds (named y) = refl
term_comma o x ds (applied y es) = refl

term_close : (o : Outer) (x : List ℕ) (ds : List TermText) (e : TermText) → step (past_term (within o x ds) e) (sign Close) ≡ Some (after o (applied x (with_terms ds (last e))))
term_close o x ds (named y) = refl
term_close o x ds (applied y es) = refl

terms_close : (o : Outer) (x : List ℕ) (ds : List TermText) (es : TermList) → step (past_terms o x ds es) (sign Close) ≡ Some (after o (applied x (with_terms ds es)))
terms_close o x ds (last e) = term_close o x ds e
terms_close o x ds (more e es) = terms_close o x (e ∷ ds) es

mutual
  term_run : (e : TermText) (o : Outer) → run term_machine (operand o) (term_words e) ≡ Some (past_term o e)
  term_run (named x) o = refl
  term_run (applied x es) o = run_then term_machine (terms_words es) [] (sign Close) _ _ _ (terms_run es o x []) (terms_close o x [] es)

  terms_run : (es : TermList) (o : Outer) (x : List ℕ) (ds : List TermText) → run term_machine (operand (within o x ds)) (terms_words es) ≡ Some (past_terms o x ds es)
  terms_run (last e) o x ds = term_run e (within o x ds)
  terms_run (more e es) o x ds = run_then term_machine (term_words e) (terms_words es) (sign Comma) _ _ _ (term_run e (within o x ds)) (term_comma o x ds e) ∙ terms_run es o x (e ∷ ds)

term_ends : (e : TermText) → ended (past_term whole e) ≡ Some e
term_ends (named x) = refl
term_ends (applied x es) = refl

-- what was read up to a state, as words
abbrev terms_left : List TermText → List Word
terms_left [] = []
terms_left (d ∷ ds) = terms_left ds ++ (term_words d ++ sign Comma ∷ [])

abbrev outer_left : Outer → List Word
outer_left whole = []
outer_left (within o x ds) = outer_left o ++ (name x ∷ sign Open ∷ terms_left ds)

abbrev state_words : State → List Word
state_words (operand o) = outer_left o
state_words (after_name o x) = outer_left o ++ name x ∷ []
state_words (after o e) = outer_left o ++ term_words e

terms_is : (ds : List TermText) (es : TermList) → terms_words (with_terms ds es) ≡ terms_left ds ++ terms_words es
terms_is [] es = refl
terms_is (d ∷ ds) es = terms_is ds (more d es) ∙ simp append_assoc

abbrev Adds : Option State → List Word → Type 0
Adds None ws = Unit {0}
Adds (Some s) ws = state_words s ≡ ws

adds_after : (o : Outer) (e : TermText) (w : Word) → Adds (step_after o e w) (state_words (after o e) ++ w ∷ [])
adds_after (within o x ds) e (sign Comma) = simp append_assoc
adds_after (within o x ds) e (sign Close) = ap (λ ws. outer_left o ++ (name x ∷ sign Open ∷ (ws ++ sign Close ∷ []))) (terms_is ds (last e)) ∙ simp append_assoc
adds_after o e _ = tt

adds_name : (o : Outer) (x : List ℕ) (w : Word) → Adds (step_name o x w) (state_words (after_name o x) ++ w ∷ [])
adds_name o x (sign Open) = simp append_assoc
adds_name o x w = adds_after o (named x) w

adds : (s : State) (w : Word) → Adds (step s w) (state_words s ++ w ∷ [])
adds (operand o) (name x) = refl
adds (operand o) _ = tt
adds (after_name o x) w = adds_name o x w
adds (after o e) w = adds_after o e w

run_adds : (ws : List Word) (s s' : State) → run term_machine s ws ≡ Some s' → state_words s' ≡ state_words s ++ ws
run_adds [] s s' h = let e : s ≡ s' = cc in rw (← e, append-nil) refl
run_adds (w ∷ ws) s s' h =
    (elim (step s w) as (λ o. Adds o (state_words s ++ w ∷ []) → (elim o [ None ↦ None | Some t ↦ run term_machine t ws ]) ≡ Some s' → state_words s' ≡ state_words s ++ w ∷ ws)
    [ None ↦ λ a k. cc | Some t ↦ λ a k. run_adds ws t s' k ∙ ap (λ vs. vs ++ ws) a ∙ append_assoc (state_words s) (w ∷ []) ws ]) (adds s w) h

ended_is : (s : State) (e : TermText) → ended s ≡ Some e → state_words s ≡ term_words e
ended_is (after whole d) e h = let same : d ≡ e = cc in ap term_words same
ended_is (after_name whole x) e h = let same : named x ≡ e = cc in ap term_words same
ended_is _ e h = cc

sound : (ws : List Word) (s : State) (e : TermText) → run term_machine start ws ≡ Some s → ended s ≡ Some e → term_words e ≡ ws
sound ws s e h is = sym (ended_is s e is) ∙ run_adds ws start s h

-- from each state some words lead to the end of a term
abbrev closes : Outer → List Word
closes whole = []
closes (within o x ds) = sign Close ∷ closes o

abbrev EndsBy : State → List Word → Type 0
EndsBy s ws = (past : State) × (e : TermText) × (run term_machine s ws ≡ Some past) × (ended past ≡ Some e)

after_ends : (o : Outer) (e : TermText) → EndsBy (after o e) (closes o)
after_ends whole e = (after whole e, e, refl, refl)
after_ends (within o x ds) e = let r = after_ends o (applied x (with_terms ds (last e))) in (r.0, r.1, r.2, r.3)

name_ends : (o : Outer) (x : List ℕ) → EndsBy (after_name o x) (closes o)
name_ends whole x = (after_name whole x, named x, refl, refl)
name_ends (within o y ds) x = let r = after_ends o (applied y (with_terms ds (last (named x)))) in (r.0, r.1, r.2, r.3)

abbrev completion : State → List Word
completion (operand o) = name [] ∷ closes o
completion (after_name o x) = closes o
completion (after o e) = closes o

ends_by : (s : State) → EndsBy s (completion s)
ends_by (operand o) = name_ends o []
ends_by (after_name o x) = name_ends o x
ends_by (after o e) = after_ends o e

goes : (s : State) → Ends term_machine s
goes s = let r = ends_by s in record { words = completion s; last = r.0; value = r.1; runs = r.2; ended = r.3 }

names : (s : State) (x : List ℕ) → wants_name s ≡ true → (t : State) × (step s (name x) ≡ Some t)
names (operand o) x h = (after_name o x, refl)
names (after_name o y) x h = cc
names (after o e) x h = cc

no_names : (s : State) (x : List ℕ) → wants_name s ≡ false → step s (name x) ≡ None
no_names (operand o) x h = cc
no_names (after_name whole y) x h = refl
no_names (after_name (within o z ds) y) x h = refl
no_names (after whole e) x h = refl
no_names (after (within o z ds) e) x h = refl

term_name : (e : TermText) → wants_name (past_term whole e) ≡ false
term_name (named x) = refl
term_name (applied x es) = refl

abbrev pub past : TermText → State
past e = past_term whole e

pub term_reads : Reads term_machine start term_words past
term_reads = record {
  runs = λ e. term_run e whole;
  ends = term_ends;
  sound = sound;
  goes = goes;
  names = names;
  no_names = no_names;
  past_name = term_name;
}
