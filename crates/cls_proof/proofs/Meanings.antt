-- What a line means, and why one means nothing.
use Rattle.std.proofs.Common.{◌≡◌, ℕ, ◌<◌, ◌≤◌, ◌^◌, List, [], ◌∷◌, ◌++◌, length, map, refl, ap, sym, ◌∙◌, subst, arith, Some}
use Rattle.std.specs.Prelude.{Result, Ok, Err, codes, Contains, is_ok, slice_get}
use Rattle.std.specs.List.{list_any}
use Rattle.std.proofs.lemmas.Bool.{or_parts}
use Rattle.std.proofs.lemmas.List.{map-append}
use Rattle.cls_base.proofs.Lists.{Contains-at}
use Rattle.cls_base.specs.Types.{ClosedType, spread}
use Rattle.cls_base.specs.Measures.{capped}
use Rattle.cls_lexer.specs.Names.{number_of, with_texts}
use Rattle.cls_lexer.specs.Numerals.{number_value}
use Rattle.cls_lexer.specs.Skipped.{IsText, IsSkipped}
use Rattle.cls_lexer.specs.Words.{Word, name, sign, words_of}
use Rattle.cls_syntax.specs.ClosedTypes.{HasNoDollar, Spells}
use Rattle.cls_syntax.specs.Faults.{Stop}
use Rattle.cls_lexer.specs.declared.token.TokenKind.TheVariants.{Colon}
use Rattle.cls_syntax.specs.declared.role.Role.TheVariants.{Component}
use Rattle.cls_syntax.specs.Forms.{Part, fixed, naming, numeral, part_word, type_parts}
use Rattle.cls_syntax.specs.LineGrammars.{row_words, grammar_read}
use Rattle.cls_syntax.specs.SyntaxFaults.{IsFlat}
use Rattle.cls_syntax.specs.TypePrinting.{HasNamesBelow}
use Rattle.cls_syntax.specs.TypeSchemas.{is_dollar}
use Rattle.cls_syntax.specs.TypeTexts.{TypeText, type_words, type_nodes}
use Rattle.cls_syntax.proofs.LineParts.{type_same}
use Rattle.cls_proof.specs.Forms.{greatest_number, certificate_rows, Written, line_of, goal_words, constructors_of}
use Rattle.cls_proof.specs.Forms as written
use Rattle.cls_proof.specs.Statements.{Statement}
use Rattle.cls_proof.specs.Reading.{IsNumber, IsGoal, Means, SaysStatement, Says, no_statement, one_statement}
use Rattle.cls_proof.specs.Said.{IsMeant, IsMeaningless}
use Rattle.cls_proof.proofs.GoalTexts.{one_spread, later_spells}
use Rattle.cls_proof.proofs.SaidLines.{said_reads, read_says, written_one}

-- the parts of words without a dollar
front_closed : (xs ys : List Word) → HasNoDollar (xs ++ ys) → HasNoDollar xs
front_closed [] ys h = refl
front_closed (x ∷ xs) ys h =
    let p = or_parts (is_dollar x) (list_any is_dollar (xs ++ ys)) h in
    let a = p.0 in
    let b = front_closed xs ys p.1 in
    rw (a, b) refl

type_closed : (t : TypeText) (ps : List Part) → HasNoDollar (map part_word (type_parts t ++ ps)) → HasNoDollar (type_words t)
type_closed t ps h =
    front_closed (type_words t) (map part_word ps)
    (subst (λ (ws : List Word). HasNoDollar ws) (map-append part_word (type_parts t) ps ∙ ap (λ (ws : List Word). ws ++ map part_word ps) (type_same t)) h)

pub words_closed : (w : Written) → HasNoDollar (row_words certificate_rows (line_of w)) → HasNoDollar (goal_words w)
words_closed written.inhabited h = refl
words_closed (written.row t x d ds) h = type_closed t (fixed (name (codes "by")) ∷ naming Component x ∷ numeral 0 greatest_number d ∷ fixed (sign Colon) ∷ map (numeral 0 greatest_number) ds) h
words_closed written.empty h = refl
words_closed (written.member t) h = type_closed t [] h
words_closed (written.block x d) h = refl
words_closed written.layer h = refl
words_closed (written.set ds) h = refl
words_closed written.qed h = refl

-- no variable stands in the type of a line that is read
pub goal_closed : (ws : List Word) (w : Written) → grammar_read certificate_rows ws ≡ Ok (line_of w) → HasNoDollar ws → HasNoDollar (goal_words w)
goal_closed ws w e h = words_closed w (subst (λ (us : List Word). HasNoDollar us) (sym (read_says ws (line_of w) e).spelled) h)

-- a name that isn't there is that of no component
pub no_component : (components : List (List ℕ)) (x : List ℕ) (k : ℕ) → (Contains components x → ⊥) → slice_get components k ≡ Some x → ⊥
no_component components x k h e = h (Contains-at components k x e)

pub no_number : (digits : List ℕ) (n : ℕ) → (number_value digits < 2 ^ 32 → ⊥) → IsNumber digits n → ⊥
no_number digits n over (value, within) = over (omega (arith, value, within))

-- a goal whose spread is over the limit
pub too_wide : (c c' : List ℕ → ℕ) (text : TypeText) (s t : ClosedType) → Spells c text s → 16384 < capped (spread s) → IsGoal c' text t → ⊥
too_wide c c' text s t spells wide g =
    let e = one_spread c c' text s t spells g.spells in
    let narrow = g.narrow in
    omega (arith, e, narrow, wide)

pub narrow_enough : (s : ClosedType) → capped (spread s) ≤ 16384 → spread s ≤ 16384
narrow_enough s h = omega (arith, h)

-- a goal that is read
pub goal_is : (texts later : List (List ℕ)) (text : TypeText) (t : ClosedType) → HasNamesBelow (length texts) t → Spells (number_of texts) text t → type_nodes text ≤ 1024 → spread t ≤ 16384 → IsGoal (number_of (with_texts texts later)) text t
goal_is texts later text t below spells few narrow = record { spells = later_spells texts later text t below spells; few = few; narrow = narrow }

module _ (components : List (List ℕ)) (line : List ℕ) (unskipped : IsSkipped line → ⊥) where
  -- what says something is no skipped line
  statement_in : (P : Type 0) (number : List ℕ → ℕ) (names : List (List ℕ)) (ss : List Statement) → Says number components line names ss → ((s : Statement) → SaysStatement number components line names s → P) → P
  statement_in P number names ss (no_statement h a e) f = absurd (unskipped h)
  statement_in P number names ss (one_statement s h e) f = f s h

  abbrev pub SaysNothing : Type 0
  SaysNothing = (number : List ℕ → ℕ) (names : List (List ℕ)) (ss : List Statement) → Says number components line names ss → ⊥

  pub deep_nothing : (IsFlat line → ⊥) → SaysNothing
  deep_nothing h = λ number names ss s. statement_in ⊥ number names ss s (λ t k. h k.flat)

  pub open_nothing : (HasNoDollar (words_of line) → ⊥) → SaysNothing
  open_nothing h = λ number names ss s. statement_in ⊥ number names ss s (λ t k. h k.closed)

  ok_is_no_err : {A E : Type 0} (r : Result A E) (a : A) (e : E) → r ≡ Ok a → r ≡ Err e → ⊥
  ok_is_no_err r a e p q = let b = ap is_ok (sym p ∙ q) in absurd (cc)

  pub stop_nothing : (s : Stop) → grammar_read certificate_rows (words_of line) ≡ Err s → SaysNothing
  stop_nothing s e = λ number names ss says. statement_in ⊥ number names ss says (λ t k. ok_is_no_err (grammar_read certificate_rows (words_of line)) (line_of k.written) s (said_reads (words_of line) (line_of k.written) k.says) e)

  pub meaning_nothing : (w : Written) → grammar_read certificate_rows (words_of line) ≡ Ok (line_of w) → IsMeaningless components w → SaysNothing
  meaning_nothing w e h = λ number names ss s. statement_in ⊥ number names ss s (λ t k.
      let one = written_one (words_of line) k.written w k.says (read_says (words_of line) (line_of w) e) in
      h number t (subst (λ (u : Written). Means number components u t) one k.means))

  -- the statement of a line that is read
  pub line_says : (old new : List (List ℕ)) (w : Written) (s : Statement) → IsText line → IsFlat line → HasNoDollar (words_of line) → grammar_read certificate_rows (words_of line) ≡ Ok (line_of w) → IsMeant components old new w s → (later : List (List ℕ)) → SaysStatement (number_of (with_texts new later)) components line (constructors_of w) s
  line_says old new w s text flat closed e m = λ later. record {
    text = text;
    unskipped = unskipped;
    flat = flat;
    closed = closed;
    written = w;
    says = read_says (words_of line) (line_of w) e;
    means = m.means later;
    named = refl;
  }

-- a line that is no text says nothing
pub text_nothing : (components : List (List ℕ)) (line : List ℕ) → (IsText line → ⊥) → (number : List ℕ → ℕ) (names : List (List ℕ)) (ss : List Statement) → Says number components line names ss → ⊥
text_nothing components line h number names ss (no_statement k a e) = h k.0
text_nothing components line h number names ss (one_statement s k e) = h k.text

pub ruleset goals = (too_wide, narrow_enough, goal_is)

pub ruleset parts = (no_component, no_number)
