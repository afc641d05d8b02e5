-- What a line is read as, by what its tokens are read as.
use Rattle.std.proofs.Common.{◌≡◌, ℕ, Bool, true, false, List, refl, subst}
use Rattle.std.specs.Prelude.{Result, Ok, Err, Option, Some, None, IsNone}
use Rattle.cls_lexer.specs.declared.token.Token.{Token}
use Rattle.cls_lexer.specs.Skipped.{IsText, IsSkipped}
use Rattle.cls_lexer.specs.Words.{Word, words, words_of}
use Rattle.cls_syntax.specs.ClosedTypes.{HasNoDollar}
use Rattle.cls_syntax.specs.LineGrammars.{grammar_read}
use Rattle.cls_syntax.specs.Readings.{ReadsLine}
use Rattle.cls_syntax.specs.Stops.{stop_of}
use Rattle.cls_syntax.specs.declared.stop.Stop.{Stop}
use Rattle.cls_syntax.specs.SyntaxFaults.{IsFlat}
use Rattle.cls_proof.specs.declared.reading.ReadLine.TheVariants as read
use Rattle.cls_proof.specs.declared.statement.Statement as code
use Rattle.cls_proof.specs.declared.statement_form.StatementForm.{StatementForm}
use Rattle.cls_proof.specs.Forms.{certificate_rows, line_of, constructors_of, Written}
use Rattle.cls_proof.specs.Said.{statement_of, written, IsMeant, IsReadAs}
use Rattle.cls_proof.proofs.Meanings.{SaysNothing, stop_nothing, line_says}

-- a value that is there
pub some_there : {A : Type 0} (o : Option A) (x : A) → o ≡ Some x → IsNone o → ⊥
some_there {A} None x e n = absurd (let f : ◌≡◌ {A = Option A} None (Some x) = e in cc)
some_there {A} (Some y) x e n = absurd (let f : ◌≡◌ {A = Bool} true false = n in cc)

-- the form, by the words of the line
pub read_of : (line : List ℕ) (toks : List Token) (w : Written) → words toks ≡ words_of line → grammar_read certificate_rows (words toks) ≡ Ok (line_of w) → grammar_read certificate_rows (words_of line) ≡ Ok (line_of w)
read_of line toks w e h = subst (λ (ws : List Word). grammar_read certificate_rows ws ≡ Ok (line_of w)) e h

module _ (components : List (List ℕ)) (line : List ℕ) (unskipped : IsSkipped line → ⊥) where
  -- a line of no form
  pub stopped : (toks : List Token) (r : Result StatementForm Stop) → words toks ≡ words_of line → ReadsLine certificate_rows toks r (λ form. line_of (written form)) → ((f : StatementForm) → r ≡ Ok f → ⊥) → SaysNothing components line unskipped
  stopped toks (Ok f) e h other = absurd (other f refl)
  stopped toks (Err s) e h other = stop_nothing components line unskipped (stop_of s) (subst (λ (ws : List Word). grammar_read certificate_rows ws ≡ Err (stop_of s)) e h)

  -- a line that says a statement
  pub says : (old new : List (List ℕ)) (w : Written) (s : code.Statement) → IsText line → IsFlat line → HasNoDollar (words_of line) → grammar_read certificate_rows (words_of line) ≡ Ok (line_of w) → IsMeant components old new w (statement_of s) → IsReadAs components old new line (read.Says s)
  says old new w s text flat closed e m = (constructors_of w, m.grown, line_says components line unskipped old new w (statement_of s) text flat closed e m, m.held)
