use Rattle.std.proofs.Common.{◌≡◌, List, sym, ap, ◌∙◌, subst, rules}
use Rattle.std.specs.Prelude.{Result}
use Rattle.cls_lexer.specs.Words.{Word, words}
use Rattle.cls_syntax.specs.Faults.{Stop}
use Rattle.cls_syntax.specs.Forms.{Values}
use Rattle.cls_syntax.specs.LineReading.{line_read}
use Rattle.cls_query.specs.declared.word.QueryWord.{QueryWord}
use Rattle.cls_query.specs.QueryForms.{form_of}
use Rattle.cls_query.specs.QueryReading.{said_of, query_after, Gives}
use Rattle.cls_query.proofs.CodeForms.{page_read, filtered_read}
use Rattle.cls_query.proofs.form.query_after.Goals as goal

-- what follows this word is read by its form
by_form : (word : QueryWord) {k : QueryWord} (ws : List Word) {r : Result (Values (form_of k)) Stop} → word ≡ k → line_read (form_of k) ws ≡ r → query_after word ws ≡ said_of k r
by_form word {k = k} ws e f = ap (λ (w : QueryWord). query_after w ws) e ∙ ap (said_of k) f

pub returns-in_err-lower-in-Sub : goal.returns-in_err-lower-in-Sub
returns-in_err-lower-in-Sub c =
    subst (λ (w : QueryWord). Gives (query_after w (words c.args.tokens.now)) c.from_residual.result) (sym c.in-Sub.is) (search rules)

pub returns-in_err-name-in-Paths : goal.returns-in_err-name-in-Paths
returns-in_err-name-in-Paths c =
    subst (λ (w : QueryWord). Gives (query_after w (words c.args.tokens.now)) c.from_residual-in_err-name-in-Paths.result) (sym c.in-Paths.is) (search rules)

pub returns-in_err-term-in-Typed : goal.returns-in_err-term-in-Typed
returns-in_err-term-in-Typed c =
    subst (λ (w : QueryWord). Gives (query_after w (words c.args.tokens.now)) c.from_residual-in_err-term-in-Typed.result) (sym c.in-Typed.is) (search rules)

pub returns-in_err-filter-in-Filtered : goal.returns-in_err-filter-in-Filtered
returns-in_err-filter-in-Filtered c =
    subst (λ (w : QueryWord). Gives (query_after w (words c.args.tokens.now)) c.from_residual-in_err-filter-in-Filtered.result) (sym c.in-Filtered.is) (search rules)

pub returns-in_err-types-in-Batch : goal.returns-in_err-types-in-Batch
returns-in_err-types-in-Batch c =
    subst (λ (w : QueryWord). Gives (query_after w (words c.args.tokens.now)) c.from_residual-in_err-types-in-Batch.result) (sym c.in-Batch.is) (search rules)

pub returns-in_err-goal-in-About : goal.returns-in_err-goal-in-About
returns-in_err-goal-in-About c =
    subst (λ (w : QueryWord). Gives (query_after w (words c.args.tokens.now)) c.from_residual-in_err-goal-in-About.result) (sym c.in-About.is) (search rules)

pub returns-in_err-page-in-Page : goal.returns-in_err-page-in-Page
returns-in_err-page-in-Page c =
    subst (λ (w : QueryWord). Gives (query_after w (words c.args.tokens.now)) c.from_residual-in_err-page-in-Page.result) (sym c.in-Page.is) (search rules)

pub returns-in_ok-lower-in-Sub : goal.returns-in_ok-lower-in-Sub
returns-in_ok-lower-in-Sub c = by_form c.args.word (words c.args.tokens.now) c.in-Sub.is c.in_ok-lower-in-Sub.ensures

pub returns-in_ok-name-in-Paths : goal.returns-in_ok-name-in-Paths
returns-in_ok-name-in-Paths c = by_form c.args.word (words c.args.tokens.now) c.in-Paths.is c.in_ok-name-in-Paths.ensures

pub returns-in_ok-term-in-Typed : goal.returns-in_ok-term-in-Typed
returns-in_ok-term-in-Typed c = by_form c.args.word (words c.args.tokens.now) c.in-Typed.is c.in_ok-term-in-Typed.ensures

pub returns-in_ok-filter-in-Filtered : goal.returns-in_ok-filter-in-Filtered
returns-in_ok-filter-in-Filtered c =
    let ws = words c.args.tokens.now in
    ap (λ (w : QueryWord). query_after w ws) c.in-Filtered.is ∙ filtered_read c.in_ok-filter-in-Filtered.filter c.in_ok-filter-in-Filtered.page ws c.in_ok-filter-in-Filtered.ensures

pub returns-in_ok-types-in-Batch : goal.returns-in_ok-types-in-Batch
returns-in_ok-types-in-Batch c = by_form c.args.word (words c.args.tokens.now) c.in-Batch.is c.in_ok-types-in-Batch.ensures

pub returns-in_ok-goal-in-About : goal.returns-in_ok-goal-in-About
returns-in_ok-goal-in-About c = by_form c.args.word (words c.args.tokens.now) c.in-About.is c.in_ok-goal-in-About.ensures

pub returns-in_ok-page-in-Page : goal.returns-in_ok-page-in-Page
returns-in_ok-page-in-Page c =
    let ws = words c.args.tokens.now in
    ap (λ (w : QueryWord). query_after w ws) c.in-Page.is ∙ page_read c.in-Page.asks c.in_ok-page-in-Page.page ws c.in_ok-page-in-Page.ensures
