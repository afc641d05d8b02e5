use Rattle.std.proofs.Common.{◌≡◌, ◌∙◌, List, refl, ap, sym, subst, arith}
use Rattle.std.proofs.lemmas.Option.{MatchOption-at_none, MatchOption-at_some}
use Rattle.cls_lexer.specs.Words.{Word, words, words_of}
use Rattle.cls_syntax.specs.ClosedTypes.{HasNoDollar}
use Rattle.cls_syntax.specs.Depths.{most_open}
use Rattle.cls_syntax.specs.SyntaxFaults.{IsFlat}
use Rattle.cls_syntax.proofs.Openings.{is_flat}
use Rattle.cls_proof.specs.Said.{statement_of, written, IsMeant, IsMeaningless}
use Rattle.cls_proof.proofs.LineMeanings.{dollar_absent, dollar_found}
use Rattle.cls_proof.proofs.LineReadings.{some_there, read_of, stopped, says}
use Rattle.cls_proof.proofs.Meanings.{goal_closed, text_nothing, deep_nothing, open_nothing, meaning_nothing}
use Rattle.cls_proof.proofs.reading.read_line.Goals as goal

pub returns-in-Err-clause-read : goal.returns-in-Err-clause-read
returns-in-Err-clause-read c =
    text_nothing c.args.components.now c.args.line.now (λ t. let e = c.in-Err.ensures.ok.1 t in absurd (cc))

pub returns-then-is_too_deep-clause-read : goal.returns-then-is_too_deep-clause-read
returns-then-is_too_deep-clause-read c =
    let line = c.args.line.now in
    let ok = c.in-Ok-Some.ensures in
    let said : words c.as_slice-tokens.result.now ≡ words_of line = ap words c.as_slice-tokens.ensures.value ∙ c.in_ok-list.ensures.words in
    let most = ap (most_open 0 0) said in
    let many = c.is_too_deep.ensures.0 c.if-is_too_deep.true in
    deep_nothing c.args.components.now line (λ s. some_there c.in-Ok-Some.field-0 c.in-Ok-Some.field-0-0 c.in-Ok-Some.field-0-is (ok.skipped.1 s)) (λ (flat : IsFlat line). omega (arith, most, many, flat))

pub returns-then-is_some-clause-read : goal.returns-then-is_some-clause-read
returns-then-is_some-clause-read c =
    let line = c.args.line.now in
    let ok = c.in-Ok-Some.ensures in
    let said : words c.as_slice-tokens.result.now ≡ words_of line = ap words c.as_slice-tokens.ensures.value ∙ c.in_ok-list.ensures.words in
    open_nothing c.args.components.now line (λ s. some_there c.in-Ok-Some.field-0 c.in-Ok-Some.field-0-0 c.in-Ok-Some.field-0-is (ok.skipped.1 s))
    (λ closed. dollar_found c.first_variable.result (words c.as_slice-tokens.result.now) c.first_variable.ensures (sym c.is_some.ensures ∙ c.if-is_some.true) (subst (λ (ws : List Word). HasNoDollar ws) (sym said) closed))

pub returns-in_default-clause-read : goal.returns-in_default-clause-read
returns-in_default-clause-read c =
    let line = c.args.line.now in
    let ok = c.in-Ok-Some.ensures in
    let said : words c.as_slice-tokens.result.now ≡ words_of line = ap words c.as_slice-tokens.ensures.value ∙ c.in_ok-list.ensures.words in
    stopped c.args.components.now line (λ s. some_there c.in-Ok-Some.field-0 c.in-Ok-Some.field-0-0 c.in-Ok-Some.field-0-is (ok.skipped.1 s)) c.as_slice-tokens.result.now c.statement_form.result said c.statement_form.ensures c.in_default.not-Ok

pub statement-requires : goal.statement-requires
statement-requires c =
    let line = c.args.line.now in
    let said : words c.as_slice-tokens.result.now ≡ words_of line = ap words c.as_slice-tokens.ensures.value ∙ c.in_ok-list.ensures.words in
    let closed : HasNoDollar (words_of line) = subst (λ (ws : List Word). HasNoDollar ws) said (dollar_absent c.first_variable.result (words c.as_slice-tokens.result.now) c.first_variable.ensures (sym c.is_some.ensures ∙ c.if-is_some.false)) in
    let w = written c.in-Ok.form in
    let e = read_of line c.as_slice-tokens.result.now w said c.in-Ok.ensures in
    goal_closed (words_of line) w e closed

pub returns-in-Some-clause-read : goal.returns-in-Some-clause-read
returns-in-Some-clause-read c =
    let line = c.args.line.now in
    let ok = c.in-Ok-Some.ensures in
    let said : words c.as_slice-tokens.result.now ≡ words_of line = ap words c.as_slice-tokens.ensures.value ∙ c.in_ok-list.ensures.words in
    let flat : IsFlat line = is_flat c.is_too_deep.result (words c.as_slice-tokens.result.now) (words_of line) c.is_too_deep.ensures said c.if-is_too_deep.false in
    let closed : HasNoDollar (words_of line) = subst (λ (ws : List Word). HasNoDollar ws) said (dollar_absent c.first_variable.result (words c.as_slice-tokens.result.now) c.first_variable.ensures (sym c.is_some.ensures ∙ c.if-is_some.false)) in
    let w = written c.in-Ok.form in
    let e = read_of line c.as_slice-tokens.result.now w said c.in-Ok.ensures in
    let meant = MatchOption-at_some _ (λ s. IsMeant c.args.components.now c.args.names.now c.statement.new.names w (statement_of s)) c.in-Some.statement c.in-Some.is c.in_ok-statement.ensures.meant in
    says c.args.components.now line (λ s. some_there c.in-Ok-Some.field-0 c.in-Ok-Some.field-0-0 c.in-Ok-Some.field-0-is (ok.skipped.1 s)) c.args.names.now c.statement.new.names w c.in-Some.statement (ok.ok.0 refl) flat closed e meant

pub returns-clause-read : goal.returns-clause-read
returns-clause-read c =
    let line = c.args.line.now in
    let ok = c.in-Ok-Some.ensures in
    let said : words c.as_slice-tokens.result.now ≡ words_of line = ap words c.as_slice-tokens.ensures.value ∙ c.in_ok-list.ensures.words in
    let w = written c.in-Ok.form in
    let e = read_of line c.as_slice-tokens.result.now w said c.in-Ok.ensures in
    meaning_nothing c.args.components.now line (λ s. some_there c.in-Ok-Some.field-0 c.in-Ok-Some.field-0-0 c.in-Ok-Some.field-0-is (ok.skipped.1 s)) w e
    (MatchOption-at_none (IsMeaningless c.args.components.now w) _ c.in-None.is c.in_ok-statement.ensures.meant)
