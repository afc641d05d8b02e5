use Rattle.std.proofs.Common.{ℕ, List, refl, sym, ap, subst}
use Rattle.std.specs.Prelude.{IfOk, IfErr, Err}
use Rattle.cls_lexer.specs.Skipped.{IsText, IsSkipped}
use Rattle.cls_repo.specs.FaultWords.{OnWords}
use Rattle.cls_repo.specs.Written.{draft_of, TakesLine, RefusesLine}
use Rattle.cls_repo.proofs.Taking.{long_refused, utf8_refused, told}
use Rattle.cls_repo.proofs.reader.take_line.Goals as goal

pub take_text-requires-clause-text : goal.take_text-requires-clause-text
take_text-requires-clause-text c =
    let same = rw c.in-Ok-Some.field-0-is at c.in-Ok-Some.ensures.same in
    subst (λ (l : List ℕ). IsText l) (sym same) (c.in-Ok-Some.ensures.ok.0 refl)

pub take_text-requires-clause-unskipped : goal.take_text-requires-clause-unskipped
take_text-requires-clause-unskipped c =
    let same = rw c.in-Ok-Some.field-0-is at c.in-Ok-Some.ensures.same in
    let content = rw c.in-Ok-Some.field-0-is at c.in-Ok-Some.ensures.skipped in
    λ s. told content.1 (subst (λ (l : List ℕ). IsSkipped l) same s)

pub returns-in_ok-tokens-in-Ok-Some-clause-taken : goal.returns-in_ok-tokens-in-Ok-Some-clause-taken
returns-in_ok-tokens-in-Ok-Some-clause-taken c =
    let same = rw c.in-Ok-Some.field-0-is at c.in-Ok-Some.ensures.same in
    subst (λ (l : List ℕ). IfOk c.take_text.result (TakesLine (draft_of c.args.draft.now) c.args.number l (draft_of c.take_text.new.draft))) same c.take_text.ensures.taken

pub returns-in_ok-tokens-in-Ok-Some-clause-fault : goal.returns-in_ok-tokens-in-Ok-Some-clause-fault
returns-in_ok-tokens-in-Ok-Some-clause-fault c =
    let same = rw c.in-Ok-Some.field-0-is at c.in-Ok-Some.ensures.same in
    subst (λ (l : List ℕ). IfErr c.take_text.result (OnWords (RefusesLine (draft_of c.args.draft.now) l))) same c.take_text.ensures.fault

pub returns-in-Err-TooLong-clause-fault : goal.returns-in-Err-TooLong-clause-fault
returns-in-Err-TooLong-clause-fault c = long_refused (draft_of c.args.draft.now) c.args.line.now (c.in-Err-TooLong.ensures.too_long.0 (ap (λ e. Err e) c.in-Err-TooLong.field-0-is))

pub returns-in-Err-NotUtf8-clause-fault : goal.returns-in-Err-NotUtf8-clause-fault
returns-in-Err-NotUtf8-clause-fault c =
    let found = c.in-Err-NotUtf8.ensures.not_utf8.0 (ap (λ e. Err e) c.in-Err-NotUtf8.field-0-is) in
    utf8_refused (draft_of c.args.draft.now) c.args.line.now found.0 found.1
