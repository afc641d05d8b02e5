use Rattle.std.proofs.Common.{None, Some, ℕ, ◌+◌, [], List, length, arith, sym, ap, ◌∙◌, get_or, take, drop, refl}
use Rattle.std.proofs.lemmas.List.{take_rest}
use Rattle.std.proofs.lemmas.Str.{IsCharBoundary-start}
use Rattle.cls_lexer.specs.Tokens.{token_at}
use Rattle.cls_lexer.proofs.TokenCuts.{loop_cut, loop_blank_cut}
use Rattle.cls_lexer.proofs.TokenSteps.{loop_blank, first_token, no_token}
use Rattle.cls_lexer.proofs.TokenTexts.{loop_numeral, first_word}
use Rattle.cls_lexer.proofs.scan.first_token.Goals as goal

pub loop-at-init : goal.loop-at-init
loop-at-init c = record {
  within = omega arith;
  boundary = IsCharBoundary-start c.args.line.now c.utf8.line;
  same = refl;
}

pub loop-at-preserved : goal.loop-at-preserved
loop-at-preserved c =
    let same = c.as_bytes-bytes.ensures.value in
    let inside = ap length same in
    let blank = sym c.is_blank.ensures ∙ c.if-not-is_blank.false in
    record {
      within = omega (arith, inside);
      boundary = loop_blank_cut c.args.line.now c.as_bytes-bytes.result.now c.loop-at.at c.utf8.line same (omega (arith, inside)) blank;
      same = loop_blank c.args.line.now c.as_bytes-bytes.result.now [] c.loop-at.at same (omega (arith, inside)) blank c.loop-at.invariant.same;
    }

pub range-requires-clause-end_boundary : goal.range-requires-clause-end_boundary
range-requires-clause-end_boundary c =
    let same = c.as_bytes-bytes.ensures.value in
    let inside = ap length same in
    let is = c.token_at-kind.ensures.value ∙ ap (λ (xs : List ℕ). token_at (get_or c.as_bytes-bytes.result.now c.loop-at.at 0) xs) (take_rest c.as_bytes-bytes.result.now (c.loop-at.at + 1)) in
    loop_cut c.args.line.now c.as_bytes-bytes.result.now c.loop-at.at c.utf8.line same (omega (arith, inside)) c.token_at-kind.result is

pub invariant_of-result : goal.invariant_of-result
invariant_of-result c =
    let same = c.as_bytes-bytes.ensures.value in
    let inside = ap length same in
    let is = c.token_at-kind.ensures.value ∙ ap (λ (xs : List ℕ). token_at (get_or c.as_bytes-bytes.result.now c.loop-at.at 0) xs) (take_rest c.as_bytes-bytes.result.now (c.loop-at.at + 1)) in
    let cut = c.range.ensures.value ∙ ap (λ (k : ℕ). take k (drop c.loop-at.at c.args.line.now)) (omega arith) in
    record {
      digits = loop_numeral c.args.line.now c.as_bytes-bytes.result.now c.range.result.now c.loop-at.at c.token_at-kind.result same (omega (arith, inside)) (sym c.is_blank.ensures ∙ c.if-not-is_blank.true) is cut;
    }

pub returns-then-not-is_blank-clause-token : goal.returns-then-not-is_blank-clause-token
returns-then-not-is_blank-clause-token c =
    let same = c.as_bytes-bytes.ensures.value in
    let inside = ap length same in
    let is = c.token_at-kind.ensures.value ∙ ap (λ (xs : List ℕ). token_at (get_or c.as_bytes-bytes.result.now c.loop-at.at 0) xs) (take_rest c.as_bytes-bytes.result.now (c.loop-at.at + 1)) in
    let cut = c.range.ensures.value ∙ ap (λ (k : ℕ). take k (drop c.loop-at.at c.args.line.now)) (omega arith) in
    first_token c.args.line.now c.as_bytes-bytes.result.now c.range.result.now c.loop-at.at c.token_at-kind.result same (omega (arith, inside)) (sym c.is_blank.ensures ∙ c.if-not-is_blank.true) is cut c.loop-at.invariant.same

pub returns-then-not-is_blank-clause-word : goal.returns-then-not-is_blank-clause-word
returns-then-not-is_blank-clause-word c =
    let same = c.as_bytes-bytes.ensures.value in
    let inside = ap length same in
    let is = c.token_at-kind.ensures.value ∙ ap (λ (xs : List ℕ). token_at (get_or c.as_bytes-bytes.result.now c.loop-at.at 0) xs) (take_rest c.as_bytes-bytes.result.now (c.loop-at.at + 1)) in
    let cut = c.range.ensures.value ∙ ap (λ (k : ℕ). take k (drop c.loop-at.at c.args.line.now)) (omega arith) in
    first_word c.args.line.now (Some _) (first_token c.args.line.now c.as_bytes-bytes.result.now c.range.result.now c.loop-at.at c.token_at-kind.result same (omega (arith, inside)) (sym c.is_blank.ensures ∙ c.if-not-is_blank.true) is cut c.loop-at.invariant.same)

pub returns-clause-token : goal.returns-clause-token
returns-clause-token c =
    let inside = ap length c.as_bytes-bytes.ensures.value in
    no_token c.args.line.now c.loop-at.at (omega (arith, inside)) c.loop-at.invariant.same

pub returns-clause-word : goal.returns-clause-word
returns-clause-word c =
    let inside = ap length c.as_bytes-bytes.ensures.value in
    first_word c.args.line.now None (no_token c.args.line.now c.loop-at.at (omega (arith, inside)) c.loop-at.invariant.same)
