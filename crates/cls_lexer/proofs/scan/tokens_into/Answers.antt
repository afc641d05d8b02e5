use Rattle.std.proofs.Common.{ℕ, ◌+◌, ◌++◌, ◌∷◌, [], List, length, arith, sym, ap, ◌∙◌, get_or, take, drop, map, refl}
use Rattle.std.proofs.lemmas.List.{take_rest, map-append}
use Rattle.std.proofs.lemmas.Str.{IsCharBoundary-start}
use Rattle.cls_lexer.specs.Tokens.{token_at, located}
use Rattle.cls_lexer.proofs.TokenCuts.{loop_cut, loop_blank_cut}
use Rattle.cls_lexer.proofs.TokenSteps.{loop_blank, loop_token, loop_end}
use Rattle.cls_lexer.proofs.TokenTexts.{loop_numeral, words_of-tokens}
use Rattle.cls_lexer.proofs.scan.tokens_into.Goals as goal

pub loop-at-init : goal.loop-at-init
loop-at-init c = record {
  within = omega arith;
  boundary = IsCharBoundary-start c.args.line.now c.utf8.line;
  same = rw c.in_ok-reserve.ensures.items (rw c.clear.ensures.items refl);
}

pub loop-at-preserved-then-is_blank : goal.loop-at-preserved-then-is_blank
loop-at-preserved-then-is_blank c =
    let same = c.as_bytes-bytes.ensures.value in
    let inside = ap length same in
    let blank = sym c.is_blank.ensures ∙ c.if-is_blank.true in
    record {
      within = omega (arith, inside);
      boundary = loop_blank_cut c.args.line.now c.as_bytes-bytes.result.now c.loop-at.at c.utf8.line same (omega (arith, inside)) blank;
      same = loop_blank c.args.line.now c.as_bytes-bytes.result.now (map located c.loop-at.list.items) c.loop-at.at same (omega (arith, inside)) blank c.loop-at.invariant.same;
    }

pub range-requires-clause-end_boundary : goal.range-requires-clause-end_boundary
range-requires-clause-end_boundary c =
    let same = c.as_bytes-bytes.ensures.value in
    let inside = ap length same in
    let is = c.token_at-kind.ensures.value ∙ ap (λ (xs : List ℕ). token_at (get_or c.as_bytes-bytes.result.now c.loop-at.at 0) xs) (take_rest c.as_bytes-bytes.result.now (c.loop-at.at + 1)) in
    loop_cut c.args.line.now c.as_bytes-bytes.result.now c.loop-at.at c.utf8.line same (omega (arith, inside)) c.token_at-kind.result is

pub invariant_of-push : goal.invariant_of-push
invariant_of-push c =
    let same = c.as_bytes-bytes.ensures.value in
    let inside = ap length same in
    let is = c.token_at-kind.ensures.value ∙ ap (λ (xs : List ℕ). token_at (get_or c.as_bytes-bytes.result.now c.loop-at.at 0) xs) (take_rest c.as_bytes-bytes.result.now (c.loop-at.at + 1)) in
    let cut = c.range.ensures.value ∙ ap (λ (k : ℕ). take k (drop c.loop-at.at c.args.line.now)) (omega arith) in
    record {
      digits = loop_numeral c.args.line.now c.as_bytes-bytes.result.now c.range.result.now c.loop-at.at c.token_at-kind.result same (omega (arith, inside)) (sym c.is_blank.ensures ∙ c.if-is_blank.false) is cut;
    }

pub loop-at-preserved : goal.loop-at-preserved
loop-at-preserved c =
    let same = c.as_bytes-bytes.ensures.value in
    let inside = ap length same in
    let is = c.token_at-kind.ensures.value ∙ ap (λ (xs : List ℕ). token_at (get_or c.as_bytes-bytes.result.now c.loop-at.at 0) xs) (take_rest c.as_bytes-bytes.result.now (c.loop-at.at + 1)) in
    let cut = c.range.ensures.value ∙ ap (λ (k : ℕ). take k (drop c.loop-at.at c.args.line.now)) (omega arith) in
    let put = ap (map located) c.in_ok-push.ensures.items ∙ (map-append located c.loop-at.list.items _
    ∙ ap (λ (text : List ℕ). map located c.loop-at.list.items ++ record { kind = c.token_at-kind.result.0; start = c.loop-at.at; text = text } ∷ []) cut) in
    record {
      within = omega (arith, inside, c.token_at-kind.ensures.within);
      boundary = loop_cut c.args.line.now c.as_bytes-bytes.result.now c.loop-at.at c.utf8.line same (omega (arith, inside)) c.token_at-kind.result is;
      same = loop_token c.args.line.now c.as_bytes-bytes.result.now (map located c.loop-at.list.items) (map located c.push.new.self.items) c.loop-at.at c.token_at-kind.result same (omega (arith, inside)) (sym c.is_blank.ensures ∙ c.if-is_blank.false) is put c.loop-at.invariant.same;
    }

pub returns-clause-tokens : goal.returns-clause-tokens
returns-clause-tokens c =
    let inside = ap length c.as_bytes-bytes.ensures.value in
    loop_end c.args.line.now (map located c.loop-at.list.items) c.loop-at.at (omega (arith, inside)) c.loop-at.invariant.same

pub returns-clause-words : goal.returns-clause-words
returns-clause-words c =
    let inside = ap length c.as_bytes-bytes.ensures.value in
    words_of-tokens c.args.line.now c.loop-at.list.items (loop_end c.args.line.now (map located c.loop-at.list.items) c.loop-at.at (omega (arith, inside)) c.loop-at.invariant.same)
