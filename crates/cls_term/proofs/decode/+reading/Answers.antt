use Rattle.std.proofs.Common.{◌≡◌, ◌++◌, ◌∷◌, [], List, ap, arith, length, length-append, subst, sym, ◌+◌, ◌-◌}
use Rattle.cls_base.specs.Spines.{codes_of}
use Rattle.cls_base.specs.Terms.{Applicative}
use Rattle.cls_term.proofs.Decodes.{after-shorter, fewer-terms, some-term, tail-begins, tail-long, term-of, terms_push}
use Rattle.cls_term.proofs.decode.+reading.Goals as goal

pub read_term-read_terms-requires : goal.read_term-read_terms-requires
read_term-read_terms-requires t c = (omega (arith, c.decreases, tail-long c.args.code.now c.requires), tail-begins c.args.code.now c.requires)

pub read_term-returns : goal.read_term-returns
read_term-returns t c = term-of c.args.code.now c.in_ok-args.rest.now c.in_ok-args.args c.new.result c.requires c.new.ensures c.in_ok-args.ensures.many c.in_ok-args.ensures.codes

pub read_terms-read_term-requires : goal.read_terms-read_term-requires
read_terms-read_term-requires t c = (
  omega (arith, c.decreases, c.loop-place.invariant.shorter),
  some-term (c.args.count - c.loop-place._place) c.loop-place.rest.now (omega (arith, c.loop-place-test.true)) c.loop-place.invariant.left,
)

pub read_terms-loop-place-preserved : goal.read_terms-loop-place-preserved
read_terms-loop-place-preserved t c =
    let es = c.loop-place.terms.items in
    let rest = c.loop-place.rest.now in
    let after = c.in_ok-term.after.now in
    let e = c.in_ok-term.term in
    let p : c.push.new.self.items ≡ es ++ e ∷ [] = c.in_ok-push.ensures.items in
    record {
      many = omega (arith, ap (λ (xs : List Applicative). length xs) p, length-append es (e ∷ []), c.loop-place.invariant.many);
      codes = (let P : List Applicative → Type 0 = λ xs. c.args.code.now ≡ codes_of xs ++ after in subst P (sym p) (terms_push c.args.code.now rest after es e c.loop-place.invariant.codes c.in_ok-term.ensures));
      left = fewer-terms (c.args.count - c.loop-place._place) (c.args.count - (c.loop-place._place + 1)) rest after e (omega (arith, c.loop-place-test.true)) c.loop-place.invariant.left c.in_ok-term.ensures;
      shorter = omega (arith, c.loop-place.invariant.shorter, after-shorter rest after e c.in_ok-term.ensures);
    }
