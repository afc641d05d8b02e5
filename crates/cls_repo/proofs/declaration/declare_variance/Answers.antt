use Rattle.std.proofs.Common.{ℕ, List, ◌++◌, ap, sym, ◌∙◌}
use Rattle.std.specs.Prelude.{codes, string_bytes}
use Rattle.std.proofs.lemmas.Bool.{true≢false}
use Rattle.cls_repo.specs.Written.{draft_of}
use Rattle.cls_repo.proofs.Wrong.{variance_first, variance_right}
use Rattle.cls_repo.proofs.declaration.declare_variance.Goals as goal

pub returns-then-has_variance-clause-fault : goal.returns-then-has_variance-clause-fault
returns-then-has_variance-clause-fault c =
    variance_first (draft_of c.args.draft.now) c.args.line.now.text.now c.args.constructor.now c.args.word.now (codes "duplicate-variance " ++ string_bytes c.in_ok-from_str.field-0)
    (c.has_variance.ensures.0 c.if-has_variance.true) (ap (λ (ys : List ℕ). codes "duplicate-variance " ++ ys) c.in_ok-from_str.ensures.ok)

pub put_variance-requires : goal.put_variance-requires
put_variance-requires c = λ h. true≢false (sym (c.has_variance.ensures.1 h) ∙ c.if-has_variance.false)

pub returns-clause-taken : goal.returns-clause-taken
returns-clause-taken c =
    record {
      declared = c.in_ok-put_variance.ensures.put;
      silent = variance_right (draft_of c.args.draft.now) c.args.line.now.text.now c.args.constructor.now c.args.word.now (λ h. true≢false (sym (c.has_variance.ensures.1 h) ∙ c.if-has_variance.false));
    }
