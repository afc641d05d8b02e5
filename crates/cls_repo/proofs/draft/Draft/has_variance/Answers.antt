use Rattle.std.proofs.Common.{ℕ, subst}
use Rattle.std.specs.Prelude.{◌↔◌, IsTrue, Contains}
use Rattle.cls_repo.proofs.VarianceEntries.{names_in, has_name}
use Rattle.cls_repo.proofs.draft.Draft.has_variance.Goals as goal

pub returns : goal.returns
returns c =
    let entries = c.args.self.now.variances.entries in
    subst (λ (n : ℕ). IsTrue c.contains_key.result ↔ Contains (names_in entries) n) c.number.ensures (has_name entries c.number.result.0 c.contains_key.result c.contains_key.ensures)
