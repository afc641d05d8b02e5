use Rattle.std.proofs.Common.{ℕ, map, subst}
use Rattle.std.specs.Prelude.{Contains}
use Rattle.cls_base.specs.Taxa.{variance_of}
use Rattle.cls_taxon.specs.Variances.{entry_of}
use Rattle.cls_repo.specs.Written.{draft_of}
use Rattle.cls_repo.proofs.Putting.{variance_put}
use Rattle.cls_repo.proofs.VarianceEntries.{names_in, one_more}
use Rattle.cls_repo.proofs.draft.Draft.put_variance.Goals as goal

pub returns-in-Ok-clause-put : goal.returns-in-Ok-clause-put
returns-in-Ok-clause-put c =
    let old = c.args.self.now in
    let name = c.in_ok-name.name in
    let none = λ (h : Contains (names_in old.variances.entries) name.0). c.requires (subst (λ (n : ℕ). Contains (names_in old.variances.entries) n) c.in_ok-name.ensures.old_number h) in
    variance_put (draft_of old) c.number_name.new.names c.args.constructor.now c.args.word.now name.0 (variance_of c.variance_named.result) (map entry_of c.insert.new.self.entries)
    c.in_ok-name.ensures.table c.in_ok-name.ensures.number c.variance_named.ensures
    (one_more old.variances.entries c.insert.new.self.entries name.0 c.variance_named.result none c.in-Ok.ensures.entries)
