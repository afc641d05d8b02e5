use Rattle.std.proofs.Common.{◌≡◌, ℕ, List, true, sym, subst}
use Rattle.std.specs.Prelude.{IfOk, string_bytes}
use Rattle.cls_base.specs.Schemas.{schema_of}
use Rattle.cls_query.specs.declared.change.Change.TheVariants.{Add}
use Rattle.cls_query.specs.QueryErrors.{is_absent}
use Rattle.cls_replies.specs.Changing.{Makes}
use Rattle.cls_replies.proofs.responder.Responder.make.Goals as goal

pub add-requires : goal.add-requires
add-requires c =
    subst (λ (x : List ℕ). is_absent c.args.self.now.components x ≡ true) (sym c.as_str.ensures.value) (rw c.in-Add.is at c.requires)

pub remove-requires : goal.remove-requires
remove-requires c = rw c.in-Remove.is at c.requires

pub returns-in-Add-clause-makes : goal.returns-in-Add-clause-makes
returns-in-Add-clause-makes c =
    let s = c.args.self.now in
    rw c.in-Add.is
    (subst (λ (x : List ℕ). IfOk c.add.result (λ text. Makes s (Add x (schema_of c.in-Add.schema)) (string_bytes text) c.add.new.self))
    c.as_str.ensures.value c.add.ensures.makes)

pub returns-in-Remove-clause-makes : goal.returns-in-Remove-clause-makes
returns-in-Remove-clause-makes c = rw c.in-Remove.is c.remove.ensures.makes
