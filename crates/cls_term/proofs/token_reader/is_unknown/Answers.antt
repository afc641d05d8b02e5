use Rattle.std.proofs.Common.{◌≡◌, Bool, true, false, not, Option, Some, None, refl, sym, ◌∙◌}
use Rattle.std.specs.Prelude.{is_some, is_none}
use Rattle.cls_term.proofs.TermFaults.{unknown_is}
use Rattle.cls_term.proofs.token_reader.is_unknown.Goals as goal

none_of : {A : Type 0} (o : Option A) (b : Bool) → is_some o ≡ not b → b ≡ is_none o
none_of None true h = refl
none_of None false h = cc
none_of (Some x) true h = cc
none_of (Some x) false h = refl

pub returns-then-is_name : goal.returns-then-is_name
returns-then-is_name c =
    none_of c.find.result c.is_none.result c.is_none.ensures
    ∙ unknown_is c.args.components.now c.args.token.now c.find.result (sym c.is_name.ensures ∙ c.if-is_name.true) c.find.ensures.absent.0 c.find.ensures.stands
