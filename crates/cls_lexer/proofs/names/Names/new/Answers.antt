use Rattle.std.proofs.Common.{List, ℕ, subst, sym}
use Rattle.cls_lexer.specs.Names.{IsTable}
use Rattle.cls_lexer.proofs.TextTables.{no_texts}
use Rattle.cls_lexer.proofs.names.Names.new.Goals as goal

pub invariant_of-result : goal.invariant_of-result
invariant_of-result c = (subst (λ (texts : List (List ℕ)). IsTable texts) (sym c.new-2.ensures) no_texts, rw (c.new.ensures.empty, c.new-2.ensures) tt)
