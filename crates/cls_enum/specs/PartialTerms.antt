-- internal: terms that lack some arguments
use Rattle.std.specs.Prelude.{◌≡◌, List, length}
use Rattle.cls_base.specs.Terms.{Applicative, length_of}
use Rattle.cls_term.specs.Banks.{term_by}
use Rattle.cls_base.specs.Lists.{AreBelow}
use Rattle.cls_enum.specs.declared.partial_term.PartialTerm.{PartialTerm}

-- the term so far
abbrev pub partial_term : List Applicative → PartialTerm → Applicative
partial_term terms partial = term_by terms (partial.head, partial.args.items)

-- the arguments are among the terms, and the occurrences are counted
pub record IsPartial (terms : List Applicative) (partial : PartialTerm) : Type 0 where
  pub below : AreBelow (length terms) partial.args.items
  pub counted : partial.occurrences ≡ length_of (partial_term terms partial)

-- nothing of it has changed
pub record IsAsBefore (old new : PartialTerm) : Type 0 where
  pub head : new.head ≡ old.head
  pub args : new.args.items ≡ old.args.items
  pub occurrences : new.occurrences ≡ old.occurrences
