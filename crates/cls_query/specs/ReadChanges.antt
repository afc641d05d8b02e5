-- What the reader of changes answers.
use Rattle.std.specs.Prelude.{ℕ, ◌≡◌, ◌<◌, true, List, String, length, string_bytes}
use Rattle.std.specs.Borrow.{Bor}
use Rattle.cls_base.specs.declared.schema.Schema.{Schema}
use Rattle.cls_base.specs.declared.ty.Name.{Name}
use Rattle.cls_base.specs.Firsts.{First, IsSilent}
use Rattle.cls_base.specs.Schemas.{schema_of}
use Rattle.cls_lexer.specs.Words.{words_of}
use Rattle.cls_syntax.specs.declared.spelled_type.SpelledType.{SpelledType}
use Rattle.cls_syntax.specs.SpelledTypes.{type_text}
use Rattle.cls_query.specs.declared.change.Change as changes
use Rattle.cls_query.specs.declared.change.Change.TheVariants.{Add, Remove}
use Rattle.cls_query.specs.Changes.{Change, ChangeText, WordsSay, with_change, change_of}
use Rattle.cls_query.specs.ChangeErrors.{change_errors}
use Rattle.cls_query.specs.Queries.{Tables}
use Rattle.cls_query.specs.QueryErrors.{is_absent}

-- What the code's change says as it is spelled, and what it changes as it is built.
abbrev pub SpelledChange : Type 0
SpelledChange = changes.Change (Bor (List ℕ)) (Bor (List ℕ)) SpelledType

abbrev pub change_text : SpelledChange → ChangeText
change_text (Add x t) = Add x.now (type_text t)
change_text (Remove x) = Remove x.now

abbrev pub change_in : {A : Type 0} → changes.Change (String A) Name Schema → Change
change_in (Add x t) = Add (string_bytes x) (schema_of t)
change_in (Remove x) = Remove x.0

-- No error is said of the line, it changes this, and these are the tables with its names.
pub record ReadsChange (tables : Tables) (line : List ℕ) (change : Change) (after : Tables) : Type 0 where
  pub faultless : IsSilent (First (change_errors tables.components line))
  pub said : ChangeText
  pub spelled : WordsSay said (words_of line)
  pub changed : change ≡ change_of (with_change tables said) said
  pub numbered : after ≡ with_change tables said

-- The name that the line gives a new component isn't that of one that is there, and the component that it takes out is.
abbrev pub MayChange : (components : List (List ℕ)) → Change → Type 0
MayChange components (Add x t) = is_absent components x ≡ true
MayChange components (Remove x) = x < length components
