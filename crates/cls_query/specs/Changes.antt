-- The lines that change the repository: their forms, and what each one says and changes.
use Rattle.std.specs.Prelude.{ℕ, Bool, ◌||◌, List, [], ◌∷◌, codes}
use Rattle.std.proofs.Common.{inl, inr}
use Rattle.cls_base.specs.Schemas.{OpenType}
use Rattle.cls_lexer.specs.declared.token.TokenKind.TheVariants.{Colon}
use Rattle.cls_lexer.specs.Names.{number_of}
use Rattle.cls_lexer.specs.Words.{Word, name}
use Rattle.cls_syntax.specs.declared.role.Role.TheVariants.{Component, NewComponent}
use Rattle.cls_syntax.specs.Faults.{Says}
use Rattle.cls_syntax.specs.Forms.{Form, Part, nothing, ◌⨾◌, the_sign, a_name, a_type, fixed, line_parts}
use Rattle.cls_syntax.specs.LineGrammars.{Row, LineOf, row_words, RowStands}
use Rattle.cls_syntax.specs.TypeSchemas.{type_schema}
use Rattle.cls_syntax.specs.TypeTexts.{TypeText}
use Rattle.cls_query.specs.declared.change.Change as changes
use Rattle.cls_query.specs.declared.change.Change.TheVariants.{Add, Remove}
use Rattle.cls_query.specs.Queries.{Tables, tables_of, with_names, with_variables}
use Rattle.cls_query.specs.Readable.{begins_with}

-- What a line says, in the texts that stand in it.
abbrev pub ChangeText : Type 0
ChangeText = changes.Change (List ℕ) (List ℕ) TypeText

-- What it changes. A component that is there is its number, and a new one its name.
abbrev pub Change : Type 0
Change = changes.Change (List ℕ) ℕ OpenType

-- THE FORMS
-- NAME : TYPE
abbrev pub addition_form : Form
addition_form = a_name NewComponent ⨾ the_sign Colon ⨾ a_type ⨾ nothing

-- NAME
abbrev pub removal_form : Form
removal_form = a_name Component ⨾ nothing

-- The forms by the first words.
abbrev pub change_rows : List Row
change_rows =
    record { first = codes "add"; form = addition_form }
    ∷ record { first = codes "drop"; form = removal_form }
    ∷ []

-- The line of the table that says this.
abbrev pub row_of : ChangeText → LineOf change_rows
row_of (Add x t) = inl (x, (t, tt))
row_of (Remove x) = inr (inl (x, tt))

-- The words say this.
abbrev pub WordsSay : ChangeText → List Word → Type 0
WordsSay said ws = Says (row_words change_rows) (RowStands change_rows) (row_of said) ws

-- The words, each with what it is for.
abbrev pub change_parts : ChangeText → List Part
change_parts (Add x t) = fixed (name (codes "add")) ∷ line_parts addition_form (x, (t, tt))
change_parts (Remove x) = fixed (name (codes "drop")) ∷ line_parts removal_form (x, tt)

-- The words begin with one of the first words.
abbrev pub begins_change : List Word → Bool
begins_change ws = begins_with (codes "add") ws || begins_with (codes "drop") ws

-- WHAT THE LINE CHANGES
-- The tables that hold the names of constructors and of variables of the change. It gives no number to a component.
abbrev pub with_change : Tables → ChangeText → Tables
with_change tables said =
    tables_of (with_names tables.constructors (change_parts said)) (with_variables tables.variables (change_parts said))
    tables.components tables.filters

-- What is changed, with the numbers that the tables give the names.
abbrev pub change_of : Tables → ChangeText → Change
change_of tables (Add x t) = Add x (type_schema (number_of tables.constructors) (number_of tables.variables) t)
change_of tables (Remove x) = Remove (number_of tables.components x)
