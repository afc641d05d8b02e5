-- What a change makes of the tables of names, and what holds of it.
use Rattle.std.proofs.Common.{◌≡◌, ℕ, true, false, List, ◌++◌, refl, ap, sym, ◌∙◌, subst, append-nil}
use Rattle.std.specs.Prelude.{codes}
use Rattle.cls_base.specs.Firsts.{First, IsSilent}
use Rattle.cls_base.specs.Schemas.{OpenType}
use Rattle.cls_lexer.specs.Names.{number_of, with_texts}
use Rattle.cls_lexer.specs.Words.{words_of}
use Rattle.cls_syntax.specs.Forms.{constructors_named, type_parts, variables_named}
use Rattle.cls_syntax.specs.TypeSchemas.{type_schema, with_constructors}
use Rattle.cls_syntax.specs.TypeSchemas as schemas
use Rattle.cls_syntax.specs.TypeTexts.{TypeText, type_words}
use Rattle.cls_syntax.proofs.PartNames.{type_constructors, type_variables}
use Rattle.cls_query.specs.declared.change.Change.TheVariants.{Add, Remove}
use Rattle.cls_query.specs.Changes.{Change, ChangeText, WordsSay, change_of, change_parts, with_change}
use Rattle.cls_query.specs.ChangeErrors.{change_errors}
use Rattle.cls_query.specs.ChangeSteps.{IsNamed}
use Rattle.cls_query.specs.Queries.{Tables, tables_of, with_names, with_variables}
use Rattle.cls_query.specs.QueryErrors.{is_absent}
use Rattle.cls_query.specs.ReadChanges.{ReadsChange, MayChange}
use Rattle.cls_query.proofs.FirstErrors.{each_silent}
use Rattle.cls_query.proofs.Readable.{held_below}

-- the names of a new component's line are those of its type
pub addition_constructors : (texts : List (List ℕ)) (x : List ℕ) (t : TypeText) → with_constructors texts (type_words t) ≡ with_names texts (change_parts (Add x t))
addition_constructors texts x t = ap (with_texts texts) (sym (type_constructors t) ∙ ap constructors_named (sym (append-nil (type_parts t))))

pub addition_variables : (texts : List (List ℕ)) (x : List ℕ) (t : TypeText) → schemas.with_variables texts (type_words t) ≡ with_variables texts (change_parts (Add x t))
addition_variables texts x t = ap (with_texts texts) (sym (type_variables t) ∙ ap variables_named (sym (append-nil (type_parts t))))

-- what a new component is called, and its schema
pub addition_is : (tables : Tables) (x y : List ℕ) (t : TypeText) (s : OpenType) → y ≡ x → s ≡ type_schema (number_of tables.constructors) (number_of tables.variables) t
    → ◌≡◌ {A = Change} (Add y s) (change_of tables (Add x t))
addition_is tables x y t s e f = λ i. Add (e i) (f i)

pub may_change : (tables : Tables) (said : ChangeText) → IsNamed tables.components said → MayChange tables.components (change_of tables said)
may_change tables (Add x t) h = h
may_change tables (Remove x) h = held_below tables.components x h

-- a change without an error is read
module _ (old : Tables) (constructors variables : List (List ℕ)) (line : List ℕ) (said : ChangeText) where
  abbrev new : Tables
  new = tables_of constructors variables old.components old.filters

  pub change_reads : (change : Change) → IsSilent (First (change_errors old.components line)) → WordsSay said (words_of line) → change ≡ change_of new said
      → constructors ≡ with_names old.constructors (change_parts said) → variables ≡ with_variables old.variables (change_parts said) → ReadsChange old line change new
  change_reads change silent says is e f =
      let all : new ≡ with_change old said = λ i. tables_of (e i) (f i) old.components old.filters in
      record { faultless = silent; said = said; spelled = says; changed = is ∙ ap (λ (tables : Tables). change_of tables said) all; numbered = all }

-- a change that was read is one of a component that is there, or gives a new name
named : (components : List (List ℕ)) (line : List ℕ) (said : ChangeText) → WordsSay said (words_of line) → IsSilent (First (change_errors components line)) → IsNamed components said
named components line (Add x t) says silent =
    (elim (is_absent components x) as (λ b. is_absent components x ≡ b → b ≡ true) [
      | true ↦ λ e. refl
      | false ↦ λ e. absurd ((each_silent (change_errors components line) silent).1.1.1.1.1.1.0 (codes "duplicate " ++ x) (x, t, says, e, refl))
    ]) refl
named components line (Remove x) says silent =
    (elim (is_absent components x) as (λ b. is_absent components x ≡ b → b ≡ false) [
      | false ↦ λ e. refl
      | true ↦ λ e. absurd ((each_silent (change_errors components line) silent).1.1.1.1.1.0 (codes "unknown " ++ x) (x, says, e, refl))
    ]) refl

pub reads_may : {tables after : Tables} {line : List ℕ} {change : Change} → ReadsChange tables line change after → MayChange tables.components change
reads_may {tables} {after} {line} r =
    subst (MayChange tables.components) (sym r.changed) (may_change (with_change tables r.said) r.said (named tables.components line r.said r.spelled r.faultless))
