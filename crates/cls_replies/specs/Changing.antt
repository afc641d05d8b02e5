-- How a line that changes the repository is answered, and what it changes.
use Rattle.std.specs.Prelude.{ℕ, ◌≡◌, List, [], ◌∷◌, ◌++◌, Some, codes, map, remove}
use Rattle.cls_assemble.specs.declared.piece.Piece.TheVariants.{Byte}
use Rattle.cls_base.specs.Firsts.{First}
use Rattle.cls_base.specs.Schemas.{OpenType}
use Rattle.cls_engine.specs.Engines.{seen_as}
use Rattle.cls_filter.specs.Automata.{Automaton}
use Rattle.cls_filter.specs.Lines.{without_leaf}
use Rattle.cls_library.specs.declared.fault.LibraryKind.{LibraryKind}
use Rattle.cls_library.specs.Libraries.{Library}
use Rattle.cls_library.specs.Refusals.{Adds, Refuses}
use Rattle.cls_query.specs.declared.change.Change.TheVariants.{Add, Remove}
use Rattle.cls_query.specs.Changes.{Change}
use Rattle.cls_query.specs.ChangeErrors.{change_errors}
use Rattle.cls_query.specs.ReadChanges.{ReadsChange}
use Rattle.cls_repo.specs.EndFaults.{library_words}
use Rattle.cls_replies.specs.Responder.{Responder, tables_in, with_tables}
use Rattle.cls_replies.specs.Texts.{error_line, reply_line}

-- With one more component in the library, which is called x. Its template is its name, and its cost is 1.
abbrev pub with_component : Responder → (x : List ℕ) → Library → Responder
with_component s x library = record s {
  components = s.components ++ x ∷ [];
  templates = s.templates ++ map Byte x ∷ [];
  engine = seen_as library (s.engine.costs ++ 1 ∷ []) s.engine.options;
}

abbrev pub without : Library → ℕ → Library
without library x = record { taxonomy = library.taxonomy; components = remove library.components x }

-- Without a component: its name, its template, its cost, and what the filters say of it are gone.
abbrev pub without_component : Responder → (x : ℕ) → Responder
without_component s x = record s {
  components = remove s.components x;
  templates = remove s.templates x;
  filters = map (λ (a : Automaton). without_leaf a x) s.filters;
  engine = seen_as (without s.engine.library x) (remove s.engine.costs x) s.engine.options;
}

-- What is written for a change that was read, and what queries are answered by after it.
pub data Makes (s : Responder) (change : Change) (text : List ℕ) (s' : Responder) : Type 0 where
  added :
      (x : List ℕ) (t : OpenType) (library : Library) → change ≡ Add x t
      → Adds s.engine.library.taxonomy s.kinds t s.engine.library library
      → text ≡ reply_line (codes "added") → s' ≡ with_component s x library → Makes s change text s'
  refused :
      (x : List ℕ) (t : OpenType) (kind : LibraryKind) (words : List ℕ) → change ≡ Add x t
      → Refuses s.engine.library s.kinds t kind → library_words s.variables x kind ≡ Some words
      → text ≡ error_line (codes "refused " ++ words) → s' ≡ s → Makes s change text s'
  dropped :
      (x : ℕ) → change ≡ Remove x → text ≡ reply_line (codes "dropped") → s' ≡ without_component s x
      → Makes s change text s'

-- The line says the change, whose names are numbered then.
abbrev pub Says : Responder → (line : List ℕ) → Change → Responder → Type 0
Says s line change s' = ReadsChange (tables_in s) line change (tables_in s') × (s' ≡ with_tables s (tables_in s'))

-- The first error of the line is what is written, and nothing changes.
pub record IsMisread (s : Responder) (line text : List ℕ) (s' : Responder) : Type 0 where
  pub words : List ℕ
  pub first : First (change_errors s.components line) words
  pub written : text ≡ error_line words
  pub same : s' ≡ s

-- What is written for a line that changes the repository, and what queries are answered by after it.
pub data Changed (s : Responder) (line text : List ℕ) (s' : Responder) : Type 0 where
  misread : IsMisread s line text s' → Changed s line text s'
  makes : (change : Change) (m : Responder) → Says s line change m → Makes m change text s' → Changed s line text s'
