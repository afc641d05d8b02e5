-- The repository as it stands between lines that change it, and that it is what answers the next line.
use Rattle.std.specs.Prelude.{ℕ, ◌≡◌, ◌<◌, List, [], ◌∷◌, ◌++◌, codes, length, map, remove}
use Rattle.cls_assemble.specs.declared.piece.Piece.TheVariants.{Byte}
use Rattle.cls_base.specs.Schemas.{OpenType}
use Rattle.cls_engine.specs.declared.options.Options.{Options}
use Rattle.cls_filter.specs.Lines.{without_leaf}
use Rattle.cls_query.specs.declared.change.Change.TheVariants.{Add, Remove}
use Rattle.cls_query.specs.Changes.{Change}
use Rattle.cls_repo.specs.Drafts.{Draft, DraftFilter}
use Rattle.cls_replies.specs.Changing.{Says}
use Rattle.cls_replies.specs.Lines.{Goes}
use Rattle.cls_replies.specs.Responder.{Responder, Serves}
use Rattle.cls_replies.specs.Texts.{reply_line}
use Rattle.cls_session.specs.Transcripts.{IsAnswered}

-- WHAT CHANGES MAKE OF WHAT LINES DECLARE
-- As with a component declared last, of which no `text`, `cost` or `leaf` line speaks. The line that declares it has no
-- number.
abbrev pub declaring : Draft → (x : List ℕ) → OpenType → Draft
declaring d x t = record d {
  component_names = d.component_names ++ x ∷ [];
  components = d.components ++ record { schema = t; line = 0; template = map Byte x; cost = 1 } ∷ [];
}

-- As without the lines that declare the component and that speak of it.
abbrev pub without_lines_of : Draft → (x : ℕ) → Draft
without_lines_of d x = record d {
  component_names = remove d.component_names x;
  components = remove d.components x;
  filters = map (λ (f : DraftFilter). record f { automaton = without_leaf f.automaton x }) d.filters;
}

-- The line says the change, and that it is made is what is written for it.
pub record IsMade (s : Responder) (line text : List ℕ) (c : Change) (answer : List ℕ) : Type 0 where
  pub free : s.held ≡ []
  pub names : Responder
  pub says : Says s line c names
  pub written : text ≡ reply_line answer

-- What the line makes of what is declared, where this is written for it.
pub data Leads (s : Responder) (line text : List ℕ) (d d' : Draft) : Type 0 where
  adds :
      (x : List ℕ) (t : OpenType) → IsMade s line text (Add x t) (codes "added") → d' ≡ declaring d x t
      → Leads s line text d d'
  drops :
      (x : ℕ) → IsMade s line text (Remove x) (codes "dropped") → x < length d.component_names
      → d' ≡ without_lines_of d x → Leads s line text d d'
  stays :
      ((x : List ℕ) (t : OpenType) → IsMade s line text (Add x t) (codes "added") → ⊥)
      → ((x : ℕ) → IsMade s line text (Remove x) (codes "dropped") → ⊥) → d' ≡ d → Leads s line text d d'

-- The same of lines in turn.
abbrev pub LeadsOn : Responder → (lines : List (List ℕ)) → (text : List ℕ) → Responder → (d d' : Draft) → Type 0
LeadsOn s [] text s' d d' = (text ≡ []) × (s' ≡ s) × (d' ≡ d)
LeadsOn s (line ∷ lines) text s'' d d'' =
    (s' : Responder) × (d' : Draft) × (first rest : List ℕ) × Goes s line first s' × Leads s line first d d'
    × LeadsOn s' lines rest s'' d' d'' × (text ≡ first ++ rest)

-- WHAT ANSWERS
-- It is what a session would open with over what is declared, but for the names of constructors and of variables that
-- have numbers since, and for the lines that are held.
abbrev pub as_opened : Draft → Responder → Responder
as_opened d s = record s { names = d.names; variables = d.variables; held = [] }

abbrev pub Answers : Options → Draft → Responder → Type 0
Answers o d s = Serves o d (as_opened d s)

-- What answers the lines after a repository is, after any of them, what a session over the repository as it then stands
-- would open with, and nothing else would open one, but for the numbering of names. So the reply to each line is the
-- one from scratch.
abbrev pub RepliesAreFromScratch : Type 0
RepliesAreFromScratch =
    (o : Options) (lines : List (List ℕ)) (text : List ℕ) (s : Responder) → (a : IsAnswered o lines text s)
    → (d : Draft) × LeadsOn a.opened a.queries text s a.declared d × Answers o d s
    × ((s0 : Responder) → Serves o d s0 → as_opened d s ≡ s0)
