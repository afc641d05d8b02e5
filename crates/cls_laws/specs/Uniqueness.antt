-- What is true of all lines and bytes, as statements: text and status are functions of the bytes and the options other than
-- the number of workers, but for the replies to audits. What an audit writes may be any legal complete history.
use Rattle.std.specs.Prelude.{ℕ, ◌≡◌, false, List, ◌∷◌, ◌++◌, codes, Contains}
use Rattle.std.specs.List.{IsDistinct}
use Rattle.std.specs.Str.{bytes_eq}
use Rattle.cls_base.specs.Firsts.{IsDetermined}
use Rattle.cls_base.specs.Types.{ClosedType}
use Rattle.cls_lexer.specs.Words.{words_of}
use Rattle.cls_engine.specs.declared.options.Options.{Options}
use Rattle.cls_query.specs.Queries.{Tables, audit}
use Rattle.cls_query.specs.ReadQueries.{ReadsQuery}
use Rattle.cls_query.specs.Readable.{begins_with}
use Rattle.cls_repo.specs.Drafts.{Draft}
use Rattle.cls_replies.specs.Answering as answering
use Rattle.cls_replies.specs.Lines.{Goes, Ends}
use Rattle.cls_replies.specs.Responder.{Responder}
use Rattle.cls_session.specs.declared.status.Status.{Status}
use Rattle.cls_session.specs.Outputs.{lines_read, SessionOutput, Output}
use Rattle.cls_session.specs.Repositories.{IsRepository}
use Rattle.cls_session.specs.Transcripts.{IsAnswered, Transcript, IsRefused, Ending}
use Rattle.cls_laws.specs.Alike.{with_workers, served_by, AreSame, AreSameTexts, AskAlike, IsRead, AreSameOutputs}

-- The line asks for an audit, where queries are answered by this.
abbrev pub AsksAudit : Responder → List ℕ → Type 0
AsksAudit s line = (goal : ClosedType) × (s' : Responder) × answering.Asks s line (audit goal) s'

-- Whatever names have numbers, the line asks for no audit.
abbrev pub AsksNoAudit : List ℕ → Type 0
AsksNoAudit line = (tables after : Tables) (goal : ClosedType) → ReadsQuery tables line (audit goal) after → ⊥

-- A line whose first word isn't `audit` asks for none.
abbrev pub AuditsAreNamed : Type 0
AuditsAreNamed = (line : List ℕ) → begins_with (codes "audit") (words_of line) ≡ false → AsksNoAudit line

-- No line after the repository asks for an audit.
abbrev pub HaveNoAudit : List (List ℕ) → Type 0
HaveNoAudit lines =
    (repository queries : List (List ℕ)) (end : List ℕ) (d : Draft) → lines ≡ repository ++ end ∷ queries
    → IsRepository repository end d → (line : List ℕ) → Contains queries line → AsksNoAudit line

-- The reply to a line, what queries are answered by after it, and what is written if no line follows are the same for each
-- number of workers, but that an audit may tell any legal complete history. No two components may have one name. None have
-- that a repository declares, by the last of these facts.
pub record RepliesAreDetermined : Type 0 where
  pub goes :
      (s : Responder) → IsDistinct bytes_eq s.components → (n : ℕ) (line text other : List ℕ) (next next' : Responder)
      → Goes s line text next → Goes (served_by n s) line other next'
      → AreSame s n line text other × (next' ≡ served_by n next)
  pub ends :
      (s : Responder) → IsDistinct bytes_eq s.components → (n : ℕ) (text other : List ℕ)
      → Ends s text → Ends (served_by n s) other → text ≡ other
  pub free :
      (s : Responder) (n : ℕ) (line text other : List ℕ) → (AsksAudit s line → ⊥) → AreSame s n line text other
      → text ≡ other
  pub distinct :
      (o : Options) (lines : List (List ℕ)) (text : List ℕ) (s : Responder) → IsAnswered o lines text s
      → IsDistinct bytes_eq s.components

-- The texts that are written for lines with each number of workers are the same, reply by reply, with one status if no line
-- follows. They are one text where no line after the repository asks for an audit. A repository is refused in one way, and
-- if it is refused nothing else is written.
pub record TranscriptsAreDetermined : Type 0 where
  pub answers :
      (o : Options) (n : ℕ) (lines : List (List ℕ)) (text other : List ℕ) (s s' : Responder)
      → IsAnswered o lines text s → IsAnswered (with_workers n o) lines other s' → s' ≡ served_by n s
  pub transcripts :
      (o : Options) (n : ℕ) (lines : List (List ℕ)) (text other : List ℕ)
      → Transcript o lines text → Transcript (with_workers n o) lines other → AreSameTexts o n lines text other
  pub endings :
      (o : Options) (n : ℕ) (lines : List (List ℕ)) (text other : List ℕ) (status status' : Status)
      → Ending o lines text status → Ending (with_workers n o) lines other status'
      → AreSameTexts o n lines text other × (status ≡ status')
  pub free :
      (o : Options) (n : ℕ) (lines : List (List ℕ)) (text other : List ℕ) → HaveNoAudit lines
      → AreSameTexts o n lines text other → text ≡ other
  pub refusals : (lines : List (List ℕ)) → IsDetermined (IsRefused lines)
  pub no_transcript :
      (o : Options) (lines : List (List ℕ)) (text other : List ℕ) → IsRefused lines text → Transcript o lines other → ⊥
  pub no_ending :
      (o : Options) (lines : List (List ℕ)) (text other : List ℕ) (status : Status)
      → IsRefused lines text → Ending o lines other status → ⊥

-- For the same bytes, and words that ask for the same but for the number of workers, outputs are the same, reply by reply,
-- with one status. They are one text where no line after the repository asks for an audit.
pub record OutputsAreDetermined : Type 0 where
  pub sessions :
      (o : Options) (n : ℕ) (bytes text other : List ℕ) (status status' : Status)
      → SessionOutput o bytes text status → SessionOutput (with_workers n o) bytes other status'
      → AreSameTexts o n (lines_read bytes) text other × (status ≡ status')
  pub outputs :
      (words others : List (List ℕ)) (bytes text other : List ℕ) (status status' : Status) → AskAlike words others
      → Output words bytes text status → Output others bytes other status'
      → AreSameOutputs words bytes text other × (status ≡ status')
  pub alike :
      (words : List (List ℕ)) (bytes text : List ℕ) (status : Status) → Output words bytes text status
      → AskAlike words words
  pub free :
      (words : List (List ℕ)) (bytes text other : List ℕ)
      → ((read : List ℕ) → IsRead words bytes read → HaveNoAudit (lines_read read))
      → AreSameOutputs words bytes text other → text ≡ other
