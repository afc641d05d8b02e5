-- What may differ between two runs over the same lines: the number of workers, and with it the replies to audits.
use Rattle.std.specs.Prelude.{ℕ, ◌≡◌, List, [], ◌∷◌, ◌++◌}
use Rattle.cls_base.specs.Types.{ClosedType}
use Rattle.cls_engine.specs.declared.options.Options.{Options}
use Rattle.cls_query.specs.Queries.{audit}
use Rattle.cls_repo.specs.Drafts.{Draft}
use Rattle.cls_replies.specs.Answering as answering
use Rattle.cls_replies.specs.Lines.{Goes}
use Rattle.cls_replies.specs.Replies.{Reply}
use Rattle.cls_replies.specs.Responder.{Responder, Serves}
use Rattle.cls_session.specs.declared.words.Command.TheVariants.{Session, Generate}
use Rattle.cls_session.specs.Commands.{Asks, AsksNothing}
use Rattle.cls_session.specs.Generators.{generated_text}
use Rattle.cls_session.specs.Outputs.{lines_read}
use Rattle.cls_session.specs.Repositories.{IsRepository}

-- the same options but for n workers
abbrev pub with_workers : ℕ → Options → Options
with_workers n o = record o { workers = n }

-- what answers queries, by n workers
abbrev pub served_by : ℕ → Responder → Responder
served_by n s = record s { engine = record s.engine { options = with_workers n s.engine.options } }

-- Two replies to a line, one where queries are answered by s and one where they are answered by n workers: they are one
-- text, or the line asks for an audit, and each of them tells a legal complete history.
pub data AreSame (s : Responder) (n : ℕ) (line text other : List ℕ) : Type 0 where
  one_text : text ≡ other → AreSame s n line text other
  histories : (goal : ClosedType) (m : Responder) → s.held ≡ [] → answering.Asks s line (audit goal) m
      → Reply m (audit goal) text → Reply (served_by n m) (audit goal) other → AreSame s n line text other

-- The replies to lines in turn: those to each line are the same in this sense.
abbrev pub AreSameReplies : Responder → ℕ → (lines : List (List ℕ)) → (text other : List ℕ) → Type 0
AreSameReplies s n [] text other = (text ≡ []) × (other ≡ [])
AreSameReplies s n (line ∷ lines) text other =
    (first second rest rest' : List ℕ) × (s' : Responder) × Goes s line first s' × AreSame s n line first second
    × AreSameReplies s' n lines rest rest' × (text ≡ first ++ rest) × (other ≡ second ++ rest')

-- Two texts for the same lines, with these options and with n workers: they are one text, or both have the replies to the
-- lines after a repository, which are the same one by one, and the same end.
pub data AreSameTexts (o : Options) (n : ℕ) (lines : List (List ℕ)) (text other : List ℕ) : Type 0 where
  one_text : text ≡ other → AreSameTexts o n lines text other
  replies :
      (repository queries : List (List ℕ)) (end : List ℕ) (d : Draft) (s : Responder) → lines ≡ repository ++ end ∷ queries
      → IsRepository repository end d → Serves o d s → (first second last : List ℕ) → AreSameReplies s n queries first second
      → text ≡ first ++ last → other ≡ second ++ last → AreSameTexts o n lines text other

-- Two lists of words ask for the same but for the number of workers, or both for nothing.
pub data AskAlike (words others : List (List ℕ)) : Type 0 where
  nothing : AsksNothing words → AsksNothing others → AskAlike words others
  sessions : (o : Options) (n : ℕ) → Asks words (Session o) → Asks others (Session (with_workers n o))
      → AskAlike words others
  generators : (o : Options) (n count : ℕ) → Asks words (Generate o count) → Asks others (Generate (with_workers n o) count)
      → AskAlike words others

-- What a run reads its lines from: the bytes of the source, or the generator's text.
pub data IsRead (words : List (List ℕ)) (bytes read : List ℕ) : Type 0 where
  of_source : (o : Options) → Asks words (Session o) → read ≡ bytes → IsRead words bytes read
  of_generator : (o : Options) (n : ℕ) → Asks words (Generate o n) → read ≡ generated_text n → IsRead words bytes read

-- Two outputs for the same bytes by such words.
pub data AreSameOutputs (words : List (List ℕ)) (bytes text other : List ℕ) : Type 0 where
  usage : text ≡ other → AreSameOutputs words bytes text other
  texts : (read : List ℕ) → IsRead words bytes read → (o : Options) (n : ℕ) → AreSameTexts o n (lines_read read) text other
      → AreSameOutputs words bytes text other
