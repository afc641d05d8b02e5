-- What is written for lines: the language of clsynth.
use Rattle.std.specs.Prelude.{ℕ, ◌≡◌, List, [], ◌∷◌, ◌++◌, codes}
use Rattle.std.specs.Fmt.{decimal}
use Rattle.cls_engine.specs.declared.options.Options.{Options}
use Rattle.cls_repo.specs.Drafts.{Draft}
use Rattle.cls_repo.specs.Readings.{Reading}
use Rattle.cls_replies.specs.Lines.{Replies, Ends}
use Rattle.cls_replies.specs.Responder.{Responder, Serves}
use Rattle.cls_replies.specs.Texts.{reply_line}
use Rattle.cls_session.specs.declared.status.Status.{Status}
use Rattle.cls_session.specs.declared.status.Status.TheVariants.{Done, Refused}
use Rattle.cls_session.specs.Repositories.{AreTaken, IsRepository, IsFirstFault}

-- The lines are a repository, the line `end`, and lines whose replies the text holds. The repository is kept as `s` after them.
pub record IsAnswered (o : Options) (lines : List (List ℕ)) (text : List ℕ) (s : Responder) : Type 0 where
  pub repository : List (List ℕ)
  pub end : List ℕ
  pub queries : List (List ℕ)
  pub split : lines ≡ repository ++ end ∷ queries
  pub declared : Draft
  pub reads : IsRepository repository end declared
  pub opened : Responder
  pub serves : Serves o declared opened
  pub replies : Replies opened queries text s

-- What is written for these lines if more may follow: nothing before the line `end`, and then the replies.
pub data Transcript (o : Options) (lines : List (List ℕ)) (text : List ℕ) : Type 0 where
  opening : (reading : Reading) → AreTaken lines reading → text ≡ [] → Transcript o lines text
  answering : (s : Responder) → IsAnswered o lines text s → Transcript o lines text

-- refused LINE WORDS
abbrev pub refusal : ℕ × List ℕ → List ℕ
refusal said = reply_line (codes "refused " ++ decimal said.0 ++ codes " " ++ said.1)

-- The first fault of the repository is all that is written.
pub record IsRefused (lines : List (List ℕ)) (text : List ℕ) : Type 0 where
  pub said : ℕ × List ℕ
  pub fault : IsFirstFault lines said
  pub written : text ≡ refusal said

-- What is written for these lines if no more follow, and the status. If the line `end` is missing, the number of lines is
-- the place of the fault. A certificate that hasn't ended ends with the lines.
pub data Ending (o : Options) (lines : List (List ℕ)) (text : List ℕ) (status : Status) : Type 0 where
  without_end : (reading : Reading) → AreTaken lines reading → text ≡ refusal (reading.lines, codes "no-end")
      → status ≡ Refused → Ending o lines text status
  complete : (s : Responder) (replies last : List ℕ) → IsAnswered o lines replies s → Ends s last → text ≡ replies ++ last
      → status ≡ Done → Ending o lines text status
