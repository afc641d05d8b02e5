-- What exists for each library and goal, as statements.
use Rattle.std.specs.Prelude.{ℕ, ◌⊎◌, ◌<◌, Bool, List, ◌++◌, IfSome}
use Rattle.std.specs.Ordering.{eq_by_cmp}
use Rattle.cls_base.specs.Outside.{SourceSeen, SinkSeen}
use Rattle.cls_base.specs.Pages.{Request, IsPage}
use Rattle.cls_base.specs.Terms.{Applicative}
use Rattle.cls_base.specs.Types.{ClosedType}
use Rattle.cls_path.specs.Paths.{TypePath}
use Rattle.cls_path.specs.PathOrder.{list_order}
use Rattle.cls_core.specs.declared.answer.Answer.{Answer}
use Rattle.cls_core.specs.declared.entry.Entry.{Entry}
use Rattle.cls_core.specs.Rows.{Machine, Row}
use Rattle.cls_core.specs.Closure.{HasMoreGoals}
use Rattle.cls_core.specs.Canonical.{IsCanonical}
use Rattle.cls_core.specs.Laws.{Completes}
use Rattle.cls_library.specs.Libraries.{Library, IsLibrary}
use Rattle.cls_library.specs.Typing.{HasTypeIn}
use Rattle.cls_expand.specs.Answers.{IsAnswer}
use Rattle.cls_filter.specs.Automata as automata
use Rattle.cls_filter.specs.Automata.{Automaton}
use Rattle.cls_filter.specs.States.{IsAutomaton}
use Rattle.cls_finite.specs.declared.answer.FiniteAnswer.{FiniteAnswer}
use Rattle.cls_grammar.specs.GrammarTexts.{IsGrammarText}
use Rattle.cls_proof.specs.Certificates.{Certificate}
use Rattle.cls_proof.specs.Reading.{SaysCertificate, IsFirstBad, LacksQed}
use Rattle.cls_check.specs.declared.fault.Reason.{Reason}
use Rattle.cls_check.specs.Checking.{Accepts, Refuses}
use Rattle.cls_engine.specs.declared.options.Options.{Options}
use Rattle.cls_engine.specs.Certified.{IsCertified}
use Rattle.cls_engine.specs.Faults.{closure_faults, filter_faults, AreSilent}
use Rattle.cls_engine.specs.Goals.{Goal, IsClosed}
use Rattle.cls_engine.specs.Histories.{IsHistoryOf}
use Rattle.cls_replies.specs.Replies.{TellsSizes}
use Rattle.cls_replies.specs.Lines.{Goes, Ends}
use Rattle.cls_replies.specs.Responder.{Responder}
use Rattle.cls_session.specs.declared.status.Status.{Status}
use Rattle.cls_session.specs.Outputs.{Output, MayStand, IsEnoughRoom, HasRoom}
use Rattle.cls_session.specs.Transcripts.{IsAnswered, Transcript, IsRefused, Ending}
use Rattle.cls_laws.specs.Possible.{IsPossible}
use Rattle.cls_laws.specs.Histories.{AreBy}

-- Each goal has an answer: its rules, or that it is wide.
abbrev pub AnswersExist : Type 0
AnswersExist =
    (lib : Library) → IsLibrary lib → (goal : List TypePath)
    → IsPossible ((a : Answer (List TypePath)) × IsAnswer lib goal a)

-- A closure of at most n goals can be worked off, by any one worker.
abbrev pub HistoriesExist : Type 0
HistoriesExist =
    (lib : Library) → IsLibrary lib → (goal : List TypePath) (n worker : ℕ)
    → (HasMoreGoals (IsAnswer lib) goal n → ⊥)
    → IsPossible ((events : List Entry) × (rows : Machine (List TypePath))
    × Completes (eq_by_cmp list_order) (IsAnswer lib) goal events rows × AreBy worker events)

-- It has rows in the canonical numbering.
abbrev pub ClosuresExist : Type 0
ClosuresExist =
    (lib : Library) → IsLibrary lib → (goal : List TypePath) (n : ℕ) → (HasMoreGoals (IsAnswer lib) goal n → ⊥)
    → IsPossible ((rows : List (Row (List TypePath))) × IsCanonical (eq_by_cmp list_order) (IsAnswer lib) goal rows)

-- Each grammar has a text, whatever names its constructors and components have.
abbrev pub GrammarTextsExist : Type 0
GrammarTextsExist =
    (name component : ℕ → List ℕ) (rows : List (Row (List TypePath)))
    → IsPossible ((text : List ℕ) × IsGrammarText name component rows text)

-- The certificate is accepted for the type, or refused.
abbrev pub HasVerdict : Library → ClosedType → Certificate → Type 0
HasVerdict lib asked c = Accepts lib asked c ⊎ ((p : ℕ × Reason) × Refuses lib asked c p)

abbrev pub VerdictsExist : Type 0
VerdictsExist = (lib : Library) (asked : ClosedType) (c : Certificate) → IsPossible (HasVerdict lib asked c)

-- The lines say a certificate, where `old` are the constructors so far; or one is the first bad one, or none is `qed`.
abbrev pub HasReading : (old components lines : List (List ℕ)) → Type 0
HasReading old components lines =
    ((new : List (List ℕ)) × (c : Certificate) × SaysCertificate old new components lines c)
    ⊎ ((n : ℕ) × IsFirstBad components lines n) ⊎ LacksQed components lines

abbrev pub ReadingsExist : Type 0
ReadingsExist = (old components lines : List (List ℕ)) → IsPossible (HasReading old components lines)

-- OF A TYPE THAT THE ENGINE CAN WORK ON: no fault of its closure applies

-- It has a closure,
abbrev pub TypesHaveClosures : Type 0
TypesHaveClosures =
    (lib : Library) → IsLibrary lib → (o : Options) (t : ClosedType) → AreSilent (closure_faults lib o t)
    → IsPossible ((rows : List (Row Goal)) × IsClosed lib t rows)

-- a history that audits may tell,
abbrev pub AuditsExist : Type 0
AuditsExist =
    (lib : Library) → IsLibrary lib → (o : Options) (t : ClosedType) → AreSilent (closure_faults lib o t)
    → IsPossible ((events : List Entry) × IsHistoryOf lib o.workers t events)

-- a certificate,
abbrev pub CertificatesExist : Type 0
CertificatesExist =
    (lib : Library) → IsLibrary lib → (o : Options) (t : ClosedType) → AreSilent (closure_faults lib o t)
    → IsPossible ((c : Certificate) × IsCertified lib t c)

-- sizes of its terms that can be told, if each component costs at least 1,
abbrev pub SizesExist : Type 0
SizesExist =
    (lib : Library) → IsLibrary lib → (o : Options) (t : ClosedType) → AreSilent (closure_faults lib o t)
    → (cost : ℕ → ℕ) → ((x : ℕ) → 0 < cost x) → IsPossible ((sizes : FiniteAnswer) × TellsSizes lib cost t sizes)

-- each page that asks for a term or more, with such costs,
abbrev pub PagesExist : Type 0
PagesExist =
    (lib : Library) → IsLibrary lib → (o : Options) (t : ClosedType) → AreSilent (closure_faults lib o t)
    → (q : Request) → ((x : ℕ) → 0 < q.cost x) → 0 < q.take
    → IsPossible ((terms : List Applicative) × (more : Bool) × IsPage (λ e. HasTypeIn lib e t) q terms more)

-- and such a page of the terms that an automaton accepts, if no fault of filtering applies either.
abbrev pub FilteredPagesExist : Type 0
FilteredPagesExist =
    (lib : Library) → IsLibrary lib → (o : Options) (t : ClosedType) (a : Automaton) → IsAutomaton a → (q : Request)
    → AreSilent (filter_faults lib o t a q) → ((x : ℕ) → 0 < q.cost x) → 0 < q.take
    → IsPossible ((terms : List Applicative) × (more : Bool)
    × IsPage (λ e. HasTypeIn lib e t × automata.Accepts a e) q terms more)

-- OF A RUN: the text is written for the lines, and `s` answers after them.

-- Each line more has a reply, and lines that end there are ended by a text.
pub record LinesHaveReplies : Type 0 where
  pub goes :
      (o : Options) (lines : List (List ℕ)) (text : List ℕ) (s : Responder) → IsAnswered o lines text s → (line : List ℕ)
      → IsPossible ((reply : List ℕ) × (s' : Responder) × Goes s line reply s')
  pub ends :
      (o : Options) (lines : List (List ℕ)) (text : List ℕ) (s : Responder) → IsAnswered o lines text s
      → IsPossible ((last : List ℕ) × Ends s last)

-- What stands written for lines goes on with each line more, or these are refused; and it ends if no line follows.
pub record TranscriptsGoOn : Type 0 where
  pub goes :
      (o : Options) (lines more : List (List ℕ)) (text : List ℕ) → Transcript o lines text
      → IsPossible ((rest : List ℕ)
      × (Transcript o (lines ++ more) (text ++ rest) ⊎ IsRefused (lines ++ more) (text ++ rest)))
  pub ends :
      (o : Options) (lines : List (List ℕ)) (text : List ℕ) → Transcript o lines text
      → IsPossible ((last : List ℕ) × (status : Status) × Ending o lines (text ++ last) status)

-- Each words and bytes have an output.
abbrev pub OutputsExist : Type 0
OutputsExist =
    (words : List (List ℕ)) (bytes : List ℕ)
    → IsPossible ((text : List ℕ) × (status : Status) × Output words bytes text status)

-- What may stand written at one time or another begins an output.
abbrev pub WhatMayStandBegins : Type 0
WhatMayStandBegins =
    (words : List (List ℕ)) (bytes text : List ℕ) → MayStand words bytes text
    → IsPossible ((rest : List ℕ) × (status : Status) × Output words bytes (text ++ rest) status)

-- The room that the sink tells is enough for each output, for the bytes that the source tells.
abbrev pub HasRoomForOutputs : List (List ℕ) → SourceSeen → SinkSeen → Type 0
HasRoomForOutputs words source sink =
    IfSome sink.room (λ n. IsEnoughRoom (λ bytes text. (status : Status) × Output words bytes text status) source.left n)

-- Room for each output is the room that a run requires.
abbrev pub RoomForOutputsIsEnough : Type 0
RoomForOutputsIsEnough =
    (words : List (List ℕ)) (source : SourceSeen) (sink : SinkSeen)
    → HasRoomForOutputs words source sink → HasRoom words source sink
