-- What a run of clsynth did that ended with a status.
use Rattle.std.specs.Prelude.{ℕ, ◌≡◌, List}
use Rattle.std.specs.Io.KnownBytes.{IsAtEnd, Keeps}
use Rattle.cls_base.specs.Outside.{SourceSeen, SinkSeen, HasRisen}
use Rattle.cls_session.specs.declared.status.Status.{Status}
use Rattle.cls_session.specs.declared.status.Status.TheVariants.{Done, Usage, ReadFault, WriteFault}
use Rattle.cls_session.specs.Commands.{AsksSession}
use Rattle.cls_session.specs.Outputs.{IsWhole, IsBrokenOff, IsCutOff, Answers, BeginsAnswers, AnswersTaken, BeginsTaken, KeepsPace}

-- With these words a run went over this source and sink and ended with this status. The facts are the clauses of `run`.
pub record IsRun (words : List (List ℕ)) (source source' : SourceSeen) (sink sink' : SinkSeen) (status : Status) : Type 0 where
  pub output : IsWhole status → Answers words source sink sink' status
  pub read_whole : status ≡ Done → AsksSession words → IsAtEnd source'.left
  pub unread : status ≡ Usage → Keeps source.left source'.left
  pub unasked : (AsksSession words → ⊥) → source' ≡ source
  pub none_waits : status ≡ ReadFault → AnswersTaken words source source' sink sink'
  pub begins_taken : status ≡ ReadFault → BeginsTaken words source source' sink sink'
  pub begins : IsCutOff status → BeginsAnswers words source sink sink'
  pub keeps_pace : IsBrokenOff status → KeepsPace words source source' sink sink'
  pub read_fault : status ≡ ReadFault → HasRisen source.faults source'.faults
  pub write_fault : status ≡ WriteFault → HasRisen sink.faults sink'.faults
  pub no_read_fault : IsWhole status → source'.faults ≡ source.faults
  pub no_write_fault : IsWhole status → sink'.faults ≡ sink.faults
