-- What is known of a session holds for the words that ask for it, over the input or over the generator's text.
use Rattle.std.proofs.Common.{◌≡◌, ℕ, List, [], refl, sym, subst}
use Rattle.std.specs.Prelude.{Option, None, Some, IfSome}
use Rattle.std.proofs.KnownBytes.{Appends-nil}
use Rattle.cls_base.specs.Outside.{SourceSeen, SinkSeen}
use Rattle.cls_repo.specs.Readings.{no_reading}
use Rattle.cls_engine.specs.declared.options.Options.{Options}
use Rattle.cls_session.specs.declared.status.Status.{Status}
use Rattle.cls_session.specs.declared.words.Command.TheVariants.{Session, Generate}
use Rattle.cls_session.specs.Commands.{Asks}
use Rattle.cls_session.specs.Generators.{generated_text}
use Rattle.cls_session.specs.Outputs.{lines_read, SessionOutput, Output, of_session, of_generator, SessionText, after_lines, MayStand, of_text, of_generated_text, Gives, GivesFront, Answers, BeginsAnswers, IsEnoughRoom, HasRoom, SessionTaken, AnswersTaken, SessionPace, KeepsPace, SessionAnswers, SessionBegins, SessionRoom}
use Rattle.cls_session.specs.Transcripts.{opening}
use Rattle.cls_session.proofs.CommandWords.{session_one, no_session}
use Rattle.cls_session.proofs.Outputs.{if_some}

module _ {A : Type 0} where
  some_map : (left : Option A) (P Q : A → Type 0) → ((a : A) → P a → Q a) → IfSome left P → IfSome left Q
  some_map None P Q f h = tt
  some_map (Some a) P Q f h = f a h

module _ {sink sink' : SinkSeen} (P Q : List ℕ → Type 0) (f : (text : List ℕ) → P text → Q text) where
  gives_map : Gives P sink sink' → Gives Q sink sink'
  gives_map g = record { text = g.text; meets = f g.text g.meets; written = g.written }

  front_map : GivesFront P sink sink' → GivesFront Q sink sink'
  front_map g = record { front = g.front; rest = g.rest; meets = f _ g.meets; written = g.written }

-- The words ask for a session over the input.
module _ (words : List (List ℕ)) (o : Options) (asks : Asks words (Session o)) (source : SourceSeen) (sink : SinkSeen) where
  enough_for_session : (left : Option (List ℕ)) (n : ℕ) → IsEnoughRoom (MayStand words) left n → IsEnoughRoom (SessionText o) left n
  enough_for_session None n h = λ bytes text t. h bytes text (of_text o asks t)
  enough_for_session (Some bytes) n h = λ text t. h text (of_text o asks t)

  pub session_room : HasRoom words source sink → SessionRoom o source sink
  session_room = some_map sink.room (λ n. IsEnoughRoom (MayStand words) source.left n) (λ n. IsEnoughRoom (SessionText o) source.left n) (enough_for_session source.left)

  module _ (sink' : SinkSeen) where
    pub session_answers : (end : Status) → SessionAnswers o source sink sink' end → Answers words source sink sink' end
    session_answers end = some_map source.left
        (λ bytes. Gives (λ text. SessionOutput o bytes text end) sink sink') (λ bytes. Gives (λ text. Output words bytes text end) sink sink')
        (λ bytes. gives_map (λ text. SessionOutput o bytes text end) (λ text. Output words bytes text end) (λ text. of_session o asks))

    pub session_begins : SessionBegins o source sink sink' → BeginsAnswers words source sink sink'
    session_begins = some_map source.left
        (λ bytes. GivesFront (SessionText o bytes) sink sink') (λ bytes. GivesFront (MayStand words bytes) sink sink')
        (λ bytes. front_map (SessionText o bytes) (MayStand words bytes) (λ text. of_text o asks))

    module _ (source' : SourceSeen) where
      pub session_taken : SessionTaken o source source' sink sink' → AnswersTaken words source source' sink sink'
      session_taken h = record { options = o; asked = asks; answered = h }

      pub session_pace : SessionPace o source source' sink sink' → KeepsPace words source source' sink sink'
      session_pace h = λ p asked. subst (λ (q : Options). SessionPace q source source' sink sink') (session_one words o p asks asked) h

-- The words ask for the generator.
module _ (words : List (List ℕ)) (o : Options) (n : ℕ) (asks : Asks words (Generate o n)) (source : SourceSeen) (sink : SinkSeen) where
  enough_for_generated : (left : Option (List ℕ)) (m : ℕ) → IsEnoughRoom (MayStand words) left m → IsEnoughRoom (SessionText o) (Some (generated_text n)) m
  enough_for_generated None m h = λ text t. h [] text (of_generated_text o n asks t)
  enough_for_generated (Some bytes) m h = λ text t. h text (of_generated_text o n asks t)

  pub generated_room : HasRoom words source sink → IfSome sink.room (λ m. IsEnoughRoom (SessionText o) (Some (generated_text n)) m)
  generated_room = some_map sink.room (λ m. IsEnoughRoom (MayStand words) source.left m) (λ m. IsEnoughRoom (SessionText o) (Some (generated_text n)) m) (enough_for_generated source.left)

  module _ (sink' : SinkSeen) where
    pub generated_answers : (end : Status) → Gives (λ text. SessionOutput o (generated_text n) text end) sink sink' → Answers words source sink sink' end
    generated_answers end g = if_some source.left (λ bytes. Gives (λ text. Output words bytes text end) sink sink')
        (λ bytes e. gives_map (λ text. SessionOutput o (generated_text n) text end) (λ text. Output words bytes text end) (λ text. of_generator o n asks) g)

    pub generated_begins : GivesFront (SessionText o (generated_text n)) sink sink' → BeginsAnswers words source sink sink'
    generated_begins g = if_some source.left (λ bytes. GivesFront (MayStand words bytes) sink sink')
        (λ bytes e. front_map (SessionText o (generated_text n)) (MayStand words bytes) (λ text. of_generated_text o n asks) g)

    pub generated_pace : KeepsPace words source source sink sink'
    generated_pace = λ p asked. absurd (no_session words o p n asks asked)

-- A source tells the text.
module _ (o : Options) (bytes text : List ℕ) (e : bytes ≡ text) (sink : SinkSeen) where
  pub told_room : IfSome sink.room (λ n. IsEnoughRoom (SessionText o) (Some text) n) → IfSome sink.room (λ n. IsEnoughRoom (SessionText o) (Some bytes) n)
  told_room = subst (λ (x : List ℕ). IfSome sink.room (λ n. IsEnoughRoom (SessionText o) (Some x) n)) (sym e)

  module _ (sink' : SinkSeen) where
    pub told_answers : (end : Status) → Gives (λ t. SessionOutput o bytes t end) sink sink' → Gives (λ t. SessionOutput o text t end) sink sink'
    told_answers end = subst (λ (x : List ℕ). Gives (λ t. SessionOutput o x t end) sink sink') e

    pub told_begins : GivesFront (SessionText o bytes) sink sink' → GivesFront (SessionText o text) sink sink'
    told_begins = subst (λ (x : List ℕ). GivesFront (SessionText o x) sink sink') e

-- before anything is written, the empty text may stand
pub none_begins : (o : Options) (bytes : List ℕ) (sink : SinkSeen) → GivesFront (SessionText o bytes) sink sink
none_begins o bytes sink = record {
  front = [];
  rest = [];
  meets = after_lines [] (lines_read bytes) refl (opening no_reading record { taken = refl; unended = refl } refl);
  written = Appends-nil sink.held;
}
