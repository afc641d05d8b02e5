-- What is written for bytes is one text, with one status, whatever the number of workers, but for audits.
use Rattle.std.proofs.Common.{ℕ, ◌≡◌, List, length, refl, sym, ◌∙◌, subst}
use Rattle.cls_lexer.specs.Lines.{lines_of}
use Rattle.cls_engine.specs.declared.options.Options.{Options}
use Rattle.cls_session.specs.declared.status.Status.{Status}
use Rattle.cls_session.specs.declared.words.Command.TheVariants.{Session, Generate}
use Rattle.cls_laws.specs.Alike.{with_workers, AreSameTexts, AskAlike, IsRead, AreSameOutputs}
use Rattle.cls_laws.specs.Alike as alike
use Rattle.cls_session.specs.Commands.{Asks, AsksNothing}
use Rattle.cls_session.specs.Generators.{generated_text}
use Rattle.cls_laws.specs.Uniqueness.{HaveNoAudit, OutputsAreDetermined}
use Rattle.cls_session.specs.Outputs.{lines_read, SessionOutput, Output}
use Rattle.cls_session.specs.Outputs as outputs
use Rattle.cls_session.specs.Transcripts.{IsRefused}
use Rattle.cls_session.proofs.CommandWords.{commands_are_one}
use Rattle.cls_session.proofs.RepositoryAnswers.{few_or_many, all_lines}
use Rattle.cls_laws.proofs.OneTranscript.{transcripts_determined, refusal_one, refused_or_going, refused_or_ended}
use Rattle.cls_session.proofs.Outputs.{lines_read-short}

module _ (o : Options) (bytes : List ℕ) (n : ℕ) where
  session_output_same : (t u : List ℕ) (status status' : Status) → SessionOutput o bytes t status → SessionOutput (with_workers n o) bytes u status' → AreSameTexts o n (lines_read bytes) t u × (status ≡ status')
  session_output_same t u status status' (outputs.SessionOutput.refused h e) (outputs.SessionOutput.refused k f) = (alike.AreSameTexts.one_text (refusal_one (lines_read bytes) t u h k), e ∙ sym f)
  session_output_same t u status status' (outputs.SessionOutput.refused h e) (outputs.SessionOutput.ended few k) = absurd (refused_or_ended (with_workers n o) (lines_of bytes) t u status' (all_lines bytes (λ ls. IsRefused ls t) few h) k)
  session_output_same t u status status' (outputs.SessionOutput.refused h e) (outputs.SessionOutput.too_long many k f) = absurd (refused_or_going (with_workers n o) (lines_read bytes) t u h k)
  session_output_same t u status status' (outputs.SessionOutput.ended few h) (outputs.SessionOutput.refused k f) = absurd (refused_or_ended o (lines_of bytes) u t status (all_lines bytes (λ ls. IsRefused ls u) few k) h)
  session_output_same t u status status' (outputs.SessionOutput.ended few h) (outputs.SessionOutput.ended few' k) =
      let same = transcripts_determined.endings o n (lines_of bytes) t u status status' h k in
      (subst (λ (ls : List (List ℕ)). AreSameTexts o n ls t u) (sym (lines_read-short bytes few)) same.0, same.1)
  session_output_same t u status status' (outputs.SessionOutput.ended few h) (outputs.SessionOutput.too_long many k f) = absurd (few_or_many (length bytes) few many)
  session_output_same t u status status' (outputs.SessionOutput.too_long many h e) (outputs.SessionOutput.refused k f) = absurd (refused_or_going o (lines_read bytes) u t k h)
  session_output_same t u status status' (outputs.SessionOutput.too_long many h e) (outputs.SessionOutput.ended few k) = absurd (few_or_many (length bytes) few many)
  session_output_same t u status status' (outputs.SessionOutput.too_long many h e) (outputs.SessionOutput.too_long many' k f) = (transcripts_determined.transcripts o n (lines_read bytes) t u h k, e ∙ sym f)

same_options : (o o' : Options) → Session o ≡ Session o' → o ≡ o'
same_options o o' e = cc

same_generator : (o o' : Options) (n m : ℕ) → Generate o n ≡ Generate o' m → (o ≡ o') × (n ≡ m)
same_generator o o' n m e = (cc, cc)

no_generator : (o o' : Options) (n : ℕ) → Session o ≡ Generate o' n → ⊥
no_generator o o' n e = cc

-- WORDS
module _ (words others : List (List ℕ)) (bytes t u : List ℕ) (status status' : Status) where
  -- both sessions, or both over the generator's text
  of_session : (o : Options) (n : ℕ) → Asks words (Session o) → SessionOutput o bytes t status → SessionOutput (with_workers n o) bytes u status' → AreSameOutputs words bytes t u × (status ≡ status')
  of_session o n a h k =
      let same = session_output_same o bytes n t u status status' h k in
      (alike.AreSameOutputs.texts bytes (alike.IsRead.of_source o a refl) o n same.0, same.1)

  of_generator : (o : Options) (n count : ℕ) → Asks words (Generate o count) → SessionOutput o (generated_text count) t status → SessionOutput (with_workers n o) (generated_text count) u status' → AreSameOutputs words bytes t u × (status ≡ status')
  of_generator o n count a h k =
      let same = session_output_same o (generated_text count) n t u status status' h k in
      (alike.AreSameOutputs.texts (generated_text count) (alike.IsRead.of_generator o count a refl) o n same.0, same.1)

  -- what a run with words that ask for a session writes
  session_of : (ws : List (List ℕ)) (o : Options) (text : List ℕ) (s : Status) → Asks ws (Session o) → Output ws bytes text s → SessionOutput o bytes text s
  session_of ws o text s a (outputs.Output.no_command free p e) = absurd (free (Session o) a)
  session_of ws o text s a (outputs.Output.of_session o' b k) = subst (λ (x : Options). SessionOutput x bytes text s) (sym (same_options o o' (commands_are_one.one ws (Session o) (Session o') a b))) k
  session_of ws o text s a (outputs.Output.of_generator o' m b k) = absurd (no_generator o o' m (commands_are_one.one ws (Session o) (Generate o' m) a b))

  generator_of : (ws : List (List ℕ)) (o : Options) (count : ℕ) (text : List ℕ) (s : Status) → Asks ws (Generate o count) → Output ws bytes text s → SessionOutput o (generated_text count) text s
  generator_of ws o count text s a (outputs.Output.no_command free p e) = absurd (free (Generate o count) a)
  generator_of ws o count text s a (outputs.Output.of_session o' b k) = absurd (no_generator o' o count (commands_are_one.one ws (Session o') (Generate o count) b a))
  generator_of ws o count text s a (outputs.Output.of_generator o' m b k) =
      let (same, number) = same_generator o o' count m (commands_are_one.one ws (Generate o count) (Generate o' m) a b) in
      subst (λ (x : Options). SessionOutput x (generated_text count) text s) (sym same) (subst (λ (y : ℕ). SessionOutput o' (generated_text y) text s) (sym number) k)

  -- words that ask for nothing
  of_nothing : Output words bytes t status → Output others bytes u status' → AsksNothing words → AsksNothing others → AreSameOutputs words bytes t u × (status ≡ status')
  of_nothing (outputs.Output.no_command free p e) (outputs.Output.no_command free' q f) a b = (alike.AreSameOutputs.usage (p ∙ sym q), e ∙ sym f)
  of_nothing (outputs.Output.no_command free p e) (outputs.Output.of_session o c k) a b = absurd (b (Session o) c)
  of_nothing (outputs.Output.no_command free p e) (outputs.Output.of_generator o m c k) a b = absurd (b (Generate o m) c)
  of_nothing (outputs.Output.of_session o c h) k a b = absurd (a (Session o) c)
  of_nothing (outputs.Output.of_generator o m c h) k a b = absurd (a (Generate o m) c)

  output_same : AskAlike words others → Output words bytes t status → Output others bytes u status' → AreSameOutputs words bytes t u × (status ≡ status')
  output_same (alike.AskAlike.nothing a b) h k = of_nothing h k a b
  output_same (alike.AskAlike.sessions o n a b) h k = of_session o n a (session_of words o t status a h) (session_of others (with_workers n o) u status' b k)
  output_same (alike.AskAlike.generators o n count a b) h k = of_generator o n count a (generator_of words o count t status a h) (generator_of others (with_workers n o) count u status' b k)

alike_self : (words : List (List ℕ)) (bytes text : List ℕ) (status : Status) → Output words bytes text status → AskAlike words words
alike_self words bytes text status (outputs.Output.no_command free p e) = alike.AskAlike.nothing free free
alike_self words bytes text status (outputs.Output.of_session o a h) = alike.AskAlike.sessions o o.workers a a
alike_self words bytes text status (outputs.Output.of_generator o m a h) = alike.AskAlike.generators o o.workers m a a

outputs_free : (words : List (List ℕ)) (bytes t u : List ℕ) → ((read : List ℕ) → IsRead words bytes read → HaveNoAudit (lines_read read)) → AreSameOutputs words bytes t u → t ≡ u
outputs_free words bytes t u none (alike.AreSameOutputs.usage e) = e
outputs_free words bytes t u none (alike.AreSameOutputs.texts read r o n same) = transcripts_determined.free o n (lines_read read) t u (none read r) same

pub outputs_determined : OutputsAreDetermined
outputs_determined = record {
  sessions = λ o n bytes t u status status' h k. session_output_same o bytes n t u status status' h k;
  outputs = output_same;
  alike = alike_self;
  free = outputs_free;
}
