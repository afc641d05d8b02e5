-- What stands written for lines goes on with each line more, up to an output.
use Rattle.std.proofs.Common.{ℕ, ◌≡◌, ◌≤◌, ◌<◌, ◌⊎◌, inl, inr, refl, sym, ap, subst, ◌∙◌, arith, Bool, true, false, List, [], ◌∷◌, ◌++◌, length, take, append_assoc, append-nil}
use Rattle.std.specs.Prelude.{codes, map, nat_lt, if◌then◌else◌}
use Rattle.std.proofs.lemmas.Bool.Decides.{nat_tests}
use Rattle.cls_base.specs.Firsts.{First, IsSilent}
use Rattle.cls_base.specs.Limits.{max_input_bytes}
use Rattle.cls_lexer.specs.Lines.{lines_of, ended_lines}
use Rattle.cls_engine.specs.declared.options.Options.{Options}
use Rattle.cls_engine.specs.Engines.{seen_as}
use Rattle.cls_library.specs.Libraries.{Library}
use Rattle.cls_library.specs.Refusals.{IsLibraryOf}
use Rattle.cls_repo.specs.Drafts.{Draft}
use Rattle.cls_repo.specs.EndFaults.{declared_in, schemas_in}
use Rattle.cls_repo.specs.Readings.{Reading, no_reading, Takes, TakesAll, closing_faults}
use Rattle.cls_query.proofs.FirstErrors.{each_silent}
use Rattle.cls_replies.specs.Lines.{Goes, Ends, Replies}
use Rattle.cls_replies.specs.Responder.{Responder, Serves, responder_of}
use Rattle.cls_session.specs.declared.status.Status.{Status}
use Rattle.cls_session.specs.declared.status.Status.TheVariants.{Done, Refused, TooLong, Usage}
use Rattle.cls_session.specs.declared.words.Command.{Command}
use Rattle.cls_session.specs.declared.words.Command.TheVariants.{Session, Generate}
use Rattle.cls_session.specs.Commands.{Asks, usage}
use Rattle.cls_session.specs.Generators.{generated_text}
use Rattle.cls_session.specs.Outputs.{lines_read, SessionOutput, Output}
use Rattle.cls_session.specs.Outputs as outputs
use Rattle.cls_session.specs.Repositories.{AreTaken, IsFirstFault}
use Rattle.cls_session.specs.Repositories as repositories
use Rattle.cls_session.specs.Transcripts.{IsAnswered, Transcript, IsRefused, refusal, Ending}
use Rattle.cls_session.specs.Transcripts as transcripts
use Rattle.cls_laws.specs.Existence.{TranscriptsGoOn, OutputsExist}
use Rattle.cls_laws.specs.Possible.{IsPossible}
use Rattle.cls_laws.proofs.Classical.{surely, then as follow, after, either_way, first_decided}
use Rattle.cls_laws.proofs.Libraries.{library_exists}
use Rattle.cls_laws.proofs.Openings.{answered_can}
use Rattle.cls_laws.proofs.Replies.{next_exists, last_exists}
use Rattle.cls_laws.proofs.Takings.{IsTakenOrNot, taken_or_refused}

-- one line more of a repository
one_more : (old : Reading) (lines : List (List ℕ)) (reading : Reading) (line : List ℕ) (new : Reading) → TakesAll old lines reading → reading.ended ≡ false → Takes reading line new → new.ended ≡ false → TakesAll old (lines ++ line ∷ []) new
one_more old [] reading line new e going t on = (new, subst (λ (r : Reading). Takes r line new) e t, inr (on, refl))
one_more old (first ∷ lines) reading line new (next, t, inl (over, e)) going u on = absurd (let f : next.ended ≡ reading.ended = ap (λ (r : Reading). r.ended) (sym e) in cc)
one_more old (first ∷ lines) reading line new (next, t, inr (still, hs)) going u on = (next, t, inr (still, one_more next lines reading line new hs going u on))

-- one reply more
one_reply : (s : Responder) (rest : List (List ℕ)) (text : List ℕ) (s' : Responder) (line reply : List ℕ) (s'' : Responder) → Replies s rest text s' → Goes s' line reply s'' → Replies s (rest ++ line ∷ []) (text ++ reply) s''
one_reply s [] text s' line reply s'' h g =
    (s'', reply, [], subst (λ (m : Responder). Goes m line reply s'') h.1 g, (refl, refl), ap (λ (t : List ℕ). t ++ reply) h.0 ∙ sym (append-nil reply))
one_reply s (l ∷ rest) text s' line reply s'' (m, first, others, h, hs, e) g =
    (m, first, others ++ reply, h, one_reply m rest others s' line reply s'' hs g, ap (λ (t : List ℕ). t ++ reply) e ∙ append_assoc first others reply)

-- lines that are refused are refused whatever follows
fault_more : (lines more : List (List ℕ)) (said : ℕ × List ℕ) → IsFirstFault lines said → IsFirstFault (lines ++ more) said
fault_more lines more said (repositories.IsFirstFault.of_line before after line reading split t r) =
    repositories.IsFirstFault.of_line before (after ++ more) line reading (ap (λ (ls : List (List ℕ)). ls ++ more) split ∙ append_assoc before (line ∷ after) more) t r
fault_more lines more said (repositories.IsFirstFault.of_repository before after end reading ended split t e is f) =
    repositories.IsFirstFault.of_repository before (after ++ more) end reading ended (ap (λ (ls : List (List ℕ)). ls ++ more) split ∙ append_assoc before (end ∷ after) more) t e is f

pub refused_more : (lines more : List (List ℕ)) (text : List ℕ) → IsRefused lines text → IsRefused (lines ++ more) text
refused_more lines more text r = record { said = r.said; fault = fault_more lines more r.said r.fault; written = r.written }

module _ (o : Options) where
  -- the text goes on with replies, or with a refusal
  abbrev pub Next : List (List ℕ) → List ℕ → Type 0
  Next lines text = (rest : List ℕ) × (Transcript o lines (text ++ rest) ⊎ IsRefused lines (text ++ rest))

  served : (d : Draft) (l : Library) → IsLibraryOf (declared_in d) d.kinds (schemas_in d) l → (s : Responder) × Serves o d s
  served d l is = (
    responder_of d.names d.variables d.component_names d.kinds (map (λ c. c.template) d.components) d.filter_names (map (λ f. f.automaton) d.filters) (seen_as l (map (λ c. c.cost) d.components) o) [],
    record {
      same_names = refl;
      same_variables = refl;
      same_components = refl;
      same_kinds = refl;
      templates_are = refl;
      same_filter_names = refl;
      filters_are = refl;
      library_is = is;
      costs_are = refl;
      options_are = refl;
      none_held = refl;
    },
  )

  -- ONE LINE, BEFORE THE REPOSITORY ENDS
  module _ (lines : List (List ℕ)) (text : List ℕ) (reading : Reading) (taken : AreTaken lines reading) (empty : text ≡ []) (line : List ℕ) where
    refuses : (said : ℕ × List ℕ) → IsFirstFault (lines ++ line ∷ []) said → Next (lines ++ line ∷ []) text
    refuses said f = (refusal said, inr (record { said = said; fault = f; written = ap (λ (t : List ℕ). t ++ refusal said) empty }))

    module _ (new : Reading) (t : Takes reading line new) where
      still_empty : text ++ [] ≡ []
      still_empty = append-nil text ∙ empty

      reads_on : new.ended ≡ false → Next (lines ++ line ∷ []) text
      reads_on on = ([], inl (transcripts.Transcript.opening new (record { taken = one_more no_reading lines reading line new taken.taken taken.unended t on; unended = on }) still_empty))

      opens : new.ended ≡ true → IsSilent (First (closing_faults new)) → (s : (s : Responder) × Serves o new.draft s) → Next (lines ++ line ∷ []) text
      opens ended silent (s, serves) = (
        [],
        inl (transcripts.Transcript.answering s (record {
          repository = lines;
          end = line;
          queries = [];
          split = refl;
          declared = new.draft;
          reads = record { before = reading; taken = taken; reading = new; ends = t; ended = ended; faultless = silent; declares = refl };
          opened = s;
          serves = serves;
          replies = (still_empty, refl);
        })),
      )

      closes : new.ended ≡ true → ((said : ℕ × List ℕ) × First (closing_faults new) said) ⊎ IsSilent (First (closing_faults new)) → IsPossible (Next (lines ++ line ∷ []) text)
      closes ended (inl (said, f)) = surely (refuses said (repositories.IsFirstFault.of_repository lines [] line reading new refl taken t ended f))
      closes ended (inr silent) =
          after (library_exists new.draft (each_silent (closing_faults new) silent).1.1.1.0) (λ l. opens ended silent (served new.draft l.0 l.1))

      ends_or_not : (b : Bool) → new.ended ≡ b → IsPossible (Next (lines ++ line ∷ []) text)
      ends_or_not true e = follow (first_decided (closing_faults new)) (closes e)
      ends_or_not false e = surely (reads_on e)

    next_declared : IsTakenOrNot reading line → IsPossible (Next (lines ++ line ∷ []) text)
    next_declared (inl (new, t)) = ends_or_not new t new.ended refl
    next_declared (inr (said, r)) = surely (refuses said (repositories.IsFirstFault.of_line lines [] line reading refl taken r))

  -- ONE LINE AFTER IT
  next_answered : (lines : List (List ℕ)) (text : List ℕ) (s : Responder) → IsAnswered o lines text s → (line : List ℕ) → (g : (reply : List ℕ) × (s' : Responder) × Goes s line reply s') → Next (lines ++ line ∷ []) text
  next_answered lines text s h line (reply, s', goes) = (
    reply,
    inl (transcripts.Transcript.answering s' (record {
      repository = h.repository;
      end = h.end;
      queries = h.queries ++ line ∷ [];
      split = ap (λ (ls : List (List ℕ)). ls ++ line ∷ []) h.split ∙ append_assoc h.repository (h.end ∷ h.queries) (line ∷ []);
      declared = h.declared;
      reads = h.reads;
      opened = h.opened;
      serves = h.serves;
      replies = one_reply h.opened h.queries text s line reply s' h.replies goes;
    })),
  )

  next : (lines : List (List ℕ)) (text : List ℕ) (line : List ℕ) → Transcript o lines text → IsPossible (Next (lines ++ line ∷ []) text)
  next lines text line (transcripts.Transcript.opening reading taken empty) = follow (taken_or_refused reading line) (next_declared lines text reading taken empty line)
  next lines text line (transcripts.Transcript.answering s h) = after (next_exists s (answered_can o lines text s h) line) (next_answered lines text s h line)

  -- ALL LINES
  abbrev After : (lines more : List (List ℕ)) → List ℕ → Type 0
  After lines more text = Next (lines ++ more) text

  joined : (lines more : List (List ℕ)) (line text reply rest : List ℕ) → Transcript o ((lines ++ line ∷ []) ++ more) ((text ++ reply) ++ rest) ⊎ IsRefused ((lines ++ line ∷ []) ++ more) ((text ++ reply) ++ rest) → After lines (line ∷ more) text
  joined lines more line text reply rest h =
      let P : List (List ℕ) → List ℕ → Type 0 = λ ls t. Transcript o ls t ⊎ IsRefused ls t in
      (reply ++ rest, subst (λ (t : List ℕ). P (lines ++ line ∷ more) t) (append_assoc text reply rest) (subst (λ (ls : List (List ℕ)). P ls ((text ++ reply) ++ rest)) (append_assoc lines (line ∷ []) more) h))

  ended_by : (lines more : List (List ℕ)) (line text reply : List ℕ) → IsRefused (lines ++ line ∷ []) (text ++ reply) → After lines (line ∷ more) text
  ended_by lines more line text reply r =
      (reply, inr (subst (λ (ls : List (List ℕ)). IsRefused ls (text ++ reply)) (append_assoc lines (line ∷ []) more) (refused_more (lines ++ line ∷ []) more (text ++ reply) r)))

  after_one : (lines more : List (List ℕ)) (line text : List ℕ) → ((reply : List ℕ) → Transcript o (lines ++ line ∷ []) (text ++ reply) → IsPossible (After (lines ++ line ∷ []) more (text ++ reply)))
      → Next (lines ++ line ∷ []) text → IsPossible (After lines (line ∷ more) text)
  after_one lines more line text on (reply, inl t) = after (on reply t) (λ u. joined lines more line text reply u.0 u.1)
  after_one lines more line text on (reply, inr r) = surely (ended_by lines more line text reply r)

  pub goes_on : (more lines : List (List ℕ)) (text : List ℕ) → Transcript o lines text → IsPossible (After lines more text)
  goes_on [] lines text t =
      surely ([], inl (subst (λ (ls : List (List ℕ)). Transcript o ls (text ++ [])) (sym (append-nil lines)) (subst (λ (s : List ℕ). Transcript o lines s) (sym (append-nil text)) t)))
  goes_on (line ∷ more) lines text t =
      follow (next lines text line t) (after_one lines more line text (λ reply u. goes_on more (lines ++ line ∷ []) (text ++ reply) u))

  -- THE END
  abbrev pub HasEnd : List (List ℕ) → List ℕ → Type 0
  HasEnd lines text = (last : List ℕ) × (status : Status) × Ending o lines (text ++ last) status

  completed : (lines : List (List ℕ)) (text : List ℕ) (s : Responder) → IsAnswered o lines text s → (e : (last : List ℕ) × Ends s last) → HasEnd lines text
  completed lines text s h (last, e) = (last, Done, transcripts.Ending.complete s text last h e refl refl)

  pub ends : (lines : List (List ℕ)) (text : List ℕ) → Transcript o lines text → IsPossible (HasEnd lines text)
  ends lines text (transcripts.Transcript.opening reading taken empty) =
      let words = refusal (reading.lines, codes "no-end") in
      surely (words, Refused, transcripts.Ending.without_end reading taken (ap (λ (t : List ℕ). t ++ words) empty) refl)
  ends lines text (transcripts.Transcript.answering s h) = after (last_exists s (answered_can o lines text s h)) (completed lines text s h)

  -- A SESSION
  module _ (bytes : List ℕ) where
    abbrev HasOutput : Type 0
    HasOutput = (text : List ℕ) × (status : Status) × SessionOutput o bytes text status

    begun : Transcript o [] []
    begun = transcripts.Transcript.opening no_reading (record { taken = refl; unended = refl }) refl

    pub all_read : length bytes ≤ max_input_bytes → lines_read bytes ≡ lines_of bytes
    all_read few =
        let e : nat_lt max_input_bytes (length bytes) ≡ false = grind (arith, nat_tests) in
        ap (λ (b : Bool). if b then ended_lines (take max_input_bytes bytes) else lines_of bytes) e

    pub few_or_many : (n : ℕ) → (n ≤ max_input_bytes) ⊎ (max_input_bytes < n)
    few_or_many n = grind arith

    whole : length bytes ≤ max_input_bytes → (text : List ℕ) → (e : HasEnd (lines_of bytes) text) → HasOutput
    whole few text (last, status, e) = (text ++ last, status, outputs.SessionOutput.ended few e)

    by_length : (text : List ℕ) → Transcript o (lines_read bytes) text → (length bytes ≤ max_input_bytes) ⊎ (max_input_bytes < length bytes) → IsPossible HasOutput
    by_length text t (inl few) =
        after (ends (lines_of bytes) text (subst (λ (ls : List (List ℕ)). Transcript o ls text) (all_read few) t)) (whole few text)
    by_length text t (inr many) = surely (text, TooLong, outputs.SessionOutput.too_long many t refl)

    output_by : Next (lines_read bytes) [] → IsPossible HasOutput
    output_by (text, inl t) = by_length text t (few_or_many (length bytes))
    output_by (text, inr r) = surely (text, Refused, outputs.SessionOutput.refused r refl)

    session_output : IsPossible HasOutput
    session_output = follow (goes_on (lines_read bytes) [] [] begun) output_by

pub transcripts_go_on : TranscriptsGoOn
transcripts_go_on = record {
  goes = λ o lines more text t. goes_on o more lines text t;
  ends = λ o lines text t. ends o lines text t;
}

-- A RUN
module _ (words : List (List ℕ)) (bytes : List ℕ) where
  abbrev HasText : Type 0
  HasText = (text : List ℕ) × (status : Status) × Output words bytes text status

  abbrev AskSession : Type 0
  AskSession = (o : Options) × Asks words (Session o)

  abbrev AskGenerator : Type 0
  AskGenerator = (o : Options) × (n : ℕ) × Asks words (Generate o n)

  of_session : (o : Options) → Asks words (Session o) → HasOutput o bytes → HasText
  of_session o a (text, status, s) = (text, status, outputs.Output.of_session o a s)

  of_generator : (o : Options) (n : ℕ) → Asks words (Generate o n) → HasOutput o (generated_text n) → HasText
  of_generator o n a (text, status, s) = (text, status, outputs.Output.of_generator o n a s)

  nothing : (AskSession → ⊥) → (AskGenerator → ⊥) → (c : Command) → Asks words c → ⊥
  nothing f g (Session o) a = f (o, a)
  nothing f g (Generate o n) a = g (o, n, a)

  generator_or : (AskSession → ⊥) → AskGenerator ⊎ (AskGenerator → ⊥) → IsPossible HasText
  generator_or f (inl (o, n, a)) = after (session_output o (generated_text n)) (of_generator o n a)
  generator_or f (inr g) = surely (usage, Usage, outputs.Output.no_command (nothing f g) refl refl)

  session_or : AskSession ⊎ (AskSession → ⊥) → IsPossible HasText
  session_or (inl (o, a)) = after (session_output o bytes) (of_session o a)
  session_or (inr f) = follow (either_way AskGenerator) (generator_or f)

pub outputs_exist : OutputsExist
outputs_exist words bytes = follow (either_way (AskSession words bytes)) (session_or words bytes)
