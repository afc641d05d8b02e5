-- What one line more does to a session.
use Rattle.std.proofs.Common.{◌≡◌, ℕ, List, [], ◌∷◌, ◌++◌, refl, sym, ap, ◌∙◌, subst, true, false, append_assoc, append-nil}
use Rattle.std.specs.Prelude.{None, Some, codes}
use Rattle.cls_base.specs.Firsts.{First, IsSilent}
use Rattle.cls_engine.specs.declared.options.Options.{Options}
use Rattle.cls_repo.specs.FaultWords.{fault_words}
use Rattle.cls_repo.specs.Readings.{Reading, no_reading, Takes, Refuses, closing_faults}
use Rattle.cls_repo.specs.declared.fault.RepoFault.{RepoFault}
use Rattle.cls_replies.specs.Lines.{Goes, Replies, Ends}
use Rattle.cls_replies.specs.Responder.{Responder, Serves}
use Rattle.cls_session.specs.declared.status.Status.TheVariants.{Done, Refused}
use Rattle.cls_session.specs.Repositories.{AreTaken, IsRepository, IsFirstFault}
use Rattle.cls_session.specs.Repositories as repositories
use Rattle.cls_session.specs.Sessions.{SaysFault}
use Rattle.cls_session.specs.SessionStates.{SessionState, Stands}
use Rattle.cls_session.specs.SessionStates as session_states
use Rattle.cls_session.specs.Transcripts.{IsAnswered, Transcript, refusal, IsRefused, Ending}
use Rattle.cls_session.specs.Transcripts as transcripts
use Rattle.cls_session.proofs.Readings.{AreTaken-push, on_words}

none_some : {A : Type 0} (a : A) → None ≡ Some a → ⊥
none_some a e = cc

some_is : {A : Type 0} (a b : A) → Some a ≡ Some b → a ≡ b
some_is a b e = cc

no_lines : (lines : List (List ℕ)) (end : List ℕ) (more : List (List ℕ)) → [] ≡ lines ++ end ∷ more → ⊥
no_lines [] end more e = cc
no_lines (l ∷ lines) end more e = cc

-- a first fault stays the first
fault_on : (lines more : List (List ℕ)) (said : ℕ × List ℕ) → IsFirstFault lines said → IsFirstFault (lines ++ more) said
fault_on lines more said (repositories.IsFirstFault.of_line before after line reading split a r) =
    repositories.IsFirstFault.of_line before (after ++ more) line reading (ap (λ (xs : List (List ℕ)). xs ++ more) split ∙ append_assoc before (line ∷ after) more) a r
fault_on lines more said (repositories.IsFirstFault.of_repository before after end reading ended split a t e f) =
    repositories.IsFirstFault.of_repository before (after ++ more) end reading ended (ap (λ (xs : List (List ℕ)). xs ++ more) split ∙ append_assoc before (end ∷ after) more) a t e f

pub IsRefused-append : (lines more : List (List ℕ)) (text : List ℕ) → IsRefused lines text → IsRefused (lines ++ more) text
IsRefused-append lines more text r = record { said = r.said; fault = fault_on lines more r.said r.fault; written = r.written }

-- one reply more
Replies-push : (s0 : Responder) (lines : List (List ℕ)) (text : List ℕ) (s s' : Responder) (line reply : List ℕ) → Replies s0 lines text s → Goes s line reply s' → Replies s0 (lines ++ line ∷ []) (text ++ reply) s'
Replies-push s0 [] text s s' line reply (e, same) g =
    (s', reply, [], subst (λ (x : Responder). Goes x line reply s') same g, (refl, refl), ap (λ (t : List ℕ). t ++ reply) e ∙ sym (append-nil reply))
Replies-push s0 (l ∷ lines) text s s' line reply (m, first, rest, h, hs, e) g =
    (m, first, rest ++ reply, h, Replies-push m lines rest s s' line reply hs g, ap (λ (t : List ℕ). t ++ reply) e ∙ append_assoc first rest reply)

IsAnswered-push : (o : Options) (lines : List (List ℕ)) (text : List ℕ) (s s' : Responder) (line reply : List ℕ) → IsAnswered o lines text s → Goes s line reply s' → IsAnswered o (lines ++ line ∷ []) (text ++ reply) s'
IsAnswered-push o lines text s s' line reply a g = record {
  repository = a.repository;
  end = a.end;
  queries = a.queries ++ line ∷ [];
  split = ap (λ (xs : List (List ℕ)). xs ++ line ∷ []) a.split ∙ append_assoc a.repository (a.end ∷ a.queries) (line ∷ []);
  declared = a.declared;
  reads = a.reads;
  opened = a.opened;
  serves = a.serves;
  replies = Replies-push a.opened a.queries text s s' line reply a.replies g;
}

-- WHAT IS WRITTEN WITH THESE OPTIONS
module _ (o : Options) (lines : List (List ℕ)) (text : List ℕ) (s : SessionState) where
  pub Stands-transcript : Stands o lines text s → Transcript o lines text
  Stands-transcript (session_states.Stands.opening reading a t e r v) = transcripts.Transcript.opening reading a t
  Stands-transcript (session_states.Stands.answering responder a e v) = transcripts.Transcript.answering responder a

  pub Stands-options : Stands o lines text s → s.options ≡ o
  Stands-options (session_states.Stands.opening reading a t e r v) = e
  Stands-options (session_states.Stands.answering responder a e v) = e

  -- a line after the repository
  pub Stands-goes : (line reply : List ℕ) (old new : Responder) (s' : SessionState) → s.responder ≡ Some old → Goes old line reply new → s'.options ≡ s.options → s'.responder ≡ Some new → Stands o lines text s → Stands o (lines ++ line ∷ []) (text ++ reply) s'
  Stands-goes line reply old new s' was g same is (session_states.Stands.opening reading a t e r v) = absurd (none_some old (sym v ∙ was))
  Stands-goes line reply old new s' was g same is (session_states.Stands.answering responder a e v) =
      let at : responder ≡ old = some_is responder old (sym v ∙ was) in
      session_states.Stands.answering new (IsAnswered-push o lines text responder new line reply a (subst (λ (x : Responder). Goes x line reply new) (sym at) g)) (same ∙ e) is

  -- the end of the lines after it
  pub Ending-responder : (last : List ℕ) (responder : Responder) → s.responder ≡ Some responder → Ends responder last → Stands o lines text s → Ending o lines (text ++ last) Done
  Ending-responder last old was g (session_states.Stands.opening reading a t e r v) = absurd (none_some old (sym v ∙ was))
  Ending-responder last old was g (session_states.Stands.answering responder a e v) =
      let at : responder ≡ old = some_is responder old (sym v ∙ was) in
      transcripts.Ending.complete responder text last a (subst (λ (x : Responder). Ends x last) (sym at) g) refl refl

  -- The repository is read.
  module _ (reading : s.responder ≡ None) where
    is_opening : {A : Type 0} → Stands o lines text s → ((r : Reading) → AreTaken lines r → text ≡ [] → s.options ≡ o → s.reader ≡ r → A) → A
    is_opening (session_states.Stands.opening r a t e is v) f = f r a t e is
    is_opening (session_states.Stands.answering responder a e v) f = absurd (none_some responder (sym reading ∙ v))

    -- a line that is taken
    pub Stands-takes : (line reply : List ℕ) (s' : SessionState) → reply ≡ [] → Takes s.reader line s'.reader → s'.reader.ended ≡ false → s'.options ≡ s.options → s'.responder ≡ None → Stands o lines text s → Stands o (lines ++ line ∷ []) (text ++ reply) s'
    Stands-takes line reply s' none t going same is h = is_opening h (λ r a empty e at.
        session_states.Stands.opening s'.reader (AreTaken-push lines line r s'.reader a (subst (λ (x : Reading). Takes x line s'.reader) at t) going)
        ((λ j. empty j ++ none j)) (same ∙ e) refl is)

    -- a line that is the first fault
    pub Stands-refuses : (line reply : List ℕ) (said : ℕ × List ℕ) → Refuses s.reader line said → reply ≡ refusal said → Stands o lines text s → IsRefused (lines ++ line ∷ []) (text ++ reply)
    Stands-refuses line reply said f w h = is_opening h (λ r a empty e at. record {
      said = said;
      fault = repositories.IsFirstFault.of_line lines [] line r refl a (subst (λ (x : Reading). Refuses x line said) at f);
      written = ap (λ (t : List ℕ). t ++ reply) empty ∙ w;
    })

    -- the line `end` of a repository that has a fault
    pub Stands-closes : (line reply : List ℕ) (said : ℕ × List ℕ) (ended : Reading) → Takes s.reader line ended → ended.ended ≡ true → First (closing_faults ended) said → reply ≡ refusal said → Stands o lines text s → IsRefused (lines ++ line ∷ []) (text ++ reply)
    Stands-closes line reply said ended t is f w h = is_opening h (λ r a empty e at. record {
      said = said;
      fault = repositories.IsFirstFault.of_repository lines [] line r ended refl a (subst (λ (x : Reading). Takes x line ended) at t) is f;
      written = ap (λ (t : List ℕ). t ++ reply) empty ∙ w;
    })

    -- the line `end` of a repository
    pub Stands-opens : (line reply : List ℕ) (ended : Reading) (responder : Responder) (s' : SessionState) → Takes s.reader line ended → ended.ended ≡ true → IsSilent (First (closing_faults ended)) → Serves s.options ended.draft responder
        → reply ≡ [] → s'.options ≡ s.options → s'.responder ≡ Some responder → Stands o lines text s → Stands o (lines ++ line ∷ []) (text ++ reply) s'
    Stands-opens line reply ended responder s' t is silent serves none same v h = is_opening h (λ r a empty e at.
        session_states.Stands.answering responder record {
          repository = lines;
          end = line;
          queries = [];
          split = refl;
          declared = ended.draft;
          reads = record { before = r; taken = a; reading = ended; ends = subst (λ (x : Reading). Takes x line ended) at t; ended = is; faultless = silent; declares = refl };
          opened = responder;
          serves = subst (λ (x : Options). Serves x ended.draft responder) e serves;
          replies = ((λ j. empty j ++ none j), refl);
        } (same ∙ e) v)

    -- the end of the lines without the line `end`
    pub Ending-opening : (last : List ℕ) → last ≡ refusal (s.reader.lines, codes "no-end") → Stands o lines text s → Ending o lines (text ++ last) Refused
    Ending-opening last w h = is_opening h (λ r a empty e at.
        transcripts.Ending.without_end r a (ap (λ (t : List ℕ). t ++ last) empty ∙ (w ∙ ap (λ (x : Reading). refusal (x.lines, codes "no-end")) at)) refl)

-- what the text says of a fault
pub says_fault : (fault : RepoFault) (text : List ℕ) → SaysFault fault text → text ≡ refusal (fault.line, fault_words fault.kind)
says_fault fault text h = on_words (λ words. text ≡ refusal (fault.line, words)) fault.kind h.1 h.0

-- what a session is at first
pub Stands-none : (o : Options) (s : SessionState) → s.options ≡ o → s.reader ≡ no_reading → s.responder ≡ None → Stands o [] [] s
Stands-none o s e r v = session_states.Stands.opening no_reading record { taken = refl; unended = refl } refl e r v
