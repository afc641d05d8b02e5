-- What is written for lines is one text, whatever the number of workers, but for audits.
use Rattle.std.proofs.Common.{ℕ, ◌≡◌, ◌+◌, List, [], ◌∷◌, ◌++◌, length, sym, ◌∙◌, ap, subst, arith, append-nil, Contains, codes}
use Rattle.std.specs.List.{IsDistinct}
use Rattle.std.specs.Str.{bytes_eq}
use Rattle.cls_base.specs.Firsts.{IsDetermined}
use Rattle.cls_base.proofs.Lists.{Contains-here, Contains-later}
use Rattle.cls_library.proofs.LibraryLaws.{library-unique}
use Rattle.cls_repo.specs.Drafts.{Draft}
use Rattle.cls_repo.specs.EndFaults.{declared_in, schemas_in}
use Rattle.cls_repo.specs.Readings.{Reading}
use Rattle.cls_engine.specs.declared.options.Options.{Options}
use Rattle.cls_query.specs.Queries.{Query}
use Rattle.cls_replies.specs.Answering.{Answers, Answered, Verifies, Verified}
use Rattle.cls_replies.specs.Answering as answering
use Rattle.cls_replies.specs.Lines.{Goes, Replies, Ends}
use Rattle.cls_replies.specs.Lines as lines
use Rattle.cls_replies.specs.Responder.{Responder, Serves, tables_in, holding}
use Rattle.cls_session.specs.declared.status.Status.{Status}
use Rattle.cls_laws.specs.Alike.{with_workers, served_by, AreSameReplies, AreSameTexts}
use Rattle.cls_laws.specs.Alike as alike
use Rattle.cls_laws.specs.Uniqueness.{AsksAudit, AsksNoAudit, HaveNoAudit, TranscriptsAreDetermined}
use Rattle.cls_session.specs.Repositories.{AreTaken}
use Rattle.cls_session.specs.Transcripts.{IsAnswered, Transcript, refusal, IsRefused, Ending}
use Rattle.cls_session.specs.Transcripts as transcripts
use Rattle.cls_laws.proofs.ChangedNames.{changed_apart}
use Rattle.cls_laws.proofs.SameLine.{one_unless_audit, goes_same, ends_same}
use Rattle.cls_session.proofs.OneRepository.{IsReadUp, read_up, one_read, read_apart, one_taking, taken_or_read, one_fault, fault_or_read, fault_or_taken}

-- COMPONENTS KEEP THEIR NAMES, UNLESS ONE COMES OR GOES
abbrev Keeps : Responder → Responder → Type 0
Keeps s m = m.components ≡ s.components

same_keeps : (s m : Responder) → m ≡ s → Keeps s m
same_keeps s m e = ap (λ (x : Responder). x.components) e

answers_keeps : (s : Responder) (q : Query) (text : List ℕ) (m : Responder) → Answers s q text m → Keeps s m
answers_keeps s q text m (answering.Answers.failed f h e same) = same_keeps s m same
answers_keeps s q text m (answering.Answers.replied silent r same) = same_keeps s m same

answered_keeps : (s : Responder) (line text : List ℕ) (m : Responder) → Answered s line text m → Keeps s m
answered_keeps s line text m (answering.Answered.misread h) = same_keeps s m h.same
answered_keeps s line text m (answering.Answered.asked q x h a) = answers_keeps x q text m a ∙ ap (λ (y : Responder). y.components) h.1

verifies_keeps : (s : Responder) (line text : List ℕ) (certificate : List (List ℕ)) (m : Responder) → Verified s line certificate text m → Keeps s m
verifies_keeps s line text certificate m (answering.Verified.misread h) = same_keeps s m h.same
verifies_keeps s line text certificate m (answering.Verified.asked goal x h v) = by v ∙ ap (λ (y : Responder). y.components) h.1
  where
    by : Verifies x goal certificate text m → Keeps x m
    by (answering.Verifies.bad f w k e d same) = same_keeps x m same
    by (answering.Verifies.read c k same j) = ap (λ (y : Responder). y.components) same

abbrev Apart : Responder → Type 0
Apart s = IsDistinct bytes_eq s.components

stays_apart : (s m : Responder) → Keeps s m → Apart s → Apart m
stays_apart s m e h = subst (λ (x : List (List ℕ)). IsDistinct bytes_eq x) (sym e) h

-- where one comes or goes, they stay apart
goes_apart : (s : Responder) (line text : List ℕ) (m : Responder) → Goes s line text m → Apart s → Apart m
goes_apart s line text m (lines.Goes.skips e a p same) h = stays_apart s m (same_keeps s m same) h
goes_apart s line text m (lines.Goes.asks e a v) h = stays_apart s m (answered_keeps s line text m v) h
goes_apart s line text m (lines.Goes.changes e a v) h = changed_apart s line text m v h
goes_apart s line text m (lines.Goes.opens e a p same) h = stays_apart s m (ap (λ (x : Responder). x.components) same) h
goes_apart s line text m (lines.Goes.holds x xs e a p same) h = stays_apart s m (ap (λ (y : Responder). y.components) same) h
goes_apart s line text m (lines.Goes.ends x xs e a v) h = stays_apart s m (verifies_keeps (holding s []) x text (xs ++ line ∷ []) m v) h

replies_apart : (s : Responder) (queries : List (List ℕ)) (text : List ℕ) (m : Responder) → Replies s queries text m → Apart s → Apart m
replies_apart s [] text m (p, e) h = stays_apart s m (same_keeps s m e) h
replies_apart s (line ∷ queries) text m (x, first, rest, g, gs, e) h = replies_apart x queries rest m gs (goes_apart s line first x g h)

-- LINES AFTER A REPOSITORY
asks_none : (s : Responder) (line : List ℕ) → AsksNoAudit line → AsksAudit s line → ⊥
asks_none s line free (goal, m, h) = free (tables_in s) (tables_in m) goal h.0

module _ (n : ℕ) where
  replies_same : (s : Responder) → Apart s → (queries : List (List ℕ)) (t u : List ℕ) (m k : Responder) → Replies s queries t m → Replies (served_by n s) queries u k → AreSameReplies s n queries t u × (k ≡ served_by n m)
  replies_same s apart [] t u m k (p, e) (q, f) = ((p, q), f ∙ sym (ap (served_by n) e))
  replies_same s apart (line ∷ queries) t u m k (x, first, rest, g, gs, e) (y, first', rest', h, hs, f) =
      let one = goes_same n s apart line first first' x y g h in
      let on = replies_same x (goes_apart s line first x g apart) queries rest rest' m k gs (subst (λ (z : Responder). Replies z queries rest' k) one.1 hs) in
      ((first, first', rest, rest', x, g, one.0, on.0, e, f), on.1)

  replies_free : (s : Responder) (queries : List (List ℕ)) → ((line : List ℕ) → Contains queries line → AsksNoAudit line) → (t u : List ℕ) → AreSameReplies s n queries t u → t ≡ u
  replies_free s [] free t u (p, q) = p ∙ sym q
  replies_free s (line ∷ queries) free t u (first, first', rest, rest', x, g, one, on, e, f) =
      let here = one_unless_audit s n line first first' (asks_none s line (free line (Contains-here line queries))) one in
      let there = replies_free x queries (λ l c. free l (Contains-later l line queries c)) rest rest' on in
      e ∙ ((λ i. here i ++ there i) ∙ sym f)

-- HOW A REPOSITORY IS OPENED
module _ (o : Options) (d : Draft) where
  pub serves_one : (s m : Responder) → Serves o d s → Serves o d m → s ≡ m
  serves_one s m h k =
      let names = h.same_names ∙ sym k.same_names in
      let variables = h.same_variables ∙ sym k.same_variables in
      let components = h.same_components ∙ sym k.same_components in
      let kinds = h.same_kinds ∙ sym k.same_kinds in
      let templates = h.templates_are ∙ sym k.templates_are in
      let filter_names = h.same_filter_names ∙ sym k.same_filter_names in
      let filters = h.filters_are ∙ sym k.filters_are in
      let library = library-unique (declared_in d) d.kinds (schemas_in d) s.engine.library m.engine.library h.library_is k.library_is in
      let costs = h.costs_are ∙ sym k.costs_are in
      let options = h.options_are ∙ sym k.options_are in
      let held = h.none_held ∙ sym k.none_held in
      λ i. record {
        names = names i;
        variables = variables i;
        components = components i;
        kinds = kinds i;
        templates = templates i;
        filter_names = filter_names i;
        filters = filters i;
        engine = record { library = library i; costs = costs i; options = options i };
        held = held i;
      }

same_split : (xs ys : List (List ℕ)) (x y : List ℕ) (us vs : List (List ℕ)) → length xs + 1 ≡ length ys + 1 → xs ++ x ∷ us ≡ ys ++ y ∷ vs → us ≡ vs
same_split [] [] x y us vs l e = cc
same_split [] (z ∷ ys) x y us vs l e = absurd (omega arith)
same_split (z ∷ xs) [] x y us vs l e = absurd (omega arith)
same_split (z ∷ xs) (w ∷ ys) x y us vs l e = same_split xs ys x y us vs (omega arith) (let f : xs ++ x ∷ us ≡ ys ++ y ∷ vs = cc in f)

module _ (o : Options) (input : List (List ℕ)) where
  read_of : (text : List ℕ) (s : Responder) (a : IsAnswered o input text s) → IsReadUp input (length a.repository + 1) a.declared
  read_of text s a = read_up input a.repository a.queries a.end a.declared a.split a.reads

  opened_apart : (text : List ℕ) (s : Responder) (a : IsAnswered o input text s) → Apart a.opened
  opened_apart text s a = subst (λ (x : List (List ℕ)). IsDistinct bytes_eq x) (sym a.serves.same_components) (read_apart input (length a.repository + 1) a.declared (read_of text s a))

  pub answered_apart : (text : List ℕ) (s : Responder) → IsAnswered o input text s → Apart s
  answered_apart text s a = replies_apart a.opened a.queries text s a.replies (opened_apart text s a)

  -- a repository with lines after it is taken whole, and no line of it is at fault
  pub answered_or_taken : (text : List ℕ) (s : Responder) (r : Reading) → IsAnswered o input text s → AreTaken input r → ⊥
  answered_or_taken text s r a h = taken_or_read input r (length a.repository + 1) a.declared h (read_of text s a)

  pub refused_or_going : (t u : List ℕ) → IsRefused input t → Transcript o input u → ⊥
  refused_or_going t u h (transcripts.Transcript.opening r k q) = fault_or_taken input h.said r h.fault k
  refused_or_going t u h (transcripts.Transcript.answering n b) = fault_or_read input h.said (length b.repository + 1) b.declared h.fault (read_of u n b)

  pub refused_or_ended : (t u : List ℕ) (status : Status) → IsRefused input t → Ending o input u status → ⊥
  refused_or_ended t u status h (transcripts.Ending.without_end r k q f) = fault_or_taken input h.said r h.fault k
  refused_or_ended t u status h (transcripts.Ending.complete n y last b w q f) = fault_or_read input h.said (length b.repository + 1) b.declared h.fault (read_of y n b)

pub refusal_one : (input : List (List ℕ)) → IsDetermined (IsRefused input)
refusal_one input t u h k = h.written ∙ (ap refusal (one_fault input h.said k.said h.fault k.fault) ∙ sym k.written)

-- ANOTHER NUMBER OF WORKERS
module _ (o : Options) (n : ℕ) (input : List (List ℕ)) where
  serves_by : (d : Draft) (s : Responder) → Serves o d s → Serves (with_workers n o) d (served_by n s)
  serves_by d s h = record {
    same_names = h.same_names;
    same_variables = h.same_variables;
    same_components = h.same_components;
    same_kinds = h.same_kinds;
    templates_are = h.templates_are;
    same_filter_names = h.same_filter_names;
    filters_are = h.filters_are;
    library_is = h.library_is;
    costs_are = h.costs_are;
    options_are = ap (with_workers n) h.options_are;
    none_held = h.none_held;
  }

  module _ (t u : List ℕ) (m k : Responder) (a : IsAnswered o input t m) (b : IsAnswered (with_workers n o) input u k) where
    same_end : a.queries ≡ b.queries
    same_end =
        let one = one_read input (length a.repository + 1) (length b.repository + 1) a.declared b.declared (read_of o input t m a) (read_of (with_workers n o) input u k b) in
        same_split a.repository b.repository a.end b.end a.queries b.queries one.0 (sym a.split ∙ b.split)

    same_opening : served_by n a.opened ≡ b.opened
    same_opening =
        let one = one_read input (length a.repository + 1) (length b.repository + 1) a.declared b.declared (read_of o input t m a) (read_of (with_workers n o) input u k b) in
        serves_one (with_workers n o) b.declared (served_by n a.opened) b.opened (subst (λ (d : Draft). Serves (with_workers n o) d (served_by n a.opened)) one.1 (serves_by a.declared a.opened a.serves)) b.serves

    pub answers_same : AreSameReplies a.opened n a.queries t u × (k ≡ served_by n m)
    answers_same =
        replies_same n a.opened (opened_apart o input t m a) a.queries t u m k a.replies
        (subst (λ (x : Responder). Replies x a.queries u k) (sym same_opening) (subst (λ (ls : List (List ℕ)). Replies b.opened ls u k) (sym same_end) b.replies))

    -- with the same text behind the replies
    same_texts : (last : List ℕ) (text other : List ℕ) → text ≡ t ++ last → other ≡ u ++ last → AreSameTexts o n input text other
    same_texts last text other p q =
        alike.AreSameTexts.replies a.repository a.queries a.end a.declared a.opened a.split a.reads a.serves t u last answers_same.0 p q

  transcript_same : (t u : List ℕ) → Transcript o input t → Transcript (with_workers n o) input u → AreSameTexts o n input t u
  transcript_same t u (transcripts.Transcript.opening r h p) (transcripts.Transcript.opening r' g q) = alike.AreSameTexts.one_text (p ∙ sym q)
  transcript_same t u (transcripts.Transcript.opening r h p) (transcripts.Transcript.answering k b) = absurd (answered_or_taken (with_workers n o) input u k r b h)
  transcript_same t u (transcripts.Transcript.answering m a) (transcripts.Transcript.opening r g q) = absurd (answered_or_taken o input t m r a g)
  transcript_same t u (transcripts.Transcript.answering m a) (transcripts.Transcript.answering k b) =
      same_texts t u m k a b [] t u (sym (append-nil t)) (sym (append-nil u))

  ending_same : (t u : List ℕ) (status status' : Status) → Ending o input t status → Ending (with_workers n o) input u status' → AreSameTexts o n input t u × (status ≡ status')
  ending_same t u status status' (transcripts.Ending.without_end r h p e) (transcripts.Ending.without_end r' g q f) =
      (alike.AreSameTexts.one_text (p ∙ (ap (λ (x : Reading). refusal (x.lines, codes "no-end")) (one_taking input r r' h g) ∙ sym q)), e ∙ sym f)
  ending_same t u status status' (transcripts.Ending.without_end r h p e) (transcripts.Ending.complete k y last b w q f) = absurd (answered_or_taken (with_workers n o) input y k r b h)
  ending_same t u status status' (transcripts.Ending.complete m x last a v p e) (transcripts.Ending.without_end r g q f) = absurd (answered_or_taken o input x m r a g)
  ending_same t u status status' (transcripts.Ending.complete m x last a v p e) (transcripts.Ending.complete k y last' b w q f) =
      let end : last ≡ last' = ends_same n m (answered_apart o input x m a) last last' v (subst (λ (z : Responder). Ends z last') (answers_same x y m k a b).1 w) in
      (same_texts x y m k a b last t u p (q ∙ ap (λ (l : List ℕ). y ++ l) (sym end)), e ∙ sym f)

texts_free : (o : Options) (n : ℕ) (input : List (List ℕ)) (t u : List ℕ) → HaveNoAudit input → AreSameTexts o n input t u → t ≡ u
texts_free o n input t u none (alike.AreSameTexts.one_text e) = e
texts_free o n input t u none (alike.AreSameTexts.replies repository queries end d s split reads serves first second last same p q) =
    p ∙ (ap (λ (x : List ℕ). x ++ last) (replies_free n s queries (none repository queries end d split reads) first second same) ∙ sym q)

pub transcripts_determined : TranscriptsAreDetermined
transcripts_determined = record {
  answers = λ o n input t u m k a b. (answers_same o n input t u m k a b).1;
  transcripts = transcript_same;
  endings = ending_same;
  free = texts_free;
  refusals = refusal_one;
  no_transcript = refused_or_going;
  no_ending = refused_or_ended;
}
