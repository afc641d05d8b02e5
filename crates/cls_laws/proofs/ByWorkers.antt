-- What is written for a line by one number of workers is written by another one, but for audits.
use Rattle.std.proofs.Common.{ℕ, ◌≡◌, ◌⊎◌, inl, inr, refl, sym, ap, subst, List}
use Rattle.cls_base.specs.Firsts.{Cause, First, IsSilent}
use Rattle.cls_base.specs.Types.{ClosedType}
use Rattle.cls_proof.specs.Certificates.{Certificate}
use Rattle.cls_query.specs.declared.query.Query.TheVariants.{Sub, Paths, Typed, About, Page, Filtered, Batch}
use Rattle.cls_query.specs.declared.word.GoalWord.TheVariants.{Audit, Verify}
use Rattle.cls_query.specs.declared.word.ListingWord.TheVariants as listing
use Rattle.cls_query.specs.Queries.{Query, audit, verify}
use Rattle.cls_engine.specs.declared.fault.EngineFault.{EngineFault}
use Rattle.cls_replies.specs.Responder.{Responder}
use Rattle.cls_replies.specs.Errors.{faults_of}
use Rattle.cls_replies.specs.Replies.{Reply}
use Rattle.cls_replies.specs.Answering.{Asks, IsMisread, Answers, Judges, Verifies, Verified}
use Rattle.cls_replies.specs.Answering as answering
use Rattle.cls_laws.specs.Alike.{served_by}

-- a query asks for an audit, or it doesn't
pub audit_or_not : (q : Query) → ((t : ClosedType) × (q ≡ audit t)) ⊎ ((t : ClosedType) → q ≡ audit t → ⊥)
audit_or_not (Sub a b) = inr (λ t e. cc)
audit_or_not (Paths x) = inr (λ t e. cc)
audit_or_not (Typed u t) = inr (λ t e. cc)
audit_or_not (About Audit t) = inl (t, refl)
audit_or_not (About word s) = inr (λ t e. cc)
audit_or_not (Page word q) = inr (λ t e. cc)
audit_or_not (Filtered f q) = inr (λ t e. cc)
audit_or_not (Batch ts) = inr (λ t e. cc)

module _ (n : ℕ) where
  -- nothing that the engine can't do hangs on the number of workers
  faults_by : (s : Responder) (q : Query) → faults_of (served_by n s) q ≡ faults_of s q
  faults_by s (Sub a b) = refl
  faults_by s (Paths x) = refl
  faults_by s (Typed u t) = refl
  faults_by s (About Verify t) = refl
  faults_by s (About word t) = refl
  faults_by s (Page word q) = refl
  faults_by s (Filtered f q) = refl
  faults_by s (Batch ts) = refl

  pub fault_by : (s : Responder) (q : Query) (f : EngineFault) → First (faults_of s q) f → First (faults_of (served_by n s) q) f
  fault_by s q f h = subst (λ (causes : List (Cause EngineFault)). First causes f) (sym (faults_by s q)) h

  silent_by : (s : Responder) (q : Query) → IsSilent (First (faults_of s q)) → IsSilent (First (faults_of (served_by n s) q))
  silent_by s q h = subst (λ (causes : List (Cause EngineFault)). IsSilent (First causes)) (sym (faults_by s q)) h

  reply_by : (s : Responder) (q : Query) (text : List ℕ) → ((t : ClosedType) → q ≡ audit t → ⊥) → Reply s q text → Reply (served_by n s) q text
  reply_by s (Sub a b) text free h = h
  reply_by s (Paths x) text free h = h
  reply_by s (Typed u t) text free h = h
  reply_by s (About Audit t) text free h = absurd (free t refl)
  reply_by s (About word t) text free h = h
  reply_by s (Page listing.List q) text free h = h
  reply_by s (Page word q) text free h = h
  reply_by s (Filtered f q) text free h = h
  reply_by s (Batch ts) text free h = h

  pub answers_by : (s : Responder) (q : Query) (text : List ℕ) (m : Responder) → ((t : ClosedType) → q ≡ audit t → ⊥) → Answers s q text m → Answers (served_by n s) q text (served_by n m)
  answers_by s q text m free (answering.Answers.failed f h e same) = answering.Answers.failed f (fault_by s q f h) e (ap (served_by n) same)
  answers_by s q text m free (answering.Answers.replied silent r same) = answering.Answers.replied (silent_by s q silent) (reply_by s q text free r) (ap (served_by n) same)

  pub misread_by : (s : Responder) (line text : List ℕ) (m : Responder) → IsMisread s line text m → IsMisread (served_by n s) line text (served_by n m)
  misread_by s line text m h = record { words = h.words; first = h.first; written = h.written; same = ap (served_by n) h.same }

  pub asks_by : (s : Responder) (line : List ℕ) (q : Query) (m : Responder) → Asks s line q m → Asks (served_by n s) line q (served_by n m)
  asks_by s line q m h = (h.0, ap (served_by n) h.1)

  judges_by : (s : Responder) (goal : ClosedType) (c : Certificate) (text : List ℕ) → Judges s goal c text → Judges (served_by n s) goal c text
  judges_by s goal c text (answering.Judges.failed f h e) = answering.Judges.failed f h e
  judges_by s goal c text (answering.Judges.judged silent v h e) = answering.Judges.judged silent v h e

  verifies_by : (s : Responder) (goal : ClosedType) (certificate : List (List ℕ)) (text : List ℕ) (m : Responder) → Verifies s goal certificate text m → Verifies (served_by n s) goal certificate text (served_by n m)
  verifies_by s goal certificate text m (answering.Verifies.bad f w h e d same) = answering.Verifies.bad f w h e d (ap (served_by n) same)
  verifies_by s goal certificate text m (answering.Verifies.read c says same j) = answering.Verifies.read c says (ap (served_by n) same) (judges_by m goal c text j)

  pub verified_by : (s : Responder) (line : List ℕ) (certificate : List (List ℕ)) (text : List ℕ) (m : Responder) → Verified s line certificate text m → Verified (served_by n s) line certificate text (served_by n m)
  verified_by s line certificate text m (answering.Verified.misread h) = answering.Verified.misread (misread_by s line text m h)
  verified_by s line certificate text m (answering.Verified.asked goal x h v) = answering.Verified.asked goal (served_by n x) (asks_by s line (verify goal) x h) (verifies_by x goal certificate text m v)
