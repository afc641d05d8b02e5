-- How what the engine answers makes what is written.
use Rattle.std.proofs.Common.{◌≡◌, ℕ, List, inl, inr, Bool, true, false, refl}
use Rattle.std.specs.Prelude.{◌↔◌, IsTrue, if◌then◌else◌, Result, IfOk}
use Rattle.std.proofs.lemmas.Result.{IfOk-weaker}
use Rattle.cls_base.specs.Firsts.{First, IsSilent}
use Rattle.cls_base.specs.Types.{ClosedType}
use Rattle.cls_proof.specs.Certificates.{Certificate}
use Rattle.cls_query.specs.Queries.{Query, verify}
use Rattle.cls_engine.specs.declared.fault.EngineFault.{EngineFault}
use Rattle.cls_engine.specs.declared.fault.EngineFault.TheVariants.{Size, TooLarge, Wide, FilterTooLarge, TooManyTerms, OutOfMemory}
use Rattle.cls_engine.specs.Faults.{IsFaultOf}
use Rattle.cls_replies.specs.Responder.{Responder}
use Rattle.cls_replies.specs.Texts.{reply_line}
use Rattle.cls_replies.specs.Errors.{faults_of}
use Rattle.cls_replies.specs.Replies.{Says, Reply}
use Rattle.cls_replies.specs.Answering.{Answers, Judges}
use Rattle.cls_replies.specs.Answering as answering
use Rattle.cls_replies.specs.Steps.{IsFaultLine}

-- the first thing that the engine can't do is what is written
pub fails : (s : Responder) (q : Query) (f : EngineFault) (text : List ℕ) → IsFaultOf (faults_of s q) f → IsFaultLine s.names f text → Answers s q text s
fails s q Size text h l = answering.Answers.failed Size h l refl
fails s q TooLarge text h l = answering.Answers.failed TooLarge h l refl
fails s q (Wide g) text h l = answering.Answers.failed (Wide g) h l refl
fails s q FilterTooLarge text h l = answering.Answers.failed FilterTooLarge h l refl
fails s q TooManyTerms text h l = answering.Answers.failed TooManyTerms h l refl
fails s q OutOfMemory text h l = absurd l

pub judge_fails : (s : Responder) (t : ClosedType) (c : Certificate) (f : EngineFault) (text : List ℕ) → IsFaultOf (faults_of s (verify t)) f → IsFaultLine s.names f text → Judges s t c text
judge_fails s t c Size text h l = answering.Judges.failed Size h l
judge_fails s t c TooLarge text h l = answering.Judges.failed TooLarge h l
judge_fails s t c (Wide g) text h l = answering.Judges.failed (Wide g) h l
judge_fails s t c FilterTooLarge text h l = answering.Judges.failed FilterTooLarge h l
judge_fails s t c TooManyTerms text h l = answering.Judges.failed TooManyTerms h l
judge_fails s t c OutOfMemory text h l = absurd l

-- one of two lines
pub says_which : (Fact : Type 0) (yes : Bool) (so not_so text : List ℕ) → IsTrue yes ↔ Fact → text ≡ reply_line (if yes then so else not_so) → Says Fact so not_so text
says_which Fact true so not_so text h e = inl (h.0 refl, e)
says_which Fact false so not_so text h e = inr ((λ f. let t = h.1 f in cc), e)

-- what is written for a result of the engine, in a text that may be missing
module _ {X E : Type 0} (bytes : X → List ℕ) (r : Result X E) (s : Responder) (q : Query) where
  pub fault_answers : (f : EngineFault) → IsFaultOf (faults_of s q) f → IfOk r (λ text. IsFaultLine s.names f (bytes text)) → IfOk r (λ text. Answers s q (bytes text) s)
  fault_answers f h l = IfOk-weaker r (λ text. IsFaultLine s.names f (bytes text)) (λ text. Answers s q (bytes text) s) (λ text m. fails s q f (bytes text) h m) l

  pub reply_answers : IsSilent (First (faults_of s q)) → IfOk r (λ text. Reply s q (bytes text)) → IfOk r (λ text. Answers s q (bytes text) s)
  reply_answers h l = IfOk-weaker r (λ text. Reply s q (bytes text)) (λ text. Answers s q (bytes text) s) (λ text m. answering.Answers.replied h m refl) l
