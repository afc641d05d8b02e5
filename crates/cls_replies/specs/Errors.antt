-- The errors of a query that was read.
use Rattle.std.specs.Prelude.{ℕ, List, [], ◌∷◌, ◌++◌, codes, Option, Some, None}
use Rattle.std.specs.Fmt.{decimal}
use Rattle.cls_base.specs.Firsts.{Cause}
use Rattle.cls_enum.specs.Requests.{request}
use Rattle.cls_query.specs.declared.query.Query.TheVariants.{Sub, Paths, Typed, About, Page, Filtered, Batch}
use Rattle.cls_query.specs.declared.word.GoalWord.TheVariants.{Verify}
use Rattle.cls_query.specs.Queries.{Query}
use Rattle.cls_proof.specs.declared.proof_fault.ProofFault.{ProofFault}
use Rattle.cls_proof.specs.declared.proof_fault.ProofFault.TheVariants as proof
use Rattle.cls_engine.specs.declared.fault.EngineFault.{EngineFault}
use Rattle.cls_engine.specs.Batches.{batch_faults}
use Rattle.cls_engine.specs.Faults.{compare_faults, closure_faults, list_faults, filter_faults}
use Rattle.cls_replies.specs.Responder.{Responder, filter_in}

-- What the engine can't do for a query.
abbrev pub faults_of : Responder → Query → List (Cause EngineFault)
faults_of s (Sub a b) = compare_faults (a ∷ b ∷ [])
faults_of s (Paths x) = []
faults_of s (Typed u t) = compare_faults (t ∷ [])
faults_of s (About Verify t) = compare_faults (t ∷ [])
faults_of s (About word t) = closure_faults s.engine.library s.engine.options t
faults_of s (Page word q) =
    list_faults s.engine.library s.engine.options q.goal (request s.engine.costs q.after q.max q.take)
faults_of s (Filtered f q) =
    filter_faults s.engine.library s.engine.options q.goal (filter_in s f)
    (request s.engine.costs q.after q.max q.take)
faults_of s (Batch ts) = batch_faults s.engine.library s.engine.options ts

-- The words of what is wrong with the lines of a certificate. Out of memory has none.
abbrev pub proof_words : ProofFault → Option (List ℕ)
proof_words (proof.BadLine n) = Some (codes "certificate " ++ decimal n)
proof_words proof.NoQed = Some (codes "no-qed")
proof_words proof.OutOfMemory = None
