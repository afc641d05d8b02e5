-- How long what may stand written for an input without a byte is at most.
use Rattle.std.proofs.Common.{◌≡◌, ℕ, ◌<◌, ◌≤◌, List, [], ◌∷◌, ◌++◌, length, sym, ap, ◌∙◌, arith, length-append}
use Rattle.std.specs.Prelude.{codes}
use Rattle.std.specs.Fmt.{decimal}
use Rattle.std.proofs.lemmas.Fmt.{length-decimal-le_wide}
use Rattle.cls_lexer.specs.Lines.{lines_of}
use Rattle.cls_engine.specs.declared.options.Options.{Options}
use Rattle.cls_replies.specs.Responder.{Responder}
use Rattle.cls_repo.specs.Readings.{Reading}
use Rattle.cls_session.specs.declared.status.Status.{Status}
use Rattle.cls_session.specs.Outputs.{lines_read, SessionText, after_lines, after_refusal, after_end, MayStand, of_usage, of_text, of_generated_text}
use Rattle.cls_session.specs.Repositories.{AreTaken, IsFirstFault, of_line, of_repository}
use Rattle.cls_session.specs.Transcripts.{IsAnswered, Transcript, opening, answering, refusal, Ending, without_end, complete}
use Rattle.cls_session.proofs.Outputs.{lines_read-short}

-- no line is a repository
none_answered : (o : Options) (lines : List (List ℕ)) (text : List ℕ) (s : Responder) → length lines ≡ 0 → IsAnswered o lines text s → 1 ≤ 0
none_answered o lines text s none a =
    let c = ap length a.split in
    let d = length-append a.repository (a.end ∷ a.queries) in
    omega arith

-- and none is at fault
none_faulty : (lines : List (List ℕ)) (said : ℕ × List ℕ) → length lines ≡ 0 → IsFirstFault lines said → 1 ≤ 0
none_faulty lines said none (of_line before after line r e t f) =
    let c = ap length e in
    let d = length-append before (line ∷ after) in
    omega arith
none_faulty lines said none (of_repository before after end r ended e t k d f) =
    let c = ap length e in
    let l = length-append before (end ∷ after) in
    omega arith

transcript_length : (o : Options) (lines : List (List ℕ)) (text : List ℕ) → length lines ≡ 0 → Transcript o lines text → length text ≤ 0
transcript_length o lines text none (opening r t e) = let a = ap length e in omega arith
transcript_length o lines text none (answering s a) = let c = none_answered o lines text s none a in omega arith

no_end_length : (place : ℕ) → place < 10 → length (refusal (place, codes "no-end")) ≤ 17
no_end_length place few =
    let d = length-decimal-le_wide 1 place (omega arith) (omega arith) (omega arith) in
    let a = length-append (decimal place ++ codes " " ++ codes "no-end") (10 ∷ []) in
    let b = length-append (decimal place ++ codes " ") (codes "no-end") in
    let c = length-append (decimal place) (codes " ") in
    omega arith

-- no line was read
none_taken : (lines : List (List ℕ)) (reading : Reading) → length lines ≡ 0 → AreTaken lines reading → reading.lines ≡ 0
none_taken [] reading none t = ap (λ r. r.lines) t.taken
none_taken (line ∷ lines) reading none t = absurd (omega arith)

ending_length : (o : Options) (lines : List (List ℕ)) (text : List ℕ) (status : Status) → length lines ≡ 0 → Ending o lines text status → length text ≤ 17
ending_length o lines text status none (without_end r t w s) =
    let e = ap length w in
    let z = none_taken lines r none t in
    let f = no_end_length r.lines (omega arith) in
    omega arith
ending_length o lines text status none (complete s replies last a n w k) = let c = none_answered o lines replies s none a in omega arith

no_lines : length (lines_of []) ≡ 0
unfolding lines_of
no_lines = omega arith

first_lines : (first others : List (List ℕ)) → lines_read [] ≡ first ++ others → length first ≡ 0
first_lines first others e =
    let split : lines_of [] ≡ first ++ others = sym (lines_read-short [] (omega arith)) ∙ e in
    let a = ap length split in
    let b = length-append first others in
    let c = no_lines in
    omega arith

session_length : (o : Options) (text : List ℕ) → SessionText o [] text → length text ≤ 17
session_length o text (after_lines first others e t) = let b = transcript_length o first text (first_lines first others e) t in omega arith
session_length o text (after_refusal first others e r) = let b = none_faulty first r.said (first_lines first others e) r.fault in omega arith
session_length o text (after_end status l r) = ending_length o (lines_of []) text status no_lines r

pub nothing-text : (text : List ℕ) → MayStand [] [] text → length text ≤ 1000
nothing-text text (of_usage n e) = let a = ap length e in omega arith
nothing-text text (of_text o asks t) = let a = session_length o text t in omega arith
nothing-text text (of_generated_text o n asks t) =
    let a = ap length asks.split in
    let b = length-append asks.first asks.last in
    let c = ap length asks.generate.spelled in
    omega arith
