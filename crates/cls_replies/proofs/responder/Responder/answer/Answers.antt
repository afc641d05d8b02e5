use Rattle.std.proofs.Common.{List, ℕ, length, map, ap, refl, rules, subst, arith}
use Rattle.std.specs.Prelude.{IfOk, string_bytes}
use Rattle.std.proofs.lemmas.List.{length-map}
use Rattle.cls_base.specs.Ty.{type_of}
use Rattle.cls_base.specs.declared.ty.Ty.{Ty}
use Rattle.cls_query.specs.Queries.{batch}
use Rattle.cls_query.specs.ReadQueries.{asked_of}
use Rattle.cls_replies.specs.Answering.{Answers}
use Rattle.cls_replies.specs.Answering as answering
use Rattle.cls_replies.specs.Steps.{IsAnswerTo}
use Rattle.cls_replies.proofs.Keeping.{kept}
use Rattle.cls_replies.proofs.Portions.{printing_as}
use Rattle.cls_replies.proofs.responder.Responder.answer.Goals as goal

pub returns-in-Sub : goal.returns-in-Sub
returns-in-Sub g c =
    let s = c.args.self.now in
    let q = asked_of c.args.query.now in
    let told : IfOk c.text_printing.result (IsAnswerTo s q) = printing_as c.sub.result c.text_printing.result s (λ (t : List ℕ). Answers s q t s) c.text_printing.ensures.text (rw c.in-Sub.is c.sub.ensures.answers) in
    let k = kept c.text_printing.result s c.sub.new.self q c.sub.ensures.same told (c.text_printing.ensures.printable s) in
    record { answers = k.0; printable = k.1; same_held = k.2; unchanged = k.3 }

pub returns-in-Paths-clause-answers : goal.returns-in-Paths-clause-answers
returns-in-Paths-clause-answers g c =
    let s = c.args.self.now in
    rw c.in-Paths.is (answering.Answers.replied (λ f k. k) (c.paths_printing.ensures.text s) refl)

pub returns-in-Paths-clause-printable : goal.returns-in-Paths-clause-printable
returns-in-Paths-clause-printable g c =
    let declared = rw c.in-Paths.is at c.requires.readable in
    c.paths_printing.ensures.printable c.args.self.now declared

pub returns-in-Typed : goal.returns-in-Typed
returns-in-Typed g c =
    let s = c.args.self.now in
    let q = asked_of c.args.query.now in
    let told : IfOk c.text_printing-in-Typed.result (IsAnswerTo s q) = printing_as c.typed.result c.text_printing-in-Typed.result s (λ (t : List ℕ). Answers s q t s) c.text_printing-in-Typed.ensures.text (rw c.in-Typed.is c.typed.ensures.answers) in
    let k = kept c.text_printing-in-Typed.result s c.typed.new.self q c.typed.ensures.same told (c.text_printing-in-Typed.ensures.printable s) in
    record { answers = k.0; printable = k.1; same_held = k.2; unchanged = k.3 }

pub about-requires : goal.about-requires
about-requires g c = (search rules, (search rules, rw c.in-About.is at c.requires.not_verify))

pub returns-in-About : goal.returns-in-About
returns-in-About g c =
    let s = c.args.self.now in
    let q = asked_of c.args.query.now in
    let told : IfOk c.about.result (IsAnswerTo s q) = rw c.in-About.is c.about.ensures.answers in
    let k = kept c.about.result s c.about.new.self q c.about.ensures.same told c.about.ensures.printable in
    record { answers = k.0; printable = k.1; same_held = k.2; unchanged = k.3 }

pub returns-in-Page : goal.returns-in-Page
returns-in-Page g c =
    let s = c.args.self.now in
    let q = asked_of c.args.query.now in
    let told : IfOk c.show.result (IsAnswerTo s q) = rw c.in-Page.is c.show.ensures.answers in
    let k = kept c.show.result s c.show.new.self q c.show.ensures.same told c.show.ensures.printable in
    record { answers = k.0; printable = k.1; same_held = k.2; unchanged = k.3 }

pub filtered-requires-clause-there : goal.filtered-requires-clause-there
filtered-requires-clause-there g c = let h = (rw c.in-Filtered.is at c.requires.readable).0 in search (rules, h)

pub filtered-requires-clause-asked : goal.filtered-requires-clause-asked
filtered-requires-clause-asked g c = let h = (rw c.in-Filtered.is at c.requires.readable).1 in search (rules, h)

pub returns-in-Filtered : goal.returns-in-Filtered
returns-in-Filtered g c =
    let s = c.args.self.now in
    let q = asked_of c.args.query.now in
    let told : IfOk c.filtered.result (IsAnswerTo s q) = rw c.in-Filtered.is c.filtered.ensures.answers in
    let k = kept c.filtered.result s c.filtered.new.self q c.filtered.ensures.same told c.filtered.ensures.printable in
    record { answers = k.0; printable = k.1; same_held = k.2; unchanged = k.3 }

pub batch-requires-clause-some : goal.batch-requires-clause-some
batch-requires-clause-some g c =
    let readable = (rw c.in-Batch.is at c.requires.readable).0 in
    omega (arith, readable, length-map c.as_slice.result.now type_of, ap (λ (ts : List Ty). length (map type_of ts)) c.as_slice.ensures.value)

pub batch-requires-clause-few : goal.batch-requires-clause-few
batch-requires-clause-few g c =
    let readable = (rw c.in-Batch.is at c.requires.readable).1 in
    omega (arith, readable, length-map c.as_slice.result.now type_of, ap (λ (ts : List Ty). length (map type_of ts)) c.as_slice.ensures.value)

pub returns-in-Batch : goal.returns-in-Batch
returns-in-Batch g c =
    let s = c.args.self.now in
    let q = asked_of c.args.query.now in
    let asked = subst (λ (ts : List Ty). IfOk c.batch.result (λ text. Answers s (batch (map type_of ts)) (string_bytes text) s)) c.as_slice.ensures.value c.batch.ensures.answers in
    let told : IfOk c.text_printing-in-Batch.result (IsAnswerTo s q) = printing_as c.batch.result c.text_printing-in-Batch.result s (λ (t : List ℕ). Answers s q t s) c.text_printing-in-Batch.ensures.text (rw c.in-Batch.is asked) in
    let k = kept c.text_printing-in-Batch.result s c.batch.new.self q c.batch.ensures.same told (c.text_printing-in-Batch.ensures.printable s) in
    record { answers = k.0; printable = k.1; same_held = k.2; unchanged = k.3 }
