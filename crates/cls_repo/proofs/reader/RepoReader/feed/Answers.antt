use Rattle.std.proofs.Common.{◌+◌, refl, ap, ◌∙◌, subst}
use Rattle.cls_repo.specs.Drafts.{Draft}
use Rattle.cls_repo.specs.FaultWords.{OnWords}
use Rattle.cls_repo.specs.Readings.{Reading, Takes, Refuses}
use Rattle.cls_repo.specs.Written.{draft_of}
use Rattle.cls_repo.proofs.Soundness.{taken_sound}
use Rattle.cls_repo.proofs.Taking.{taken, said_refused}
use Rattle.cls_repo.proofs.reader.RepoReader.feed.Goals as goal

pub returns-in-Ok-clause-taken : goal.returns-in-Ok-clause-taken
returns-in-Ok-clause-taken c =
    let i = c.self.inside in
    let old : Reading = record { draft = draft_of i.draft; lines = i.lines; ended = i.ended } in
    let new : Reading = record { draft = draft_of c.take_line.new.draft; lines = i.lines + 1; ended = c.in-Ok.ended } in
    subst (λ (r : Reading). Takes r c.args.line.now new) c.self.view_is
    (taken old c.args.line.now (draft_of c.take_line.new.draft) c.in-Ok.ended (ap (λ (r : Reading). r.ended) c.self.view_is ∙ c.requires.going) c.in-Ok.ensures.taken)

pub returns-in-Err-clause-refused : goal.returns-in-Err-clause-refused
returns-in-Err-clause-refused c =
    let i = c.self.inside in
    let old : Reading = record { draft = draft_of i.draft; lines = i.lines; ended = i.ended } in
    subst (λ (r : Reading). OnWords (λ words. Refuses r c.args.line.now (i.lines + 1, words)) c.in-Err.kind) c.self.view_is
    (said_refused old c.args.line.now c.in-Err.kind (i.lines + 1) refl c.in-Err.ensures.fault)

pub returns-in-Err-clause-unchanged : goal.returns-in-Err-clause-unchanged
returns-in-Err-clause-unchanged c =
    let i = c.self.inside in
    ap (λ (d : Draft). record { draft = d; lines = i.lines; ended = i.ended }) c.in-Err.ensures.unchanged ∙ c.self.view_is

pub invariant_of-self : goal.invariant_of-self
invariant_of-self c =
    let i = c.self.inside in
    let old : Reading = record { draft = draft_of i.draft; lines = i.lines; ended = i.ended } in
    let new : Reading = record { draft = draft_of c.take_line.new.draft; lines = i.lines + 1; ended = c.in-Ok.ended } in
    taken_sound old c.args.line.now new
    (taken old c.args.line.now (draft_of c.take_line.new.draft) c.in-Ok.ended (ap (λ (r : Reading). r.ended) c.self.view_is ∙ c.requires.going) c.in-Ok.ensures.taken)
    c.self.invariant
