use Rattle.std.proofs.Common.{◌≡◌, sym, ap, subst, ◌∙◌, rules}
use Rattle.cls_callers.specs.declared.tag.AskTag.{AskTag}
use Rattle.cls_callers.specs.Asking.{AreAsked}
use Rattle.cls_expand.specs.Answers.{IsReady}
use Rattle.cls_library.specs.Libraries.{Library}
use Rattle.cls_engine.specs.Batches.{asked_of}
use Rattle.cls_engine.specs.Engines.{EngineSeen}
use Rattle.cls_engine.specs.Goals.{Goal}
use Rattle.cls_engine.proofs.AskedRows.{ruled-asked}
use Rattle.cls_engine.proofs.BatchFaults.{decided-of, large-of, wide-of}
use Rattle.cls_engine.proofs.RowsBooks.{some-wide}
use Rattle.cls_engine.proofs.engine.Engine.decide_together.Goals as goal

pub new-asked-requires : goal.new-asked-requires
new-asked-requires g c =
    let library = c.new-by.ensures ∙ (c.new-expander.ensures ∙ ap (λ (e : EngineSeen). e.library) c.self.view_is) in
    let asked : asked_of c.new-by.result c.new-goals.result ≡ asked_of c.args.self.now.library c.args.goals.items = (λ j. asked_of (library j) (c.new-goals.ensures j)) in
    subst (λ (t : AskTag Library Goal). AreAsked IsReady t) (sym asked) c.requires.asked

pub returns-in_err-rows-clause-fault : goal.returns-in_err-rows-clause-fault
returns-in_err-rows-clause-fault g c =
    let library = c.new-by.ensures ∙ (c.new-expander.ensures ∙ ap (λ (e : EngineSeen). e.library) c.self.view_is) in
    let asked = c.new-asked.ensures ∙ (λ j. asked_of (library j) (c.new-goals.ensures j)) in
    let h = large-of c.new-asked.result c.args.self.now.library c.args.self.now.options c.args.goals.items asked c.in_err-rows.field-0.0 c.in_err-rows.ensures.large in
    search (rules, h)

pub returns-in-None-clause-decided : goal.returns-in-None-clause-decided
returns-in-None-clause-decided g c =
    let library = c.new-by.ensures ∙ (c.new-expander.ensures ∙ ap (λ (e : EngineSeen). e.library) c.self.view_is) in
    let asked = c.new-asked.ensures ∙ (λ j. asked_of (library j) (c.new-goals.ensures j)) in
    let rows = c.in_ok-rows in
    decided-of c.new-asked.result c.args.self.now.library c.args.self.now.options c.args.goals.items asked c.in_ok-says-in-None.says.items
    c.in_ok-says-in-None.ensures rows.ensures.within (ruled-asked c.new-asked.result rows.rows rows.ensures.rooted c.in-None.ensures.none)

pub first_wide_of-requires-clause-wide : goal.first_wide_of-requires-clause-wide
first_wide_of-requires-clause-wide g c = some-wide c.in_ok-rows.rows c.in-Some.field-0 c.in-Some.ensures.within c.in-Some.ensures.wide

pub returns-clause-fault : goal.returns-clause-fault
returns-clause-fault g c =
    let library = c.new-by.ensures ∙ (c.new-expander.ensures ∙ ap (λ (e : EngineSeen). e.library) c.self.view_is) in
    let asked = c.new-asked.ensures ∙ (λ j. asked_of (library j) (c.new-goals.ensures j)) in
    wide-of c.new-asked.result c.args.self.now.library c.args.self.now.options c.args.goals.items asked c.in_ok-wide-in-Some.wide c.in_ok-rows.ensures.within c.in_ok-wide-in-Some.ensures
