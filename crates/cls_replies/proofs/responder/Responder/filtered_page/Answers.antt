use Rattle.std.proofs.Common.{◌<◌, ℕ, subst, sym, length, Option}
use Rattle.std.specs.Prelude.{IfOk, IfErr, OnOk}
use Rattle.cls_base.specs.Firsts.{First, IsSilent}
use Rattle.cls_base.specs.Pages.{IsPage}
use Rattle.cls_base.specs.Terms.{Applicative}
use Rattle.cls_base.specs.Ty.{type_of}
use Rattle.cls_enum.specs.Requests.{request}
use Rattle.cls_enum.specs.declared.listed.Page.{Page}
use Rattle.cls_filter.specs.Automata.{Automaton, Accepts}
use Rattle.cls_library.specs.Typing.{HasTypeIn}
use Rattle.cls_query.specs.Queries.{filtered}
use Rattle.cls_query.specs.ReadQueries.{listing_of}
use Rattle.cls_engine.specs.Faults.{IsFaultOf, filter_faults}
use Rattle.cls_replies.specs.Errors.{faults_of}
use Rattle.cls_replies.specs.Responder.{Responder}
use Rattle.cls_replies.specs.Steps.{IsFilteredPageOf}
use Rattle.cls_replies.proofs.responder.Responder.filtered_page.Goals as goal

pub filter-by-requires : goal.filter-by-requires
filter-by-requires g c =
    let there = subst (λ (s : Responder). c.args.filter.0 < length s.filter_names) (sym c.self.view_is) c.requires.there in
    subst (λ (n : ℕ). c.args.filter.0 < n) c.self.invariant.filtered there

pub returns-clause-page : goal.returns-clause-page
returns-clause-page g c =
    let i = c.self.inside in
    let l = c.args.listing.now in
    let by = c.filter-by.result.now in
    subst (λ (s : Responder). IfOk c.filtered.result (IsFilteredPageOf s c.args.filter.0 (listing_of l))) c.self.view_is
    (subst (λ (b : Automaton). IfOk c.filtered.result (λ (p : Page). IsPage (λ e. HasTypeIn i.engine.library e (type_of l.goal) × Accepts b e) (request i.engine.costs l.after l.max l.take) p.terms p.more)) c.filter-by.ensures
    (subst (λ (a : Option Applicative). IfOk c.filtered.result (λ (p : Page). IsPage (λ e. HasTypeIn i.engine.library e (type_of l.goal) × Accepts by e) (request i.engine.costs a l.max l.take) p.terms p.more)) c.as_ref.ensures.value
    c.filtered.ensures.page))

pub returns-clause-silent : goal.returns-clause-silent
returns-clause-silent g c =
    let i = c.self.inside in
    let l = c.args.listing.now in
    let by = c.filter-by.result.now in
    subst (λ (s : Responder). OnOk c.filtered.result (IsSilent (First (faults_of s (filtered c.args.filter.0 (listing_of l)))))) c.self.view_is
    (subst (λ (b : Automaton). OnOk c.filtered.result (IsSilent (First (filter_faults i.engine.library i.engine.options (type_of l.goal) b (request i.engine.costs l.after l.max l.take))))) c.filter-by.ensures
    (subst (λ (a : Option Applicative). OnOk c.filtered.result (IsSilent (First (filter_faults i.engine.library i.engine.options (type_of l.goal) by (request i.engine.costs a l.max l.take))))) c.as_ref.ensures.value
    c.filtered.ensures.silent))

pub returns-clause-fault : goal.returns-clause-fault
returns-clause-fault g c =
    let i = c.self.inside in
    let l = c.args.listing.now in
    let by = c.filter-by.result.now in
    subst (λ (s : Responder). IfErr c.filtered.result (IsFaultOf (faults_of s (filtered c.args.filter.0 (listing_of l))))) c.self.view_is
    (subst (λ (b : Automaton). IfErr c.filtered.result (IsFaultOf (filter_faults i.engine.library i.engine.options (type_of l.goal) b (request i.engine.costs l.after l.max l.take)))) c.filter-by.ensures
    (subst (λ (a : Option Applicative). IfErr c.filtered.result (IsFaultOf (filter_faults i.engine.library i.engine.options (type_of l.goal) by (request i.engine.costs a l.max l.take)))) c.as_ref.ensures.value
    c.filtered.ensures.fault))
