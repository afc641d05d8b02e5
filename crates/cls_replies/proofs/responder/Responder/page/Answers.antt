use Rattle.std.proofs.Common.{subst, sym, length, Option}
use Rattle.std.specs.Prelude.{IfOk, IfErr, OnOk, All}
use Rattle.std.proofs.lemmas.Result.{IfOk-weaker}
use Rattle.cls_base.specs.Firsts.{First, IsSilent}
use Rattle.cls_base.specs.Terms.{Applicative, IsTermOver}
use Rattle.cls_base.specs.Ty.{type_of}
use Rattle.cls_enum.specs.Requests.{request}
use Rattle.cls_query.specs.Queries.{list}
use Rattle.cls_query.specs.ReadQueries.{listing_of}
use Rattle.cls_engine.specs.Faults.{IsFaultOf, list_faults}
use Rattle.cls_replies.specs.Errors.{faults_of}
use Rattle.cls_replies.specs.Responder.{Responder}
use Rattle.cls_replies.proofs.Terms.{page_over}
use Rattle.cls_replies.proofs.responder.Responder.page.Goals as goal

pub returns-clause-over : goal.returns-clause-over
returns-clause-over g c =
    let i = c.self.inside in
    subst (λ (s : Responder). IfOk c.list.result (λ page. All (IsTermOver (length s.components)) page.terms)) c.self.view_is
    (IfOk-weaker c.list.result _ _ (λ page p. page_over i.engine.library (type_of c.args.listing.now.goal) (length i.components) _ page.terms page.more (sym c.self.invariant.named) p) c.list.ensures.page)

pub returns-clause-silent : goal.returns-clause-silent
returns-clause-silent g c =
    let i = c.self.inside in
    let l = c.args.listing.now in
    subst (λ (s : Responder). OnOk c.list.result (IsSilent (First (faults_of s (list (listing_of l)))))) c.self.view_is
    (subst (λ (a : Option Applicative). OnOk c.list.result (IsSilent (First (list_faults i.engine.library i.engine.options (type_of l.goal) (request i.engine.costs a l.max l.take))))) c.as_ref.ensures.value
    c.list.ensures.silent)

pub returns-clause-fault : goal.returns-clause-fault
returns-clause-fault g c =
    let i = c.self.inside in
    let l = c.args.listing.now in
    subst (λ (s : Responder). IfErr c.list.result (IsFaultOf (faults_of s (list (listing_of l))))) c.self.view_is
    (subst (λ (a : Option Applicative). IfErr c.list.result (IsFaultOf (list_faults i.engine.library i.engine.options (type_of l.goal) (request i.engine.costs a l.max l.take)))) c.as_ref.ensures.value
    c.list.ensures.fault)
