use Rattle.std.proofs.Common.{◌≡◌, ℕ, List, [], true, refl, subst}
use Rattle.std.specs.Prelude.{◌↔◌, Option, None, Some, IfErr, IfNone, IfOk, IfSome, codes, length}
use Rattle.std.proofs.lemmas.Result.{IfOk-weaker}
use Rattle.cls_base.specs.Firsts.{First}
use Rattle.cls_lexer.specs.Words.{words_of}
use Rattle.cls_query.specs.declared.fault.LineFault.{LineFault}
use Rattle.cls_query.specs.Queries.{tables_of}
use Rattle.cls_query.specs.QueryErrors.{line_errors}
use Rattle.cls_query.specs.Readable.{IsReadable, IsVerify, begins_with}
use Rattle.cls_query.specs.ReadQueries.{BuiltQuery, fault_words, asked_of, ReadsQuery}
use Rattle.cls_query.proofs.Readable.{query_readable, query_verify}
use Rattle.cls_query.proofs.reader.read_query.Goals as goal

pub returns-in-Some-clause-query : goal.returns-in-Some-clause-query
returns-in-Some-clause-query c =
    let old = tables_of c.args.constructors.now c.args.variables.now c.args.components.now c.args.filters.now in
    let new = tables_of c.comparison.new.constructors c.args.variables.now c.args.components.now c.args.filters.now in
    let read = rw c.in-Some.is at c.in_ok-comparison.ensures.read in
    subst (λ (l : List ℕ). ReadsQuery old l (asked_of c.in-Some.comparison) new) c.in_ok-text.ensures.same (read c.args.variables.now c.args.components.now c.args.filters.now)

pub returns-in-Some-clause-readable : goal.returns-in-Some-clause-readable
returns-in-Some-clause-readable c = query_readable (returns-in-Some-clause-query c)

pub returns-in-Some-clause-verify : goal.returns-in-Some-clause-verify
returns-in-Some-clause-verify c = query_verify (returns-in-Some-clause-query c)

-- what holds if there is nothing
absent : {A P : Type 0} (o : Option A) → ((x : A) → o ≡ Some x → ⊥) → IfNone o P → P
absent None n h = h
absent (Some x) n h = absurd (n x refl)

-- what is read by forms, whatever variables there are
abbrev IsReadByForm : (old new components filters : List (List ℕ)) → (line : List ℕ) → BuiltQuery → Type 0
IsReadByForm old new components filters line q =
    (variables : List (List ℕ)) → ReadsQuery (tables_of old variables components filters) line (asked_of q) (tables_of new variables components filters)

pub returns-clause-query : goal.returns-clause-query
returns-clause-query c =
    let same : c.comparison.new.constructors ≡ c.args.constructors.now = absent _ c.in_default.not-Some c.in_ok-comparison.ensures.left in
    let old = tables_of c.args.constructors.now c.args.variables.now c.args.components.now c.args.filters.now in
    let new = tables_of c.by_form.new.constructors c.args.variables.now c.args.components.now c.args.filters.now in
    subst (λ (l : List ℕ). IfOk c.by_form.result (λ (q : BuiltQuery). ReadsQuery old l (asked_of q) new)) c.in_ok-text.ensures.same
    (subst (λ (names : List (List ℕ)). IfOk c.by_form.result (λ (q : BuiltQuery). ReadsQuery (tables_of names c.args.variables.now c.args.components.now c.args.filters.now) c.in_ok-text.text.now (asked_of q) new)) same
    (IfOk-weaker c.by_form.result (IsReadByForm c.comparison.new.constructors c.by_form.new.constructors c.args.components.now c.args.filters.now c.in_ok-text.text.now) _
    (λ q r. r c.args.variables.now) c.by_form.ensures.query))

pub returns-clause-fault : goal.returns-clause-fault
returns-clause-fault c =
    let tables = tables_of c.args.constructors.now c.args.variables.now c.args.components.now c.args.filters.now in
    subst (λ (l : List ℕ). IfErr c.by_form.result (λ (fault : LineFault). IfSome (fault_words fault) (First (line_errors tables l)))) c.in_ok-text.ensures.same c.by_form.ensures.fault

pub returns-clause-readable : goal.returns-clause-readable
returns-clause-readable c =
    IfOk-weaker c.by_form.result (IsReadByForm c.comparison.new.constructors c.by_form.new.constructors c.args.components.now c.args.filters.now c.in_ok-text.text.now)
    (λ (q : BuiltQuery). IsReadable (length c.args.components.now) (length c.args.filters.now) (asked_of q)) (λ q r. query_readable (r [])) c.by_form.ensures.query

pub returns-clause-verify : goal.returns-clause-verify
returns-clause-verify c =
    subst (λ (l : List ℕ). IfOk c.by_form.result (λ (q : BuiltQuery). IsVerify (asked_of q) ↔ (begins_with (codes "verify") (words_of l) ≡ true))) c.in_ok-text.ensures.same
    (IfOk-weaker c.by_form.result (IsReadByForm c.comparison.new.constructors c.by_form.new.constructors c.args.components.now c.args.filters.now c.in_ok-text.text.now) _
    (λ q r. query_verify (r [])) c.by_form.ensures.query)
