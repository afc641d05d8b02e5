use Rattle.std.proofs.Common.{◌≡◌, ◌+◌, refl, ℕ, List, [], ◌∷◌, ◌++◌, ◌<◌, ◌∙◌, ap, sym, length, arith, get_or, vec_len, map, inl, inr, subst}
use Rattle.std.proofs.lemmas.Bool.{eqb-true}
use Rattle.std.specs.List.{flat_map}
use Rattle.std.proofs.lemmas.Result.{err_from_is_err_and}
use Rattle.cls_base.specs.Terms.{Applicative, apply}
use Rattle.cls_term.specs.Banks.{at, term_by}
use Rattle.cls_base.proofs.Lists.{AreBelow-at}
use Rattle.cls_enum.specs.PartialTerms.{partial_term}
use Rattle.cls_enum.specs.Candidates.{fills}
use Rattle.cls_enum.specs.CellTables.{cell_of}
use Rattle.cls_enum.specs.Members.{IsOverfull}
use Rattle.cls_enum.specs.Plans.{nodes_of}
use Rattle.cls_enum.specs.declared.partial_term.PartialTerm.{PartialTerm}
use Rattle.cls_enum.specs.declared.plan.Place.{Place}
use Rattle.cls_enum.proofs.Additions.{IsAdded-none, IsAdded-same, each-barren}
use Rattle.cls_enum.proofs.Beginnings.{before-refl, before-trans, before-term, before-partial, next-term, next-partial}
use Rattle.cls_enum.proofs.Members.{take-whole}
use Rattle.cls_enum.proofs.FillSteps.{IfTooMany-weaker, popped, each-step, each-over, size-step, size-over, first-size}
use Rattle.cls_enum.proofs.fill.+fill.Goals as goal
use Rattle.cls_enum.proofs.fill.+fill.Goals.{fill-then-is_empty, fill-else-is_empty}

pub fill-loop-size-init : goal.fill-loop-size-init
fill-loop-size-init t c =
    let ts = c.args.held.now.bank.now in
    let e = first-size ts c.args.held.now.cells.now (partial_term ts c.args.partial.now) (partial_term ts c.args.partial.now) c.args.found.now c.args.found.now c.args.found.now c.in-Some.place.now.node c.in-Some.others.now c.args.rest c.if-is_empty.first
    (elim c.if-is_empty.branch [
      | fill-then-is_empty w ↦ inl (eqb-true (length c.in-Some.others.now) 0 (sym c.is_empty.ensures ∙ w.if-is_empty.true), w.first-is)
      | fill-else-is_empty w ↦ inr w.first-is
    ]) in
    record {
      same = before-refl c.args.partial.now;
      added = IsAdded-same ts c.args.found.now c.args.found.now [] _ (sym e) (IsAdded-none ts c.args.found.now c.requires.found);
    }

pub fill-loop-size-preserved : goal.fill-loop-size-preserved
fill-loop-size-preserved t c = record {
  same = before-trans c.args.partial.now c.loop-size.partial c.fill_each.new.partial c.loop-size.invariant.same c.in_ok-fill_each.ensures.same;
  added = size-step c.args.held.now.bank.now c.args.held.now.cells.now (partial_term c.args.held.now.bank.now c.args.partial.now) (partial_term c.args.held.now.bank.now c.loop-size.partial) c.args.found.now c.loop-size.found c.fill_each.new.found c.in-Some.place.now.node (nodes_of c.in-Some.others.now) c.get-numbers.result.now c.args.rest c.loop-size.size (before-term c.args.held.now.bank.now c.args.partial.now c.loop-size.partial c.loop-size.invariant.same) c.get-numbers.ensures c.loop-size.invariant.added c.in_ok-fill_each.ensures.added;
}

pub fill-returns-in_err-fill_each-clause-over : goal.fill-returns-in_err-fill_each-clause-over
fill-returns-in_err-fill_each-clause-over t c =
    let p = err_from_is_err_and c.from_residual.result c.from_residual.ensures.1 in
    rw (p.1, p.2) (IfTooMany-weaker _ _ _
    (λ h. let r = size-over c.args.held.now.bank.now c.args.held.now.cells.now (partial_term c.args.held.now.bank.now c.args.partial.now) (partial_term c.args.held.now.bank.now c.loop-size.partial) c.args.found.now c.loop-size.found c.fill_each.new.found c.in-Some.place.now.node (nodes_of c.in-Some.others.now) c.get-numbers.result.now c.args.rest c.loop-size.size c.args.held.now.limit (omega (arith, c.loop-size-test.true)) (before-term c.args.held.now.bank.now c.args.partial.now c.loop-size.partial c.loop-size.invariant.same) c.get-numbers.ensures c.loop-size.invariant.added h in
    subst (λ (ps : List Place). IsOverfull c.args.held.now.limit (map (term_by c.args.held.now.bank.now) c.args.found.now) (fills (cell_of c.args.held.now.bank.now c.args.held.now.cells.now) (partial_term c.args.held.now.bank.now c.args.partial.now) (nodes_of ps) c.args.rest)) (sym c.in-Some.ensures.cases.0) r)
    c.in_err-fill_each.ensures.over)

pub fill_each-returns-then-is_barren-clause-added : goal.fill_each-returns-then-is_barren-clause-added
fill_each-returns-then-is_barren-clause-added t c =
    let ts = c.args.held.now.bank.now in
    let f = partial_term ts c.args.partial.now in
    IsAdded-same ts c.args.found.now c.args.found.now [] _
    (sym (each-barren (cell_of ts c.args.held.now.cells.now) c.args.places.now f c.args.rest c.args.partial.now.occurrences (map (at ts) c.args.numbers.now) c.requires.pruned (omega (arith, c.requires.partial.counted)) (c.is_barren.ensures.0 c.if-is_barren.true)))
    (IsAdded-none ts c.args.found.now c.requires.found)

pub fill_each-length-requires : goal.fill_each-length-requires
fill_each-length-requires t c = AreBelow-at (length c.args.held.now.bank.now) c.args.numbers.now c.loop-number.number-index c.requires.numbers (omega (arith, c.loop-number-test.true))

pub fill_each-fill-requires : goal.fill_each-fill-requires
fill_each-fill-requires t c =
    let ts = c.args.held.now.bank.now in
    let i = c.loop-number.number-index in
    let a = get_or c.args.numbers.now i 0 in
    let l : i < length c.args.numbers.now = omega (arith, c.loop-number-test.true) in
    let more : PartialTerm = record { head = c.loop-number.partial.head; args = c.push.new.self; occurrences = c.loop-number.partial.occurrences + c.from-more.result } in
    let partial = before-partial ts c.args.partial.now c.loop-number.partial c.loop-number.invariant.same c.requires.partial in
    let below = AreBelow-at (length ts) c.args.numbers.now i c.requires.numbers l in (
      omega (arith, c.decreases),
      (
        next-partial ts c.loop-number.partial more a partial below refl c.in_ok-push.ensures.items (omega (arith, c.from-more.ensures, c.length.ensures)),
        (
          omega (arith, c.requires.room, c.loop-number.invariant.same.occurrences, c.from-more.ensures, c.length.auto),
          (c.requires.small, (c.requires.pruned, c.loop-number.invariant.added.found)),
        ),
      ),
    )

pub fill_each-loop-number-preserved : goal.fill_each-loop-number-preserved
fill_each-loop-number-preserved t c =
    let ts = c.args.held.now.bank.now in
    let i = c.loop-number.number-index in
    let a = get_or c.args.numbers.now i 0 in
    let l : i < length c.args.numbers.now = omega (arith, c.loop-number-test.true) in
    let more : PartialTerm = record { head = c.loop-number.partial.head; args = c.push.new.self; occurrences = c.loop-number.partial.occurrences + c.from-more.result } in
    let q : c.push.new.self.items ≡ c.args.partial.now.args.items ++ a ∷ [] = c.in_ok-push.ensures.items ∙ ap (λ (l : List ℕ). l ++ a ∷ []) c.loop-number.invariant.same.args in
    let n = next-term ts c.args.partial.now more a c.loop-number.invariant.same.head q in
    record {
      same = record {
        head = c.in_ok-fill.ensures.same.head ∙ c.loop-number.invariant.same.head;
        args = popped c.args.partial.now.args.items c.fill.new.partial.args.items c.pop.new.self.items a (vec_len c.fill.new.partial.args) c.pop.ensures.rest (c.in_ok-fill.ensures.same.args ∙ q) (omega (arith, c.fill.new.partial.args.ok.0));
        occurrences = omega (arith, c.in_ok-fill.ensures.same.occurrences, c.loop-number.invariant.same.occurrences);
      };
      added = each-step ts c.args.held.now.cells.now (partial_term ts c.args.partial.now) (partial_term ts more) c.args.found.now c.loop-number.found c.fill.new.found (nodes_of c.args.places.now) c.args.numbers.now c.args.rest i l n c.loop-number.invariant.added c.in_ok-fill.ensures.added;
    }

pub fill_each-returns-in_err-fill-clause-over : goal.fill_each-returns-in_err-fill-clause-over
fill_each-returns-in_err-fill-clause-over t c =
    let ts = c.args.held.now.bank.now in
    let i = c.loop-number.number-index in
    let a = get_or c.args.numbers.now i 0 in
    let l : i < length c.args.numbers.now = omega (arith, c.loop-number-test.true) in
    let more : PartialTerm = record { head = c.loop-number.partial.head; args = c.push.new.self; occurrences = c.loop-number.partial.occurrences + c.from-more.result } in
    let q : c.push.new.self.items ≡ c.args.partial.now.args.items ++ a ∷ [] = c.in_ok-push.ensures.items ∙ ap (λ (l : List ℕ). l ++ a ∷ []) c.loop-number.invariant.same.args in
    let n = next-term ts c.args.partial.now more a c.loop-number.invariant.same.head q in
    let p = err_from_is_err_and c.from_residual-in_err-fill.result c.from_residual-in_err-fill.ensures.1 in
    rw (p.1, p.2) (IfTooMany-weaker _ _ _
    (each-over ts c.args.held.now.cells.now (partial_term ts c.args.partial.now) (partial_term ts more) c.args.found.now c.loop-number.found c.fill.new.found (nodes_of c.args.places.now) c.args.numbers.now c.args.rest i c.args.held.now.limit l n c.loop-number.invariant.added)
    c.in_err-fill.ensures.over)

pub fill_each-returns-clause-added : goal.fill_each-returns-clause-added
fill_each-returns-clause-added t c =
    let ts = c.args.held.now.bank.now in
    IsAdded-same ts c.args.found.now c.loop-number.found _ _
    (ap (λ (ns : List ℕ). flat_map (λ (a : Applicative). fills (cell_of ts c.args.held.now.cells.now) (apply (partial_term ts c.args.partial.now) a) (nodes_of c.args.places.now) c.args.rest) (map (at ts) ns)) (take-whole c.loop-number.number-index c.args.numbers.now (omega (arith, c.loop-number-test.false))))
    c.loop-number.invariant.added
