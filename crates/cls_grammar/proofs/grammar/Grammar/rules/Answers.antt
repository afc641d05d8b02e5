use Rattle.std.proofs.Common.{ℕ, arith, ap, length, refl, subst, sym, ◌≡◌, ◌<◌, Some, slice_get, List}
use Rattle.std.specs.Prelude.{option_map}
use Rattle.std.proofs.lemmas.Option.{slice_get_read}
use Rattle.cls_path.specs.Paths.{TypePath}
use Rattle.cls_core.specs.declared.answer.Answer.TheVariants.{Rules}
use Rattle.cls_core.specs.Rows.{Row}
use Rattle.cls_grammar.specs.Grammars.{ruled_rows, book_of}
use Rattle.cls_grammar.proofs.RowColumns.{rows-count, rows-answer, rows-rules, rows-book}
use Rattle.cls_grammar.proofs.grammar.Grammar.rules.Goals as goal
use Rattle.cls_grammar.proofs.Climbing.{node-within}
use Rattle.cls_base.specs.Books.{HaveNodesBelow}

pub index-requires : goal.index-requires
index-requires c =
    let i = c.self.inside in
    omega (arith, c.requires, i.rules.ok.0, c.self.invariant.paired, rows-count i.goals.items i.rules.items c.self.invariant.paired, ap length c.self.view_is)

pub returns-clause-rules : goal.returns-clause-rules
returns-clause-rules c =
    let i = c.self.inside in
    let within : c.args.i < length i.rules.items = omega (arith, c.requires, c.self.invariant.paired, rows-count i.goals.items i.rules.items c.self.invariant.paired, ap length c.self.view_is) in
    let at = slice_get_read i.rules.items (length i.rules.items) c.args.i c.index.result.now refl within c.index.ensures in
    subst (λ v. option_map (λ (r : Row (List TypePath)). r.answer) (slice_get v c.args.i) ≡ Some (Rules c.index.result.now)) c.self.view_is (rows-answer i.goals.items i.rules.items c.args.i c.index.result.now c.self.invariant.paired at)

pub returns-clause-within : goal.returns-clause-within
returns-clause-within c =
    let i = c.self.inside in
    let rows = ruled_rows i.goals.items i.rules.items in
    let within : c.args.i < length i.rules.items = omega (arith, c.requires, c.self.invariant.paired, rows-count i.goals.items i.rules.items c.self.invariant.paired, ap length c.self.view_is) in
    let at = slice_get_read i.rules.items (length i.rules.items) c.args.i c.index.result.now refl within c.index.ensures in
    let there = rows-rules i.goals.items i.rules.items c.args.i c.index.result.now c.self.invariant.paired at in
    let count : length i.goals.items ≡ length c.args.self.now = omega (arith, rows-count i.goals.items i.rules.items c.self.invariant.paired, ap length c.self.view_is) in
    let P : ℕ → Type 0 = λ n. HaveNodesBelow n c.index.result.now in
    subst P count (subst (HaveNodesBelow (length i.goals.items)) (sym (rows-book rows c.args.i c.index.result.now there)) (node-within (length i.goals.items) (book_of rows) c.args.i c.self.invariant.within))
