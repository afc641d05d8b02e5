use Rattle.std.proofs.Common.{arith, ap, length, refl, subst, ◌≡◌, ◌<◌, List, ℕ}
use Rattle.std.proofs.lemmas.Option.{slice_get_read}
use Rattle.cls_base.specs.Languages.{rules_at}
use Rattle.cls_core.specs.Rows.{Row}
use Rattle.cls_path.specs.Paths.{TypePath}
use Rattle.cls_grammar.specs.Grammars.{ruled_rows, book_of}
use Rattle.cls_grammar.proofs.RowColumns.{rows-count, rows-rules, rows-book, book-count}
use Rattle.cls_grammar.proofs.grammar.GrammarRuleBook.rules.Goals as goal
use Rattle.cls_grammar.proofs.Climbing.{node-within}
use Rattle.cls_base.specs.Books.{HaveNodesBelow}

pub index-requires : goal.index-requires
index-requires c =
    let i = c.self.inside in
    omega (arith, c.requires, i.rules.ok.0, c.self.invariant.paired, rows-count i.goals.items i.rules.items c.self.invariant.paired, ap length c.self.view_is, book-count c.args.self.now)

pub returns-clause-rules : goal.returns-clause-rules
returns-clause-rules c =
    let i = c.self.inside in
    let rows = ruled_rows i.goals.items i.rules.items in
    let within : c.args.i < length i.rules.items = omega (arith, c.requires, c.self.invariant.paired, rows-count i.goals.items i.rules.items c.self.invariant.paired, ap length c.self.view_is, book-count c.args.self.now) in
    let at = slice_get_read i.rules.items (length i.rules.items) c.args.i c.index.result.now refl within c.index.ensures in
    let there = rows-rules i.goals.items i.rules.items c.args.i c.index.result.now c.self.invariant.paired at in
    subst (λ (v : List (Row (List TypePath))). c.index.result.now ≡ rules_at (book_of v) c.args.i) c.self.view_is (rows-book rows c.args.i c.index.result.now there)

pub returns-clause-within : goal.returns-clause-within
returns-clause-within c =
    let i = c.self.inside in
    let rows = ruled_rows i.goals.items i.rules.items in
    let count : length i.goals.items ≡ length (book_of rows) = omega (arith, rows-count i.goals.items i.rules.items c.self.invariant.paired, book-count rows) in
    let P : ℕ → Type 0 = λ n. HaveNodesBelow n (rules_at (book_of rows) c.args.i) in
    subst (λ (v : List (Row (List TypePath))). HaveNodesBelow (length (book_of v)) (rules_at (book_of v) c.args.i)) c.self.view_is (subst P count (node-within (length i.goals.items) (book_of rows) c.args.i c.self.invariant.within))
