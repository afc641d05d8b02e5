use Rattle.std.proofs.Common.{◌<◌, ◌≤◌, arith, length, string_bytes}
use Rattle.cls_syntax.specs.TypePrinting.{name_in}
use Rattle.cls_grammar.proofs.PrintedRows.{goal-begun, goal-done, goals-done, read-at}
use Rattle.cls_grammar.proofs.printing.write_goals.Goals as goal

pub loop-number-preserved : goal.loop-number-preserved
loop-number-preserved c =
    let rows = c.args.grammar.now in
    let ranks = c.args.ranks.now in
    let i = c.loop-number.number in
    let less : i < length rows = omega (arith, c.loop-number-test.true, c.count-goals.ensures.count) in
    let within : i < length ranks = omega (arith, less, c.requires) in
    let over : length c.rules-rules.result.now ≤ c.in_ok-next.next = omega (arith, c.if-next-count.false, c.len-count.ensures) in
    goal-done (name_in c.args.tables.now.names.now) (name_in c.args.tables.now.components.now) rows ranks i c.goal.result.now c.rules-rules.result.now _ c.in_ok-next.next (string_bytes c.loop-number.text) (string_bytes c.write_goal.new.text) (string_bytes c.write_rules.new.text) _
    less c.goal.ensures c.rules-rules.ensures.rules (read-at ranks i _ within) c.in_ok-write_goal.ensures c.in_ok-next.ensures.lines c.loop-number.invariant over

pub returns-then-next-count-clause-lines : goal.returns-then-next-count-clause-lines
returns-then-next-count-clause-lines c =
    let rows = c.args.grammar.now in
    let ranks = c.args.ranks.now in
    let i = c.loop-number.number in
    let less : i < length rows = omega (arith, c.loop-number-test.true, c.count-goals.ensures.count) in
    let within : i < length ranks = omega (arith, less, c.requires) in
    goal-begun (name_in c.args.tables.now.names.now) (name_in c.args.tables.now.components.now) rows ranks i c.goal.result.now c.rules-rules.result.now _ c.in_ok-next.next (string_bytes c.loop-number.text) (string_bytes c.write_goal.new.text) (string_bytes c.write_rules.new.text) _
    less c.goal.ensures c.rules-rules.ensures.rules (read-at ranks i _ within) c.in_ok-write_goal.ensures c.in_ok-next.ensures.lines c.loop-number.invariant

pub returns-clause-lines : goal.returns-clause-lines
returns-clause-lines c =
    let rows = c.args.grammar.now in
    let ranks = c.args.ranks.now in
    let i = c.loop-number.number in
    let over : length rows ≤ i = omega (arith, c.loop-number-test.false, c.count-goals.ensures.count) in
    let past : length ranks ≤ i = omega (arith, over, c.requires) in
    goals-done (name_in c.args.tables.now.names.now) (name_in c.args.tables.now.components.now) rows ranks i (string_bytes c.loop-number.text) (string_bytes c.push_str.new.self) _ over past c.in_ok-push_str.ensures.bytes c.loop-number.invariant

pub returns-then-written-enough-clause-within : goal.returns-then-written-enough-clause-within
returns-then-written-enough-clause-within c = let within : c.loop-number.number ≤ length c.args.grammar.now = omega (arith, c.loop-number-test.true, c.count-goals.ensures.count) in within

pub returns-then-next-count-clause-within : goal.returns-then-next-count-clause-within
returns-then-next-count-clause-within c = let within : c.loop-number.number < length c.args.grammar.now = omega (arith, c.loop-number-test.true, c.count-goals.ensures.count) in within
