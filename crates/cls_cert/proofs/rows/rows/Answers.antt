use Rattle.std.proofs.Common.{ℕ, ◌≡◌, ◌<◌, [], ◌∷◌, ◌++◌, List, length, map, ap, sym, ◌∙◌, subst, arith, All}
use Rattle.std.proofs.lemmas.List.{length-map, get_or_default}
use Rattle.std.proofs.lemmas.List.Elements.{All-nil, All-push}
use Rattle.cls_base.proofs.Lists.{map_last}
use Rattle.cls_path.specs.Paths.{TypePath}
use Rattle.cls_core.specs.Arguments.{rules_of}
use Rattle.cls_core.specs.Rows.{Row}
use Rattle.cls_grammar.specs.Grammars.{book_of}
use Rattle.cls_cert.specs.Conditions.{forms_of}
use Rattle.cls_cert.specs.Building.{IsBucketTo, AreRowsTo}
use Rattle.cls_cert.specs.declared.rows.MadeRow.{MadeRow}
use Rattle.cls_cert.specs.Left.{row_for}
use Rattle.cls_cert.proofs.RowLaws.{no_rows, rows_whole}
use Rattle.cls_cert.proofs.RowMaking.{rank_of_number}
use Rattle.cls_cert.proofs.rows.rows.Goals as goal

pub by_rank-requires : goal.by_rank-requires
by_rank-requires c =
    let n = c.requires.ranks.count in
    let m = length-map c.args.grammar.now (λ (r : Row (List TypePath)). rules_of r.answer) in
    let e = c.count-count.ensures.count in
    omega arith

pub loop-lower-init : goal.loop-lower-init
loop-lower-init c = record {
  made = no_rows c.args.lib.now (forms_of c.args.grammar.now) (book_of c.args.grammar.now) (map (row_for (forms_of c.args.grammar.now)) c.new-rows.result.items) (ap (λ (rs : List MadeRow). map (row_for (forms_of c.args.grammar.now)) rs) c.new-rows.ensures.items);
  within = subst (λ (rs : List MadeRow). All (λ (r : MadeRow). r.number < length c.args.grammar.now) rs) (sym c.new-rows.ensures.items) (All-nil (λ (r : MadeRow). r.number < length c.args.grammar.now));
}

pub loop-lower-preserved : goal.loop-lower-preserved
loop-lower-preserved c = record { made = c.in_ok-add_rows.ensures.made c.loop-lower.invariant.made; within = c.in_ok-add_rows.ensures.within c.loop-lower.invariant.within }

pub add_rows-requires-clause-bucket : goal.add_rows-requires-clause-bucket
add_rows-requires-clause-bucket c =
    let buckets = c.in_ok-buckets.buckets.items in
    let lower = c.loop-lower.lower in
    let each = c.in_ok-buckets.ensures.each lower c.loop-lower-test.true in
    let count = c.in_ok-buckets.ensures.count in
    let low = c.loop-lower-test.true in
    let there = c.as_slice-numbers.ensures ∙ (c.index.ensures ∙ get_or_default buckets lower c.index.result.now [] (omega arith)) in
    subst (λ (b : List ℕ). IsBucketTo c.args.ranks.now (length c.args.ranks.now) lower b) (sym there) each

pub returns-clause-made : goal.returns-clause-made
returns-clause-made c =
    let l = c.args.lib.now in
    let goals = forms_of c.args.grammar.now in
    let book = book_of c.args.grammar.now in
    let old = map (row_for goals) c.loop-lower.rows.items in
    let row = c.in_ok-row.field-0 in
    let e : c.loop-lower.lower ≡ c.args.rank = (let t = c.loop-lower-test.false in let u = c.loop-lower.auto.lower-end in omega arith) in
    let seen : map (row_for goals) c.push.new.self.items ≡ old ++ row_for goals row ∷ [] =
    ap (λ (rs : List MadeRow). map (row_for goals) rs) c.in_ok-push.ensures.items ∙ map_last (row_for goals) c.loop-lower.rows.items row in
    rows_whole l goals book c.args.rank old (map (row_for goals) c.push.new.self.items) (row_for goals row) seen
    (rank_of_number l c.args.grammar.now c.requires.grammar c.args.ranks.now c.requires.ranks 0 c.args.rank c.requires.ranked) c.in_ok-row.ensures.made
    (subst (λ (rank : ℕ). AreRowsTo l goals book rank [] old) e c.loop-lower.invariant.made)

pub returns-clause-within : goal.returns-clause-within
returns-clause-within c =
    subst (λ (rs : List MadeRow). All (λ (r : MadeRow). r.number < length c.args.grammar.now) rs) (sym c.in_ok-push.ensures.items)
    (All-push (λ (r : MadeRow). r.number < length c.args.grammar.now) c.loop-lower.rows.items c.in_ok-row.field-0 c.loop-lower.invariant.within c.in_ok-row.ensures.within)
