use Rattle.std.proofs.Common.{ℕ, ◌≡◌, ◌∙◌, ◌<◌, List, [], ◌∷◌, ◌++◌, length, take, get_or, map, ap, sym, subst, All}
use Rattle.std.proofs.lemmas.List.Elements.{All-push, Contains-get_or}
use Rattle.std.proofs.lemmas.Option.{slice_get_within}
use Rattle.cls_base.proofs.Lists.{map_last, take_next, take_whole}
use Rattle.cls_grammar.specs.Grammars.{book_of}
use Rattle.cls_cert.specs.Conditions.{forms_of}
use Rattle.cls_cert.specs.Building.{AreRowsTo}
use Rattle.cls_cert.specs.declared.rows.MadeRow.{MadeRow}
use Rattle.cls_cert.specs.Left.{row_for}
use Rattle.cls_cert.proofs.Lists.{got_within, rises_before}
use Rattle.cls_cert.proofs.Ranking.{rank_is, rank_there}
use Rattle.cls_cert.proofs.RowLaws.{rows_step, rows_next}
use Rattle.cls_cert.proofs.rows.add_rows.Goals as goal

pub row-requires-clause-ranked : goal.row-requires-clause-ranked
row-requires-clause-ranked c =
    let numbers = c.args.numbers.now in
    let i = c.loop-number.number-index in
    ((c.requires.bucket.exactly (get_or numbers i 0)).0 (Contains-get_or numbers i 0 c.loop-number-test.true)).1

pub loop-number-init : goal.loop-number-init
loop-number-init c = record { made = λ a. a; within = λ w. w }

pub loop-number-preserved : goal.loop-number-preserved
loop-number-preserved c =
    let l = c.args.lib.now in
    let rows = c.args.grammar.now in
    let goals = forms_of rows in
    let book = book_of rows in
    let numbers = c.args.numbers.now in
    let i = c.loop-number.number-index in
    let x = get_or numbers i 0 in
    let low = c.loop-number-test.true in
    let ranked = ((c.requires.bucket.exactly x).0 (Contains-get_or numbers i 0 low)).1 in
    let row = c.in_ok-row.field-0 in
    let seen : map (row_for goals) c.push.new.self.items ≡ map (row_for goals) c.loop-number.rows.items ++ row_for goals row ∷ [] =
    ap (λ (rs : List MadeRow). map (row_for goals) rs) c.in_ok-push.ensures.items ∙ map_last (row_for goals) c.loop-number.rows.items row in
    record {
      made = λ a. subst (λ (done : List ℕ). AreRowsTo l goals book c.args.rank done (map (row_for goals) c.push.new.self.items)) (sym (take_next numbers i 0 low))
          (rows_step l goals book c.args.rank x (take i numbers) (map (row_for goals) c.loop-number.rows.items) (map (row_for goals) c.push.new.self.items) (row_for goals row) seen
          (rank_is book c.args.ranks.now c.requires.ranks x c.args.rank ranked)
          (λ d m. rises_before (λ (y z : ℕ). y < z) numbers i x c.requires.bucket.in_order (got_within numbers i 0 low) d m)
          c.in_ok-row.ensures.made (c.loop-number.invariant.made a));
      within = λ w. subst (λ (rs : List MadeRow). All (λ (r : MadeRow). r.number < length rows) rs) (sym c.in_ok-push.ensures.items)
          (All-push (λ (r : MadeRow). r.number < length rows) c.loop-number.rows.items row (c.loop-number.invariant.within w) c.in_ok-row.ensures.within);
    }

pub returns-clause-made : goal.returns-clause-made
returns-clause-made c = λ a.
    let l = c.args.lib.now in
    let goals = forms_of c.args.grammar.now in
    let book = book_of c.args.grammar.now in
    let numbers = c.args.numbers.now in
    let seen = map (row_for goals) c.loop-number.rows.items in
    rows_next l goals book c.args.rank numbers seen
    (λ i r. let there = rank_there book c.args.ranks.now c.requires.ranks i c.args.rank r in (c.requires.bucket.exactly i).1 (slice_get_within c.args.ranks.now i _ there, there))
    (subst (λ (done : List ℕ). AreRowsTo l goals book c.args.rank done seen) (take_whole numbers c.loop-number.number-index c.loop-number-test.false) (c.loop-number.invariant.made a))

pub returns-clause-within : goal.returns-clause-within
returns-clause-within c = c.loop-number.invariant.within
