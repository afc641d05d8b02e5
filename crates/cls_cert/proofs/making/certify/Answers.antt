use Rattle.std.proofs.Common.{ℕ, ◌≡◌, ◌++◌, List, Option, Some, None, map, ap, refl, sym, subst, arith}
use Rattle.std.specs.Prelude.{slice_get, codes}
use Rattle.cls_grammar.specs.Grammars.{book_of}
use Rattle.cls_grammar.specs.Ranks.{AreRanks}
use Rattle.cls_proof.specs.Certificates.{inhabited, empty}
use Rattle.cls_proof.specs.Texts.{line}
use Rattle.cls_cert.specs.Computed.{members_from}
use Rattle.cls_cert.specs.Conditions.{forms_of}
use Rattle.cls_cert.specs.Left.{row_for, members_text}
use Rattle.cls_cert.proofs.MadeMembers.{members_are}
use Rattle.cls_cert.proofs.Ranking.{rank_is}
use Rattle.cls_cert.proofs.RowMaking.{first_rank}
use Rattle.cls_cert.proofs.Ruled.{some_goal}
use Rattle.cls_cert.proofs.making.certify.Goals as goal

pub rows-requires-clause-ranked : goal.rows-requires-clause-ranked
rows-requires-clause-ranked c =
    let ranks = c.in_ok-ranks.ranks in
    let e = first_rank c.args.lib.now c.args.grammar.now c.requires ranks c.as_slice.result.now c.in_ok-ranks.ensures c.as_slice.ensures (Some c.in-Some.rank) c.in-Some.is in
    subst (λ (xs : List (Option ℕ)). slice_get xs 0 ≡ Some (Some c.in-Some.rank)) (sym c.as_slice-in-Some.ensures) e

pub rows-requires-clause-ranks : goal.rows-requires-clause-ranks
rows-requires-clause-ranks c = subst (λ (xs : List (Option ℕ)). AreRanks (book_of c.args.grammar.now) xs) (sym c.as_slice-in-Some.ensures) c.in_ok-ranks.ensures

pub returns-in_ok-made-in-Some-clause-made : goal.returns-in_ok-made-in-Some-clause-made
returns-in_ok-made-in-Some-clause-made c = λ names components.
    let ranks = c.in_ok-ranks.ranks in
    let e = first_rank c.args.lib.now c.args.grammar.now c.requires ranks c.as_slice.result.now c.in_ok-ranks.ensures c.as_slice.ensures (Some c.in-Some.rank) c.in-Some.is in
    let rows = map (row_for (forms_of c.args.grammar.now)) c.in_ok-made-in-Some.made.items in
    (inhabited rows, ((c.in-Some.rank, (rank_is (book_of c.args.grammar.now) ranks c.in_ok-ranks.ensures 0 c.in-Some.rank e).tree), c.in_ok-made-in-Some.ensures.made), refl)

pub returns-in_ok-made-in-Some-clause-left : goal.returns-in_ok-made-in-Some-clause-left
returns-in_ok-made-in-Some-clause-left c = record { each = c.in_ok-made-in-Some.ensures.within; next = omega arith }

pub returns-in-None-clause-made : goal.returns-in-None-clause-made
returns-in-None-clause-made c = λ names components.
    let l = c.args.lib.now in
    let rows = c.args.grammar.now in
    let goals = forms_of rows in
    let ranks = c.in_ok-ranks.ranks in
    let e = first_rank l rows c.requires ranks c.as_slice.result.now c.in_ok-ranks.ensures c.as_slice.ensures None c.in-None.is in
    (empty (members_from l goals ranks), (c.in_ok-ranks.ensures.each 0 None e, members_are l rows c.requires ranks c.in_ok-ranks.ensures), ap (λ (v : List ℕ). line (codes "empty") ++ (v ++ (members_text names components l goals ranks 0 ++ line (codes "qed")))) (sym c.none-block.ensures.text))

pub returns-in-None-clause-left : goal.returns-in-None-clause-left
returns-in-None-clause-left c = record {
  grammar = c.requires;
  ranks = c.in_ok-ranks.ensures;
  block = c.none-block.ensures.left;
  goal = some_goal c.args.lib.now c.args.grammar.now c.requires;
  from = tt;
  next = omega arith;
}
