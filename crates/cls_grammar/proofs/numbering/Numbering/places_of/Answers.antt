use Rattle.std.proofs.Common.{sym, ◌∙◌, ◌∷◌, [], ◌++◌, nat_eq, ℕ}
use Rattle.std.specs.List.{position_or_len}
use Rattle.std.proofs.lemmas.List.{map_more}
use Rattle.cls_grammar.proofs.numbering.Numbering.places_of.Goals as goal
use Rattle.cls_grammar.proofs.Climbing.{get-read}
use Rattle.cls_base.proofs.Lists.{Contains-at}

pub place_of-requires : goal.place_of-requires
place_of-requires c =
    let i = c.loop-number.number-index in
    c.requires _ (Contains-at c.args.numbers.now i _ (get-read c.args.numbers.now i c.loop-number-test.true))

pub loop-number-preserved : goal.loop-number-preserved
loop-number-preserved c =
    let f = λ (n : ℕ). position_or_len (nat_eq n) c.args.self.now.order in
    c.in_ok-push.ensures.items ∙ ((λ j. c.loop-number.invariant j ++ c.place_of.ensures j ∷ []) ∙ sym (map_more f c.args.numbers.now c.loop-number.number-index 0 c.loop-number-test.true))
