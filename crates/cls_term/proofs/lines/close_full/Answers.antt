use Rattle.std.proofs.Common.{List, ℕ, ap, arith, string_bytes, ◌++◌, ◌∙◌}
use Rattle.cls_term.proofs.Standings.{closed-falls, closed-next}
use Rattle.cls_term.proofs.lines.close_full.Goals as goal

pub loop-place-smaller : goal.loop-place-smaller
loop-place-smaller c =
    let stack = c.requires.0 in
    closed-falls c.args.standings.now stack (string_bytes c.args.text.now) (string_bytes c.loop-place.text) c.loop-place.place (c.loop-place.invariant stack c.requires.1) c.loop-place-test.true

pub loop-place-preserved : goal.loop-place-preserved
loop-place-preserved c = λ stack h.
    closed-next c.args.standings.now stack (string_bytes c.args.text.now) (string_bytes c.loop-place.text) (string_bytes c.push.new.self) c.loop-place.place
    (c.loop-place.invariant stack h) c.loop-place-test.true
    (c.in_ok-push.ensures.bytes ∙ ap (λ (v : List ℕ). string_bytes c.loop-place.text ++ v) (c.in_ok-push.ensures.ascii (omega arith)))
