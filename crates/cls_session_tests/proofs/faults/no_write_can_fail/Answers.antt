use Rattle.std.proofs.Common.{◌≡◌, ℕ, List, [], ap, ◌∙◌, subst, arith}
use Rattle.cls_session.specs.Outputs.{MayStand}
use Rattle.cls_session_tests.proofs.Lengths.{nothing-text}
use Rattle.cls_session_tests.proofs.faults.no_write_can_fail.Goals as goal

pub run-status-requires-clause-room : goal.run-status-requires-clause-room
run-status-requires-clause-room g c κs = λ text stands.
    let room = ap (λ s. s.room) c.in_ok-sink.ensures in
    let bytes : c.new-source.result.left ≡ [] = ap (λ s. s.left) c.new-source.ensures ∙ c.in_ok-to_vec.ensures.items_if_clones_equal (λ x y e. e) in
    let fits = nothing-text text (subst (λ (b : List ℕ). MayStand [] b text) bytes stands) in
    omega (arith, room, fits)
