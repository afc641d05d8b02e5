use Rattle.std.proofs.Common.{◌<◌, length, take, refl, sym, subst, ◌∙◌, arith, List}
use Rattle.std.specs.Prelude.{All}
use Rattle.std.proofs.lemmas.List.{take_all}
use Rattle.std.proofs.lemmas.List.Elements.{All-contains, All-push}
use Rattle.cls_path.specs.Paths.{listed}
use Rattle.cls_proof.specs.Certificates.{Block}
use Rattle.cls_proof.specs.Blocks.{block_seen}
use Rattle.cls_check.specs.Checking.{path_total, IsFormed}
use Rattle.cls_check.specs.Tests.{IsBlockWalked}
use Rattle.cls_check.proofs.Loops.{not-false, is-true, differs, got-some, take-one}
use Rattle.cls_check.proofs.Walking.{formed_place, formed_count, formed_within, walked_there, walked_here}
use Rattle.cls_check.proofs.members.are_blocks_walked.Goals as goal

pub is_walked-requires-clause-place : goal.is_walked-requires-clause-place
is_walked-requires-clause-place c =
    let l = c.args.lib.now in
    let bs = c.args.blocks.now in
    let k = path_total (listed c.args.form.now) in
    let i = c.loop-i.i in
    let b = block_seen c.get-block.result in
    let is = got-some c.args.blocks.now i (block_seen c.get-block.result) c.get-block.ensures in
    let low : i < length bs = omega arith in
    let formed = All-contains (IsFormed l k) bs b c.requires.layers.formed (i, low, sym is) in
    formed_place l k b c.place_of-place.result c.get-block.result.layers c.place_of-place.ensures refl formed

pub is_walked-requires-clause-as_many : goal.is_walked-requires-clause-as_many
is_walked-requires-clause-as_many c =
    let l = c.args.lib.now in
    let bs = c.args.blocks.now in
    let k = path_total (listed c.args.form.now) in
    let i = c.loop-i.i in
    let b = block_seen c.get-block.result in
    let is = got-some c.args.blocks.now i (block_seen c.get-block.result) c.get-block.ensures in
    let low : i < length bs = omega arith in
    let formed = All-contains (IsFormed l k) bs b c.requires.layers.formed (i, low, sym is) in
    formed_count l k b c.place_of-place.result c.get-block.result.layers c.place_of-place.ensures refl formed

pub is_walked-requires-clause-within : goal.is_walked-requires-clause-within
is_walked-requires-clause-within c =
    let l = c.args.lib.now in
    let bs = c.args.blocks.now in
    let k = path_total (listed c.args.form.now) in
    let i = c.loop-i.i in
    let b = block_seen c.get-block.result in
    let is = got-some c.args.blocks.now i (block_seen c.get-block.result) c.get-block.ensures in
    let low : i < length bs = omega arith in
    let formed = All-contains (IsFormed l k) bs b c.requires.layers.formed (i, low, sym is) in
    formed_within l k b c.place_of-place.result c.get-block.result.layers c.place_of-place.ensures refl formed

pub returns-then-not-branch-clause-walked : goal.returns-then-not-branch-clause-walked
returns-then-not-branch-clause-walked c =
    let l = c.args.lib.now in
    let bs = c.args.blocks.now in
    let k = path_total (listed c.args.form.now) in
    let i = c.loop-i.i in
    let b = block_seen c.get-block.result in
    let is = got-some c.args.blocks.now i (block_seen c.get-block.result) c.get-block.ensures in
    let low : i < length bs = omega arith in
    let form = listed c.args.form.now in (
      (λ t. absurd (not-false t)),
      (λ h. absurd (differs (sym c.if-not-branch.true ∙ c.in_ok-is_walked.ensures.walked.1
          (walked_here l k b c.place_of-place.result c.get-block.result.layers c.place_of-place.ensures refl c.args.goals.now form (All-contains (IsBlockWalked l c.args.goals.now form) bs b h (i, low, sym is)))))),
    )

pub loop-i-preserved : goal.loop-i-preserved
loop-i-preserved c =
    let l = c.args.lib.now in
    let bs = c.args.blocks.now in
    let k = path_total (listed c.args.form.now) in
    let i = c.loop-i.i in
    let b = block_seen c.get-block.result in
    let is = got-some c.args.blocks.now i (block_seen c.get-block.result) c.get-block.ensures in
    let low : i < length bs = omega arith in
    let P = IsBlockWalked l c.args.goals.now (listed c.args.form.now) in
    let one = walked_there l k b c.place_of-place.result c.get-block.result.layers c.place_of-place.ensures refl c.args.goals.now (listed c.args.form.now) (c.in_ok-is_walked.ensures.walked.0 c.if-not-branch.false) in
    record {
      walked = subst (λ (q : List Block). All P q) (sym (take-one bs i b is low)) (All-push P (take i bs) b c.loop-i.invariant.walked one);
      known = c.in_ok-is_walked.ensures.known;
    }

pub returns-clause-walked : goal.returns-clause-walked
returns-clause-walked c =
    let bs = c.args.blocks.now in
    let P = IsBlockWalked c.args.lib.now c.args.goals.now (listed c.args.form.now) in
    ((λ t. subst (λ (q : List Block). All P q) (take_all c.loop-i.i bs (let m = c.loop-i-test.false in omega arith)) c.loop-i.invariant.walked), (λ h. is-true))
