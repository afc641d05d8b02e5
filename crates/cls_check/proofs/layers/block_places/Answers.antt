use Rattle.std.proofs.Common.{◌≡◌, ◌∷◌, ◌++◌, refl, sym, subst, ap, ◌∙◌, [], Bool, true, false, not, cond, arith}
use Rattle.std.specs.Prelude.{Contains}
use Rattle.std.specs.List.{list_any}
use Rattle.cls_proof.specs.Blocks.{block_seen}
use Rattle.cls_check.specs.declared.place.Place.{Place}
use Rattle.cls_check.specs.Places.{block_place}
use Rattle.cls_check.proofs.BlockLaws.{formed_next, formed_not, repeated, formed_done}
use Rattle.cls_check.proofs.Keys.{same, place_found, place_missing}
use Rattle.cls_check.proofs.Loops.{got-some, differs}
use Rattle.cls_check.proofs.layers.block_places.Goals as goal
use Rattle.cls_check.proofs.layers.block_places.Goals.{then-not-is_formed-via-then-not-is_formed, then-not-is_formed-via-else-not-is_formed+in_ok-insert+then-not-branch}

not_true : (a b : Bool) → a ≡ not b → a ≡ true → b ≡ false
not_true a true e f = absurd (differs (sym e ∙ f))
not_true a false e f = refl

not_false : (a b : Bool) → a ≡ not b → a ≡ false → b ≡ true
not_false a true e f = refl
not_false a false e f = absurd (differs (sym f ∙ e))

pub returns-then-not-is_formed : goal.returns-then-not-is_formed
returns-then-not-is_formed c =
    let bs = c.args.blocks.now in
    let i = c.loop-i.i in
    let is = got-some c.args.blocks.now i (block_seen c.get-block.result) c.get-block.ensures in
    elim c.then-not-is_formed.branch [
      | then-not-is_formed-via-then-not-is_formed w ↦ formed_not c.args.lib.now c.args.count bs c.loop-i.places.keys i c.loop-i.invariant (block_seen c.get-block.result) is (let m = c.loop-i-test.true in omega arith) (λ f. differs (sym w.if-not-is_formed.true ∙ c.is_formed.ensures.1 f))
      | then-not-is_formed-via-else-not-is_formed+in_ok-insert+then-not-branch w ↦
          (let there = not_false w.in_ok-insert.field-0 (list_any (same w.place_of.result) c.loop-i.places.keys) w.in_ok-insert.ensures.added w.if-not-branch.true in
          repeated c.args.lib.now c.args.count bs c.loop-i.places.keys i c.loop-i.invariant (block_seen c.get-block.result) is (let m = c.loop-i-test.true in omega arith)
          (subst (λ (p : Place). Contains c.loop-i.places.keys p) w.place_of.ensures (place_found c.loop-i.places.keys w.place_of.result there)))
    ]

pub loop-i-preserved : goal.loop-i-preserved
loop-i-preserved c =
    let bs = c.args.blocks.now in
    let keys = c.loop-i.places.keys in
    let is = got-some c.args.blocks.now c.loop-i.i (block_seen c.get-block.result) c.get-block.ensures in
    let absent = not_true c.in_ok-insert.field-0 (list_any (same c.place_of.result) keys) c.in_ok-insert.ensures.added c.if-not-branch.false in
    let new : c.insert.new.self.keys ≡ keys ++ block_place (block_seen c.get-block.result) ∷ [] =
    c.in_ok-insert.ensures.keys ∙ (ap (λ (b : Bool). cond b keys (keys ++ c.place_of.result ∷ [])) absent ∙ ap (λ (p : Place). keys ++ p ∷ []) c.place_of.ensures) in
    formed_next c.args.lib.now c.args.count bs keys c.loop-i.i c.loop-i.invariant (block_seen c.get-block.result) is (let m = c.loop-i-test.true in omega arith) c.insert.new.self.keys new
    (c.is_formed.ensures.0 c.if-not-is_formed.false) (λ m. place_missing keys c.place_of.result absent (subst (λ (p : Place). Contains keys p) (sym c.place_of.ensures) m))

pub returns : goal.returns
returns c =
    formed_done c.args.lib.now c.args.count c.args.blocks.now c.loop-i.places.keys c.loop-i.i (let a = c.loop-i.auto.i-end in let b = c.loop-i-test.false in omega arith) c.loop-i.invariant
