use Rattle.std.proofs.Common.{ℕ, List, ◌++◌, sym, ◌∙◌, subst, ap, string_bytes}
use Rattle.cls_expand.proofs.Places.{families_ascend}
use Rattle.cls_library.specs.Families.{AreFamiliesAt}
use Rattle.cls_library.specs.Libraries.{arrows_at}
use Rattle.cls_cert.specs.Building.{HasFirstFamily}
use Rattle.cls_cert.specs.Computed.{block_by}
use Rattle.cls_cert.proofs.BlockLaws.{few_covers}
use Rattle.cls_cert.proofs.BlockWriting.{block_begun, block_missing}
use Rattle.cls_cert.proofs.FamilyLists.{same_families}
use Rattle.cls_cert.proofs.Lists.{differs}
use Rattle.cls_proof.specs.Texts.{block_text}
use Rattle.std.specs.List.{flat_map}
use Rattle.cls_cert.proofs.blocks.begin_block.Goals as goal

pub new-requires-clause-ascending : goal.new-requires-clause-ascending
new-requires-clause-ascending c =
    let f = c.args.finder.now in
    let p = c.args.place in
    let h = subst (AreFamiliesAt f.library f.goal p) (sym c.in_ok-families.ensures) c.in_ok-found.ensures.families in
    families_ascend f.library (arrows_at f.library p.component p.count) f.goal c.in_ok-families.families.items h

pub new-requires-clause-few : goal.new-requires-clause-few
new-requires-clause-few c =
    let f = c.args.finder.now in
    let p = c.args.place in
    let h = subst (AreFamiliesAt f.library f.goal p) (sym c.in_ok-families.ensures) c.in_ok-found.ensures.families in
    few_covers f.library p.component p.count f.goal c.in_ok-families.families.items c.requires.place.declared c.requires.place.within c.requires.narrow h

pub returns-then-not-has_first-clause-lines : goal.returns-then-not-has_first-clause-lines
returns-then-not-has_first-clause-lines c =
    let f = c.args.finder.now in
    let p = c.args.place in
    let fs = c.in_ok-families.families.items in
    let old = string_bytes c.args.text.now in
    let h = subst (AreFamiliesAt f.library f.goal p) (sym c.in_ok-families.ensures) c.in_ok-found.ensures.families in
    let same = same_families f.library c.requires.ready.library p.component p.count f.goal c.requires.ready.normal.suits fs h in
    let none = λ (k : HasFirstFamily fs). differs (sym c.if-not-has_first.true ∙ c.has_first.ensures.1 (subst HasFirstFamily (sym c.as_slice.ensures.value) k)) in
    block_missing c.args.components.now p.component p.count fs old _ none c.requires.none
    ∙ ap (λ (gs : List (List ℕ)). old ++ flat_map (block_text c.args.components.now) (block_by p.component p.count gs)) same

pub returns-clause-lines : goal.returns-clause-lines
returns-clause-lines c =
    let f = c.args.finder.now in
    let p = c.args.place in
    let fs = c.in_ok-families.families.items in
    let old = string_bytes c.args.text.now in
    let h = subst (AreFamiliesAt f.library f.goal p) (sym c.in_ok-families.ensures) c.in_ok-found.ensures.families in
    let same = same_families f.library c.requires.ready.library p.component p.count f.goal c.requires.ready.normal.suits fs h in
    let first : HasFirstFamily fs = subst HasFirstFamily c.as_slice.ensures.value (c.has_first.ensures.0 c.if-not-has_first.false) in
    block_begun c.args.components.now p.component p.count fs old (string_bytes c.write_block.new.text) _ first c.in_ok-write_block.ensures c.new.ensures.text
    ∙ ap (λ (gs : List (List ℕ)). old ++ flat_map (block_text c.args.components.now) (block_by p.component p.count gs)) same
