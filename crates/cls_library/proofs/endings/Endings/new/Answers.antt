use Rattle.std.proofs.Common.{◌≡◌, List, take, sym, subst, ap, ◌∙◌, Some, rules}
use Rattle.std.specs.Prelude.{slice_get}
use Rattle.std.proofs.lemmas.List.{take_all, take_more}
use Rattle.indexmap.specs.IndexSet.{insert_key}
use Rattle.cls_path.specs.Paths.{TypePath}
use Rattle.cls_library.specs.contracts.ending.EndingPartialEq.TheImpl.{eq-value}
use Rattle.cls_library.specs.declared.ending.Ending.{Ending}
use Rattle.cls_library.specs.Endings.{ending_of, AreEndings}
use Rattle.cls_library.proofs.EndingLaws.{same-ending, keeps, endings-below, endings-kept, endings-more}
use Rattle.cls_library.proofs.endings.Endings.new.Goals as goal

pub loop-path-preserved : goal.loop-path-preserved
loop-path-preserved c =
    let hs = c.loop-path.kinds.keys in
    let gs = c.insert_full.new.self.keys in
    let ks = c.loop-path.places.items in
    let items = c.args.paths.now in
    let i = c.loop-path.path-index in
    let p = c.path-item.result in
    let k = c.in_ok-place.place in
    let stored = c.in_ok-place.ensures.stored in
    let ending : stored.0 ≡ ending_of p = sym (same-ending c.of.result stored.0 stored.2) ∙ c.of.ensures in
    let found : slice_get gs k ≡ Some (ending_of p) = stored.1 ∙ ap (λ (h : Ending). Some h) ending in
    let grown : gs ≡ insert_key eq-value.it hs c.of.result = c.in_ok-place.ensures.keys in
    let kept : AreEndings gs ks (take i items) = endings-kept hs gs (λ j x e. subst (λ l. slice_get l j ≡ Some x) (sym grown) (keeps hs c.of.result j x e)) ks (take i items) c.loop-path.invariant in
    let same : c.in-Ok.place ≡ k = search rules in
    rw (c.in_ok-push.ensures.items, take_more items i p c.loop-path-test.true, ← c.path-item.is, same)
    (endings-more gs ks (take i items) k p kept found)

pub new-requires : goal.new-requires
new-requires c =
    let keys = c.loop-path.kinds.keys in
    let whole : AreEndings keys c.loop-path.places.items c.args.paths.now =
    subst (λ (ps : List TypePath). AreEndings keys c.loop-path.places.items ps) (take_all c.loop-path.path-index c.args.paths.now c.loop-path-test.false) c.loop-path.invariant in
    rw (c.len.ensures.len, c.deref.ensures.value) (endings-below keys c.loop-path.places.items c.args.paths.now whole)
