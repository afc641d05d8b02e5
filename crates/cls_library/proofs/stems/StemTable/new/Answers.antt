use Rattle.std.proofs.Common.{ℕ, ◌≡◌, ◌<◌, length, List, sym, subst, ◌∙◌, arith, rules}
use Rattle.cls_base.specs.Lists.{AreBelow}
use Rattle.cls_library.specs.Chains.{AreChained}
use Rattle.cls_library.proofs.Stemming.{numbers-below}
use Rattle.cls_library.proofs.stems.StemTable.new.Goals as goal

pub stem_numbers-requires : goal.stem_numbers-requires
stem_numbers-requires c =
    let some : 0 < length c.args.paths.now = c.requires in
    let e : c.in-Ok.count ≡ length c.args.paths.now = search rules in omega arith

pub new-requires : goal.new-requires
new-requires c =
    let ps = c.args.paths.now in
    let some : 0 < length ps = c.requires in
    let e : c.in-Ok.count ≡ length ps = search rules in
    let n : 0 < c.in-Ok.count = omega arith in
    subst (λ (numbers : List ℕ). AreBelow c.in-Ok.count numbers) (sym (c.deref.ensures.value ∙ c.in_ok-numbers.ensures)) (numbers-below c.in-Ok.count c.args.depth n ps)

pub returns : goal.returns
returns c =
    let ps = c.args.paths.now in
    let made = c.in_ok-chains.chains in
    let some : 0 < length ps = c.requires in
    let e : c.in-Ok.count ≡ length ps = search rules in
    record {
      some = omega (arith, some, e);
      chained = subst (λ (numbers : List ℕ). AreChained 0 c.in-Ok.count numbers made.firsts.items made.next.items) (c.deref.ensures.value ∙ c.in_ok-numbers.ensures) c.in_ok-chains.ensures;
    }
