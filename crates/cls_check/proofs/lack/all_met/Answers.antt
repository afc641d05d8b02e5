use Rattle.std.proofs.Common.{ℕ, ◌≡◌, ◌<◌, ◌↔◌, ◌++◌, length, map, get_or, subst, sym, ap, ◌∙◌, arith, List, [], Bool, true, IsTrue}
use Rattle.std.specs.Prelude.{Contains}
use Rattle.std.specs.List.{flat_map}
use Rattle.std.proofs.lemmas.List.{length-set, length-map}
use Rattle.std.proofs.lemmas.List.Elements.{All-get_or}
use Rattle.cls_base.specs.Lists.{AreBelow}
use Rattle.cls_base.proofs.Lists.{AreBelow-at, Contains-later}
use Rattle.cls_check.specs.declared.lack.Lack.TheVariants.{Nothing, One, More}
use Rattle.cls_check.specs.Layers.{flag, IsLack, AllBelow, AllMet}
use Rattle.cls_check.specs.Near.{AreIndexed, at}
use Rattle.cls_check.proofs.Indexing.{near_below, met_near}
use Rattle.cls_check.proofs.Loops.{is-true, item, got-list, get_map}
use Rattle.cls_check.proofs.Sets.{below_at, all_set, met_one, met_more, met_all}
use Rattle.cls_check.proofs.lack.all_met.Goals as goal
use Rattle.cls_check.proofs.lack.all_met.Goals.{in-One, in-More}

abbrev sets_of : List (List ℕ) → List ℕ → List (List ℕ)
sets_of layer numbers = map (λ (k : ℕ). get_or layer k []) numbers

-- the set that the loop looks at
low : (count : ℕ) (layer under : List (List ℕ)) (small s numbers near : List ℕ) → AreIndexed count layer (length layer) under small → numbers ≡ near → near ≡ small ++ flat_map (at under) s → (k : ℕ) → k < length numbers → get_or numbers k 0 < length layer
low count layer under small s numbers near h e f k l =
    AreBelow-at (length layer) numbers k (subst (λ (q : List ℕ). AreBelow (length layer) q) (sym (e ∙ f)) (near_below count layer under small h s)) l

other : (layer : List (List ℕ)) (numbers : List ℕ) (k : ℕ) (t : List ℕ) → k < length numbers → t ≡ get_or layer (get_or numbers k 0) [] → t ≡ get_or (sets_of layer numbers) k []
other layer numbers k t l e = e ∙ sym (get_map (λ (j : ℕ). get_or layer j []) numbers k [] 0 l)

below_other : (count : ℕ) (layer : List (List ℕ)) (i : ℕ) (t : List ℕ) → AllBelow count layer → i < length layer → t ≡ get_or layer i [] → AreBelow count t
below_other count layer i t all l e = subst (λ (q : List ℕ). AreBelow count q) (sym e) (All-get_or (AreBelow count) layer i [] l all)

pub get-requires : goal.get-requires
get-requires c = low c.args.count c.args.layer.now c.args.index.now.under.items c.args.index.now.small c.args.set.now c.deref-number-items.result.now c.in_ok-near.near.items c.requires.index c.deref-number-items.ensures.value c.in_ok-near.ensures c.loop-number.number-index c.loop-number-test.true

pub near-requires : goal.near-requires
near-requires c = subst (λ (n : ℕ). AreBelow n c.args.set.now) (sym c.requires.index.counted) c.requires.set

pub lack_of-requires : goal.lack_of-requires
lack_of-requires c =
    let m = low c.args.count c.args.layer.now c.args.index.now.under.items c.args.index.now.small c.args.set.now c.deref-number-items.result.now c.in_ok-near.near.items c.requires.index c.deref-number-items.ensures.value c.in_ok-near.ensures c.loop-number.number-index c.loop-number-test.true in
    let below = below_other c.args.count c.args.layer.now (get_or c.deref-number-items.result.now c.loop-number.number-index 0) c.get.result.now c.requires.layer m c.get.ensures in
    let e = ap (λ (q : List Bool). length q) c.deref.ensures.value in
    subst (λ (n : ℕ). AreBelow n c.get.result.now) (let n = c.in_ok-flags.ensures.count in let f : c.args.count ≡ length c.deref.result.now = omega arith in f) below

pub returns-in-Nothing : goal.returns-in-Nothing
returns-in-Nothing c =
    let i = get_or c.deref-number-items.result.now c.loop-number.number-index 0 in
    let m = low c.args.count c.args.layer.now c.args.index.now.under.items c.args.index.now.small c.args.set.now c.deref-number-items.result.now c.in_ok-near.near.items c.requires.index c.deref-number-items.ensures.value c.in_ok-near.ensures c.loop-number.number-index c.loop-number-test.true in
    let lack = subst (λ (f : List Bool). IsLack f c.get.result.now Nothing) c.deref.ensures.value c.in-Nothing.ensures in
    let all = all_set c.args.set.now c.in_ok-flags.flags.items c.in_ok-flags.ensures.flagged c.get.result.now lack in
    ((λ t j f. (c.get.result.now, item c.args.layer.now i c.get.result.now (got-list c.args.layer.now i c.get.result.now c.get.ensures m) m, (λ n k. Contains-later n j c.args.set.now (all n k)))), (λ h. is-true))

pub index_mut-requires : goal.index_mut-requires
index_mut-requires c =
    let m = low c.args.count c.args.layer.now c.args.index.now.under.items c.args.index.now.small c.args.set.now c.deref-number-items.result.now c.in_ok-near.near.items c.requires.index c.deref-number-items.ensures.value c.in_ok-near.ensures c.loop-number.number-index c.loop-number-test.true in
    let below = below_other c.args.count c.args.layer.now (get_or c.deref-number-items.result.now c.loop-number.number-index 0) c.get.result.now c.requires.layer m c.get.ensures in
    let l : c.in-One.position < c.args.count = below_at c.args.count c.get.result.now c.in-One.position below c.in-One.ensures.1 in
    let e = c.loop-number.invariant.count in omega arith

pub loop-number-preserved : goal.loop-number-preserved
loop-number-preserved c =
    let numbers = c.deref-number-items.result.now in
    let k = c.loop-number.number-index in
    let layer = c.args.layer.now in
    let m = low c.args.count layer c.args.index.now.under.items c.args.index.now.small c.args.set.now numbers c.in_ok-near.near.items c.requires.index c.deref-number-items.ensures.value c.in_ok-near.ensures k c.loop-number-test.true in
    let is = other layer numbers k c.get.result.now c.loop-number-test.true c.get.ensures in
    let below = below_other c.args.count layer (get_or numbers k 0) c.get.result.now c.requires.layer m c.get.ensures in
    elim c.match-lack_of.branch [
      | in-One w ↦ (
          let lack = subst (λ (f : List Bool). IsLack f c.get.result.now (One w.in-One.position)) c.deref.ensures.value w.in-One.ensures in
          let l : w.in-One.position < c.args.count = below_at c.args.count c.get.result.now w.in-One.position below lack.1 in
          let e = c.loop-number.invariant.count in
          rw w.met-is record {
            count = length-set c.loop-number.met.items w.in-One.position true ∙ c.loop-number.invariant.count;
            met_to = met_one c.args.set.now c.in_ok-flags.flags.items c.in_ok-flags.ensures.flagged (sets_of layer numbers) k c.get.result.now is c.loop-number.met.items c.loop-number.invariant.met_to w.in-One.position (omega arith) lack;
          })
      | in-More w ↦ (
          let lack = subst (λ (f : List Bool). IsLack f c.get.result.now More) c.deref.ensures.value w.in-More.ensures in
          rw w.met-is record {
            count = c.loop-number.invariant.count;
            met_to = met_more c.args.set.now c.in_ok-flags.flags.items c.in_ok-flags.ensures.flagged (sets_of layer numbers) k c.get.result.now is c.loop-number.met.items c.loop-number.invariant.met_to lack;
          })
    ]

pub returns : goal.returns
returns c =
    let numbers = c.deref-number-items.result.now in
    let layer = c.args.layer.now in
    let under = c.args.index.now.under.items in
    let small = c.args.index.now.small in
    let s = c.args.set.now in
    let n : length (sets_of layer numbers) ≡ length numbers = length-map numbers (λ (j : ℕ). get_or layer j []) in
    let r = met_all c.args.family.now c.loop-number.met.items (sets_of layer numbers) s c.loop-number.number-index (omega arith) c.loop-number.invariant.met_to in
    let near = subst (λ (q : List (List ℕ)). AllMet c.args.family.now q s ↔ AllMet c.args.family.now layer s) (ap (sets_of layer) (sym (c.deref-number-items.ensures.value ∙ c.in_ok-near.ensures))) (met_near c.args.count layer under small c.requires.index s c.args.family.now) in
    let u = subst (λ (f : List Bool). IsTrue c.are_flagged.result ↔ ((i : ℕ) → Contains c.args.family.now i → IsTrue (flag f i))) c.deref-2.ensures.value c.are_flagged.ensures in
    ((λ t. near.0 (r.0 (u.0 t))), (λ h. u.1 (r.1 (near.1 h))))
