use Rattle.std.proofs.Common.{ℕ, List, ◌≡◌, ◌<◌, ◌≤◌, ◌+◌, length, map, ap, sym, subst, arith}
use Rattle.std.specs.Prelude.{slice_index}
use Rattle.std.proofs.lemmas.List.{length-map}
use Rattle.cls_cover.specs.Rows.{family_at}
use Rattle.cls_cover.specs.Sets.{members, IsSetOf, AreSetsOf}
use Rattle.cls_cover.specs.Choosing.{AreCoversOf, IsGivenBy}
use Rattle.cls_cover.proofs.Grouping.{ascending_differ}
use Rattle.cls_cover.proofs.Public.{to_too_many, ascending_at}
use Rattle.cls_cover.proofs.Choosing.{all_more, few_more, many_given}
use Rattle.cls_cover.proofs.Testing.{seen_more}
use Rattle.cls_cover.proofs.small.grow_small.Goals as goal

given : {families : List (List ℕ)} {j limit : ℕ} {slice olds news made : List ℕ} → slice ≡ olds → news ≡ made → IsGivenBy families j limit (map members slice) (map members made) → IsGivenBy families j limit (map members olds) (map members news)
given {families} {j} {limit} {slice} {olds} {news} {made} e f g =
    subst (λ (l : List ℕ). IsGivenBy families j limit (map members olds) (map members l)) (sym f)
    (subst (λ (l : List ℕ). IsGivenBy families j limit (map members l) (map members made)) e g)

pub grow-requires-clause-begun : goal.grow-requires-clause-begun
grow-requires-clause-begun c = record {
  sets = subst (λ (l : List ℕ). AreSetsOf c.args.families.now l) (sym c.as_slice-sets.ensures.value) c.requires.covers.sets;
  more = c.requires.more;
  seen = c.requires.covers.seen;
}

pub grow-requires-clause-covers : goal.grow-requires-clause-covers
grow-requires-clause-covers c = subst (λ (l : List ℕ). AreCoversOf c.args.families.now c.args.count (map members l)) (sym c.as_slice.ensures.value) c.requires.covers.found.covers

pub grow-requires-clause-differ : goal.grow-requires-clause-differ
grow-requires-clause-differ c = ascending_differ _ (ascending_at c.args.families.now c.args.count c.requires.ascending c.requires.more)

pub returns-then-len-limit-clause-fault : goal.returns-then-len-limit-clause-fault
returns-then-len-limit-clause-fault c =
    let fs = c.args.families.now in
    let j = c.args.count in
    let more = c.requires.more in
    let olds = map members c.args.small.now.list.items in
    let news = map members c.swap.new.x.items in
    let e = length-map c.swap.new.x.items members in
    let w : c.args.limit < length news = omega arith in
    to_too_many fs c.args.limit (j + 1) (record {
      within = omega arith;
      over = many_given fs j more c.args.limit olds news (given c.as_slice.ensures.value (ap (λ v. v.items) c.swap.ensures.x_after) c.in_ok-grow.ensures) w;
      least = (λ i h m. c.requires.covers.within.few i (omega arith) m);
    })

pub bounds-sets-count : goal.bounds-sets-count
bounds-sets-count c =
    let sizes = ap (λ (l : List ℕ). length l) c.as_slice-sets.ensures.value in
    let same = c.requires.covers.sets.same in
    let more = c.requires.more in
    omega arith

pub returns-clause-covers : goal.returns-clause-covers
returns-clause-covers c =
    let fs = c.args.families.now in
    let j = c.args.count in
    let more = c.requires.more in
    let before = c.requires.covers in
    let olds = map members c.args.small.now.list.items in
    let news = map members c.swap.new.x.items in
    let e = length-map c.swap.new.x.items members in
    let w : length news ≤ c.args.limit = omega arith in
    let f = all_more fs j more c.args.limit olds news before.found (given c.as_slice.ensures.value (ap (λ v. v.items) c.swap.ensures.x_after) c.in_ok-grow.ensures) w in
    record {
      sets = before.sets;
      seen = seen_more fs j c.args.small.now.seen _ before.seen
          (subst (λ (l : List ℕ). IsSetOf (family_at fs j) (slice_index l j)) (sym c.as_slice-sets.ensures.value) (before.sets.each j more));
      found = f;
      within = few_more fs c.args.limit j news before.within f w;
    }
