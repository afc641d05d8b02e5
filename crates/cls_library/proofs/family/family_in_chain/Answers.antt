use Rattle.std.proofs.Common.{ℕ, ◌≡◌, ◌+◌, ◌-◌, ◌<◌, ◌≤◌, inl, inr, true, false, Some, length, get_or, List, sym, subst, ap, ◌∙◌, arith}
use Rattle.std.specs.Prelude.{slice_get, slice_index_or}
use Rattle.std.specs.List.Sorted.{IsStrictlyIncreasing}
use Rattle.std.proofs.lemmas.List.{get_or_default}
use Rattle.std.proofs.lemmas.Option.{slice_get_within, get_or_from_slice_get}
use Rattle.cls_path.specs.Paths.{PathLe, TypePath, unit}
use Rattle.cls_library.specs.Arrows.{leading_arrows}
use Rattle.cls_library.specs.Libraries.{below_in, variances_in}
use Rattle.cls_library.specs.Splits.{target_at}
use Rattle.cls_library.proofs.Along.{FamilyUpTo, first-jump, jump, places-rise, position-is, skip, stands-not, take-one}
use Rattle.cls_library.proofs.EndingLaws.{suits-at}
use Rattle.cls_library.proofs.Places.{place-in}
use Rattle.cls_library.proofs.family.family_in_chain.Goals as goal
use Rattle.cls_library.proofs.family.family_in_chain.Goals.{then-le+in_ok-put_position, else-le}

differs : false ≡ true → ⊥
differs e = cc

pub index-requires : goal.index-requires
index-requires c =
    let w = c.requires.chain.within in
    let e = c.requires.chain.chained.count_firsts in omega arith

pub loop-place-init : goal.loop-place-init
loop-place-init c =
    let d = c.args.taxonomy.now in
    let ps = c.args.paths.now in
    let q = c.args.path.now in
    let n = c.args.count in
    let h = c.requires.chain in
    let ks = h.kinds in
    let firsts = c.args.chains.now.firsts.items in
    let kind = c.args.kind in
    let within : kind < length firsts = (let w = h.within in let e = h.chained.count_firsts in omega arith) in
    let is : c.index.result.now ≡ get_or firsts kind 0 = c.index.ensures ∙ get_or_default firsts kind c.index.result.now 0 within in
    let many : length ks ≡ length ps = h.many in
    record {
      family = subst (λ (f : List ℕ). FamilyUpTo d n q ps c.index.result.now f) (sym c.new-family.ensures.items)
          (first-jump d n q ps c.index.result.now
          (λ j a l. h.other j l
          (λ e.
          let r : get_or firsts (get_or ks j 0) 0 ≤ j = h.chained.reached j (omega arith) (omega (arith, l, many)) in
          let s : get_or firsts kind 0 ≤ j = subst (λ (k : ℕ). get_or firsts k 0 ≤ j) e r in
          omega (arith, a, s, is))));
      chain = (h, λ l. ap (λ (k : ℕ). get_or ks k 0) is ∙ h.chained.starts kind h.within (omega (arith, l, is, many)));
    }

pub le-requires-clause-suits : goal.le-requires-clause-suits
le-requires-clause-suits c =
    let ps = c.args.paths.now in
    let p = c.loop-place.place in
    let t : c.target_of.result.now ≡ target_at c.args.count (slice_index_or ps p unit) = c.target_of.ensures ∙ ap (target_at c.args.count) (c.index-paths-place.is ∙ get_or_default ps p c.index-paths-place.result unit c.loop-place-test.true) in
    rw t (suits-at (variances_in c.args.taxonomy.now) c.args.count ps p c.requires.paths c.loop-place-test.true)

pub put_position-requires : goal.put_position-requires
put_position-requires c = subst (λ (l : List ℕ). IsStrictlyIncreasing l) (sym c.requires.column) (places-rise c.args.count c.args.paths.now 0)

pub index-requires-in-loop-place : goal.index-requires-in-loop-place
index-requires-in-loop-place c =
    let many = c.requires.chain.many in
    let e = c.requires.chain.chained.count_next in
    let l = c.loop-place-test.true in omega arith

pub loop-place-smaller : goal.loop-place-smaller
loop-place-smaller c =
    let h = c.requires.chain in
    let next = c.args.chains.now.next.items in
    let p = c.loop-place.place in
    let l = c.loop-place-test.true in
    let many = h.many in
    let counted = h.chained.count_next in
    let is : c.index-in-loop-place.result.now ≡ get_or next p 0 = c.index-in-loop-place.ensures ∙ get_or_default next p c.index-in-loop-place.result.now 0 (omega arith) in
    let on : p < get_or next p 0 = h.chained.onward p (omega arith) (omega arith) in
    let less : length c.args.paths.now - c.index-in-loop-place.result.now < length c.args.paths.now - p = omega arith in less

pub loop-place-preserved : goal.loop-place-preserved
loop-place-preserved c =
    let d = c.args.taxonomy.now in
    let ps = c.args.paths.now in
    let q = c.args.path.now in
    let n = c.args.count in
    let h = c.loop-place.invariant.chain.0 in
    let ks = h.kinds in
    let next = c.args.chains.now.next.items in
    let column = c.args.column.now in
    let p = c.loop-place.place in
    let l = c.loop-place-test.true in
    let many : length ks ≡ length ps = h.many in
    let counted = h.chained.count_next in
    let k' = c.index-in-loop-place.result.now in
    let is : k' ≡ get_or next p 0 = c.index-in-loop-place.ensures ∙ get_or_default next p k' 0 (omega (arith, l, many, counted)) in
    let of_kind : get_or ks p 0 ≡ c.args.kind = c.loop-place.invariant.chain.1 l in
    let on : p < get_or next p 0 = h.chained.onward p (omega arith) (omega (arith, l, many)) in
    let target : c.target_of.result.now ≡ target_at n (slice_index_or ps p unit) = c.target_of.ensures ∙ ap (target_at n) (c.index-paths-place.is ∙ get_or_default ps p c.index-paths-place.result unit l) in
    let same : p ≡ 0 + p = omega arith in
    let stepped : FamilyUpTo d n q ps (p + 1) c.if-le.family.items = elim c.if-le.branch [
      | then-le+in_ok-put_position w ↦ elim w.in_ok-put_position.ensures [
        | inl r ↦ (
            let at : slice_get column r.0 ≡ Some p = r.1 in
            let within : r.0 < length column = slice_get_within column r.0 p at in
            let found : get_or column r.0 0 ≡ p = get_or_from_slice_get column r.0 p 0 at in
            let enough : n ≤ leading_arrows (slice_index_or ps p unit) = subst (λ (k : ℕ). n ≤ leading_arrows (slice_index_or ps k unit)) found (place-in n ps column c.requires.column r.0 within).enough in
            let leads : PathLe (below_in d) (variances_in d) (target_at n (slice_index_or ps p unit)) q = subst (λ (x : TypePath). PathLe (below_in d) (variances_in d) x q) target (c.le.ensures.cases.0 w.if-le.true) in
            let position = position-is n ps 0 p r.0 (subst (λ (x : List ℕ). r.0 < length x) c.requires.column within) (subst (λ (x : List ℕ). get_or x r.0 0 ≡ p) c.requires.column found ∙ same) in
            take-one d n q ps c.loop-place.family.items c.if-le.family.items p r.0 l enough leads position ((λ i. (w.family-is i).items) ∙ r.2) c.loop-place.invariant.family)
        | inr r ↦ subst (λ (f : List ℕ). FamilyUpTo d n q ps (p + 1) f) (sym ((λ i. (w.family-is i).items) ∙ r.1))
            (skip d n q ps c.loop-place.family.items p l (λ enough le. stands-not n ps column p c.requires.column r.0 l enough) c.loop-place.invariant.family)
      ]
      | else-le w ↦ subst (λ (f : List ℕ). FamilyUpTo d n q ps (p + 1) f) (sym (λ i. (w.family-is i).items))
          (skip d n q ps c.loop-place.family.items p l
          (λ enough le. differs (sym w.if-le.false ∙ c.le.ensures.cases.1 (subst (λ (x : TypePath). PathLe (below_in d) (variances_in d) x q) (sym target) le)))
          c.loop-place.invariant.family)
    ] in
    record {
      family = jump d n q ps c.if-le.family.items (p + 1) k' (omega (arith, is, on))
          (λ j a b m. h.other j m
          (λ e.
          let r : get_or next p 0 ≤ j = h.chained.passes p j (omega arith) (omega (arith, a)) (omega (arith, m, many)) (e ∙ sym of_kind) in
          omega (arith, b, is, r))) stepped;
      chain = (h, λ m. ap (λ (k : ℕ). get_or ks k 0) is ∙ (h.chained.stays p (omega arith) (omega (arith, l, many)) (omega (arith, m, is, many)) ∙ of_kind));
    }
