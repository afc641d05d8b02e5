use Rattle.std.proofs.Common.{rules, arith, ◌≡◌, sym, subst, [], ◌∷◌, ◌++◌}
use Rattle.std.specs.List.{IsDistinct}
use Rattle.std.proofs.lemmas.List.Sorted.{IsPermutation-sym}
use Rattle.std.proofs.lemmas.Map.Keys.{IsDistinct-IsPermutation}
use Rattle.cls_base.specs.Taxa.{Below}
use Rattle.cls_path.specs.Paths.{listed, none, InPaths, SuitsAll, type_of_paths}
use Rattle.cls_path.specs.Groups.{comparable}
use Rattle.cls_path.proofs.Ascending.{moved_in, remains_moved}
use Rattle.cls_path.proofs.GroupLaws.{flips, form_of_one, reduced_apart, sorted_form}
use Rattle.cls_path.proofs.Insertion.{canonical_sorted}
use Rattle.cls_path.proofs.Remains.{Remains, next_suits, next_canonical, remains_step, suits_within, whole_form, last_in, before_last_in, last_or_before}
use Rattle.cls_path.proofs.RoundTrip.{paths_back}
use Rattle.cls_path.proofs.few.form_of_few.Goals as goal

pub have_rising_heads-requires : goal.have_rising_heads-requires
have_rising_heads-requires g c =
    let b = Below (g.T.Taxa.is_below c.args.taxa.now) in
    let v = g.T.Taxa.variance_of_name c.args.taxa.now in
    let n = c.args.paths.items in
    let m = c.sort_up.new.paths.items in
    subst (λ l. SuitsAll v (listed l)) (sym c.deref.ensures.value) (suits_within b v (listed m) (listed n) c.requires.suits (moved_in m n (IsPermutation-sym n m c.sort_up.ensures.permutation)))

pub returns-then-len-le1 : goal.returns-then-len-le1
returns-then-len-le1 g c =
    let t = c.args.taxa.now in
    let met = g.met.T.Taxa in
    rw c.of.ensures (form_of_one (g.T.Taxa.is_below t) (g.T.Taxa.variance_of_name t) (met.reflexive t) (met.transitive t) (met.one_variance t) c.args.paths.items (omega (arith, c.len.ensures, c.if-len-le1.true)) c.requires.suits c.requires.canonical)

pub invariant_of-result : goal.invariant_of-result
invariant_of-result g c =
    let t = c.args.taxa.now in
    let v = g.T.Taxa.variance_of_name t in
    let met = g.met.T.Taxa in
    let n = c.args.paths.items in
    let form = form_of_one (g.T.Taxa.is_below t) v (met.reflexive t) (met.transitive t) (met.one_variance t) n (omega (arith, c.len.ensures, c.if-len-le1.true)) c.requires.suits c.requires.canonical in
    rw c.of.ensures (canonical_sorted (Below (g.T.Taxa.is_below t)) v (listed n) form.normal.canonical)

pub returns-then-have_rising_heads : goal.returns-then-have_rising_heads
returns-then-have_rising_heads g c =
    let t = c.args.taxa.now in
    let b = g.T.Taxa.is_below t in
    let v = g.T.Taxa.variance_of_name t in
    let met = g.met.T.Taxa in
    let n = c.args.paths.items in
    let m = c.sort_up.new.paths.items in
    let d : IsDistinct (comparable b v) m = subst (λ l. IsDistinct (comparable b v) l) c.deref.ensures.value (c.have_rising_heads.ensures c.if-have_rising_heads.true) in
    let apart : IsDistinct (comparable b v) n = IsDistinct-IsPermutation (comparable b v) (flips b v) m n (IsPermutation-sym n m c.sort_up.ensures.permutation) d in
    rw c.of-then-have_rising_heads.ensures (sorted_form b v (met.reflexive t) (met.transitive t) (met.one_variance t) n n m c.requires.suits c.requires.canonical
    (reduced_apart b v (met.reflexive t) (met.transitive t) (met.one_variance t) n apart c.requires.suits) c.sort_up.ensures.permutation c.sort_up.ensures.ascending)

pub invariant_of-result-then-have_rising_heads : goal.invariant_of-result-then-have_rising_heads
invariant_of-result-then-have_rising_heads g c =
    let t = c.args.taxa.now in
    let b = g.T.Taxa.is_below t in
    let v = g.T.Taxa.variance_of_name t in
    let met = g.met.T.Taxa in
    let n = c.args.paths.items in
    let m = c.sort_up.new.paths.items in
    let d : IsDistinct (comparable b v) m = subst (λ l. IsDistinct (comparable b v) l) c.deref.ensures.value (c.have_rising_heads.ensures c.if-have_rising_heads.true) in
    let apart : IsDistinct (comparable b v) n = IsDistinct-IsPermutation (comparable b v) (flips b v) m n (IsPermutation-sym n m c.sort_up.ensures.permutation) d in
    let form = sorted_form b v (met.reflexive t) (met.transitive t) (met.one_variance t) n n m c.requires.suits c.requires.canonical
    (reduced_apart b v (met.reflexive t) (met.transitive t) (met.one_variance t) n apart c.requires.suits) c.sort_up.ensures.permutation c.sort_up.ensures.ascending in
    rw c.of-then-have_rising_heads.ensures (canonical_sorted (Below b) v (listed m) form.normal.canonical)

pub loop-path-init : goal.loop-path-init
loop-path-init g c =
    let b = Below (g.T.Taxa.is_below c.args.taxa.now) in
    let v = g.T.Taxa.variance_of_name c.args.taxa.now in
    let met = g.met.T.Taxa in
    rw c.empty-nf.ensures (remains_moved b v (met.reflexive c.args.taxa.now) (met.transitive c.args.taxa.now) c.args.paths.items c.sort_up.new.paths.items c.sort_up.ensures.permutation c.requires.suits c.requires.canonical)

pub with-requires-clause-normal : goal.with-requires-clause-normal
with-requires-clause-normal g c = c.loop-path.invariant.normal

pub with-requires-clause-suits : goal.with-requires-clause-suits
with-requires-clause-suits g c =
    let i : InPaths (listed c.loop-path.paths.items) c.in-Some.path = rw c.in-Some.ensures.items (last_in c.pop.new.self.items c.in-Some.path) in
    next_suits (Below (g.T.Taxa.is_below c.args.taxa.now)) (g.T.Taxa.variance_of_name c.args.taxa.now) c.in-Some.path c.loop-path.invariant i

pub with-requires-clause-canonical : goal.with-requires-clause-canonical
with-requires-clause-canonical g c =
    let i : InPaths (listed c.loop-path.paths.items) c.in-Some.path = rw c.in-Some.ensures.items (last_in c.pop.new.self.items c.in-Some.path) in
    next_canonical (Below (g.T.Taxa.is_below c.args.taxa.now)) (g.T.Taxa.variance_of_name c.args.taxa.now) c.in-Some.path c.loop-path.invariant i

pub loop-path-preserved : goal.loop-path-preserved
loop-path-preserved g c =
    let b = Below (g.T.Taxa.is_below c.args.taxa.now) in
    let v = g.T.Taxa.variance_of_name c.args.taxa.now in
    let met = g.met.T.Taxa in
    let p = c.in-Some.path in
    let n = c.pop.new.self.items in
    let e : c.loop-path.paths.items ≡ n ++ p ∷ [] = c.in-Some.ensures.items in
    let i : InPaths (listed c.loop-path.paths.items) p = rw e (last_in n p) in
    remains_step b v (met.reflexive c.args.taxa.now) (met.transitive c.args.taxa.now) p (listed n) (listed c.in_ok-nf.nf) c.loop-path.invariant i
    (λ q j. last_or_before n p q (subst (λ l. InPaths (listed l) q) e j)) (λ q j. subst (λ l. InPaths (listed l) q) (sym e) (before_last_in n p q j)) c.in_ok-nf.ensures

pub returns : goal.returns
returns g c =
    let b = Below (g.T.Taxa.is_below c.args.taxa.now) in
    let v = g.T.Taxa.variance_of_name c.args.taxa.now in
    let n = listed c.args.paths.items in
    let out = listed c.loop-path.nf in
    let e : c.loop-path.paths.items ≡ [] = search rules in
    let ended = subst (λ l. Remains b v n out (listed l)) e c.loop-path.invariant in
    whole_form b v (type_of_paths n) out (subst (λ l. Remains b v l out none) (sym (paths_back n v c.requires.suits)) ended)
