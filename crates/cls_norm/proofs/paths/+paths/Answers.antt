use Rattle.std.proofs.Common.{rules, arith, ◌≡◌, sym, ◌∙◌, ap, subst, ◌⊎◌, inl, inr, map}
use Rattle.std.proofs.lemmas.Result.{on_ok_weaker}
use Rattle.cls_base.specs.Types as types
use Rattle.cls_base.specs.Types.{constructor, arrow}
use Rattle.cls_base.specs.Ty.{type_of}
use Rattle.cls_base.specs.Taxa.{Below, variance_of}
use Rattle.cls_base.specs.declared.ty.Ty.{Ty}
use Rattle.cls_base.specs.Taxonomies.{covariant, contravariant, invariant}
use Rattle.cls_path.specs.Paths.{atom, inside, function, listed}
use Rattle.cls_path.proofs.TypeParts.{form_of_paths, omega_paths, name_paths, sealed_paths, arrow_paths}
use Rattle.cls_norm.specs.PathLists.{or_else, PutsPathsOf}
use Rattle.cls_norm.proofs.PathLists.{listed-map, listed-inside}
use Rattle.cls_norm.proofs.Puts.{form_of_one, puts_none, puts_first, puts_one, puts_changed, puts_no_arrow, puts_sides, puts_unit, puts_product, puts_meet}
use Rattle.cls_norm.proofs.paths.+paths.Goals as goal

pub form_of-returns-in-Bare : goal.form_of-returns-in-Bare
form_of-returns-in-Bare g t c =
    let b = Below (g.T.Taxa.is_below c.args.taxa.now) in
    let v = g.T.Taxa.variance_of_name c.args.taxa.now in
    let p = c.in_ok-alone.field-0 in
    rw (c.in-Bare.is, c.one.ensures) (form_of_one b v (constructor c.in-Bare.name.0 types.omega) p c.in_ok-alone.ensures)

pub form_of-returns : goal.form_of-returns
form_of-returns g t c =
    let b = Below (g.T.Taxa.is_below c.args.taxa.now) in
    let v = g.T.Taxa.variance_of_name c.args.taxa.now in
    let one = g.met.T.Taxa.reflexive c.args.taxa.now in
    let through = g.met.T.Taxa.transitive c.args.taxa.now in
    let s = type_of c.args.ty.now in
    let n = c.put_paths_of.new.paths.items in
    let h = puts_first b v s c.in_ok-paths.paths.items n c.in_ok-paths.ensures.items c.in_ok-put_paths_of.ensures in
    form_of_paths b v one through s (listed n) (listed c.in_ok-from_paths.field-0) h c.in_ok-from_paths.ensures

pub put_paths_of-returns-in-Omega : goal.put_paths_of-returns-in-Omega
put_paths_of-returns-in-Omega g t c =
    let b = Below (g.T.Taxa.is_below c.args.taxa.now) in
    let v = g.T.Taxa.variance_of_name c.args.taxa.now in
    let one = g.met.T.Taxa.reflexive c.args.taxa.now in
    let through = g.met.T.Taxa.transitive c.args.taxa.now in
    rw c.in-Omega.is (puts_none b v types.omega c.args.paths.now.items (omega_paths b v one through))

pub put_paths_of-returns-in_ok-push-in-Bare : goal.put_paths_of-returns-in_ok-push-in-Bare
put_paths_of-returns-in_ok-push-in-Bare g t c =
    let b = Below (g.T.Taxa.is_below c.args.taxa.now) in
    let v = g.T.Taxa.variance_of_name c.args.taxa.now in
    let p = c.in_ok-alone-in-Bare.field-0 in
    rw c.in-Bare.is (puts_one b v (constructor c.in-Bare.name.0 types.omega) p c.args.paths.now.items c.push.new.self.items c.in_ok-push-in-Bare.ensures.items c.in_ok-alone-in-Bare.ensures)

pub put_arrow-returns-then-len-start : goal.put_arrow-returns-then-len-start
put_arrow-returns-then-len-start g t c =
    let b = Below (g.T.Taxa.is_below c.args.taxa.now) in
    let v = g.T.Taxa.variance_of_name c.args.taxa.now in
    let s = type_of c.args.source.now in
    let u = type_of c.args.target.now in
    puts_no_arrow b v s u c.args.paths.now.items c.put_paths_of.new.paths.items c.in_ok-put_paths_of.ensures (omega arith)

pub put_arrow-returns : goal.put_arrow-returns
put_arrow-returns g t c =
    let b = Below (g.T.Taxa.is_below c.args.taxa.now) in
    let v = g.T.Taxa.variance_of_name c.args.taxa.now in
    let one = g.met.T.Taxa.reflexive c.args.taxa.now in
    let through = g.met.T.Taxa.transitive c.args.taxa.now in
    let s = type_of c.args.source.now in
    let u = type_of c.args.target.now in
    let l = listed c.in_ok-source.source in
    let old = c.args.paths.now.items in
    let mid = c.put_paths_of.new.paths.items in
    let new = c.set_source.new.paths.items in
    on_ok_weaker c.set_source.result
    (λ e. puts_changed b v u (arrow s u) (λ n. map (function l) n) c.len-start.result old mid new (omega arith) c.in_ok-put_paths_of.ensures e
    (λ made h. rw (listed-map (function l) made) (arrow_paths b v one through s u l (listed made) c.in_ok-source.ensures h)))
    c.set_source.ensures

pub put_paths_of-returns-in_ok-put_paths_of-in-Meet : goal.put_paths_of-returns-in_ok-put_paths_of-in-Meet
put_paths_of-returns-in_ok-put_paths_of-in-Meet g t c =
    let b = Below (g.T.Taxa.is_below c.args.taxa.now) in
    let v = g.T.Taxa.variance_of_name c.args.taxa.now in
    let one = g.met.T.Taxa.reflexive c.args.taxa.now in
    let through = g.met.T.Taxa.transitive c.args.taxa.now in
    let s = type_of c.in-Meet.sides.value.0 in
    let u = type_of c.in-Meet.sides.value.1 in
    let old = c.args.paths.now.items in
    let mid = c.put_paths_of.new.paths.items in
    let new = c.put_paths_of-in-Meet.new.paths.items in
    let h : PutsPathsOf b v s old mid = subst (λ (x : Ty × Ty). PutsPathsOf b v (type_of x.0) old mid) {y = c.in-Meet.sides.value} c.deref-in-Meet.ensures c.in_ok-put_paths_of-in-Meet.ensures in
    rw c.in-Meet.is (on_ok_weaker c.put_paths_of-in-Meet.result
    (λ k. puts_meet b v one through s u old mid new h (subst (λ (x : Ty × Ty). PutsPathsOf b v (type_of x.1) mid new) {y = c.in-Meet.sides.value} c.deref-in-Meet-2.ensures k))
    c.put_paths_of-in-Meet.ensures)

pub put_product-returns-then-len-start : goal.put_product-returns-then-len-start
put_product-returns-then-len-start g t c =
    let b = Below (g.T.Taxa.is_below c.args.taxa.now) in
    let v = g.T.Taxa.variance_of_name c.args.taxa.now in
    let one = g.met.T.Taxa.reflexive c.args.taxa.now in
    let through = g.met.T.Taxa.transitive c.args.taxa.now in
    let s = type_of c.args.first.now in
    let u = type_of c.args.second.now in
    let old = c.args.paths.now.items in
    let new = c.set_right.new.paths.items in
    let sides = puts_sides b v s u c.len-start.result c.len-middle.result old c.put_paths_of.new.paths.items c.set_left.new.paths.items c.put_paths_of-2.new.paths.items new (omega arith) (omega arith) c.in_ok-put_paths_of.ensures c.in_ok-set_left.ensures c.in_ok-put_paths_of-2.ensures c.in_ok-set_right.ensures in
    puts_unit b v one through s u c.unit.result old new c.push.new.self.items sides (omega arith) c.unit.ensures c.in_ok-push.ensures.items

pub put_product-returns : goal.put_product-returns
put_product-returns g t c =
    let b = Below (g.T.Taxa.is_below c.args.taxa.now) in
    let v = g.T.Taxa.variance_of_name c.args.taxa.now in
    let one = g.met.T.Taxa.reflexive c.args.taxa.now in
    let through = g.met.T.Taxa.transitive c.args.taxa.now in
    let s = type_of c.args.first.now in
    let u = type_of c.args.second.now in
    let old = c.args.paths.now.items in
    let new = c.set_right.new.paths.items in
    let sides = puts_sides b v s u c.len-start.result c.len-middle.result old c.put_paths_of.new.paths.items c.set_left.new.paths.items c.put_paths_of-2.new.paths.items new (omega arith) (omega arith) c.in_ok-put_paths_of.ensures c.in_ok-set_left.ensures c.in_ok-put_paths_of-2.ensures c.in_ok-set_right.ensures in
    puts_product b v one through s u old new sides (λ e. omega (arith, e))

pub put_under_name-returns-in_ok-put_paths_of-in-Co : goal.put_under_name-returns-in_ok-put_paths_of-in-Co
put_under_name-returns-in_ok-put_paths_of-in-Co g t c =
    let b = Below (g.T.Taxa.is_below c.args.taxa.now) in
    let v = g.T.Taxa.variance_of_name c.args.taxa.now in
    let one = g.met.T.Taxa.reflexive c.args.taxa.now in
    let through = g.met.T.Taxa.transitive c.args.taxa.now in
    let name = c.args.name.0 in
    let s = type_of c.args.argument.now in
    let old = c.args.paths.now.items in
    let mid = c.put_paths_of.new.paths.items in
    let new = c.set_name.new.paths.items in
    let k : v name ≡ covariant = search rules in
    on_ok_weaker c.set_name.result
    (λ e. puts_changed b v s (constructor name s) (λ n. or_else (atom name) (map (inside name) n)) c.len-start.result old mid new (omega arith) c.in_ok-put_paths_of-in-Co.ensures e
    (λ made h. rw (listed-inside name made) (name_paths b v one through name s (listed made) k h)))
    c.set_name.ensures

pub put_under_name-returns-in_ok-push-in-Contra : goal.put_under_name-returns-in_ok-push-in-Contra
put_under_name-returns-in_ok-push-in-Contra g t c =
    let b = Below (g.T.Taxa.is_below c.args.taxa.now) in
    let v = g.T.Taxa.variance_of_name c.args.taxa.now in
    let one = g.met.T.Taxa.reflexive c.args.taxa.now in
    let through = g.met.T.Taxa.transitive c.args.taxa.now in
    let name = c.args.name.0 in
    let s = type_of c.args.argument.now in
    let old = c.args.paths.now.items in
    let n = listed c.in_ok-argument-in-Contra.argument in
    let w : (v name ≡ contravariant) ⊎ (v name ≡ invariant) = elim c.in-Contra.is [ inl e ↦ inl (sym c.variance.ensures.is ∙ ap variance_of e) | inr e ↦ inr (sym c.variance.ensures.is ∙ ap variance_of e) ] in
    puts_one b v (constructor name s) c.in_ok-sealed-in-Contra.field-0 old c.push.new.self.items c.in_ok-push-in-Contra.ensures.items
    (rw c.in_ok-sealed-in-Contra.ensures (sealed_paths b v one through name s n w c.in_ok-argument-in-Contra.ensures))
