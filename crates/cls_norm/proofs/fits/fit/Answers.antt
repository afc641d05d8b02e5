use Rattle.std.proofs.Common.{◌≡◌, arith, refl, sym, ◌∙◌, ap, true, length}
use Rattle.std.specs.List.{list_all}
use Rattle.std.proofs.lemmas.Bool.{false≢true, leb-true, le-leb}
use Rattle.cls_path.specs.Paths.{type_of_paths, listed}
use Rattle.cls_norm.specs.Fit.{is_name}
use Rattle.cls_norm.proofs.NameLists.{names_fit}
use Rattle.cls_norm.proofs.SmallTypes.{few_are_fit, narrow_are_fit, wide_is_unfit}
use Rattle.cls_norm.proofs.fits.fit.Goals as goal

pub returns-then-are_names : goal.returns-then-are_names
returns-then-are_names c =
    let e = c.paths-paths.ensures in
    let h : list_all is_name c.args.nf.now ≡ true = ap (list_all is_name) (sym e) ∙ (sym c.are_names.ensures ∙ c.if-are_names.true) in
    let k = length c.paths-paths.result.now in
    let l = ap length e in
    let f = names_fit c.args.nf.now h in
    ((λ b. f.0 (let m = leb-true k 341 b in omega (arith, m, l))), (λ i. le-leb k 341 (let m = f.1 i in omega (arith, m, l))))

pub returns-then-nodes-le-FEW : goal.returns-then-nodes-le-FEW
returns-then-nodes-le-FEW c =
    (λ _. few_are_fit (type_of_paths (listed c.args.nf.now)) (omega (arith, c.list_nodes-nodes.ensures, c.if-nodes-le-FEW.true)), λ _. refl)

pub returns-then-spread-gt-MAX_TYPE_SPREAD : goal.returns-then-spread-gt-MAX_TYPE_SPREAD
returns-then-spread-gt-MAX_TYPE_SPREAD c =
    let w = ap (λ w. w.1) c.list_weight-spread.ensures in
    ((λ h. absurd (false≢true h)), (λ f. absurd (wide_is_unfit (type_of_paths (listed c.args.nf.now)) (omega (arith, w, c.if-spread-gt-MAX_TYPE_SPREAD.true)) f)))

pub returns-then-nodes-le-MAX_TYPE_DEPTH : goal.returns-then-nodes-le-MAX_TYPE_DEPTH
returns-then-nodes-le-MAX_TYPE_DEPTH c =
    let w = ap (λ w. w.1) c.list_weight-spread.ensures in
    ((λ _. narrow_are_fit (type_of_paths (listed c.args.nf.now)) (omega (arith, c.list_nodes-nodes.ensures, c.if-nodes-le-MAX_TYPE_DEPTH.true)) (omega (arith, w, c.if-spread-gt-MAX_TYPE_SPREAD.false))), (λ _. refl))
