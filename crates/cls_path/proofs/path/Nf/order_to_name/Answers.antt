use Rattle.std.proofs.Common.{rules, arith, sym, ◌∙◌, ◌<◌, length}
use Rattle.cls_path.proofs.Orders.{only_name, tied}
use Rattle.cls_path.proofs.path.Nf.order_to_name.Goals as goal

pub returns : goal.returns
returns c =
    let h : 0 < length c.as_slice-paths.result.now = grind arith in
    let o = tied c.order_to_name-first.result (sym c.is_ne.ensures ∙ c.if-is_ne.false) in
    let e = only_name c.args.name.0 c.index-paths-0.result c.as_slice-paths.result.now h c.index-paths-0.is (sym c.order_to_name-first.ensures ∙ o) in
    search rules
