use Rattle.std.proofs.Common.{rules, arith, length, ◌≤◌, [], ◌∷◌, inl, inr}
use Rattle.std.specs.Prelude.{◌⊎◌}
use Rattle.cls_path.specs.Paths.{atom}
use Rattle.cls_path.proofs.Orders.{paths_order-listed, name_first, exhausted}
use Rattle.cls_path.proofs.path.+order.Goals as goal
use Rattle.cls_path.proofs.path.+order.Goals.{Nf::order_by_path-then-loop-i-test+else-i-others, Nf::order_by_path-else-loop-i-test}

pub Nf::order_by_path-returns : goal.Nf::order_by_path-returns
Nf::order_by_path-returns t c =
    let xs = c.as_slice-ones.result.now in
    let ys = c.as_slice-others.result.now in
    let over : (length xs ≤ c.loop-i.i) ⊎ (length ys ≤ c.loop-i.i) =
    elim c.loop-i-test.branch [
      | Nf::order_by_path-then-loop-i-test+else-i-others w ↦ inr (omega arith)
      | Nf::order_by_path-else-loop-i-test w ↦ inl (omega arith)
    ] in
    let e = exhausted c.loop-i.i xs ys c.loop-i.invariant.in_one c.loop-i.invariant.in_two over in
    search rules

pub Path::order_deep-returns-in-From-Arrow : goal.Path::order_deep-returns-in-From-Arrow
Path::order_deep-returns-in-From-Arrow t c =
    let e = name_first c.in-From-Arrow.c.0 c.in-From-Arrow.b.value.source in
    search rules

pub Path::order_deep-returns-in-Arrow-From : goal.Path::order_deep-returns-in-Arrow-From
Path::order_deep-returns-in-Arrow-From t c =
    let e = paths_order-listed c.in-Arrow-From.a.value.source (atom c.in-Arrow-From.d.0 ∷ []) in
    search rules

pub Path::order_deep-returns-in-Arrow-Arrow : goal.Path::order_deep-returns-in-Arrow-Arrow
Path::order_deep-returns-in-Arrow-Arrow t c =
    let e = paths_order-listed c.in-Arrow-Arrow.a.value.source c.in-Arrow-Arrow.b.value.source in
    search rules

pub Path::order_deep-returns-else-is_ne : goal.Path::order_deep-returns-else-is_ne
Path::order_deep-returns-else-is_ne t c =
    let e = paths_order-listed c.in-Sealed-Sealed.n.value c.in-Sealed-Sealed.m.value in
    search rules
