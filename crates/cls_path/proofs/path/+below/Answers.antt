use Rattle.std.specs.Prelude.{IsTrue}
use Rattle.std.proofs.Common.{rules}
use Rattle.cls_path.specs.Paths.{listed}
use Rattle.cls_path.specs.Tests.{list_below}
use Rattle.cls_path.proofs.Orders.{paths_order-listed}
use Rattle.cls_path.proofs.Turning.{each_above-list_below, sealed-list_below, refused_below, from_arrow, arrow_from}
use Rattle.cls_path.proofs.path.+below.Goals as goal
use Rattle.cls_path.proofs.path.+below.Goals.{Path::is_below-then-may_be_below, Path::is_below-else-may_be_below}

pub Path::is_below-returns-then-is_below : goal.Path::is_below-returns-then-is_below
Path::is_below-returns-then-is_below g t c =
    let e = each_above-list_below (g.T.Taxa.is_below c.args.taxa.now) (g.T.Taxa.variance_of_name c.args.taxa.now) (listed c.in-Arrow-Arrow.a.value.source) (listed c.in-Arrow-Arrow.b.value.source) in
    search rules

pub Path::is_below-returns-else-is_below : goal.Path::is_below-returns-else-is_below
Path::is_below-returns-else-is_below g t c =
    let b = g.T.Taxa.is_below c.args.taxa.now in
    let v = g.T.Taxa.variance_of_name c.args.taxa.now in
    let n = listed c.in-Arrow-Arrow.a.value.source in
    let m = listed c.in-Arrow-Arrow.b.value.source in
    elim c.if-may_be_below.branch [
      | Path::is_below-then-may_be_below w ↦ search rules
      | Path::is_below-else-may_be_below w ↦
          let h : IsTrue (list_below b v m n) → IsTrue c.may_be_below.result = rw (← c.deref-in-Arrow-Arrow.ensures, ← c.deref-in-Arrow-Arrow-2.ensures) c.may_be_below.ensures in
          let e = refused_below b v c.in-Arrow-Arrow.a.value.target c.in-Arrow-Arrow.b.value.target n m c.may_be_below.result h w.if-may_be_below.false in
          search rules
    ]

pub Path::is_below-returns-then-is_some_below_name : goal.Path::is_below-returns-then-is_some_below_name
Path::is_below-returns-then-is_some_below_name g t c =
    let e = from_arrow (g.T.Taxa.is_below c.args.taxa.now) (g.T.Taxa.variance_of_name c.args.taxa.now) c.in-From-Arrow.c.0 c.in-From-Arrow.p.value c.in-From-Arrow.b.value.target (listed c.in-From-Arrow.b.value.source) in
    search rules

pub Path::is_below-returns-else-is_some_below_name : goal.Path::is_below-returns-else-is_some_below_name
Path::is_below-returns-else-is_some_below_name g t c =
    let e = from_arrow (g.T.Taxa.is_below c.args.taxa.now) (g.T.Taxa.variance_of_name c.args.taxa.now) c.in-From-Arrow.c.0 c.in-From-Arrow.p.value c.in-From-Arrow.b.value.target (listed c.in-From-Arrow.b.value.source) in
    search rules

pub Path::is_below-returns-then-are_above_name : goal.Path::is_below-returns-then-are_above_name
Path::is_below-returns-then-are_above_name g t c =
    let e = arrow_from (g.T.Taxa.is_below c.args.taxa.now) (g.T.Taxa.variance_of_name c.args.taxa.now) c.in-Arrow-From.d.0 c.in-Arrow-From.a.value.target c.in-Arrow-From.q.value (listed c.in-Arrow-From.a.value.source) in
    search rules

pub Path::is_below-returns-else-are_above_name : goal.Path::is_below-returns-else-are_above_name
Path::is_below-returns-else-are_above_name g t c =
    let e = arrow_from (g.T.Taxa.is_below c.args.taxa.now) (g.T.Taxa.variance_of_name c.args.taxa.now) c.in-Arrow-From.d.0 c.in-Arrow-From.a.value.target c.in-Arrow-From.q.value (listed c.in-Arrow-From.a.value.source) in
    search rules

pub Path::is_below-returns-then-below-6 : goal.Path::is_below-returns-then-below-6
Path::is_below-returns-then-below-6 g t c =
    let e = sealed-list_below (g.T.Taxa.is_below c.args.taxa.now) (g.T.Taxa.variance_of_name c.args.taxa.now) c.in-Sealed-Sealed.c.0 c.in-Sealed-Sealed.d.0 (listed c.in-Sealed-Sealed.n.value) (listed c.in-Sealed-Sealed.m.value) in
    let v = c.variance.ensures.is in
    search rules

pub Nf::is_sealed_below-returns-then-is_eq : goal.Nf::is_sealed_below-returns-then-is_eq
Nf::is_sealed_below-returns-then-is_eq g t c =
    let e = paths_order-listed c.args.self.now c.args.other.now in search rules

pub Nf::is_sealed_below-returns-then-is_below : goal.Nf::is_sealed_below-returns-then-is_below
Nf::is_sealed_below-returns-then-is_below g t c =
    let e = paths_order-listed c.args.self.now c.args.other.now in search rules

pub Nf::is_sealed_below-returns-else-is_below : goal.Nf::is_sealed_below-returns-else-is_below
Nf::is_sealed_below-returns-else-is_below g t c =
    let e = paths_order-listed c.args.self.now c.args.other.now in search rules
