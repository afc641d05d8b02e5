use Rattle.std.proofs.Common.{rules, tests, arith, ℕ, ◌≡◌, ◌<◌, ap, IsTrue, nat_lt}
use Rattle.cls_core.proofs.Columns.{held-some, held-counts}
use Rattle.cls_core.specs.Machine.{held_in}
use Rattle.cls_core.proofs.machine.Core.any_held.Goals as goal

lt_true : (n : ℕ) → IsTrue (nat_lt 0 n) → 0 < n
lt_true n h = search (rules, tests)

true_lt : (n : ℕ) → 0 < n → IsTrue (nat_lt 0 n)
true_lt n h = search (rules, tests)

pub returns : goal.returns
returns g c =
    let states : c.self.inside.states.items ≡ c.args.self.now.rows.states = ap (λ v. v.rows.states) c.self.view_is in
    let k = c.self.invariant in (
      λ t. held-some c.args.self.now.rows.states (let h = lt_true c.self.inside.held t in omega (arith, k.held_counted, ap held_in states)),
      λ r. true_lt c.self.inside.held (let h = held-counts c.args.self.now.rows.states r.0 r.1 r.2 in omega (arith, k.held_counted, ap held_in states)),
    )
