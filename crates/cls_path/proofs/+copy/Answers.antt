use Rattle.std.proofs.Common.{arith, ap, subst, ◌≡◌, ℕ, zero, suc, ◌<◌, List, [], ◌∷◌, length, get_or}
use Rattle.cls_path.specs.Paths.{TypePath}
use Rattle.cls_path.specs.Sizes.{size_of, list_size}
use Rattle.cls_path.proofs.+copy.Goals as goal

-- a path is smaller than the list that holds it
size_within : (p : TypePath) (ps : List TypePath) (i : ℕ) → p ≡ get_or ps i p → i < length ps → size_of p < list_size ps
size_within p [] i e h = absurd (omega arith)
size_within p (q ∷ ps) zero e h = omega (arith, ap size_of e)
size_within p (q ∷ ps) (suc i) e h = omega (arith, size_within p ps i e (omega arith))

pub make::copy_all-copy_deep-requires : goal.make::copy_all-copy_deep-requires
make::copy_all-copy_deep-requires t c =
    let p = c.path-item.result in
    let h : size_of p < list_size c.args.list.now.items =
    subst (λ l. size_of p < list_size l) c.deref-path-items.ensures.value (size_within p c.deref-path-items.result.now c.loop-path.path-index c.path-item.is c.loop-path-test.true) in
    (omega (arith, c.decreases, h), tt)
