use Rattle.std.proofs.Common.{ℕ, ◌≡◌, ◌≤◌, ◌<◌, length, get_or, List, sym, subst}
use Rattle.cls_cover.specs.Members.{Ascending}
use Rattle.cls_cover.specs.Growing.{IsPut}
use Rattle.cls_cover.proofs.Steps.{put_place}
use Rattle.cls_cover.proofs.cover.join.Goals as goal

pub place_of-place-requires : goal.place_of-place-requires
place_of-place-requires c = subst (λ (l : List ℕ). Ascending l) (sym c.as_slice.ensures) c.requires.ascending

pub returns-clause-put : goal.returns-clause-put
returns-clause-put c =
    let s = c.args.cover.now.positions.items in
    let e : c.as_slice.result.now ≡ s = c.as_slice.ensures in
    let p = c.place_of-place.ensures in
    subst (λ (xs : List ℕ). IsPut c.args.x s xs) (sym c.in_ok-insert.ensures.ok)
    (put_place s c.place_of-place.result c.args.x c.requires.ascending c.requires.fresh
    (subst (λ (l : List ℕ). c.place_of-place.result ≤ length l) e p.within)
    (λ k h. subst (λ (l : List ℕ). get_or l k 0 < c.args.x) e (p.before k h))
    (subst (λ (l : List ℕ). c.place_of-place.result < length l → c.args.x ≤ get_or l c.place_of-place.result 0) e p.here))
