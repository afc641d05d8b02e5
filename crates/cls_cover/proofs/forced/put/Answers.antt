use Rattle.std.proofs.Common.{ℕ, List, ◌≡◌, ◌<◌, ◌≤◌, ◌↔◌, ◌⊎◌, length, get_or, false, true, sym, subst, ◌∙◌, arith}
use Rattle.cls_cover.specs.Members.{Member, Ascending}
use Rattle.cls_cover.proofs.SingleFamilies.{put_ascending, put_members, there_members}
use Rattle.cls_cover.proofs.forced.put.Goals as goal

pub place_of-place-requires : goal.place_of-place-requires
place_of-place-requires c = subst (λ (l : List ℕ). Ascending l) (sym c.as_slice.ensures.value) c.requires

pub returns-then-stands_at-clause-members : goal.returns-then-stands_at-clause-members
returns-then-stands_at-clause-members c =
    let s = c.args.positions.now.items in
    let e : c.as_slice-2.result.now ≡ s = c.as_slice-2.ensures.value in
    let r = c.stands_at.ensures.0 c.if-stands_at.true in
    there_members s c.place_of-place.result c.args.x
    (subst (λ (l : List ℕ). c.place_of-place.result < length l) e r.0)
    (subst (λ (l : List ℕ). get_or l c.place_of-place.result 0 ≡ c.args.x) e r.1)

pub returns-clause-ascending : goal.returns-clause-ascending
returns-clause-ascending c =
    let s = c.args.positions.now.items in
    let k = c.place_of-place.result in
    let e : c.as_slice.result.now ≡ s = c.as_slice.ensures.value in
    let f : c.as_slice-2.result.now ≡ s = c.as_slice-2.ensures.value in
    let p = c.place_of-place.ensures in
    subst (λ (xs : List ℕ). Ascending xs) (sym c.in_ok-insert.ensures.items)
    (put_ascending s k c.args.x c.requires
    (λ j h. subst (λ (l : List ℕ). get_or l j 0 < c.args.x) e (p.before j h))
    (λ l. not_here (get_or s k 0) c.args.x
    (subst (λ (l : List ℕ). k < length l → c.args.x ≤ get_or l k 0) e p.here l)
    (λ same. differs (sym c.if-stands_at.false ∙ c.stands_at.ensures.1
    (subst (λ (l : List ℕ). k < length l) (sym f) l, subst (λ (l : List ℕ). get_or l k 0 ≡ c.args.x) (sym f) same)))))
  where
    not_here : (a x : ℕ) → x ≤ a → (a ≡ x → ⊥) → x < a
    not_here a x l n = grind (arith, n)

    differs : false ≡ true → ⊥
    differs e = cc

pub returns-clause-members : goal.returns-clause-members
returns-clause-members c = λ y.
    subst (λ (xs : List ℕ). Member xs y ↔ (Member c.args.positions.now.items y ⊎ (y ≡ c.args.x))) (sym c.in_ok-insert.ensures.items)
    (put_members c.args.positions.now.items c.place_of-place.result c.args.x y)
