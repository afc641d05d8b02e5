use Rattle.std.proofs.Common.{ℕ, ◌≡◌, ◌<◌, length, get_or, take, ap, sym, ◌∙◌, subst, arith, rules, List, ◌++◌, [], true, false}
use Rattle.cls_cover.specs.Groups.{together}
use Rattle.cls_cover.specs.Growing.{next_family}
use Rattle.cls_cover.proofs.Grouping.{item_member, together_more, done_in_family, group_in_family, done_differ, done_all}
use Rattle.cls_cover.proofs.Joining.{row_below}
use Rattle.cls_cover.proofs.Lists.{get_any}
use Rattle.cls_cover.proofs.Taking.{AreTaken, taken_none, taken_yes, taken_no, taken_full, taken_all}
use Rattle.cls_cover.proofs.grow.takeable.Goals as goal
use Rattle.cls_cover.proofs.grow.takeable.Goals.{then-len-limit+then-can_take_group+in_ok-extend_from_slice, else-len-limit, else-len-limit-via-then-len-limit+else-can_take_group, else-len-limit-via-else-len-limit}

pub loop-place-init : goal.loop-place-init
loop-place-init c = subst (λ (l : List ℕ). AreTaken c.args.front.now c.args.cover.now c.args.limit [] l) (sym c.new-found.ensures.items) (taken_none c.args.front.now c.args.cover.now c.args.limit)

pub can_take_group-requires-clause-here : goal.can_take_group-requires-clause-here
can_take_group-requires-clause-here c = λ x h.
    let gs = c.args.groups.now in
    let n = c.loop-place.place in
    let l : n < length gs = omega arith in
    let g = c.get-positions.result.now in
    let m = item_member gs n g l (c.get-positions.ensures ∙ get_any gs n [] g l) in
    row_below c.args.front.now.families.now c.args.front.now.rows.now c.requires.front.rows x c.args.front.now.count c.requires.front.more
    (group_in_family c.args.front.now.rows.now (next_family c.args.front.now) c.args.groups.now c.requires.groups g m x h)

pub can_take_group-requires-clause-alike : goal.can_take_group-requires-clause-alike
can_take_group-requires-clause-alike c =
    let gs = c.args.groups.now in
    let n = c.loop-place.place in
    let l : n < length gs = omega arith in
    let g = c.get-positions.result.now in
    c.requires.groups.alike g (item_member gs n g l (c.get-positions.ensures ∙ get_any gs n [] g l))

pub loop-place-preserved : goal.loop-place-preserved
loop-place-preserved c =
    let front = c.args.front.now in
    let cover = c.args.cover.now in
    let limit = c.args.limit in
    let gs = c.args.groups.now in
    let n = c.loop-place.place in
    let l : n < length gs = omega arith in
    let g = c.get-positions.result.now in
    let found = c.loop-place.found.items in
    let e : g ≡ get_or gs n g = c.get-positions.ensures ∙ get_any gs n [] g l in
    let d = done_differ front.rows.now (next_family front) gs c.requires.groups n g l e in
    subst (λ (l : List ℕ). AreTaken front cover limit l c.if-len-limit.found.items) (sym (together_more gs n g l e))
    (elim c.if-len-limit.branch [
      | then-len-limit+then-can_take_group+in_ok-extend_from_slice w ↦ subst (λ (l : List ℕ). AreTaken front cover limit (together (take n gs) ++ g) l) (sym (ap (λ v. v.items) w.found-is ∙ w.in_ok-extend_from_slice.ensures.items))
          (taken_yes front cover limit (together (take n gs)) found g c.loop-place.invariant d (λ x m. (w.can_take_group.ensures x m).0 w.if-can_take_group.true))
      | else-len-limit w ↦ subst (λ (l : List ℕ). AreTaken front cover limit (together (take n gs) ++ g) l) (sym (ap (λ v. v.items) w.found-is))
          (elim w.else-len-limit.branch [
            | else-len-limit-via-then-len-limit+else-can_take_group v ↦ taken_no front cover limit (together (take n gs)) found g c.loop-place.invariant
                (λ x m s. let b : v.can_take_group.result ≡ true = (v.can_take_group.ensures x m).1 s in let h : v.can_take_group.result ≡ false = v.if-can_take_group.false in cc)
            | else-len-limit-via-else-len-limit v ↦ taken_full front cover limit (together (take n gs)) found g c.loop-place.invariant (let l : limit < length found = search rules in l)
          ])
    ])

pub returns : goal.returns
returns c =
    let front = c.args.front.now in
    let gs = c.args.groups.now in
    let n = c.loop-place.place in
    taken_all front c.args.cover.now c.args.limit (together (take n gs)) c.loop-place.found.items c.truncate.new.self.items c.requires.front c.requires.known c.requires.missed
    (done_in_family front.rows.now (next_family front) gs c.requires.groups n)
    (done_all front.rows.now (next_family front) gs c.requires.groups n (omega arith))
    c.loop-place.invariant c.truncate.ensures.items
