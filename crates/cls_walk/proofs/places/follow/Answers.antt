use Rattle.std.proofs.Common.{◌≡◌, ◌∙◌, ℕ, [], ◌∷◌, List, map, subst, sym, refl, ap}
use Rattle.cls_walk.proofs.FrameColumns.{followed-pairs, followed-in, none-left}
use Rattle.cls_walk.proofs.Stretches.{on_ok}
use Rattle.cls_walk.specs.FrameColumns.{place_of, made_of, Grows, IsFollowed}
use Rattle.cls_walk.proofs.places.follow.Goals as goal

pub returns-in_default : goal.returns-in_default
returns-in_default c = λ book rules.
    let above = map place_of c.args.above.now in
    let l = c.args.place.node in
    let e : c.args.place.rest.now ≡ [] = none-left c.args.place.rest.now c.in_default.ensures.cases in
    let P : List ℕ → Type 0 = λ ms. Grows (IsFollowed book above (l, ms)) c.args.places.now.items c.pass.new.places.items in
    on_ok c.pass.result (λ g. subst P (sym e) (followed-pairs book above c.made_from.result.now l c.args.places.now.items c.pass.new.places.items (ap (map made_of) c.made_from.ensures ∙ rules.makes l) g)) c.pass.ensures

pub returns-in_ok-push : goal.returns-in_ok-push
returns-in_ok-push c = λ book rules.
    let above = map place_of c.args.above.now in
    let l = c.args.place.node in
    let n = c.in-Some.node.now in
    let rest = c.in-Some.rest.now in
    let e : c.args.place.rest.now ≡ n ∷ rest = c.in-Some.ensures.cases.0 in
    let P : List ℕ → Type 0 = λ ms. Grows (IsFollowed book above (l, ms)) c.args.places.now.items c.push.new.self.items in
    subst P (sym e) (followed-in book above l n rest c.args.places.now.items c.push.new.self.items _ c.in_ok-push.ensures.items refl (c.is_complete.ensures.0 c.if-is_complete.true))
