use Rattle.std.proofs.Common.{◌≡◌, ℕ, ◌+◌, ◌-◌, ◌∙◌, [], ◌∷◌, ◌++◌, List, length, map, get_or, subst, ap, arith}
use Rattle.cls_walk.specs.FrameColumns.{place_of, AreFollowed, Grows}
use Rattle.cls_walk.specs.FrameHeaps.{frame_of, mark_of, no_mark, places_at, standings_of, AreKept, Advances}
use Rattle.cls_walk.specs.Frames.{Place as SeenPlace}
use Rattle.cls_walk.specs.declared.places.Place.{Place}
use Rattle.cls_walk.specs.declared.standing.Mark.{Mark}
use Rattle.cls_walk.proofs.FrameHeaps.{advances, get-any, if-ok, if-ok-all, kept-by, stands-one, top-stack}
use Rattle.cls_walk.proofs.standing.end_argument.Goals as goal

pub close-requires-clause-below : goal.close-requires-clause-below
close-requires-clause-below c =
    let old = c.args.frames.now in
    let below = c.args.below in
    let r = (top-stack old below c.requires.frames c.requires.below c.requires.under).0 in
    let e : c.index-mark.result.now.below ≡ (get_or old.marks.items (below - 1) no_mark).below = ap (λ (m : Mark). m.below) (c.index-mark.ensures ∙ get-any old.marks.items (below - 1) _ (let b = c.requires.below in let u = c.requires.under in omega (arith, b, u))) in
    let u = c.requires.under in
    omega (arith, r, e, u)

pub returns-clause-advanced : goal.returns-clause-advanced
returns-clause-advanced c = λ book rules.
    let old = c.args.frames.now in
    let new = c.close.new.self in
    let below = c.args.below in
    let top = c.args.top in
    let made = c.advance.new.places.items in
    let places = map place_of old.places.items in
    let marks = map mark_of old.marks.items in
    let at : ℕ → List SeenPlace = λ i. places_at places 0 marks i in
    let pa = c.places_on.ensures ∙ (λ i. places_at (map place_of (c.as_slice-places.ensures.value i)) 0 (map mark_of (c.as_slice-marks.ensures.value i)) (top - 1)) in
    let pb = c.places_on-2.ensures ∙ (λ i. places_at (map place_of (c.as_slice-places.ensures.value i)) 0 (map mark_of (c.as_slice-marks.ensures.value i)) (below - 1)) in
    let A : List SeenPlace → Type 0 = λ z. Grows (AreFollowed book z (map place_of c.places_on-2.result.now)) c.clear.new.self.items made in
    let B : List SeenPlace → Type 0 = λ z. Grows (AreFollowed book (places_at places 0 marks (top - 1)) z) c.clear.new.self.items made in
    let C : List Place → Type 0 = λ z. Grows (AreFollowed book (places_at places 0 marks (top - 1)) (places_at places 0 marks (below - 1))) z made in
    let g = subst C c.clear.ensures.items (subst B pb (subst A pa (c.in_ok-advance.ensures book rules))) in
    let m = get_or old.marks.items (below - 1) no_mark in
    let em : c.index-mark.result.now ≡ m = c.index-mark.ensures ∙ get-any old.marks.items (below - 1) _ (let b = c.requires.below in let u = c.requires.under in omega (arith, b, u)) in
    let el : c.saturating_sub.result ≡ m.left - 1 = c.saturating_sub.ensures ∙ ap (λ (z : Mark). z.left - 1) em in
    if-ok c.close.result (λ t. Advances book old new top below t) _ (length old.marks.items + 1) c.close.ensures.standings c.close.ensures.top (λ w t e.
    advances book old new top below t made c.requires.frames c.requires.some c.requires.within c.requires.below c.requires.under
    (w ∙ (λ i. standings_of old ++ frame_of (map place_of made) (el i) ((em i).below) ∷ [])) e g)

pub returns-clause-kept : goal.returns-clause-kept
returns-clause-kept c =
    let old = c.args.frames.now in
    let new = c.close.new.self in
    let below = c.args.below in
    let b = c.requires.below in
    let u = c.requires.under in
    let m = get_or old.marks.items (below - 1) no_mark in
    let em : c.index-mark.result.now ≡ m = c.index-mark.ensures ∙ get-any old.marks.items (below - 1) _ (omega (arith, b, u)) in
    let eb = ap (λ (z : Mark). z.below) em in
    let el : c.saturating_sub.result ≡ m.left - 1 = c.saturating_sub.ensures ∙ ap (λ (z : Mark). z.left - 1) em in
    if-ok-all c.close.result (λ t. AreKept old new below t) _ _ _ _ (length old.marks.items + 1) c.close.ensures.standings c.close.ensures.count c.close.ensures.grown c.close.ensures.mark c.close.ensures.top (λ w n g k t e.
    kept-by old new below t _ c.requires.frames b u w n e eb (record { marks = g.marks; places = g.places })
    (stands-one old new below b u n (k.0 ∙ eb) (let l = k.1 in omega (arith, l, el))))
