use Rattle.std.proofs.Common.{◌∙◌, ◌++◌, ap, List}
use Rattle.cls_walk.specs.declared.places.Place.{Place}
use Rattle.cls_walk.specs.declared.standing.Mark.{Mark}
use Rattle.cls_walk.proofs.FrameHeaps.{frames-grown, grows-one, mark-one, standings-grown}
use Rattle.cls_walk.proofs.standing.Frames.close.Goals as goal

pub returns-clause-frames : goal.returns-clause-frames
returns-clause-frames c =
    let old = c.args.self.now in
    frames-grown old record { marks = c.push.new.self; places = c.extend_from_slice.new.self; made = c.args.self.now.made } _ c.requires.frames c.requires.below
    (c.in_ok-extend_from_slice.ensures.items ∙ ap (λ (zs : List Place). old.places.items ++ zs) c.as_slice.ensures.value) (c.len.ensures ∙ c.extend_from_slice.new.self.ok.0) c.in_ok-push.ensures.items

pub returns-clause-standings : goal.returns-clause-standings
returns-clause-standings c =
    let old = c.args.self.now in
    standings-grown old record { marks = c.push.new.self; places = c.extend_from_slice.new.self; made = c.args.self.now.made } _ c.requires.frames
    (c.in_ok-extend_from_slice.ensures.items ∙ ap (λ (zs : List Place). old.places.items ++ zs) c.as_slice.ensures.value) (c.len.ensures ∙ c.extend_from_slice.new.self.ok.0) c.in_ok-push.ensures.items

pub returns-clause-grown : goal.returns-clause-grown
returns-clause-grown c =
    let old = c.args.self.now in
    grows-one old record { marks = c.push.new.self; places = c.extend_from_slice.new.self; made = c.args.self.now.made } _ old.made.items
    (c.in_ok-extend_from_slice.ensures.items ∙ ap (λ (zs : List Place). old.places.items ++ zs) c.as_slice.ensures.value) c.in_ok-push.ensures.items

pub returns-clause-mark : goal.returns-clause-mark
returns-clause-mark c =
    let old = c.args.self.now in
    let e = mark-one old record { marks = c.push.new.self; places = c.extend_from_slice.new.self; made = c.args.self.now.made } _ c.in_ok-push.ensures.items in
    (ap (λ (m : Mark). m.below) e, ap (λ (m : Mark). m.left) e)
