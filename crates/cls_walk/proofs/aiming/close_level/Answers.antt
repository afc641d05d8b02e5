use Rattle.std.proofs.Common.{◌∙◌, ◌++◌, List, ap}
use Rattle.cls_walk.specs.declared.aims.Aim.{Aim}
use Rattle.cls_walk.proofs.FrameLevels.{closed-all, closed-cuts}
use Rattle.cls_walk.proofs.aiming.close_level.Goals as goal

pub returns-clause-cuts : goal.returns-clause-cuts
returns-clause-cuts c =
    let old = c.args.levels.now in
    closed-cuts old.aims.items old.made.items c.extend_from_slice.new.self.items old.ends.items c.push.new.self.items c.len.result c.requires.cuts
    (c.in_ok-extend_from_slice.ensures.items ∙ ap (λ (zs : List Aim). old.aims.items ++ zs) c.as_slice.ensures.value) (c.len.ensures ∙ c.extend_from_slice.new.self.ok.0) c.in_ok-push.ensures.items

pub returns-clause-last : goal.returns-clause-last
returns-clause-last c =
    let old = c.args.levels.now in
    closed-all old.aims.items old.made.items c.extend_from_slice.new.self.items old.ends.items c.push.new.self.items c.len.result c.requires.cuts
    (c.in_ok-extend_from_slice.ensures.items ∙ ap (λ (zs : List Aim). old.aims.items ++ zs) c.as_slice.ensures.value) (c.len.ensures ∙ c.extend_from_slice.new.self.ok.0) c.in_ok-push.ensures.items
