use Rattle.std.proofs.Common.{◌+◌, ◌<◌, ◌≤◌, length}
use Rattle.cls_base.specs.Limits.{max_components, max_library_weight}
use Rattle.cls_library.specs.Libraries.{total_of, IsWithinLimits}
use Rattle.cls_library.proofs.Limits.{library-push}
use Rattle.cls_library.proofs.library.Library.add.Goals as goal
use Rattle.cls_library.proofs.library.Library.add.Goals.{in-Ok-push, in-Err-push}

pub invariant_of-self-after-push-2 : goal.invariant_of-self-after-push-2
invariant_of-self-after-push-2 c =
    let d = c.self.inside.taxonomy in
    let cs = c.self.inside.components.items in
    let new = c.in-Ok.component in
    let limits : IsWithinLimits d new = c.in-Ok.ensures.limits in
    let room : length cs < max_components = c.in-Ok.ensures.accepted.room in
    let light : new.weight + total_of cs ≤ max_library_weight = c.in-Ok.ensures.light in
    let more = library-push d cs new c.self.invariant.0 limits room light in
    elim c.match-push.branch [
      | in-Ok-push w ↦ (rw w.in-Ok-push.ensures.items more, tt)
      | in-Err-push w ↦ (rw w.in-Err-push.ensures.items c.self.invariant.0, tt)
    ]
