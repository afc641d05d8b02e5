use Rattle.std.proofs.Common.{◌≡◌, [], refl, sym}
use Rattle.cls_walk.proofs.FrameColumns.{grows-push}
use Rattle.cls_walk.proofs.places.add_complete.Goals as goal

pub returns-in_ok-push : goal.returns-in_ok-push
returns-in_ok-push c =
    grows-push (λ q. q ≡ (c.args.node, [])) c.args.places.now.items c.push.new.self.items _ c.in_ok-push.ensures.items refl (λ q e. sym e)
