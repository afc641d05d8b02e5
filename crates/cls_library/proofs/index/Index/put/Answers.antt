use Rattle.std.proofs.Common.{IsSome, refl, subst}
use Rattle.cls_library.proofs.Indexing.{put-held}
use Rattle.cls_library.proofs.index.Index.put.Goals as goal

pub returns-in-Some : goal.returns-in-Some
returns-in-Some c =
    let held = subst (λ o. IsSome o) c.in-Some.ensures.value refl in
    let lookups = ((c.get_mut.follows.holds c.put_last.new.entries).3 held).0 in
    put-held _ _ c.args.ending _ c.put_last.new.entries c.args.place c.args.position lookups c.in-Some.ensures.value c.in_ok-put_last.ensures
