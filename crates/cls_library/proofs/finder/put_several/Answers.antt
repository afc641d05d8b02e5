use Rattle.std.proofs.Common.{◌≡◌, ℕ, List, [], ◌∷◌, ◌++◌, ◌+◌, map, take, sym, subst, ap, ◌∙◌}
use Rattle.std.specs.Prelude.{IsSomeAnd, slice_get}
use Rattle.cls_path.specs.Paths.{TypePath}
use Rattle.cls_library.specs.Families.{AreFamiliesAt}
use Rattle.cls_library.specs.Leads.{PutsFamily, path_of}
use Rattle.cls_library.proofs.Gaining.{gained}
use Rattle.cls_library.proofs.Viewing.{paths-length}
use Rattle.cls_library.proofs.finder.put_several.Goals as goal

pub loop-i-preserved : goal.loop-i-preserved
loop-i-preserved c =
    let l = c.args.lib.now in
    let goal = map path_of c.args.leads.now.items in
    let p = c.args.place in
    let i = c.loop-i.i in
    let new = c.put_one.new.positions.items in
    let puts : IsSomeAnd (slice_get goal i) (λ q. PutsFamily l q p [] new) =
    subst (λ (old : List ℕ). IsSomeAnd (slice_get goal i) (λ q. PutsFamily l q p old new)) c.clear.ensures.items
    (subst (λ (qs : List TypePath). IsSomeAnd (slice_get qs i) (λ q. PutsFamily l q p c.clear.new.self.items new)) c.loop-i.invariant.paths c.in_ok-put_one.ensures.family) in
    let gain = gained l goal p i c.loop-i.families.items [] new c.loop-i.invariant.found puts in
    let made : c.new.result ≡ gain.family = c.new.ensures ∙ (c.in_ok-from_slice.ensures.items ∙ (c.deref-in-loop-i.ensures.value ∙ gain.put)) in
    record {
      leads = c.in_ok-put_one.ensures.leads;
      paths = c.in_ok-put_one.ensures.paths ∙ c.loop-i.invariant.paths;
      size = paths-length c.put_one.new.leads.items c.loop-i.leads.items c.in_ok-put_one.ensures.paths ∙ c.loop-i.invariant.size;
      found = subst (λ (fs : List (List ℕ)). AreFamiliesAt l (take (i + 1) goal) p fs) (sym (c.in_ok-push.ensures.items ∙ ap (λ (f : List ℕ). c.loop-i.families.items ++ f ∷ []) made)) gain.families;
    }
