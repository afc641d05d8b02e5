-- The paths of the component that the code looks up.
use Rattle.std.proofs.Common.{◌≡◌, ◌<◌, ℕ, List, length, get_or, sym, subst, ap, ◌∙◌}
use Rattle.std.proofs.lemmas.List.{get_or_default}
use Rattle.cls_library.specs.Libraries.{Component, Library, no_component, paths_at}

pub component-at : (l : Library) (cs : List Component) (x : ℕ) (c : Component) → cs ≡ l.components → x < length l.components → c ≡ get_or cs x c → c.paths ≡ paths_at l x
component-at l cs x c same within is =
    let inside : x < length cs = subst (λ (ds : List Component). x < length ds) (sym same) within in
    ap (λ (d : Component). d.paths) (is ∙ get_or_default cs x c no_component inside ∙ ap (λ (ds : List Component). get_or ds x no_component) same)
