use Rattle.std.proofs.Common.{length, sym, subst, ap, ◌∙◌, List, ℕ}
use Rattle.std.specs.Prelude.{All}
use Rattle.cls_path.specs.Paths.{listed}
use Rattle.cls_check.specs.Checking.{path_total}
use Rattle.cls_check.specs.Layers.{AllBelow}
use Rattle.cls_check.specs.Places.{arrows_in}
use Rattle.cls_check.proofs.BlockLaws.{empty_length, empty_below}
use Rattle.cls_check.proofs.Keys.{place_found}
use Rattle.cls_check.proofs.Loops.{is-true}
use Rattle.cls_check.proofs.members.is_other_walked.Goals as goal

pub returns-then-contains-clause-walked : goal.returns-then-contains-clause-walked
returns-then-contains-clause-walked c = ((λ t absent. absurd (absent (place_found c.args.places.now.keys c.args.place (sym c.contains.ensures ∙ c.if-contains.true)))), (λ h. is-true))

pub is_walked-requires-clause-as_many : goal.is_walked-requires-clause-as_many
is_walked-requires-clause-as_many c = ap (λ (q : List (List (List ℕ))). length q) c.requires.none ∙ empty_length (path_total (listed c.args.form.now))

pub is_walked-requires-clause-within : goal.is_walked-requires-clause-within
is_walked-requires-clause-within c = subst (λ (q : List (List (List ℕ))). All (AllBelow (length (arrows_in c.args.lib.now c.args.place))) q) (sym c.requires.none) (empty_below (length (arrows_in c.args.lib.now c.args.place)) (path_total (listed c.args.form.now)))
