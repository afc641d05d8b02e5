-- internal: what is asked of a term, as goals
use Rattle.std.specs.Prelude.{List, [], ◌∷◌}
use Rattle.cls_path.specs.Paths.{Paths, listed}
use Rattle.cls_check.specs.declared.asked.Asked.{Asked}
use Rattle.cls_check.specs.declared.asked.Asked.TheVariants.{Goal, Sources}
use Rattle.cls_check.specs.Deciding.{sources_of}

abbrev pub goals_of : Asked → List Paths
goals_of (Goal goal) = listed goal.now ∷ []
goals_of (Sources arrows place) = sources_of arrows.now place
