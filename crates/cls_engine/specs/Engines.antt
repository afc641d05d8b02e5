-- What an engine is seen as, and what holds of each.
use Rattle.std.specs.Prelude.{ℕ, ◌≡◌, ◌<◌, List}
use Rattle.cls_term.specs.Costs.{cost_of}
use Rattle.cls_library.specs.Libraries.{Library}
use Rattle.cls_engine.specs.declared.options.Options.{Options}
use Rattle.cls_engine.specs.declared.outcomes.Decided.{Decided}
use Rattle.cls_engine.specs.declared.recents.Kept.{Kept}
use Rattle.cls_engine.specs.Options.{AreInRange}
use Rattle.cls_engine.specs.Outcomes.{AreOutcomes}
use Rattle.cls_engine.specs.Recents.{AreKnown}

-- The library, the costs of its components, and what bounds the work on a query.
pub record EngineSeen : Type 0 where
  pub library : Library
  pub costs : List ℕ
  pub options : Options

abbrev pub seen_as : Library → List ℕ → Options → EngineSeen
seen_as lib costs o = record { library = lib; costs = costs; options = o }

-- What holds of each engine. What it keeps of goals is by its library, each grammar that it keeps is that of a goal,
-- within the options, and what it keeps to have come of a goal is so.
pub record IsEngine (e : EngineSeen) (kept_by : Library) (recents : List Kept) (outcomes : List Decided) : Type 0 where
  pub in_range : AreInRange e.options
  pub costly : (x : ℕ) → 0 < cost_of e.costs x
  pub kept : kept_by ≡ e.library
  pub known : AreKnown e.library e.options recents
  pub decided : AreOutcomes e.library e.options (cost_of e.costs) outcomes
