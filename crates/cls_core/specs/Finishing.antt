-- What is left of a core whose rows are all filed.
use Rattle.std.specs.Prelude.{◌≡◌}
use Rattle.cls_core.specs.Machine.{AllFiled}
use Rattle.cls_core.specs.Rows.{Recorded, filed_rows}
use Rattle.cls_core.specs.declared.finished.Finished.{Finished}

-- every row of the core is filed, and f has its rows and its history
abbrev pub IsFinished : {G : Type 0} → Recorded G → Finished G → Type 0
IsFinished core f =
    AllFiled core.rows × (f.rows ≡ filed_rows core.rows.goals core.rows.states) × (f.history ≡ core.history)
