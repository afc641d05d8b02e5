-- Histories by one worker, of a closure all goals of which have answers.
use Rattle.std.specs.Prelude.{ℕ, ◌≡◌, List, [], ◌∷◌}
use Rattle.cls_core.specs.declared.answer.Answer.{Answer}
use Rattle.cls_core.specs.declared.entry.Entry.{Entry}
use Rattle.cls_core.specs.declared.entry.Entry.TheVariants.{Claim, File}
use Rattle.cls_core.specs.Closure.{IsReached}
use Rattle.cls_laws.specs.Possible.{IsPossible}

-- the events are all by this worker
abbrev pub AreBy : ℕ → List Entry → Type 0
AreBy worker [] = Unit {0}
AreBy worker (Claim w row ∷ es) = (w ≡ worker) × AreBy worker es
AreBy worker (File w row ∷ es) = (w ≡ worker) × AreBy worker es

-- each goal of the closure has an answer
abbrev pub EachHasAnswer : {G : Type 0} → (G → Answer G → Type 0) → G → Type 0
EachHasAnswer {G} IsAnswer start = (g : G) → IsReached IsAnswer start g → IsPossible ((a : Answer G) × IsAnswer g a)
