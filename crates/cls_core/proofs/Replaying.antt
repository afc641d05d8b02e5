-- A history, and one event more.
use Rattle.std.proofs.Common.{Bool, List, [], ◌∷◌, ◌++◌, refl, subst}
use Rattle.cls_core.specs.Rows.{Machine}
use Rattle.cls_core.specs.Machine.{Steps, Replays}
use Rattle.cls_core.specs.declared.entry.Entry.{Entry}
use Rattle.cls_core.specs.declared.answer.Answer.{Answer}

module _ {G : Type 0} (eq : G → G → Bool) (IsAnswer : G → Answer G → Type 0) where
  pub replays-snoc : (es : List Entry) (e : Entry) (r m t : Machine G) → Replays eq IsAnswer r es m
      → Steps eq IsAnswer m e t → Replays eq IsAnswer r (es ++ e ∷ []) t
  replays-snoc [] e r m t is s = (t, subst (λ x. Steps eq IsAnswer x e t) is s, refl)
  replays-snoc (d ∷ es) e r m t is s = (is.0, is.1, replays-snoc es e is.0 m t is.2 s)
