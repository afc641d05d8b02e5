-- The rows after a filing, from the columns that the code writes.
use Rattle.std.proofs.Common.{◌≡◌, ℕ, ◌+◌, ◌-◌, Bool, List, ◌++◌, Some, length, set, slice_get, ap, ◌∙◌, arith}
use Rattle.std.specs.Prelude.{replicate}
use Rattle.std.proofs.lemmas.List.{set-append_left}
use Rattle.std.proofs.lemmas.Option.{slice_get_within}
use Rattle.cls_core.specs.Machine.{filed, grown, numbered}
use Rattle.cls_core.specs.Rows.{machine}
use Rattle.cls_core.specs.declared.state.RowState.{RowState}
use Rattle.cls_core.specs.declared.state.RowState.TheVariants.{Free, Filed}
use Rattle.cls_core.specs.declared.answer.Answer.{Answer}

module _ {G : Type 0} (eq : G → G → Bool) (goals : List G) (states : List RowState) where
  pub filed-rows : (answer : Answer G) (more : List G) (behind : List RowState) (numbers : Answer ℕ) (n row : ℕ) (s : RowState)
      → more ≡ grown eq goals answer → length (grown eq goals answer) ≡ length goals + n → behind ≡ states ++ replicate n Free → numbers ≡ numbered eq (grown eq goals answer) answer → slice_get states row ≡ Some s
      → machine more (set behind row (Filed numbers)) ≡ filed eq (machine goals states) row answer
  filed-rows answer more behind numbers n row s e long f are at =
      let count : n ≡ length (grown eq goals answer) - length goals = omega arith in
      let place : set behind row (Filed numbers) ≡ set states row (Filed numbers) ++ replicate n Free = ap (λ l. set l row (Filed numbers)) f ∙ set-append_left states (replicate n Free) row (Filed numbers) (slice_get_within states row s at) in
      ap (λ l. machine more l) place ∙ (λ k. machine (e k) (set states row (Filed (are k)) ++ replicate (count k) Free))
