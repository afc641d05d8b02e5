-- What the workers finished, as the closure that is known of a goal.
use Rattle.std.proofs.Common.{◌≡◌, ◌≤◌, sym, subst, List, Some, None, length, arith}
use Rattle.cls_core.specs.Canonical.{IsCanonical}
use Rattle.cls_core.specs.Laws.{RenumberedRowsAreCanonical, CompleteHistoriesMakeGrammars}
use Rattle.cls_core.specs.Machine.{rules_in}
use Rattle.cls_core.specs.Renumbering.{renumbered}
use Rattle.cls_core.specs.Rows.{Row}
use Rattle.cls_core.specs.declared.finished.Finished.{Finished}
use Rattle.cls_expand.specs.Answers.{IsAnswer, IsReady}
use Rattle.cls_expand.specs.Memos.{AreComplete, FitMemo}
use Rattle.cls_expand.proofs.Keeping.{filed-at-most}
use Rattle.cls_grammar.specs.Faults.{IfWide}
use Rattle.cls_grammar.specs.Grammars.{MakeGrammar, first_wide}
use Rattle.cls_grammar.specs.declared.fault.GrammarFault.{GrammarFault}
use Rattle.cls_grammar.specs.declared.fault.GrammarFault.TheVariants as grammar
use Rattle.cls_library.specs.Libraries.{Library}
use Rattle.cls_table.specs.Completing.{IsComplete}
use Rattle.cls_table.specs.declared.fault.ExpandFault.{ExpandFault}
use Rattle.cls_table.specs.declared.fault.ExpandFault.TheVariants as expand
use Rattle.cls_engine.specs.declared.options.Options.{Options}
use Rattle.cls_engine.specs.Closing.{tag_of, IsLargeFrom, IsKnown, IsClosingFault}
use Rattle.cls_engine.specs.Conversions.{of_expand, of_grammar}
use Rattle.cls_engine.specs.Goals.{Goal, same}
use Rattle.cls_engine.specs.Histories.{IsHistoryFrom}
use Rattle.cls_engine.specs.Options.{AreInRange}
use Rattle.cls_engine.proofs.Widths.{renumbered_ruled}

module _ (lib : Library) (o : Options) (start : Goal) where
  pub closing-expand : (e : ExpandFault) → (e ≡ expand.TooLarge → IsLargeFrom lib o start) → IsClosingFault lib o start (of_expand e)
  closing-expand expand.TooLarge h = h (λ i. expand.TooLarge)
  closing-expand expand.OutOfMemory h = tt

  module _ (f : Finished Goal) (w : IsComplete same IsAnswer (tag_of lib o start) f) where
    pub complete-rows : AreComplete same (IsAnswer lib) f.rows
    complete-rows = (start, w.closure)

    pub complete-fits : AreInRange o → FitMemo f.rows
    complete-fits r =
        let h = filed-at-most w.rows.goals w.rows.states in
        let a : length w.rows.goals ≤ o.goals = w.goals_within in
        let b : rules_in w.rows.states ≤ o.rules = w.rules_within in
        let c = r.few_goals in
        let d = r.few_rules in
        subst (λ (rows : List (Row Goal)). FitMemo rows) (sym w.shown_rows) ((let l = h.0 in omega arith), (let l = h.1 in omega arith))

    pub complete-history : IsHistoryFrom lib o.workers start f.history
    complete-history = record { machine = w.rows; legal = w.legal; complete = w.all_filed; named = w.workers_named }

    pub complete-grammar : CompleteHistoriesMakeGrammars same (IsAnswer lib) → MakeGrammar f.rows
    complete-grammar law =
        subst (λ (rows : List (Row Goal)). MakeGrammar rows) (sym w.shown_rows) (start, (law start f.history w.rows (w.legal, w.all_filed)).0)

    pub complete-canonical : RenumberedRowsAreCanonical same (IsAnswer lib) → IsCanonical same (IsAnswer lib) start (renumbered f.rows)
    complete-canonical law =
        subst (λ (rows : List (Row Goal)). IsCanonical same (IsAnswer lib) start (renumbered rows)) (sym w.shown_rows) (law start f.history w.rows (w.legal, w.all_filed))

    pub complete-known : RenumberedRowsAreCanonical same (IsAnswer lib) → IsReady lib start → first_wide f.rows ≡ None → IsKnown lib o start (renumbered f.rows)
    complete-known law ready narrow =
        record { ready = ready; canonical = complete-canonical law; none_wide = renumbered_ruled f.rows narrow; not_large = w.not_large }

    pub closing-grammar : RenumberedRowsAreCanonical same (IsAnswer lib) → (e : GrammarFault) → IfWide (λ g. first_wide (renumbered f.rows) ≡ Some g) e → IsClosingFault lib o start (of_grammar e)
    closing-grammar law (grammar.Wide g) h = (w.not_large, renumbered f.rows, complete-canonical law, h)
    closing-grammar law grammar.OutOfMemory h = tt
