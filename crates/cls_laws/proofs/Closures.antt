-- The closure of a goal by a library exists, and so does a history that makes it.
use Rattle.std.specs.Ordering.{eq_by_cmp}
use Rattle.cls_path.specs.OrderLaws.{list_same, list_equal}
use Rattle.cls_path.specs.PathOrder.{list_order}
use Rattle.cls_expand.specs.Answers.{IsAnswer}
use Rattle.cls_expand.specs.Determined.{one_answer}
use Rattle.cls_laws.specs.Existence.{HistoriesExist, ClosuresExist}
use Rattle.cls_laws.proofs.Answers.{answers_exist}
use Rattle.cls_laws.proofs.Histories.{history-exists, rows-exist}

pub histories_exist : HistoriesExist
histories_exist lib law goal n worker small =
    history-exists (eq_by_cmp list_order) list_same list_equal.refl (IsAnswer lib) goal worker n small (λ g r. answers_exist lib law g)

pub closures_exist : ClosuresExist
closures_exist lib law goal n small =
    rows-exist (eq_by_cmp list_order) list_same list_equal.refl (IsAnswer lib) goal (one_answer lib) n small (λ g r. answers_exist lib law g)
