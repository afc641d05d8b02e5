use Rattle.cls_filter.proofs.LineLaws.{first_leaves_count, first_apps_count}
use Rattle.cls_filter.proofs.laws.first_lines_count.Goals as goal

pub returns-clause-leaves : goal.returns-clause-leaves
returns-clause-leaves c = first_leaves_count

pub returns-clause-apps : goal.returns-clause-apps
returns-clause-apps c = first_apps_count
