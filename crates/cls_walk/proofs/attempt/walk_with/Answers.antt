use Rattle.cls_walk.proofs.attempt.walk_with.Goals as goal

pub walk_by-requires-clause-plan : goal.walk_by-requires-clause-plan
walk_by-requires-clause-plan g c = record {
  forms = c.requires.forms;
  guide = c.requires.guide;
  start = λ e. c.requires.start;
  upper = c.requires.upper;
}
