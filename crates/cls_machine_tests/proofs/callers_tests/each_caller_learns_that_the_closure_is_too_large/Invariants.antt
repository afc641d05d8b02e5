use Rattle.cls_machine_tests.proofs.callers_tests.each_caller_learns_that_the_closure_is_too_large.Given as goal

abbrev pub ghosts-ask_together : goal.ghosts-ask_together
ghosts-ask_together g a = record { name = a.blank.name; parts = a.blank.parts }
