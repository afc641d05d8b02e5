use Rattle.cls_machine_tests.proofs.callers_tests.many_callers_get_a_large_closure.Given as goal

abbrev pub ghosts-ask_together : goal.ghosts-ask_together
ghosts-ask_together g a = record { name = a.blank.name; parts = a.blank.parts }
