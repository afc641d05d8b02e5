use Rattle.cls_machine_tests.proofs.callers_tests.two_callers_share_the_work.Given as goal

abbrev pub ghosts-ask_together : goal.ghosts-ask_together
ghosts-ask_together g a = record { name = a.blank.name; parts = a.blank.parts }
