use Rattle.cls_machine_tests.proofs.callers_tests.closures_are_taken_out_of_that_of_their_root.Goals as goal

pub expand_all-requires-clause-ready : goal.expand_all-requires-clause-ready
expand_all-requires-clause-ready g c κs = c.facts.ensures.all_ready

pub new-requires : goal.new-requires
new-requires g c = c.in-Ok.ensures.complete.closure
