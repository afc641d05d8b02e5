use Rattle.cls_engine.proofs.engine.Engine.close.Goals as goal

pub keep_fault-requires : goal.keep_fault-requires
keep_fault-requires g c = rw (c.work_out.ensures.same, c.in_ok-asked.ensures) c.in-Err.ensures.fault
