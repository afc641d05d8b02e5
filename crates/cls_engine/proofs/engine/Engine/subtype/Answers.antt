use Rattle.cls_engine.proofs.engine.Engine.subtype.Goals as goal

pub returns-clause-exact : goal.returns-clause-exact
returns-clause-exact c =
    rw (← c.library.ensures) (rw (← c.taxonomy.ensures) (rw (← c.ty.ensures) (rw (← c.ty-2.ensures) c.in_ok-subtype.ensures)))
