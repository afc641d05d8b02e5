use Rattle.std.proofs.Common.{drop, true, false}
use Rattle.cls_walk.specs.Counts.{heads_of, runs}
use Rattle.cls_walk.specs.Runs.{ComesTo}
use Rattle.cls_walk.specs.Stages.{ways_if}
use Rattle.cls_walk.proofs.run.runs_of.Given as goal

abbrev pub invariant-loop-place : goal.invariant-loop-place
invariant-loop-place l =
    let rest = heads_of (drop l.place l.rules) in
    let whole = heads_of l.rules in
    let f = ways_if l.stage false in
    let g = ways_if l.stage true in
    record {
      all : ComesTo f rest (runs f whole) l.runs.all;
      alone : ComesTo g rest (runs g whole) l.runs.alone;
    }
