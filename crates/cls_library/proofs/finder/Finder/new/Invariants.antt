use Rattle.std.proofs.Common.{◌≡◌, map, take}
use Rattle.std.specs.Prelude.{All}
use Rattle.cls_library.specs.Leads.{IsLead, path_of}
use Rattle.cls_library.proofs.finder.Finder.new.Given as goal

abbrev pub invariant-loop-path : goal.invariant-loop-path
invariant-loop-path l = record {
  each : All (IsLead l.fn.lib) l.leads.items;
  paths : map path_of l.leads.items ≡ take l.path-index l.path-items;
}
