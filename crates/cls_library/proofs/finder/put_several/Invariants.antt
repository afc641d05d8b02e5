use Rattle.std.proofs.Common.{◌≡◌, length, map, take}
use Rattle.std.specs.Prelude.{All}
use Rattle.cls_library.specs.Families.{AreFamiliesAt}
use Rattle.cls_library.specs.Leads.{IsLead, path_of}
use Rattle.cls_library.proofs.finder.put_several.Given as goal

abbrev pub invariant-loop-i : goal.invariant-loop-i
invariant-loop-i l = record {
  leads : All (IsLead l.fn.lib) l.leads.items;
  paths : map path_of l.leads.items ≡ map path_of l.fn.leads.items;
  size : length l.leads.items ≡ l.i-end;
  found : AreFamiliesAt l.fn.lib (take l.i (map path_of l.fn.leads.items)) l.fn.place l.families.items;
}
