use Rattle.cls_library.specs.declared.place.Place.{Place}
use Rattle.cls_library.specs.Families.{IsBefore, IsPlace}
use Rattle.cls_library.specs.Leads.{NoneLeads, place_at}
use Rattle.cls_library.proofs.lead.next_by_flags.Given as goal

abbrev pub invariant-loop-component : goal.invariant-loop-component
invariant-loop-component l = record {
  later : IsBefore (place_at l.component l.count) l.fn.from → ⊥;
  passed : (p : Place) → IsPlace l.fn.lib p → (IsBefore p l.fn.from → ⊥) → IsBefore p (place_at l.component l.count) → NoneLeads l.fn.lib l.fn.sought p;
}
