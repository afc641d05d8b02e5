-- internal: what is at hand while terms are found, and what is found with it
use Rattle.std.specs.Prelude.{ℕ, ◌-◌, List, map}
use Rattle.std.specs.List.{flat_map}
use Rattle.cls_base.specs.Terms.{Applicative, apply}
use Rattle.cls_term.specs.Banks.{at, term_by}
use Rattle.cls_enum.specs.Candidates.{over, fills}
use Rattle.cls_enum.specs.CellTables.{cell_of}
use Rattle.cls_enum.specs.Faults.{IfTooMany}
use Rattle.cls_enum.specs.Members.{IsAdded, IsOverfull}
use Rattle.cls_enum.specs.Plans.{nodes_of}
use Rattle.cls_enum.specs.declared.fault.PageFault.{PageFault}
use Rattle.cls_enum.specs.declared.plan.Place.{Place}
use Rattle.cls_enum.specs.declared.held.Held.{Held}

-- the terms of a node of a size that are at hand
abbrev pub held_terms : Held → ℕ → ℕ → List Applicative
held_terms held = cell_of held.bank.now held.cells.now

-- f applied to a term at each place in turn, whose sizes come to `rest`
abbrev pub filled : Held → List Place → ℕ → Applicative → List Applicative
filled held places rest f = fills (held_terms held) f (nodes_of places) rest

-- the same of each term with one of these numbers
abbrev pub each_filled : Held → List Place → ℕ → List ℕ → List Applicative
each_filled held places rest numbers = flat_map (λ f. filled held places rest f) (map (at held.bank.now) numbers)

-- the same of f applied to each of them
abbrev pub applied_filled : Held → List Place → ℕ → Applicative → List ℕ → List Applicative
applied_filled held places rest f numbers = flat_map (λ a. filled held places rest (apply f a)) (map (at held.bank.now) numbers)

-- the same of each term of the node, where its size and `rest` come to `size`
abbrev pub node_filled : Held → List Place → ℕ → ℕ → List Applicative
node_filled held places size node = over size (λ t. flat_map (λ f. filled held places (size - t) f) (held_terms held t node))

-- the new spines are the old ones and those of the terms, each once
abbrev pub Finds : Held → List (ℕ × List ℕ) → List (ℕ × List ℕ) → List Applicative → Type 0
Finds held old new terms = IsAdded held.bank.now old terms new

-- where there are too many terms, those of the old spines and these are more than the limit
abbrev pub FindsTooMany : Held → List (ℕ × List ℕ) → List Applicative → PageFault → Type 0
FindsTooMany held old terms fault = IfTooMany fault (IsOverfull held.limit (map (term_by held.bank.now) old) terms)
