use Rattle.std.proofs.Common.{◌<◌, List, length, ap, ◌∙◌, arith}
use Rattle.std.specs.Prelude.{slice_index_or}
use Rattle.std.proofs.lemmas.List.{get_or_default}
use Rattle.cls_filter.specs.Automata.{Automaton}
use Rattle.cls_filter.specs.Lines.{no_lines}
use Rattle.cls_filter.proofs.filters.Filters.filter.Goals as goal

pub index-requires : goal.index-requires
index-requires c =
    omega (arith, c.requires, c.self.inside.items.ok.0, ap (λ (fs : List Automaton). length fs) c.self.view_is)

pub returns : goal.returns
returns c =
    let items = c.self.inside.items.items in
    let within : c.args.number < length items = omega (arith, c.requires, ap (λ (fs : List Automaton). length fs) c.self.view_is) in
    c.index.ensures ∙ (get_or_default items c.args.number c.index.result.now no_lines within ∙ ap (λ (fs : List Automaton). slice_index_or fs c.args.number no_lines) c.self.view_is)
