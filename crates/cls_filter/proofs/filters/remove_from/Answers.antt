use Rattle.std.proofs.Common.{◌≡◌, set, ap, ◌∙◌, get_or, arith}
use Rattle.std.proofs.lemmas.List.{get_or_default}
use Rattle.cls_filter.specs.Automata.{Automaton}
use Rattle.cls_filter.specs.Lines.{no_lines, without_leaf}
use Rattle.cls_filter.proofs.filters.remove_from.Goals as goal

pub index_mut-requires : goal.index_mut-requires
index_mut-requires c = omega (arith, c.requires, c.args.filters.now.ok.0)

-- the filter that is changed is that of the number
pub returns : goal.returns
returns c =
    let old = c.args.filters.now.items in
    let own = get_or_default old c.args.number c.index_mut.result.now no_lines c.requires in
    let is : c.remove.new.self ≡ without_leaf (get_or old c.args.number no_lines) c.args.component =
    c.remove.ensures ∙ ap (λ (a : Automaton). without_leaf a c.args.component) (c.index_mut.ensures.value ∙ own) in
    ap (λ (a : Automaton). set old c.args.number a) is
