use Rattle.std.proofs.Common.{ℕ, ◌<◌, sym, ap, ◌∙◌, subst, map}
use Rattle.cls_base.specs.Limits.{max_states}
use Rattle.cls_filter.specs.Automata.{Automaton}
use Rattle.cls_filter.specs.Lines.{with_accepting}
use Rattle.cls_lexer.specs.Names.{number_of}
use Rattle.cls_syntax.specs.TokenTexts.{texts}
use Rattle.cls_repo.specs.Declarations.{with_all_accepting}
use Rattle.cls_repo.proofs.states.accept_each.Goals as goal

pub accept-requires : goal.accept-requires
accept-requires c = subst (λ (n : ℕ). n < max_states) (sym c.number.ensures) c.requires.0

pub accept_all-requires : goal.accept_all-requires
accept_all-requires c = c.requires.1

pub returns : goal.returns
returns c =
    c.accept_all.ensures
    ∙ ap (λ (a : Automaton). with_all_accepting a (map (number_of c.args.states.now) (texts c.args.others.now))) (c.accept.ensures ∙ ap (with_accepting c.args.filter.now) c.number.ensures)
