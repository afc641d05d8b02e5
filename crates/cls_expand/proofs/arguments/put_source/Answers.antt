use Rattle.std.proofs.Common.{◌≡◌, get_or, sym, ◌∙◌, ap}
use Rattle.cls_path.specs.Paths.{Paths, none, append, listed}
use Rattle.cls_path.specs.Seen.{paths_of_source}
use Rattle.cls_path.proofs.RoundTrip.{append_none}
use Rattle.cls_expand.proofs.Places.{on_ok_map}
use Rattle.cls_expand.proofs.Sources.{source_there, source_missing}
use Rattle.cls_expand.proofs.arguments.put_source.Goals as goal

pub returns-in-Some : goal.returns-in-Some
returns-in-Some c =
    let source = paths_of_source c.in-Some.source in
    let there : get_or c.args.arrow.now.sources c.args.place none ≡ source = source_there c.args.arrow.now.sources c.args.place source c.in-Some.ensures in
    on_ok_map c.copy_onto.result (λ e. e ∙ ap (λ (n : Paths). append (listed c.args.all.now.items) n) (sym there)) c.copy_onto.ensures

pub returns-in-None : goal.returns-in-None
returns-in-None c =
    let missing : get_or c.args.arrow.now.sources c.args.place none ≡ none = source_missing c.args.arrow.now.sources c.args.place c.in-None.ensures in
    sym (ap (λ (n : Paths). append (listed c.args.all.now.items) n) missing ∙ append_none (listed c.args.all.now.items))
