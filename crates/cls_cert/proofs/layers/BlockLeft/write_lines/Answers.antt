use Rattle.std.proofs.Common.{◌∙◌, string_bytes}
use Rattle.std.proofs.lemmas.Result.{on_ok_weaker}
use Rattle.cls_cert.proofs.LayerWriting.{sets_written}
use Rattle.cls_cert.proofs.layers.BlockLeft.write_lines.Goals as goal

pub returns-clause-lines : goal.returns-clause-lines
returns-clause-lines c =
    let first = sets_written (string_bytes c.args.text.now) (string_bytes c.write_sets.new.text) c.args.self.now c.write_sets.new.self c.in_ok-write_sets.ensures.same c.in_ok-write_sets.ensures.lines in
    on_ok_weaker c.write_layers.result (λ lines. lines ∙ first) c.write_layers.ensures.lines
