use Rattle.std.proofs.Common.{ℕ, List, [], ◌++◌, ap, arith}
use Rattle.std.specs.List.{flat_map}
use Rattle.cls_cover.proofs.SingleFamilies.{forced_none}
use Rattle.cls_proof.specs.Texts.{layer_text, set_text}
use Rattle.cls_cert.specs.Computed.{layers_from}
use Rattle.cls_cert.proofs.layers.BlockLeft.new.Goals as goal

pub returns-clause-text : goal.returns-clause-text
returns-clause-text c = ap (λ (ss : List (List ℕ)). flat_map set_text ss ++ flat_map layer_text (layers_from [] c.args.families.items)) c.new-sets.ensures

pub returns-clause-left : goal.returns-clause-left
returns-clause-left c = record {
  ascending = c.requires.ascending;
  few = c.requires.few;
  forced = forced_none c.new-cover.result c.new-cover.ensures;
  grown = tt;
  front = omega arith;
  set = omega arith;
}
