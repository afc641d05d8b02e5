use Rattle.std.proofs.Common.{ℕ, ◌<◌, List, [], sym, ◌∙◌, subst, ap, arith, All}
use Rattle.std.specs.List.{flat_map}
use Rattle.cls_base.specs.Limits.{max_covers}
use Rattle.cls_cover.specs.Covers.{AreWithinLimit}
use Rattle.cls_cover.specs.Lists.{IsAscending}
use Rattle.cls_proof.specs.Texts.{layer_text}
use Rattle.cls_cert.specs.Computed.{layers_from}
use Rattle.cls_cert.proofs.LayerWriting.{none_few}
use Rattle.cls_cert.proofs.layers.BlockLeft.none.Goals as goal

pub new-requires-clause-ascending : goal.new-requires-clause-ascending
new-requires-clause-ascending c = subst (λ (fs : List (List ℕ)). All IsAscending fs) (sym c.new-families.ensures.items) (λ k d m. absurd (let j : k < 0 = m in omega arith))

pub new-requires-clause-few : goal.new-requires-clause-few
new-requires-clause-few c = subst (λ (fs : List (List ℕ)). AreWithinLimit fs max_covers) (sym c.new-families.ensures.items) none_few

pub returns-clause-text : goal.returns-clause-text
returns-clause-text c = c.new.ensures.text ∙ ap (λ (fs : List (List ℕ)). flat_map layer_text (layers_from [] fs)) c.new-families.ensures.items

pub returns-clause-left : goal.returns-clause-left
returns-clause-left c = c.new.ensures.left
