use Rattle.std.proofs.Common.{refl}
use Rattle.std.specs.List.{IsDistinct}
use Rattle.std.specs.Str.{bytes_eq}
use Rattle.cls_lexer.specs.TextKeys.{AreKeysOf}
use Rattle.cls_lexer.proofs.KeyedTexts.{distinct_keys, keys_take}
use Rattle.cls_lexer.proofs.TextTables.{fewer}
use Rattle.cls_lexer.proofs.names.Names.cut.Goals as goal

keyed : (c : goal.After-truncate-2) → AreKeysOf c.truncate.new.self.keys c.truncate-2.new.self
keyed c = rw (c.truncate.ensures.keys, c.truncate-2.ensures) (keys_take c.args.len c.self.inside.keys.keys c.self.inside.texts c.self.invariant.1)

distinct : (c : goal.After-truncate-2) → IsDistinct bytes_eq c.truncate-2.new.self
distinct c = distinct_keys _ (record { shorts = λ _ _. refl; short_long = λ _ _. refl; long_short = λ _ _. refl; longs = λ _ _. refl }) c.truncate.new.self.keys c.truncate-2.new.self (keyed c) c.truncate.ensures.unique

pub invariant_of-self : goal.invariant_of-self
invariant_of-self c = (record { few = fewer c.truncate-2.new.self c.self.inside.texts c.args.len c.truncate-2.ensures c.self.invariant.0.few; distinct = distinct c }, keyed c)

pub returns-clause-distinct : goal.returns-clause-distinct
returns-clause-distinct c = distinct c
