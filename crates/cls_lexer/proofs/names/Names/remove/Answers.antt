use Rattle.std.proofs.Common.{◌≡◌, ◌+◌, ◌<◌, ◌^◌, ℕ, Bool, true, false, refl, arith}
use Rattle.std.specs.Prelude.{if◌then◌else◌}
use Rattle.std.specs.List.{IsDistinct}
use Rattle.std.specs.Str.{bytes_eq}
use Rattle.cls_lexer.specs.TextKeys.{AreKeysOf}
use Rattle.cls_lexer.proofs.KeyedTexts.{distinct_keys, keys_remove, keys_length}
use Rattle.cls_lexer.proofs.names.Names.remove.Goals as goal

no_more : (new old : ℕ) (gone : Bool) → new + (if gone then 1 else 0) ≡ old → old < 2 ^ 32 → new < 2 ^ 32
no_more new old true e few = omega arith
no_more new old false e few = omega arith

keyed : (c : goal.After-remove) → AreKeysOf c.shift_remove_index.new.self.keys c.remove.new.self
keyed c = rw (c.shift_remove_index.ensures.keys, c.remove.ensures) (keys_remove c.args.name.0 c.self.inside.keys.keys c.self.inside.texts c.self.invariant.1)

distinct : (c : goal.After-remove) → IsDistinct bytes_eq c.remove.new.self
distinct c = distinct_keys _ (record { shorts = λ _ _. refl; short_long = λ _ _. refl; long_short = λ _ _. refl; longs = λ _ _. refl }) c.shift_remove_index.new.self.keys c.remove.new.self (keyed c) c.shift_remove_index.ensures.unique

pub invariant_of-self : goal.invariant_of-self
invariant_of-self c =
    let before = keys_length c.self.inside.keys.keys c.self.inside.texts c.self.invariant.1 in
    let few = c.self.invariant.0.few in
    let after = keys_length c.shift_remove_index.new.self.keys c.remove.new.self (keyed c) in
    let less = no_more _ _ _ c.shift_remove_index.ensures.len (omega (arith, before, few)) in
    (record { few = omega (arith, after, less); distinct = distinct c }, keyed c)

pub returns-clause-distinct : goal.returns-clause-distinct
returns-clause-distinct c = distinct c
