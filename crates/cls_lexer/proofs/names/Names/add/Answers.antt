use Rattle.std.proofs.Common.{◌≡◌, ◌++◌, ◌∷◌, [], List, ℕ, length, length-append, refl, sym, ap, subst, ◌∙◌, arith}
use Rattle.std.specs.Str.{bytes_eq}
use Rattle.std.specs.List.{IsDistinct}
use Rattle.cls_lexer.specs.TextKeys.{AreKeysOf}
use Rattle.cls_lexer.proofs.KeyedTexts.{inserted}
use Rattle.cls_lexer.proofs.names.Names.add.Goals as goal

pushed : (c : goal.In_ok-insert_full) → c.push.new.self ≡ c.args.self.now ++ c.args.text.now ∷ []
pushed c = c.in_ok-push.ensures.ok ∙ ap (λ (texts : List (List ℕ)). texts ++ c.args.text.now ∷ []) c.self.view_is

inserted_text : (c : goal.In_ok-insert_full) → AreKeysOf c.insert_full.new.self.keys (c.args.self.now ++ c.args.text.now ∷ []) × IsDistinct bytes_eq (c.args.self.now ++ c.args.text.now ∷ [])
inserted_text c =
    let before : AreKeysOf c.self.inside.keys.keys c.args.self.now = subst (AreKeysOf c.self.inside.keys.keys) c.self.view_is c.self.invariant.1 in
    let own = c.in_ok-own.ensures c.args.text.now c.requires.key in
    let kept : AreKeysOf c.reserve.new.self.keys c.args.self.now = rw c.in_ok-reserve.ensures.keys before in
    inserted _ (record { shorts = λ _ _. refl; short_long = λ _ _. refl; long_short = λ _ _. refl; longs = λ _ _. refl })
    c.reserve.new.self.keys c.insert_full.new.self.keys c.args.self.now c.in_ok-own.own c.args.text.now
    c.in_ok-insert_full.ensures.keys c.in_ok-insert_full.ensures.unique own kept c.requires.absent

keyed : (c : goal.In_ok-insert_full) → AreKeysOf c.insert_full.new.self.keys c.push.new.self
keyed c = subst (AreKeysOf c.insert_full.new.self.keys) (sym (pushed c)) (inserted_text c).0

distinct : (c : goal.In_ok-insert_full) → IsDistinct bytes_eq c.push.new.self
distinct c = subst (IsDistinct bytes_eq) (sym (pushed c)) (inserted_text c).1

pub invariant_of-self-2 : goal.invariant_of-self-2
invariant_of-self-2 c =
    let long = ap length (pushed c) in let more = length-append c.args.self.now (c.args.text.now ∷ []) in let room = c.requires.room in
    (record { few = omega (arith, long, more, room); distinct = distinct c }, keyed c)

pub returns-clause-table : goal.returns-clause-table
returns-clause-table c = pushed c

pub returns-clause-distinct : goal.returns-clause-distinct
returns-clause-distinct c = distinct c
