use Rattle.std.proofs.Common.{◌≡◌, ◌++◌, ◌∷◌, [], List, ℕ, string_bytes, ap, sym, ◌∙◌, subst, rules, arith}
use Rattle.cls_lexer.specs.Columns.{texts_at, ArePlaces}
use Rattle.cls_lexer.specs.declared.texts.Place.{Place}
use Rattle.cls_lexer.proofs.Columns.{IsNext, places_push, texts_push}
use Rattle.cls_lexer.proofs.texts.Texts.push.Goals as goal

abbrev place : (c : goal.In_ok-push) → Place
place c = record { start = c.len-start.result; end = c.in-Ok.end }

next : (c : goal.In_ok-push) → IsNext (string_bytes c.self.inside.column) c.args.text.now (place c)
next c = record { utf8 = c.utf8.text; start = search rules; end = search rules }

column : (c : goal.In_ok-push) → string_bytes c.push_str.new.self ≡ string_bytes c.self.inside.column ++ c.args.text.now
column c = c.in_ok-push_str.ensures.bytes

places : (c : goal.In_ok-push) → c.push.new.self.items ≡ c.self.inside.places.items ++ place c ∷ []
places c = c.in_ok-push.ensures.items ∙ ap (λ (ps : List Place). ps ++ place c ∷ []) c.reserve.ensures.items

pub invariant_of-self-2 : goal.invariant_of-self-2
invariant_of-self-2 c =
    let pushed = places_push (string_bytes c.self.inside.column) c.args.text.now 0 c.self.inside.places.items (place c) (next c) (omega arith) c.self.invariant in
    subst (λ (bytes : List ℕ). ArePlaces bytes 0 c.push.new.self.items) (sym (column c))
    (subst (λ (ps : List Place). ArePlaces (string_bytes c.self.inside.column ++ c.args.text.now) 0 ps) (sym (places c)) pushed)

pub returns-clause-ok : goal.returns-clause-ok
returns-clause-ok c =
    ap (λ (bytes : List ℕ). texts_at bytes c.push.new.self.items) (column c)
    ∙ (ap (texts_at (string_bytes c.self.inside.column ++ c.args.text.now)) (places c)
    ∙ (texts_push (string_bytes c.self.inside.column) c.args.text.now 0 c.self.inside.places.items (place c) (next c) c.self.invariant
    ∙ ap (λ (texts : List (List ℕ)). texts ++ c.args.text.now ∷ []) c.self.view_is))
