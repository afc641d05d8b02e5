use Rattle.std.proofs.Common.{rules, arith, ℕ, ◌≡◌, sym, ap, ◌∙◌, subst, ◌<◌, ◌++◌, ◌∷◌, [], length, List, Some, false, ◌⊎◌, ◌↔◌}
use Rattle.std.specs.Prelude.{slice_set, slice_index_or, if◌then◌else◌, is_some}
use Rattle.std.specs.List.{position, list_any}
use Rattle.std.proofs.lemmas.List.{get_or_default}
use Rattle.cls_path.specs.Paths.{TypePath}
use Rattle.cls_path.specs.declared.label.GroupKey.{GroupKey}
use Rattle.cls_path.specs.contracts.label.GroupKeyPartialEq.TheImpl.{eq-value}
use Rattle.cls_path.specs.Groups.{Holds, AreKeyed}
use Rattle.cls_path.specs.Labels.{key_of}
use Rattle.cls_path.proofs.GroupLaws.{keyed_length, keyed_put, keyed_opened, held_put, held_opened, found_place, put_at}
use Rattle.cls_path.proofs.LabelLaws.{same_key, key_self}
use Rattle.cls_path.proofs.groups.put_in_group.Goals as goal

row_of :
    (gs : List (List TypePath)) (k : ℕ) (p : TypePath) (row inside new : List TypePath) → k < length gs
    → row ≡ slice_index_or gs k row → inside ≡ row → new ≡ inside ++ p ∷ [] → new ≡ slice_index_or gs k [] ++ p ∷ []
row_of gs k p row inside new l at view push = push ∙ ap (λ x. x ++ p ∷ []) (view ∙ (at ∙ get_or_default gs k row [] l))

pub index_mut-requires : goal.index_mut-requires
index_mut-requires g c =
    let f = key_of (g.T.Taxa.class c.args.taxa.now) c.args.mask in
    let l = found_place (eq-value.it c.of-key.result) c.args.keys.now.keys c.in-Some.place (sym c.get_index_of.ensures.index ∙ c.in-Some.is) in
    omega (arith, l.1, keyed_length f c.args.keys.now.keys c.args.groups.now.items c.requires)

pub returns-in_ok-push-in-Some-clause-keyed : goal.returns-in_ok-push-in-Some-clause-keyed
returns-in_ok-push-in-Some-clause-keyed g c =
    let f = key_of (g.T.Taxa.class c.args.taxa.now) c.args.mask in
    let ks = c.args.keys.now.keys in
    let gs = c.args.groups.now.items in
    let p = c.args.path in
    let e : c.of-key.result ≡ f p = c.of-key.ensures in
    let l = found_place (eq-value.it (f p)) ks c.in-Some.place (subst (λ (x : GroupKey). position (eq-value.it x) ks ≡ Some c.in-Some.place) e (sym c.get_index_of.ensures.index ∙ c.in-Some.is)) in
    let within : c.in-Some.place < length gs = omega (arith, l.1, keyed_length f ks gs c.requires) in
    let row = row_of gs c.in-Some.place p c.index_mut.result.now c.behind-groups.inside.paths.items c.push.new.self.items within c.index_mut.ensures.value c.behind-groups.view_is c.in_ok-push-in-Some.ensures.items in
    let put = keyed_put f eq-value.it same_key key_self ks gs p c.requires (omega (arith, l.0, l.1)) in
    subst (λ (r : List TypePath). AreKeyed f ks (slice_set gs c.in-Some.place r)) (sym row) (subst (λ k. AreKeyed f ks (put_at gs k p)) l.0 put)

pub returns-in_ok-push-in-Some-clause-held : goal.returns-in_ok-push-in-Some-clause-held
returns-in_ok-push-in-Some-clause-held g c =
    let f = key_of (g.T.Taxa.class c.args.taxa.now) c.args.mask in
    let ks = c.args.keys.now.keys in
    let gs = c.args.groups.now.items in
    let p = c.args.path in
    let l = found_place (eq-value.it c.of-key.result) ks c.in-Some.place (sym c.get_index_of.ensures.index ∙ c.in-Some.is) in
    let within : c.in-Some.place < length gs = omega (arith, l.1, keyed_length f ks gs c.requires) in
    let row = row_of gs c.in-Some.place p c.index_mut.result.now c.behind-groups.inside.paths.items c.push.new.self.items within c.index_mut.ensures.value c.behind-groups.view_is c.in_ok-push-in-Some.ensures.items in
    λ q. subst (λ (r : List TypePath). Holds (slice_set gs c.in-Some.place r) q ↔ (Holds gs q ⊎ (q ≡ p))) (sym row) (held_put gs c.in-Some.place p q within)

pub returns-in_ok-push-in-None-2-clause-keyed : goal.returns-in_ok-push-in-None-2-clause-keyed
returns-in_ok-push-in-None-2-clause-keyed g c =
    let f = key_of (g.T.Taxa.class c.args.taxa.now) c.args.mask in
    let ks = c.args.keys.now.keys in
    let gs = c.args.groups.now.items in
    let p = c.args.path in
    let e : c.of-key.result ≡ f p = c.of-key.ensures in
    let absent : list_any (eq-value.it c.of-key.result) ks ≡ false = sym c.get_index_of.ensures.found ∙ ap is_some c.in-None.is in
    let absent' : list_any (eq-value.it (f p)) ks ≡ false = subst (λ (x : GroupKey). list_any (eq-value.it x) ks ≡ false) e absent in
    let keys : c.insert.new.self.keys ≡ ks ++ f p ∷ [] = c.in_ok-insert-in-None.ensures.keys ∙ (ap (λ b. if b then ks else ks ++ c.of-key.result ∷ []) absent ∙ ap (λ (x : GroupKey). ks ++ x ∷ []) e) in
    let groups : c.push-in-None-2.new.self.items ≡ gs ++ (p ∷ []) ∷ [] = search rules in
    rw (keys, groups) (keyed_opened f eq-value.it same_key key_self ks gs p c.requires absent')

pub returns-in_ok-push-in-None-2-clause-held : goal.returns-in_ok-push-in-None-2-clause-held
returns-in_ok-push-in-None-2-clause-held g c =
    let gs = c.args.groups.now.items in
    let p = c.args.path in
    let groups : c.push-in-None-2.new.self.items ≡ gs ++ (p ∷ []) ∷ [] = search rules in
    λ q. subst (λ (x : List (List TypePath)). Holds x q ↔ (Holds gs q ⊎ (q ≡ p))) (sym groups) (held_opened gs p q)
