-- Going over the instances, one by one.
use Rattle.std.proofs.Common.{◌≡◌, ℕ, ◌+◌, ◌<◌, ◌≤◌, true, false, List, [], ◌∷◌, length, drop, get_or, Option, None, Some, Result, Ok, Err, refl, ap, ◌∙◌, arith}
use Rattle.std.specs.Prelude.{⊤}
use Rattle.std.specs.Result.{is_ok}
use Rattle.std.specs.Iterator.{MakesProgress, item_count}
use Rattle.std.proofs.lemmas.List.{length-map, get_or-map, drop_more, drop_all}
use Rattle.cls_base.specs.declared.ty.Ty.{Ty}
use Rattle.cls_base.specs.Types.{ClosedType}
use Rattle.cls_base.specs.Schemas.{OpenType}
use Rattle.cls_kind.specs.declared.fault.KindFault.{KindFault}
use Rattle.cls_kind.specs.Faults.{TakesFirst, left_after}
use Rattle.cls_kind.specs.Instances.{instance_of, type_for, choices_from, count_of, instances_from}
use Rattle.cls_kind.proofs.ChoiceLaws.{choices-length}

-- each step leaves fewer instances
pub steps-progress : (left : List ClosedType) (answer : Option (Result Ty KindFault)) (left' : List ClosedType) → TakesFirst left answer left' → MakesProgress (λ _. ⊤) (item_count (λ (l : List ClosedType). l)) left answer left'
steps-progress left None left' h = record { on = λ f. tt; keeps = tt; rests = λ f. f }
steps-progress left (Some (Ok ty)) left' h = record {
  on = λ f. (tt, f, (let a = ap length h.2 in let b = ap length h.4 in omega arith));
  keeps = tt;
  rests = λ f. tt;
}
steps-progress left (Some (Err fault)) left' h = record {
  on = λ f. (tt, f, (let a = ap length h.2 in let b = ap length h.4 in omega arith));
  keeps = tt;
  rests = λ f. tt;
}

module _ (rs : List (ℕ × List ClosedType)) (s : OpenType) where
  all-length : length (instances_from rs s) ≡ count_of rs
  all-length = length-map (choices_from rs) (λ c. instance_of (type_for c) s) ∙ choices-length rs

  pub none-left : (i count : ℕ) → count ≡ count_of rs → count ≤ i → drop i (instances_from rs s) ≡ []
  none-left i count e l = drop_all i (instances_from rs s) (let f = all-length in omega arith)

  pub first-left : (i count : ℕ) → count ≡ count_of rs → i < count → drop i (instances_from rs s) ≡ instance_of (type_for (get_or (choices_from rs) i [])) s ∷ drop (i + 1) (instances_from rs s)
  first-left i count e l =
      let f : List (ℕ × ClosedType) → ClosedType = λ c. instance_of (type_for c) s in
      let at : i < length (instances_from rs s) = (let g = all-length in omega arith) in
      let d = f [] in
      drop_more (instances_from rs s) i d at ∙ ap (λ t. t ∷ drop (i + 1) (instances_from rs s)) (get_or-map f (choices_from rs) i [] d (let g = choices-length rs in omega arith))

  -- where the iterator stands after an answer
  pub stands : (i j count : ℕ) (answer : Result Ty KindFault) → count ≡ count_of rs → i < count → (is_ok answer ≡ true → j ≡ i + 1) → (is_ok answer ≡ false → j ≡ count) → drop j (instances_from rs s) ≡ left_after (drop (i + 1) (instances_from rs s)) answer
  stands i j count (Ok ty) e l f g = ap (λ n. drop n (instances_from rs s)) (f refl)
  stands i j count (Err fault) e l f g = ap (λ n. drop n (instances_from rs s)) (g refl) ∙ none-left count count e (omega arith)
