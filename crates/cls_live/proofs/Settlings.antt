-- Rules that are stored with slots and numbers are read back as they were.
use Rattle.std.proofs.Common.{ℕ, ◌≡◌, ◌<◌, ◌≤◌, refl, sym, ◌∙◌, subst, ap, List, [], ◌∷◌, ◌++◌, length, get_or, slice_get, arith, Bool, true, false, cond, Contains}
use Rattle.std.specs.Prelude.{◌==◌, map, Some}
use Rattle.std.proofs.lemmas.Bool.Decides.{Decides-eqb}
use Rattle.std.proofs.lemmas.List.{map-append}
use Rattle.std.proofs.lemmas.List.Elements.{Contains-append_left, Contains-append_right}
use Rattle.std.proofs.lemmas.Option.{get_or_from_slice_get, slice_get-get_or, slice_get_within}
use Rattle.cls_base.specs.declared.rule.Rule.{Rule}
use Rattle.cls_base.specs.declared.rule.Rule.TheVariants.{Head, Any}
use Rattle.cls_base.specs.Arguments.{arguments_in, map_rule}
use Rattle.cls_base.proofs.Lists.{Contains-here, Contains-later, Contains-from_map}
use Rattle.cls_core.specs.declared.answer.Answer.TheVariants.{Rules}
use Rattle.cls_library.specs.Libraries.{Library}
use Rattle.cls_expand.specs.Answers.{IsAnswer, IsAnswerBy}
use Rattle.cls_expand.specs.ByComponent.{rules_with, arguments_by}
use Rattle.cls_expand.proofs.Between.{rules_are_by_components}
use Rattle.cls_live.specs.Parts.{Goal}
use Rattle.cls_live.specs.Slots.{AreSlots, HeadsRise, IsKnown, entry_of, named, settled}
use Rattle.cls_live.proofs.Ordering.{answer_rises}
use Rattle.cls_live.proofs.Readings.{entry_is}
use Rattle.cls_live.proofs.SlotLaws.{in_order, one_component}

-- the rule with a slot and numbers
abbrev pub slotted : (ℕ → ℕ) → (Goal → ℕ) → Rule Goal → Rule ℕ
slotted f num (Head x args) = Head (f x) (map num args)
slotted f num (Any left right) = Any (num left) (num right)

module _ (f : ℕ → ℕ) (num : Goal → ℕ) where
  -- what is settled twice
  settled_once : (live numbers : List ℕ) (place : Goal → ℕ) → ((x : ℕ) → f x ≡ get_or live x 0) → (rs : List (Rule Goal))
      → ((g : Goal) → Contains (arguments_in rs) g → get_or numbers (place g) 0 ≡ num g)
      → map (settled live numbers) (map (map_rule place) rs) ≡ map (slotted f num) rs
  settled_once live numbers place e [] h = refl
  settled_once live numbers place e (Head x args ∷ rs) h =
      let rest = settled_once live numbers place e rs (λ g m. h g (Contains-append_right args (arguments_in rs) g m)) in
      let same = all_args args (λ g m. h g (Contains-append_left args (arguments_in rs) g m)) in
      λ i. Head (sym (e x) i) (same i) ∷ rest i
    where
      all_args : (gs : List Goal) → ((g : Goal) → Contains gs g → get_or numbers (place g) 0 ≡ num g)
          → map (λ i. get_or numbers i 0) (map place gs) ≡ map num gs
      all_args [] k = refl
      all_args (g ∷ gs) k = λ i. k g (Contains-here g gs) i ∷ all_args gs (λ y m. k y (Contains-later y g gs m)) i
  settled_once live numbers place e (Any left right ∷ rs) h =
      let rest = settled_once live numbers place e rs (λ g m. h g (Contains-later g left (right ∷ arguments_in rs) (Contains-later g right (arguments_in rs) m))) in
      let l = h left (Contains-here left (right ∷ arguments_in rs)) in
      let r = h right (Contains-later right left (right ∷ arguments_in rs) (Contains-here right (arguments_in rs))) in
      λ i. Any (l i) (r i) ∷ rest i

  -- the arguments of the rules of one component
  arguments_slotted :
      (low n x : ℕ) (rs : List (Rule Goal)) → HeadsRise low n rs → ((y : ℕ) → y < n → f x ≡ f y → x ≡ y)
      → arguments_by (f x) (map (slotted f num) rs) ≡ map (map num) (arguments_by x rs)
  arguments_slotted low n x [] up one = refl
  arguments_slotted low n x (Head y args ∷ rs) up one =
      by (arguments_slotted y n x rs up.2 one) (x == y) refl (f x == f y) refl
    where
      by : arguments_by (f x) (map (slotted f num) rs) ≡ map (map num) (arguments_by x rs)
          → (b : Bool) → (x == y) ≡ b → (d : Bool) → (f x == f y) ≡ d
          → cond d (map num args ∷ arguments_by (f x) (map (slotted f num) rs)) (arguments_by (f x) (map (slotted f num) rs))
          ≡ map (map num) (cond b (args ∷ arguments_by x rs) (arguments_by x rs))
      by rest true e true k = λ i. map num args ∷ rest i
      by rest false e false k = rest
      by rest true e false k =
          let same : f x ≡ f y = ap f ((Decides-eqb x y).0 e) in
          absurd (let clash : true ≡ false = sym ((Decides-eqb (f x) (f y)).1 same) ∙ k in cc)
      by rest false e true k =
          let same : x ≡ y = one y up.1 ((Decides-eqb (f x) (f y)).0 k) in
          absurd (let clash : true ≡ false = sym ((Decides-eqb x y).1 same) ∙ e in cc)
  arguments_slotted low n x (Any left right ∷ rs) up one = arguments_slotted low n x rs up one

  -- goals in place of the numbers again
  named_back :
      (goals : List Goal) (x : ℕ) (rs : List (Rule Goal)) → ((g : Goal) → Contains (arguments_in rs) g → get_or goals (num g) [] ≡ g)
      → map (named goals) (map (map num) (arguments_by x rs)) ≡ arguments_by x rs
  named_back goals x [] h = refl
  named_back goals x (Head y args ∷ rs) h =
      by (named_back goals x rs (λ g m. h g (Contains-append_right args (arguments_in rs) g m))) (x == y)
    where
      back : (gs : List Goal) → ((g : Goal) → Contains gs g → get_or goals (num g) [] ≡ g) → named goals (map num gs) ≡ gs
      back [] k = refl
      back (g ∷ gs) k = λ i. k g (Contains-here g gs) i ∷ back gs (λ z m. k z (Contains-later z g gs m)) i

      by : map (named goals) (map (map num) (arguments_by x rs)) ≡ arguments_by x rs → (b : Bool)
          → map (named goals) (map (map num) (cond b (args ∷ arguments_by x rs) (arguments_by x rs)))
          ≡ cond b (args ∷ arguments_by x rs) (arguments_by x rs)
      by rest true = λ i. back args (λ g m. h g (Contains-append_left args (arguments_in rs) g m)) i ∷ rest i
      by rest false = rest
  named_back goals x (Any left right ∷ rs) h =
      named_back goals x rs (λ g m. h g (Contains-later g left (right ∷ arguments_in rs) (Contains-later g right (arguments_in rs) m)))

  -- the slots rise as the components do
  rise_slotted :
      (low n from end : ℕ) (rs : List (Rule Goal)) → HeadsRise low n rs → ((y : ℕ) → low ≤ y → y < n → from ≤ f y)
      → ((y z : ℕ) → y ≤ z → z < n → f y ≤ f z) → ((y : ℕ) → y < n → f y < end) → HeadsRise from end (map (slotted f num) rs)
  rise_slotted low n from end [] up least order below = tt
  rise_slotted low n from end (Head x args ∷ rs) up least order below = (
    least x up.0 up.1,
    below x up.1,
    rise_slotted x n (f x) end rs up.2 (λ y le m. order x y le m) order below,
  )
  rise_slotted low n from end (Any left right ∷ rs) up least order below = rise_slotted low n from end rs up least order below

  arguments_num : (rs : List (Rule Goal)) → arguments_in (map (slotted f num) rs) ≡ map num (arguments_in rs)
  arguments_num [] = refl
  arguments_num (Head x args ∷ rs) =
      ap (λ (ns : List ℕ). map num args ++ ns) (arguments_num rs) ∙ sym (map-append num args (arguments_in rs))
  arguments_num (Any left right ∷ rs) = ap (λ (ns : List ℕ). num left ∷ num right ∷ ns) (arguments_num rs)

-- the slot of a component, and the later number of a goal
abbrev slot_at : List ℕ → ℕ → ℕ
slot_at live x = get_or live x 0

abbrev number_in : List ℕ → (Goal → ℕ) → Goal → ℕ
number_in numbers place g = get_or numbers (place g) 0

-- What is stored of an answer is right: `place` is the number of each argument in the answer, and `numbers` the later number of each.
module _ (l : Library) (live : List ℕ) (next : ℕ) (goals : List Goal) (goal : Goal) (rs : List (Rule Goal)) (place : Goal → ℕ) (numbers : List ℕ)
    (slots : AreSlots l live next) (h : IsAnswer l goal (Rules rs))
    (inside : (g : Goal) → Contains (arguments_in rs) g → get_or numbers (place g) 0 < length goals)
    (back : (g : Goal) → Contains (arguments_in rs) g → get_or goals (get_or numbers (place g) 0) [] ≡ g) where
  abbrev stored : List (Rule ℕ)
  stored = map (slotted (slot_at live) (number_in numbers place)) rs

  up : HeadsRise 0 (length l.components) rs
  up = answer_rises l goal rs h

  one : (x slot y : ℕ) → slice_get live x ≡ Some slot → y < length l.components → get_or live x 0 ≡ get_or live y 0 → x ≡ y
  one x slot y there m e =
      let count : length live ≡ length l.components = slots.even in
      let other = slice_get-get_or live y 0 (omega arith) in
      let same : get_or live y 0 ≡ slot = sym e ∙ get_or_from_slice_get live x slot 0 there in
      one_component live x y slot slots.rising there (other ∙ ap Some same)

  meant :
      (x slot : ℕ) (lists : List (List Goal)) → slice_get live x ≡ Some slot → entry_of goals (record { end = next; rules = stored }) slot ≡ Some lists
      → IsAnswerBy l x goal (Rules (rules_with x lists))
  meant x slot lists there known =
      let count : length live ≡ length l.components = slots.even in
      let within = slice_get_within live x slot there in
      let entry = entry_is goals (record { end = next; rules = stored }) slot lists known in
      let here = get_or_from_slice_get live x slot 0 there in
      let slotted_is = arguments_slotted (slot_at live) (number_in numbers place) 0 (length l.components) x rs up (λ y m e. one x slot y there m e) in
      let same : arguments_by x rs ≡ lists =
      sym (named_back (slot_at live) (number_in numbers place) goals x rs back)
      ∙ (ap (map (named goals)) (sym slotted_is)
      ∙ (ap (λ (n : ℕ). map (named goals) (arguments_by n stored)) here ∙ entry.1)) in
      subst (λ (lists : List (List Goal)). IsAnswerBy l x goal (Rules (rules_with x lists))) same (rules_are_by_components l goal rs h x (omega arith))

  order : (y z : ℕ) → y ≤ z → z < length l.components → get_or live y 0 ≤ get_or live z 0
  order y z le m = let count : length live ≡ length l.components = slots.even in in_order 0 live slots.rising y z le (omega arith)

  below : (y : ℕ) → y < length l.components → get_or live y 0 < next
  below y m =
      let count : length live ≡ length l.components = slots.even in
      slots.below y (get_or live y 0) (slice_get-get_or live y 0 (omega arith))

  among : (i : ℕ) → Contains (arguments_in stored) i → i < length goals
  among i m =
      let num = number_in numbers place in
      let u = Contains-from_map num (arguments_in rs) i (subst (λ (ns : List ℕ). Contains ns i) (arguments_num (slot_at live) num rs) m) in
      subst (λ n. n < length goals) (sym u.2) (inside u.0 u.1)

  stored_known : IsKnown l live next goals goal (record { end = next; rules = stored })
  stored_known = record {
    within = omega arith;
    rise = rise_slotted (slot_at live) (number_in numbers place) 0 (length l.components) 0 next rs up (λ y le m. omega arith) order below;
    inside = among;
    meant = meant;
  }

  pub settled_known : IsKnown l live next goals goal (record { end = next; rules = map (settled live numbers) (map (map_rule place) rs) })
  settled_known =
      let once = settled_once (slot_at live) (number_in numbers place) live numbers place (λ x. refl) rs (λ g m. refl) in
      subst (λ (qs : List (Rule ℕ)). IsKnown l live next goals goal (record { end = next; rules = qs })) (sym once) stored_known
