-- What is known stays known once a component was added or taken out.
use Rattle.std.proofs.Common.{ℕ, zero, suc, ◌≡◌, ◌+◌, ◌<◌, ◌≤◌, refl, sym, ◌∙◌, subst, ap, ◌⊎◌, inl, inr, List, [], ◌∷◌, ◌++◌, None, Some, length, get_or, slice_get, arith, length-append}
use Rattle.std.specs.Prelude.{map, remove}
use Rattle.std.specs.List.{AllZip}
use Rattle.std.proofs.lemmas.List.{map-append, get_or_append_left}
use Rattle.std.proofs.lemmas.List.Edits.{get_or-remove_below, length-remove}
use Rattle.std.proofs.lemmas.Option.{slice_get_within}
use Rattle.indexmap.proofs.SetLemmas.{map-remove}
use Rattle.cls_core.specs.declared.answer.Answer.TheVariants.{Rules}
use Rattle.cls_library.specs.Libraries.{Component, Library, no_component}
use Rattle.cls_expand.specs.Answers.{IsAnswerBy}
use Rattle.cls_expand.specs.ByComponent.{rules_with}
use Rattle.cls_expand.proofs.Following.{answers_follow_paths}
use Rattle.cls_live.specs.declared.known.Known.{Known}
use Rattle.cls_live.specs.Parts.{Goal, Entry, with_component, without_component}
use Rattle.cls_live.specs.Slots.{AreSlots, IsKnown, IsStored, entry_of, rules_in, seen}
use Rattle.cls_live.proofs.Readings.{entry_unknown}
use Rattle.cls_live.proofs.SlotLaws.{get_front, get_without, slots_with, slots_without}

or_after : {A : Type 0} (xs : List A) (x i : ℕ) (d : A) → x ≤ i → x < length xs → get_or (remove xs x) i d ≡ get_or xs (suc i) d
or_after [] x i d m k = absurd (omega arith)
or_after (y ∷ xs) zero i d m k = refl
or_after (y ∷ xs) (suc x) zero d m k = absurd (omega arith)
or_after (y ∷ xs) (suc x) (suc i) d m k = or_after xs x i d (omega arith) (omega arith)

-- what a component makes, it makes in the other library under its number there
follows :
    (l m : Library) (x y : ℕ) (goal : Goal) (lists : List (List Goal)) → l.taxonomy ≡ m.taxonomy → x < length l.components → y < length m.components
    → get_or l.components x no_component ≡ get_or m.components y no_component → IsAnswerBy l x goal (Rules (rules_with x lists))
    → IsAnswerBy m y goal (Rules (rules_with y lists))
follows l m x y goal lists names here there same h =
    ((answers_follow_paths l m x y goal names here there (ap (λ (c : Component). c.paths) same)).0 lists).0 h

remove_last : {A : Type 0} (xs : List A) (y : A) → remove (xs ++ y ∷ []) (length xs) ≡ xs
remove_last [] y = refl
remove_last (x ∷ xs) y = ap (λ l. x ∷ l) (remove_last xs y)

-- a component that was added is taken out again
pub undone :
    (old new : Library) (c : Component) (n : ℕ) → new ≡ record { taxonomy = old.taxonomy; components = old.components ++ c ∷ [] }
    → n ≡ length old.components → record { taxonomy = new.taxonomy; components = remove new.components n } ≡ old
undone old new c n e is =
    ap (λ (l : Library). record { taxonomy = l.taxonomy; components = remove l.components n }) e
    ∙ (ap (λ (m : ℕ). record { taxonomy = old.taxonomy; components = remove (old.components ++ c ∷ []) m }) is
    ∙ ap (λ (cs : List Component). record { taxonomy = old.taxonomy; components = cs }) (remove_last old.components c))

-- a component was added
module _ (l m : Library) (live : List ℕ) (next : ℕ) (c : Component) (names : l.taxonomy ≡ m.taxonomy) (longer : m.components ≡ l.components ++ c ∷ []) (slots : AreSlots l live next) where
  count_with : length m.components ≡ length l.components + 1
  count_with =
      let count = ap (λ (cs : List Component). length cs) longer in
      let more = length-append l.components (c ∷ []) in
      omega arith

  known_with : (goals : List Goal) (goal : Goal) (k : Known) → IsKnown l live next goals goal k → IsKnown m (live ++ next ∷ []) (next + 1) goals goal k
  known_with goals goal k h = record {
    within = let w : k.end ≤ next = h.within in omega arith;
    rise = h.rise;
    inside = h.inside;
    meant = λ x slot lists there known. by x slot lists known (get_front live next x slot there);
  }
    where
      by : (x slot : ℕ) (lists : List (List Goal)) → entry_of goals k slot ≡ Some lists
          → ((x < length live) × (slice_get live x ≡ Some slot)) ⊎ ((x ≡ length live) × (next ≡ slot))
          → IsAnswerBy m x goal (Rules (rules_with x lists))
      by x slot lists known (inl u) =
          let even : length live ≡ length l.components = slots.even in
          let less = u.0 in
          let count = count_with in
          let here : x < length l.components = omega arith in
          let same = ap (λ (cs : List Component). get_or cs x no_component) longer ∙ get_or_append_left l.components (c ∷ []) no_component x here in
          follows l m x x goal lists names here (omega arith) (sym same) (h.meant x slot lists u.1 known)
      by x slot lists known (inr u) =
          let end : k.end ≤ next = h.within in
          let same : next ≡ slot = u.1 in
          let none = entry_unknown goals k slot (omega arith) in
          absurd (let clash : ◌≡◌ {A = Entry} None (Some lists) = sym none ∙ known in cc)

  all_with : (all : List Goal) (goals : List Goal) (known : List Known) → AllZip (IsKnown l live next all) goals known → AllZip (IsKnown m (live ++ next ∷ []) (next + 1) all) goals known
  all_with all [] [] z = tt
  all_with all [] (k ∷ known) z = absurd z
  all_with all (g ∷ goals) [] z = absurd z
  all_with all (g ∷ goals) (k ∷ known) z = (known_with all g k z.0, all_with all goals known z.1)

  -- each goal has an entry more, which isn't known
  entries_with : (all : List Goal) (goals : List Goal) (known : List Known) → AllZip (IsKnown l live next all) goals known
      → map (λ (k : Known). map (entry_of all k) (live ++ next ∷ [])) known
      ≡ map (λ (es : List Entry). es ++ None ∷ []) (map (λ (k : Known). map (entry_of all k) live) known)
  entries_with all [] [] z = refl
  entries_with all [] (k ∷ known) z = absurd z
  entries_with all (g ∷ goals) [] z = absurd z
  entries_with all (g ∷ goals) (k ∷ known) z =
      let one = map-append (entry_of all k) live (next ∷ []) ∙ ap (λ (e : Entry). map (entry_of all k) live ++ e ∷ []) (entry_unknown all k next z.0.within) in
      λ i. one i ∷ entries_with all goals known z.1 i

-- what is stored once a component was added, and what is seen of it
module _ (c : Component) {l m : Library} {live : List ℕ} {next count : ℕ} {goals : List Goal} {known : List Known}
    (e : m ≡ record { taxonomy = l.taxonomy; components = l.components ++ c ∷ [] }) (h : IsStored l live next count goals known) where
  names : l.taxonomy ≡ m.taxonomy
  names = sym (ap (λ (k : Library). k.taxonomy) e)

  longer : m.components ≡ l.components ++ c ∷ []
  longer = ap (λ (k : Library). k.components) e

  -- the first of goals shows that there are slots
  slots_by : (g : Goal) (rest : List Goal) → goals ≡ g ∷ rest → AreSlots l live next
  slots_by g rest first = h.slots (subst (λ (gs : List Goal). 0 < length gs) (sym first) (omega arith))

  pub stored_with : (n : ℕ) → n ≡ length m.components → IsStored m (live ++ next ∷ []) (next + 1) n goals known
  stored_with n is = record {
    counted = is;
    slots = λ some. slots_with l m live next c longer (h.slots some);
    each = by goals known h.each slots_by;
    few = h.few;
    light = h.light;
  }
    where
      by : (gs : List Goal) (ks : List Known) → AllZip (IsKnown l live next goals) gs ks
          → ((g : Goal) (rest : List Goal) → gs ≡ g ∷ rest → AreSlots l live next) → AllZip (IsKnown m (live ++ next ∷ []) (next + 1) goals) gs ks
      by [] [] z f = tt
      by [] (k ∷ ks) z f = absurd z
      by (g ∷ gs) [] z f = absurd z
      by (g ∷ gs) (k ∷ ks) z f = all_with l m live next c names longer (f g gs refl) goals (g ∷ gs) (k ∷ ks) z

  pub seen_with : seen m (live ++ next ∷ []) goals known ≡ with_component (seen l live goals known) m
  seen_with =
      ap (λ (es : List (List Entry)). record { library = m; goals = goals; entries = es; rules = rules_in known }) (by goals known h.each slots_by)
    where
      by : (gs : List Goal) (ks : List Known) → AllZip (IsKnown l live next goals) gs ks
          → ((g : Goal) (rest : List Goal) → gs ≡ g ∷ rest → AreSlots l live next)
          → map (λ (k : Known). map (entry_of goals k) (live ++ next ∷ [])) ks
          ≡ map (λ (es : List Entry). es ++ None ∷ []) (map (λ (k : Known). map (entry_of goals k) live) ks)
      by [] [] z f = refl
      by [] (k ∷ ks) z f = absurd z
      by (g ∷ gs) [] z f = absurd z
      by (g ∷ gs) (k ∷ ks) z f = entries_with l m live next c names longer (f g gs refl) goals (g ∷ gs) (k ∷ ks) z

-- a component was taken out
module _ (l m : Library) (live : List ℕ) (next x : ℕ) (names : l.taxonomy ≡ m.taxonomy) (shorter : m.components ≡ remove l.components x) (declared : x < length l.components) (slots : AreSlots l live next) where
  within : x < length live
  within = let even : length live ≡ length l.components = slots.even in omega arith

  known_without : (goals : List Goal) (goal : Goal) (k : Known) → IsKnown l live next goals goal k → IsKnown m (remove live x) next goals goal k
  known_without goals goal k h = record {
    within = h.within;
    rise = h.rise;
    inside = h.inside;
    meant = λ y slot lists there known. by y slot lists there known (get_without live x y slot within there);
  }
    where
      by : (y slot : ℕ) (lists : List (List Goal)) → slice_get (remove live x) y ≡ Some slot → entry_of goals k slot ≡ Some lists
          → ((y < x) × (slice_get live y ≡ Some slot)) ⊎ ((x ≤ y) × (slice_get live (suc y) ≡ Some slot))
          → IsAnswerBy m y goal (Rules (rules_with y lists))
      by y slot lists there known (inl u) =
          let less = u.0 in
          let fewer = length-remove l.components x declared in
          let count = ap (λ (cs : List Component). length cs) shorter in
          let same = ap (λ (cs : List Component). get_or cs y no_component) shorter ∙ get_or-remove_below l.components x no_component y less declared in
          follows l m y y goal lists names (omega arith) (omega arith) (sym same) (h.meant y slot lists u.1 known)
      by y slot lists there known (inr u) =
          let even : length live ≡ length l.components = slots.even in
          let here = slice_get_within live (suc y) slot u.1 in
          let fewer = length-remove l.components x declared in
          let count = ap (λ (cs : List Component). length cs) shorter in
          let same = ap (λ (cs : List Component). get_or cs y no_component) shorter ∙ or_after l.components x y no_component u.0 declared in
          follows l m (suc y) y goal lists names (omega arith) (omega arith) (sym same) (h.meant (suc y) slot lists u.1 known)

  all_without : (all : List Goal) (goals : List Goal) (known : List Known) → AllZip (IsKnown l live next all) goals known
      → AllZip (IsKnown m (remove live x) next all) goals known
      × (map (λ (k : Known). map (entry_of all k) (remove live x)) known
      ≡ map (λ (es : List Entry). remove es x) (map (λ (k : Known). map (entry_of all k) live) known))
  all_without all [] [] z = (tt, refl)
  all_without all [] (k ∷ known) z = absurd z
  all_without all (g ∷ goals) [] z = absurd z
  all_without all (g ∷ goals) (k ∷ known) z =
      let rest = all_without all goals known z.1 in
      ((known_without all g k z.0, rest.0), (λ i. map-remove (entry_of all k) live x i ∷ rest.1 i))

-- What is stored once a component was taken out, and what is seen of it. `left` is what is left of the slots, if they say something.
module _ {l m : Library} {live left : List ℕ} {next count x : ℕ} {goals : List Goal} {known : List Known}
    (e : m ≡ record { taxonomy = l.taxonomy; components = remove l.components x }) (declared : x < length l.components)
    (out : x < length live → left ≡ remove live x) (h : IsStored l live next count goals known) where
  names_left : l.taxonomy ≡ m.taxonomy
  names_left = sym (ap (λ (k : Library). k.taxonomy) e)

  shorter : m.components ≡ remove l.components x
  shorter = ap (λ (k : Library). k.components) e

  left_is : AreSlots l live next → left ≡ remove live x
  left_is slots = out (let even : length live ≡ length l.components = slots.even in omega arith)

  both : (gs : List Goal) (ks : List Known) → AllZip (IsKnown l live next goals) gs ks → ((g : Goal) (rest : List Goal) → gs ≡ g ∷ rest → AreSlots l live next)
      → AllZip (IsKnown m left next goals) gs ks
      × (map (λ (k : Known). map (entry_of goals k) left) ks ≡ map (λ (es : List Entry). remove es x) (map (λ (k : Known). map (entry_of goals k) live) ks))
  both [] [] z f = (tt, refl)
  both [] (k ∷ ks) z f = absurd z
  both (g ∷ gs) [] z f = absurd z
  both (g ∷ gs) (k ∷ ks) z f =
      let slots = f g gs refl in
      subst (λ (rest : List ℕ). AllZip (IsKnown m rest next goals) (g ∷ gs) (k ∷ ks)
      × (map (λ (k : Known). map (entry_of goals k) rest) (k ∷ ks)
      ≡ map (λ (es : List Entry). remove es x) (map (λ (k : Known). map (entry_of goals k) live) (k ∷ ks))))
      (sym (left_is slots)) (all_without l m live next x names_left shorter declared slots goals (g ∷ gs) (k ∷ ks) z)

  all : AllZip (IsKnown m left next goals) goals known
      × (map (λ (k : Known). map (entry_of goals k) left) known ≡ map (λ (es : List Entry). remove es x) (map (λ (k : Known). map (entry_of goals k) live) known))
  all = both goals known h.each (λ g rest e. h.slots (subst (λ (gs : List Goal). 0 < length gs) (sym e) (omega arith)))

  pub stored_without : (n : ℕ) → n ≡ length m.components → IsStored m left next n goals known
  stored_without n is = record {
    counted = is;
    slots = λ some.
        let slots = h.slots some in
        subst (λ (rest : List ℕ). AreSlots m rest next) (sym (left_is slots)) (slots_without l m live next x declared shorter slots);
    each = all.0;
    few = h.few;
    light = h.light;
  }

  pub seen_without : seen m left goals known ≡ without_component (seen l live goals known) x
  seen_without = λ i. record { library = e i; goals = goals; entries = all.1 i; rules = rules_in known }
