-- What is stored once rows are kept: alone, or behind what there was.
use Rattle.std.proofs.Common.{ℕ, ◌≡◌, ◌+◌, ◌<◌, ◌≤◌, refl, sym, ◌∙◌, subst, ap, List, [], ◌∷◌, ◌++◌, length, replicate, slice_get, Some, arith, Contains, Bool, true, false, IsTrue, length-append, Result, Ok, Err}
use Rattle.std.specs.Prelude.{◌↔◌, OnOk}
use Rattle.std.specs.List.{AllZip, sum_by}
use Rattle.indexmap.specs.IndexSet.{insert_all}
use Rattle.cls_base.proofs.Lists.{take_whole}
use Rattle.cls_path.specs.OrderLaws.{list_equal, list_same}
use Rattle.cls_core.specs.Arguments.{rule_count}
use Rattle.cls_core.specs.Closure.{goals_of}
use Rattle.cls_core.specs.Numbers.{numbers_from}
use Rattle.cls_core.specs.Rows.{Row}
use Rattle.cls_core.proofs.Insertion.{all-again}
use Rattle.cls_core.proofs.Members.{all-contains}
use Rattle.cls_library.specs.Libraries.{Library}
use Rattle.cls_expand.specs.Memos.{FitMemo, HasGoalsOf}
use Rattle.cls_expand.proofs.Adding.{goals-count}
use Rattle.cls_expand.proofs.Keeping.{all-at-most}
use Rattle.cls_live.specs.declared.known.Known.{Known}
use Rattle.cls_live.specs.declared.known.Part.{Part}
use Rattle.cls_live.specs.Parts.{Goal, PartsSeen, same, AreAnswered, HasRoomFor, KnowsRows, StaysKnown}
use Rattle.cls_live.specs.Slots.{AreSlots, IsKnown, IsStored, first_slots, nothing, rules_in, seen}
use Rattle.cls_live.specs.Updates.{AreUpdates, rules_in_parts, with_parts}
use Rattle.cls_live.proofs.Keeping.{now_known, now_knows, now_light, now_stays, part_within}
use Rattle.cls_live.proofs.SlotLaws.{first_are_slots}

pub on_ok_always : {T E : Type 0} (r : Result T E) {P : Type 0} → P → OnOk r P
on_ok_always (Ok t) p = p
on_ok_always (Err e) p = tt

-- the rules of the parts are no more than those of the rows
pub parts_light :
    (live : List ℕ) (next : ℕ) (ks : List Known) (rows : List (Row Goal)) (numbers : List ℕ) (parts : List Part)
    → AreUpdates live next ks rows numbers (length rows) parts → rules_in_parts parts ≤ sum_by (λ (r : Row Goal). rule_count r.answer) rows
parts_light live next ks rows numbers parts u =
    subst (λ (qs : List (Row Goal)). rules_in_parts parts ≤ sum_by (λ (r : Row Goal). rule_count r.answer) qs) (take_whole rows (length rows) (omega arith)) u.light

-- the goals of rows are among those that they are put behind
pub rows_held : (gs goals : List Goal) (rows : List (Row Goal)) → goals ≡ insert_all same gs (goals_of rows) → HasGoalsOf rows goals
rows_held gs goals rows e g m =
    subst (λ (l : List Goal). Contains l g) (sym e) (all-contains same list_same list_equal.refl gs (goals_of rows) g m)

-- there is no room beside what there is
pub no_room :
    (p : PartsSeen) (gs added : List Goal) (ks : List Known) (rows : List (Row Goal)) (parts : List Part) → p.goals ≡ gs → p.rules ≡ rules_in ks
    → gs ++ added ≡ insert_all same gs (goals_of rows) → rules_in_parts parts ≤ sum_by (λ (r : Row Goal). rule_count r.answer) rows
    → ((length gs + length added ≤ 20000) × (rules_in ks + rules_in_parts parts ≤ 1000000) → ⊥) → HasRoomFor p rows → ⊥
no_room p gs added ks rows parts goals rules whole light full room =
    let few = subst (λ (l : List Goal). length (insert_all same l (goals_of rows)) ≤ 20000) goals room.0 in
    let more : p.rules + sum_by (λ (r : Row Goal). rule_count r.answer) rows ≤ 1000000 = room.1 in
    let count = ap (λ (l : List Goal). length l) whole in
    let both = length-append gs added in
    full (omega arith, omega arith)

-- the answer that there is no room
pub not_fitting :
    (gs added : List Goal) (ks shown : List Known) (parts : List Part) (b : Bool) → shown ≡ ks
    → IsTrue b ↔ ((length gs + length added ≤ 20000) × (rules_in shown + rules_in_parts parts ≤ 1000000)) → b ≡ false
    → (length gs + length added ≤ 20000) × (rules_in ks + rules_in_parts parts ≤ 1000000) → ⊥
not_fitting gs added ks shown parts b is h untrue room =
    let here = subst (λ (us : List Known). (length gs + length added ≤ 20000) × (rules_in us + rules_in_parts parts ≤ 1000000)) (sym is) room in
    let yes : b ≡ true = h.1 here in
    let clash : true ≡ false = sym yes ∙ untrue in
    cc

-- of no goal nothing is known
pub knows_none : (p q : PartsSeen) → p.goals ≡ [] → StaysKnown p q
knows_none p q e g x old =
    let none = ap (λ (l : List Goal). slice_get l old.number) (sym e) ∙ old.goal in
    absurd (nothing_at old.number g none)
  where
    nothing_at : (n : ℕ) (g : Goal) → slice_get (let none : List Goal = [] in none) n ≡ Some g → ⊥
    nothing_at n g f = cc

-- whether there are goals
pub no_goals : (gs : List Goal) → length gs ≡ 0 → gs ≡ []
no_goals [] e = refl
no_goals (g ∷ gs) e = absurd (omega arith)

pub some_goals : (gs : List Goal) (b : Bool) → IsTrue b ↔ (length gs ≡ 0) → b ≡ false → 0 < length gs
some_goals [] b h e = absurd (let t : b ≡ true = h.1 refl in let clash : true ≡ false = sym t ∙ e in cc)
some_goals (g ∷ gs) b h e = omega arith

-- the parts, by slices that show what is stored
pub updates_of :
    (live shown : List ℕ) (next : ℕ) (ks given : List Known) (rows : List (Row Goal)) (numbers : List ℕ) (n : ℕ) (parts : List Part) → shown ≡ live
    → given ≡ ks → AreUpdates shown next given rows numbers n parts → AreUpdates live next ks rows numbers n parts
updates_of live shown next ks given rows numbers n parts e f u =
    subst (λ (ns : List ℕ). AreUpdates ns next ks rows numbers n parts) e
    (subst (λ (us : List Known). AreUpdates shown next us rows numbers n parts) f u)

-- the parts of rows that are put alone, and the goals that they are put at
pub record IsBegun (l : Library) (live : List ℕ) (count : ℕ) (none added : List Goal) (rows : List (Row Goal)) (blanks : List Known) (parts : List Part) : Type 0 where
  pub slots_are : live ≡ first_slots count
  pub counted : count ≡ length l.components
  pub empty : none ≡ []
  pub answered : AreAnswered l rows
  pub whole : none ++ added ≡ insert_all same none (goals_of rows)
  pub blank : blanks ≡ replicate (length added) nothing
  pub updates : AreUpdates live count [] rows (numbers_from same none (goals_of rows)) (length rows) parts

module _ {l : Library} {live : List ℕ} {count : ℕ} {none added : List Goal} {rows : List (Row Goal)} {blanks : List Known} {parts : List Part}
    (h : IsBegun l live count none added rows blanks parts) where
  slots : AreSlots l live count
  slots = subst (λ (ns : List ℕ). AreSlots l ns count) (sym h.slots_are) (first_are_slots l count h.counted)

  zip : AllZip (IsKnown l live count none) none []
  zip = subst (λ (gs : List Goal). AllZip (IsKnown l live count gs) gs []) (sym h.empty) tt

  pub begun_within : (v : Part) → Contains parts v → v.number < length blanks
  begun_within v m =
      subst (λ (ks : List Known). v.number < length ks) (sym h.blank)
      (part_within l live count none [] rows slots zip h.answered added parts h.whole h.updates v m)

  pub begun_goals : added ≡ insert_all same [] (goals_of rows)
  begun_goals = subst (λ (gs : List Goal). gs ++ added ≡ insert_all same gs (goals_of rows)) h.empty h.whole

  all_are : insert_all same none (goals_of rows) ≡ added
  all_are = ap (λ (gs : List Goal). insert_all same gs (goals_of rows)) h.empty ∙ sym begun_goals

  module _ (known : List Known) (put : known ≡ with_parts blanks parts) where
    now_is : known ≡ with_parts ([] ++ replicate (length added) nothing) parts
    now_is = put ∙ ap (λ (ks : List Known). with_parts ks parts) h.blank

    pub begun_stored : FitMemo rows → IsStored l live count count added known
    begun_stored fit = record {
      counted = h.counted;
      slots = λ some. slots;
      each =
          subst (λ (ks : List Known). AllZip (IsKnown l live count added) added ks) (sym now_is)
          (subst (λ (gs : List Goal). AllZip (IsKnown l live count gs) gs (with_parts ([] ++ replicate (length added) nothing) parts)) all_are
          (now_known l live count none [] rows slots zip h.answered added parts h.whole h.updates));
      few =
          let most = all-at-most same [] (goals_of rows) in
          let same_count = ap (λ (gs : List Goal). length gs) begun_goals in
          let goals = goals-count rows in
          let few : length rows ≤ 20000 = fit.0 in
          omega arith;
      light =
          let light = now_light l live count none [] rows slots zip h.answered added parts h.whole h.updates in
          let part = parts_light live count [] rows (numbers_from same none (goals_of rows)) parts h.updates in
          let few : sum_by (λ (r : Row Goal). rule_count r.answer) rows ≤ 1000000 = fit.1 in
          subst (λ (ks : List Known). rules_in ks ≤ 1000000) (sym now_is) (omega arith);
    }

    pub begun_knows : KnowsRows (seen l live added known) rows
    begun_knows =
        subst (λ (ks : List Known). KnowsRows (seen l live added ks) rows) (sym now_is)
        (subst (λ (gs : List Goal). KnowsRows (seen l live gs (with_parts ([] ++ replicate (length added) nothing) parts)) rows) all_are
        (now_knows l live count none [] rows slots zip h.answered added parts h.whole h.updates))

-- the parts of rows that are put behind what there was, and the goals that they are put at
pub record IsKept (l : Library) (live : List ℕ) (next count : ℕ) (gs : List Goal) (ks : List Known) (rows : List (Row Goal)) (added : List Goal)
    (blanks : List Known) (parts : List Part) (goals : List Goal) (appended : List Known) : Type 0 where
  pub stored : IsStored l live next count gs ks
  pub some : 0 < length gs
  pub answered : AreAnswered l rows
  pub whole : gs ++ added ≡ insert_all same gs (goals_of rows)
  pub blank : blanks ≡ replicate (length added) nothing
  pub updates : AreUpdates live next ks rows (numbers_from same gs (goals_of rows)) (length rows) parts
  pub more : goals ≡ insert_all same gs added
  pub behind : appended ≡ ks ++ blanks

module _ {l : Library} {live : List ℕ} {next count : ℕ} {gs : List Goal} {ks : List Known} {rows : List (Row Goal)} {added : List Goal}
    {blanks : List Known} {parts : List Part} {goals : List Goal} {appended : List Known}
    (h : IsKept l live next count gs ks rows added blanks parts goals appended) where
  had_slots : AreSlots l live next
  had_slots = h.stored.slots h.some

  blanks_are : appended ≡ ks ++ replicate (length added) nothing
  blanks_are = h.behind ∙ ap (λ (bs : List Known). ks ++ bs) h.blank

  pub kept_within : (v : Part) → Contains parts v → v.number < length appended
  kept_within v m =
      subst (λ (us : List Known). v.number < length us) (sym blanks_are)
      (part_within l live next gs ks rows had_slots h.stored.each h.answered added parts h.whole h.updates v m)

  pub kept_goals : goals ≡ insert_all same gs (goals_of rows)
  kept_goals = h.more ∙ all-again same gs added (goals_of rows) h.whole

  module _ (known : List Known) (put : known ≡ with_parts appended parts) where
    known_is : known ≡ with_parts (ks ++ replicate (length added) nothing) parts
    known_is = put ∙ ap (λ (us : List Known). with_parts us parts) blanks_are

    pub kept_stored : (length gs + length added ≤ 20000) × (rules_in ks + rules_in_parts parts ≤ 1000000) → IsStored l live next count goals known
    kept_stored room = record {
      counted = h.stored.counted;
      slots = λ m. had_slots;
      each =
          subst (λ (us : List Known). AllZip (IsKnown l live next goals) goals us) (sym known_is)
          (subst (λ (qs : List Goal). AllZip (IsKnown l live next qs) qs (with_parts (ks ++ replicate (length added) nothing) parts)) (sym kept_goals)
          (now_known l live next gs ks rows had_slots h.stored.each h.answered added parts h.whole h.updates));
      few =
          let few = room.0 in
          let same_count = ap (λ (qs : List Goal). length qs) (kept_goals ∙ sym h.whole) in
          let both = length-append gs added in
          omega arith;
      light =
          let light = now_light l live next gs ks rows had_slots h.stored.each h.answered added parts h.whole h.updates in
          let few = room.1 in
          subst (λ (us : List Known). rules_in us ≤ 1000000) (sym known_is) (omega arith);
    }

    pub kept_knows : KnowsRows (seen l live goals known) rows
    kept_knows =
        subst (λ (us : List Known). KnowsRows (seen l live goals us) rows) (sym known_is)
        (subst (λ (qs : List Goal). KnowsRows (seen l live qs (with_parts (ks ++ replicate (length added) nothing) parts)) rows) (sym kept_goals)
        (now_knows l live next gs ks rows had_slots h.stored.each h.answered added parts h.whole h.updates))

    pub kept_stays : StaysKnown (seen l live gs ks) (seen l live goals known)
    kept_stays =
        subst (λ (us : List Known). StaysKnown (seen l live gs ks) (seen l live goals us)) (sym known_is)
        (subst (λ (qs : List Goal). StaysKnown (seen l live gs ks) (seen l live qs (with_parts (ks ++ replicate (length added) nothing) parts))) (sym kept_goals)
        (now_stays l live next gs ks rows had_slots h.stored.each h.answered added parts h.whole h.updates))
