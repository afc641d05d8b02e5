-- What is stored of rows is right, and what was known stays known.
use Rattle.std.proofs.Common.{ℕ, ◌≡◌, ◌+◌, ◌^◌, ◌<◌, ◌≤◌, refl, sym, ◌∙◌, subst, ap, ◌⊎◌, inl, inr, List, [], ◌∷◌, ◌++◌, None, Some, length, get_or, slice_get, replicate, arith, Contains, Bool, true, false, cond}
use Rattle.std.specs.Prelude.{◌==◌, map}
use Rattle.std.specs.List.{AllZip, list_any, position_or_len}
use Rattle.std.proofs.lemmas.List.Elements.{Contains-append_left, Contains-append_right}
use Rattle.std.proofs.lemmas.List.{get_or-map, get_or_default, length-map}
use Rattle.std.proofs.lemmas.Option.{get_or_from_slice_get, slice_get-get_or, slice_get_within}
use Rattle.std.proofs.Math.ListN.{get_or-eq_default}
use Rattle.indexmap.specs.IndexSet.{insert_all}
use Rattle.cls_base.specs.declared.rule.Rule.{Rule}
use Rattle.cls_base.specs.declared.rule.Rule.TheVariants.{Head, Any}
use Rattle.cls_base.specs.Arguments.{arguments_in, map_rule}
use Rattle.cls_base.proofs.Lists.{Contains-nil, Contains-here, Contains-later, Contains-cases, Contains-at, Contains-place}
use Rattle.cls_path.specs.OrderLaws.{list_equal, list_same}
use Rattle.cls_core.specs.declared.answer.Answer.{Answer}
use Rattle.cls_core.specs.declared.answer.Answer.TheVariants.{Rules, Wide}
use Rattle.cls_core.specs.Arguments.{rules_of, arguments_of}
use Rattle.cls_core.specs.Closure.{goals_of}
use Rattle.cls_core.specs.Machine.{numbered}
use Rattle.cls_core.specs.Numbers.{numbers_from}
use Rattle.cls_core.specs.Rows.{Row}
use Rattle.cls_core.proofs.Columns.{get-front}
use Rattle.cls_core.proofs.Insertion.{all-front, all-length, numbers-kept}
use Rattle.cls_core.proofs.Members.{contains-any, all-contains}
use Rattle.cls_library.specs.Libraries.{Library, IsLibrary}
use Rattle.cls_expand.specs.Answers.{IsAnswer, IsAnswerBy}
use Rattle.cls_expand.specs.ByComponent.{rules_with, arguments_by}
use Rattle.cls_expand.proofs.Adding.{place-there, up-to}
use Rattle.cls_expand.proofs.Keeping.{at-place, goal-at-place}
use Rattle.cls_live.specs.declared.known.Known.{Known}
use Rattle.cls_live.specs.declared.known.Part.{Part}
use Rattle.cls_live.specs.Parts.{Goal, Entry, AreParts, same, entry_at, Knows, AreAnswered, KnowsRows, StaysKnown}
use Rattle.cls_live.specs.Slots.{AreSlots, IsKnown, IsStored, entry_of, named, nothing, rules_in, seen, settled}
use Rattle.cls_live.specs.Updates.{AreUpdates, end_at, part_of, row_of, rules_in_parts, with_parts}
use Rattle.cls_live.proofs.Parting.{zip_length, zip_at, zip_both, zip_other, zip_nothing, zip_parts, rules_parts, rules_nothing, end_nothing, ends_kept, ends_put, ends_rise}
use Rattle.cls_live.proofs.Readings.{entry_known, entry_unknown, entry_is}
use Rattle.cls_live.proofs.Settlings.{settled_known}

-- an entry that is seen is what is stored
module _ (l : Library) (live : List ℕ) (goals : List Goal) (known : List Known) where
  abbrev lists_seen : List (List Entry)
  lists_seen = map (λ (k : Known). map (entry_of goals k) live) known

  pub entries_even : (n : ℕ) → n < length known → length (get_or lists_seen n []) ≡ length live
  entries_even n m =
      ap (λ (es : List Entry). length es) (get_or-map (λ (k : Known). map (entry_of goals k) live) known n nothing [] m)
      ∙ length-map live (entry_of goals (get_or known n nothing))

  pub entry_seen : (n x : ℕ) → n < length known → x < length live
      → entry_at (seen l live goals known) n x ≡ entry_of goals (get_or known n nothing) (get_or live x 0)
  entry_seen n x m k =
      ap (λ (es : List Entry). get_or es x None) (get_or-map (λ (k : Known). map (entry_of goals k) live) known n nothing [] m)
      ∙ get_or-map (entry_of goals (get_or known n nothing)) live x 0 None k

  -- an entry that is known belongs to a component
  pub entry_within : (n x : ℕ) (lists : List (List Goal)) → n < length known → entry_at (seen l live goals known) n x ≡ Some lists → x < length live
  entry_within n x lists m e = by (side x (length live))
    where
      side : (a b : ℕ) → (a < b) ⊎ (b ≤ a)
      side a b = grind arith

      by : (x < length live) ⊎ (length live ≤ x) → x < length live
      by (inl k) = k
      by (inr k) =
          let even = entries_even n m in
          let none : get_or (get_or lists_seen n []) x None ≡ None = get_or-eq_default (get_or lists_seen n []) None (omega arith) in
          absurd (let clash : ◌≡◌ {A = Entry} None (Some lists) = sym none ∙ e in cc)

-- the arguments of the rules with a slot are among those of all rules
arguments_inside :
    (count slot : ℕ) (rs : List (Rule ℕ)) → ((i : ℕ) → Contains (arguments_in rs) i → i < count)
    → (ns : List ℕ) → Contains (arguments_by slot rs) ns → (i : ℕ) → Contains ns i → i < count
arguments_inside count slot [] f ns c i m = absurd (Contains-nil ns c)
arguments_inside count slot (Head y args ∷ rs) f ns c i m =
    by (λ r. arguments_inside count slot rs (λ j n. f j (Contains-append_right args (arguments_in rs) j n)) ns r i m) (slot == y) c
  where
    by : (Contains (arguments_by slot rs) ns → i < count) → (b : Bool)
        → Contains (cond b (args ∷ arguments_by slot rs) (arguments_by slot rs)) ns → i < count
    by rest true k = elim (Contains-cases args (arguments_by slot rs) ns k) [
      | inl e ↦ f i (Contains-append_left args (arguments_in rs) i (subst (λ (l : List ℕ). Contains l i) e m))
      | inr r ↦ rest r
    ]
    by rest false r = rest r
arguments_inside count slot (Any left right ∷ rs) f ns c i m =
    arguments_inside count slot rs (λ j n. f j (Contains-later j left (right ∷ arguments_in rs) (Contains-later j right (arguments_in rs) n))) ns c i m

-- numbers that stand for the same goals
module _ (gs all : List Goal) (grown : (i : ℕ) → i < length gs → get_or all i [] ≡ get_or gs i []) where
  named_same : (ns : List ℕ) → ((i : ℕ) → Contains ns i → i < length gs) → named all ns ≡ named gs ns
  named_same [] f = refl
  named_same (n ∷ ns) f = λ i. grown n (f n (Contains-here n ns)) i ∷ named_same ns (λ k m. f k (Contains-later k n ns m)) i

  lists_same : (slot : ℕ) (rs : List (Rule ℕ)) → ((i : ℕ) → Contains (arguments_in rs) i → i < length gs)
      → map (named all) (arguments_by slot rs) ≡ map (named gs) (arguments_by slot rs)
  lists_same slot rs f = each (arguments_by slot rs) (arguments_inside (length gs) slot rs f)
    where
      each : (lists : List (List ℕ)) → ((ns : List ℕ) → Contains lists ns → (i : ℕ) → Contains ns i → i < length gs) → map (named all) lists ≡ map (named gs) lists
      each [] h = refl
      each (ns ∷ lists) h = λ i. named_same ns (h ns (Contains-here ns lists)) i ∷ each lists (λ ms m. h ms (Contains-later ms ns lists m)) i

  known_grown : (l : Library) (live : List ℕ) (next : ℕ) (g : Goal) (k : Known) → length gs ≤ length all → IsKnown l live next gs g k → IsKnown l live next all g k
  known_grown l live next g k more h = record {
    within = h.within;
    rise = h.rise;
    inside = λ i m. let less = h.inside i m in omega arith;
    meant = λ x slot lists there e.
        let entry = entry_is all k slot lists e in
        let back = entry_known gs k slot entry.0 ∙ ap Some (sym (lists_same slot k.rules h.inside) ∙ entry.1) in
        h.meant x slot lists there back;
  }

-- Rows of answered goals, put behind goals of which something is known. `parts` is what they make known.
module _ (l : Library) (live : List ℕ) (next : ℕ) (gs : List Goal) (ks : List Known) (rows : List (Row Goal)) (slots : AreSlots l live next)
    (zip : AllZip (IsKnown l live next gs) gs ks) (answered : AreAnswered l rows) where
  abbrev all : List Goal
  all = insert_all same gs (goals_of rows)

  abbrev numbers : List ℕ
  numbers = numbers_from same gs (goals_of rows)

  abbrev place : Goal → ℕ
  place g = position_or_len (same g) (goals_of rows)

  abbrev final : Goal → ℕ
  final g = position_or_len (same g) all

  -- the goals that were there keep their numbers
  grown : (i : ℕ) → i < length gs → get_or all i [] ≡ get_or gs i []
  grown i m =
      let front = all-front same gs (goals_of rows) in
      let here = get-front gs front.0 i (get_or gs i []) (slice_get-get_or gs i [] m) in
      ap (λ (l : List Goal). get_or l i []) front.1 ∙ get_or_from_slice_get (gs ++ front.0) i (get_or gs i []) [] here

  more : length gs ≤ length all
  more = all-length same gs (goals_of rows)

  among : (g : Goal) → Contains (goals_of rows) g → list_any (same g) all ≡ true
  among g m = contains-any same list_same list_equal.refl all g (all-contains same list_same list_equal.refl gs (goals_of rows) g m)

  -- the number of a goal of the rows
  number_is : (g : Goal) → Contains (goals_of rows) g → get_or numbers (place g) 0 ≡ final g
  number_is g m =
      ap (λ (ns : List ℕ). get_or ns (place g) 0) (numbers-kept same list_equal.refl gs (goals_of rows))
      ∙ at-place same list_same list_equal.refl final (goals_of rows) g 0 (contains-any same list_same list_equal.refl (goals_of rows) g m)

  inside : (g : Goal) → Contains (goals_of rows) g → get_or numbers (place g) 0 < length all
  inside g m =
      let is = number_is g m in
      let there = place-there (same g) all (among g m) in
      omega arith

  back : (g : Goal) → Contains (goals_of rows) g → get_or all (get_or numbers (place g) 0) [] ≡ g
  back g m = ap (λ n. get_or all n []) (number_is g m) ∙ goal-at-place same list_same list_equal.refl all g [] (among g m)

  -- the number of a row's goal
  module _ (k : ℕ) (r : Row Goal) (here : slice_get rows k ≡ Some r) where
    goal_here : slice_get (goals_of rows) k ≡ Some r.goal
    goal_here = (up-to rows k r here).2

    row_number : get_or numbers k 0 ≡ final r.goal
    row_number =
        ap (λ (ns : List ℕ). get_or ns k 0) (numbers-kept same list_equal.refl gs (goals_of rows))
        ∙ (get_or-map final (goals_of rows) k [] 0 (slice_get_within (goals_of rows) k r.goal goal_here)
        ∙ ap final (get_or_from_slice_get (goals_of rows) k r.goal [] goal_here))

    row_there : Contains (goals_of rows) r.goal
    row_there = Contains-at (goals_of rows) k r.goal goal_here

    row_goal : get_or all (get_or numbers k 0) [] ≡ r.goal
    row_goal = ap (λ n. get_or all n []) row_number ∙ goal-at-place same list_same list_equal.refl all r.goal [] (among r.goal row_there)

    row_within : get_or numbers k 0 < length all
    row_within =
        let is = row_number in
        let there = place-there (same r.goal) all (among r.goal row_there) in
        omega arith

  -- what a row makes known is right
  row_known :
      (goal : Goal) (rules : List (Rule ℕ)) (a : Answer Goal) → IsAnswer l goal a → ((g : Goal) → Contains (arguments_of a) g → Contains (goals_of rows) g)
      → ◌≡◌ {A = Answer ℕ} (Rules rules) (numbered same (goals_of rows) a) → IsKnown l live next all goal (record { end = next; rules = map (settled live numbers) rules })
  row_known goal rules (Rules rs) h closed e =
      let are : rules ≡ map (map_rule place) rs = ap rules_of e in
      subst (λ (qs : List (Rule ℕ)). IsKnown l live next all goal (record { end = next; rules = map (settled live numbers) qs })) (sym are)
      (settled_known l live next all goal rs place numbers slots h (λ g m. inside g (closed g m)) (λ g m. back g (closed g m)))
  row_known goal rules Wide h closed e = absurd (let clash : ◌≡◌ {A = Answer ℕ} (Rules rules) Wide = e in cc)

  -- nothing is known of the goals that come behind
  unknown : (g : Goal) → IsKnown l live next all g nothing
  unknown g = record {
    within = omega arith;
    rise = tt;
    inside = λ i m. absurd (Contains-nil i m);
    meant = λ x slot lists there e.
        let none = entry_unknown all nothing slot (omega arith) in
        absurd (let clash : ◌≡◌ {A = Entry} None (Some lists) = sym none ∙ e in cc);
  }

  module _ (added : List Goal) (parts : List Part) (whole : gs ++ added ≡ all) (u : AreUpdates live next ks rows numbers (length rows) parts) where
    abbrev blank : List Known
    blank = ks ++ replicate (length added) nothing

    abbrev now : List Known
    now = with_parts blank parts

    blank_known : AllZip (IsKnown l live next all) all blank
    blank_known =
        let old = zip_other _ _ gs ks (λ g k h. known_grown gs all grown l live next g k more h) zip in
        subst (λ (goals : List Goal). AllZip (IsKnown l live next all) goals blank) whole
        (zip_both _ gs added ks (replicate (length added) nothing) old (zip_nothing _ added unknown))

    part_right : (v : Part) → Contains parts v → IsKnown l live next all (get_or all v.number []) v.known
    part_right v m =
        let p = u.each v m in
        let r = row_of p.goal p.rules in
        let h = answered p.place r p.here in
        let right = row_known p.goal p.rules h.answer h.is_answer h.closed h.is_numbered in
        let at : get_or all (get_or numbers p.place 0) [] ≡ p.goal = row_goal p.place r p.here in
        subst (λ (w : Part). IsKnown l live next all (get_or all w.number []) w.known) (sym p.is)
        (subst (λ (g : Goal). IsKnown l live next all g (record { end = next; rules = map (settled live numbers) p.rules })) (sym at) right)

    part_end : (v : Part) → Contains parts v → v.known.end ≡ next
    part_end v m = ap (λ (w : Part). w.known.end) (u.each v m).is

    pub part_within : (v : Part) → Contains parts v → v.number < length blank
    part_within v m =
        let p = u.each v m in
        let at = row_within p.place (row_of p.goal p.rules) p.here in
        let long = zip_length _ all blank blank_known in
        let is = ap (λ (w : Part). w.number) p.is in
        omega arith

    -- what is stored is right
    pub now_known : AllZip (IsKnown l live next all) all now
    now_known = zip_parts _ all blank parts blank_known part_right

    pub now_light : rules_in now ≤ rules_in ks + rules_in_parts parts
    now_light =
        let put = rules_parts blank parts in
        let none = rules_nothing ks (length added) in
        omega arith

    now_length : length all ≡ length now
    now_length = zip_length _ all now now_known

    -- an entry with a slot below the end is seen as known
    knows : (n x : ℕ) (g : Goal) → slice_get all n ≡ Some g → x < length live → get_or live x 0 < end_at now n → Knows (seen l live all now) g x
    knows n x g there m below =
        let within = slice_get_within all n g there in
        let long = now_length in
        let k = get_or now n nothing in
        let entry = entry_seen l live all now n x (omega arith) m in
        record {
          number = n;
          lists = map (named all) (arguments_by (get_or live x 0) k.rules);
          goal = there;
          entry = entry ∙ entry_known all k (get_or live x 0) below;
        }

    -- all is known of each row that isn't wide
    row_end : (k : ℕ) (goal : Goal) (rules : List (Rule ℕ)) → slice_get rows k ≡ Some (row_of goal rules) → end_at now (get_or numbers k 0) ≡ next
    row_end k goal rules here = elim (u.all k goal rules (slice_get_within rows k (row_of goal rules) here) here) [
      | inl e ↦ ends_kept next blank parts (get_or numbers k 0) part_end (end_nothing ks (get_or numbers k 0) (length added) ∙ e)
      | inr m ↦ (let v = part_of live numbers next (get_or numbers k 0) rules in ends_put next blank parts v part_end m (part_within v m))
    ]

    pub now_knows : KnowsRows (seen l live all now) rows
    now_knows r c narrow x d =
        let at = Contains-place rows r c in
        by r.answer refl at.0 at.1
      where
        by : (a : Answer ℕ) → r.answer ≡ a → (k : ℕ) → slice_get rows k ≡ Some r → Knows (seen l live all now) r.goal x
        by (Rules rules) e k here =
            let same_row : r ≡ row_of r.goal rules = (λ i. record { goal = r.goal; answer = e i }) in
            let end = row_end k r.goal rules (here ∙ ap Some same_row) in
            let even : length live ≡ length l.components = slots.even in
            let declared : x < length l.components = d in
            let m : x < length live = omega arith in
            let slot : get_or live x 0 < next = slots.below x (get_or live x 0) (slice_get-get_or live x 0 m) in
            let there = slice_get-get_or all (get_or numbers k 0) [] (row_within k r here) ∙ ap Some (row_goal k r here) in
            knows (get_or numbers k 0) x r.goal there m (subst (λ e. get_or live x 0 < e) (sym end) slot)
        by Wide e k here = absurd (narrow e)

    -- what was known is known
    pub now_stays : StaysKnown (seen l live gs ks) (seen l live all now)
    now_stays g x old =
        let n = old.number in
        let within : n < length gs = slice_get_within gs n g old.goal in
        let long : length gs ≡ length ks = zip_length _ gs ks zip in
        let here : n < length ks = omega arith in
        let m : x < length live = entry_within l live gs ks n x old.lists here old.entry in
        let k = get_or ks n nothing in
        let is = entry_seen l live gs ks n x here m in
        let below : get_or live x 0 < end_at ks n = (entry_is gs k (get_or live x 0) old.lists (sym is ∙ old.entry)).0 in
        let fits : end_at ks n ≤ next = (zip_at _ gs ks n zip within).within in
        let same_end : end_at blank n ≡ end_at ks n = end_nothing ks n (length added) in
        let rises : end_at blank n ≤ end_at now n = ends_rise next blank parts n part_end (omega arith) in
        let front = all-front same gs (goals_of rows) in
        let there = get-front gs front.0 n g old.goal in
        knows n x g (ap (λ (l : List Goal). slice_get l n) front.1 ∙ there) m (omega arith)

-- what holds of all that is seen
pub seen_parts :
    (l : Library) (live : List ℕ) (next count : ℕ) (goals : List Goal) (known : List Known) → IsStored l live next count goals known
    → AreParts (seen l live goals known)
seen_parts l live next count goals known h = record {
  even = λ k m.
      let long = zip_length _ goals known h.each in
      entries_even l live goals known k (omega arith) ∙ (some (omega arith)).even;
  meant = λ k x g lists there e.
      let within = slice_get_within goals k g there in
      let long = zip_length _ goals known h.each in
      let m = entry_within l live goals known k x lists (omega arith) e in
      let is = entry_seen l live goals known k x (omega arith) m in
      let one = zip_at _ goals known k h.each within in
      subst (λ (g : Goal). IsAnswerBy l x g (Rules (rules_with x lists))) (get_or_from_slice_get goals k g [] there)
      (one.meant x (get_or live x 0) lists (slice_get-get_or live x 0 m) (sym is ∙ e));
  few = h.few;
  light = h.light;
}
  where
    some : 0 < length goals → AreSlots l live next
    some = h.slots

-- what is stored of a goal, for an expander of the library
pub stored_at :
    (l by : Library) (live : List ℕ) (next count : ℕ) (goals : List Goal) (known : List Known) (n : ℕ) (goal : Goal) (k : Known)
    → by ≡ l → n < length goals → get_or goals n [] ≡ goal → k ≡ get_or known n nothing → IsStored l live next count goals known
    → (next : ℕ) × AreSlots by live next × IsKnown by live next goals goal k
stored_at l by live next count goals known n goal k same_library m is here h =
    let slots : AreSlots l live next = h.slots (omega arith) in
    let one = zip_at _ goals known n h.each m in
    let named_goal = subst (λ (g : Goal). IsKnown l live next goals g (get_or known n nothing)) is one in
    let known_here = subst (λ (u : Known). IsKnown l live next goals goal u) (sym here) named_goal in
    subst (λ (m : Library). (next : ℕ) × AreSlots m live next × IsKnown m live next goals goal k) (sym same_library) (next, slots, known_here)

-- there are few slots
pub few_slots : (l : Library) (live : List ℕ) (next : ℕ) → AreSlots l live next → IsLibrary l → length live < 2 ^ 32
few_slots l live next h law =
    let few : length l.components ≤ 1000 = law.few in
    let even : length live ≡ length l.components = h.even in
    omega arith

-- the goal and what is known of it at its place
pub found_at :
    (goals : List Goal) (known : List Known) (goal : Goal) (n : ℕ) (k : Known) → list_any (same goal) goals ≡ true → n ≡ position_or_len (same goal) goals
    → n < length known → k ≡ get_or known n k → (get_or goals n [] ≡ goal) × (k ≡ get_or known n nothing)
found_at goals known goal n k there is m e = (
  ap (λ i. get_or goals i []) is ∙ goal-at-place same list_same list_equal.refl goals goal [] there,
  e ∙ get_or_default known n k nothing m,
)

-- nothing is stored of no goal
pub stored_none :
    (l : Library) (live : List ℕ) (next count : ℕ) (goals : List Goal) (known : List Known) → count ≡ length l.components → goals ≡ [] → known ≡ []
    → IsStored l live next count goals known
stored_none l live next count goals known c none nothing_known =
    subst (λ (gs : List Goal). IsStored l live next count gs known) (sym none)
    (subst (λ (ks : List Known). IsStored l live next count [] ks) (sym nothing_known) (record {
      counted = c;
      slots = λ m. absurd (let k : 0 < 0 = m in omega arith);
      each = tt;
      few = omega arith;
      light = omega arith;
    }))

pub stored_for :
    (by l : Library) (live shown : List ℕ) (next count : ℕ) (goals : List Goal) (known : List Known) (n : ℕ) → by ≡ l → shown ≡ live → n < length goals
    → IsStored l live next count goals known → IsLibrary by → length shown < 2 ^ 32
stored_for by l live shown next count goals known n same_library is m h law =
    let few = few_slots l live next (h.slots (omega arith)) (subst IsLibrary same_library law) in
    subst (λ (ns : List ℕ). length ns < 2 ^ 32) (sym is) few
