-- The rules that are read are those of the first components, one after the other.
use Rattle.std.proofs.Common.{ℕ, zero, suc, ◌≡◌, ◌+◌, ◌<◌, ◌≤◌, refl, sym, ◌∙◌, subst, ap, ◌⊎◌, inl, inr, List, [], ◌∷◌, ◌++◌, Option, None, Some, length, get_or, slice_get, take, arith, Bool, true, false, cond, append-nil, append_assoc}
use Rattle.std.specs.Prelude.{◌==◌, map, if◌then◌else◌, nat_lt}
use Rattle.std.proofs.lemmas.Bool.Decides.{Decides-eqb, Decides-ltb}
use Rattle.std.proofs.lemmas.List.{take_more}
use Rattle.std.proofs.lemmas.Option.{get_or_from_slice_get, slice_get_within, slice_get-get_or}
use Rattle.cls_base.specs.declared.rule.Rule.{Rule}
use Rattle.cls_base.specs.declared.rule.Rule.TheVariants.{Head, Any}
use Rattle.cls_core.specs.declared.answer.Answer.TheVariants.{Rules}
use Rattle.cls_library.specs.Libraries.{Library}
use Rattle.cls_expand.specs.Answers.{IsAnswerBy, AreRulesBefore}
use Rattle.cls_expand.specs.ByComponent.{rules_with, arguments_by, rules_joined}
use Rattle.cls_live.specs.declared.known.Known.{Known}
use Rattle.cls_live.specs.Parts.{Goal, Entry}
use Rattle.cls_live.specs.Slots.{AreRising, AreSlots, HeadsRise, IsKnown, component_of, next_component, entry_of, named, read_with, read_rule, read_rules}
use Rattle.cls_live.proofs.Ordering.{none_below, none_from}
use Rattle.cls_live.proofs.SlotLaws.{component_none}

-- whether a number is below another one, the same or above it
compare : (a b : ℕ) → (a < b) ⊎ ((a ≡ b) ⊎ (b < a))
compare a b = grind arith

module _ (goals : List Goal) where
  -- the arguments that are known with a slot
  abbrev known_with : List (Rule ℕ) → ℕ → List (List Goal)
  known_with rs slot = map (named goals) (arguments_by slot rs)

  abbrev lists_of : List (Rule ℕ) → List ℕ → List (List (List Goal))
  lists_of rs live = map (known_with rs) live

  -- a component so many numbers later
  abbrev later : ℕ → Option ℕ → Option ℕ
  later a None = None
  later a (Some x) = Some (a + x)

  later_next : (a : ℕ) (o : Option ℕ) → later (a + 1) o ≡ later a (next_component o)
  later_next a None = refl
  later_next a (Some x) = ap Some (let e : a + 1 + x ≡ a + suc x = omega arith in e)

  later_none : (o : Option ℕ) → later 0 o ≡ o
  later_none None = refl
  later_none (Some x) = ap Some (let e : 0 + x ≡ x = omega arith in e)

  -- a rule whose slot comes before all these
  others : (slot : ℕ) (args : List ℕ) (rs : List (Rule ℕ)) (low : ℕ) (live : List ℕ) → AreRising low live → slot < low
      → lists_of (Head slot args ∷ rs) live ≡ lists_of rs live
  others slot args rs low [] h m = refl
  others slot args rs low (first ∷ live) h m =
      let here : low ≤ first = h.0 in
      λ i. by (first == slot) refl here i ∷ others slot args rs (first + 1) live h.1 (omega arith) i
    where
      by : (b : Bool) → (first == slot) ≡ b → low ≤ first
          → map (named goals) (cond b (args ∷ arguments_by first rs) (arguments_by first rs)) ≡ known_with rs first
      by true e here = let same : first ≡ slot = (Decides-eqb first slot).0 e in absurd (omega arith)
      by false e here = refl

  -- The first of the slots is that of the rule if b, and the rule's that of the first if d: what the rule adds to the rules of all.
  abbrev Goes : ℕ → ℕ → ℕ → List ℕ → List (Rule ℕ) → List ℕ → Bool → Bool → Type 0
  Goes a slot first args rs live b d =
      rules_with a (map (named goals) (cond b (args ∷ arguments_by first rs) (arguments_by first rs)))
      ++ rules_joined (a + 1) (lists_of (Head slot args ∷ rs) live)
      ≡ read_with (later a (cond d (Some 0) (next_component (component_of live slot)))) (named goals args)
      ++ (rules_with a (known_with rs first) ++ rules_joined (a + 1) (lists_of rs live))

  differ : (x y : ℕ) → (x ≡ y → ⊥) → (b : Bool) → (x == y) ≡ b → (x == y) ≡ false
  differ x y n true e = absurd (n ((Decides-eqb x y).0 e))
  differ x y n false e = e

  -- what a rule before the others adds
  step :
      (a end slot : ℕ) (args : List ℕ) (rs : List (Rule ℕ)) → HeadsRise slot end rs → (low : ℕ) (live : List ℕ) → AreRising low live
      → rules_joined a (lists_of (Head slot args ∷ rs) live)
      ≡ read_with (later a (component_of live slot)) (named goals args) ++ rules_joined a (lists_of rs live)
  step a end slot args rs up low [] h = refl
  step a end slot args rs up low (first ∷ live) h =
      by (compare first slot) (step (a + 1) end slot args rs up (first + 1) live h.1)
    where
      here : first ≡ slot → Goes a slot first args rs live true true
      here same =
          let same_rest = ap (λ (lists : List (List (List Goal))). rules_joined (a + 1) lists) (others slot args rs (first + 1) live h.1 (omega arith)) in
          let number : a ≡ a + 0 = omega arith in
          λ i. Head (number i) (named goals args) ∷ (rules_with a (known_with rs first) ++ same_rest i)

      before : first < slot
          → rules_joined (a + 1) (lists_of (Head slot args ∷ rs) live)
          ≡ read_with (later (a + 1) (component_of live slot)) (named goals args) ++ rules_joined (a + 1) (lists_of rs live)
          → Goes a slot first args rs live false false
      before less rest =
          let none = none_below slot end first rs up less in
          let none_here = ap (λ (lists : List (List ℕ)). rules_with a (map (named goals) lists)) none in
          let others_here = rules_joined (a + 1) (lists_of rs live) in
          ap (λ (qs : List (Rule Goal)). qs ++ rules_joined (a + 1) (lists_of (Head slot args ∷ rs) live)) none_here
          ∙ (rest ∙ (λ i. read_with (later_next a (component_of live slot) i) (named goals args) ++ (sym none_here i ++ others_here)))

      behind : slot < first → Goes a slot first args rs live false false
      behind less =
          let none = component_none (first + 1) live slot h.1 (omega arith) in
          let same_rest = ap (λ (lists : List (List (List Goal))). rules_joined (a + 1) lists) (others slot args rs (first + 1) live h.1 (omega arith)) in
          let known = rules_with a (known_with rs first) ++ rules_joined (a + 1) (lists_of rs live) in
          ap (λ (qs : List (Rule Goal)). rules_with a (known_with rs first) ++ qs) same_rest
          ∙ ap (λ (o : Option ℕ). read_with (later a (next_component o)) (named goals args) ++ known) (sym none)

      tests : (b d : Bool) → (first == slot) ≡ b → (slot == first) ≡ d → Goes a slot first args rs live b d
          → Goes a slot first args rs live (first == slot) (slot == first)
      tests b d e f g =
          subst (λ (z : Bool). Goes a slot first args rs live z (slot == first)) (sym e)
          (subst (λ (z : Bool). Goes a slot first args rs live b z) (sym f) g)

      apart : (first ≡ slot → ⊥) → Goes a slot first args rs live false false → Goes a slot first args rs live (first == slot) (slot == first)
      apart n g = tests false false (differ first slot n (first == slot) refl) (differ slot first (λ e. n (sym e)) (slot == first) refl) g

      by : (first < slot) ⊎ ((first ≡ slot) ⊎ (slot < first))
          → rules_joined (a + 1) (lists_of (Head slot args ∷ rs) live)
          ≡ read_with (later (a + 1) (component_of live slot)) (named goals args) ++ rules_joined (a + 1) (lists_of rs live)
          → Goes a slot first args rs live (first == slot) (slot == first)
      by (inl less) rest = apart (λ e. omega arith) (before less rest)
      by (inr (inl same)) rest = tests true true ((Decides-eqb first slot).1 same) ((Decides-eqb slot first).1 (sym same)) (here same)
      by (inr (inr less)) rest = apart (λ e. omega arith) (behind less)

  joined_none : (a : ℕ) (live : List ℕ) → rules_joined a (lists_of [] live) ≡ []
  joined_none a [] = refl
  joined_none a (slot ∷ live) = joined_none (a + 1) live

  -- the rules that are read are those of the slots, one after the other
  reads_joined : (low end : ℕ) (live : List ℕ) (rs : List (Rule ℕ)) → AreRising 0 live → HeadsRise low end rs
      → read_rules live goals rs ≡ rules_joined 0 (lists_of rs live)
  reads_joined low end live [] h up = sym (joined_none 0 live)
  reads_joined low end live (Head slot args ∷ rs) h up =
      (λ i. read_with (sym (later_none (component_of live slot)) i) (named goals args) ++ reads_joined slot end live rs h up.2 i)
      ∙ sym (step 0 end slot args rs up.2 0 live h)
  reads_joined low end live (Any left right ∷ rs) h up = reads_joined low end live rs h up

  -- slots from a place on of which no rule is known
  joined_all_none : (a : ℕ) (rs : List (Rule ℕ)) (live : List ℕ) → ((k : ℕ) → k < length live → arguments_by (get_or live k 0) rs ≡ [])
      → rules_joined a (lists_of rs live) ≡ []
  joined_all_none a rs [] f = refl
  joined_all_none a rs (slot ∷ live) f =
      λ i. (ap (λ (lists : List (List ℕ)). rules_with a (map (named goals) lists)) (f 0 (omega arith)) i
      ++ joined_all_none (a + 1) rs live (λ k m. f (suc k) (omega arith)) i)

  joined_front :
      (a : ℕ) (rs : List (Rule ℕ)) (live : List ℕ) (first : ℕ) → ((k : ℕ) → first ≤ k → k < length live → arguments_by (get_or live k 0) rs ≡ [])
      → rules_joined a (lists_of rs live) ≡ rules_joined a (lists_of rs (take first live))
  joined_front a rs [] zero f = refl
  joined_front a rs [] (suc first) f = refl
  joined_front a rs (slot ∷ live) zero f = joined_all_none a rs (slot ∷ live) (λ k m. f k (omega arith) m)
  joined_front a rs (slot ∷ live) (suc first) f =
      ap (λ (qs : List (Rule Goal)). rules_with a (known_with rs slot) ++ qs) (joined_front (a + 1) rs live first (λ k le m. f (suc k) (omega arith) (omega arith)))

  take_length : (live : List ℕ) (first : ℕ) → first ≤ length live → (rs : List (Rule ℕ)) → length (lists_of rs (take first live)) ≡ first
  take_length live zero m rs = refl
  take_length [] (suc first) m rs = absurd (omega arith)
  take_length (slot ∷ live) (suc first) m rs = ap suc (take_length live first (omega arith) rs)

  take_at : (live : List ℕ) (first k : ℕ) → k < first → first ≤ length live → (rs : List (Rule ℕ))
      → get_or (lists_of rs (take first live)) k [] ≡ known_with rs (get_or live k 0)
  take_at live zero k m le rs = absurd (omega arith)
  take_at [] (suc first) k m le rs = absurd (omega arith)
  take_at (slot ∷ live) (suc first) zero m le rs = refl
  take_at (slot ∷ live) (suc first) (suc k) m le rs = take_at live first k (omega arith) (omega arith) rs

  -- an entry with a slot below the end is known
  pub entry_known : (k : Known) (slot : ℕ) → slot < k.end → entry_of goals k slot ≡ Some (known_with k.rules slot)
  entry_known k slot m =
      ap (λ (b : Bool). if b then Some (known_with k.rules slot) else None) ((Decides-ltb slot k.end).1 m)

  pub entry_unknown : (k : Known) (slot : ℕ) → k.end ≤ slot → entry_of goals k slot ≡ None
  entry_unknown k slot m = by (nat_lt slot k.end) refl
    where
      by : (b : Bool) → nat_lt slot k.end ≡ b → entry_of goals k slot ≡ None
      by true e = let less : slot < k.end = (Decides-ltb slot k.end).0 e in absurd (omega arith)
      by false e = ap (λ (b : Bool). if b then Some (known_with k.rules slot) else None) e

  -- what is known with a slot, if anything is
  pub entry_is : (k : Known) (slot : ℕ) (lists : List (List Goal)) → entry_of goals k slot ≡ Some lists → (slot < k.end) × (known_with k.rules slot ≡ lists)
  entry_is k slot lists e = by (nat_lt slot k.end) refl
    where
      by : (b : Bool) → nat_lt slot k.end ≡ b → (slot < k.end) × (known_with k.rules slot ≡ lists)
      by true f =
          let less : slot < k.end = (Decides-ltb slot k.end).0 f in
          let same : ◌≡◌ {A = Entry} (Some (known_with k.rules slot)) (Some lists) = sym (entry_known k slot less) ∙ e in
          (less, (let inner : known_with k.rules slot ≡ lists = cc in inner))
      by false f =
          let none : entry_of goals k slot ≡ None = ap (λ (b : Bool). if b then Some (known_with k.rules slot) else None) f in
          absurd (let clash : ◌≡◌ {A = Entry} None (Some lists) = sym none ∙ e in cc)

  -- the rules that are read are those by the first components, those with slots below the end
  pub read_before :
      (l : Library) (live : List ℕ) (next : ℕ) (goal : Goal) (k : Known) (first : ℕ) → AreSlots l live next → IsKnown l live next goals goal k
      → first ≤ length live → ((y : ℕ) → y < first → get_or live y 0 < k.end) → ((y : ℕ) → first ≤ y → y < length live → k.end ≤ get_or live y 0)
      → AreRulesBefore l first goal (read_rules live goals k.rules)
  read_before l live next goal k first slots h within before here = record {
    lists = lists_of k.rules (take first live);
    count = take_length live first within k.rules;
    each = λ y m.
        let slot = get_or live y 0 in
        let there = slice_get-get_or live y 0 (omega arith) in
        let made = h.meant y slot (known_with k.rules slot) there (entry_known k slot (before y m)) in
        subst (λ (lists : List (List Goal)). IsAnswerBy l y goal (Rules (rules_with y lists))) (sym (take_at live first y m within k.rules)) made;
    joined =
        reads_joined 0 k.end live k.rules slots.rising h.rise
        ∙ joined_front 0 k.rules live first (λ y le m. none_from 0 k.end (get_or live y 0) k.rules h.rise (here y le m));
  }

-- a rule is put last, or nothing is
pub read_absent : (old : List (Rule Goal)) (o : Option ℕ) (args : List Goal) → o ≡ None → old ≡ old ++ read_with o args
read_absent old o args e = subst (λ (p : Option ℕ). old ≡ old ++ read_with p args) (sym e) (sym (append-nil old))

pub read_present :
    (old new : List (Rule Goal)) (o : Option ℕ) (x : ℕ) (args given : List Goal) → o ≡ Some x → given ≡ args → new ≡ old ++ Head x given ∷ []
    → new ≡ old ++ read_with o args
read_present old new o x args given e same is =
    is ∙ ((λ i. old ++ Head x (same i) ∷ []) ∙ ap (λ (p : Option ℕ). old ++ read_with p args) (sym e))

read_last : (live : List ℕ) (goals : List Goal) (rs : List (Rule ℕ)) (r : Rule ℕ)
    → read_rules live goals (rs ++ r ∷ []) ≡ read_rules live goals rs ++ read_rule live goals r
read_last live goals [] r = append-nil (read_rule live goals r)
read_last live goals (q ∷ rs) r =
    ap (λ (qs : List (Rule Goal)). read_rule live goals q ++ qs) (read_last live goals rs r)
    ∙ sym (append_assoc (read_rule live goals q) (read_rules live goals rs) (read_rule live goals r))

-- one rule more
pub read_more :
    (live : List ℕ) (goals : List Goal) (rs : List (Rule ℕ)) (i : ℕ) (r : Rule ℕ) (old new : List (Rule Goal)) → slice_get rs i ≡ Some r
    → old ≡ read_rules live goals (take i rs) → new ≡ old ++ read_rule live goals r → new ≡ read_rules live goals (take (i + 1) rs)
read_more live goals rs i r old new here so is =
    let next = take_more rs i r (slice_get_within rs i r here) in
    let same = get_or_from_slice_get rs i r r here in
    is ∙ ((λ j. so j ++ read_rule live goals r)
    ∙ (sym (read_last live goals (take i rs) r)
    ∙ (ap (λ (q : Rule ℕ). read_rules live goals (take i rs ++ q ∷ [])) (sym same) ∙ ap (read_rules live goals) (sym next))))
