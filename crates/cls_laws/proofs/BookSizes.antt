-- The terms of a rule book have a greatest size, or the determined walk shows that they have none: the descent that
-- measures them comes to an end.
use Rattle.std.proofs.Common.{◌≡◌, ℕ, zero, suc, ◌<◌, ◌≤◌, Bool, true, false, List, [], ◌∷◌, ◌++◌, Option, None, Some, length, take, slice_get, refl, ap, subst, arith, ◌⊎◌, inl, inr}
use Rattle.std.specs.Prelude.{IsTrue, ◌↔◌}
use Rattle.cls_base.specs.Languages.{rules_at}
use Rattle.cls_base.specs.declared.rule.Rule.{Rule}
use Rattle.cls_base.specs.Arguments.{arguments_of_rule}
use Rattle.cls_base.specs.Books.{HaveNodesBelow}
use Rattle.cls_grammar.specs.Ranks.{IsProductiveIn, AreProductive}
use Rattle.cls_grammar.specs.Trimming.{is_useful}
use Rattle.cls_finite.specs.declared.walk.Step.{Step}
use Rattle.cls_finite.specs.Descents.{State, begun, opened, weight, IsDone, AreDone, AllAreDone, greatest_by, IsNext, IsKept}
use Rattle.cls_finite.specs.Finiteness.{HasPositiveCosts, IsUnbounded, IsGreatest, IsDetermined}
use Rattle.cls_finite.specs.Outcomes.{HasGone}
use Rattle.cls_finite.proofs.Advancing as advancing
use Rattle.cls_finite.proofs.Descending as descending
use Rattle.cls_laws.specs.Possible.{IsPossible}
use Rattle.cls_laws.proofs.Classical.{after, then, surely, either_way, by_index}

-- WHICH NODES ARE PRODUCTIVE
module _ (book : List (List (Rule ℕ))) where
  abbrev Flags : ℕ → Bool → Type 0
  Flags i flag = IsTrue flag ↔ IsProductiveIn book i

  flag_by : (i : ℕ) → IsProductiveIn book i ⊎ (IsProductiveIn book i → ⊥) → (flag : Bool) × Flags i flag
  flag_by i (inl p) = (true, ((λ e. p), (λ q. refl)))
  flag_by i (inr n) = (false, ((λ e. absurd (let f : false ≡ true = e in cc)), (λ p. absurd (n p))))

  pub flags_exist : IsPossible ((flags : List Bool) × AreProductive book flags)
  flags_exist =
      after (by_index Flags (length book) (λ i l. after (either_way (IsProductiveIn book i)) (flag_by i)))
      (λ r. (r.0, record { count = r.1; each = r.2 }))

-- MARKS
-- The marks of nodes are a type that `cls_finite` alone can name. A state has some, and at the beginning node 0 is open.
abbrev TypeOf : {A : Type 0} → A → Type 0
TypeOf {A} a = A

abbrev Marks : Type 0
Marks = TypeOf (begun 0).marks

abbrev IsOpen : Marks → ℕ → Type 0
IsOpen marks n = slice_get marks n ≡ slice_get (begun 1).marks 0

-- a state whose marks are what is asked of them
with_marks : {marks : Marks} {Q : State → Type 0} → ((new : State) → new.marks ≡ marks → Q new) → (path : List Step) (top : Step) → Q (record { marks = marks; path = path; top = top })
with_marks {marks} f path top = f (record { marks = marks; path = path; top = top }) refl

-- THE NEXT STEP
module _ (marks : Marks) where
  -- the first node of the list that isn't done
  record Undone (ns : List ℕ) : Type 0 where
    place : ℕ
    next : ℕ
    there : slice_get ns place ≡ Some next
    before : AreDone marks (take place ns)
    undone : IsDone marks next → ⊥

  undone_by : (n : ℕ) (ns : List ℕ) → AreDone marks ns ⊎ Undone ns → IsDone marks n ⊎ (IsDone marks n → ⊥) → AreDone marks (n ∷ ns) ⊎ Undone (n ∷ ns)
  undone_by n ns (inl ds) (inl d) = inl (d, ds)
  undone_by n ns (inr u) (inl d) = inr (record { place = suc u.place; next = u.next; there = u.there; before = (d, u.before); undone = u.undone })
  undone_by n ns r (inr f) = inr (record { place = zero; next = n; there = refl; before = tt; undone = f })

  first_undone : (ns : List ℕ) → IsPossible (AreDone marks ns ⊎ Undone ns)
  first_undone [] = surely (inl tt)
  first_undone (n ∷ ns) = then (first_undone ns) (λ r. after (either_way (IsDone marks n)) (undone_by n ns r))

  module _ (flags : List Bool) where
    -- the first rule that may be used and has such an argument
    record Next (rs : List (Rule ℕ)) : Type 0 where
      place : ℕ
      rule : Rule ℕ
      there : slice_get rs place ≡ Some rule
      useful : IsTrue (is_useful flags rule)
      argument : Undone (arguments_of_rule rule)
      before : (j : ℕ) (r : Rule ℕ) → j < place → slice_get rs j ≡ Some r → IsTrue (is_useful flags r) → AreDone marks (arguments_of_rule r)

    abbrev IsPast : Rule ℕ → Type 0
    IsPast r = IsTrue (is_useful flags r) → AreDone marks (arguments_of_rule r)

    all_past : (r : Rule ℕ) (rs : List (Rule ℕ)) → IsPast r → AllAreDone marks flags rs → (j : ℕ) (q : Rule ℕ) → slice_get (r ∷ rs) j ≡ Some q → IsPast q
    all_past r rs p all zero q e = let s : r ≡ q = cc in subst IsPast s p
    all_past r rs p all (suc j) q e = all j q e

    front_past : (r : Rule ℕ) (rs : List (Rule ℕ)) (n : Next rs) → IsPast r → (j : ℕ) (q : Rule ℕ) → j < suc n.place → slice_get (r ∷ rs) j ≡ Some q → IsPast q
    front_past r rs n p zero q l e = let s : r ≡ q = cc in subst IsPast s p
    front_past r rs n p (suc j) q l e = n.before j q (omega arith) e

    past : (r : Rule ℕ) (rs : List (Rule ℕ)) → IsPast r → AllAreDone marks flags rs ⊎ Next rs → AllAreDone marks flags (r ∷ rs) ⊎ Next (r ∷ rs)
    past r rs p (inl all) = inl (all_past r rs p all)
    past r rs p (inr n) = inr (record { place = suc n.place; rule = n.rule; there = n.there; useful = n.useful; argument = n.argument; before = front_past r rs n p })

    rule_by : (r : Rule ℕ) (rs : List (Rule ℕ)) (b : Bool) → is_useful flags r ≡ b → AllAreDone marks flags rs ⊎ Next rs → AreDone marks (arguments_of_rule r) ⊎ Undone (arguments_of_rule r) → AllAreDone marks flags (r ∷ rs) ⊎ Next (r ∷ rs)
    rule_by r rs true e x (inl d) = past r rs (λ u. d) x
    rule_by r rs true e x (inr u) = inr (record { place = zero; rule = r; there = refl; useful = e; argument = u; before = λ j q l. absurd (omega arith) })
    rule_by r rs false e x d = past r rs (λ u. absurd (let t : is_useful flags r ≡ true = u in let f : false ≡ true = cc in cc)) x

    next_rule : (rs : List (Rule ℕ)) → IsPossible (AllAreDone marks flags rs ⊎ Next rs)
    next_rule [] = surely (inl (λ j r e u. absurd (let f : ◌≡◌ {A = Option (Rule ℕ)} None (Some r) = e in cc)))
    next_rule (r ∷ rs) = then (next_rule rs) (λ x. after (first_undone (arguments_of_rule r)) (rule_by r rs (is_useful flags r) refl x))

    is_next : (rs : List (Rule ℕ)) (goal : ℕ) (n : Next rs) → IsNext marks flags rs (record { goal = goal; rule = n.place; argument = n.argument.place }) n.argument.next
    is_next rs goal n = record {
      rule = n.rule;
      there = n.there;
      useful = n.useful;
      argument = n.argument.there;
      passed = record {
        rules = n.before;
        front = λ r e u. let a = n.there in let s : n.rule ≡ r = cc in subst (λ (q : Rule ℕ). AreDone marks (take n.argument.place (arguments_of_rule q))) s n.argument.before;
      };
      undone = n.argument.undone;
    }

-- THE DESCENT
abbrev HasLast : List Step → Type 0
HasLast xs = (init : List Step) × (x : Step) × (xs ≡ init ++ x ∷ [])

last_of : (x : Step) (xs : List Step) → HasLast (x ∷ xs)
last_of x [] = ([], x, refl)
last_of x (y ∷ ys) = let u = last_of y ys in (x ∷ u.0, u.1, ap (λ (zs : List Step). x ∷ zs) u.2)

last_or : (xs : List Step) → (xs ≡ []) ⊎ HasLast xs
last_or [] = inl refl
last_or (x ∷ xs) = inr (last_of x xs)

module _ (cost : ℕ → ℕ) (book : List (List (Rule ℕ))) where
  abbrev pub SizesAreFound : Type 0
  SizesAreFound = ((n : ℕ) × IsGreatest book cost n) ⊎ ((walk : List Step) × IsUnbounded book cost 0 × IsDetermined book cost [] 0 walk)

  module _ (flags : List Bool) (p : AreProductive book flags) (costs : HasPositiveCosts book cost) (within : (i : ℕ) → i < length book → HaveNodesBelow (length book) (rules_at book i)) where
    abbrev Kept : State → Type 0
    Kept s = IsKept 0 cost book flags s

    module _ (s : State) (k : Kept s) (on : (new : State) → HasGone 0 cost book flags s new → IsPossible SizesAreFound) where
      abbrev rules : List (Rule ℕ)
      rules = rules_at book s.top.goal

      below : HaveNodesBelow (length book) (rules_at book s.top.goal)
      below = within s.top.goal (advancing.node-within 0 cost book flags p s k s.top.goal refl)

      ended : AllAreDone s.marks flags (rules_at book s.top.goal) → (s.path ≡ []) ⊎ HasLast s.path → IsPossible SizesAreFound
      ended all (inl none) =
          let c = advancing.ends 0 cost book flags p s k s.top.goal refl rules refl all (greatest_by 0 cost s.marks flags rules) refl none in
          surely (inl (c.size, c.greatest))
      ended all (inr (init, x, e)) =
          let size = greatest_by 0 cost s.marks flags rules in
          on _ (with_marks (advancing.closes 0 cost book flags p s k s.top.goal refl rules refl all size refl) init x e)

      module _ (step : Step) (next : ℕ) (goal : step.goal ≡ s.top.goal) (is : IsNext s.marks flags (rules_at book s.top.goal) step next) where
        stepped : IsOpen s.marks next ⊎ (IsOpen s.marks next → ⊥) → IsPossible SizesAreFound
        stepped (inl opens) =
            let new : State = record s { path = s.path ++ step ∷ [] } in
            let g = advancing.comes_round 0 cost book flags p s k s.top.goal refl rules refl step next goal is costs opens new refl in
            surely (inr (new.path, g.unbounded, g.determined))
        stepped (inr closed) = on (opened s step next) (advancing.goes 0 cost book flags p s k s.top.goal refl rules refl step next goal is below closed (opened s step next) refl)

      round_by : AllAreDone s.marks flags (rules_at book s.top.goal) ⊎ Next s.marks flags (rules_at book s.top.goal) → IsPossible SizesAreFound
      round_by (inl all) = ended all (last_or s.path)
      round_by (inr n) =
          let step : Step = record { goal = s.top.goal; rule = n.place; argument = n.argument.place } in
          then (either_way (IsOpen s.marks n.argument.next)) (stepped step n.argument.next refl (is_next s.marks flags rules s.top.goal n))

      round : IsPossible SizesAreFound
      round = then (next_rule s.marks flags (rules_at book s.top.goal)) round_by

    rounds : (fuel : ℕ) (s : State) → Kept s → weight s.marks ≤ fuel → IsPossible SizesAreFound
    rounds zero s k l = round s k (λ new g. absurd (let n = g.nearer in omega arith))
    rounds (suc fuel) s k l = round s k (λ new g. rounds fuel new g.kept (let n = g.nearer in omega arith))

    pub sizes_found : 1 ≤ length book → IsPossible SizesAreFound
    sizes_found some =
        let s = begun (length book) in
        rounds (weight s.marks) s (descending.kept-begun 0 cost book flags some) (omega arith)
