-- The rows of a legal history lie in the closure, and those of a complete one are the closure.
use Rattle.std.proofs.Common.{◌≡◌, ◌≢◌, ℕ, zero, suc, ◌-◌, ◌<◌, ◌≤◌, ◌==◌, Bool, true, false, List, [], ◌∷◌, ◌++◌, Some, length, map, set, slice_get, refl, sym, ap, subst, ◌∙◌, arith, ◌⊎◌, inl, inr, length-append, length-set}
use Rattle.std.specs.Prelude.{replicate, nat_lt, Contains}
use Rattle.std.specs.List.{AllZip, sum_by, position_or_len, list_any}
use Rattle.std.proofs.lemmas.Bool.Decides.{nat_tests}
use Rattle.std.proofs.lemmas.List.{length-replicate}
use Rattle.std.proofs.lemmas.List.Sums.{sum_by-cons}
use Rattle.std.proofs.lemmas.Option.{slice_get_within}
use Rattle.std.proofs.lemmas.List.Elements.{Contains-append_left, Contains-append_right}
use Rattle.cls_base.specs.Lists.{AreDistinct}
use Rattle.cls_base.proofs.Lists.{Contains-nil, Contains-head, Contains-here, Contains-later, Contains-cases, Contains-at, Contains-place, AreDistinct-from_map, sum_by-within, length-within}
use Rattle.cls_core.specs.Closure.{IsReached, at_start, at_argument, AllReached, HasMoreGoals, HasMoreRules, IsTooLarge, IsClosure, goals_of}
use Rattle.cls_core.specs.Arguments.{HasUniqueAnswers, arguments_of, map_answer, rule_count}
use Rattle.cls_base.specs.Arguments.{arguments_of_rule, arguments_in, map_rule}
use Rattle.cls_core.specs.Machine.{IsFiled, EachFiled, AllFiled, begun, claimed, grown, numbered, filed, Steps, Replays, rules_in, rules_weight}
use Rattle.cls_core.specs.Rows.{Machine, Row, filed_rows}
use Rattle.cls_core.proofs.FiledRows.{filed-at, filed-goals, filed-inside, filed-parts}
use Rattle.cls_core.specs.declared.state.RowState.{RowState}
use Rattle.cls_core.specs.declared.state.RowState.TheVariants.{Free, Held, Filed}
use Rattle.cls_core.specs.declared.entry.Entry.{Entry}
use Rattle.cls_core.specs.declared.entry.Entry.TheVariants.{Claim, File}
use Rattle.cls_base.specs.declared.rule.Rule.{Rule}
use Rattle.cls_base.specs.declared.rule.Rule.TheVariants.{Head, Any}
use Rattle.cls_core.specs.declared.answer.Answer.{Answer}
use Rattle.cls_core.specs.declared.answer.Answer.TheVariants.{Rules, Wide}
use Rattle.cls_core.proofs.Members.{contains-any, all-distinct, all-keeps, all-contains, all-only}
use Rattle.cls_core.proofs.Insertion.{all-front, stays}
use Rattle.cls_core.proofs.Columns.{get-set-same, get-set-other, get-front, get-within, get-behind, get-some}

free-only : (n i : ℕ) (a : Answer ℕ) → slice_get (replicate n Free) i ≡ Some (Filed a) → ⊥
free-only zero i a e = cc
free-only (suc n) zero a e = cc
free-only (suc n) (suc i) a e = free-only n i a e

-- two ways to number goals that agree on an answer's arguments number it alike
module _ {G : Type 0} (f h : G → ℕ) where
  goals-alike : (gs : List G) → ((g : G) → Contains gs g → f g ≡ h g) → map f gs ≡ map h gs
  goals-alike [] e = refl
  goals-alike (g ∷ gs) e = λ k. e g (Contains-here g gs) k ∷ goals-alike gs (λ x m. e x (Contains-later x g gs m)) k

  rule-alike : (r : Rule G) → ((g : G) → Contains (arguments_of_rule r) g → f g ≡ h g) → map_rule f r ≡ map_rule h r
  rule-alike (Head component args) e = ap (Head component) (goals-alike args e)
  rule-alike (Any left right) e =
      λ k. Any (e left (Contains-here left (right ∷ [])) k) (e right (Contains-later right left (right ∷ []) (Contains-here right [])) k)

  rules-alike : (rs : List (Rule G)) → ((g : G) → Contains (arguments_in rs) g → f g ≡ h g)
      → map (map_rule f) rs ≡ map (map_rule h) rs
  rules-alike [] e = refl
  rules-alike (r ∷ rs) e =
      λ k. rule-alike r (λ x m. e x (Contains-append_left (arguments_of_rule r) (arguments_in rs) x m)) k ∷ rules-alike rs (λ x m. e x (Contains-append_right (arguments_of_rule r) (arguments_in rs) x m)) k

  pub answer-alike : (a : Answer G) → ((g : G) → Contains (arguments_of a) g → f g ≡ h g) → map_answer f a ≡ map_answer h a
  answer-alike (Rules rs) e = ap Rules (rules-alike rs e)
  answer-alike Wide e = refl

module _ {G : Type 0} (f : G → ℕ) where
  rules-count : (rs : List (Rule G)) → length (map (map_rule f) rs) ≡ length rs
  rules-count [] = refl
  rules-count (r ∷ rs) = ap suc (rules-count rs)

  pub mapped-count : (a : Answer G) → rule_count (map_answer f a) ≡ rule_count a
  mapped-count (Rules rs) = rules-count rs
  mapped-count Wide = refl

module _ {G : Type 0} (eq : G → G → Bool) (exact : (x y : G) → eq x y ≡ true → x ≡ y) (reflexive : (x : G) → eq x x ≡ true) (IsAnswer : G → Answer G → Type 0) (start : G) where
  -- The numbers that a filed row holds are an answer of its goal, all arguments of which have rows.
  pub record IsFiledWith (goals : List G) (g : G) (numbers : Answer ℕ) : Type 0 where
    pub answer : Answer G
    pub is_answer : IsAnswer g answer
    pub is_numbered : numbers ≡ numbered eq goals answer
    pub closed : (h : G) → Contains (arguments_of answer) h → Contains goals h

  -- what holds of the rows of each legal history
  pub record IsSound (r : Machine G) : Type 0 where
    pub distinct : AreDistinct r.goals
    pub reached : AllReached IsAnswer start r.goals
    pub paired : length r.states ≡ length r.goals
    pub begins : slice_get r.goals 0 ≡ Some start
    pub answered : (k : ℕ) (g : G) (a : Answer ℕ) → slice_get r.goals k ≡ Some g
        → slice_get r.states k ≡ Some (Filed a) → IsFiledWith r.goals g a

  reached-begun : (g : G) → (g ≡ start) ⊎ Contains [] g → IsReached IsAnswer start g
  reached-begun g (inl e) = subst (IsReached IsAnswer start) (sym e) at_start
  reached-begun g (inr f) = absurd (Contains-nil g f)

  sound-begun : IsSound (begun start)
  sound-begun = record {
    distinct = (Contains-nil start, tt);
    reached = λ g h. reached-begun g (Contains-cases start [] g h);
    paired = refl;
    begins = refl;
    answered = λ k g a e f. absurd (free-only 1 k a f);
  }

  not-held : (worker : ℕ) (a : Answer ℕ) → Some (Held worker) ≡ Some (Filed a) → ⊥
  not-held worker a e = cc

  -- a filed row stays filed when another row is written
  unclaimed : (r : Machine G) (worker row : ℕ) → slice_get r.states row ≡ Some Free → (k : ℕ) (a : Answer ℕ)
      → slice_get (set r.states row (Held worker)) k ≡ Some (Filed a) → slice_get r.states k ≡ Some (Filed a)
  unclaimed r worker row free k a f = by (k == row) refl
    where
      by : (b : Bool) → (k == row) ≡ b → slice_get r.states k ≡ Some (Filed a)
      by true e =
          let same : k ≡ row = grind (arith, nat_tests) in
          absurd (not-held worker a (sym (get-set-same r.states row (Held worker) (slice_get_within r.states row Free free)) ∙ subst (λ j. slice_get (set r.states row (Held worker)) j ≡ Some (Filed a)) same f))
      by false e =
          let other : k ≢ row = grind (arith, nat_tests) in
          sym (get-set-other r.states row k (Held worker) other) ∙ f

  sound-claim : (r : Machine G) (worker row : ℕ) → IsSound r → slice_get r.states row ≡ Some Free → IsSound (claimed r worker row)
  sound-claim r worker row s free = record {
    distinct = s.distinct;
    reached = s.reached;
    paired = length-set r.states row (Held worker) ∙ s.paired;
    begins = s.begins;
    answered = λ k g a e f. s.answered k g a e (unclaimed r worker row free k a f);
  }

  -- the states after a filing: this row, another row that was filed before, or a new row
  after-file : (ss : List RowState) (row n : ℕ) (worker : ℕ) (new : Answer ℕ) → slice_get ss row ≡ Some (Held worker)
      → (k : ℕ) (a : Answer ℕ) → slice_get (set ss row (Filed new) ++ replicate n Free) k ≡ Some (Filed a)
      → ((k ≡ row) × (a ≡ new)) ⊎ (slice_get ss k ≡ Some (Filed a))
  after-file ss row n worker new held k a f = within (nat_lt k (length ss)) refl
    where
      here : (b : Bool) → (k == row) ≡ b → slice_get (set ss row (Filed new)) k ≡ Some (Filed a)
          → ((k ≡ row) × (a ≡ new)) ⊎ (slice_get ss k ≡ Some (Filed a))
      here true e h =
          let same : k ≡ row = grind (arith, nat_tests) in
          inl (same, filed-inside a new (sym (subst (λ j. slice_get (set ss row (Filed new)) j ≡ Some (Filed a)) same h) ∙ get-set-same ss row (Filed new) (slice_get_within ss row (Held worker) held)))
      here false e h =
          let other : k ≢ row = grind (arith, nat_tests) in
          inr (sym (get-set-other ss row k (Filed new) other) ∙ h)

      within : (b : Bool) → nat_lt k (length ss) ≡ b → ((k ≡ row) × (a ≡ new)) ⊎ (slice_get ss k ≡ Some (Filed a))
      within true e =
          let less : k < length ss = grind (arith, nat_tests) in
          here (k == row) refl (sym (get-within (set ss row (Filed new)) (replicate n Free) k (omega (arith, length-set ss row (Filed new)))) ∙ f)
      within false e =
          let more : length ss ≤ k = grind (arith, nat_tests) in
          absurd (free-only n (k - length (set ss row (Filed new))) a (sym (get-behind (set ss row (Filed new)) (replicate n Free) k (omega (arith, length-set ss row (Filed new)))) ∙ f))

  sound-file : (r : Machine G) (worker row : ℕ) (g : G) (answer : Answer G) → IsSound r
      → slice_get r.states row ≡ Some (Held worker) → slice_get r.goals row ≡ Some g → IsAnswer g answer
      → IsSound (filed eq r row answer)
  sound-file r worker row g answer s held at is = record {
    distinct = all-distinct eq exact reflexive r.goals (arguments_of answer) s.distinct;
    reached = λ h m. elim (all-only eq exact reflexive r.goals (arguments_of answer) h m) [ inl l ↦ s.reached h l | inr l ↦ at_argument g h answer (s.reached g (Contains-at r.goals row g at)) is l ];
    paired = omega (arith, length-append (set r.states row (Filed new)) (replicate (length gs - length r.goals) Free), length-set r.states row (Filed new), length-replicate (length gs - length r.goals) Free, s.paired, ap length front.1, length-append r.goals front.0);
    begins = old 0 start s.begins;
    answered = λ k h a e f. elim (after-file r.states row (length gs - length r.goals) worker new held k a f) [
      | inl t ↦ record {
        answer = answer;
        is_answer = subst (λ x. IsAnswer x answer) (sym (goal-is k h e t.0)) is;
        is_numbered = t.1;
        closed = λ x m. all-contains eq exact reflexive r.goals (arguments_of answer) x m;
      }
      | inr t ↦ wider h a (s.answered k h a (back k h a e t) t)
    ];
  }
    where
      gs : List G
      gs = grown eq r.goals answer

      new : Answer ℕ
      new = numbered eq gs answer

      front : (more : List G) × (gs ≡ r.goals ++ more)
      front = all-front eq r.goals (arguments_of answer)

      old : (k : ℕ) (h : G) → slice_get r.goals k ≡ Some h → slice_get gs k ≡ Some h
      old k h e = ap (λ l. slice_get l k) front.1 ∙ get-front r.goals front.0 k h e

      goal-is : (k : ℕ) (h : G) → slice_get gs k ≡ Some h → k ≡ row → h ≡ g
      goal-is k h e same = let q : slice_get gs row ≡ Some h = subst (λ j. slice_get gs j ≡ Some h) same e in let p = old row g at in cc

      back : (k : ℕ) (h : G) (a : Answer ℕ) → slice_get gs k ≡ Some h → slice_get r.states k ≡ Some (Filed a)
          → slice_get r.goals k ≡ Some h
      back k h a e t =
          sym (ap (λ l. slice_get l k) front.1 ∙ get-within r.goals front.0 k (omega (arith, slice_get_within r.states k (Filed a) t, s.paired))) ∙ e

      known : (x : G) → Contains r.goals x → list_any (eq x) r.goals ≡ true
      known x h = contains-any eq exact reflexive r.goals x h

      -- a row that was filed before is still filed with its answer
      wider : (h : G) (a : Answer ℕ) → IsFiledWith r.goals h a → IsFiledWith gs h a
      wider h a w = record {
        answer = w.answer;
        is_answer = w.is_answer;
        is_numbered = w.is_numbered ∙ answer-alike (λ x. position_or_len (eq x) r.goals) (λ x. position_or_len (eq x) gs) w.answer (λ x m. sym (stays eq x r.goals (arguments_of answer) (known x (w.closed x m))));
        closed = λ x m. all-keeps eq exact reflexive r.goals (arguments_of answer) x (w.closed x m);
      }

  sound-step : (r t : Machine G) (e : Entry) → Steps eq IsAnswer r e t → IsSound r → IsSound t
  sound-step r t (Claim worker row) h s = subst IsSound (sym h.1) (sound-claim r worker row s h.0)
  sound-step r t (File worker row) h s =
      subst IsSound (sym h.rows_after) (sound-file r worker row h.goal h.answer s h.held h.has_goal h.is_answer)

  sound-from : (r t : Machine G) (es : List Entry) → Replays eq IsAnswer r es t → IsSound r → IsSound t
  sound-from r t [] h s = subst IsSound (sym h) s
  sound-from r t (e ∷ es) h s = sound-from h.0 t es h.2 (sound-step r h.0 e h.1 s)

  -- The rows of a legal history have distinct goals, which lie in the closure; each filed row holds an answer of its goal.
  pub replay-sound : (es : List Entry) (t : Machine G) → Replays eq IsAnswer (begun start) es t → IsSound t
  replay-sound es t h = sound-from (begun start) t es h sound-begun

  -- a legal history with more rows shows that the closure has more goals
  pub shows-goals : (r : Machine G) (n : ℕ) → IsSound r → n < length r.goals → HasMoreGoals IsAnswer start n
  shows-goals r n s h = (r.goals, s.distinct, s.reached, h)

  -- the goals of the filed rows, each with an answer
  record FiledPart (gs : List G) (ss : List RowState) : Type 0 where
    goals : List G
    answers : List (Answer G)
    answered : AllZip IsAnswer goals answers
    within : (g : G) → Contains goals g → Contains gs g
    distinct : AreDistinct gs → AreDistinct goals
    rules : sum_by rule_count answers ≡ rules_in ss

  -- each filed row has an answer of its goal with as many rules
  abbrev Backed : List G → List RowState → Type 0
  Backed gs ss =
      (k : ℕ) (g : G) (a : Answer ℕ) → slice_get gs k ≡ Some g → slice_get ss k ≡ Some (Filed a) → (b : Answer G) × IsAnswer g b × (rule_count a ≡ rule_count b)

  pass-over : (x : G) (s : RowState) (gs : List G) (ss : List RowState) → rules_weight s ≡ 0 → FiledPart gs ss
      → FiledPart (x ∷ gs) (s ∷ ss)
  pass-over x s gs ss none p = record {
    goals = p.goals;
    answers = p.answers;
    answered = p.answered;
    within = λ g m. Contains-later g x gs (p.within g m);
    distinct = λ d. p.distinct d.1;
    rules = omega (arith, p.rules, sum_by-cons rules_weight s ss);
  }

  filed-part : (gs : List G) (ss : List RowState) → length ss ≡ length gs → Backed gs ss → FiledPart gs ss
  filed-part [] [] e c = record { goals = []; answers = []; answered = tt; within = λ g m. m; distinct = λ d. d; rules = refl }
  filed-part [] (s ∷ ss) e c = absurd (omega arith)
  filed-part (x ∷ gs) [] e c = absurd (omega arith)
  filed-part (x ∷ gs) (Free ∷ ss) e c = pass-over x Free gs ss refl (filed-part gs ss (omega arith) (λ k. c (suc k)))
  filed-part (x ∷ gs) (Held worker ∷ ss) e c =
      pass-over x (Held worker) gs ss refl (filed-part gs ss (omega arith) (λ k. c (suc k)))
  filed-part (x ∷ gs) (Filed a ∷ ss) e c =
      let p = filed-part gs ss (omega arith) (λ k. c (suc k)) in
      let b = c zero x a refl refl in record {
        goals = x ∷ p.goals;
        answers = b.0 ∷ p.answers;
        answered = (b.1, p.answered);
        within = λ g m. elim (Contains-cases x p.goals g m) [ inl q ↦ Contains-head g x gs q | inr n ↦ Contains-later g x gs (p.within g n) ];
        distinct = λ d. (λ m. d.0 (p.within x m), p.distinct d.1);
        rules = omega (arith, p.rules, sum_by-cons rules_weight (Filed a) ss, sum_by-cons rule_count b.0 p.answers, b.2);
      }

  backed : (r : Machine G) → IsSound r → Backed r.goals r.states
  backed r s k g a e f =
      let w = s.answered k g a e f in
      (w.answer, w.is_answer, ap rule_count w.is_numbered ∙ mapped-count (λ x. position_or_len (eq x) r.goals) w.answer)

  -- a legal history whose filed rows have more rules shows that the closure has
  pub shows-rules : (r : Machine G) (n : ℕ) → IsSound r → n < rules_in r.states → HasMoreRules IsAnswer start n
  shows-rules r n s h =
      let p = filed-part r.goals r.states s.paired (backed r s) in record {
        goals = p.goals;
        answers = p.answers;
        distinct = p.distinct s.distinct;
        reached = λ g m. s.reached g (p.within g m);
        answered = p.answered;
        more = omega (arith, p.rules);
      }

  module _ (unique : HasUniqueAnswers IsAnswer) where
    filed-answer : (x : RowState) → IsFiled x → (a : Answer ℕ) × (x ≡ Filed a)
    filed-answer Free q = absurd q
    filed-answer (Held worker) q = absurd q
    filed-answer (Filed a) q = (a, refl)

    -- the row of a goal, if all rows are filed
    row-of : (r : Machine G) → IsSound r → AllFiled r → (g : G) → Contains r.goals g
        → (k : ℕ) × (a : Answer ℕ) × (slice_get r.goals k ≡ Some g) × (slice_get r.states k ≡ Some (Filed a))
    row-of r s f g m =
        let p = Contains-place r.goals g m in
        let x = get-some r.states p.0 (omega (arith, s.paired, slice_get_within r.goals p.0 g p.1)) in
        let a = filed-answer x.0 (f p.0 x.0 x.1) in
        (p.0, a.0, p.1, x.1 ∙ ap Some a.1)

    -- what is reached has a row, if all rows are filed
    pub complete-reaches : (r : Machine G) → IsSound r → AllFiled r → (g : G) → IsReached IsAnswer start g → Contains r.goals g
    complete-reaches r s f start' at_start = Contains-at r.goals 0 start s.begins
    complete-reaches r s f h (at_argument g h' a reached is m) =
        let p = row-of r s f g (complete-reaches r s f g reached) in
        let w = s.answered p.0 g p.1 p.2 p.3 in
        w.closed h (subst (λ b. Contains (arguments_of b) h) (unique g a w.answer is w.is_answer) m)

    -- goals with their answers, as rows that are numbered by the goals
    answer_rows : List G → List G → List (Answer G) → List (Row G)
    answer_rows goals [] answers = []
    answer_rows goals (g ∷ gs) [] = []
    answer_rows goals (g ∷ gs) (a ∷ answers) = record { goal = g; answer = numbered eq goals a } ∷ answer_rows goals gs answers

    rows-goals : (goals gs : List G) (answers : List (Answer G)) → AllZip IsAnswer gs answers
        → goals_of (answer_rows goals gs answers) ≡ gs
    unfolding answer_rows
    rows-goals goals [] answers z = refl
    rows-goals goals (g ∷ gs) [] z = absurd z
    rows-goals goals (g ∷ gs) (a ∷ answers) z = ap (λ l. g ∷ l) (rows-goals goals gs answers z.1)

    abbrev row_rules : Row G → ℕ
    row_rules row = rule_count row.answer

    rows-rules : (goals gs : List G) (answers : List (Answer G)) → AllZip IsAnswer gs answers
        → sum_by row_rules (answer_rows goals gs answers) ≡ sum_by rule_count answers
    unfolding answer_rows
    rows-rules goals [] [] z = refl
    rows-rules goals [] (a ∷ answers) z = absurd z
    rows-rules goals (g ∷ gs) [] z = absurd z
    rows-rules goals (g ∷ gs) (a ∷ answers) z =
        let row : Row G = record { goal = g; answer = numbered eq goals a } in
        let rest = rows-rules goals gs answers z.1 in
        omega (arith, sum_by-cons row_rules row (answer_rows goals gs answers), sum_by-cons rule_count a answers, mapped-count (λ x. position_or_len (eq x) goals) a)

    filed-rules : (gs : List G) (ss : List RowState) → length ss ≡ length gs → EachFiled ss
        → sum_by row_rules (filed_rows gs ss) ≡ rules_in ss
    filed-rules [] [] e f = refl
    filed-rules [] (s ∷ ss) e f = absurd (omega arith)
    filed-rules (x ∷ gs) [] e f = absurd (omega arith)
    filed-rules (x ∷ gs) (Free ∷ ss) e f = absurd (f zero Free refl)
    filed-rules (x ∷ gs) (Held worker ∷ ss) e f = absurd (f zero (Held worker) refl)
    filed-rules (x ∷ gs) (Filed a ∷ ss) e f =
        let row : Row G = record { goal = x; answer = a } in
        let rest = filed-rules gs ss (omega arith) (λ k s h. f (suc k) s h) in
        omega (arith, sum_by-cons row_rules row (filed_rows gs ss), sum_by-cons rules_weight (Filed a) ss)

    -- if all rows are filed, each goal of the closure has the row that its answer gives
    row-there : (r : Machine G) → IsSound r → AllFiled r → (g : G) (a : Answer G) → IsReached IsAnswer start g
        → IsAnswer g a → Contains (filed_rows r.goals r.states) (record { goal = g; answer = numbered eq r.goals a })
    row-there r s f g a reached is =
        let p = row-of r s f g (complete-reaches r s f g reached) in
        let w = s.answered p.0 g p.1 p.2 p.3 in
        let same : p.1 ≡ numbered eq r.goals a = w.is_numbered ∙ ap (numbered eq r.goals) (unique g w.answer a w.is_answer is) in
        let at = filed-at r.goals r.states p.0 g p.1 f p.2 p.3 in
        Contains-at (filed_rows r.goals r.states) p.0 (record { goal = g; answer = numbered eq r.goals a }) (at ∙ (λ i. Some (record { goal = g; answer = same i })))

    rows-within : (r : Machine G) → IsSound r → AllFiled r → (gs : List G) (answers : List (Answer G))
        → AllZip IsAnswer gs answers → AllReached IsAnswer start gs → (row : Row G)
        → Contains (answer_rows r.goals gs answers) row → Contains (filed_rows r.goals r.states) row
    unfolding answer_rows
    rows-within r s f [] answers z q row m = absurd (Contains-nil row m)
    rows-within r s f (g ∷ gs) [] z q row m = absurd z
    rows-within r s f (g ∷ gs) (a ∷ answers) z q row m =
        let this : Row G = record { goal = g; answer = numbered eq r.goals a } in
        elim (Contains-cases this (answer_rows r.goals gs answers) row m) [
          | inl e ↦ subst (λ o. Contains (filed_rows r.goals r.states) o) (sym e) (row-there r s f g a (q g (Contains-here g gs)) z.0)
          | inr n ↦ rows-within r s f gs answers z.1 (λ x k. q x (Contains-later x g gs k)) row n
        ]

    -- if all rows are filed, goals of the closure have no more rules than the rows
    rules-within : (r : Machine G) → IsSound r → AllFiled r → (n : ℕ) → HasMoreRules IsAnswer start n → n < rules_in r.states
    rules-within r s f n m =
        let rows = answer_rows r.goals m.goals m.answers in
        let distinct = AreDistinct-from_map (λ (row : Row G). row.goal) rows (subst AreDistinct (sym (rows-goals r.goals m.goals m.answers m.answered)) m.distinct) in
        let less = sum_by-within row_rules rows (filed_rows r.goals r.states) distinct (rows-within r s f m.goals m.answers m.answered m.reached) in
        omega (arith, m.more, less, rows-rules r.goals m.goals m.answers m.answered, filed-rules r.goals r.states s.paired f)

    -- The rows of a complete history show that the closure isn't larger than they are.
    pub complete-within : (r : Machine G) (goals rules : ℕ) → IsSound r → AllFiled r → length r.goals ≤ goals
        → rules_in r.states ≤ rules → IsTooLarge IsAnswer start goals rules → ⊥
    complete-within r goals rules s f few less large = elim large [
      | inl m ↦ (let h = length-within m.0 r.goals m.1 (λ x k. complete-reaches r s f x (m.2 x k)) in let w = m.3 in omega arith)
      | inr m ↦ (let h = rules-within r s f rules m in omega arith)
    ]

    -- The rows of a legal complete history are the closure.
    pub complete-closure : (r : Machine G) → IsSound r → AllFiled r → IsClosure eq IsAnswer start (filed_rows r.goals r.states)
    complete-closure r s f =
        let goals = sym (filed-goals r.goals r.states s.paired f) in record {
          first = subst (λ l. slice_get l 0 ≡ Some start) goals s.begins;
          distinct = subst AreDistinct goals s.distinct;
          reached = subst (AllReached IsAnswer start) goals s.reached;
          whole = subst (λ l. (g : G) → IsReached IsAnswer start g → Contains l g) goals (complete-reaches r s f);
          answered = λ k row e.
              (let p = filed-parts r.goals r.states k row e in
              let w = s.answered k row.goal row.answer p.0 p.1 in
              (w.answer, w.is_answer, subst (λ l. row.answer ≡ numbered eq l w.answer) goals w.is_numbered));
        }
