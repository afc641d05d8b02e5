-- A store that keeps rows stays one.
use Rattle.std.proofs.Common.{◌≡◌, ℕ, zero, suc, ◌+◌, ◌<◌, ◌≤◌, Bool, true, false, List, [], ◌∷◌, ◌++◌, Some, length, map, get_or, slice_get, refl, sym, ap, subst, ◌∙◌, arith, append_assoc, append-nil, length-append, if◌then◌else◌, cond, not, ◌||◌}
use Rattle.std.specs.Prelude.{Contains}
use Rattle.std.specs.List.{AllZip, list_any, position_or_len, sum_by}
use Rattle.std.proofs.lemmas.List.Sums.{sum_by-cons}
use Rattle.std.proofs.lemmas.List.Elements.{Contains-append_left, Contains-append_right}
use Rattle.indexmap.specs.IndexSet.{insert_key, insert_all}
use Rattle.cls_base.specs.declared.rule.Rule.{Rule}
use Rattle.cls_base.specs.declared.rule.Rule.TheVariants.{Head, Any}
use Rattle.cls_base.proofs.Lists.{Contains-here, Contains-later, Contains-at}
use Rattle.cls_core.specs.declared.answer.Answer.{Answer}
use Rattle.cls_core.specs.declared.answer.Answer.TheVariants.{Rules, Wide}
use Rattle.cls_core.specs.Arguments.{arguments_of, map_answer, rule_count}
use Rattle.cls_base.specs.Arguments.{arguments_of_rule, arguments_in, map_rule}
use Rattle.cls_core.specs.Closure.{IsClosure, at_argument, goals_of}
use Rattle.cls_core.specs.Machine.{rules_in, rules_weight}
use Rattle.cls_core.specs.declared.state.RowState.{RowState}
use Rattle.cls_core.specs.declared.state.RowState.TheVariants.{Free, Held, Filed}
use Rattle.cls_core.specs.Rows.{Row, filed_rows}
use Rattle.cls_core.proofs.Closure.{answer-alike, mapped-count}
use Rattle.cls_core.proofs.Insertion.{all-again, stays}
use Rattle.cls_core.proofs.Members.{contains-any, all-keeps, all-contains}
use Rattle.cls_core.proofs.OneToOne.{answer-twice}
use Rattle.cls_expand.specs.Memos.{rules_together, FitMemo, StoreSeen, HasRoom, alone, AreComplete, IsHeld, IsStore, placed, newcomers, together}
use Rattle.cls_expand.proofs.Adding.{goals-count, up-to}

-- goals in place of numbers in place of goals
module _ {G : Type 0} (f : G → ℕ) (h : ℕ → G) where
  goals-back : (gs : List G) → ((g : G) → Contains gs g → h (f g) ≡ g) → map h (map f gs) ≡ gs
  goals-back [] e = refl
  goals-back (g ∷ gs) e = λ k. e g (Contains-here g gs) k ∷ goals-back gs (λ x m. e x (Contains-later x g gs m)) k

  rule-back : (r : Rule G) → ((g : G) → Contains (arguments_of_rule r) g → h (f g) ≡ g) → map_rule h (map_rule f r) ≡ r
  rule-back (Head component args) e = ap (Head component) (goals-back args e)
  rule-back (Any left right) e =
      λ k. Any (e left (Contains-here left (right ∷ [])) k) (e right (Contains-later right left (right ∷ []) (Contains-here right [])) k)

  rules-back : (rs : List (Rule G)) → ((g : G) → Contains (arguments_in rs) g → h (f g) ≡ g) → map (map_rule h) (map (map_rule f) rs) ≡ rs
  rules-back [] e = refl
  rules-back (r ∷ rs) e =
      λ k. rule-back r (λ x m. e x (Contains-append_left (arguments_of_rule r) (arguments_in rs) x m)) k ∷ rules-back rs (λ x m. e x (Contains-append_right (arguments_of_rule r) (arguments_in rs) x m)) k

  answer-back : (a : Answer G) → ((g : G) → Contains (arguments_of a) g → h (f g) ≡ g) → map_answer h (map_answer f a) ≡ a
  answer-back (Rules rs) e = ap Rules (rules-back rs e)
  answer-back Wide e = refl

module _ {A B : Type 0} {R S : A → B → Type 0} where
  zip-alter : (xs : List A) (ys : List B) → AllZip R xs ys → ((x : A) (y : B) → R x y → S x y) → AllZip S xs ys
  zip-alter [] [] z f = tt
  zip-alter [] (y ∷ ys) z f = absurd z
  zip-alter (x ∷ xs) [] z f = absurd z
  zip-alter (x ∷ xs) (y ∷ ys) z f = (f x y z.0, zip-alter xs ys z.1 f)

module _ {A B : Type 0} (R : A → B → Type 0) where
  zip-push : (xs : List A) (ys : List B) (x : A) (y : B) → AllZip R xs ys → R x y → AllZip R (xs ++ x ∷ []) (ys ++ y ∷ [])
  zip-push [] [] x y z r = (r, tt)
  zip-push [] (v ∷ ys) x y z r = absurd z
  zip-push (u ∷ xs) [] x y z r = absurd z
  zip-push (u ∷ xs) (v ∷ ys) x y z r = (z.0, zip-push xs ys x y z.1 r)

  pub zip-length : (xs : List A) (ys : List B) → AllZip R xs ys → length xs ≡ length ys
  zip-length [] [] z = refl
  zip-length [] (y ∷ ys) z = absurd z
  zip-length (x ∷ xs) [] z = absurd z
  zip-length (x ∷ xs) (y ∷ ys) z = ap suc (zip-length xs ys z.1)

  zip-at : (xs : List A) (ys : List B) (i : ℕ) (d : A) (e : B) → AllZip R xs ys → i < length xs → R (get_or xs i d) (get_or ys i e)
  zip-at [] ys i d e z l = absurd (omega arith)
  zip-at (x ∷ xs) [] i d e z l = absurd z
  zip-at (x ∷ xs) (y ∷ ys) zero d e z l = z.0
  zip-at (x ∷ xs) (y ∷ ys) (suc i) d e z l = zip-at xs ys i d e z.1 (omega arith)

module _ {G : Type 0} where
  zip-parts : (S : G → Answer ℕ → Type 0) (rows : List (Row G)) → ((k : ℕ) (r : Row G) → slice_get rows k ≡ Some r → S r.goal r.answer)
      → AllZip S (goals_of rows) (map (λ (r : Row G). r.answer) rows)
  zip-parts S [] h = tt
  zip-parts S (r ∷ rows) h = (h 0 r refl, zip-parts S rows (λ k q e. h (suc k) q e))

  rules-of-rows : (rows : List (Row G)) → rules_together (map (λ (r : Row G). r.answer) rows) ≡ sum_by (λ (r : Row G). rule_count r.answer) rows
  rules-of-rows [] = refl
  rules-of-rows (r ∷ rows) =
      let h = rules-of-rows rows in
      omega (arith, h, sum_by-cons (λ (r : Row G). rule_count r.answer) r rows, sum_by-cons rule_count r.answer (map (λ (r : Row G). r.answer) rows))

module _ {G : Type 0} (eq : G → G → Bool) where
  key-at-most : (gs : List G) (x : G) → length (insert_key eq gs x) ≤ length gs + 1
  key-at-most gs x =
      elim (list_any (eq x) gs) as (λ b. length (if b then gs else gs ++ x ∷ []) ≤ length gs + 1) [ true ↦ omega arith | false ↦ omega (arith, length-append gs (x ∷ [])) ]

  pub all-at-most : (gs xs : List G) → length (insert_all eq gs xs) ≤ length gs + length xs
  all-at-most gs [] = omega arith
  all-at-most gs (x ∷ xs) = let h = all-at-most (insert_key eq gs x) xs in omega (arith, key-at-most gs x)

  pub rules-at-most : (change : Answer ℕ → Answer ℕ) → ((a : Answer ℕ) → rule_count (change a) ≡ rule_count a) → (gs : List G) (rows : List (Row G))
      → rules_together (newcomers eq change gs rows) ≤ sum_by (λ r. rule_count r.answer) rows
  rules-at-most change same gs [] = omega arith
  rules-at-most change same gs (r ∷ rows) =
      let h = rules-at-most change same (insert_key eq gs r.goal) rows in
      let rest = newcomers eq change (insert_key eq gs r.goal) rows in
      elim (list_any (eq r.goal) gs) as (λ b. rules_together ((if b then [] else change r.answer ∷ []) ++ rest) ≤ sum_by (λ r. rule_count r.answer) (r ∷ rows)) [
        | true ↦ omega (arith, sum_by-cons (λ (r : Row G). rule_count r.answer) r rows)
        | false ↦ omega (arith, sum_by-cons (λ (r : Row G). rule_count r.answer) r rows, sum_by-cons rule_count (change r.answer) rest, same r.answer)
      ]

  pub placed-at-most : (all gs : List G) (rows : List (Row G))
      → rules_together (newcomers eq (placed eq all rows) gs rows) ≤ sum_by (λ r. rule_count r.answer) rows
  placed-at-most all gs rows = rules-at-most (placed eq all rows) (λ a. mapped-count _ a) gs rows

module _ {G : Type 0} (eq : G → G → Bool) (exact : (x y : G) → eq x y ≡ true → x ≡ y) (reflexive : (x : G) → eq x x ≡ true) where
  -- what stands at a goal's place beside the goals
  pub at-place : {B : Type 0} (f : G → B) (gs : List G) (g : G) (d : B) → list_any (eq g) gs ≡ true
      → get_or (map f gs) (position_or_len (eq g) gs) d ≡ f g
  at-place f [] g d e = cc
  at-place f (x ∷ gs) g d e = by (at-place f gs g d) (eq g x) refl e
    where
      by : (list_any (eq g) gs ≡ true → get_or (map f gs) (position_or_len (eq g) gs) d ≡ f g) → (b : Bool) → eq g x ≡ b → (b || list_any (eq g) gs) ≡ true
          → get_or (f x ∷ map f gs) (cond (not b) (1 + position_or_len (eq g) gs) 0) d ≡ f g
      by rest true is h = ap f (sym (exact g x is))
      by rest false is h =
          ap (λ n. get_or (f x ∷ map f gs) n d) (let s : 1 + position_or_len (eq g) gs ≡ suc (position_or_len (eq g) gs) = omega arith in s) ∙ rest h

  mapped-same : (gs : List G) → map (λ g. g) gs ≡ gs
  mapped-same [] = refl
  mapped-same (g ∷ gs) = ap (λ l. g ∷ l) (mapped-same gs)

  pub goal-at-place : (gs : List G) (g d : G) → list_any (eq g) gs ≡ true → get_or gs (position_or_len (eq g) gs) d ≡ g
  goal-at-place gs g d e =
      ap (λ l. get_or l (position_or_len (eq g) gs) d) (sym (mapped-same gs)) ∙ at-place (λ g. g) gs g d e

  module _ (IsAnswer : G → Answer G → Type 0) where
    -- the answer that is held, with goals in place of the numbers
    pub named-answer : (gs : List G) (g d : G) (n : Answer ℕ) (h : IsHeld eq IsAnswer gs g n) → map_answer (λ i. get_or gs i d) n ≡ h.answer
    named-answer gs g d n h =
        ap (map_answer (λ i. get_or gs i d)) h.is_numbered
        ∙ answer-back (λ x. position_or_len (eq x) gs) (λ i. get_or gs i d) h.answer (λ x m. goal-at-place gs x d (contains-any eq exact reflexive gs x (h.closed x m)))

    pub found-answer : (gs : List G) (ns : List (Answer ℕ)) (g : G) (a : Answer ℕ) (i : ℕ) → AllZip (IsHeld eq IsAnswer gs) gs ns → list_any (eq g) gs ≡ true
        → i ≡ position_or_len (eq g) gs → i < length gs → IsHeld eq IsAnswer gs g (get_or ns i a)
    found-answer gs ns g a i z e is l =
        subst (λ x. IsHeld eq IsAnswer gs x (get_or ns i a)) (ap (λ n. get_or gs n g) is ∙ goal-at-place gs g g e) (zip-at (IsHeld eq IsAnswer gs) gs ns i g a z l)

    held-more : (gs xs : List G) (g : G) (n : Answer ℕ) → IsHeld eq IsAnswer gs g n → IsHeld eq IsAnswer (insert_all eq gs xs) g n
    held-more gs xs g n h = record {
      answer = h.answer;
      is_answer = h.is_answer;
      closed = λ x m. all-keeps eq exact reflexive gs xs x (h.closed x m);
      is_numbered = h.is_numbered ∙ answer-alike (λ x. position_or_len (eq x) gs) (λ x. position_or_len (eq x) (insert_all eq gs xs)) h.answer (λ x m. sym (stays eq x gs xs (contains-any eq exact reflexive gs x (h.closed x m))));
    }

    row-held : (start : G) (rows : List (Row G)) → IsClosure eq IsAnswer start rows → (all : List G) → ((x : G) → Contains (goals_of rows) x → Contains all x)
        → (k : ℕ) (r : Row G) → slice_get rows k ≡ Some r → IsHeld eq IsAnswer all r.goal (placed eq all rows r.answer)
    row-held start rows c all within k r e =
        let w = c.answered k r e in
        let among : (x : G) → Contains (arguments_of w.0) x → Contains (goals_of rows) x = λ x m. c.whole x (at_argument r.goal x w.0 (c.reached r.goal (Contains-at (goals_of rows) k r.goal (up-to rows k r e).2)) w.1 m) in
        record {
          answer = w.0;
          is_answer = w.1;
          closed = λ x m. within x (among x m);
          is_numbered =
              ap (placed eq all rows) w.2
              ∙ (answer-twice (λ x. position_or_len (eq x) (goals_of rows)) (λ i. get_or (map (λ x. position_or_len (eq x) all) (goals_of rows)) i 0) w.0
              ∙ answer-alike (λ x. get_or (map (λ y. position_or_len (eq y) all) (goals_of rows)) (position_or_len (eq x) (goals_of rows)) 0) (λ x. position_or_len (eq x) all) w.0 (λ x m. at-place (λ y. position_or_len (eq y) all) (goals_of rows) x 0 (contains-any eq exact reflexive (goals_of rows) x (among x m))));
        }

  zip-rows : (S : G → Answer ℕ → Type 0) (change : Answer ℕ → Answer ℕ) (ks : List G) (us : List (Answer ℕ)) (rows : List (Row G)) → AllZip S ks us
      → ((k : ℕ) (r : Row G) → slice_get rows k ≡ Some r → S r.goal (change r.answer)) → AllZip S (insert_all eq ks (goals_of rows)) (us ++ newcomers eq change ks rows)
  zip-rows S change ks us [] z h = subst (λ l. AllZip S ks l) (sym (append-nil us)) z
  zip-rows S change ks us (r ∷ rows) z h =
      by (λ vs y. zip-rows S change (insert_key eq ks r.goal) vs rows y (λ k q f. h (suc k) q f)) (list_any (eq r.goal) ks) refl
    where
      rest : List (Answer ℕ)
      rest = newcomers eq change (insert_key eq ks r.goal) rows

      by : ((vs : List (Answer ℕ)) → AllZip S (insert_key eq ks r.goal) vs → AllZip S (insert_all eq (insert_key eq ks r.goal) (goals_of rows)) (vs ++ rest))
          → (b : Bool) → list_any (eq r.goal) ks ≡ b → AllZip S (insert_all eq (insert_key eq ks r.goal) (goals_of rows)) (us ++ newcomers eq change ks (r ∷ rows))
      by more true e =
          let same : insert_key eq ks r.goal ≡ ks = ap (λ (b : Bool). if b then ks else ks ++ r.goal ∷ []) e in
          subst (λ l. AllZip S (insert_all eq (insert_key eq ks r.goal) (goals_of rows)) (us ++ l)) (sym (ap (λ (b : Bool). (if b then [] else change r.answer ∷ []) ++ rest) e))
          (more us (subst (λ l. AllZip S l us) (sym same) z))
      by more false e =
          let one : insert_key eq ks r.goal ≡ ks ++ r.goal ∷ [] = ap (λ (b : Bool). if b then ks else ks ++ r.goal ∷ []) e in
          subst (λ l. AllZip S (insert_all eq (insert_key eq ks r.goal) (goals_of rows)) l)
          (append_assoc us (change r.answer ∷ []) rest ∙ ap (λ l. us ++ l) (sym (ap (λ (b : Bool). (if b then [] else change r.answer ∷ []) ++ rest) e)))
          (more (us ++ change r.answer ∷ []) (subst (λ l. AllZip S l (us ++ change r.answer ∷ [])) (sym one) (zip-push S ks us r.goal (change r.answer) z (h 0 r refl))))

  module _ {B : Type 0} (IsAnswer : B → G → Answer G → Type 0) where
    -- with rows that are complete, a store is one if there is room
    pub together-store : (s : StoreSeen B G) (rows : List (Row G)) → IsStore eq IsAnswer s → AreComplete eq (IsAnswer s.tag) rows
        → HasRoom (together eq s rows) → IsStore eq IsAnswer (together eq s rows)
    together-store s rows h c room = record {
      answered = zip-rows (IsHeld eq (IsAnswer s.tag) (insert_all eq s.goals (goals_of rows))) (placed eq (insert_all eq s.goals (goals_of rows)) rows) s.goals s.answers rows (zip-alter s.goals s.answers h.answered (λ g n k. held-more (IsAnswer s.tag) s.goals (goals_of rows) g n k)) (λ k r e. row-held (IsAnswer s.tag) c.0 rows c.1 (insert_all eq s.goals (goals_of rows)) (λ x m. all-contains eq exact reflexive s.goals (goals_of rows) x m) k r e);
      room = room;
    }

    -- so are rows alone
    pub alone-store : (s : StoreSeen B G) (rows : List (Row G)) → AreComplete eq (IsAnswer s.tag) rows → FitMemo rows → IsStore eq IsAnswer (alone s rows)
    alone-store s rows c fit =
        let closure = c.1 in
        record {
          answered = zip-parts (IsHeld eq (IsAnswer s.tag) (goals_of rows)) rows (λ k r e.
              let w = closure.answered k r e in record {
                answer = w.0;
                is_answer = w.1;
                closed = λ x m. closure.whole x (at_argument r.goal x w.0 (closure.reached r.goal (Contains-at (goals_of rows) k r.goal (up-to rows k r e).2)) w.1 m);
                is_numbered = w.2;
              });
          room = (let a = goals-count rows in omega (arith, fit.0), let b = rules-of-rows rows in omega (arith, fit.1));
        }

    -- what an addition makes of a store
    pub added-is : (s : StoreSeen B G) (rows : List (Row G)) (tag : B) (ks ls more : List G) (us vs extra : List (Answer ℕ)) → record { tag = tag; goals = ks; answers = us } ≡ s
        → ls ≡ insert_all eq ks more → vs ≡ us ++ extra → s.goals ++ more ≡ insert_all eq s.goals (goals_of rows) → s.answers ++ extra ≡ (together eq s rows).answers
        → record { tag = tag; goals = ls; answers = vs } ≡ together eq s rows
    added-is s rows tag ks ls more us vs extra is l v goals answers =
        let t : tag ≡ s.tag = ap (λ (s : StoreSeen B G). s.tag) is in
        let k : ls ≡ insert_all eq s.goals (goals_of rows) = l ∙ (ap (λ (s : StoreSeen B G). insert_all eq s.goals more) is ∙ all-again eq s.goals more (goals_of rows) goals) in
        let u : vs ≡ (together eq s rows).answers = v ∙ (ap (λ (s : StoreSeen B G). s.answers ++ extra) is ∙ answers) in
        λ j. record { tag = t j; goals = k j; answers = u j }

-- what rows alone make of a store
module _ {B G : Type 0} where
  pub alone-is : (s : StoreSeen B G) (rows : List (Row G)) (tag : B) (ls : List G) (vs : List (Answer ℕ)) → tag ≡ s.tag
      → ls ≡ goals_of rows → vs ≡ map (λ (r : Row G). r.answer) rows → record { tag = tag; goals = ls; answers = vs } ≡ alone s rows
  alone-is s rows tag ls vs t l v = λ j. record { tag = t j; goals = l j; answers = v j }

module _ {G : Type 0} where
  -- filed rows are no more, and have no more rules together, than the goals and states of the machine
  pub filed-at-most : (gs : List G) (ss : List RowState) → (length (filed_rows gs ss) ≤ length gs) × (sum_by (λ r. rule_count r.answer) (filed_rows gs ss) ≤ rules_in ss)
  filed-at-most [] ss = (omega arith, omega arith)
  filed-at-most (g ∷ gs) [] = (omega arith, omega arith)
  filed-at-most (g ∷ gs) (Free ∷ ss) = (omega arith, omega arith)
  filed-at-most (g ∷ gs) (Held worker ∷ ss) = (omega arith, omega arith)
  filed-at-most (g ∷ gs) (Filed a ∷ ss) =
      let h = filed-at-most gs ss in
      (let a = h.0 in omega arith, let b = h.1 in omega (arith, sum_by-cons (λ (r : Row G). rule_count r.answer) (record { goal = g; answer = a }) (filed_rows gs ss), sum_by-cons rules_weight (Filed a) ss))
