-- The rows of a closure that are found from one of them, renumbered breadth first, are the canonical ones of its goal.
use Rattle.std.proofs.Common.{ℕ, zero, suc, ◌≡◌, ◌+◌, ◌≤◌, refl, sym, ◌∙◌, subst, ap, ◌⊎◌, inl, inr, List, [], ◌∷◌, Option, None, Some, length, map, slice_get, arith, Bool, true, false, cond, not}
use Rattle.std.specs.Prelude.{nat_eq, option_map, Contains}
use Rattle.std.specs.List.{position_or_len, filter_map, cons_option}
use Rattle.std.proofs.lemmas.List.{length-map}
use Rattle.std.proofs.lemmas.Option.{slice_get-map}
use Rattle.indexmap.specs.IndexSet.{insert_all}
use Rattle.cls_base.specs.Lists.{AreDistinct}
use Rattle.cls_base.proofs.Lists.{Contains-nil, Contains-here, Contains-later, Contains-cases, Contains-at, AreDistinct-one_place, length-within}
use Rattle.cls_core.specs.declared.answer.Answer.{Answer}
use Rattle.cls_core.specs.declared.answer.Answer.TheVariants.{Wide}
use Rattle.cls_core.specs.Arguments.{HasUniqueAnswers, arguments_of}
use Rattle.cls_core.specs.Machine.{numbered}
use Rattle.cls_core.specs.Rows.{Row}
use Rattle.cls_core.specs.Closure.{IsReached, at_start, at_argument, AllReached, HoldsAnswer, IsClosure, goals_of}
use Rattle.cls_core.specs.Canonical.{IsNumbering, IsCanonical}
use Rattle.cls_core.specs.Renumbering.{worked_off, found, answer_in, row_answer, placed, renumbered, renumbered_from}
use Rattle.cls_core.proofs.Closure.{answer-alike}
use Rattle.cls_core.proofs.Canonical.{canonical-unique}
use Rattle.cls_core.proofs.Finding.{found-reached, found-numbering}
use Rattle.cls_core.proofs.OneToOne.{answer-arguments, answer-twice, place-same, all-same}

module _ {G : Type 0} (eq : G → G → Bool) (exact : (x y : G) → eq x y ≡ true → x ≡ y) (reflexive : (x : G) → eq x x ≡ true) where
  -- a goal stands at its place
  pub place-is : (gs : List G) (g : G) → Contains gs g → slice_get gs (position_or_len (eq g) gs) ≡ Some g
  place-is [] g m = absurd (Contains-nil g m)
  place-is (x ∷ gs) g m = by (place-is gs g) (eq g x) refl (Contains-cases x gs g m)
    where
      by : (Contains gs g → slice_get gs (position_or_len (eq g) gs) ≡ Some g) → (b : Bool) → eq g x ≡ b
          → (g ≡ x) ⊎ Contains gs g → slice_get (x ∷ gs) (cond (not b) (1 + position_or_len (eq g) gs) 0) ≡ Some g
      by rest true e n = ap Some (sym (exact g x e))
      by rest false e (inl s) = (let t = subst (λ y. eq g y ≡ true) s (reflexive g) in cc)
      by rest false e (inr n) =
          ap (slice_get (x ∷ gs)) (let h : 1 + position_or_len (eq g) gs ≡ suc (position_or_len (eq g) gs) = omega arith in h) ∙ rest n

  module _ (IsAnswer : G → Answer G → Type 0) where
    -- the row of a goal, numbered by the goals
    abbrev row_of : (G → Answer G) → List G → G → Row G
    row_of answer gs g = record { goal = g; answer = numbered eq gs (answer g) }

    goals-are : (answer : G → Answer G) (gs hs : List G) → goals_of (map (row_of answer gs) hs) ≡ hs
    goals-are answer gs [] = refl
    goals-are answer gs (h ∷ hs) = ap (λ l. h ∷ l) (goals-are answer gs hs)

    answers-are : (answer : G → Answer G) (gs hs : List G) → ((g : G) → Contains hs g → IsAnswer g (answer g))
        → (k : ℕ) (r : Row G) → slice_get (map (row_of answer gs) hs) k ≡ Some r → HoldsAnswer eq IsAnswer gs r
    answers-are answer gs [] q k r e = cc
    answers-are answer gs (h ∷ hs) q zero r e =
        subst (HoldsAnswer eq IsAnswer gs) (inside (row_of answer gs h) r e) (answer h, q h (Contains-here h hs), refl)
      where
        inside : (p q : Row G) → Some p ≡ Some q → p ≡ q
        inside p q e = cc
    answers-are answer gs (h ∷ hs) q (suc k) r e = answers-are answer gs hs (λ x m. q x (Contains-later x h hs m)) k r e

    -- goals in their canonical order, each with its answer, are canonical rows
    canonical-of : (start : G) (answer : G → Answer G) (gs : List G) → ((g : G) → Contains gs g → IsAnswer g (answer g))
        → IsNumbering IsAnswer start gs → IsCanonical eq IsAnswer start (map (row_of answer gs) gs)
    canonical-of start answer gs q n = record {
      numbering = subst (IsNumbering IsAnswer start) (sym (goals-are answer gs gs)) n;
      answered = λ k r e. subst (λ l. HoldsAnswer eq IsAnswer l r) (sym (goals-are answer gs gs)) (answers-are answer gs gs q k r e);
    }

    -- what is reached from a goal that is reached
    pub reached-on : (start from : G) → IsReached IsAnswer start from → (g : G) → IsReached IsAnswer from g → IsReached IsAnswer start g
    reached-on start from r g at_start = r
    reached-on start from r h (at_argument g h' a s i m) = at_argument g h a (reached-on start from r g s) i m

  module _ (IsAnswer : G → Answer G → Type 0) (start : G) where
    module _ (rows : List (Row G)) (c : IsClosure eq IsAnswer start rows) where
      -- the number of the goal's row
      abbrev place : G → ℕ
      place g = position_or_len (eq g) (goals_of rows)

      abbrev Known : List G → Type 0
      Known gs = (g : G) → Contains gs g → Contains (goals_of rows) g

      apart : (g h : G) → Contains (goals_of rows) g → Contains (goals_of rows) h → place g ≡ place h → g ≡ h
      apart g h m n e =
          let p = place-is (goals_of rows) g m in
          let q = place-is (goals_of rows) h n in
          let s : Some g ≡ Some h = sym p ∙ (ap (slice_get (goals_of rows)) e ∙ q) in
          cc

      pub place-of : (k : ℕ) (g : G) → slice_get (goals_of rows) k ≡ Some g → place g ≡ k
      place-of k g e =
          AreDistinct-one_place (goals_of rows) (place g) k g c.distinct (place-is (goals_of rows) g (Contains-at (goals_of rows) k g e)) e

      -- the answer of a goal that the row at its place holds
      chosen : (g : G) (o : Option (Row G)) → slice_get rows (place g) ≡ o → Answer G
      chosen g None e = Wide
      chosen g (Some r) e = (c.answered (place g) r e).0

      pub the_answer : G → Answer G
      the_answer g = chosen g (slice_get rows (place g)) refl

      -- the row at a known goal's place holds that answer
      abbrev HasRow : G → Answer G → Type 0
      HasRow g a = IsAnswer g a × (slice_get rows (place g) ≡ Some (record { goal = g; answer = numbered eq (goals_of rows) a }))

      chosen-row : (g : G) → Contains (goals_of rows) g → (o : Option (Row G)) (e : slice_get rows (place g) ≡ o)
          → HasRow g (chosen g o e)
      unfolding chosen
      chosen-row g m None e =
          let p = place-is (goals_of rows) g m in
          let q = slice_get-map (λ (r : Row G). r.goal) rows (place g) in
          let t : option_map (λ (r : Row G). r.goal) (slice_get rows (place g)) ≡ None = ap (option_map (λ (r : Row G). r.goal)) e in
          cc
      chosen-row g m (Some r) e =
          let t : Some r.goal ≡ Some g = ap (option_map (λ (r : Row G). r.goal)) (sym e) ∙ (sym (slice_get-map (λ (r : Row G). r.goal) rows (place g)) ∙ place-is (goals_of rows) g m) in
          let goal : r.goal ≡ g = cc in
          let a = c.answered (place g) r e in
          (subst (λ x. IsAnswer x a.0) goal a.1, e ∙ (λ i. Some (record { goal = goal i; answer = a.2 i })))

      row-at : (g : G) → Contains (goals_of rows) g → HasRow g (the_answer g)
      unfolding the_answer
      row-at g m = chosen-row g m (slice_get rows (place g)) refl

      pub answer-is : (g : G) → Contains (goals_of rows) g → IsAnswer g (the_answer g)
      answer-is g m = (row-at g m).0

      reached-answer : (g : G) → IsReached IsAnswer start g → IsAnswer g (the_answer g)
      reached-answer g r = answer-is g (c.whole g r)

      -- each argument of a known goal is known
      pub argument-known : (g : G) → Contains (goals_of rows) g → Known (arguments_of (the_answer g))
      argument-known g m h n = c.whole h (at_argument g h (the_answer g) (c.reached g m) (answer-is g m) n)

      pub answer-at : (g : G) → Contains (goals_of rows) g
          → slice_get rows (place g) ≡ Some (record { goal = g; answer = numbered eq (goals_of rows) (the_answer g) })
      answer-at g m = (row-at g m).1

      work-same : (gs : List G) (k : ℕ) (o : Option G) → slice_get gs k ≡ o → Known gs
          → worked_off nat_eq (row_answer rows) (map place gs) (option_map place o) ≡ map place (worked_off eq the_answer gs o)
      work-same gs k None e q = refl
      work-same gs k (Some g) e q =
          let m : Contains (goals_of rows) g = q g (Contains-at gs k g e) in
          ap (λ o. insert_all nat_eq (map place gs) (arguments_of (answer_in o))) (answer-at g m)
          ∙ (ap (insert_all nat_eq (map place gs)) (answer-arguments place (the_answer g))
          ∙ all-same eq exact reflexive place (goals_of rows) apart gs (arguments_of (the_answer g)) q (argument-known g m))

      placed-same : (gs : List G) (g : G) → Known gs → Contains (goals_of rows) g
          → placed (map place gs) (row_of IsAnswer the_answer (goals_of rows) g) ≡ row_of IsAnswer the_answer gs g
      placed-same gs g q m =
          let answers : numbered nat_eq (map place gs) (numbered eq (goals_of rows) (the_answer g)) ≡ numbered eq gs (the_answer g) =
          answer-twice place (λ n. position_or_len (nat_eq n) (map place gs)) (the_answer g)
          ∙ answer-alike (λ x. position_or_len (nat_eq (place x)) (map place gs)) (λ x. position_or_len (eq x) gs) (the_answer g) (λ x n. place-same eq exact reflexive place (goals_of rows) apart gs x q (argument-known g m x n)) in
          λ i. record { goal = g; answer = answers i }

      rows-same : (gs hs : List G) → Known gs → Known hs
          → map (placed (map place gs)) (filter_map (slice_get rows) (map place hs)) ≡ map (row_of IsAnswer the_answer gs) hs
      rows-same gs [] q r = refl
      rows-same gs (h ∷ hs) q r =
          ap (λ o. map (placed (map place gs)) (cons_option o (filter_map (slice_get rows) (map place hs)))) (answer-at h (r h (Contains-here h hs)))
          ∙ (λ i. placed-same gs h q (r h (Contains-here h hs)) i ∷ rows-same gs hs q (λ x m. r x (Contains-later x h hs m)) i)

      -- the rows that are found from the row of a goal
      module _ (from : G) (stands : IsReached IsAnswer start from) where
        on : (g : G) → IsReached IsAnswer from g → IsReached IsAnswer start g
        on g r = reached-on IsAnswer start from stands g r

        answered-from : (g : G) → IsReached IsAnswer from g → IsAnswer g (the_answer g)
        answered-from g r = reached-answer g (on g r)

        found-known : (k : ℕ) → Known (found eq the_answer from k)
        found-known k g m = c.whole g (on g (found-reached eq exact reflexive IsAnswer from the_answer answered-from k g m))

        -- the numbers that are found are the numbers of the goals that are found
        found-same : (k : ℕ) → found nat_eq (row_answer rows) (place from) k ≡ map place (found eq the_answer from k)
        found-same zero = refl
        found-same (suc k) =
            let gs = found eq the_answer from k in
            ap (λ ns. worked_off nat_eq (row_answer rows) ns (slice_get ns k)) (found-same k)
            ∙ (ap (worked_off nat_eq (row_answer rows) (map place gs)) (slice_get-map place gs k)
            ∙ work-same gs k (slice_get gs k) refl (found-known k))

        few : (gs : List G) → AreDistinct gs → AllReached IsAnswer from gs → length gs ≤ length rows
        few gs d q =
            omega (arith, length-within gs (goals_of rows) d (λ x m. c.whole x (on x (q x m))), length-map rows (λ (r : Row G). r.goal))

        -- Renumbered from there, the rows are the canonical ones of the goal.
        pub renumbered_from-canonical : IsCanonical eq IsAnswer from (renumbered_from (place from) rows)
        renumbered_from-canonical =
            let gs = found eq the_answer from (length rows) in
            let same : renumbered_from (place from) rows ≡ map (row_of IsAnswer the_answer gs) gs =
            ap (λ ns. map (placed ns) (filter_map (slice_get rows) ns)) (found-same (length rows))
            ∙ rows-same gs gs (found-known (length rows)) (found-known (length rows)) in
            let known = λ (g : G) (m : Contains gs g). answer-is g (found-known (length rows) g m) in
            subst (IsCanonical eq IsAnswer from) (sym same) (canonical-of IsAnswer from the_answer gs known (found-numbering eq exact reflexive IsAnswer from the_answer answered-from (length rows) few))

      -- the same from the row with this number
      pub renumbered_at-canonical : (k : ℕ) (g : G) → slice_get (goals_of rows) k ≡ Some g → IsCanonical eq IsAnswer g (renumbered_from k rows)
      renumbered_at-canonical k g e =
          subst (λ (n : ℕ). IsCanonical eq IsAnswer g (renumbered_from n rows)) (place-of k g e)
          (renumbered_from-canonical g (c.reached g (Contains-at (goals_of rows) k g e)))

      -- Renumbered, the rows of the closure are the canonical ones.
      pub renumbered-canonical : IsCanonical eq IsAnswer start (renumbered rows)
      renumbered-canonical = renumbered_at-canonical 0 start c.first

    -- Renumbered, the rows of the closure are the same whatever history they came from.
    pub renumbered-agree : HasUniqueAnswers IsAnswer → (rows others : List (Row G)) → IsClosure eq IsAnswer start rows
        → IsClosure eq IsAnswer start others → renumbered rows ≡ renumbered others
    renumbered-agree unique rows others c d =
        canonical-unique IsAnswer start unique eq (renumbered rows) (renumbered others) (renumbered-canonical rows c) (renumbered-canonical others d)
