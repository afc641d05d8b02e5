-- What the rows of a closure generate, if their rules are those of a typing.
use Rattle.std.proofs.Common.{◌≡◌, ◌≢◌, ℕ, zero, suc, ◌+◌, ◌<◌, ◌≤◌, ◌↔◌, Bool, true, List, [], ◌∷◌, Option, None, Some, length, map, slice_get, refl, sym, ap, subst, ◌∙◌, arith, ◌⊎◌, inl, inr}
use Rattle.std.specs.Prelude.{All, Contains}
use Rattle.std.specs.List.{position_or_len}
use Rattle.std.proofs.lemmas.Option.{slice_get_within}
use Rattle.std.proofs.lemmas.List.Elements.{Contains-append_left, Contains-append_right}
use Rattle.cls_base.specs.Terms.{Applicative, component, apply, length_of}
use Rattle.cls_base.specs.Spines.{spine}
use Rattle.cls_base.specs.declared.rule.Rule.{Rule}
use Rattle.cls_base.specs.declared.rule.Rule.TheVariants.{Head, Any}
use Rattle.cls_base.specs.Languages.{Generates, Applies, by_head, by_any, done, next, NodeRule, IsGenerated, rules_at}
use Rattle.cls_base.proofs.Lists.{Contains-nil, Contains-here, Contains-later, Contains-cases, Contains-at, Contains-map, Contains-from_map}
use Rattle.cls_core.specs.declared.answer.Answer.{Answer}
use Rattle.cls_core.specs.declared.answer.Answer.TheVariants.{Rules, Wide}
use Rattle.cls_core.specs.Arguments.{ArgumentsAreReady, arguments_of, rules_of, map_answer}
use Rattle.cls_base.specs.Arguments.{arguments_of_rule, arguments_in, map_rule}
use Rattle.cls_core.specs.Renumbering.{answer_in, row_answer}
use Rattle.cls_core.specs.Rows.{Row}
use Rattle.cls_core.proofs.Renumbering.{place-is, place-of, the_answer, answer-is, argument-known, answer-at}
use Rattle.cls_core.specs.Closure.{IsReached, at_start, at_argument, IsClosure, goals_of}
use Rattle.cls_grammar.specs.Grammars.{book_of, first_wide}
use Rattle.cls_core.specs.Typings.{HaveGoals, no_goals, more_goals, FitsRule, by_component, by_application, AreRulesOf}
use Rattle.cls_grammar.specs.Ranks.{IsProductiveIn}
use Rattle.cls_grammar.proofs.Places.{wide-has}
use Rattle.cls_grammar.proofs.Trees.{productive_exactly}

length-some : (e : Applicative) → 1 ≤ length_of e
length-some (component x) = omega arith
length-some (apply f a) = let h = length-some f in omega arith

-- an argument is shorter than its spine
spine-longer : (es : List Applicative) (f : Applicative) → length_of f ≤ length_of (spine f es)
spine-longer [] f = omega arith
spine-longer (e ∷ es) f = let h = spine-longer es (apply f e) in let k : length_of (apply f e) ≡ length_of f + length_of e = refl in omega arith

argument-shorter : (es : List Applicative) (f a : Applicative) → Contains es a → length_of f + length_of a ≤ length_of (spine f es)
argument-shorter [] f a h = absurd (Contains-nil a h)
argument-shorter (e ∷ es) f a h = by (argument-shorter es (apply f e) a) (Contains-cases e es a h)
  where
    by : (Contains es a → length_of (apply f e) + length_of a ≤ length_of (spine (apply f e) es)) → (a ≡ e) ⊎ Contains es a → length_of f + length_of a ≤ length_of (spine f (e ∷ es))
    by rest (inl s) = let h = spine-longer es (apply f e) in let k : length_of (apply f e) ≡ length_of f + length_of e = refl in let l = ap length_of s in omega arith
    by rest (inr m) = let r = rest m in let k : length_of (apply f e) ≡ length_of f + length_of e = refl in omega arith

-- what holds of each element, at one that stands in the list
all-contains : {A : Type 0} (P : A → Type 0) (xs : List A) (x : A) → All P xs → Contains xs x → P x
all-contains P xs x h m = subst P m.2 (h m.0 x m.1)

module _ {G : Type 0} where
  argument-in : (rs : List (Rule G)) (r : Rule G) (g : G) → Contains rs r → Contains (arguments_of_rule r) g → Contains (arguments_in rs) g
  argument-in [] r g h k = absurd (Contains-nil r h)
  argument-in (q ∷ rs) r g h k = elim (Contains-cases q rs r h) [
    | inl e ↦ Contains-append_left (arguments_of_rule q) (arguments_in rs) g (subst (λ x. Contains (arguments_of_rule x) g) e k)
    | inr m ↦ Contains-append_right (arguments_of_rule q) (arguments_in rs) g (argument-in rs r g m k)
  ]

  argument-of : (a : Answer G) (r : Rule G) (g : G) → Contains (rules_of a) r → Contains (arguments_of_rule r) g → Contains (arguments_of a) g
  argument-of (Rules rs) r g h k = argument-in rs r g h k
  argument-of Wide r g h k = absurd (Contains-nil r h)

  book-at : (rows : List (Row G)) (k : ℕ) → rules_at (book_of rows) k ≡ rules_of (row_answer rows k)
  book-at [] k = refl
  book-at (r ∷ rows) zero = refl
  book-at (r ∷ rows) (suc k) = book-at rows k

  rules-map : (f : G → ℕ) (a : Answer G) → rules_of (map_answer f a) ≡ map (map_rule f) (rules_of a)
  rules-map f (Rules rs) = refl
  rules-map f Wide = refl

module _ {G : Type 0} (eq : G → G → Bool) (exact : (x y : G) → eq x y ≡ true → x ≡ y) (reflexive : (x : G) → eq x x ≡ true)
    (HasGoal : Applicative → G → Type 0) (IsAnswer : G → Answer G → Type 0) (IsReady : G → Type 0) (rules : AreRulesOf HasGoal IsAnswer IsReady)
    (onward : ArgumentsAreReady IsReady IsAnswer) (start : G) (begins : IsReady start)
    (rows : List (Row G)) (c : IsClosure eq IsAnswer start rows) (narrow : first_wide rows ≡ None) where
  abbrev place : G → ℕ
  place g = position_or_len (eq g) (goals_of rows)

  abbrev Known : G → Type 0
  Known g = Contains (goals_of rows) g

  abbrev Makes : ℕ → Applicative → Type 0
  Makes i e = Generates ℕ (NodeRule (book_of rows)) i e

  -- the answer that the goal's row holds
  abbrev answer : G → Answer G
  answer g = the_answer eq exact reflexive IsAnswer start rows c g

  is-answer : (g : G) → Known g → IsAnswer g (answer g)
  is-answer g k = answer-is eq exact reflexive IsAnswer start rows c g k

  reached-ready : {g : G} → IsReached IsAnswer start g → IsReady g
  reached-ready at_start = begins
  reached-ready (at_argument g h a r is m) = all-contains IsReady (arguments_of a) h (onward g a (reached-ready r) is) m

  known-ready : (g : G) → Known g → IsReady g
  known-ready g k = reached-ready (c.reached g k)

  -- the rules of a known goal's node
  rules-are : (g : G) → Known g → rules_at (book_of rows) (place g) ≡ map (map_rule place) (rules_of (answer g))
  rules-are g k = book-at rows (place g) ∙ (ap (λ o. rules_of (answer_in o)) (answer-at eq exact reflexive IsAnswer start rows c g k) ∙ rules-map place (answer g))

  to-node : (g : G) → Known g → (q : Rule G) → Contains (rules_of (answer g)) q → NodeRule (book_of rows) (place g) (map_rule place q)
  to-node g k q h = subst (λ l. Contains l (map_rule place q)) (sym (rules-are g k)) (Contains-map (map_rule place) (rules_of (answer g)) q h)

  from-node : (g : G) → Known g → (r : Rule ℕ) → NodeRule (book_of rows) (place g) r → (q : Rule G) × Contains (rules_of (answer g)) q × (r ≡ map_rule place q)
  from-node g k r h = Contains-from_map (map_rule place) (rules_of (answer g)) r (subst (λ l. Contains l r) (rules-are g k) h)

  known-argument : (g : G) → Known g → (q : Rule G) → Contains (rules_of (answer g)) q → (h : G) → Contains (arguments_of_rule q) h → Known h
  known-argument g k q m h n = argument-known eq exact reflexive IsAnswer start rows c g k h (argument-of (answer g) q h m n)

  by-rule : (g : G) (e : Applicative) → Known g → (q : Rule G) → Contains (rules_of (answer g)) q → FitsRule HasGoal e q → HasGoal e g
  by-rule g e k q m f = rules.sound g (answer g) e q (known-ready g k) (is-answer g k) m f

  -- the arguments of a head rule, as numbers
  abbrev Spined : Applicative → Applicative → List G → Type 0
  Spined f e gs = (es : List Applicative) × (e ≡ spine f es) × HaveGoals HasGoal es gs

  by-head-rule : (g : G) (e : Applicative) (x : ℕ) (ns : List ℕ) → Known g → ((gs : List G) → ns ≡ map place gs → ((h : G) → Contains gs h → Known h) → Spined (component x) e gs)
      → (q : Rule G) → Contains (rules_of (answer g)) q → Head x ns ≡ map_rule place q → HasGoal e g
  by-head-rule g e x ns k f (Head y gs) m s =
      let a : x ≡ y = cc in
      let b : ns ≡ map place gs = cc in
      let u = f gs b (known-argument g k (Head y gs) m) in
      by-rule g e k (Head y gs) m (by_component u.0 (u.1 ∙ ap (λ z. spine (component z) u.0) a) u.2)
  by-head-rule g e x ns k f (Any l r) m s = cc

  by-any-rule : (g : G) (f a : Applicative) (i j : ℕ) → Known g → ((h : G) → Known h → i ≡ place h → HasGoal f h) → ((h : G) → Known h → j ≡ place h → HasGoal a h)
      → (q : Rule G) → Contains (rules_of (answer g)) q → Any i j ≡ map_rule place q → HasGoal (apply f a) g
  by-any-rule g f a i j k u v (Head y gs) m s = cc
  by-any-rule g f a i j k u v (Any l r) m s =
      let p : i ≡ place l = cc in
      let q : j ≡ place r = cc in
      let known = known-argument g k (Any l r) m in
      by-rule g (apply f a) k (Any l r) m (by_application f a refl (u l (known l (Contains-here l (r ∷ []))) p) (v r (known r (Contains-later r l (r ∷ []) (Contains-here r []))) q))

  mutual
    makes-has : {i : ℕ} {e : Applicative} → Makes i e → (g : G) → Known g → i ≡ place g → HasGoal e g
    makes-has (by_head {i = i} {x = x} {ns = ns} {e = e} r a) g k s =
        let u = from-node g k (Head x ns) (subst (λ n. NodeRule (book_of rows) n (Head x ns)) s r) in
        by-head-rule g e x ns k (λ gs t h. applied a gs t h) u.0 u.1 u.2
    makes-has (by_any {i = i} {l = l} {m = m} {f = f} {a = a} r p q) g k s =
        let u = from-node g k (Any l m) (subst (λ n. NodeRule (book_of rows) n (Any l m)) s r) in
        by-any-rule g f a l m k (λ h n t. makes-has p h n t) (λ h n t. makes-has q h n t) u.0 u.1 u.2

    applied : {f e : Applicative} {ns : List ℕ} → Applies ℕ (NodeRule (book_of rows)) f ns e → (gs : List G) → ns ≡ map place gs → ((h : G) → Contains gs h → Known h) → Spined f e gs
    applied done [] s h = ([], refl, no_goals)
    applied done (g ∷ gs) s h = cc
    applied (next p a) [] s h = cc
    applied (next {a = d} {n = n} {ns = ns} p a) (g ∷ gs) s h =
        let t : n ≡ place g = cc in
        let u : ns ≡ map place gs = cc in
        let first = makes-has p g (h g (Contains-here g gs)) t in
        let rest = applied a gs u (λ x m. h x (Contains-later x g gs m)) in
        (d ∷ rest.0, rest.1, more_goals first rest.2)

  not-wide : (g : G) → Known g → answer g ≢ Wide
  not-wide g k w = by (slice_get rows (place g)) refl
    where
      wide : row_answer rows (place g) ≡ Wide
      wide = ap answer_in (answer-at eq exact reflexive IsAnswer start rows c g k) ∙ ap (map_answer place) w

      less : (rs : List (Row G)) (n : ℕ) → n < length (goals_of rs) → slice_get rs n ≡ None → ⊥
      less [] n l e = omega arith
      less (r ∷ rs) zero l e = cc
      less (r ∷ rs) (suc n) l e = less rs n (omega arith) e

      by : (o : Option (Row G)) → slice_get rows (place g) ≡ o → ⊥
      by None e = less rows (place g) (slice_get_within (goals_of rows) (place g) g (place-is eq exact reflexive (goals_of rows) g k)) e
      by (Some r) e = wide-has rows r (Contains-at rows (place g) r e) (sym (ap answer_in e) ∙ wide) narrow

  -- what has a known goal is made by its node
  abbrev Complete : Applicative → Type 0
  Complete e = (g : G) → Known g → HasGoal e g → Makes (place g) e

  applies-each : (es : List Applicative) (gs : List G) (f : Applicative) → HaveGoals HasGoal es gs → ((a : Applicative) → Contains es a → Complete a) → ((h : G) → Contains gs h → Known h) → Applies ℕ (NodeRule (book_of rows)) f (map place gs) (spine f es)
  applies-each _ _ f no_goals h k = done
  applies-each _ _ f (more_goals {e = e} {es = es} {g = g} {gs = gs} p q) h k = next (h e (Contains-here e es) g (k g (Contains-here g gs)) p) (applies-each es gs (apply f e) q (λ a m. h a (Contains-later a e es m)) (λ x m. k x (Contains-later x g gs m)))

  fits-makes : (e : Applicative) → ((a : Applicative) → length_of a < length_of e → Complete a) → (g : G) → Known g → (q : Rule G) → Contains (rules_of (answer g)) q → FitsRule HasGoal e q → Makes (place g) e
  fits-makes e h g k _ m (by_component {x = x} {gs = gs} es s all) =
      let shorter : (a : Applicative) → Contains es a → length_of a < length_of e = λ a n. let l = argument-shorter es (component x) a n in let t = ap length_of s in let o : length_of (component x) ≡ 1 = refl in omega arith in
      let a = applies-each es gs (component x) all (λ b n. h b (shorter b n)) (known-argument g k (Head x gs) m) in
      subst (Makes (place g)) (sym s) (by_head (to-node g k (Head x gs) m) a)
  fits-makes e h g k _ m (by_application {l = l} {m = r} f a s p q) =
      let t = ap length_of s in
      let u = length-some f in
      let v = length-some a in
      let o : length_of (apply f a) ≡ length_of f + length_of a = refl in
      let known = known-argument g k (Any l r) m in
      subst (Makes (place g)) (sym s) (by_any (to-node g k (Any l r) m) (h f (omega arith) l (known l (Contains-here l (r ∷ []))) p) (h a (omega arith) r (known r (Contains-later r l (r ∷ []) (Contains-here r []))) q))

  complete-below : (n : ℕ) (e : Applicative) → length_of e < n → Complete e
  complete-below zero e l = absurd (omega arith)
  complete-below (suc n) e l = λ g k has.
      let u = rules.complete g (answer g) e (known-ready g k) (is-answer g k) (not-wide g k) has in
      fits-makes e (λ a m. complete-below n a (omega arith)) g k u.0 u.1 u.2

  -- A node generates exactly the terms that have its goal.
  pub node-language : (i : ℕ) (r : Row G) → slice_get rows i ≡ Some r → (e : Applicative) → IsGenerated (book_of rows) i e ↔ HasGoal e r.goal
  node-language i r at e =
      let goal : slice_get (goals_of rows) i ≡ Some r.goal = goal-at rows i r at in
      let known = Contains-at (goals_of rows) i r.goal goal in
      let same = place-of eq exact reflexive IsAnswer start rows c i r.goal goal in
      ((λ m. makes-has m r.goal known (sym same)), (λ h. subst (λ n. Makes n e) same (complete-below (suc (length_of e)) e (omega arith) r.goal known h)))
    where
      goal-at : (rs : List (Row G)) (i : ℕ) (r : Row G) → slice_get rs i ≡ Some r → slice_get (goals_of rs) i ≡ Some r.goal
      goal-at [] i r e = cc
      goal-at (q ∷ rs) zero r e = let f : q ≡ r = cc in ap (λ (x : Row G). Some x.goal) f
      goal-at (q ∷ rs) (suc i) r e = goal-at rs i r e

  -- A node is productive if and only if some term has its goal.
  pub node-productive : (i : ℕ) (r : Row G) → slice_get rows i ≡ Some r → IsProductiveIn (book_of rows) i ↔ ((e : Applicative) × HasGoal e r.goal)
  node-productive i r at =
      let p = productive_exactly ℕ (NodeRule (book_of rows)) i in
      ((λ q. let u = p.0 q in (u.0, (node-language i r at u.0).0 u.1)), (λ h. p.1 (h.0, (node-language i r at h.0).1 h.1)))
