-- What a grammar by the rules of a library says of each goal.
use Rattle.std.proofs.Common.{ℕ, zero, suc, ◌≡◌, ◌<◌, refl, sym, ◌∙◌, subst, ap, inl, inr, List, [], ◌∷◌, length, get_or, arith, Contains, Option, Some, None}
use Rattle.std.specs.Prelude.{map, slice_get, option_map}
use Rattle.std.specs.Ordering.{eq_by_cmp}
use Rattle.std.specs.List.{position_or_len}
use Rattle.std.proofs.lemmas.List.{length-map}
use Rattle.std.proofs.lemmas.Option.{slice_get_within}
use Rattle.std.proofs.lemmas.List.Elements.{All-contains, Contains-append_left, Contains-append_right}
use Rattle.cls_base.specs.declared.rule.Rule.{Rule}
use Rattle.cls_base.specs.declared.rule.Rule.TheVariants.{Head, Any}
use Rattle.cls_base.specs.Languages.{rules_at}
use Rattle.cls_base.proofs.Lists.{Contains-nil, Contains-here, Contains-later, Contains-cases, Contains-at, Contains-from_map}
use Rattle.cls_path.specs.Paths.{TypePath, Paths, listed}
use Rattle.cls_path.specs.PathOrder.{list_order}
use Rattle.cls_path.specs.OrderLaws.{list_same, list_equal}
use Rattle.cls_core.specs.declared.answer.Answer.{Answer}
use Rattle.cls_core.specs.declared.answer.Answer.TheVariants.{Rules, Wide}
use Rattle.cls_core.specs.Arguments.{arguments_of, rules_of}
use Rattle.cls_base.specs.Arguments.{arguments_of_rule, arguments_in, map_rule}
use Rattle.cls_core.specs.Closure.{IsReached, at_start, at_argument, IsClosure, goals_of}
use Rattle.cls_core.specs.Machine.{numbered}
use Rattle.cls_core.specs.Rows.{Row}
use Rattle.cls_core.proofs.Grammar.{canonical-closure}
use Rattle.cls_core.proofs.Renumbering.{place-is}
use Rattle.cls_grammar.specs.Grammars.{book_of}
use Rattle.cls_grammar.proofs.Places.{wide-has}
use Rattle.cls_library.specs.Libraries.{Library}
use Rattle.cls_library.specs.Rules.{IsRules, IsWide}
use Rattle.cls_expand.specs.Answers.{rule_of, IsAnswer, IsReady}
use Rattle.cls_expand.specs.Determined.{one_answer}
use Rattle.cls_expand.specs.Readiness.{arguments_are_ready}
use Rattle.cls_cert.specs.Conditions.{forms_of, IsGrammarOf}
use Rattle.cls_cert.specs.Making.{goal_in, named}

abbrev Goal : Type 0
Goal = List TypePath

-- the goal g with number i can be worked on and isn't wide, and its rules by number are its rules
pub record IsRuled (l : Library) (rows : List (Row Goal)) (i : ℕ) (g : Goal) : Type 0 where
  pub ready : IsReady l g
  pub narrow : IsWide l (listed g) → ⊥
  pub goal : goal_in (forms_of rows) i ≡ listed g
  pub rules : IsRules l (listed g) (map (named (forms_of rows)) (rules_at (book_of rows) i))
  pub within : (r : Rule ℕ) → Contains (rules_at (book_of rows) i) r → (n : ℕ) → Contains (arguments_of_rule r) n → n < length rows

-- the arguments of a rule whose goals are known
pub named_arguments : (goals : List Paths) (r : Rule ℕ) (x : ℕ) (args : List Paths) → named goals r ≡ Head x args → map (goal_in goals) (arguments_of_rule r) ≡ args
named_arguments goals (Head y ns) x args e = cc
named_arguments goals (Any f g) x args e = absurd (let k : ◌≡◌ {A = Rule Paths} (Any (goal_in goals f) (goal_in goals g)) (Head x args) = e in cc)

pub argument_at : (goals : List Paths) (ns : List ℕ) (k j : ℕ) (d : Paths) → k < length ns → get_or ns k j ≡ j → get_or (map (goal_in goals) ns) k d ≡ goal_in goals j
argument_at goals [] k j d l e = absurd (omega arith)
argument_at goals (x ∷ ns) zero j d l e = ap (goal_in goals) e
argument_at goals (x ∷ ns) (suc k) j d l e = argument_at goals ns k j d (omega arith) e

row_of_goal : (rows : List (Row Goal)) (i : ℕ) (g : Goal) → slice_get (goals_of rows) i ≡ Some g → (r : Row Goal) × (slice_get rows i ≡ Some r) × (r.goal ≡ g)
row_of_goal [] i g e = absurd (let f : ◌≡◌ {A = Option Goal} None (Some g) = e in cc)
row_of_goal (r ∷ rows) zero g e = (r, refl, let f : r.goal ≡ g = cc in f)
row_of_goal (r ∷ rows) (suc i) g e = row_of_goal rows i g e

pub goal_of_row : (rows : List (Row Goal)) (i : ℕ) (r : Row Goal) → slice_get rows i ≡ Some r → slice_get (goals_of rows) i ≡ Some r.goal
goal_of_row [] i r e = absurd (let f : ◌≡◌ {A = Option (Row Goal)} None (Some r) = e in cc)
goal_of_row (q ∷ rows) zero r e = let f : q ≡ r = cc in ap (λ (x : Row Goal). Some x.goal) f
goal_of_row (q ∷ rows) (suc i) r e = goal_of_row rows i r e

form_of_goal : (rows : List (Row Goal)) (i : ℕ) (g : Goal) → slice_get (goals_of rows) i ≡ Some g → goal_in (forms_of rows) i ≡ listed g
form_of_goal [] i g e = absurd (let f : ◌≡◌ {A = Option Goal} None (Some g) = e in cc)
form_of_goal (r ∷ rows) zero g e = let f : r.goal ≡ g = cc in ap listed f
form_of_goal (r ∷ rows) (suc i) g e = form_of_goal rows i g e

book_row : (rows : List (Row Goal)) (i : ℕ) (r : Row Goal) → slice_get rows i ≡ Some r → rules_at (book_of rows) i ≡ rules_of r.answer
book_row [] i r e = absurd (let f : ◌≡◌ {A = Option (Row Goal)} None (Some r) = e in cc)
book_row (q ∷ rows) zero r e = let f : q ≡ r = cc in ap (λ (x : Row Goal). rules_of x.answer) f
book_row (q ∷ rows) (suc i) r e = book_row rows i r e

some_row : (o : Option (Row Goal)) (g : Goal) → option_map (λ (r : Row Goal). r.goal) o ≡ Some g → (r : Row Goal) × (o ≡ Some r) × (r.goal ≡ g)
some_row None g e = absurd (let f : ◌≡◌ {A = Option Goal} None (Some g) = e in cc)
some_row (Some r) g e = (r, refl, let f : r.goal ≡ g = cc in f)

module _ (rows : List (Row Goal)) where
  abbrev place : Goal → ℕ
  place g = position_or_len (eq_by_cmp list_order g) (goals_of rows)

  abbrev Known : Goal → Type 0
  Known g = Contains (goals_of rows) g

  placed_goal : (g : Goal) → Known g → goal_in (forms_of rows) (place g) ≡ listed g
  placed_goal g k = form_of_goal rows (place g) g (place-is (eq_by_cmp list_order) list_same list_equal.refl (goals_of rows) g k)

  placed_goals : (gs : List Goal) → ((g : Goal) → Contains gs g → Known g) → map (goal_in (forms_of rows)) (map place gs) ≡ map listed gs
  placed_goals [] f = refl
  placed_goals (g ∷ gs) f =
      ap (λ h. h ∷ map (goal_in (forms_of rows)) (map place gs)) (placed_goal g (f g (Contains-here g gs)))
      ∙ ap (λ hs. listed g ∷ hs) (placed_goals gs (λ h m. f h (Contains-later h g gs m)))

  placed_rule : (r : Rule Goal) → ((g : Goal) → Contains (arguments_of_rule r) g → Known g) → named (forms_of rows) (map_rule place r) ≡ rule_of r
  placed_rule (Head x gs) f = ap (λ hs. Head x hs) (placed_goals gs f)
  placed_rule (Any a b) f =
      ap (λ h. Any h (goal_in (forms_of rows) (place b))) (placed_goal a (f a (Contains-here a (b ∷ []))))
      ∙ ap (λ h. Any (listed a) h) (placed_goal b (f b (Contains-later b a (b ∷ []) (Contains-here b []))))

  placed_rules : (rs : List (Rule Goal)) → ((g : Goal) → Contains (arguments_in rs) g → Known g) → map (named (forms_of rows)) (map (map_rule place) rs) ≡ map rule_of rs
  placed_rules [] f = refl
  placed_rules (r ∷ rs) f =
      ap (λ q. q ∷ map (named (forms_of rows)) (map (map_rule place) rs)) (placed_rule r (λ g m. f g (Contains-append_left (arguments_of_rule r) (arguments_in rs) g m)))
      ∙ ap (λ qs. rule_of r ∷ qs) (placed_rules rs (λ g m. f g (Contains-append_right (arguments_of_rule r) (arguments_in rs) g m)))

  placed_within : (gs : List Goal) → ((g : Goal) → Contains gs g → Known g) → (n : ℕ) → Contains (map place gs) n → n < length rows
  placed_within gs f n m =
      let u = Contains-from_map place gs n m in
      let at = place-is (eq_by_cmp list_order) list_same list_equal.refl (goals_of rows) u.0 (f u.0 u.1) in
      let low : place u.0 < length (goals_of rows) = slice_get_within (goals_of rows) (place u.0) u.0 at in
      let count : length (goals_of rows) ≡ length rows = length-map rows (λ (r : Row Goal). r.goal) in
      subst (λ (k : ℕ). k < length rows) (sym u.2) (omega arith)

  rule_within : (q : Rule Goal) → ((g : Goal) → Contains (arguments_of_rule q) g → Known g) → (n : ℕ) → Contains (arguments_of_rule (map_rule place q)) n → n < length rows
  rule_within (Head x gs) f n m = placed_within gs f n m
  rule_within (Any a b) f n m = placed_within (a ∷ b ∷ []) f n m

  argument_in : (rs : List (Rule Goal)) (q : Rule Goal) (g : Goal) → Contains rs q → Contains (arguments_of_rule q) g → Contains (arguments_in rs) g
  argument_in [] q g h k = absurd (Contains-nil q h)
  argument_in (r ∷ rs) q g h k = elim (Contains-cases r rs q h) [
    | inl e ↦ Contains-append_left (arguments_of_rule r) (arguments_in rs) g (subst (λ x. Contains (arguments_of_rule x) g) e k)
    | inr m ↦ Contains-append_right (arguments_of_rule r) (arguments_in rs) g (argument_in rs q g m k)
  ]

  rules_within : (rs : List (Rule Goal)) → ((g : Goal) → Contains (arguments_in rs) g → Known g) → (r : Rule ℕ) → Contains (map (map_rule place) rs) r → (n : ℕ) → Contains (arguments_of_rule r) n → n < length rows
  rules_within rs f r m n k =
      let u = Contains-from_map (map_rule place) rs r m in
      rule_within u.0 (λ g j. f g (argument_in rs u.0 g u.1 j)) n (subst (λ (q : Rule ℕ). Contains (arguments_of_rule q) n) u.2 k)

module _ (l : Library) (rows : List (Row Goal)) (h : IsGrammarOf l rows) where
  closure : IsClosure (eq_by_cmp list_order) (IsAnswer l) h.start rows
  closure = canonical-closure (eq_by_cmp list_order) (IsAnswer l) h.start (one_answer l) rows h.canonical

  reached_ready : {g : Goal} → IsReached (IsAnswer l) h.start g → IsReady l g
  reached_ready at_start = h.ready
  reached_ready (at_argument g k a r is m) = All-contains (IsReady l) (arguments_of a) k (arguments_are_ready l g a (reached_ready r) is) m

  ruled_row : (i : ℕ) (r : Row Goal) → slice_get rows i ≡ Some r → (a : Answer Goal) → IsAnswer l r.goal a → r.answer ≡ numbered (eq_by_cmp list_order) (goals_of rows) a → IsRuled l rows i r.goal
  ruled_row i r e Wide is w = absurd (wide-has rows r (Contains-at rows i r e) w h.narrow)
  ruled_row i r e (Rules rs) is w =
      let c = closure in
      let goal = goal_of_row rows i r e in
      let reached = c.reached r.goal (Contains-at (goals_of rows) i r.goal goal) in
      let known : (g : Goal) → Contains (arguments_in rs) g → Contains (goals_of rows) g = λ g m. c.whole g (at_argument r.goal g (Rules rs) reached is m) in
      record {
        ready = reached_ready reached;
        narrow = is.0;
        goal = form_of_goal rows i r.goal goal;
        rules = subst (λ (qs : List (Rule Paths)). IsRules l (listed r.goal) qs) (sym (ap (map (named (forms_of rows))) (book_row rows i r e ∙ ap rules_of w) ∙ placed_rules rows rs known)) is.1;
        within = subst (λ (qs : List (Rule ℕ)). (q : Rule ℕ) → Contains qs q → (n : ℕ) → Contains (arguments_of_rule q) n → n < length rows) (sym (book_row rows i r e ∙ ap rules_of w)) (rules_within rows rs known);
      }

  pub ruled : (i : ℕ) (g : Goal) → option_map (λ (r : Row Goal). r.goal) (slice_get rows i) ≡ Some g → IsRuled l rows i g
  ruled i g e =
      let r = some_row (slice_get rows i) g e in
      let a = closure.answered i r.0 r.1 in
      subst (λ (x : Goal). IsRuled l rows i x) r.2 (ruled_row i r.0 r.1 a.0 a.1 a.2)

  -- there is a goal
  pub some_goal : 0 < length rows
  some_goal =
      let low : 0 < length (goals_of rows) = slice_get_within (goals_of rows) 0 h.start closure.first in
      let count : length (goals_of rows) ≡ length rows = length-map rows (λ (r : Row Goal). r.goal) in
      omega arith

  -- the same for each number of a goal
  pub ruled_within : (i : ℕ) → i < length rows → (g : Goal) × IsRuled l rows i g
  ruled_within i k = by (slice_get rows i) refl
    where
      less : (rs : List (Row Goal)) (n : ℕ) → n < length rs → slice_get rs n ≡ None → ⊥
      less [] n j e = omega arith
      less (r ∷ rs) zero j e = let f : ◌≡◌ {A = Option (Row Goal)} (Some r) None = e in cc
      less (r ∷ rs) (suc n) j e = less rs n (omega arith) e

      by : (o : Option (Row Goal)) → slice_get rows i ≡ o → (g : Goal) × IsRuled l rows i g
      by None e = absurd (less rows i k e)
      by (Some r) e = (r.goal, ruled i r.goal (ap (option_map (λ (q : Row Goal). q.goal)) e))

-- what a call for a goal tells
pub told_form : (rows : List (Row Goal)) (i : ℕ) (g : Goal) → option_map (λ (r : Row Goal). r.goal) (slice_get rows i) ≡ Some g → goal_in (forms_of rows) i ≡ listed g
told_form rows i g e = let r = some_row (slice_get rows i) g e in form_of_goal rows i g (goal_of_row rows i r.0 r.1 ∙ ap Some r.2)
