-- What the rows of the closure of a root say of the goals that are asked.
use Rattle.std.proofs.Common.{◌≡◌, ℕ, ◌<◌, ◌≤◌, Bool, true, false, List, [], ◌∷◌, Option, None, Some, length, map, slice_get, refl, sym, ap, subst, ◌∙◌, arith}
use Rattle.std.specs.Prelude.{Contains, option_map, slice_index_or}
use Rattle.std.specs.List.{AllZip, position_or_len}
use Rattle.std.proofs.lemmas.Option.{get_or_from_slice_get, slice_get-map, slice_get_within}
use Rattle.std.proofs.lemmas.Simd.{map-map}
use Rattle.cls_base.specs.Arguments.{arguments_in}
use Rattle.cls_base.specs.Languages.{rules_at}
use Rattle.cls_base.specs.Lists.{AreBelow}
use Rattle.cls_base.proofs.Lists.{Contains-here, Contains-later, Contains-at, Contains-place}
use Rattle.cls_callers.specs.declared.goal.AskGoal.{AskGoal}
use Rattle.cls_callers.specs.declared.goal.AskGoal.TheVariants.{Root, Of}
use Rattle.cls_callers.specs.declared.tag.AskTag.{AskTag}
use Rattle.cls_callers.specs.AskGoals.{ask_eq, ask_exact, ask_reflexive}
use Rattle.cls_callers.specs.AskLaws.{answer-goals, asked-goals, one_ask_answer, ask_arguments_ready}
use Rattle.cls_callers.specs.Asking.{AreAsked, asked_rules, IsAskAnswer, IsAskReady}
use Rattle.cls_callers.proofs.Within.{asked-reached, root-reaches}
use Rattle.cls_core.specs.declared.answer.Answer.{Answer}
use Rattle.cls_core.specs.declared.answer.Answer.TheVariants.{Rules, Wide}
use Rattle.cls_core.specs.Arguments.{HasUniqueAnswers, map_answer, rules_of}
use Rattle.cls_core.specs.Canonical.{IsCanonical}
use Rattle.cls_core.specs.Closure.{IsReached, at_start, IsClosure, goals_of}
use Rattle.cls_core.specs.Machine.{numbered}
use Rattle.cls_core.specs.Rows.{Row}
use Rattle.cls_core.proofs.Columns.{get-some}
use Rattle.cls_core.proofs.Grammar.{canonical-closure, closure-grammar}
use Rattle.cls_core.proofs.Renumbering.{place-of, the_answer, answer-is, answer-at}
use Rattle.cls_expand.specs.Answers.{IsAnswer, IsReady, HasGoal}
use Rattle.cls_expand.specs.Determined.{one_answer}
use Rattle.cls_expand.specs.Readiness.{arguments_are_ready}
use Rattle.cls_expand.specs.Typings.{answers_are_typings}
use Rattle.cls_grammar.specs.Grammars.{MakeGrammar, book_of, first_wide}
use Rattle.cls_grammar.specs.Ranks.{AreProductive}
use Rattle.cls_grammar.proofs.Meaning.{node-productive}
use Rattle.cls_grammar.proofs.Places.{wide-has}
use Rattle.cls_grammar.proofs.RowColumns.{book-count, rows-book}
use Rattle.cls_library.specs.Libraries.{Library}
use Rattle.cls_path.specs.OrderLaws.{list_equal, list_same}
use Rattle.cls_engine.specs.Batching.{AreRooted, HasNoWide, SaysInhabited}
use Rattle.cls_engine.specs.Goals.{Goal, same}
use Rattle.cls_engine.proofs.AskTypings.{HasAsk, ask_typings}
use Rattle.cls_engine.proofs.RowsBooks.{wide-at}

-- an answer in numbers is wide only if the answer is
wide-down : {G H : Type 0} (f : G → H) (a : Answer G) → map_answer f a ≡ Wide → a ≡ Wide
wide-down f (Rules rs) e = cc
wide-down f Wide e = refl

goal-at : {G : Type 0} (rows : List (Row G)) (k : ℕ) (r : Row G) → slice_get rows k ≡ Some r → slice_get (goals_of rows) k ≡ Some r.goal
goal-at {G} rows k r e = slice_get-map (λ (x : Row G). x.goal) rows k ∙ ap (option_map (λ (x : Row G). x.goal)) e

-- the closure of one goal
module _ (lib : Library) (g : Goal) (rows : List (Row Goal)) (k : IsCanonical same (IsAnswer lib) g rows) where
  closure : IsClosure same (IsAnswer lib) g rows
  closure = canonical-closure same (IsAnswer lib) g (one_answer lib) rows k

  pub no-wide : first_wide rows ≡ None → HasNoWide lib g
  no-wide ruled h r w =
      let known = closure.whole h r in
      let at = answer-at same list_same list_equal.refl (IsAnswer lib) g rows closure h known in
      let a = the_answer same list_same list_equal.refl (IsAnswer lib) g rows closure h in
      let is : a ≡ Wide = one_answer lib h a Wide (answer-is same list_same list_equal.refl (IsAnswer lib) g rows closure h known) w in
      let row : Row Goal = record { goal = h; answer = numbered same (goals_of rows) a } in
      wide-has rows row (Contains-at rows (position_or_len (same h) (goals_of rows)) row at) (ap (numbered same (goals_of rows)) is) ruled

  pub wide-reached : (w : Goal) → first_wide rows ≡ Some w → IsReached (IsAnswer lib) g w × IsAnswer lib w Wide
  wide-reached w e =
      let u = wide-at rows w e in
      let a = closure.answered u.place u.row u.there in
      let wide : a.0 ≡ Wide = wide-down (λ h. position_or_len (same h) (goals_of rows)) a.0 (sym a.2 ∙ u.wide) in
      let reached = closure.reached u.row.goal (Contains-at (goals_of rows) u.place u.row.goal (goal-at rows u.place u.row u.there)) in
      (subst (IsReached (IsAnswer lib) g) u.goal reached, subst (λ (h : Goal). IsAnswer lib h Wide) u.goal (subst (IsAnswer lib u.row.goal) wide a.1))

-- the closure of the root
module _ (t : AskTag Library Goal) (rows : List (Row (AskGoal Goal))) (c : AreRooted t rows) where
  abbrev eq : AskGoal Goal → AskGoal Goal → Bool
  eq = ask_eq same

  abbrev exact : (x y : AskGoal Goal) → eq x y ≡ true → x ≡ y
  exact = ask_exact same list_same

  abbrev reflexive : (x : AskGoal Goal) → eq x x ≡ true
  reflexive = ask_reflexive same list_equal.refl

  abbrev Ask : AskGoal Goal → Answer (AskGoal Goal) → Type 0
  Ask = IsAskAnswer IsAnswer t

  abbrev place : AskGoal Goal → ℕ
  place x = position_or_len (eq x) (goals_of rows)

  unique : HasUniqueAnswers Ask
  unique = one_ask_answer IsAnswer one_answer t

  pub rooted-grammar : MakeGrammar rows
  rooted-grammar = (Root, closure-grammar eq Ask Root unique exact reflexive rows c)

  root-known : Contains (goals_of rows) Root
  root-known = c.whole Root at_start

  asked-known : (g : Goal) → Contains t.goals g → Contains (goals_of rows) (Of g)
  asked-known g m = c.whole (Of g) (asked-reached IsAnswer t g m)

  -- the arguments of the root's rules are the rows of the asked goals
  root-arguments : arguments_in (rules_at (book_of rows) 0) ≡ map (λ g. place (Of g)) t.goals
  root-arguments =
      let a = the_answer eq exact reflexive Ask Root rows c Root in
      let is : a ≡ Rules (asked_rules 1 t.goals) = answer-is eq exact reflexive Ask Root rows c Root root-known in
      let first : place Root ≡ 0 = place-of eq exact reflexive Ask Root rows c 0 Root c.first in
      let row : slice_get rows 0 ≡ Some (record { goal = Root; answer = numbered eq (goals_of rows) a }) =
      ap (slice_get rows) (sym first) ∙ answer-at eq exact reflexive Ask Root rows c Root root-known in
      sym (ap arguments_in (rows-book rows 0 (rules_of (numbered eq (goals_of rows) a)) (ap (option_map (λ (r : Row (AskGoal Goal)). rules_of r.answer)) row)))
      ∙ (ap (λ (x : Answer (AskGoal Goal)). arguments_in (rules_of (numbered eq (goals_of rows) x))) is
      ∙ (answer-goals place (Rules (asked_rules 1 t.goals)) ∙ (ap (map place) (asked-goals 1 t.goals) ∙ map-map place Of t.goals)))

  place-within : (g : Goal) → Contains t.goals g → place (Of g) < length rows
  place-within g m = slice_get_within rows (place (Of g)) _ (answer-at eq exact reflexive Ask Root rows c (Of g) (asked-known g m))

  places-below : (n : ℕ) → n ≡ length rows → (gs : List Goal) → ((g : Goal) → Contains gs g → Contains t.goals g) → AreBelow n (map (λ g. place (Of g)) gs)
  places-below n is [] among = tt
  places-below n is (g ∷ gs) among = (
    (let less = place-within g (among g (Contains-here g gs)) in omega arith),
    places-below n is gs (λ h m. among h (Contains-later h g gs m)),
  )

  pub asked-below : (flags : List Bool) → AreProductive (book_of rows) flags → AreBelow (length flags) (arguments_in (rules_at (book_of rows) 0))
  asked-below flags p =
      subst (AreBelow (length flags)) (sym root-arguments) (places-below (length flags) (p.count ∙ book-count rows) t.goals (λ g m. m))

  module _ (ruled : first_wide rows ≡ None) (asked : AreAsked IsReady t) (flags : List Bool) (p : AreProductive (book_of rows) flags) where
    -- the node of an asked goal is productive if and only if some term has the goal
    one-says : (g : Goal) → Contains t.goals g → SaysInhabited t.by g (slice_index_or flags (place (Of g)) false)
    one-says g m =
        let row = answer-at eq exact reflexive Ask Root rows c (Of g) (asked-known g m) in
        let within : place (Of g) < length flags = (let less = place-within g m in omega (arith, less, p.count, book-count rows)) in
        let flag = get-some flags (place (Of g)) within in
        let node = node-productive eq exact reflexive (HasAsk HasGoal IsAnswer IsReady t) Ask (IsAskReady IsReady t)
        (ask_typings HasGoal IsAnswer IsReady t (answers_are_typings t.by)) (ask_arguments_ready IsAnswer IsReady arguments_are_ready t)
        Root asked.all_ready rows c ruled (place (Of g)) _ row in
        let says = p.each (place (Of g)) flag.0 flag.1 in
        subst (SaysInhabited t.by g) (sym (get_or_from_slice_get flags (place (Of g)) flag.0 false flag.1))
        ((λ y. node.0 (says.0 y)), (λ e. says.1 (node.1 e)))

    each-says : (gs : List Goal) → ((g : Goal) → Contains gs g → Contains t.goals g)
        → AllZip (SaysInhabited t.by) gs (map (λ n. slice_index_or flags n false) (map (λ g. place (Of g)) gs))
    each-says [] among = tt
    each-says (g ∷ gs) among = (one-says g (among g (Contains-here g gs)), each-says gs (λ h m. among h (Contains-later h g gs m)))

    pub rooted-says : (says : List Bool) → says ≡ map (λ n. slice_index_or flags n false) (arguments_in (rules_at (book_of rows) 0))
        → AllZip (SaysInhabited t.by) t.goals says
    rooted-says says is =
        subst (AllZip (SaysInhabited t.by) t.goals) (sym (is ∙ ap (map (λ n. slice_index_or flags n false)) root-arguments)) (each-says t.goals (λ g m. m))

  -- a wide row lies in the closure of an asked goal
  row-of-asked : ((g : Goal) → Contains t.goals g → HasNoWide t.by g) → (x : AskGoal Goal) (a : Answer (AskGoal Goal)) → IsReached Ask Root x → Ask x a → a ≡ Wide → ⊥
  row-of-asked none Root a r is w = let e : Wide ≡ Rules (asked_rules 1 t.goals) = sym w ∙ is in cc
  row-of-asked none (Of h) a r is w =
      let from = (root-reaches IsAnswer t h).0 r in
      let wide : is.0 ≡ Wide = wide-down Of is.0 (sym is.2 ∙ w) in
      none from.0 from.1 h from.2 (subst (IsAnswer t.by h) wide is.1)

  -- so if none of these has a wide goal, no row is wide
  pub rooted-ruled : ((g : Goal) → Contains t.goals g → HasNoWide t.by g) → first_wide rows ≡ None
  rooted-ruled none = by (first_wide rows) refl
    where
      by : (o : Option (AskGoal Goal)) → first_wide rows ≡ o → first_wide rows ≡ None
      by None e = e
      by (Some x) e =
          let u = wide-at rows x e in
          let a = c.answered u.place u.row u.there in
          absurd (row-of-asked none u.row.goal a.0 (c.reached u.row.goal (Contains-at (goals_of rows) u.place u.row.goal (goal-at rows u.place u.row u.there))) a.1
          (wide-down (λ y. place y) a.0 (sym a.2 ∙ u.wide)))

  -- and if no row is wide, none of these has a wide goal
  pub ruled-asked : first_wide rows ≡ None → (g : Goal) → Contains t.goals g → HasNoWide t.by g
  ruled-asked ruled g m h r w =
      let reached = (root-reaches IsAnswer t h).1 (g, m, r) in
      let known = c.whole (Of h) reached in
      let a = the_answer eq exact reflexive Ask Root rows c (Of h) in
      let is : a ≡ Wide = unique (Of h) a Wide (answer-is eq exact reflexive Ask Root rows c (Of h) known) (Wide, w, refl) in
      let row : Row (AskGoal Goal) = record { goal = Of h; answer = numbered eq (goals_of rows) a } in
      wide-has rows row (Contains-at rows (place (Of h)) row (answer-at eq exact reflexive Ask Root rows c (Of h) known)) (ap (numbered eq (goals_of rows)) is) ruled

-- what holds of the goals at all places holds of all goals
pub all-places : (lib : Library) (gs : List Goal) (n : ℕ) → length gs ≤ n → ((k : ℕ) (g : Goal) → k < n → slice_get gs k ≡ Some g → HasNoWide lib g)
    → (g : Goal) → Contains gs g → HasNoWide lib g
all-places lib gs n whole each g m =
    let k = Contains-place gs g m in
    each k.0 g (let less = slice_get_within gs k.0 g k.1 in omega arith) k.1
