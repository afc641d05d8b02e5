-- The closures of the asked goals within that of their root.
use Rattle.std.proofs.Common.{◌≡◌, ◌∙◌, ℕ, Bool, true, List, [], ◌∷◌, length, map, refl, sym, ap, subst, arith}
use Rattle.std.proofs.lemmas.List.{length-map}
use Rattle.std.specs.Prelude.{Contains, Option, option_map, ◌↔◌}
use Rattle.std.specs.List.{AllZip, position_or_len}
use Rattle.std.proofs.lemmas.Option.{get_or_from_slice_get, slice_get-map}
use Rattle.cls_base.specs.Lists.{AreDistinct}
use Rattle.cls_base.proofs.Lists.{Contains-here, Contains-later, Contains-at, Contains-map, Contains-from_map, length-within}
use Rattle.cls_core.specs.declared.answer.Answer.{Answer}
use Rattle.cls_core.specs.declared.answer.Answer.TheVariants.{Rules}
use Rattle.cls_core.specs.Arguments.{arguments_of, map_answer}
use Rattle.cls_core.specs.Canonical.{IsCanonical}
use Rattle.cls_core.specs.Closure.{IsReached, at_start, at_argument, AllReached, HasMoreGoals, IsClosure, goals_of}
use Rattle.cls_core.specs.Renumbering.{answer_in}
use Rattle.cls_core.specs.Rows.{Row}
use Rattle.cls_core.proofs.Renumbering.{place-is, the_answer, answer-is, answer-at, argument-known}
use Rattle.cls_callers.specs.declared.goal.AskGoal.{AskGoal}
use Rattle.cls_callers.specs.declared.goal.AskGoal.TheVariants.{Root, Of}
use Rattle.cls_callers.specs.declared.tag.AskTag.{AskTag}
use Rattle.cls_callers.specs.AskGoals.{ask_eq, ask_exact, ask_reflexive}
use Rattle.cls_callers.specs.AskLaws.{answer-goals, asked-goals}
use Rattle.cls_core.specs.declared.finished.Finished.{Finished}
use Rattle.cls_table.specs.Completing.{IsCompleteFor}
use Rattle.cls_table.specs.Seen.{SeatSeen}
use Rattle.cls_callers.specs.Asking.{asked_rules, IsAskAnswer, IsCaller}
use Rattle.cls_callers.specs.Known.{goal_or, goal_at, known_answer, IsKnownAnswer}
use Rattle.cls_callers.specs.Laws.{IsReachedFromAsked}
use Rattle.cls_callers.proofs.Named.{answer-over, answer-same}

-- the rows of a finished table of callers are the closure of the root
pub root-closure : {B G : Type 0} (eq : G → G → Bool) (IsAnswer : B → G → Answer G → Type 0) (asked : AskTag B G)
    (seat after : SeatSeen (AskTag B G) (AskGoal G)) (f : Finished (AskGoal G)) (known : List (Row (AskGoal G)))
    → IsCaller asked seat → after.tag ≡ seat.tag → IsCompleteFor (ask_eq eq) (IsAskAnswer IsAnswer) after f → known ≡ f.rows
    → IsClosure (ask_eq eq) (IsAskAnswer IsAnswer asked) Root known
root-closure {B} {G} eq IsAnswer asked seat after f known h same complete is =
    let k = complete h.tag (same ∙ h.known) in
    let closed = subst (λ (t : AskTag B G). IsClosure (ask_eq eq) (IsAskAnswer IsAnswer t) h.tag.start f.rows) h.means k.closure in
    let rooted = subst (λ (x : AskGoal G). IsClosure (ask_eq eq) (IsAskAnswer IsAnswer asked) x f.rows) h.at_root closed in
    subst (IsClosure (ask_eq eq) (IsAskAnswer IsAnswer asked) Root) (sym is) rooted

inside : {G : Type 0} (g h : G) → Of g ≡ Of h → g ≡ h
inside g h e = ap (goal_or g) e

module _ {G : Type 0} where
  pub distinct-of : (gs : List G) → AreDistinct gs → AreDistinct (map Of gs)
  distinct-of [] d = tt
  distinct-of (g ∷ gs) d = (
    (λ m. let x = Contains-from_map Of gs (Of g) m in d.0 (subst (Contains gs) (sym (inside g x.0 x.2)) x.1)),
    distinct-of gs d.1,
  )

module _ {B G : Type 0} (IsAnswer : B → G → Answer G → Type 0) (t : AskTag B G) where
  abbrev IsAsk : AskGoal G → Answer (AskGoal G) → Type 0
  IsAsk = IsAskAnswer IsAnswer t

  -- an argument of an answer is an argument of that answer under the root
  argument-of : (a : Answer G) (h : G) → Contains (arguments_of a) h → Contains (arguments_of (map_answer Of a)) (Of h)
  argument-of a h m = subst (λ (l : List (AskGoal G)). Contains l (Of h)) (sym (answer-goals Of a)) (Contains-map Of (arguments_of a) h m)

  -- the root leads to each asked goal
  pub asked-reached : (g : G) → Contains t.goals g → IsReached IsAsk Root (Of g)
  asked-reached g m =
      at_argument Root (Of g) (Rules (asked_rules 1 t.goals)) at_start refl
      (subst (λ (l : List (AskGoal G)). Contains l (Of g)) (sym (asked-goals 1 t.goals)) (Contains-map Of t.goals g m))

  -- and to what these lead to
  pub below-reached : (g : G) → Contains t.goals g → (h : G) → IsReached (IsAnswer t.by) g h → IsReached IsAsk Root (Of h)
  below-reached g m h at_start = asked-reached g m
  below-reached g m h (at_argument k h' a r is n) =
      at_argument (Of k) (Of h) (map_answer Of a) (below-reached g m k r) (a, is, refl) (argument-of a h n)

  -- what the root leads to is the root, or what one of the asked goals leads to
  abbrev Comes : AskGoal G → Type 0
  Comes Root = Unit {0}
  Comes (Of h) = IsReachedFromAsked IsAnswer t h

  comes-on : (x y : AskGoal G) (a : Answer (AskGoal G)) → Comes x → IsAsk x a → Contains (arguments_of a) y → Comes y
  comes-on Root y a r is m =
      let n = subst (λ (l : List (AskGoal G)). Contains l y) (asked-goals 1 t.goals) (subst (λ (b : Answer (AskGoal G)). Contains (arguments_of b) y) is m) in
      let g = Contains-from_map Of t.goals y n in
      subst Comes (sym g.2) (g.0, g.1, at_start)
  comes-on (Of g) y a r is m =
      let n = subst (λ (l : List (AskGoal G)). Contains l y) (answer-goals Of is.0) (subst (λ (b : Answer (AskGoal G)). Contains (arguments_of b) y) is.2 m) in
      let h = Contains-from_map Of (arguments_of is.0) y n in
      subst Comes (sym h.2) (r.0, r.1, at_argument g h.0 is.0 r.2 is.1 h.1)

  reached-comes : (x : AskGoal G) → IsReached IsAsk Root x → Comes x
  reached-comes x at_start = tt
  reached-comes y (at_argument x y' a r is m) = comes-on x y a (reached-comes x r) is m

  -- the root's closure is the root with the closures of the asked goals
  pub root-reaches : (h : G) → IsReached IsAsk Root (Of h) ↔ IsReachedFromAsked IsAnswer t h
  root-reaches h = (λ r. reached-comes (Of h) r, λ k. below-reached k.0 k.1 h k.2)

module _ {B G : Type 0} (eq : G → G → Bool) (exact : (x y : G) → eq x y ≡ true → x ≡ y) (reflexive : (x : G) → eq x x ≡ true) (IsAnswer : B → G → Answer G → Type 0) (t : AskTag B G) (rows : List (Row (AskGoal G))) (c : IsClosure (ask_eq eq) (IsAskAnswer IsAnswer t) Root rows) where
  abbrev ask : AskGoal G → AskGoal G → Bool
  ask = ask_eq eq

  abbrev ask-exact : (x y : AskGoal G) → ask x y ≡ true → x ≡ y
  ask-exact = ask_exact eq exact

  abbrev ask-reflexive : (x : AskGoal G) → ask x x ≡ true
  ask-reflexive = ask_reflexive eq reflexive

  abbrev keys : List (AskGoal G)
  keys = goals_of rows

  abbrev held : AskGoal G → Answer (AskGoal G)
  held x = the_answer ask ask-exact ask-reflexive (IsAskAnswer IsAnswer t) Root rows c x

  -- a goal stands at its place
  stands : (d g : G) → Contains keys (Of g) → goal_at keys d (position_or_len (ask (Of g)) keys) ≡ g
  stands d g m =
      ap (goal_or d) (get_or_from_slice_get keys (position_or_len (ask (Of g)) keys) (Of g) Root (place-is ask ask-exact ask-reflexive keys (Of g) m))

  -- the answer of a known goal is one that the tag means
  pub known-is : (g : G) → Contains keys (Of g) → IsAnswer t.by g (known_answer eq rows g)
  known-is g m =
      let a = held (Of g) in
      let is = answer-is ask ask-exact ask-reflexive (IsAskAnswer IsAnswer t) Root rows c (Of g) m in
      let b = is.0 in
      let known = argument-known ask ask-exact ask-reflexive (IsAskAnswer IsAnswer t) Root rows c (Of g) m in
      let row = ap answer_in (answer-at ask ask-exact ask-reflexive (IsAskAnswer IsAnswer t) Root rows c (Of g) m) in
      let place : AskGoal G → ℕ = λ x. position_or_len (ask x) keys in
      let each : (h : G) → Contains (arguments_of b) h → goal_at keys g (place (Of h)) ≡ h = λ h n. stands g h (known (Of h) (subst (λ (x : Answer (AskGoal G)). Contains (arguments_of x) (Of h)) (sym is.2) (argument-of IsAnswer t b h n))) in
      let wrapped : map_answer place a ≡ map_answer (λ h. place (Of h)) b = ap (map_answer place) is.2 ∙ answer-over Of place (λ h. place (Of h)) b (λ h n. refl) in
      let same : known_answer eq rows g ≡ b =
      ap (map_answer (goal_at keys g)) (row ∙ wrapped)
      ∙ (answer-over (λ h. place (Of h)) (goal_at keys g) (λ h. h) b each ∙ answer-same b) in
      subst (IsAnswer t.by g) (sym same) is.1

  module _ (start : G) (asked : Contains t.goals start) where
    abbrev Known : G → Answer G → Type 0
    Known = IsKnownAnswer eq rows

    -- what is reached from the start by the known answers has a row
    known-reached : (g : G) → IsReached Known start g → Contains keys (Of g)
    known-reached g at_start = c.whole (Of start) (asked-reached IsAnswer t start asked)
    known-reached g (at_argument h g' a r is m) =
        let here = known-reached h r in
        let n = subst (λ (x : Answer G). Contains (arguments_of x) g) is m in
        c.whole (Of g) (at_argument (Of h) (Of g) (map_answer Of (known_answer eq rows h)) (c.reached (Of h) here) (known_answer eq rows h, known-is h here, refl) (argument-of IsAnswer t (known_answer eq rows h) g n))

    -- it is reached by the answers that the tag means
    meant-reached : (g : G) → IsReached Known start g → IsReached (IsAnswer t.by) start g
    meant-reached g at_start = at_start
    meant-reached g (at_argument h g' a r is m) =
        at_argument h g a (meant-reached h r) (subst (IsAnswer t.by h) (sym is) (known-is h (known-reached h r))) m

    -- there are no more such goals than rows
    pub known-few : HasMoreGoals Known start (length rows) → ⊥
    known-few (gs, d, q, l) =
        let short = length-within (map Of gs) keys (distinct-of gs d) (λ x m. let g = Contains-from_map Of gs x m in subst (Contains keys) (sym g.2) (known-reached g.0 (q g.0 g.1))) in
        omega (arith, short, length-map gs Of, length-map rows (λ (r : Row (AskGoal G)). r.goal))

    meant-answers : (gs : List G) (answers : List (Answer G)) → AllReached Known start gs → AllZip Known gs answers → AllZip (IsAnswer t.by) gs answers
    meant-answers [] [] q z = tt
    meant-answers [] (a ∷ answers) q z = absurd z
    meant-answers (g ∷ gs) [] q z = absurd z
    meant-answers (g ∷ gs) (a ∷ answers) q z = (
      subst (IsAnswer t.by g) (sym z.0) (known-is g (known-reached g (q g (Contains-here g gs)))),
      meant-answers gs answers (λ x m. q x (Contains-later x g gs m)) z.1,
    )

    -- the canonical rows by the known answers are those by the answers that the tag means
    pub meant-canonical : (own : List (Row G)) → IsCanonical eq Known start own → IsCanonical eq (IsAnswer t.by) start own
    meant-canonical own k =
        let n = k.numbering in record {
          numbering = record {
            answers = n.answers;
            answered = meant-answers (goals_of own) n.answers n.reached n.answered;
            reached = λ g m. meant-reached g (n.reached g m);
            breadth_first = n.breadth_first;
          };
          answered = λ i r e.
              (let h = k.answered i r e in
              let m = Contains-at (goals_of own) i r.goal (slice_get-map (λ (x : Row G). x.goal) own i ∙ ap (λ (o : Option (Row G)). option_map (λ (x : Row G). x.goal) o) e) in
              (h.0, subst (IsAnswer t.by r.goal) (sym h.1) (known-is r.goal (known-reached r.goal (n.reached r.goal m))), h.2));
        }
