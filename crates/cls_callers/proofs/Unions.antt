-- The root's closure against the union of the closures of the asked goals.
use Rattle.std.proofs.Common.{◌≡◌, ◌+◌, ◌≤◌, ◌∙◌, inl, inr, ℕ, suc, List, [], ◌∷◌, length, map, refl, sym, ap, subst, arith}
use Rattle.std.specs.Prelude.{Contains, ◌↔◌}
use Rattle.std.specs.List.{AllZip, sum_by}
use Rattle.std.proofs.lemmas.List.{length-map}
use Rattle.std.proofs.lemmas.List.Sums.{sum_by-cons}
use Rattle.cls_base.specs.Lists.{AreDistinct}
use Rattle.cls_base.specs.declared.rule.Rule.{Rule}
use Rattle.cls_base.specs.Arguments.{map_rule}
use Rattle.cls_base.proofs.Lists.{Contains-nil, Contains-here, Contains-later, Contains-cases, Contains-from_map}
use Rattle.cls_core.specs.declared.answer.Answer.{Answer}
use Rattle.cls_core.specs.declared.answer.Answer.TheVariants.{Rules, Wide}
use Rattle.cls_core.specs.Arguments.{map_answer, rule_count}
use Rattle.cls_core.specs.Closure.{IsReached, at_start, AllReached, HasMoreGoals, HasMoreRules, IsTooLarge}
use Rattle.cls_callers.specs.declared.goal.AskGoal.{AskGoal}
use Rattle.cls_callers.specs.declared.goal.AskGoal.TheVariants.{Root, Of}
use Rattle.cls_callers.specs.declared.tag.AskTag.{AskTag}
use Rattle.cls_callers.specs.Asking.{asked_rules, IsAskAnswer}
use Rattle.cls_callers.specs.Laws.{IsReachedFromAsked}
use Rattle.cls_callers.specs.Unions.{HasMoreGoalsTogether, HasMoreRulesTogether, HasLargeUnion}
use Rattle.cls_callers.proofs.Within.{distinct-of, root-reaches}

root-alone : {G : Type 0} (g : G) → Root ≡ Of g → ⊥
root-alone g e = cc

rules-asked : {G : Type 0} (k : ℕ) (gs : List G) → length (asked_rules k gs) ≡ length gs
rules-asked k [] = refl
rules-asked k (g ∷ gs) = ap suc (rules-asked (suc k) gs)

module _ {G H : Type 0} (f : G → H) where
  rules-many : (rs : List (Rule G)) → length (map (map_rule f) rs) ≡ length rs
  rules-many [] = refl
  rules-many (r ∷ rs) = ap suc (rules-many rs)

  mapped-many : (a : Answer G) → rule_count (map_answer f a) ≡ rule_count a
  mapped-many (Rules rs) = rules-many rs
  mapped-many Wide = refl

-- the goals that aren't the root
abbrev unrooted : {G : Type 0} → List (AskGoal G) → List G
unrooted [] = []
unrooted (Root ∷ xs) = unrooted xs
unrooted (Of g ∷ xs) = g ∷ unrooted xs

module _ {G : Type 0} where
  unrooted-there : (xs : List (AskGoal G)) (g : G) → Contains (unrooted xs) g → Contains xs (Of g)
  unrooted-there [] g m = absurd (Contains-nil g m)
  unrooted-there (Root ∷ xs) g m = Contains-later (Of g) Root xs (unrooted-there xs g m)
  unrooted-there (Of h ∷ xs) g m = elim (Contains-cases h (unrooted xs) g m) [
    | inl e ↦ subst (λ x. Contains (Of h ∷ xs) (Of x)) (sym e) (Contains-here (Of h) xs)
    | inr n ↦ Contains-later (Of g) (Of h) xs (unrooted-there xs g n)
  ]

  unrooted-distinct : (xs : List (AskGoal G)) → AreDistinct xs → AreDistinct (unrooted xs)
  unrooted-distinct [] d = tt
  unrooted-distinct (Root ∷ xs) d = unrooted-distinct xs d.1
  unrooted-distinct (Of g ∷ xs) d = (λ m. d.0 (unrooted-there xs g m), unrooted-distinct xs d.1)

  -- where the root isn't in the list, none is left out
  unrooted-whole : (xs : List (AskGoal G)) → (Contains xs Root → ⊥) → length (unrooted xs) ≡ length xs
  unrooted-whole [] n = refl
  unrooted-whole (Root ∷ xs) n = absurd (n (Contains-here Root xs))
  unrooted-whole (Of g ∷ xs) n = ap suc (unrooted-whole xs (λ m. n (Contains-later Root (Of g) xs m)))

  -- otherwise it is the only one
  unrooted-many : (xs : List (AskGoal G)) → AreDistinct xs → length xs ≤ suc (length (unrooted xs))
  unrooted-many [] d = omega arith
  unrooted-many (Root ∷ xs) d = let same = unrooted-whole xs d.0 in omega arith
  unrooted-many (Of g ∷ xs) d = let h = unrooted-many xs d.1 in omega arith

module _ {B G : Type 0} (IsAnswer : B → G → Answer G → Type 0) (t : AskTag B G) where
  abbrev IsAsk : AskGoal G → Answer (AskGoal G) → Type 0
  IsAsk = IsAskAnswer IsAnswer t

  from-root : (xs : List (AskGoal G)) → AllReached IsAsk Root xs → (g : G) → Contains (unrooted xs) g → IsReachedFromAsked IsAnswer t g
  from-root xs q g m = (root-reaches IsAnswer t g).0 (q (Of g) (unrooted-there xs g m))

  to-root : (gs : List G) → ((g : G) → Contains gs g → IsReachedFromAsked IsAnswer t g) → AllReached IsAsk Root (Root ∷ map Of gs)
  to-root gs q x m = elim (Contains-cases Root (map Of gs) x m) [
    | inl e ↦ subst (IsReached IsAsk Root) (sym e) at_start
    | inr n ↦ (let g = Contains-from_map Of gs x n in subst (IsReached IsAsk Root) (sym g.2) ((root-reaches IsAnswer t g.0).1 (q g.0 g.1)))
  ]

  rooted-distinct : (gs : List G) → AreDistinct gs → AreDistinct (Root ∷ map Of gs)
  rooted-distinct gs d = ((λ m. let g = Contains-from_map Of gs Root m in root-alone g.0 g.2), distinct-of gs d)

  more-together : (n : ℕ) → HasMoreGoals IsAsk Root (n + 1) → HasMoreGoalsTogether IsAnswer t n
  more-together n (xs, d, q, l) =
      (unrooted xs, unrooted-distinct xs d, from-root xs q, (let h = unrooted-many xs d in omega arith))

  more-rooted : (n : ℕ) → HasMoreGoalsTogether IsAnswer t n → HasMoreGoals IsAsk Root (n + 1)
  more-rooted n (gs, d, q, l) =
      (Root ∷ map Of gs, rooted-distinct gs d, to-root gs q, (let h = length-map gs Of in omega arith))

  -- the answers of the goals that aren't the root, without those of the root
  record Parted (xs : List (AskGoal G)) (answers : List (Answer (AskGoal G))) : Type 0 where
    own : List (Answer G)
    answered : AllZip (IsAnswer t.by) (unrooted xs) own
    rules : sum_by rule_count answers ≤ sum_by rule_count own + length t.goals

  -- the same where the root isn't in the list
  whole : (xs : List (AskGoal G)) (answers : List (Answer (AskGoal G))) → (Contains xs Root → ⊥) → AllZip IsAsk xs answers
      → (own : List (Answer G)) × AllZip (IsAnswer t.by) (unrooted xs) own × (sum_by rule_count answers ≡ sum_by rule_count own)
  whole [] [] n z = ([], tt, refl)
  whole [] (a ∷ answers) n z = absurd z
  whole (x ∷ xs) [] n z = absurd z
  whole (Root ∷ xs) (a ∷ answers) n z = absurd (n (Contains-here Root xs))
  whole (Of g ∷ xs) (a ∷ answers) n z =
      let rest = whole xs answers (λ m. n (Contains-later Root (Of g) xs m)) z.1 in
      let b = z.0.0 in
      let count : rule_count a ≡ rule_count b = ap rule_count z.0.2 ∙ mapped-many Of b in
      (b ∷ rest.0, (z.0.1, rest.1), omega (arith, rest.2, count, sum_by-cons rule_count a answers, sum_by-cons rule_count b rest.0))

  parted : (xs : List (AskGoal G)) (answers : List (Answer (AskGoal G))) → AreDistinct xs → AllZip IsAsk xs answers → Parted xs answers
  parted [] [] d z = record { own = []; answered = tt; rules = omega arith }
  parted [] (a ∷ answers) d z = absurd z
  parted (x ∷ xs) [] d z = absurd z
  parted (Root ∷ xs) (a ∷ answers) d z =
      let rest = whole xs answers d.0 z.1 in
      let count : rule_count a ≡ length t.goals = ap rule_count z.0 ∙ rules-asked 1 t.goals in
      record { own = rest.0; answered = rest.1; rules = omega (arith, rest.2, count, sum_by-cons rule_count a answers) }
  parted (Of g ∷ xs) (a ∷ answers) d z =
      let rest = parted xs answers d.1 z.1 in
      let b = z.0.0 in
      let count : rule_count a ≡ rule_count b = ap rule_count z.0.2 ∙ mapped-many Of b in
      record {
        own = b ∷ rest.own;
        answered = (z.0.1, rest.answered);
        rules = omega (arith, rest.rules, count, sum_by-cons rule_count a answers, sum_by-cons rule_count b rest.own);
      }

  rules-together : (n : ℕ) → HasMoreRules IsAsk Root (n + length t.goals) → HasMoreRulesTogether IsAnswer t n
  rules-together n h =
      let p = parted h.goals h.answers h.distinct h.answered in
      record {
        goals = unrooted h.goals;
        answers = p.own;
        distinct = unrooted-distinct h.goals h.distinct;
        reached = from-root h.goals h.reached;
        answered = p.answered;
        more = omega (arith, h.more, p.rules);
      }

  wrapped-zip : (gs : List G) (answers : List (Answer G)) → AllZip (IsAnswer t.by) gs answers → AllZip IsAsk (map Of gs) (map (map_answer Of) answers)
  wrapped-zip [] [] z = tt
  wrapped-zip [] (a ∷ answers) z = absurd z
  wrapped-zip (g ∷ gs) [] z = absurd z
  wrapped-zip (g ∷ gs) (a ∷ answers) z = ((a, z.0, refl), wrapped-zip gs answers z.1)

  wrapped-rules : (answers : List (Answer G)) → sum_by rule_count (map (map_answer Of) answers) ≡ sum_by rule_count answers
  wrapped-rules [] = refl
  wrapped-rules (a ∷ answers) =
      let rest = wrapped-rules answers in
      omega (arith, rest, mapped-many Of a, sum_by-cons rule_count (map_answer Of a) (map (map_answer Of) answers), sum_by-cons rule_count a answers)

  rules-rooted : (n : ℕ) → HasMoreRulesTogether IsAnswer t n → HasMoreRules IsAsk Root (n + length t.goals)
  rules-rooted n h =
      let first : Answer (AskGoal G) = Rules (asked_rules 1 t.goals) in
      record {
        goals = Root ∷ map Of h.goals;
        answers = first ∷ map (map_answer Of) h.answers;
        distinct = rooted-distinct h.goals h.distinct;
        reached = to-root h.goals h.reached;
        answered = (refl, wrapped-zip h.goals h.answers h.answered);
        more = omega (arith, h.more, wrapped-rules h.answers, rules-asked 1 t.goals, sum_by-cons rule_count first (map (map_answer Of) h.answers));
      }

  pub root-adds : (goals rules : ℕ) → IsTooLarge IsAsk Root (goals + 1) (rules + length t.goals) ↔ HasLargeUnion IsAnswer t goals rules
  root-adds goals rules = (
    (λ large. elim large [ inl g ↦ inl (more-together goals g) | inr r ↦ inr (rules-together rules r) ]),
    (λ large. elim large [ inl g ↦ inl (more-rooted goals g) | inr r ↦ inr (rules-rooted rules r) ]),
  )

  -- where the closure of one asked goal passes the limits, the union does
  pub large-in-union : (g : G) → Contains t.goals g → (goals rules : ℕ) → IsTooLarge (IsAnswer t.by) g goals rules → HasLargeUnion IsAnswer t goals rules
  large-in-union g m goals rules large = elim large [
    | inl (gs, d, q, l) ↦ inl (gs, d, (λ h n. (g, m, q h n)), l)
    | inr r ↦ inr (record {
      goals = r.goals;
      answers = r.answers;
      distinct = r.distinct;
      reached = λ h n. (g, m, r.reached h n);
      answered = r.answered;
      more = r.more;
    })
  ]
