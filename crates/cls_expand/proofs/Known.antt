-- Rules by all components, where those by the first ones are known.
use Rattle.std.proofs.Common.{ℕ, ◌≡◌, ◌+◌, ◌<◌, ◌≤◌, refl, sym, ◌∙◌, subst, ap, List, [], ◌∷◌, length, arith}
use Rattle.std.specs.Prelude.{None, map, slice_index_or}
use Rattle.cls_base.specs.declared.rule.Rule.{Rule}
use Rattle.cls_path.specs.Paths.{TypePath, more, listed}
use Rattle.cls_core.specs.declared.answer.Answer.{Answer}
use Rattle.cls_core.specs.declared.answer.Answer.TheVariants.{Rules}
use Rattle.cls_library.specs.declared.place.Place.{Place}
use Rattle.cls_library.specs.Families.{Finder, IsNext}
use Rattle.cls_library.specs.Libraries.{Library}
use Rattle.cls_expand.specs.Answers.{rule_of, IsAnswer, IsAnswerBy, AreRulesBefore}
use Rattle.cls_expand.specs.ByComponent.{rules_with}
use Rattle.cls_expand.specs.Making.{AreBegun, AreRulesBetween, PutsBetween}
use Rattle.cls_expand.proofs.Between.{Between, between_joined}
use Rattle.cls_expand.proofs.Making.{begun_none}
use Rattle.cls_expand.proofs.Places.{all_between, some_parts}
use Rattle.cls_expand.proofs.Unreached.{begun_before, reached_start}

pub path_of_goal : (some goal : List TypePath) → some ≡ goal → 0 < length goal → 0 < length some
path_of_goal some goal e h = subst (λ (g : List TypePath). 0 < length g) (sym e) h

-- what is put behind no rules
pub between_put :
    (l : Library) (f : Finder) (goal : List TypePath) (begin end : ℕ) (rs : List (Rule (List TypePath))) (a : Answer (List TypePath))
    → f ≡ record { library = l; goal = goal } → rs ≡ [] → PutsBetween l f.goal begin end rs a → AreRulesBetween l goal begin end a
between_put l f goal begin end rs a is nothing h =
    let none = begun_none l (listed f.goal) begin in
    let start = subst (λ (qs : List (Rule (List TypePath))). AreBegun l (listed f.goal) begin begin 0 [] (map rule_of qs)) (sym nothing) none in
    subst (λ (g : List TypePath). AreRulesBetween l g begin end a) (ap (λ (f : Finder). f.goal) is) (h begin (omega arith) start)

-- a component makes the rules with the arguments at a place of the list
abbrev MakesAt : Library → List TypePath → List (List (List (List TypePath))) → ℕ → ℕ → Type 0
MakesAt l goal lists i y = IsAnswerBy l y goal (Rules (rules_with y (slice_index_or lists i [])))

from_none : (i : ℕ) → 0 + i ≡ i
from_none i = omega arith

-- the rules by the first components are begun
pub begun_known :
    (l : Library) (goal : List TypePath) (x : ℕ) (rs : List (Rule (List TypePath))) → 0 < length goal → AreRulesBefore l x goal rs
    → AreBegun l (listed goal) 0 x 0 [] (map rule_of rs)
begun_known l [] x rs path h = absurd (let k : 0 < 0 = path in omega arith)
begun_known l (q ∷ rest) x rs path h =
    let paths = more q (listed rest) in
    let all = between_joined l q rest 0 h.lists each in
    let known = subst (λ (qs : List (Rule (List TypePath))). Between l paths 0 (0 + length h.lists) (map rule_of qs)) (sym h.joined) all in
    subst (λ e. Between l paths 0 e (map rule_of rs)) (from_none (length h.lists) ∙ h.count) known
  where
    each : (i : ℕ) → i < length h.lists → MakesAt l (q ∷ rest) h.lists i (0 + i)
    each i m = subst (MakesAt l (q ∷ rest) h.lists i) (sym (from_none i)) (h.each i (let c : length h.lists ≡ x = h.count in omega arith))

-- they are all rules
pub all_known :
    (l : Library) (goal : List TypePath) (x : ℕ) (rs : List (Rule (List TypePath))) → 0 < length goal → x ≡ length l.components
    → AreRulesBefore l x goal rs → IsAnswer l goal (Rules rs)
all_known l goal x rs path whole h =
    let q = some_parts goal path in
    all_between l goal x (Rules rs) q.0 q.1 q.2 whole (begun_known l goal x rs path h)

-- no later component makes a rule, since no place is found
pub known_alone :
    (l : Library) (goal : List TypePath) (x : ℕ) (rs : List (Rule (List TypePath))) → 0 < length goal → x ≤ length l.components
    → ((from : Place) → IsNext l (listed goal) from None) → AreRulesBefore l x goal rs → IsAnswer l goal (Rules rs)
known_alone l goal x rs path within none h =
    let q = some_parts goal path in
    let from : Place = record { component = x; count = 0 } in
    let start = begun_known l goal x rs path h in
    let all =
    begun_before l (listed goal) q.0 q.1 q.2 0 from (map rule_of rs) start (length l.components) (omega arith) (reached_start x (length l.components) within)
    (λ p place later before. none from p place later) in
    all_between l goal (length l.components) (Rules rs) q.0 q.1 q.2 refl all

-- the later components put theirs behind them
pub known_before :
    (l : Library) (f : Finder) (goal : List TypePath) (x end : ℕ) (rs : List (Rule (List TypePath))) (a : Answer (List TypePath))
    → 0 < length goal → f ≡ record { library = l; goal = goal } → end ≡ length l.components → AreRulesBefore l x goal rs
    → PutsBetween l f.goal x end rs a → IsAnswer l goal a
known_before l f goal x end rs a path is whole h put =
    let q = some_parts goal path in
    let here = subst (λ (g : List TypePath). PutsBetween l g x end rs a) (ap (λ (f : Finder). f.goal) is) put in
    all_between l goal end a q.0 q.1 q.2 whole (here 0 (omega arith) (begun_known l goal x rs path h))
