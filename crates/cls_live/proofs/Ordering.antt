-- The rules of a goal are in the order of their components.
use Rattle.std.proofs.Common.{ℕ, zero, suc, ◌≡◌, ◌+◌, ◌<◌, ◌≤◌, refl, sym, ◌∙◌, subst, ap, List, [], ◌∷◌, ◌++◌, length, get_or, arith, Bool, true, false, cond}
use Rattle.std.specs.Prelude.{◌==◌, map}
use Rattle.std.proofs.lemmas.Bool.Decides.{Decides-eqb}
use Rattle.cls_base.specs.declared.rule.Rule.{Rule}
use Rattle.cls_base.specs.declared.rule.Rule.TheVariants.{Head, Any}
use Rattle.cls_base.specs.Arguments.{map_rule}
use Rattle.cls_path.specs.Paths.{Paths, none, listed}
use Rattle.cls_core.specs.declared.answer.Answer.TheVariants.{Rules}
use Rattle.cls_core.specs.Arguments.{rules_of}
use Rattle.cls_library.specs.Libraries.{Library}
use Rattle.cls_library.specs.Rules.{numbers_from, heads}
use Rattle.cls_expand.specs.Answers.{IsAnswer, IsAnswerBy}
use Rattle.cls_expand.specs.ByComponent.{rules_with, arguments_by, rules_joined}
use Rattle.cls_expand.specs.Determined.{one_answer}
use Rattle.cls_expand.proofs.Between.{rules_are_by_components, components_make_the_rules}
use Rattle.cls_live.specs.Parts.{Goal}
use Rattle.cls_live.specs.Slots.{HeadsRise}

module _ {G : Type 0} where
  pub rise_lower : (low from end : ℕ) (rs : List (Rule G)) → low ≤ from → HeadsRise from end rs → HeadsRise low end rs
  rise_lower low from end [] le h = tt
  rise_lower low from end (Head x args ∷ rs) le h = (let here : from ≤ x = h.0 in omega arith, h.1, h.2)
  rise_lower low from end (Any left right ∷ rs) le h = rise_lower low from end rs le h

  rise_with :
      (low x end : ℕ) (lists : List (List G)) (rest : List (Rule G)) → low ≤ x → x < end → HeadsRise x end rest → HeadsRise low end (rules_with x lists ++ rest)
  rise_with low x end [] rest le m h = rise_lower low x end rest le h
  rise_with low x end (args ∷ lists) rest le m h = (le, m, rise_with x x end lists rest (omega arith) m h)

  rise_joined : (low a end : ℕ) (lists : List (List (List G))) → low ≤ a → a + length lists ≤ end → HeadsRise low end (rules_joined a lists)
  rise_joined low a end [] le m = tt
  rise_joined low a end (one ∷ lists) le m =
      rise_with low a end one (rules_joined (a + 1) lists) le (omega arith) (rise_joined a (a + 1) end lists (omega arith) (omega arith))

  -- no rule has a component below the first one, or from the end on
  pub none_below : (low end x : ℕ) (rs : List (Rule G)) → HeadsRise low end rs → x < low → arguments_by x rs ≡ []
  none_below low end x [] h m = refl
  none_below low end x (Head y args ∷ rs) h m =
      let here : low ≤ y = h.0 in
      by (none_below y end x rs h.2 (omega arith)) (x == y) refl here
    where
      by : arguments_by x rs ≡ [] → (b : Bool) → (x == y) ≡ b → low ≤ y → cond b (args ∷ arguments_by x rs) (arguments_by x rs) ≡ []
      by rest true e here = let same : x ≡ y = (Decides-eqb x y).0 e in absurd (omega arith)
      by rest false e here = rest
  none_below low end x (Any left right ∷ rs) h m = none_below low end x rs h m

  pub none_from : (low end x : ℕ) (rs : List (Rule G)) → HeadsRise low end rs → end ≤ x → arguments_by x rs ≡ []
  none_from low end x [] h m = refl
  none_from low end x (Head y args ∷ rs) h m = by (none_from y end x rs h.2 m) (x == y) refl h.1
    where
      by : arguments_by x rs ≡ [] → (b : Bool) → (x == y) ≡ b → y < end → cond b (args ∷ arguments_by x rs) (arguments_by x rs) ≡ []
      by rest true e here = let same : x ≡ y = (Decides-eqb x y).0 e in absurd (omega arith)
      by rest false e here = rest
  none_from low end x (Any left right ∷ rs) h m = none_from low end x rs h m

-- rules in other arguments
rise_back : {G H : Type 0} (f : G → H) (low end : ℕ) (rs : List (Rule G)) → HeadsRise low end (map (map_rule f) rs) → HeadsRise low end rs
rise_back f low end [] h = tt
rise_back f low end (Head x args ∷ rs) h = (h.0, h.1, rise_back f x end rs h.2)
rise_back f low end (Any left right ∷ rs) h = rise_back f low end rs h

-- the rules of omega
rise_omega : (low x k end : ℕ) → low ≤ x → x + k ≤ end → HeadsRise low end (heads (numbers_from x k) ++ Any none none ∷ [])
rise_omega low x zero end le m = tt
rise_omega low x (suc k) end le m = (le, omega arith, rise_omega x (suc x) k end (omega arith) (omega arith))

-- the arguments of the rules of so many components, from one on
abbrev arguments_from : {G : Type 0} → ℕ → ℕ → List (Rule G) → List (List (List G))
arguments_from x zero rs = []
arguments_from x (suc k) rs = arguments_by x rs ∷ arguments_from (suc x) k rs

from_length : {G : Type 0} (x k : ℕ) (rs : List (Rule G)) → length (arguments_from x k rs) ≡ k
from_length x zero rs = refl
from_length x (suc k) rs = ap suc (from_length (suc x) k rs)

from_at : {G : Type 0} (x k i : ℕ) (rs : List (Rule G)) → i < k → get_or (arguments_from x k rs) i [] ≡ arguments_by (x + i) rs
from_at x zero i rs m = absurd (omega arith)
from_at x (suc k) zero rs m = ap (λ n. arguments_by n rs) (let e : x ≡ x + 0 = omega arith in e)
from_at x (suc k) (suc i) rs m = from_at (suc x) k i rs (omega arith) ∙ ap (λ n. arguments_by n rs) (let e : suc x + i ≡ x + suc i = omega arith in e)

-- the rules of a goal with a path are those of the components, one after the other
joined : (l : Library) (goal : Goal) (rs : List (Rule Goal)) → 0 < length goal → IsAnswer l goal (Rules rs) → rs ≡ rules_joined 0 (arguments_from 0 (length l.components) rs)
joined l goal rs path h =
    let lists = arguments_from 0 (length l.components) rs in
    let whole = components_make_the_rules l goal lists path (from_length 0 (length l.components) rs) each in
    ap rules_of (one_answer l goal (Rules rs) (Rules (rules_joined 0 lists)) h whole)
  where
    at : (x : ℕ) → x < length l.components → arguments_by x rs ≡ get_or (arguments_from 0 (length l.components) rs) x []
    at x d = sym (from_at 0 (length l.components) x rs d ∙ ap (λ n. arguments_by n rs) (let e : 0 + x ≡ x = omega arith in e))

    each : (x : ℕ) → x < length l.components → IsAnswerBy l x goal (Rules (rules_with x (get_or (arguments_from 0 (length l.components) rs) x [])))
    each x d = subst (λ (lists : List (List Goal)). IsAnswerBy l x goal (Rules (rules_with x lists))) (at x d) (rules_are_by_components l goal rs h x d)

-- the rules of a goal are in the order of their components
pub answer_rises : (l : Library) (goal : Goal) (rs : List (Rule Goal)) → IsAnswer l goal (Rules rs) → HeadsRise 0 (length l.components) rs
answer_rises l [] rs h =
    rise_back listed 0 (length l.components) rs
    (subst (λ (qs : List (Rule Paths)). HeadsRise 0 (length l.components) qs) (sym h.1) (rise_omega 0 0 (length l.components) (length l.components) (omega arith) (omega arith)))
answer_rises l (q ∷ rest) rs h =
    let lists = arguments_from 0 (length l.components) rs in
    let count = from_length 0 (length l.components) rs in
    subst (λ (qs : List (Rule Goal)). HeadsRise 0 (length l.components) qs) (sym (joined l (q ∷ rest) rs (omega arith) h))
    (rise_joined 0 0 (length l.components) lists (omega arith) (omega arith))
