-- The root's rules one after another, and an answer that is filed alone.
use Rattle.std.proofs.Common.{◌≡◌, ◌+◌, ◌<◌, ◌∙◌, ℕ, suc, Bool, true, List, [], ◌∷◌, ◌++◌, Some, length, slice_get, slice_index_or, sym, ap, subst, arith}
use Rattle.std.proofs.lemmas.Option.{get_or_from_slice_get}
use Rattle.std.specs.List.{position_or_len}
use Rattle.cls_base.specs.declared.rule.Rule.{Rule}
use Rattle.cls_base.specs.declared.rule.Rule.TheVariants.{Head}
use Rattle.cls_core.specs.declared.answer.Answer.{Answer}
use Rattle.cls_core.specs.Arguments.{arguments_of, map_answer}
use Rattle.cls_core.specs.declared.state.RowState.{RowState}
use Rattle.cls_core.specs.declared.state.RowState.TheVariants.{Filed}
use Rattle.cls_core.specs.Machine.{begun, claimed, filed, grown, numbered, IsFiled}
use Rattle.cls_core.specs.Rows.{Machine}
use Rattle.cls_core.proofs.Columns.{some-inside}
use Rattle.cls_core.proofs.FiledRows.{filed-inside}
use Rattle.cls_core.proofs.Insertion.{all-length}
use Rattle.cls_core.proofs.Members.{all-contains}
use Rattle.cls_core.proofs.Renumbering.{place-is}
use Rattle.cls_callers.specs.declared.goal.AskGoal.{AskGoal}
use Rattle.cls_callers.specs.declared.goal.AskGoal.TheVariants.{Of}
use Rattle.cls_callers.specs.Asking.{asked_rules}
use Rattle.cls_callers.proofs.Named.{answer-over}

pub asked-more : {G : Type 0} (k : ℕ) (gs : List G) (g : G)
    → asked_rules k (gs ++ g ∷ []) ≡ asked_rules k gs ++ Head (k + length gs) (Of g ∷ []) ∷ []
asked-more k [] g = ap (λ (n : ℕ). Head n (Of g ∷ []) ∷ []) (let same : k ≡ k + 0 = omega arith in same)
asked-more {G} k (x ∷ gs) g =
    let same : suc k + length gs ≡ k + suc (length gs) = omega arith in
    ap (λ (l : List (Rule (AskGoal G))). Head k (Of x ∷ []) ∷ l) (asked-more (suc k) gs g
    ∙ ap (λ (n : ℕ). asked_rules (suc k) gs ++ Head n (Of g ∷ []) ∷ []) same)

module _ {G : Type 0} (eq : G → G → Bool) (exact : (x y : G) → eq x y ≡ true → x ≡ y) (reflexive : (x : G) → eq x x ≡ true) (goal : G) (answer : Answer G) where
  abbrev rows : List G
  rows = grown eq (goal ∷ []) answer

  pub alone-some : 0 < length rows
  alone-some = let h = all-length eq (goal ∷ []) (arguments_of answer) in omega arith

  -- what is filed alone is the answer again, once the goals stand in place of the numbers
  pub alone-back : map_answer (λ n. Of (slice_index_or rows n goal)) (numbered eq rows answer) ≡ map_answer Of answer
  alone-back =
      answer-over (λ g. position_or_len (eq g) rows) (λ n. Of (slice_index_or rows n goal)) Of answer
      (λ g m. ap Of (get_or_from_slice_get rows (position_or_len (eq g) rows) g goal (place-is eq exact reflexive rows g (all-contains eq exact reflexive (goal ∷ []) (arguments_of answer) g m))))

  -- the core in which the answer is filed
  abbrev alone : Machine G
  alone = filed eq (claimed (begun goal) 0 0) 0 answer

  module _ (r : Machine G) (is : r ≡ alone) where
    pub alone-within : 0 < length r.goals
    alone-within = subst (λ (s : Machine G). 0 < length s.goals) (sym is) alone-some

    pub alone-filed : (s : RowState) → slice_get r.states 0 ≡ Some s → IsFiled s
    alone-filed s at =
        let e : Some (Filed (numbered eq rows answer)) ≡ Some s = subst (λ (m : Machine G). slice_get m.states 0 ≡ Some s) is at in
        subst IsFiled (some-inside (Filed (numbered eq rows answer)) s e) tt

    alone-numbers : (n : Answer ℕ) → slice_get r.states 0 ≡ Some (Filed n) → n ≡ numbered eq rows answer
    alone-numbers n at =
        let e : Some (Filed (numbered eq rows answer)) ≡ Some (Filed n) = subst (λ (m : Machine G). slice_get m.states 0 ≡ Some (Filed n)) is at in
        sym (filed-inside (numbered eq rows answer) n e)

    pub alone-answer : (n : Answer ℕ) → slice_get r.states 0 ≡ Some (Filed n)
        → map_answer (λ k. Of (slice_index_or r.goals k goal)) n ≡ map_answer Of answer
    alone-answer n at =
        subst (λ (s : Machine G). map_answer (λ k. Of (slice_index_or s.goals k goal)) n ≡ map_answer Of answer) (sym is)
        (ap (map_answer (λ k. Of (slice_index_or rows k goal))) (alone-numbers n at) ∙ alone-back)
