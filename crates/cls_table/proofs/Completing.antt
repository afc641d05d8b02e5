-- Rows that are filed one after the other.
use Rattle.std.proofs.Common.{◌≡◌, ℕ, ◌<◌, ◌≤◌, Bool, true, List, [], ◌∷◌, ◌++◌, Option, None, Some, Result, Ok, Err, length, set, slice_get, sym, ap, subst, ◌∙◌, ⊎_elim, arith, append_assoc}
use Rattle.std.specs.Prelude.{IfOk, IfSome}
use Rattle.std.proofs.lemmas.List.Elements.{Contains-append_cases}
use Rattle.cls_base.proofs.Lists.{Contains-nil, Contains-cases}
use Rattle.std.proofs.lemmas.Option.{slice_get_within}
use Rattle.cls_core.specs.Machine.{begun, claimed, filed, grown, numbered, Replays, IsFiled}
use Rattle.cls_core.specs.declared.state.RowState.{RowState}
use Rattle.cls_core.specs.declared.state.RowState.TheVariants.{Free, Held, Filed}
use Rattle.cls_core.specs.declared.entry.Entry.{Entry}
use Rattle.cls_core.specs.declared.entry.Entry.TheVariants.{Claim}
use Rattle.cls_core.specs.declared.answer.Answer.{Answer}
use Rattle.cls_core.proofs.Columns.{get-set-same, get-set-other, get-front, some-inside}
use Rattle.cls_table.specs.Seen.{ProgressSeen, core_of}
use Rattle.cls_core.specs.Finishing.{IsFinished}
use Rattle.cls_core.specs.Arguments.{HasUniqueAnswers}
use Rattle.cls_core.specs.Closure.{IsClosure}
use Rattle.cls_core.specs.Times.{EachOnce}
use Rattle.cls_core.proofs.Closure.{replay-sound, complete-closure, complete-within}
use Rattle.cls_core.proofs.FiledRows.{filed-count}
use Rattle.cls_core.proofs.Times.{each-once}
use Rattle.cls_table.specs.Lawful.{IsLawful, NamesUpTo}
use Rattle.cls_table.specs.Completing.{IsFiledAt, ClaimsAreByCaller, Continues, IsComplete, IsCompletion}
use Rattle.cls_core.specs.declared.finished.Finished.{Finished}

free-filed : (ss : List RowState) (row : ℕ) (a : Answer ℕ) → slice_get ss row ≡ Some Free
    → slice_get ss row ≡ Some (Filed a) → ⊥
free-filed ss row a e f = cc

-- entries without claims, one claim, and entries behind others
no-claims : ClaimsAreByCaller []
no-claims worker row c = absurd (Contains-nil (Claim worker row) c)

one-claim : (by at : ℕ) → by ≡ 0 → ClaimsAreByCaller (Claim by at ∷ [])
one-claim by at is worker row c =
    ⊎_elim (λ e. (let same : worker ≡ by = cc in same ∙ is)) (λ h. absurd (Contains-nil (Claim worker row) h))
    (Contains-cases (Claim by at) [] (Claim worker row) c)

claims-append : (es fs : List Entry) → ClaimsAreByCaller es → ClaimsAreByCaller fs → ClaimsAreByCaller (es ++ fs)
claims-append es fs h k worker row c =
    ⊎_elim (h worker row) (k worker row) (Contains-append_cases es fs (Claim worker row) c)

module _ {B G : Type 0} where
  pub continues-trans : (p q r : ProgressSeen B G) → Continues p q → Continues q r → Continues p r
  continues-trans p q r h k = record {
    same_tag = k.same_tag ∙ h.same_tag;
    more = (
      h.more.0 ++ k.more.0,
      k.more.1 ∙ (ap (λ l. l ++ k.more.0) h.more.1 ∙ append_assoc p.history h.more.0 k.more.0),
      claims-append h.more.0 k.more.0 h.more.2 k.more.2,
    );
    stays_filed = λ row f. k.stays_filed row (h.stays_filed row f);
  }

  pub continues-claim : (p q : ProgressSeen B G) (worker row : ℕ) → worker ≡ 0 → slice_get p.rows.states row ≡ Some Free
      → q.tag ≡ p.tag → q.rows ≡ claimed p.rows worker row → q.history ≡ p.history ++ Claim worker row ∷ []
      → Continues p q
  continues-claim p q worker row is free t r h = record {
    same_tag = t;
    more = (Claim worker row ∷ [], h, one-claim worker row is);
    stays_filed = λ k f. (
      f.0,
      ap (λ m. slice_get m.states k) r
          ∙ (get-set-other p.rows.states row k (Held worker)
          (λ e. free-filed p.rows.states row f.0 free (subst (λ j. slice_get p.rows.states j ≡ Some (Filed f.0)) e f.1))
          ∙ f.1),
    );
  }

  module _ (eq : G → G → Bool) where
    pub file-filed : (p q : ProgressSeen B G) (worker row : ℕ) (a : Answer G)
        → slice_get p.rows.states row ≡ Some (Held worker) → q.rows ≡ filed eq p.rows row a → IsFiledAt q.rows row
    file-filed p q worker row a held r =
        let new = numbered eq (grown eq p.rows.goals a) a in (
          new,
          ap (λ m. slice_get m.states row) r ∙ get-front (set p.rows.states row (Filed new)) _ row (Filed new)
              (get-set-same p.rows.states row (Filed new) (slice_get_within p.rows.states row (Held worker) held)),
        )

module _ {B G : Type 0} (eq : G → G → Bool) (exact : (x y : G) → eq x y ≡ true → x ≡ y)
    (reflexive : (x : G) → eq x x ≡ true) (IsAnswer : B → G → Answer G → Type 0) (ready : B → G → Type 0)
    (unique : (b : B) → HasUniqueAnswers (IsAnswer b)) where
  -- what is finished under the tag, where every row is filed
  pub complete-finish : (q : ProgressSeen B G) (f : Finished G) → IsLawful eq IsAnswer ready q
      → IsFinished (core_of q) f → IsComplete eq IsAnswer q.tag f
  complete-finish q f k end =
      let all = end.0 in
      let shown = end.1 in
      let is = end.2 in
      let sound = replay-sound eq exact reflexive (IsAnswer q.tag.by) q.tag.start q.history q.rows k.legal in
      record {
        rows = q.rows;
        legal = subst (λ es. Replays eq (IsAnswer q.tag.by) (begun q.tag.start) es q.rows) (sym is) k.legal;
        all_filed = all;
        shown_rows = shown;
        goals_within = k.goals_within;
        rules_within = k.rules_within;
        workers_named = subst (λ es. NamesUpTo q.tag.workers es) (sym is) k.workers_named;
        closure = subst (IsClosure eq (IsAnswer q.tag.by) q.tag.start) (sym shown)
            (complete-closure eq exact reflexive (IsAnswer q.tag.by) q.tag.start (unique q.tag.by) q.rows sound all);
        each_once = subst (EachOnce (length f.rows)) (sym is)
            (subst (λ n. EachOnce n q.history)
            (sound.paired ∙ (sym (filed-count q.rows.goals q.rows.states sound.paired all) ∙ ap length (sym shown)))
            (each-once eq (IsAnswer q.tag.by) q.tag.start q.history q.rows k.legal all));
        not_large = complete-within eq exact reflexive (IsAnswer q.tag.by) q.tag.start (unique q.tag.by) q.rows
            q.tag.goals q.tag.rules sound all k.goals_within k.rules_within;
      }

  -- what is read where every row is filed
  pub complete-read : {E : Type 0} (q : ProgressSeen B G) (x : Result (Option (Finished G)) E)
      → IsLawful eq IsAnswer ready q → IfOk x (λ r. IfSome r (IsFinished (core_of q)))
      → IfOk x (λ r. IfSome r (λ f. IsComplete eq IsAnswer q.tag f))
  complete-read q (Ok (Some f)) k h = complete-finish q f k h
  complete-read q (Ok None) k h = tt
  complete-read q (Err e) k h = tt

  -- what is finished after p was gone on with
  pub completed : (p q : ProgressSeen B G) (f : Finished G) → Continues p q → IsLawful eq IsAnswer ready q
      → IsFinished (core_of q) f → IsCompletion eq IsAnswer p f
  completed p q f h k end = record {
    complete = subst (λ t. IsComplete eq IsAnswer t f) h.same_tag (complete-finish q f k end);
    more = (h.more.0, end.2 ∙ h.more.1, h.more.2);
  }

-- where each row below the last has an answer, all are filed
pub all-filed : (ss : List RowState) (row : ℕ) → length ss ≤ row
    → ((k : ℕ) → k < row → (a : Answer ℕ) × (slice_get ss k ≡ Some (Filed a))) → (k : ℕ) (s : RowState)
    → slice_get ss k ≡ Some s → IsFiled s
all-filed ss row past h k s e =
    let f = h k (omega (arith, slice_get_within ss k s e)) in
    let is : Filed f.0 ≡ s = some-inside (Filed f.0) s (sym f.1 ∙ e) in
    subst IsFiled is tt
