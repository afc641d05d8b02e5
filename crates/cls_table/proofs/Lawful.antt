-- What holds of the machine under a tag holds after each event.
use Rattle.std.proofs.Common.{◌≡◌, ℕ, zero, suc, ◌+◌, ◌-◌, ◌<◌, ◌≤◌, Bool, true, false, List, [], ◌∷◌, ◌++◌, Some, length, slice_get, refl, sym, subst, ◌∙◌, arith, inl, inr, length-set, set, ◌==◌, ◌≢◌}
use Rattle.std.specs.Prelude.{replicate, All, ◌↔◌, Result, Ok, Err, IfOk, IfErr}
use Rattle.std.specs.Option.{ForSome}
use Rattle.std.specs.List.{position_or_len}
use Rattle.std.proofs.lemmas.Option.{slice_get_within, get_or_from_slice_get}
use Rattle.std.specs.Prelude.{nat_lt}
use Rattle.std.proofs.lemmas.Bool.Decides.{nat_tests}
use Rattle.cls_core.specs.Rows.{Machine, Recorded}
use Rattle.cls_core.specs.Machine.{begun, claimed, filed, grown, numbered, Replays, rules_in}
use Rattle.cls_core.specs.Arguments.{arguments_of, rule_count, ArgumentsAreReady}
use Rattle.cls_core.specs.Filings.{IfKept}
use Rattle.cls_core.specs.Closure.{HasMoreGoals, HasMoreRules}
use Rattle.cls_core.specs.declared.state.RowState.{RowState}
use Rattle.cls_core.specs.declared.state.RowState.TheVariants.{Free, Held, Filed}
use Rattle.cls_core.specs.declared.entry.Entry.{Entry}
use Rattle.cls_core.specs.declared.entry.Entry.TheVariants.{Claim, File}
use Rattle.cls_core.specs.declared.answer.Answer.{Answer}
use Rattle.cls_core.specs.declared.filing.Filing.{Filing}
use Rattle.cls_core.specs.declared.filing.Filing.TheVariants.{Kept, OverLimits}
use Rattle.cls_core.proofs.Replaying.{replays-snoc}
use Rattle.cls_base.proofs.Lists.{Contains-at, Contains-place}
use Rattle.cls_core.proofs.Members.{all-only}
use Rattle.cls_core.proofs.Closure.{replay-sound, shows-goals, shows-rules, mapped-count}
use Rattle.cls_core.proofs.Columns.{filed-counts, claimed-counts, get-set-same, get-set-other, get-within, get-behind, some-inside}
use Rattle.cls_table.specs.declared.tag.Tag.{Tag}
use Rattle.cls_table.specs.Seen.{ProgressSeen, TableSeen, core_of}
use Rattle.cls_table.specs.Lawful.{claims_in, NamesUpTo, IsLawful, IsLawfulTable, IsLarge}
use Rattle.cls_table.specs.Holdings.{HasRoom}

names-claim : (most : ℕ) (es : List Entry) (worker row : ℕ) → NamesUpTo most es → worker ≤ most
    → NamesUpTo most (es ++ Claim worker row ∷ [])
names-claim most [] worker row h w = (w, tt)
names-claim most (Claim a r ∷ es) worker row h w = (h.0, names-claim most es worker row h.1 w)
names-claim most (File a r ∷ es) worker row h w = (h.0, names-claim most es worker row h.1 w)

names-file : (most : ℕ) (es : List Entry) (worker row : ℕ) → NamesUpTo most es → worker ≤ most
    → NamesUpTo most (es ++ File worker row ∷ [])
names-file most [] worker row h w = (w, tt)
names-file most (Claim a r ∷ es) worker row h w = (h.0, names-file most es worker row h.1 w)
names-file most (File a r ∷ es) worker row h w = (h.0, names-file most es worker row h.1 w)

abbrev pub seen : {B G : Type 0} → Tag B G → Machine G → List Entry → ProgressSeen B G
seen tag rows history = record { tag = tag; rows = rows; history = history }

-- each worker that holds a row is named up to the greatest
abbrev HoldersUpTo : ℕ → List RowState → Type 0
HoldersUpTo most ss = (row worker : ℕ) → slice_get ss row ≡ Some (Held worker) → worker ≤ most

free-held : (n row worker : ℕ) → slice_get (replicate n Free) row ≡ Some (Held worker) → ⊥
free-held zero row worker e = cc
free-held (suc n) zero worker e = cc
free-held (suc n) (suc row) worker e = free-held n row worker e

set-holders : (most : ℕ) (ss : List RowState) (row : ℕ) (new : RowState) → HoldersUpTo most ss
    → ((worker : ℕ) → new ≡ Held worker → worker ≤ most) → HoldersUpTo most (set ss row new)
set-holders most ss row new h n k worker e = by (k == row) refl (nat_lt row (length ss)) refl
  where
    by : (b : Bool) → (k == row) ≡ b → (c : Bool) → nat_lt row (length ss) ≡ c → worker ≤ most
    by true is true within =
        let same : k ≡ row = grind (arith, nat_tests) in
        let less : row < length ss = grind (arith, nat_tests) in
        n worker (some-inside new (Held worker)
        (sym (get-set-same ss row new less) ∙ subst (λ j. slice_get (set ss row new) j ≡ Some (Held worker)) same
        e))
    by true is false past =
        let same : k ≡ row = grind (arith, nat_tests) in
        let more : length ss ≤ row = grind (arith, nat_tests) in
        let inside = slice_get_within (set ss row new) k (Held worker) e in
        absurd (omega (arith, length-set ss row new))
    by false is c any =
        let other : k ≢ row = grind (arith, nat_tests) in
        h k worker (sym (get-set-other ss row k new other) ∙ e)

append-holders : (most : ℕ) (ss : List RowState) (n : ℕ) → HoldersUpTo most ss
    → HoldersUpTo most (ss ++ replicate n Free)
append-holders most ss n h k worker e = by (nat_lt k (length ss)) refl
  where
    by : (b : Bool) → nat_lt k (length ss) ≡ b → worker ≤ most
    by true is =
        let less : k < length ss = grind (arith, nat_tests) in h k worker
        (sym (get-within ss (replicate n Free) k less) ∙ e)
    by false is =
        let more : length ss ≤ k = grind (arith, nat_tests) in absurd
        (free-held n (k - length ss) worker (sym (get-behind ss (replicate n Free) k more) ∙ e))

begun-named : {G : Type 0} (most : ℕ) (start : G) → HoldersUpTo most (begun start).states
begun-named most start row worker e = absurd (free-held 1 row worker e)

module _ {G : Type 0} (eq : G → G → Bool) (IsAnswer : G → Answer G → Type 0) where
  -- in a history that names workers up to the greatest, such workers hold rows
  pub held-named : (most : ℕ) (es : List Entry) (r t : Machine G) → Replays eq IsAnswer r es t → NamesUpTo most es
      → HoldersUpTo most r.states → HoldersUpTo most t.states
  held-named most [] r t h n k = subst (λ (m : Machine G). HoldersUpTo most m.states) (sym h) k
  held-named most (Claim worker row ∷ es) r t h n k =
      held-named most es h.0 t h.2 n.1
      (subst (λ (m : Machine G). HoldersUpTo most m.states) (sym h.1.1)
      (set-holders most r.states row (Held worker) k
      (λ w e. (let s : worker ≡ w = held-same worker w e in omega (arith, n.0)))))
    where
      held-same : (a b : ℕ) → Held a ≡ Held b → a ≡ b
      held-same a b q = cc
  held-named most (File worker row ∷ es) r t h n k =
      held-named most es h.0 t h.2 n.1
      (subst (λ (m : Machine G). HoldersUpTo most m.states) (sym h.1.rows_after)
      (append-holders most (set r.states row (Filed (numbered eq (grown eq r.goals h.1.answer) h.1.answer))) _
      (set-holders most r.states row (Filed (numbered eq (grown eq r.goals h.1.answer) h.1.answer)) k (λ w e. cc))))

module _ {B G : Type 0} (eq : G → G → Bool) (IsAnswer : B → G → Answer G → Type 0) (ready : B → G → Type 0) where
  pub lawful-claim : (p : ProgressSeen B G) (worker row : ℕ) (rows : Machine G) (history : List Entry)
      → IsLawful eq IsAnswer ready p → worker ≤ p.tag.workers → slice_get p.rows.states row ≡ Some Free
      → rows ≡ claimed p.rows worker row → history ≡ p.history ++ Claim worker row ∷ []
      → IsLawful eq IsAnswer ready (seen p.tag rows history)
  lawful-claim p worker row rows history k w free r h =
      subst (λ es. IsLawful eq IsAnswer ready (seen p.tag rows es)) (sym h)
      (subst (λ m. IsLawful eq IsAnswer ready (seen p.tag m (p.history ++ Claim worker row ∷ []))) (sym r) after)
    where
      after : IsLawful eq IsAnswer ready (seen p.tag (claimed p.rows worker row) (p.history ++ Claim worker row ∷ []))
      after = record {
        legal = replays-snoc eq (IsAnswer p.tag.by) p.history (Claim worker row) (begun p.tag.start) p.rows
            (claimed p.rows worker row) k.legal (free, refl);
        workers_named = names-claim p.tag.workers p.history worker row k.workers_named w;
        goals_within = k.goals_within;
        rules_within = (let c = claimed-counts p.rows.states row worker free in omega (arith, k.rules_within));
        goal_limit = k.goal_limit;
        rule_limit = k.rule_limit;
        goals_ready = k.goals_ready;
      }

  -- the step of a filing
  legal-file : (p : ProgressSeen B G) (worker row : ℕ) (g : G) (a : Answer G) → IsLawful eq IsAnswer ready p
      → slice_get p.rows.states row ≡ Some (Held worker) → slice_get p.rows.goals row ≡ Some g → IsAnswer p.tag.by g a
      → Replays eq (IsAnswer p.tag.by) (begun p.tag.start) (p.history ++ File worker row ∷ []) (filed eq p.rows row a)
  legal-file p worker row g a k held at is =
      replays-snoc eq (IsAnswer p.tag.by) p.history (File worker row) (begun p.tag.start) p.rows (filed eq p.rows row a)
      k.legal (record { goal = g; answer = a; held = held; has_goal = at; is_answer = is; rows_after = refl })

  module _ (exact : (x y : G) → eq x y ≡ true → x ≡ y) (reflexive : (x : G) → eq x x ≡ true) where
    -- a filing for which there is no room shows that the closure is too large
    beyond-large : (p : ProgressSeen B G) (worker row : ℕ) (g : G) (a : Answer G) → IsLawful eq IsAnswer ready p
        → slice_get p.rows.states row ≡ Some (Held worker) → slice_get p.rows.goals row ≡ Some g → IsAnswer p.tag.by g a
        → (HasRoom eq p.tag p.rows a → ⊥) → IsLarge IsAnswer p.tag
    beyond-large p worker row g a k held at is none =
        let sound = replay-sound eq exact reflexive (IsAnswer p.tag.by) p.tag.start (p.history ++ File worker row ∷ [])
        (filed eq p.rows row a) (legal-file p worker row g a k held at is) in
        let rules = filed-counts p.rows.states row worker (length (grown eq p.rows.goals a) - length p.rows.goals)
        (numbered eq (grown eq p.rows.goals a) a) held in
        let same = mapped-count (λ x. position_or_len (eq x) (grown eq p.rows.goals a)) a in
        more (nat_lt p.tag.goals (length (grown eq p.rows.goals a))) refl
        (nat_lt p.tag.rules (rules_in p.rows.states + rule_count a)) refl
        (λ h. shows-goals eq exact reflexive (IsAnswer p.tag.by) p.tag.start (filed eq p.rows row a) p.tag.goals sound
        h)
        (λ h. shows-rules eq exact reflexive (IsAnswer p.tag.by) p.tag.start (filed eq p.rows row a) p.tag.rules sound
        (omega arith))
      where
        more : (b : Bool) → nat_lt p.tag.goals (length (grown eq p.rows.goals a)) ≡ b → (c : Bool)
            → nat_lt p.tag.rules (rules_in p.rows.states + rule_count a) ≡ c
            → (p.tag.goals < length (grown eq p.rows.goals a)
            → HasMoreGoals (IsAnswer p.tag.by) p.tag.start p.tag.goals)
            → (p.tag.rules < rules_in p.rows.states + rule_count a
            → HasMoreRules (IsAnswer p.tag.by) p.tag.start p.tag.rules) → IsLarge IsAnswer p.tag
        more true e c f x y = inl (x (grind (arith, nat_tests)))
        more false e true f x y = inr (y (grind (arith, nat_tests)))
        more false e false f x y = absurd (none (grind (arith, nat_tests), grind (arith, nat_tests)))

    lawful-file : (p : ProgressSeen B G) (worker row : ℕ) (g : G) (a : Answer G) (rows : Machine G)
        (history : List Entry) → IsLawful eq IsAnswer ready p → slice_get p.rows.states row ≡ Some (Held worker)
        → slice_get p.rows.goals row ≡ Some g → IsAnswer p.tag.by g a → HasRoom eq p.tag p.rows a
        → All (ready p.tag.by) (arguments_of a)
        → rows ≡ filed eq p.rows row a → history ≡ p.history ++ File worker row ∷ []
        → IsLawful eq IsAnswer ready (seen p.tag rows history)
    lawful-file p worker row g a rows history k held at is room all r h =
        subst (λ es. IsLawful eq IsAnswer ready (seen p.tag rows es)) (sym h)
        (subst (λ m. IsLawful eq IsAnswer ready (seen p.tag m (p.history ++ File worker row ∷ []))) (sym r) after)
      where
        after : IsLawful eq IsAnswer ready (seen p.tag (filed eq p.rows row a) (p.history ++ File worker row ∷ []))
        after = record {
          legal = legal-file p worker row g a k held at is;
          workers_named = names-file p.tag.workers p.history worker row k.workers_named
              (held-named eq (IsAnswer p.tag.by) p.tag.workers p.history (begun p.tag.start) p.rows k.legal
              k.workers_named (begun-named p.tag.workers p.tag.start) row worker held);
          goals_within = room.0;
          rules_within =
              (let c = filed-counts p.rows.states row worker (length (grown eq p.rows.goals a) - length p.rows.goals)
              (numbered eq (grown eq p.rows.goals a) a) held in
              omega (arith, room.1, mapped-count (λ x. position_or_len (eq x) (grown eq p.rows.goals a)) a));
          goal_limit = k.goal_limit;
          rule_limit = k.rule_limit;
          goals_ready =
              λ i x e. elim (all-only eq exact reflexive p.rows.goals (arguments_of a) x
              (Contains-at (grown eq p.rows.goals a) i x e)) [
                | inl m ↦ (let q = Contains-place p.rows.goals x m in k.goals_ready q.0 x q.1)
                | inr m ↦ (let q = Contains-place (arguments_of a) x m in subst (ready p.tag.by)
                    (get_or_from_slice_get (arguments_of a) q.0 x x q.1)
                    (all q.0 x (slice_get_within (arguments_of a) q.0 x q.1)))
              ];
        }

    -- each row with a state has a goal
    pub row-goal : (p : ProgressSeen B G) (row : ℕ) (s : RowState) → IsLawful eq IsAnswer ready p
        → slice_get p.rows.states row ≡ Some s → (g : G) × (slice_get p.rows.goals row ≡ Some g)
    row-goal p row s k e =
        let sound = replay-sound eq exact reflexive (IsAnswer p.tag.by) p.tag.start p.history p.rows k.legal in
        at p.rows.goals row (omega (arith, sound.paired, slice_get_within p.rows.states row s e))
      where
        at : (gs : List G) (i : ℕ) → i < length gs → (g : G) × (slice_get gs i ≡ Some g)
        at [] i h = absurd (omega arith)
        at (g ∷ gs) zero h = (g, refl)
        at (g ∷ gs) (suc i) h = at gs i (omega arith)

    module _ (p : ProgressSeen B G) (worker row : ℕ) (a : Answer G) (k : IsLawful eq IsAnswer ready p)
        (held : slice_get p.rows.states row ≡ Some (Held worker))
        (answer : ForSome (slice_get p.rows.goals row) (λ g. IsAnswer p.tag.by g a)) where
      -- an answer for which there is no room shows that the closure is too large
      pub large-answer : (HasRoom eq p.tag p.rows a → ⊥) → IsLarge IsAnswer p.tag
      large-answer none =
          let at = row-goal p row (Held worker) k held in
          beyond-large p worker row at.0 a k held at.1 (answer at.0 at.1) none

      -- so does one that would make more rows than the most
      pub large-filing : (r : Result (Filing G) (Answer G)) (most : ℕ) → most ≡ p.tag.goals
          → IfOk r (λ f. (f ≡ OverLimits) ↔ (most < length (grown eq p.rows.goals a)))
          → IfOk r (λ f. f ≡ OverLimits → IsLarge IsAnswer p.tag)
      large-filing (Ok f) most is room =
          λ over. (let many = room.0 over in large-answer (λ h. omega (arith, h.0)))
      large-filing (Err b) most is room = tt

      -- the machine is lawful after the filing, whatever became of it
      pub lawful-filing : (r : Result (Filing G) (Answer G)) (most : ℕ) (new : Recorded G) → most ≡ p.tag.goals
          → ArgumentsAreReady (ready p.tag.by) (IsAnswer p.tag.by) → rules_in p.rows.states + rule_count a ≤ p.tag.rules
          → IfOk r (λ f. (f ≡ OverLimits) ↔ (most < length (grown eq p.rows.goals a)))
          → IfOk r (IfKept (λ _. new.rows ≡ filed eq p.rows row a))
          → IfOk r (IfKept (λ _. new.history ≡ p.history ++ File worker row ∷ []))
          → IfOk r (λ f. f ≡ OverLimits → new ≡ core_of p) → IfErr r (λ b. (b ≡ a) × (new ≡ core_of p))
          → IsLawful eq IsAnswer ready (seen p.tag new.rows new.history)
      lawful-filing (Ok (Kept goals)) most new is args few room rows history over err =
          let at = row-goal p row (Held worker) k held in
          let all = args at.0 a (k.goals_ready row at.0 at.1) (answer at.0 at.1) in
          let fits : most < length (grown eq p.rows.goals a) → ⊥ = λ m. (let wrong = room.1 m in cc) in
          lawful-file p worker row at.0 a new.rows new.history k held at.1 (answer at.0 at.1) (omega arith, few) all
          rows history
      lawful-filing (Ok OverLimits) most new is args few room rows history over err =
          subst (λ (n : Recorded G). IsLawful eq IsAnswer ready (seen p.tag n.rows n.history)) (sym (over refl)) k
      lawful-filing (Err b) most new is args few room rows history over err =
          subst (λ (n : Recorded G). IsLawful eq IsAnswer ready (seen p.tag n.rows n.history)) (sym err.1) k

    -- what holds of a table, from what holds of the machine in it
    pub lawful-table : (t : TableSeen B G) → IsLawful eq IsAnswer ready (seen t.tag t.rows t.history)
        → claims_in t.history ≡ t.claims → (t.large ≡ true → IsLarge IsAnswer t.tag) → IsLawfulTable eq IsAnswer t
    lawful-table t k counted large =
        let sound = replay-sound eq exact reflexive (IsAnswer t.tag.by) t.tag.start t.history t.rows k.legal in
        record {
          legal = k.legal;
          start_is_first = sound.begins;
          answered = λ row g a at filed. (let w = sound.answered row g a at filed in
              (w.answer, w.is_answer, w.is_numbered));
          goals_within = k.goals_within;
          rules_within = k.rules_within;
          workers_named = k.workers_named;
          claims_counted = counted;
          large_with_cause = large;
        }
