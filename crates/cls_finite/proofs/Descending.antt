-- The descent from node 0: each step keeps what holds, and at its end it shows a bound or a walk.
use Rattle.std.proofs.Common.{◌≡◌, ◌≢◌, ℕ, zero, suc, ◌+◌, ◌<◌, ◌≤◌, Bool, List, [], ◌∷◌, ◌++◌, Some, length, set, take, get_or, slice_get, refl, sym, ap, subst, ◌∙◌, arith, ◌⊎◌, inl, inr, length-set}
use Rattle.std.specs.Prelude.{replicate, Contains, IsTrue}
use Rattle.std.proofs.lemmas.List.{length-replicate}
use Rattle.std.proofs.lemmas.List.Sums.{sum_by-set}
use Rattle.std.proofs.lemmas.Option.{slice_get_within, get_or_from_slice_get}
use Rattle.cls_base.specs.declared.rule.Rule.{Rule}
use Rattle.cls_base.specs.Languages.{IsGenerated, rules_at}
use Rattle.cls_base.proofs.Lists.{Contains-nil, Contains-here, Contains-later, Contains-cases, Contains-place}
use Rattle.cls_base.specs.Arguments.{arguments_of_rule}
use Rattle.cls_core.proofs.Columns.{get-set-same, get-set-other, get-some}
use Rattle.cls_base.specs.Books.{HaveNodesBelow}
use Rattle.cls_grammar.specs.Ranks.{AreProductive}
use Rattle.cls_grammar.specs.Trimming.{is_useful}
use Rattle.cls_grammar.proofs.Climbing.{equal-or-not, none-at, argument-within}
use Rattle.cls_grammar.proofs.Trims.{productive-useful, useful-productive}
use Rattle.cls_finite.specs.declared.descent.Mark.{Mark}
use Rattle.cls_finite.specs.declared.descent.Mark.TheVariants.{Unseen, Open, Done}
use Rattle.cls_finite.specs.declared.walk.Step.{Step}
use Rattle.cls_finite.specs.Descents.{State, begun, opened, weight_of, weight, IsDone, AreDone, greatest_by, IsCapped, IsPassed, IsNext, IsAt, Descends, here, down, IsKept}
use Rattle.cls_finite.specs.Finiteness.{HasPositiveCosts, IsUnbounded, IsFirstStep, IsDetermined, comes_round, walks_on}
use Rattle.cls_finite.specs.Outcomes.{HasGone, HasComeRound}
use Rattle.cls_finite.specs.Walks.{LeadsTo, GoesOnTo, GoOn}
use Rattle.cls_finite.proofs.Greatest.{node-capped, capped-bounded}
use Rattle.cls_finite.proofs.Walking.{endless-long, long-large}

-- one mark is written
module _ (marks : List Mark) (z : ℕ) (new : Mark) where
  -- what is marked is marked as before, or is the new mark
  set-cases : (n : ℕ) (m : Mark) → slice_get (set marks z new) n ≡ Some m → ((n ≡ z) × (m ≡ new)) ⊎ ((n ≢ z) × (slice_get marks n ≡ Some m))
  set-cases n m e = by (equal-or-not n z)
    where
      by : (n ≡ z) ⊎ (n ≢ z) → ((n ≡ z) × (m ≡ new)) ⊎ ((n ≢ z) × (slice_get marks n ≡ Some m))
      by (inl s) =
          let less : z < length marks = omega (arith, slice_get_within (set marks z new) n m e, length-set marks z new) in
          let now = get-set-same marks z new less in
          let at : slice_get (set marks z new) z ≡ Some m = subst (λ b. slice_get (set marks z new) b ≡ Some m) s e in
          inl (s, (let p : m ≡ new = cc in p))
      by (inr d) = inr (d, sym (get-set-other marks z n new d) ∙ e)

  set-keeps : (n : ℕ) (m : Mark) → n ≢ z → slice_get marks n ≡ Some m → slice_get (set marks z new) n ≡ Some m
  set-keeps n m d e = get-set-other marks z n new d ∙ e

  set-weight : (old : Mark) → slice_get marks z ≡ Some old → weight_of new < weight_of old → weight (set marks z new) < weight marks
  set-weight old e l =
      let s = sum_by-set weight_of marks z new old (slice_get_within marks z old e) in
      let t = ap weight_of (get_or_from_slice_get marks z old old e) in
      omega arith

  -- what is done stays done, if the mark that is written over isn't one of a node that is done
  module _ (undone : IsDone marks z → ⊥) where
    done-stays : (n : ℕ) → IsDone marks n → IsDone (set marks z new) n
    done-stays n d = (d.0, set-keeps n (Done d.0) (λ s. undone (d.0, subst (λ b. slice_get marks b ≡ Some (Done d.0)) s d.1)) d.1)

    all-stay : (ns : List ℕ) → AreDone marks ns → AreDone (set marks z new) ns
    all-stay [] d = tt
    all-stay (n ∷ ns) d = (done-stays n d.0, all-stay ns d.1)

    passed-stays : (flags : List Bool) (rs : List (Rule ℕ)) (rule argument : ℕ) → IsPassed marks flags rs rule argument → IsPassed (set marks z new) flags rs rule argument
    passed-stays flags rs rule argument p = record {
      rules = λ j r l e u. all-stay (arguments_of_rule r) (p.rules j r l e u);
      front = λ r e u. all-stay (take argument (arguments_of_rule r)) (p.front r e u);
    }

pub nothing-passed : (marks : List Mark) (flags : List Bool) (rs : List (Rule ℕ)) → IsPassed marks flags rs 0 0
nothing-passed marks flags rs = record { rules = λ j r l e u. absurd (omega arith); front = λ r e u. tt }

-- one of a list of nodes that are done
one-done : (marks : List Mark) (ns : List ℕ) (p n : ℕ) → slice_get ns p ≡ Some n → AreDone marks ns → IsDone marks n
one-done marks [] p n e d = cc
one-done marks (m ∷ ns) zero n e d = subst (IsDone marks) (let s : m ≡ n = cc in s) d.0
one-done marks (m ∷ ns) (suc p) n e d = one-done marks ns p n e d.1

front-done : (marks : List Mark) (ns : List ℕ) (p q n : ℕ) → p < q → slice_get ns p ≡ Some n → AreDone marks (take q ns) → IsDone marks n
front-done marks [] p q n l e d = cc
front-done marks (m ∷ ns) p zero n l e d = absurd (omega arith)
front-done marks (m ∷ ns) zero (suc q) n l e d = subst (IsDone marks) (let s : m ≡ n = cc in s) d.0
front-done marks (m ∷ ns) (suc p) (suc q) n l e d = front-done marks ns p q n (omega arith) e d.1

-- one node more is done
pub more-done : (marks : List Mark) (ns : List ℕ) (p : ℕ) → p < length ns → AreDone marks (take p ns) → IsDone marks (get_or ns p 0) → AreDone marks (take (p + 1) ns)
more-done marks ns p l d e = let P : ℕ → Type 0 = λ n. AreDone marks (take n ns) in let f : suc p ≡ p + 1 = omega arith in subst P f (more marks ns p l d e)
  where
    more : (marks : List Mark) (ns : List ℕ) (p : ℕ) → p < length ns → AreDone marks (take p ns) → IsDone marks (get_or ns p 0) → AreDone marks (take (suc p) ns)
    more marks [] p l d e = absurd (omega arith)
    more marks (n ∷ ns) zero l d e = (e, tt)
    more marks (n ∷ ns) (suc p) l d e = (d.0, more marks ns p (omega arith) d.1 e)

module _ (cap : ℕ) (cost : ℕ → ℕ) (book : List (List (Rule ℕ))) (flags : List Bool) where
  abbrev Down : List Mark → List ℕ → ℕ → List Step → List ℕ → ℕ → Type 0
  Down marks seen i ss later n = Descends cap cost book flags marks seen i ss later n

  abbrev At : List Mark → Step → Type 0
  At marks s = IsAt cap cost book flags marks s

  abbrev Kept : State → Type 0
  Kept s = IsKept cap cost book flags s

  descends-stays : (marks : List Mark) (z : ℕ) (new : Mark) → (IsDone marks z → ⊥) → {seen later : List ℕ} {i n : ℕ} {ss : List Step} → Down marks seen i ss later n → Down (set marks z new) seen i ss later n
  descends-stays marks z new u here = here
  descends-stays marks z new u (down {s = s} e l a d rest) = down e l (passed-stays marks z new u flags (rules_at book s.goal) s.rule s.argument a) d (descends-stays marks z new u rest)

  -- one step more
  descends-push : (marks : List Mark) (t : Step) (m : ℕ) {seen later : List ℕ} {i n : ℕ} {ss : List Step} → Down marks seen i ss later n → t.goal ≡ n → LeadsTo book t m → At marks t → (Contains (n ∷ later) m → ⊥) → Down marks seen i (ss ++ t ∷ []) (n ∷ later) m
  descends-push marks t m here e l a d = down e l a d here
  descends-push marks t m (down f k b c rest) e l a d = down f k b c (descends-push marks t m rest e l a d)

  -- the last step
  record Popped (marks : List Mark) (seen : List ℕ) (i : ℕ) (ss : List Step) (t : Step) (later : List ℕ) (n : ℕ) : Type 0 where
    before : List ℕ
    seen_are : later ≡ t.goal ∷ before
    descends : Down marks seen i ss before t.goal
    at : At marks t
    new : Contains later n → ⊥

  descends-pop : (marks : List Mark) (t : Step) (ss : List Step) (seen later : List ℕ) (i n : ℕ) → Down marks seen i (ss ++ t ∷ []) later n → Popped marks seen i ss t later n
  descends-pop marks t [] seen later i n (down e l a d here) = record {
    before = seen;
    seen_are = ap (λ x. x ∷ seen) (sym e);
    descends = subst (λ x. Down marks seen i [] seen x) (sym e) here;
    at = a;
    new = d;
  }
  descends-pop marks t (s ∷ ss) seen later i n (down {m = m} e l a d rest) = by (descends-pop marks t ss (i ∷ seen) later m n rest)
    where
      by : Popped marks (i ∷ seen) m ss t later n → Popped marks seen i (s ∷ ss) t later n
      by u = record { before = u.before; seen_are = u.seen_are; descends = down e l a d u.descends; at = u.at; new = u.new }

  descends-seen : (marks : List Mark) (j : ℕ) {seen later : List ℕ} {i n : ℕ} {ss : List Step} → Down marks seen i ss later n → Contains seen j → Contains later j
  descends-seen marks j here c = c
  descends-seen marks j (down {seen = seen} {i = i} e l a d rest) c = descends-seen marks j rest (Contains-later j i seen c)

  -- the node that it begins at is one of those
  descends-start : (marks : List Mark) {seen later : List ℕ} {i n : ℕ} {ss : List Step} → Down marks seen i ss later n → Contains (n ∷ later) i
  descends-start marks (here {seen = seen} {i = i}) = Contains-here i seen
  descends-start marks (down {seen = seen} {later = later} {i = i} {n = n} e l a d rest) = Contains-later i n later (descends-seen marks i rest (Contains-here i seen))

  -- each node of the steps has a step to another one
  descends-goes : (marks : List Mark) (j : ℕ) {seen later : List ℕ} {i n : ℕ} {ss : List Step} → Down marks seen i ss later n → Contains later j → Contains seen j ⊎ GoesOnTo book (n ∷ later) j
  descends-goes marks j here c = inl c
  descends-goes marks j (down {seen = seen} {later = later} {i = i} {m = m} {n = n} {s = s} e l a d rest) c = by (descends-goes marks j rest c)
    where
      by : Contains (i ∷ seen) j ⊎ GoesOnTo book (n ∷ later) j → Contains seen j ⊎ GoesOnTo book (n ∷ later) j
      by (inr g) = inr g
      by (inl k) = elim (Contains-cases i seen j k) [
        | inl f ↦ inr (record { step = s; next = m; from = e ∙ sym f; leads = l; among = descends-start marks rest })
        | inr q ↦ inl q
      ]

  module _ (p : AreProductive book flags) where
    module _ (marks : List Mark) (sizes : (n size : ℕ) → slice_get marks n ≡ Some (Done size) → IsCapped cap cost (IsGenerated book n) size) where
      done-bounded : (n : ℕ) → IsDone marks n → IsUnbounded book cost n → ⊥
      done-bounded n d u = capped-bounded cap cost book n d.0 (sizes n d.0 d.1) u

      -- a step before which all is done is the first one that leads on without a bound
      first-step : (s : Step) (m : ℕ) → At marks s → LeadsTo book s m → IsUnbounded book cost m → IsFirstStep book cost s m
      first-step s m a l u = record {
        goes_on = record { leads = l; unbounded = u };
        first_rule = λ t k e less g. done-bounded k (one-done marks (arguments_of_rule g.leads.rule) t.argument k g.leads.argument (a.rules t.rule g.leads.rule less (subst (λ x. slice_get (rules_at book x) t.rule ≡ Some g.leads.rule) e g.leads.there) (productive-useful book flags p g.leads.rule g.leads.productive))) g.unbounded;
        first_argument = λ t k e f less g. done-bounded k (front-done marks (arguments_of_rule g.leads.rule) t.argument s.argument k less g.leads.argument (a.front g.leads.rule (subst (λ y. slice_get (rules_at book s.goal) y ≡ Some g.leads.rule) f (subst (λ x. slice_get (rules_at book x) t.rule ≡ Some g.leads.rule) e g.leads.there)) (productive-useful book flags p g.leads.rule g.leads.productive))) g.unbounded;
      }

      descends-determined : (t : Step) {seen later : List ℕ} {i n : ℕ} {ss : List Step} → Down marks seen i ss later n → ((j : ℕ) → Contains (n ∷ later) j → IsUnbounded book cost j) → IsDetermined book cost later n (t ∷ []) → IsDetermined book cost seen i (ss ++ t ∷ [])
      descends-determined t here u d = d
      descends-determined t (down {m = m} {s = s} e l a new rest) u d = walks_on e (first-step s m a l (u m (descends-start marks rest))) new (descends-determined t rest u d)

    module _ (s : State) (k : Kept s) where
      abbrev node : ℕ
      node = s.top.goal

      abbrev rs : List (Rule ℕ)
      rs = rules_at book s.top.goal

      -- the node of the top is open
      top-open : slice_get s.marks s.top.goal ≡ Some Open
      top-open = k.seen_open s.top.goal (Contains-here s.top.goal k.seen)

      pub top-within : s.top.goal < length s.marks
      top-within = slice_get_within s.marks s.top.goal Open top-open

      top-undone : IsDone s.marks s.top.goal → ⊥
      top-undone d = let a = top-open in let b = d.1 in cc

      module _ (step : Step) (next : ℕ) (goal : step.goal ≡ s.top.goal) (is : IsNext s.marks flags rs step next) where
        leads : LeadsTo book step next
        leads = record {
          rule = is.rule;
          there = subst (λ x. slice_get (rules_at book x) step.rule ≡ Some is.rule) (sym goal) is.there;
          productive = useful-productive book flags p is.rule is.useful;
          argument = is.argument;
        }

        at-step : At s.marks step
        at-step = subst (λ x. IsPassed s.marks flags (rules_at book x) step.rule step.argument) (sym goal) is.passed

        pub next-within : HaveNodesBelow (length book) rs → next < length s.marks
        next-within w = omega (arith, k.sized, argument-within book is.rule s.top.goal step.rule step.argument next w is.there is.argument)

        -- a step to a node that no step was taken from and that isn't done
        pub kept-open : HaveNodesBelow (length book) rs → (slice_get s.marks next ≡ Some Open → ⊥) → HasGone cap cost book flags s (opened s step next)
        kept-open w closed = record {
          kept = record {
            seen = s.top.goal ∷ k.seen;
            sized = length-set s.marks next Open ∙ k.sized;
            descends = descends-push after step next (descends-stays s.marks next Open is.undone k.descends) goal leads (passed-stays s.marks next Open is.undone flags (rules_at book step.goal) step.rule step.argument at-step) (λ c. closed (k.seen_open next c));
            at = nothing-passed after flags (rules_at book next);
            open_seen = λ n e. elim (set-cases s.marks next Open n Open e) [ inl u ↦ seen-here n u.0 | inr u ↦ Contains-later n next (s.top.goal ∷ k.seen) (k.open_seen n u.1) ];
            seen_open = λ n c. elim (Contains-cases next (s.top.goal ∷ k.seen) n c) [ inl e ↦ subst (λ x. slice_get after x ≡ Some Open) (sym e) (get-set-same s.marks next Open (next-within w)) | inr m ↦ still n (k.seen_open n m) ];
            done = λ n size e. elim (set-cases s.marks next Open n (Done size) e) [ inl u ↦ absurd (let f : Done size ≡ Open = u.1 in cc) | inr u ↦ k.done n size u.1 ];
          };
          nearer = lighter (get-some s.marks next (next-within w));
        }
          where
            after : List Mark
            after = set s.marks next Open

            seen-here : (n : ℕ) → n ≡ next → Contains (next ∷ s.top.goal ∷ k.seen) n
            seen-here n e = subst (Contains (next ∷ s.top.goal ∷ k.seen)) (sym e) (Contains-here next (s.top.goal ∷ k.seen))

            still : (n : ℕ) → slice_get s.marks n ≡ Some Open → slice_get (set s.marks next Open) n ≡ Some Open
            still n e = set-keeps s.marks next Open n Open (λ f. closed (subst (λ x. slice_get s.marks x ≡ Some Open) f e)) e

            lighter : (m : Mark) × (slice_get s.marks next ≡ Some m) → weight (set s.marks next Open) < weight s.marks
            lighter (Unseen, e) = set-weight s.marks next Open Unseen e (omega arith)
            lighter (Open, e) = absurd (closed e)
            lighter (Done size, e) = absurd (is.undone (size, e))

        -- a step to a node that a step was taken from
        pub kept-round : HasPositiveCosts book cost → slice_get s.marks next ≡ Some Open → (new : State) → new.path ≡ s.path ++ step ∷ [] → HasComeRound cap cost book flags new
        kept-round costs opened_before new path = record {
          unbounded = unbounded 0 (descends-start s.marks k.descends);
          determined = subst (IsDetermined book cost [] 0) (sym path) (descends-determined s.marks k.done step k.descends unbounded (comes_round goal (first-step s.marks k.done step next at-step leads (unbounded next there)) there));
        }
          where
            there : Contains (s.top.goal ∷ k.seen) next
            there = k.open_seen next opened_before

            goes : GoOn book (s.top.goal ∷ k.seen)
            goes j c = elim (Contains-cases s.top.goal k.seen j c) [
              | inl e ↦ record { step = step; next = next; from = goal ∙ sym e; leads = leads; among = there }
              | inr m ↦ elim (descends-goes s.marks j k.descends m) [ inl z ↦ absurd (Contains-nil j z) | inr g ↦ g ]
            ]

            unbounded : (j : ℕ) → Contains (s.top.goal ∷ k.seen) j → IsUnbounded book cost j
            unbounded j c = long-large book cost costs j (endless-long book (s.top.goal ∷ k.seen) goes j c)

      module _ (all : (j : ℕ) (r : Rule ℕ) → slice_get rs j ≡ Some r → IsTrue (is_useful flags r) → AreDone s.marks (arguments_of_rule r)) (size : ℕ) (is : size ≡ greatest_by cap cost s.marks flags rs) where
        capped : IsCapped cap cost (IsGenerated book s.top.goal) size
        capped = subst (IsCapped cap cost (IsGenerated book s.top.goal)) (sym is) (node-capped cap cost book s.marks k.done flags p s.top.goal (λ r c u. let at = Contains-place rs r c in all at.0 r at.1 u))

        -- the node of the top is done, and no step led to it
        pub kept-ends : s.path ≡ [] → IsCapped cap cost (IsGenerated book 0) size
        kept-ends e = subst (λ n. IsCapped cap cost (IsGenerated book n) size) (sym (start (subst (λ l. Down s.marks [] 0 l k.seen s.top.goal) e k.descends) refl)) capped
          where
            start : {seen later : List ℕ} {i n : ℕ} {ss : List Step} → Down s.marks seen i ss later n → ss ≡ [] → i ≡ n
            start here f = refl
            start (down a b c d rest) f = absurd (cc)

        -- the node of the top is done, and a step led to it
        pub kept-closed : (new : State) → new.marks ≡ set s.marks s.top.goal (Done size) → s.path ≡ new.path ++ new.top ∷ [] → HasGone cap cost book flags s new
        kept-closed new marks path = by (descends-pop s.marks new.top new.path [] k.seen 0 s.top.goal (subst (λ l. Down s.marks [] 0 l k.seen s.top.goal) path k.descends))
          where
            after : List Mark
            after = set s.marks s.top.goal (Done size)

            by : Popped s.marks [] 0 new.path new.top k.seen s.top.goal → HasGone cap cost book flags s new
            by u = record {
              kept = record {
                seen = u.before;
                sized = ap length marks ∙ (length-set s.marks s.top.goal (Done size) ∙ k.sized);
                descends = subst (λ l. Down l [] 0 new.path u.before new.top.goal) (sym marks) (descends-stays s.marks s.top.goal (Done size) top-undone u.descends);
                at = subst (λ l. At l new.top) (sym marks) (passed-stays s.marks s.top.goal (Done size) top-undone flags (rules_at book new.top.goal) new.top.rule new.top.argument u.at);
                open_seen = λ n e. seen_if n (set-cases s.marks s.top.goal (Done size) n Open (subst (λ l. slice_get l n ≡ Some Open) marks e));
                seen_open = λ n c. subst (λ l. slice_get l n ≡ Some Open) (sym marks) (open_if n (subst (λ l. Contains l n) (sym u.seen_are) c));
                done = λ n m e. done_if n m (set-cases s.marks s.top.goal (Done size) n (Done m) (subst (λ l. slice_get l n ≡ Some (Done m)) marks e));
              };
              nearer = subst (λ l. weight l < weight s.marks) (sym marks) (set-weight s.marks s.top.goal (Done size) Open top-open (omega arith));
            }
              where
                seen_if : (n : ℕ) → ((n ≡ s.top.goal) × (Open ≡ Done size)) ⊎ ((n ≢ s.top.goal) × (slice_get s.marks n ≡ Some Open)) → Contains (new.top.goal ∷ u.before) n
                seen_if n (inl v) = absurd (let f : Open ≡ Done size = v.1 in cc)
                seen_if n (inr v) = elim (Contains-cases s.top.goal k.seen n (k.open_seen n v.1)) [ inl e ↦ absurd (v.0 e) | inr m ↦ subst (λ l. Contains l n) u.seen_are m ]

                open_if : (n : ℕ) → Contains k.seen n → slice_get (set s.marks s.top.goal (Done size)) n ≡ Some Open
                open_if n c = set-keeps s.marks s.top.goal (Done size) n Open (λ e. u.new (subst (Contains k.seen) e c)) (k.seen_open n (Contains-later n s.top.goal k.seen c))

                done_if : (n m : ℕ) → ((n ≡ s.top.goal) × (Done m ≡ Done size)) ⊎ ((n ≢ s.top.goal) × (slice_get s.marks n ≡ Some (Done m))) → IsCapped cap cost (IsGenerated book n) m
                done_if n m (inl v) = let same : m ≡ size = (let f : Done m ≡ Done size = v.1 in cc) in subst (λ x. IsCapped cap cost (IsGenerated book x) m) (sym v.0) (subst (IsCapped cap cost (IsGenerated book s.top.goal)) (sym same) capped)
                done_if n m (inr v) = k.done n m v.1

  -- at the beginning node 0 is open
  pub kept-begun : 1 ≤ length book → Kept (begun (length book))
  kept-begun some = record {
    seen = [];
    sized = length-set (replicate (length book) Unseen) 0 Open ∙ length-replicate (length book) Unseen;
    descends = here;
    at = nothing-passed (set (replicate (length book) Unseen) 0 Open) flags (rules_at book 0);
    open_seen = λ n e. elim (set-cases none 0 Open n Open e) [ inl u ↦ subst (Contains (0 ∷ [])) (sym u.0) (Contains-here 0 []) | inr u ↦ absurd (let f : Open ≡ Unseen = none-at (length book) n Unseen Open u.1 in cc) ];
    seen_open = λ n c. elim (Contains-cases 0 [] n c) [ inl e ↦ subst (λ x. slice_get (set none 0 Open) x ≡ Some Open) (sym e) (get-set-same none 0 Open (omega (arith, length-replicate (length book) Unseen))) | inr z ↦ absurd (Contains-nil n z) ];
    done = λ n size e. elim (set-cases none 0 Open n (Done size) e) [ inl u ↦ absurd (let f : Done size ≡ Open = u.1 in cc) | inr u ↦ absurd (let f : Done size ≡ Unseen = none-at (length book) n Unseen (Done size) u.1 in cc) ];
  }
    where
      none : List Mark
      none = replicate (length book) Unseen
