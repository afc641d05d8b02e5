-- Steps that are followed, one after another.
use Rattle.std.proofs.Common.{◌≡◌, ℕ, ◌+◌, ◌-◌, ◌<◌, ◌≤◌, Bool, true, false, cond, List, [], ◌∷◌, ◌++◌, Some, None, length, map, take, get_or, refl, sym, ap, subst, ◌∙◌, inl, inr, arith}
use Rattle.std.specs.Prelude.{Contains}
use Rattle.std.proofs.lemmas.Bool.{false≢true, cases_lt}
use Rattle.std.proofs.lemmas.List.{get_or-set_same, map_more, take_all}
use Rattle.std.proofs.lemmas.List.Elements.{Contains-get_or, Contains-push_cases}
use Rattle.cls_base.specs.Limits.{max_states}
use Rattle.cls_base.specs.declared.rule.Rule.{Rule}
use Rattle.cls_base.specs.declared.rule.Rule.TheVariants.{Head, Any}
use Rattle.cls_base.specs.Languages.{NodeRule, rules_at}
use Rattle.cls_base.proofs.Lists.{Contains-nil, Contains-map}
use Rattle.cls_filter.specs.Automata.{Automaton, leaf_state, joined_state}
use Rattle.cls_filtered.specs.declared.step.Step.{Step}
use Rattle.cls_filtered.specs.Filtered.{pair_of, count_true}
use Rattle.cls_filtered.specs.StepBooks.{step_rule}
use Rattle.cls_filtered.specs.States.{Known, is_known, reached, IsSound, IsFollowed, IsClosed, Reaches, Follows, JoinsAt, Joins, AppliesAt, Applies, FollowsRules, FollowsAll, Turns, Passes, Keeps}
use Rattle.cls_filtered.proofs.Onward.{onward-same, onward-count, onward-then, onward-both, onward-unchanged, onward-reached, sound-reached}
use Rattle.cls_filtered.proofs.KnownStates.{leaf-sound, application-sound}

-- a state that is known already, and one that becomes known
pub reaches-known : (i q : ℕ) (s : Known) → is_known s.flags i q ≡ true → Reaches i q s s
reaches-known i q s h = record { onward = onward-same s; sound = λ a book e sound. sound; known = h }

pub reaches-new : (i q : ℕ) (s t : Known) → pair_of i q < length s.flags → q < max_states → is_known s.flags i q ≡ false → t ≡ reached s i q → Reaches i q s t
reaches-new i q s t l m h e =
    let new : Reaches i q s (reached s i q) =
    record {
      onward = onward-reached s i q l h;
      sound = λ a book has sound. sound-reached a book s i q m has sound;
      known = get_or-set_same s.flags (pair_of i q) true false l;
    } in
    subst (λ (u : Known). Reaches i q s u) (sym e) new

module _ (a : Automaton) where
  -- a component alone
  pub follows-leaf : (i x q : ℕ) (s t : Known) → leaf_state a x ≡ Some q → Reaches i q s t → Follows a i (Head x []) s t
  follows-leaf i x q s t e h = record {
    onward = h.onward;
    sound = λ book steps rule sound. h.sound a book (leaf-sound book a steps i x q [] rule e) sound;
    followed = λ same p f.
        (let both : Some q ≡ Some p = sym e ∙ f in
        let one : q ≡ p = cc in
        subst (λ (n : ℕ). is_known t.flags i n ≡ true) one h.known);
  }

  pub follows-none : (i x : ℕ) (s : Known) → leaf_state a x ≡ None → Follows a i (Head x []) s s
  follows-none i x s e = record {
    onward = onward-same s;
    sound = λ book steps rule sound. sound;
    followed = λ same p f. absurd (let both : None ≡ Some p = sym e ∙ f in cc);
  }

  -- the application of one state to another
  pub joins-unknown : (i l p m r : ℕ) (s : Known) → is_known s.flags m r ≡ false → JoinsAt a i l p m r s s
  joins-unknown i l p m r s h = record {
    onward = onward-same s;
    sound = λ book steps rule left sound. sound;
    followed = λ same q known j. absurd (false≢true (sym h ∙ known));
  }

  pub joins-none : (i l p m r : ℕ) (s : Known) → joined_state a p r ≡ None → JoinsAt a i l p m r s s
  joins-none i l p m r s e = record {
    onward = onward-same s;
    sound = λ book steps rule left sound. sound;
    followed = λ same q known j. absurd (let both : None ≡ Some q = sym e ∙ j in cc);
  }

  pub joins-some : (i l p m r q : ℕ) (s t : Known) → p < max_states → r < max_states → joined_state a p r ≡ Some q → is_known s.flags m r ≡ true → Reaches i q s t → JoinsAt a i l p m r s t
  joins-some i l p m r q s t n o e right h = record {
    onward = h.onward;
    sound = λ book steps rule left sound.
        (let within = steps i (Any l m) rule in
        h.sound a book (application-sound book a steps i l m p r q rule (sound.has l p within.0 n left) (sound.has m r within.1 o right) e) sound);
    followed = λ same x known j.
        (let both : Some q ≡ Some x = sym e ∙ j in
        let one : q ≡ x = cc in
        subst (λ (k : ℕ). is_known t.flags i k ≡ true) one h.known);
  }

  -- one state of the right node after another
  pub joins-begun : (i l p m : ℕ) (s : Known) → Joins a i l p m 0 s s
  joins-begun i l p m s = record {
    onward = onward-same s;
    sound = λ book steps rule left sound. sound;
    followed = λ same r q less known j. absurd (omega (arith, less));
  }

  pub joins-more : (i l p m n : ℕ) (s t u : Known) → Joins a i l p m n s t → JoinsAt a i l p m n t u → Joins a i l p m (n + 1) s u
  joins-more i l p m n s t u h k = record {
    onward = onward-then s t u h.onward k.onward;
    sound = λ book steps rule left sound. k.sound book steps rule (h.onward.kept (pair_of l p) left) (h.sound book steps rule left sound);
    followed = λ same r q less known j.
        (let both = onward-both s t u h.onward k.onward same in
        elim (cases_lt r n) [
          | inl below ↦
              subst (λ (v : Known). is_known v.flags i q ≡ true) (sym both.1)
              (h.followed both.0 r q below (subst (λ (v : Known). is_known v.flags m r ≡ true) both.1 known) j)
          | inr past ↦ (
              let is : n ≡ r = omega (arith, less, past) in
              let last : is_known u.flags m n ≡ true → joined_state a p n ≡ Some q → is_known u.flags i q ≡ true = k.followed both.1 q in
              subst (λ (x : ℕ). is_known u.flags m x ≡ true → joined_state a p x ≡ Some q → is_known u.flags i q ≡ true) is last known j)
        ]);
  }

  -- a state of the left node
  pub applies-unknown : (i l p m : ℕ) (s : Known) → is_known s.flags l p ≡ false → AppliesAt a i l p m s s
  applies-unknown i l p m s h = record {
    onward = onward-same s;
    sound = λ book steps rule sound. sound;
    followed = λ same r q less left right j. absurd (false≢true (sym h ∙ left));
  }

  pub applies-joined : (i l p m : ℕ) (s t : Known) → is_known s.flags l p ≡ true → Joins a i l p m max_states s t → AppliesAt a i l p m s t
  applies-joined i l p m s t left h = record {
    onward = h.onward;
    sound = λ book steps rule sound. h.sound book steps rule left sound;
    followed = λ same r q less known right j. h.followed same r q less right j;
  }

  -- one after another
  pub applies-begun : (i l m : ℕ) (s : Known) → Applies a i l m 0 s s
  applies-begun i l m s = record {
    onward = onward-same s;
    sound = λ book steps rule sound. sound;
    followed = λ same p r q less small left right j. absurd (omega (arith, less));
  }

  pub applies-more : (i l m n : ℕ) (s t u : Known) → Applies a i l m n s t → AppliesAt a i l n m t u → Applies a i l m (n + 1) s u
  applies-more i l m n s t u h k = record {
    onward = onward-then s t u h.onward k.onward;
    sound = λ book steps rule sound. k.sound book steps rule (h.sound book steps rule sound);
    followed = λ same p r q less small left right j.
        (let both = onward-both s t u h.onward k.onward same in
        elim (cases_lt p n) [
          | inl below ↦
              subst (λ (v : Known). is_known v.flags i q ≡ true) (sym both.1)
              (h.followed both.0 p r q below small (subst (λ (v : Known). is_known v.flags l p ≡ true) both.1 left) (subst (λ (v : Known). is_known v.flags m r ≡ true) both.1 right) j)
          | inr past ↦ (
              let is : n ≡ p = omega (arith, less, past) in
              let last : is_known u.flags l n ≡ true → is_known u.flags m r ≡ true → joined_state a n r ≡ Some q → is_known u.flags i q ≡ true = k.followed both.1 r q small in
              subst (λ (x : ℕ). is_known u.flags l x ≡ true → is_known u.flags m r ≡ true → joined_state a x r ≡ Some q → is_known u.flags i q ≡ true) is last left right j)
        ]);
  }

  pub follows-applied : (i l m n : ℕ) (s t : Known) → max_states ≤ n → Applies a i l m n s t → Follows a i (Any l m) s t
  follows-applied i l m n s t over h = record {
    onward = h.onward;
    sound = h.sound;
    followed = λ same p r q less small left right j. h.followed same p r q (omega (arith, over, less)) small left right j;
  }

  module _ (book : List (List (Rule ℕ))) where
    -- one rule after another
    pub rules-begun : (i : ℕ) (s : Known) → FollowsRules a book i [] s s
    rules-begun i s = record {
      onward = onward-same s;
      sound = λ steps sound. sound;
      followed = λ same r c. absurd (Contains-nil r c);
    }

    rules-more : (i : ℕ) (rs : List (Rule ℕ)) (r : Rule ℕ) (s t u : Known) → NodeRule book i r → FollowsRules a book i rs s t → Follows a i r t u → FollowsRules a book i (rs ++ r ∷ []) s u
    rules-more i rs r s t u rule h k = record {
      onward = onward-then s t u h.onward k.onward;
      sound = λ steps sound. k.sound book steps rule (h.sound steps sound);
      followed = λ same x c.
          (let both = onward-both s t u h.onward k.onward same in
          elim (Contains-push_cases rs r x c) [
            | inl earlier ↦ subst (λ (v : Known). IsFollowed a v.flags i x) (sym both.1) (h.followed both.0 x earlier)
            | inr is ↦ subst (λ (y : Rule ℕ). IsFollowed a u.flags i y) is (k.followed both.1)
          ]);
    }

    -- a step of the node is one of its rules
    step-rule : (i : ℕ) (steps : List Step) (n : ℕ) (d : Step) → n < length steps → map step_rule steps ≡ rules_at book i → NodeRule book i (step_rule (get_or steps n d))
    step-rule i steps n d l e =
        subst (λ (rs : List (Rule ℕ)). Contains rs (step_rule (get_or steps n d))) e (Contains-map step_rule steps (get_or steps n d) (Contains-get_or steps n d l))

    pub steps-more : (i : ℕ) (steps : List Step) (n : ℕ) (d : Step) (s t u : Known) → n < length steps → map step_rule steps ≡ rules_at book i → FollowsRules a book i (map step_rule (take n steps)) s t → Follows a i (step_rule (get_or steps n d)) t u → FollowsRules a book i (map step_rule (take (n + 1) steps)) s u
    steps-more i steps n d s t u l e h k =
        subst (λ (rs : List (Rule ℕ)). FollowsRules a book i rs s u) (sym (map_more step_rule steps n d l))
        (rules-more i (map step_rule (take n steps)) (step_rule (get_or steps n d)) s t u (step-rule i steps n d l e) h k)

    pub steps-whole : (i : ℕ) (steps : List Step) (n : ℕ) (s t : Known) → length steps ≤ n → map step_rule steps ≡ rules_at book i → FollowsRules a book i (map step_rule (take n steps)) s t → FollowsAll a book i s t
    steps-whole i steps n s t l e h =
        subst (λ (rs : List (Rule ℕ)). FollowsRules a book i rs s t) (ap (map step_rule) (take_all n steps l) ∙ e) h

    -- nodes have their turn one after the other
    pub turns-same : (s : Known) → Turns a book s s
    turns-same s = record { onward = onward-same s; sound = λ steps sound. sound }

    pub turns-then : (s t u : Known) → Turns a book s t → Turns a book t u → Turns a book s u
    turns-then s t u h k = record {
      onward = onward-then s t u h.onward k.onward;
      sound = λ steps sound. k.sound steps (h.sound steps sound);
    }

    -- one step of a node is followed
    pub step-turns : (i : ℕ) (steps : List Step) (n : ℕ) (x : Step) (s t : Known) → n < length steps → x ≡ get_or steps n x → map step_rule steps ≡ rules_at book i → Follows a i (step_rule x) s t → Turns a book s t
    step-turns i steps n x s t l e is h =
        (let rule : NodeRule book i (step_rule x) = subst (λ (y : Step). NodeRule book i (step_rule y)) (sym e) (step-rule i steps n x l is) in
        record { onward = h.onward; sound = λ areSteps sound. h.sound book areSteps rule sound })

    pub follows-turns : (i : ℕ) (s t : Known) → FollowsAll a book i s t → Turns a book s t
    follows-turns i s t h = record { onward = h.onward; sound = h.sound }

    -- a pass over all nodes
    pub passes-begun : (s : Known) → Passes a book 0 s s
    passes-begun s = record { turns = turns-same s; followed = λ same i less. absurd (omega (arith, less)) }

    pub passes-more : (n : ℕ) (s t u : Known) → Passes a book n s t → FollowsAll a book n t u → Passes a book (n + 1) s u
    passes-more n s t u h k = record {
      turns = turns-then s t u h.turns (follows-turns n t u k);
      followed = λ same i less r c.
          (let both = onward-both s t u h.turns.onward k.onward same in
          elim (cases_lt i n) [
            | inl below ↦ subst (λ (v : Known). IsFollowed a v.flags i r) (sym both.1) (h.followed both.0 i below r c)
            | inr past ↦ (
                let is : n ≡ i = omega (arith, less, past) in
                let last : NodeRule book n r → IsFollowed a u.flags n r = k.followed both.1 r in
                subst (λ (x : ℕ). NodeRule book x r → IsFollowed a u.flags x r) is last c)
          ]);
    }

    -- where nothing more is known, no rule adds anything
    pub passes-closed : (n : ℕ) (s t : Known) → length book ≤ n → Passes a book n s t → count_true t.flags ≤ count_true s.flags → IsClosed a book t.flags
    passes-closed n s t over h few =
        let same : t ≡ s = onward-unchanged s t h.turns.onward (let more = onward-count s t h.turns.onward in omega (arith, few, more)) in
        λ i less. h.followed same i (omega (arith, less, over))

    -- and nodes are taken off those that changed
    pub keeps-same : (s : Known) → Keeps a book s s
    keeps-same s = record { sized = refl; no_less = omega arith; sound = λ steps sound. sound }

    pub keeps-turns : (s t : Known) → Turns a book s t → Keeps a book s t
    keeps-turns s t h = record { sized = h.onward.sized; no_less = onward-count s t h.onward; sound = h.sound }

    pub keeps-then : (s t u : Known) → Keeps a book s t → Keeps a book t u → Keeps a book s u
    keeps-then s t u h k = record {
      sized = k.sized ∙ h.sized;
      no_less = omega (arith, h.no_less, k.no_less);
      sound = λ steps sound. k.sound steps (h.sound steps sound);
    }

    pub keeps-taken : (s t u : Known) → Keeps a book s t → u.flags ≡ t.flags → Keeps a book s u
    keeps-taken s t u h e = record {
      sized = ap (λ (fs : List Bool). length fs) e ∙ h.sized;
      no_less = (let c = ap count_true e in omega (arith, c, h.no_less));
      sound = λ steps sound. subst (λ (fs : List Bool). IsSound a book fs) (sym e) (h.sound steps sound);
    }

-- less is left to be known after a pass that finds something, and after one that finds nothing
pub pass-less : (len n len' n' : ℕ) (more : Bool) → len' ≡ len → n ≤ n' → n' ≤ len' → (more ≡ true → n < n') → len' - n' + cond more 1 0 < len - n + 1
pass-less len n len' n' true e l m h = let k : n < n' = h refl in omega (arith, e, l, m, k)
pass-less len n len' n' false e l m h = omega (arith, e, l, m)
