-- How the rules of a goal are made step by step.
use Rattle.std.proofs.Common.{ℕ, ◌≡◌, ◌+◌, ◌<◌, ◌≤◌, refl, sym, ◌∙◌, subst, ap, ◌⊎◌, inl, inr, List, [], ◌∷◌, ◌++◌, length, arith, Contains}
use Rattle.std.specs.Prelude.{map}
use Rattle.std.specs.List.{AllZip}
use Rattle.std.proofs.lemmas.List.Elements.{Contains-append_left, Contains-append_right, Contains-append_cases}
use Rattle.cls_base.specs.Terms.{Precedes}
use Rattle.cls_base.specs.declared.rule.Rule.{Rule}
use Rattle.cls_base.proofs.Lists.{Contains-nil, Contains-here, Contains-later, Contains-cases, Contains-map, Contains-from_map, map_last}
use Rattle.cls_path.specs.Paths.{TypePath, Paths, more}
use Rattle.cls_cover.specs.Lists.{Rises}
use Rattle.cls_cover.specs.Covers.{IsMinimal, AreMinimal}
use Rattle.cls_library.specs.Arrows.{arity_of}
use Rattle.cls_library.specs.Families.{IsEarlier}
use Rattle.cls_library.specs.Libraries.{Library, paths_at, arrows_at}
use Rattle.cls_library.specs.Reaching.{CoversGoal}
use Rattle.cls_library.specs.Rules.{Choice, ComesBefore, IsRuleFor, IsTooLarge, HasManyCovers, IsWideBy, by_covers, by_size, IsWide, IsRules, IsRulesBy, FirstOnes, no_more}
use Rattle.cls_expand.specs.Making.{IsChosen, choice_at, AreBegun, PutsNew}
use Rattle.cls_expand.specs.Listing.{first_ones_old, first_ones_new, all_last, append_last, append_nothing}

pub in_mapped : {A B : Type 0} (f : A → B) (xs : List A) (y : B) → Contains (map f xs) y → (x : A) × Contains xs x × (f x ≡ y)
in_mapped f xs y m = let r = Contains-from_map f xs y m in (r.0, r.1, sym r.2)

-- two lists that rise, the first below the second
pub rises_append : {A : Type 0} (R : A → A → Type 0) (xs ys : List A) → Rises R xs → Rises R ys → ((x y : A) → Contains xs x → Contains ys y → R x y) → Rises R (xs ++ ys)
rises_append R [] ys a b f = b
rises_append {A} R (x ∷ xs) ys a b f = ((λ z m. each z (Contains-append_cases xs ys z m)), rises_append R xs ys a.1 b (λ y z m k. f y z (Contains-later y x xs m) k))
  where
    each : (z : A) → Contains xs z ⊎ Contains ys z → R x z
    each z (inl m) = a.0 z m
    each z (inr m) = f x z (Contains-here x xs) m

rises_choices : (x n : ℕ) (covers : List (List ℕ)) → Rises Precedes covers → Rises ComesBefore (map (choice_at x n) covers)
rises_choices x n [] r = tt
rises_choices x n (s ∷ covers) r = ((λ c m. let u = in_mapped (choice_at x n) covers c m in subst (λ d. ComesBefore (choice_at x n s) d) u.2 (inr (refl, inr (refl, r.0 u.0 u.1)))), rises_choices x n covers r.1)

earlier_before : (x n : ℕ) (c d : Choice) → IsEarlier x n c.component c.places → d.component ≡ x → d.places ≡ n → ComesBefore c d
earlier_before x n c d (inl l) e f = inl (omega arith)
earlier_before x n c d (inr l) e f = let k : c.places < n = l.1 in inr (l.0 ∙ sym e, inl (omega arith))

module _ (l : Library) (goal : Paths) (from : ℕ) where
  -- nothing is made yet
  pub begun_none : AreBegun l goal from from 0 [] []
  begun_none = record {
    choices = [];
    chosen = record { in_order = tt; exactly = (λ c. ((λ m. absurd (Contains-nil c m)), (λ h. absurd (none_earlier c.component c.places h.1 h.2)))) };
    candidates = [];
    made = tt;
    first_ones = no_more;
    fit = (λ c m. absurd (Contains-nil c m));
    narrow = (λ y k h e. absurd (none_earlier y k h e));
  }
    where
      none_earlier : (y k : ℕ) → from ≤ y → IsEarlier from 0 y k → ⊥
      none_earlier y k h (inl i) = omega arith
      none_earlier y k h (inr i) = let j : k < 0 = i.1 in omega arith

  module _ (x n : ℕ) where
    -- one cover more
    pub begun_cover : (covers : List (List ℕ)) (rules : List (Rule Paths)) (s : List ℕ) (rule : Rule Paths) (new : List (Rule Paths)) → AreBegun l goal from x n covers rules → IsRuleFor l (choice_at x n s) rule → (IsTooLarge l goal (choice_at x n s) → ⊥)
        → PutsNew rules rule rules new → AreBegun l goal from x n (covers ++ s ∷ []) new
    begun_cover covers rules s rule new b r f u = record {
      choices = b.choices;
      chosen = b.chosen;
      candidates = b.candidates ++ rule ∷ [];
      made = subst (λ (cs : List Choice). AllZip (IsRuleFor l) cs (b.candidates ++ rule ∷ [])) (sym whole) (all_last (IsRuleFor l) (b.choices ++ map (choice_at x n) covers) b.candidates (choice_at x n s) rule b.made r);
      first_ones = ones u;
      fit = (λ c m. each c (Contains-append_cases (b.choices ++ map (choice_at x n) covers) (choice_at x n s ∷ []) c (subst (λ (cs : List Choice). Contains cs c) whole m)));
      narrow = b.narrow;
    }
      where
        whole : b.choices ++ map (choice_at x n) (covers ++ s ∷ []) ≡ (b.choices ++ map (choice_at x n) covers) ++ choice_at x n s ∷ []
        whole = ap (λ cs. b.choices ++ cs) (map_last (choice_at x n) covers s) ∙ append_last b.choices (map (choice_at x n) covers) (choice_at x n s)

        none_seen : (r : Rule Paths) → Contains [] r → ⊥
        none_seen r m = Contains-nil r m

        ones : PutsNew rules rule rules new → FirstOnes [] (b.candidates ++ rule ∷ []) new
        ones (inl v) = subst (λ (rs : List (Rule Paths)). FirstOnes [] (b.candidates ++ rule ∷ []) rs) (sym v.1) (first_ones_old rule b.first_ones (inr v.0))
        ones (inr v) = subst (λ (rs : List (Rule Paths)). FirstOnes [] (b.candidates ++ rule ∷ []) rs) (sym v.1) (first_ones_new rule b.first_ones (none_seen rule) v.0)

        each : (c : Choice) → Contains (b.choices ++ map (choice_at x n) covers) c ⊎ Contains (choice_at x n s ∷ []) c → IsTooLarge l goal c → ⊥
        each c (inl m) t = b.fit c m t
        each c (inr m) t = elim (Contains-cases (choice_at x n s) [] c m) [
          | inl e ↦ f (subst (λ (d : Choice). IsTooLarge l goal d) e t)
          | inr k ↦ absurd (Contains-nil c k)
        ]

    -- one number of arguments more
    pub begun_place : (covers : List (List ℕ)) (rules : List (Rule Paths)) → from ≤ x → x < length l.components → n ≤ arity_of (paths_at l x) → AreMinimal (CoversGoal l (arrows_at l x n) goal) covers → (HasManyCovers l goal x n → ⊥) → AreBegun l goal from x n covers rules → AreBegun l goal from x (n + 1) [] rules
    begun_place covers rules h d w a t b = record {
      choices = b.choices ++ map (choice_at x n) covers;
      chosen = record {
        in_order = rises_append ComesBefore b.choices (map (choice_at x n) covers) b.chosen.in_order (rises_choices x n covers a.in_order) (λ c e m k. let u = in_mapped (choice_at x n) covers e k in earlier_before x n c e ((b.chosen.exactly c).0 m).2 (sym (ap (λ (z : Choice). z.component) u.2)) (sym (ap (λ (z : Choice). z.places) u.2)));
        exactly = (λ c. ((λ m. to c (Contains-append_cases b.choices (map (choice_at x n) covers) c m)), (λ k. back c k (split c k.2))));
      };
      candidates = b.candidates;
      made = subst (λ (cs : List Choice). AllZip (IsRuleFor l) cs b.candidates) (sym (append_nothing (b.choices ++ map (choice_at x n) covers))) b.made;
      first_ones = b.first_ones;
      fit = (λ c m. b.fit c (subst (λ (cs : List Choice). Contains cs c) (append_nothing (b.choices ++ map (choice_at x n) covers)) m));
      narrow = (λ y k i e. narrows y k i (split_place y k e));
    }
      where
        split_place : (y k : ℕ) → IsEarlier x (n + 1) y k → IsEarlier x n y k ⊎ ((y ≡ x) × (k ≡ n))
        split_place y k (inl i) = inl (inl i)
        split_place y k (inr i) = go (cases i.1)
          where
            cases : k < n + 1 → (k < n) ⊎ (k ≡ n)
            cases j = grind arith

            go : (k < n) ⊎ (k ≡ n) → IsEarlier x n y k ⊎ ((y ≡ x) × (k ≡ n))
            go (inl j) = inl (inr (i.0, j))
            go (inr j) = inr (i.0, j)

        split : (c : Choice) → IsEarlier x (n + 1) c.component c.places → IsEarlier x n c.component c.places ⊎ ((c.component ≡ x) × (c.places ≡ n))
        split c e = split_place c.component c.places e

        narrows : (y k : ℕ) → from ≤ y → IsEarlier x n y k ⊎ ((y ≡ x) × (k ≡ n)) → HasManyCovers l goal y k → ⊥
        narrows y k i (inl e) m = b.narrow y k i e m
        narrows y k i (inr e) m = t (subst (λ z. HasManyCovers l goal x z) e.1 (subst (λ z. HasManyCovers l goal z k) e.0 m))

        more_earlier : (y k : ℕ) → IsEarlier x n y k → IsEarlier x (n + 1) y k
        more_earlier y k (inl i) = inl i
        more_earlier y k (inr i) = let j : k < n = i.1 in inr (i.0, omega arith)

        chosen_here : (s : List ℕ) → Contains covers s → IsChosen l goal from x (n + 1) (choice_at x n s)
        chosen_here s m = (record { declared = d; within = w; minimal = (a.exactly s).0 m }, h, inr (refl, omega arith))

        to : (c : Choice) → Contains b.choices c ⊎ Contains (map (choice_at x n) covers) c → IsChosen l goal from x (n + 1) c
        to c (inl m) = let r = (b.chosen.exactly c).0 m in (r.0, r.1, more_earlier c.component c.places r.2)
        to c (inr m) = let u = in_mapped (choice_at x n) covers c m in subst (λ e. IsChosen l goal from x (n + 1) e) u.2 (chosen_here u.0 u.1)

        back : (c : Choice) → IsChosen l goal from x (n + 1) c → IsEarlier x n c.component c.places ⊎ ((c.component ≡ x) × (c.places ≡ n)) → Contains (b.choices ++ map (choice_at x n) covers) c
        back c k (inl e) = Contains-append_left b.choices (map (choice_at x n) covers) c ((b.chosen.exactly c).1 (k.0, k.1, e))
        back c k (inr e) =
            let same : choice_at x n c.cover ≡ c = (λ i. record { component = sym e.0 i; places = sym e.1 i; cover = c.cover }) in
            let m = (a.exactly c.cover).1 (subst (λ z. IsMinimal (CoversGoal l (arrows_at l x z) goal) c.cover) e.1 (subst (λ z. IsMinimal (CoversGoal l (arrows_at l z c.places) goal) c.cover) e.0 k.0.minimal)) in
            Contains-append_right b.choices (map (choice_at x n) covers) c (subst (λ (z : Choice). Contains (map (choice_at x n) covers) z) same (Contains-map (choice_at x n) covers c.cover m))

module _ (l : Library) (q : TypePath) (rest : Paths) where
  abbrev goal : Paths
  goal = more q rest

  -- all components
  pub begun_rules : (rules : List (Rule Paths)) → AreBegun l goal 0 (length l.components) 0 [] rules → (IsWide l goal → ⊥) × IsRules l goal (rules)
  begun_rules rules b = (
    (λ w. wide w.component w.declared w.wide),
    record {
      choices = b.choices;
      candidates = b.candidates;
      chosen = record { in_order = b.chosen.in_order; exactly = (λ c. ((λ m. ((b.chosen.exactly c).0 m).0), (λ k. (b.chosen.exactly c).1 (k, omega arith, inl k.declared)))) };
      made = subst (λ (cs : List Choice). AllZip (IsRuleFor l) cs b.candidates) (append_nothing b.choices) b.made;
      first_ones = b.first_ones;
    },
  )
    where
      wide : (x : ℕ) → x < length l.components → IsWideBy l x goal → ⊥
      wide x d (by_covers k m) = b.narrow x k (omega arith) (inl d) m
      wide x d (by_size c e t) = b.fit c (Contains-append_left b.choices [] c ((b.chosen.exactly c).1 (t.choice, omega arith, inl t.choice.declared))) t

  -- one component alone
  pub begun_by : (x : ℕ) (rules : List (Rule Paths)) → AreBegun l goal x (x + 1) 0 [] rules → (IsWideBy l x goal → ⊥) × IsRulesBy l x goal (rules)
  begun_by x rules b = (
    wide,
    record {
      choices = b.choices;
      candidates = b.candidates;
      chosen = record { in_order = b.chosen.in_order; exactly = (λ c. ((λ m. let r = (b.chosen.exactly c).0 m in (r.0, same c.component c.places r.1 r.2)), (λ k. (b.chosen.exactly c).1 (k.0, at_least c.component k.1, inl (below c.component k.1))))) };
      made = subst (λ (cs : List Choice). AllZip (IsRuleFor l) cs b.candidates) (append_nothing b.choices) b.made;
      first_ones = b.first_ones;
    },
  )
    where
      at_least : (y : ℕ) → y ≡ x → x ≤ y
      at_least y e = omega arith

      below : (y : ℕ) → y ≡ x → y < x + 1
      below y e = omega arith

      same : (y k : ℕ) → x ≤ y → IsEarlier (x + 1) 0 y k → y ≡ x
      same y k h (inl i) = omega arith
      same y k h (inr i) = let j : k < 0 = i.1 in absurd (omega arith)

      wide : IsWideBy l x goal → ⊥
      wide (by_covers k m) = b.narrow x k (omega arith) (inl (omega arith)) m
      wide (by_size c e t) = b.fit c (Contains-append_left b.choices [] c ((b.chosen.exactly c).1 (t.choice, at_least c.component e, inl (below c.component e)))) t
