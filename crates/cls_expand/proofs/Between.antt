-- The rules by the components from one on that come before another one: put behind each other, those of one component among them,
-- and what the components make one by one, put together.
use Rattle.std.proofs.Common.{ℕ, zero, suc, ◌≡◌, ◌+◌, ◌<◌, ◌≤◌, refl, sym, ◌∙◌, subst, ap, ◌⊎◌, inl, inr, List, [], ◌∷◌, ◌++◌, length, arith, Bool, true, false, Contains, cond}
use Rattle.std.specs.Prelude.{◌↔◌, map, filter, slice_index_or, ◌==◌}
use Rattle.std.specs.List.{AllZip}
use Rattle.std.proofs.lemmas.Bool.Decides.{Decides-eqb}
use Rattle.std.proofs.lemmas.List.{map-append}
use Rattle.std.proofs.lemmas.List.Elements.{Contains-append_left, Contains-append_right, Contains-append_cases}
use Rattle.cls_base.specs.declared.rule.Rule.{Rule}
use Rattle.cls_base.specs.declared.rule.Rule.TheVariants.{Head, Any}
use Rattle.cls_base.proofs.Lists.{Contains-nil, Contains-here, Contains-later, Contains-cases, Contains-map}
use Rattle.cls_path.specs.Paths.{TypePath, Paths, none, more, listed}
use Rattle.cls_cover.proofs.Lists.{contains_member, member_contains}
use Rattle.cls_core.specs.declared.answer.Answer.TheVariants.{Rules}
use Rattle.cls_library.specs.Families.{IsEarlier}
use Rattle.cls_library.specs.Libraries.{Library}
use Rattle.cls_library.specs.Rules.{Choice, ComesBefore, AreMade, IsChoice, IsChoiceBy, IsRuleFor, IsTooLarge, HasManyCovers, IsWideBy, by_covers, by_size, IsWide, IsRules, IsRulesBy, numbers_from, heads}
use Rattle.cls_library.proofs.ByCases.{all_zip, zip_all, zip_right}
use Rattle.cls_library.proofs.FirstOnes.{first_ones_from}
use Rattle.cls_expand.specs.Answers.{rule_of, IsAnswerBy}
use Rattle.cls_expand.specs.ByComponent.{rules_with, arguments_by, rules_joined}
use Rattle.cls_expand.specs.Laws.{RulesHaveTheirComponent, RulesAreByComponents, ComponentsMakeTheRules}
use Rattle.cls_expand.specs.Listing.{rule_component, append_nothing}
use Rattle.cls_expand.specs.Making.{IsChosen, AreBegun}
use Rattle.cls_expand.proofs.FirstOnes.{first_ones_append, first_ones_kept, kept, kept_in, rises_kept, zip_behind, zip_kept}
use Rattle.cls_expand.proofs.Making.{rises_append, begun_none, begun_rules, begun_by}

before_end : (e y n : ℕ) → IsEarlier e 0 y n → y < e
before_end e y n (inl i) = i
before_end e y n (inr i) = let j : n < 0 = i.1 in absurd (omega arith)

only_one : (x y n : ℕ) → x ≤ y → IsEarlier (x + 1) 0 y n → y ≡ x
only_one x y n h i = let j = before_end (x + 1) y n i in omega arith

side_of : (y m : ℕ) → (y < m) ⊎ (m ≤ y)
side_of y m = grind arith

-- whether the rule has this component
abbrev has_component : {G : Type 0} → ℕ → Rule G → Bool
has_component x (Head y args) = x == y
has_component x (Any left right) = false

-- whether the choice has it
abbrev is_by : ℕ → Choice → Bool
is_by x c = x == c.component

module _ (l : Library) (goal : Paths) where
  -- the rules by the components from a on that come before e
  abbrev pub Between : ℕ → ℕ → List (Rule Paths) → Type 0
  Between a e rs = AreBegun l goal a e 0 [] rs

  abbrev Made : List Choice → List (Rule Paths) → Type 0
  Made cs rs = AllZip (IsRuleFor l) cs rs

  abbrev IsLarge : Choice → Type 0
  IsLarge c = IsTooLarge l goal c

  with_nothing : (cs : List Choice) (rs : List (Rule Paths)) → Made cs rs → Made (cs ++ []) rs
  with_nothing cs rs m = subst (λ (ds : List Choice). Made ds rs) (sym (append_nothing cs)) m

  is_there : (cs : List Choice) (c : Choice) → Contains (cs ++ []) c → Contains cs c
  is_there cs c m = subst (λ (ds : List Choice). Contains ds c) (append_nothing cs) m

  module _ (a e : ℕ) (rs : List (Rule Paths)) (h : Between a e rs) where
    made_plain : Made h.choices h.candidates
    made_plain = subst (λ (cs : List Choice). Made cs h.candidates) (append_nothing h.choices) h.made

    fit_plain : (c : Choice) → Contains h.choices c → IsLarge c → ⊥
    fit_plain c m = h.fit c (subst (λ (cs : List Choice). Contains cs c) (sym (append_nothing h.choices)) m)

    chosen_within : (c : Choice) → Contains h.choices c → (a ≤ c.component) × (c.component < e)
    chosen_within c m = let u = (h.chosen.exactly c).0 m in (u.1, before_end e c.component c.places u.2)

    -- each rule that was made has one of these components
    made_within : (r : Rule Paths) → Contains h.candidates r → (a ≤ rule_component r) × (rule_component r < e)
    made_within r m =
        let u = zip_right r (all_zip h.choices h.candidates made_plain) (contains_member h.candidates r m) in
        subst (λ y. (a ≤ y) × (y < e)) (sym (ap rule_component u.2.rule)) (chosen_within u.0 (member_contains u.1))

  -- the rules up to a component and those from it on, one after the other
  pub between_append : (a m e : ℕ) (rs qs : List (Rule Paths)) → a ≤ m → m ≤ e → Between a m rs → Between m e qs → Between a e (rs ++ qs)
  between_append a m e rs qs low high h k = record {
    choices = h.choices ++ k.choices;
    chosen = record {
      in_order = rises_append ComesBefore h.choices k.choices h.chosen.in_order k.chosen.in_order (λ c d i j. inl (apart c d i j));
      exactly = (λ c. ((λ i. to c (Contains-append_cases h.choices k.choices c i)), (λ u. back c u (side_of c.component m))));
    };
    candidates = h.candidates ++ k.candidates;
    made = with_nothing (h.choices ++ k.choices) (h.candidates ++ k.candidates) both;
    first_ones = first_ones_append h.first_ones k.first_ones other;
    fit = (λ c i. fits c (Contains-append_cases h.choices k.choices c (is_there (h.choices ++ k.choices) c i)));
    narrow = (λ y n i j. narrows y n i j (side_of y m));
  }
    where
      both : Made (h.choices ++ k.choices) (h.candidates ++ k.candidates)
      both =
          let first = all_zip h.choices h.candidates (made_plain a m rs h) in
          let second = all_zip k.choices k.candidates (made_plain m e qs k) in
          zip_all (zip_behind first second)

      apart : (c d : Choice) → Contains h.choices c → Contains k.choices d → c.component < d.component
      apart c d i j = let u = (chosen_within a m rs h c i).1 in let v = (chosen_within m e qs k d j).0 in omega arith

      other : (r : Rule Paths) → Contains k.candidates r → Contains h.candidates r ⊎ Contains [] r → ⊥
      other r i (inl j) = let u = (made_within a m rs h r j).1 in let v = (made_within m e qs k r i).0 in omega arith
      other r i (inr j) = Contains-nil r j

      to : (c : Choice) → Contains h.choices c ⊎ Contains k.choices c → IsChosen l goal a e 0 c
      to c (inl i) =
          let u = (h.chosen.exactly c).0 i in
          let v = (chosen_within a m rs h c i).1 in
          (u.0, u.1, inl (omega arith))
      to c (inr i) =
          let u = (k.chosen.exactly c).0 i in
          let v = (chosen_within m e qs k c i).0 in
          (u.0, omega arith, u.2)

      back : (c : Choice) → IsChosen l goal a e 0 c → (c.component < m) ⊎ (m ≤ c.component) → Contains (h.choices ++ k.choices) c
      back c u (inl i) = Contains-append_left h.choices k.choices c ((h.chosen.exactly c).1 (u.0, u.1, inl i))
      back c u (inr i) = Contains-append_right h.choices k.choices c ((k.chosen.exactly c).1 (u.0, i, u.2))

      fits : (c : Choice) → Contains h.choices c ⊎ Contains k.choices c → IsLarge c → ⊥
      fits c (inl i) = fit_plain a m rs h c i
      fits c (inr i) = fit_plain m e qs k c i

      narrows : (y n : ℕ) → a ≤ y → IsEarlier e 0 y n → (y < m) ⊎ (m ≤ y) → HasManyCovers l goal y n → ⊥
      narrows y n i j (inl u) = h.narrow y n i (inl u)
      narrows y n i j (inr u) = k.narrow y n u j

  -- the rules of one component among them
  pub between_part :
      (a e x : ℕ) (rs : List (Rule Paths)) → a ≤ x → x < e → Between a e rs → Between x (x + 1) (filter (has_component x) rs)
  between_part a e x rs low high h = record {
    choices = filter (is_by x) h.choices;
    chosen = record {
      in_order = rises_kept (is_by x) ComesBefore h.choices h.chosen.in_order;
      exactly = (λ c. ((λ i. to c (kept_in (is_by x) h.choices c i)), (λ u. back c u)));
    };
    candidates = filter (has_component x) h.candidates;
    made = with_nothing (filter (is_by x) h.choices) (filter (has_component x) h.candidates) part;
    first_ones = first_ones_kept (has_component x) h.first_ones;
    fit = (λ c i. fit_plain a e rs h c (kept_in (is_by x) h.choices c (is_there (filter (is_by x) h.choices) c i)).0);
    narrow = (λ y n i j. let s = only_one x y n i j in h.narrow y n (omega arith) (inl (omega arith)));
  }
    where
      part : Made (filter (is_by x) h.choices) (filter (has_component x) h.candidates)
      part =
          let all = all_zip h.choices h.candidates (made_plain a e rs h) in
          zip_all (zip_kept (is_by x) (has_component x) (λ c r i. sym (ap (has_component x) i.rule)) all)

      to : (c : Choice) → Contains h.choices c × (is_by x c ≡ true) → IsChosen l goal x (x + 1) 0 c
      to c u =
          let s : x ≡ c.component = (Decides-eqb x c.component).0 u.1 in
          (((h.chosen.exactly c).0 u.0).0, omega arith, inl (omega arith))

      back : (c : Choice) → IsChosen l goal x (x + 1) 0 c → Contains (filter (is_by x) h.choices) c
      back c u =
          let s = only_one x c.component c.places u.1 u.2 in
          let m = (h.chosen.exactly c).1 (u.0, omega arith, inl (omega arith)) in
          kept (is_by x) h.choices c m ((Decides-eqb x c.component).1 (sym s))

module _ (l : Library) (q : TypePath) (rest : Paths) where
  abbrev goal : Paths
  goal = more q rest

  -- what the choices of these components make, if none of them makes the goal wide
  pub between_made :
      (a e : ℕ) (Chosen : Choice → Type 0) (rs : List (Rule Paths))
      → ((c : Choice) → Chosen c ↔ (IsChoice l goal c × (a ≤ c.component) × (c.component < e)))
      → ((x : ℕ) → a ≤ x → x < e → IsWideBy l x goal → ⊥) → AreMade l Chosen rs → Between l goal a e rs
  between_made a e Chosen rs f narrow h = record {
    choices = h.choices;
    chosen = record {
      in_order = h.chosen.in_order;
      exactly = (λ c. (
        (λ m. let u = (f c).0 ((h.chosen.exactly c).0 m) in (u.0, u.1, inl u.2)),
        (λ u. (h.chosen.exactly c).1 ((f c).1 (u.0, u.1, before_end e c.component c.places u.2))),
      ));
    };
    candidates = h.candidates;
    made = with_nothing l goal h.choices h.candidates h.made;
    first_ones = h.first_ones;
    fit = (λ c m t.
        let u = (f c).0 ((h.chosen.exactly c).0 (is_there l goal h.choices c m)) in
        narrow c.component u.1 u.2 (by_size c refl t));
    narrow = (λ y n i j m. narrow y i (before_end e y n j) (by_covers n m));
  }

  -- what one component makes
  pub between_by : (x : ℕ) (rs : List (Rule Paths)) → (IsWideBy l x goal → ⊥) → IsRulesBy l x goal rs → Between l goal x (x + 1) rs
  between_by x rs narrow h =
      between_made x (x + 1) (IsChoiceBy l x goal) rs one (λ y i j w. narrow (subst (λ z. IsWideBy l z goal) (only y i j) w)) h
    where
      only : (y : ℕ) → x ≤ y → y < x + 1 → y ≡ x
      only y i j = omega arith

      one : (c : Choice) → IsChoiceBy l x goal c ↔ (IsChoice l goal c × (x ≤ c.component) × (c.component < x + 1))
      one c = (
        (λ u. let s : c.component ≡ x = u.1 in (u.0, omega arith, omega arith)),
        (λ u. (u.0, only c.component u.1 u.2)),
      )

  -- what all of them make
  pub between_all : (rs : List (Rule Paths)) → (IsWide l goal → ⊥) → IsRules l goal rs → Between l goal 0 (length l.components) rs
  between_all rs narrow h =
      between_made 0 (length l.components) (IsChoice l goal) rs (λ c. ((λ u. (u, omega arith, u.declared)), (λ u. u.0)))
      (λ y i j w. narrow (record { component = y; declared = j; wide = w })) h

-- the rules of the program that have the component are those of the definition
with_component :
    (x : ℕ) (rs : List (Rule (List TypePath)))
    → map rule_of (rules_with x (arguments_by x rs)) ≡ filter (has_component x) (map rule_of rs)
with_component x [] = refl
with_component x (Head y args ∷ rs) = by (with_component x rs) (x == y) refl
  where
    by : map rule_of (rules_with x (arguments_by x rs)) ≡ filter (has_component x) (map rule_of rs)
        → (b : Bool) → (x == y) ≡ b
        → map rule_of (rules_with x (cond b (args ∷ arguments_by x rs) (arguments_by x rs)))
        ≡ cond b (Head y (map listed args) ∷ filter (has_component x) (map rule_of rs)) (filter (has_component x) (map rule_of rs))
    by h true e = let same : x ≡ y = (Decides-eqb x y).0 e in (λ i. Head (same i) (map listed args) ∷ h i)
    by h false e = h
with_component x (Any left right ∷ rs) = with_component x rs

-- rules that all have the component
all_with :
    (x : ℕ) (rs : List (Rule (List TypePath))) → ((r : Rule (List TypePath)) → Contains rs r → has_component x r ≡ true)
    → rs ≡ rules_with x (arguments_by x rs)
all_with x [] f = refl
all_with x (Head y args ∷ rs) f =
    let rest = all_with x rs (λ r m. f r (Contains-later r (Head y args) rs m)) in
    by rest (x == y) (f (Head y args) (Contains-here (Head y args) rs)) refl
  where
    by : rs ≡ rules_with x (arguments_by x rs) → (b : Bool) → b ≡ true → (x == y) ≡ b
        → Head y args ∷ rs ≡ rules_with x (cond b (args ∷ arguments_by x rs) (arguments_by x rs))
    by h true e s = let same : x ≡ y = (Decides-eqb x y).0 s in (λ i. Head (sym same i) args ∷ h i)
    by h false e s = cc
all_with x (Any left right ∷ rs) f =
    absurd (let e : false ≡ true = f (Any left right) (Contains-here (Any left right) rs) in cc)

same_component : (x : ℕ) (r : Rule (List TypePath)) → has_component x (rule_of r) ≡ has_component x r
same_component x (Head y args) = refl
same_component x (Any left right) = refl

pub rules_have_their_component : RulesHaveTheirComponent
rules_have_their_component l x goal rs h =
    all_with x rs (λ r m. sym (same_component x r) ∙ has (listed goal) h.1 (rule_of r) (Contains-map rule_of rs r m))
  where
    has : (g : Paths) → IsRulesBy l x g (map rule_of rs) → (r : Rule Paths) → Contains (map rule_of rs) r → has_component x r ≡ true
    has none e r m = elim (Contains-cases (Head x []) [] r (subst (λ (qs : List (Rule Paths)). Contains qs r) e m)) [
      | inl s ↦ ap (has_component x) s ∙ (Decides-eqb x x).1 refl
      | inr k ↦ absurd (Contains-nil r k)
    ]
    has (more q n) k r m =
        let u = zip_right r (all_zip k.choices k.candidates k.made) (contains_member k.candidates r (first_ones_from r k.first_ones m)) in
        let s = ((k.chosen.exactly u.0).0 (member_contains u.1)).1 in
        ap (has_component x) u.2.rule ∙ (Decides-eqb x u.0.component).1 (sym s)

-- the rules of omega from component y on that have component x
abbrev of_omega : ℕ → ℕ → ℕ → List (Rule Paths)
of_omega x y k = filter (has_component x) (heads (numbers_from y k) ++ Any none none ∷ [])

none_from : (x y k : ℕ) → x < y → of_omega x y k ≡ []
none_from x y zero low = refl
none_from x y (suc k) low = by (none_from x (suc y) k (omega arith)) (x == y) refl
  where
    by : of_omega x (suc y) k ≡ [] → (b : Bool) → (x == y) ≡ b
        → cond b (Head y [] ∷ of_omega x (suc y) k) (of_omega x (suc y) k) ≡ []
    by h true e = let same : x ≡ y = (Decides-eqb x y).0 e in absurd (omega arith)
    by h false e = h

one_from : (x y k : ℕ) → y ≤ x → x < y + k → of_omega x y k ≡ Head x [] ∷ []
one_from x y zero low high = absurd (omega arith)
one_from x y (suc k) low high = by (λ i. one_from x (suc y) k i (omega arith)) (x == y) refl
  where
    later : (x ≡ y → ⊥) → suc y ≤ x
    later n = grind arith

    by : (suc y ≤ x → of_omega x (suc y) k ≡ Head x [] ∷ []) → (b : Bool) → (x == y) ≡ b
        → cond b (Head y [] ∷ of_omega x (suc y) k) (of_omega x (suc y) k) ≡ Head x [] ∷ []
    by h true e =
        let same : x ≡ y = (Decides-eqb x y).0 e in
        (λ i. Head (sym same i) [] ∷ none_from x (suc y) k (omega arith) i)
    by h false e = h (later (λ same. let t : true ≡ false = sym ((Decides-eqb x y).1 same) ∙ e in cc))

pub rules_are_by_components : RulesAreByComponents
rules_are_by_components l [] rs h x d = (
  (λ w. elim w [ ]),
  with_component x rs
      ∙ (ap (filter (has_component x)) h.1 ∙ one_from x 0 (length l.components) (omega arith) (omega arith)),
)
rules_are_by_components l (q ∷ rest) rs h x d =
    let goal = more q (listed rest) in
    let part = filter (has_component x) (map rule_of rs) in
    let all = between_all l q (listed rest) (map rule_of rs) h.0 h.1 in
    let one = begun_by l q (listed rest) x part (between_part l goal 0 (length l.components) x (map rule_of rs) (omega arith) d all) in
    (one.0, subst (λ (qs : List (Rule Paths)). IsRulesBy l x goal qs) (sym (with_component x rs)) one.1)

module _ (l : Library) (q : TypePath) (rest : List TypePath) where
  abbrev path_goal : Paths
  path_goal = more q (listed rest)

  -- component x makes the rules with these arguments
  abbrev Makes : ℕ → List (List (List TypePath)) → Type 0
  Makes x lists = IsAnswerBy l x (q ∷ rest) (Rules (rules_with x lists))

  -- what the components from one on make, put together
  pub between_joined :
      (a : ℕ) (lists : List (List (List (List TypePath)))) → ((i : ℕ) → i < length lists → Makes (a + i) (slice_index_or lists i []))
      → Between l path_goal a (a + length lists) (map rule_of (rules_joined a lists))
  between_joined a [] f =
      subst (λ e. Between l path_goal a e []) (let s : a ≡ a + 0 = omega arith in s) (begun_none l path_goal a)
  between_joined a (one ∷ lists) f =
      let here : Makes a one = subst (λ y. Makes y one) (let s : a + 0 ≡ a = omega arith in s) (f 0 (omega arith)) in
      let first = between_by l q (listed rest) a (map rule_of (rules_with a one)) here.0 here.1 in
      let later = λ (i : ℕ) (m : i < length lists). subst (λ y. Makes y (slice_index_or lists i [])) (next a i) (f (suc i) (omega arith)) in
      let others = between_joined (a + 1) lists later in
      let end = a + 1 + length lists in
      let rs = map rule_of (rules_with a one) in
      let qs = map rule_of (rules_joined (a + 1) lists) in
      let both = between_append l path_goal a (a + 1) end rs qs (omega arith) (omega arith) first others in
      let whole = map-append rule_of (rules_with a one) (rules_joined (a + 1) lists) in
      subst (λ e. Between l path_goal a e (map rule_of (rules_joined a (one ∷ lists)))) (sym (next a (length lists)))
      (subst (λ (ps : List (Rule Paths)). Between l path_goal a end ps) (sym whole) both)
    where
      next : (a i : ℕ) → a + suc i ≡ a + 1 + i
      next a i = omega arith

pub components_make_the_rules : ComponentsMakeTheRules
components_make_the_rules l [] lists path same f = absurd (omega arith)
components_make_the_rules l (q ∷ rest) lists path same f =
    let all = between_joined l q rest 0 lists each in
    let rules = map rule_of (rules_joined 0 lists) in
    begun_rules l q (listed rest) rules (subst (λ e. Between l (more q (listed rest)) 0 e rules) (from_none (length lists) ∙ same) all)
  where
    from_none : (i : ℕ) → 0 + i ≡ i
    from_none i = omega arith

    each : (i : ℕ) → i < length lists → Makes l q rest (0 + i) (slice_index_or lists i [])
    each i m = subst (λ y. Makes l q rest y (slice_index_or lists i [])) (sym (from_none i)) (f i (omega arith))
