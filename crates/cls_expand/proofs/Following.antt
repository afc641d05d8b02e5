-- Components with the same paths, in libraries with one order of names, make the same rules but for their numbers.
use Rattle.std.proofs.Common.{ℕ, ◌≡◌, ◌<◌, ◌≤◌, refl, sym, ◌∙◌, subst, ap, inl, inr, List, [], ◌∷◌, length, arith, Contains, Some}
use Rattle.std.specs.Prelude.{◌↔◌, map, slice_get}
use Rattle.std.specs.List.{AllZip}
use Rattle.cls_base.specs.Limits.{max_covers}
use Rattle.cls_base.specs.declared.rule.Rule.{Rule}
use Rattle.cls_base.specs.declared.rule.Rule.TheVariants.{Head, Any}
use Rattle.cls_base.proofs.Lists.{Contains-nil, Contains-here, Contains-later, Contains-map}
use Rattle.cls_taxon.specs.Orders.{Declared}
use Rattle.cls_path.specs.Paths.{TypePath, Paths, none, more, listed}
use Rattle.cls_cover.specs.Lists.{Rises}
use Rattle.cls_cover.specs.Covers.{IsMinimal, HasMore}
use Rattle.cls_cover.proofs.Lists.{contains_member, member_contains}
use Rattle.cls_core.specs.declared.answer.Answer.TheVariants.{Rules, Wide}
use Rattle.cls_library.specs.Arrows.{MultiArrow, arity_of, arrows_of}
use Rattle.cls_library.specs.Libraries.{Component, Library, paths_at}
use Rattle.cls_library.specs.Reaching.{CoversGoal, IsReduced, columns}
use Rattle.cls_library.specs.Rules.{Choice, ComesBefore, AreChoices, IsChoiceBy, IsRuleFor, IsRulesBy, IsTooLarge, HasManyCovers, IsWideBy, by_covers, by_size, arrows_for}
use Rattle.cls_library.proofs.ByCases.{all_zip, zip_all, zip_map, zip_right}
use Rattle.cls_expand.specs.Answers.{rule_of, IsAnswerBy}
use Rattle.cls_expand.specs.ByComponent.{rules_with}
use Rattle.cls_expand.specs.Laws.{AnswersFollowPaths}
use Rattle.cls_expand.specs.Making.{choice_at}
use Rattle.cls_expand.proofs.FirstOnes.{first_ones_map}
use Rattle.cls_expand.proofs.Making.{in_mapped}

-- the rule with another component
abbrev renamed : ℕ → Rule Paths → Rule Paths
renamed y (Head x args) = Head y args
renamed y (Any left right) = Any left right

-- the choice with another component
abbrev moved : ℕ → Choice → Choice
moved y c = choice_at y c.places c.cover

rules_renamed :
    (x y : ℕ) (lists : List (List (List TypePath)))
    → map (renamed y) (map rule_of (rules_with x lists)) ≡ map rule_of (rules_with y lists)
rules_renamed x y [] = refl
rules_renamed x y (args ∷ lists) = ap (λ (rs : List (Rule Paths)). Head y (map listed args) ∷ rs) (rules_renamed x y lists)

abbrev library_of : Declared → List Component → Library
library_of d cs = record { taxonomy = d; components = cs }

-- component x of the first components has the paths of component y of the second
abbrev SamePaths : Declared → List Component → List Component → ℕ → ℕ → Type 0
SamePaths d cs ds x y = paths_at (library_of d cs) x ≡ paths_at (library_of d ds) y

-- what the one component makes, the other makes
module _ (d : Declared) (cs ds : List Component) (x y : ℕ) (there : y < length ds) (same : SamePaths d cs ds x y) where
  abbrev k : Library
  k = library_of d cs

  abbrev l : Library
  l = library_of d ds

  paths_same : (c : Choice) → c.component ≡ x → paths_at k c.component ≡ paths_at l y
  paths_same c e = ap (paths_at k) e ∙ same

  arrows_same : (c : Choice) → c.component ≡ x → arrows_for k c ≡ arrows_for l (moved y c)
  arrows_same c e = ap (arrows_of c.places) (paths_same c e)

  choice_moved : (goal : Paths) (c : Choice) → IsChoiceBy k x goal c → IsChoiceBy l y goal (moved y c)
  choice_moved goal c h = (
    record {
      declared = there;
      within = subst (λ (n : Paths). c.places ≤ arity_of n) (paths_same c h.1) h.0.within;
      minimal = subst (λ (arrows : List MultiArrow). IsMinimal (CoversGoal k arrows goal) c.cover) (arrows_same c h.1) h.0.minimal;
    },
    refl,
  )

  reduced_same : (n m : Paths) → IsReduced k n m → IsReduced l n m
  reduced_same n m h = record { normal = h.normal; lower = h.lower; upper = h.upper }

  rule_moved : (c : Choice) (r : Rule Paths) → c.component ≡ x → IsRuleFor k c r → IsRuleFor l (moved y c) (renamed y r)
  rule_moved c r e h = record {
    picked = h.picked;
    picks = subst (λ (arrows : List MultiArrow). AllZip (λ i a. slice_get arrows i ≡ Some a) c.cover h.picked) (arrows_same c e) h.picks;
    arguments = h.arguments;
    reduced = zip_all (zip_map reduced_same (all_zip (columns c.places h.picked) h.arguments h.reduced));
    rule = ap (renamed y) h.rule;
  }

  large_moved : (goal : Paths) (c : Choice) → c.component ≡ x → IsTooLarge k goal c → IsTooLarge l goal (moved y c)
  unfolding rule_moved
  large_moved goal c e t = record {
    choice = (choice_moved goal c (t.choice, e)).0;
    made = renamed y t.made;
    rule = rule_moved c t.made e t.rule;
    argument = t.argument;
    place = t.place;
    unfit = t.unfit;
  }

  many_moved : (goal : Paths) (n : ℕ) → HasManyCovers k goal x n → HasManyCovers l goal y n
  many_moved goal n m = record {
    within = subst (λ (p : Paths). n ≤ arity_of p) same m.within;
    front = m.front;
    is_front = m.is_front;
    over = subst (λ (arrows : List MultiArrow). HasMore (CoversGoal k arrows m.front) max_covers) (ap (arrows_of n) same) m.over;
  }

  wide_moved : {goal : Paths} → IsWideBy k x goal → IsWideBy l y goal
  wide_moved (by_covers {q = q} {n = n} j m) = by_covers j (many_moved (more q n) j m)
  wide_moved (by_size {q = q} {n = n} c e t) = by_size (moved y c) refl (large_moved (more q n) c e t)

  order_moved : (c e : Choice) → c.component ≡ x → e.component ≡ x → ComesBefore c e → ComesBefore (moved y c) (moved y e)
  order_moved c e f g (inl h) = let i : c.component < e.component = h in absurd (omega arith)
  order_moved c e f g (inr h) = inr (refl, h.1)

  rises_moved :
      (choices : List Choice) → ((c : Choice) → Contains choices c → c.component ≡ x) → Rises ComesBefore choices
      → Rises ComesBefore (map (moved y) choices)
  rises_moved [] f r = tt
  rises_moved (c ∷ choices) f r = (
    (λ e m.
        let u = in_mapped (moved y) choices e m in
        let before = order_moved c u.0 (f c (Contains-here c choices)) (f u.0 (Contains-later u.0 c choices u.1)) (r.0 u.0 u.1) in
        subst (λ (z : Choice). ComesBefore (moved y c) z) u.2 before),
    rises_moved choices (λ e m. f e (Contains-later e c choices m)) r.1,
  )

  made_moved :
      (choices : List Choice) (rs : List (Rule Paths)) → ((c : Choice) → Contains choices c → c.component ≡ x)
      → AllZip (IsRuleFor k) choices rs → AllZip (IsRuleFor l) (map (moved y) choices) (map (renamed y) rs)
  made_moved [] [] f h = tt
  made_moved [] (r ∷ rs) f h = absurd h
  made_moved (c ∷ choices) [] f h = absurd h
  made_moved (c ∷ choices) (r ∷ rs) f h = (
    rule_moved c r (f c (Contains-here c choices)) h.0,
    made_moved choices rs (λ e m. f e (Contains-later e c choices m)) h.1,
  )

  choices_moved :
      (goal : Paths) (choices : List Choice) → ((c : Choice) → IsChoiceBy l y goal c → IsChoiceBy k x goal (moved x c))
      → AreChoices k (IsChoiceBy k x goal) choices → AreChoices l (IsChoiceBy l y goal) (map (moved y) choices)
  choices_moved goal choices f h = record {
    in_order = rises_moved choices (λ c m. ((h.exactly c).0 m).1) h.in_order;
    exactly = (λ c. (
      (λ m.
          let u = in_mapped (moved y) choices c m in
          subst (λ (z : Choice). IsChoiceBy l y goal z) u.2 (choice_moved goal u.0 ((h.exactly u.0).0 u.1))),
      (λ i.
          let m = Contains-map (moved y) choices (moved x c) ((h.exactly (moved x c)).1 (f c i)) in
          subst (λ (z : Choice). Contains (map (moved y) choices) z) (back c i.1) m),
    ));
  }
    where
      back : (c : Choice) → c.component ≡ y → moved y c ≡ c
      back c e = (λ i. record { component = sym e i; places = c.places; cover = c.cover })

  -- a rule of the component has its name back
  named_back : (c : Choice) (r : Rule Paths) → c.component ≡ x → IsRuleFor k c r → renamed x (renamed y r) ≡ r
  named_back c r e h = ap (λ (z : Rule Paths). renamed x (renamed y z)) h.rule ∙ (ap (λ z. Head z h.arguments) (sym e) ∙ sym h.rule)

  rules_moved :
      (goal : Paths) (rs : List (Rule Paths)) → ((c : Choice) → IsChoiceBy l y goal c → IsChoiceBy k x goal (moved x c))
      → IsRulesBy k x goal rs → IsRulesBy l y goal (map (renamed y) rs)
  rules_moved none rs f h = ap (map (renamed y)) h
  rules_moved (more q n) rs f h = record {
    choices = map (moved y) h.choices;
    candidates = map (renamed y) h.candidates;
    chosen = choices_moved (more q n) h.choices f h.chosen;
    made = made_moved h.choices h.candidates by h.made;
    first_ones = first_ones_map (renamed y) (renamed x) h.first_ones (λ r m. absurd (Contains-nil r m)) is_back;
  }
    where
      by : (c : Choice) → Contains h.choices c → c.component ≡ x
      by c m = ((h.chosen.exactly c).0 m).1

      is_back : (r : Rule Paths) → Contains h.candidates r → renamed x (renamed y r) ≡ r
      is_back r m =
          let u = zip_right r (all_zip h.choices h.candidates h.made) (contains_member h.candidates r m) in
          named_back u.0 r (by u.0 (member_contains u.1)) u.2

-- component x makes the rules with these arguments for the goal
abbrev Makes : Library → ℕ → List TypePath → List (List (List TypePath)) → Type 0
Makes lib x goal lists = IsAnswerBy lib x goal (Rules (rules_with x lists))

answer_moved :
    (d : Declared) (cs ds : List Component) (x y : ℕ) → x < length cs → y < length ds → SamePaths d cs ds x y
    → (goal : List TypePath) (lists : List (List (List TypePath)))
    → Makes (library_of d cs) x goal lists → Makes (library_of d ds) y goal lists
answer_moved d cs ds x y here there same goal lists h = (
  (λ w. h.0 (wide_moved d ds cs y x here (sym same) w)),
  subst (λ (rs : List (Rule Paths)). IsRulesBy (library_of d ds) y (listed goal) rs) (rules_renamed x y lists)
      (rules_moved d cs ds x y there same (listed goal) (map rule_of (rules_with x lists))
      (λ c i. choice_moved d ds cs y x here (sym same) (listed goal) c i) h.1),
)

-- both ways
abbrev Follow : Library → Library → ℕ → ℕ → List TypePath → Type 0
Follow lib other x y goal =
    ((lists : List (List (List TypePath))) → Makes lib x goal lists ↔ Makes other y goal lists)
    × (IsAnswerBy lib x goal Wide ↔ IsAnswerBy other y goal Wide)

following :
    (d : Declared) (cs ds : List Component) (x y : ℕ) → x < length cs → y < length ds → SamePaths d cs ds x y
    → (goal : List TypePath) → Follow (library_of d cs) (library_of d ds) x y goal
following d cs ds x y here there same goal = (
  (λ lists. (answer_moved d cs ds x y here there same goal lists, answer_moved d ds cs y x there here (sym same) goal lists)),
  ((λ w. wide_moved d cs ds x y there same w), (λ w. wide_moved d ds cs y x here (sym same) w)),
)

pub answers_follow_paths : AnswersFollowPaths
answers_follow_paths lib other x y goal names here there same =
    let first : library_of other.taxonomy lib.components ≡ lib = (λ i. library_of (sym names i) lib.components) in
    subst (λ (m : Library). Follow m other x y goal) first
    (following other.taxonomy lib.components other.components x y here there same goal)
