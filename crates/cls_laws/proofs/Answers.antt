-- Each goal has an answer: it is wide, or it has rules. That a list of all choices isn't impossible is enough for it.
use Rattle.std.proofs.Common.{ℕ, zero, suc, ◌≡◌, ◌≤◌, ◌<◌, refl, sym, subst, ap, ◌⊎◌, inl, inr, List, [], ◌∷◌, length, arith, Contains}
use Rattle.std.specs.Prelude.{map}
use Rattle.std.specs.List.{AllZip, flat_map}
use Rattle.cls_base.specs.declared.rule.Rule.{Rule}
use Rattle.cls_base.specs.declared.rule.Rule.TheVariants.{Head, Any}
use Rattle.cls_base.proofs.Lists.{Contains-map, Contains-flat_map}
use Rattle.cls_taxon.specs.Decisions.{is_below}
use Rattle.cls_taxon.specs.DecisionLaws.{is_below-reflexive, is_below-transitive, is_below-antisymmetric, is_below-one_variance}
use Rattle.cls_path.specs.Paths.{TypePath, Paths, none, more, append, listed, type_of_paths, SuitsAll}
use Rattle.cls_path.proofs.Existence.{forms_exist}
use Rattle.cls_cover.specs.Members.{Member, first, later}
use Rattle.cls_cover.proofs.Lists.{member_contains}
use Rattle.cls_cover.proofs.Public.{ascending_members}
use Rattle.cls_core.specs.declared.answer.Answer.{Answer}
use Rattle.cls_core.specs.declared.answer.Answer.TheVariants.{Rules, Wide}
use Rattle.cls_laws.specs.Possible.{IsPossible}
use Rattle.cls_laws.proofs.Classical.{surely, then, after, either_way, partners}
use Rattle.cls_cert.specs.Subsets.{subs, numbers_have, subs_have, AreWithin, within_sub}
use Rattle.cls_laws.proofs.Positions.{minimal_below}
use Rattle.cls_laws.proofs.Sorting.{sorted}
use Rattle.cls_library.specs.Arrows.{MultiArrow, arity_of}
use Rattle.cls_library.specs.Libraries.{Library, IsLibrary, variances_in, paths_at, arrows_at}
use Rattle.cls_library.specs.Reaching.{IsReduced, no_sources, zip_append, columns}
use Rattle.cls_library.specs.Rules.{Choice, code_of_choice, numbers_from, omega_rules, FirstOnes, no_more, fresh, again, IsChoice, IsRuleFor, IsRules, IsWide}
use Rattle.cls_expand.specs.Answers.{rule_of, IsAnswer}
use Rattle.cls_laws.specs.Existence.{AnswersExist}
use Rattle.cls_expand.specs.Listing.{unlisted}
use Rattle.cls_expand.specs.Making.{choice_at, picked_of}
use Rattle.cls_expand.proofs.Sources.{AreArrows, picked_arrows, library_arrows, reduced_from, rule_made}

module _ (l : Library) where
  -- ALL CHOICES, WHATEVER THEY COVER
  abbrev all_covers : ℕ → ℕ → List Choice
  all_covers x n = map (choice_at x n) (subs (numbers_from 0 (length (arrows_at l x n))))

  abbrev all_places : ℕ → List Choice
  all_places x = flat_map (all_covers x) (numbers_from 0 (suc (arity_of (paths_at l x))))

  abbrev all_choices : List Choice
  all_choices = flat_map all_places (numbers_from 0 (length l.components))

  choice_among : (goal : Paths) (c : Choice) → IsChoice l goal c → Contains all_choices c
  choice_among goal c h =
      let x = c.component in
      let n = c.places in
      let count = length (arrows_at l x n) in
      let within : AreWithin 0 count c.cover = λ y m. (let j : y < length (arrows_at l x n) = minimal_below l (arrows_at l x n) goal c.cover h.minimal y (member_contains m) in (omega arith, omega arith)) in
      let s = within_sub count 0 c.cover (ascending_members c.cover h.minimal.ascending) within in
      let cover : Contains (all_covers x n) c = Contains-map (choice_at x n) (subs (numbers_from 0 count)) c.cover (member_contains (subs_have s)) in
      let place = Contains-flat_map (all_covers x) (numbers_from 0 (suc (arity_of (paths_at l x)))) n c (member_contains (numbers_have (suc (arity_of (paths_at l x))) 0 n (omega arith) (let w : n ≤ arity_of (paths_at l x) = h.within in omega arith))) cover in
      Contains-flat_map all_places (numbers_from 0 (length l.components)) x c (member_contains (numbers_have (length l.components) 0 x (omega arith) (let d : x < length l.components = h.declared in omega arith))) place

-- CHOICES BY THEIR CODES
abbrev choice_of : List ℕ → Choice
choice_of [] = choice_at 0 0 []
choice_of (x ∷ []) = choice_at x 0 []
choice_of (x ∷ n ∷ s) = choice_at x n s

same_choice : (c d : Choice) → code_of_choice c ≡ code_of_choice d → c ≡ d
same_choice c d e = ap choice_of e

-- WHAT STANDS FOR THE FIRST TIME
module _ {A : Type 0} where
  abbrev HasFirstOnes : List A → List A → Type 0
  HasFirstOnes seen xs = (ys : List A) × FirstOnes seen xs ys

  first_by : (seen xs : List A) (x : A) → IsPossible (HasFirstOnes seen xs) → IsPossible (HasFirstOnes (x ∷ seen) xs)
      → Contains seen x ⊎ (Contains seen x → ⊥) → IsPossible (HasFirstOnes seen (x ∷ xs))
  first_by seen xs x old new (inl m) = after old (λ r. (r.0, again m r.1))
  first_by seen xs x old new (inr n) = after new (λ r. (x ∷ r.0, fresh n r.1))

  first_ones : (seen xs : List A) → IsPossible (HasFirstOnes seen xs)
  first_ones seen [] = surely ([], no_more)
  first_ones seen (x ∷ xs) = then (either_way (Contains seen x)) (first_by seen xs x (first_ones seen xs) (first_ones (x ∷ seen) xs))

-- FROM A RULE OF THE DEFINITION TO ONE OF THE PROGRAM
pub listed_back : (n : Paths) → listed (unlisted n) ≡ n
listed_back none = refl
listed_back (more p n) = ap (more p) (listed_back n)

lists_back : (ns : List Paths) → map listed (map unlisted ns) ≡ ns
lists_back [] = refl
lists_back (n ∷ ns) = (λ i. listed_back n i ∷ lists_back ns i)

abbrev coded : Rule Paths → Rule (List TypePath)
coded (Head x ns) = Head x (map unlisted ns)
coded (Any n m) = Any (unlisted n) (unlisted m)

coded_back : (r : Rule Paths) → rule_of (coded r) ≡ r
coded_back (Head x ns) = ap (Head x) (lists_back ns)
coded_back (Any n m) = (λ i. Any (listed_back n i) (listed_back m i))

codes_back : (rs : List (Rule Paths)) → map rule_of (map coded rs) ≡ rs
codes_back [] = refl
codes_back (r ∷ rs) = (λ i. coded_back r i ∷ codes_back rs i)

-- THE RULE OF A CHOICE
module _ (l : Library) (law : IsLibrary l) where
  reduced : (m : Paths) → SuitsAll (variances_in l.taxonomy) m → (n : Paths) × IsReduced l m n
  reduced m s =
      let d = l.taxonomy in
      let h = forms_exist (is_below d) (variances_in d) (record { reflexive = λ c. is_below-reflexive d c; transitive = λ a b c p q. is_below-transitive d a b c p q; antisymmetric = λ a b p q. is_below-antisymmetric d a b p q }) (λ a b p. is_below-one_variance d a b p) (type_of_paths m) in
      (h.0, reduced_from l m h.0 s h.1)

  all_reduced : (ms : List Paths) → ((m : Paths) → Member ms m → SuitsAll (variances_in l.taxonomy) m) → (ns : List Paths) × AllZip (IsReduced l) ms ns
  all_reduced [] f = ([], tt)
  all_reduced (m ∷ ms) f =
      let n = reduced m (f m first) in
      let r = all_reduced ms (λ k i. f k (later i)) in
      (n.0 ∷ r.0, (n.1, r.1))

  none_suits : (n : ℕ) (m : Paths) → Member (no_sources n) m → SuitsAll (variances_in l.taxonomy) m
  none_suits zero m i = elim i [ ]
  none_suits (suc n) _ first = tt
  none_suits (suc n) m (later i) = none_suits n m i

  both_suit : (n m : Paths) → SuitsAll (variances_in l.taxonomy) n → SuitsAll (variances_in l.taxonomy) m → SuitsAll (variances_in l.taxonomy) (append n m)
  both_suit none m h k = k
  both_suit (more p n) m h k = (h.0, both_suit n m h.1 k)

  zip_suits : (ns ms : List Paths) → ((k : Paths) → Member ns k → SuitsAll (variances_in l.taxonomy) k) → ((k : Paths) → Member ms k → SuitsAll (variances_in l.taxonomy) k)
      → (m : Paths) → Member (zip_append ns ms) m → SuitsAll (variances_in l.taxonomy) m
  zip_suits [] ms f g m i = elim i [ ]
  zip_suits (n ∷ ns) [] f g m i = elim i [ ]
  zip_suits (n ∷ ns) (k ∷ ms) f g _ first = both_suit n k (f n first) (g k first)
  zip_suits (n ∷ ns) (k ∷ ms) f g m (later i) = zip_suits ns ms (λ j u. f j (later u)) (λ j u. g j (later u)) m i

  columns_suit : (n : ℕ) (arrows : List MultiArrow) → ((a : MultiArrow) → Member arrows a → (m : Paths) → Member a.sources m → SuitsAll (variances_in l.taxonomy) m)
      → (m : Paths) → Member (columns n arrows) m → SuitsAll (variances_in l.taxonomy) m
  columns_suit n [] f m i = none_suits n m i
  columns_suit n (a ∷ rest) f m i = zip_suits a.sources (columns n rest) (f a first) (columns_suit n rest (λ b j. f b (later j))) m i

  choice_rule : (goal : Paths) (c : Choice) → IsChoice l goal c → (r : Rule Paths) × IsRuleFor l c r
  choice_rule goal c h =
      let x = c.component in
      let n = c.places in
      let below : (i : ℕ) → Contains c.cover i → i < length (arrows_at l x n) = minimal_below l (arrows_at l x n) goal c.cover h.minimal in
      let a : AreArrows l n (picked_of (arrows_at l x n) c.cover) = picked_arrows l n (arrows_at l x n) c.cover (λ i m. below i (member_contains m)) (library_arrows l law x n) in
      let args = all_reduced (columns n (picked_of (arrows_at l x n) c.cover)) (columns_suit n (picked_of (arrows_at l x n) c.cover) a.suits) in
      (Head x args.0, rule_made l law x n c.cover below args.0 args.1)

  -- THE RULES OF A GOAL
  rules_exist : (g : Paths) → IsPossible ((rs : List (Rule Paths)) × IsRules l g rs)
  rules_exist none = surely (omega_rules (length l.components), refl)
  rules_exist (more q n) =
      then (sorted code_of_choice same_choice (IsChoice l (more q n)) (all_choices l)) (λ cs.
      then (partners (IsRuleFor l) cs.0 (λ c m. surely (choice_rule (more q n) c ((cs.2 c).0 m).1))) (λ rs.
      after (first_ones [] rs.0) (λ f. (
        f.0,
        record {
          choices = cs.0;
          candidates = rs.0;
          chosen = record { in_order = cs.1; exactly = λ c. ((λ m. ((cs.2 c).0 m).1), (λ h. (cs.2 c).1 (choice_among l (more q n) c h, h))) };
          made = rs.1;
          first_ones = f.1;
        },
      ))))

  answer_by : (goal : List TypePath) → IsWide l (listed goal) ⊎ (IsWide l (listed goal) → ⊥) → IsPossible ((a : Answer (List TypePath)) × IsAnswer l goal a)
  answer_by goal (inl w) = surely (Wide, w)
  answer_by goal (inr n) = after (rules_exist (listed goal)) (λ r. (Rules (map coded r.0), (n, subst (λ (rs : List (Rule Paths)). IsRules l (listed goal) rs) (sym (codes_back r.0)) r.1)))

pub answers_exist : AnswersExist
answers_exist l law goal = then (either_way (IsWide l (listed goal))) (answer_by l law goal)
