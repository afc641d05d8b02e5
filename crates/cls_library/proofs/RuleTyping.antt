-- A spine has a goal if and only if some rule of the goal has its Head and its arguments.
use Rattle.std.proofs.Common.{ℕ, zero, suc, ◌≡◌, ◌<◌, refl, sym, ◌∙◌, subst, ap, inl, inr, List, [], ◌∷◌, length, arith}
use Rattle.cls_base.specs.Terms.{Applicative, component}
use Rattle.cls_base.specs.Spines.{spine}
use Rattle.cls_base.specs.declared.rule.Rule.{Rule}
use Rattle.cls_base.specs.declared.rule.Rule.TheVariants.{Head}
use Rattle.cls_path.specs.Paths.{TypePath, Paths, append, InPaths, Suits, SuitsAll}
use Rattle.cls_path.proofs.Completeness.{in_append, in_append_left, in_append_right, suits_in}
use Rattle.cls_cover.specs.Members.{Member, first, later}
use Rattle.cls_cover.proofs.Lists.{contains_member}
use Rattle.cls_library.specs.Arrows.{MultiArrow, arrows_of}
use Rattle.cls_library.specs.Libraries.{Library, IsLibrary, below_in, variances_in, paths_at, arrows_at}
use Rattle.cls_library.specs.Reaching.{PathLeIn, no_sources, zip_append, columns, IsReduced}
use Rattle.cls_library.specs.Rules.{Choice, arrows_for, IsChoice, IsRuleFor}
use Rattle.cls_library.proofs.ByCases.{At, got_at, some_at, at_unique, Zip, zip_none, zip_more, zip_map, all_zip, zip_length, zip_left, zip_right}
use Rattle.cls_library.proofs.PathTyping.{all_up}
use Rattle.cls_library.proofs.PathLemma.{IsSatisfied, path_lemma, from_sources, arrow_from, arrow_within}
use Rattle.cls_library.proofs.LibraryTyping as typing
use Rattle.cls_library.proofs.LibraryTyping.{reflexive, transitive, suited}
use Rattle.cls_library.proofs.Covering.{Lead, choose_minimal}

none_length : (n : ℕ) → length (no_sources n) ≡ n
none_length zero = refl
none_length (suc n) = ap suc (none_length n)

append_length : (ns ms : List Paths) (n : ℕ) → length ns ≡ n → length ms ≡ n → length (zip_append ns ms) ≡ n
append_length [] ms n h k = h
append_length (x ∷ ns) [] n h k = let e : suc (length ns) ≡ 0 = h ∙ sym k in absurd (omega arith)
append_length (x ∷ ns) (y ∷ ms) zero h k = let e : suc (length ns) ≡ 0 = h in absurd (omega arith)
append_length (x ∷ ns) (y ∷ ms) (suc n) h k = ap suc (append_length ns ms n (let e : suc (length ns) ≡ suc n = h in omega arith) (let e : suc (length ms) ≡ suc n = k in omega arith))

pub columns_length : (n : ℕ) (arrows : List MultiArrow) → ((a : MultiArrow) → Member arrows a → length a.sources ≡ n) → length (columns n arrows) ≡ n
columns_length n [] f = none_length n
columns_length n (a ∷ rest) f = append_length a.sources (columns n rest) n (f a first) (columns_length n rest (λ b m. f b (later m)))

-- the arrows at the positions
pub picked_from : {s : List ℕ} {picked : List MultiArrow} (k : ℕ) (n : Paths) → Zip (At (arrows_of k n)) s picked → (a : MultiArrow) → Member picked a → length a.sources ≡ k
picked_from k n z a m = let r = zip_right a z m in (arrow_from k n r.0 a r.2).1

module _ (lib : Library) (law : IsLibrary lib) where
  abbrev All : Applicative → Paths → Type 0
  All e n = typing.All lib law e n

  abbrev Each : List Applicative → List Paths → Type 0
  Each es ns = Zip (typing.All lib law) es ns

  all_append : (e : Applicative) (n m : Paths) → All e n → All e m → All e (append n m)
  all_append e n m h k q i = elim (in_append q n m i) [ inl j ↦ h q j | inr j ↦ k q j ]

  have_append : {es : List Applicative} {ns ms : List Paths} → Each es ns → Each es ms → Each es (zip_append ns ms)
  have_append zip_none k = zip_none
  have_append (zip_more {x = e} {y = n} h z) (zip_more {y = m} k w) = zip_more (all_append e n m h k) (have_append z w)

  append_have : (es : List Applicative) (ns ms : List Paths) → length ns ≡ length ms → Each es (zip_append ns ms) → Each es ns × Each es ms
  append_have es [] [] e z = (z, z)
  append_have es [] (y ∷ ms) e z = let k : 0 ≡ suc (length ms) = e in absurd (omega arith)
  append_have es (x ∷ ns) [] e z = let k : suc (length ns) ≡ 0 = e in absurd (omega arith)
  append_have _ (x ∷ ns) (y ∷ ms) e (zip_more h z) =
      let k : suc (length ns) ≡ suc (length ms) = e in
      let r = append_have _ ns ms (omega arith) z in
      (zip_more (λ q i. h q (in_append_left q x y i)) r.0, zip_more (λ q i. h q (in_append_right q x y i)) r.1)

  have_none : (es : List Applicative) → Each es (no_sources (length es))
  have_none [] = zip_none
  have_none (e ∷ es) = zip_more (λ q i. elim i [ ]) (have_none es)

  pub have_columns : (es : List Applicative) (arrows : List MultiArrow) → ((a : MultiArrow) → Member arrows a → Each es a.sources) → Each es (columns (length es) arrows)
  have_columns es [] f = have_none es
  have_columns es (a ∷ rest) f = have_append (f a first) (have_columns es rest (λ b m. f b (later m)))

  pub columns_have : (n : ℕ) (es : List Applicative) (arrows : List MultiArrow) → ((a : MultiArrow) → Member arrows a → length a.sources ≡ n) → Each es (columns n arrows) → (a : MultiArrow) → Member arrows a → Each es a.sources
  columns_have n es [] f z a m = elim m [ ]
  columns_have n es (b ∷ rest) f z a m =
      let r = append_have es b.sources (columns n rest) (f b first ∙ sym (columns_length n rest (λ d k. f d (later k)))) z in
      here a m r.0 (λ d k. columns_have n es rest (λ c u. f c (later u)) r.1 d k)
    where
      here : (a : MultiArrow) → Member (b ∷ rest) a → Each es b.sources → ((d : MultiArrow) → Member rest d → Each es d.sources) → Each es a.sources
      here _ first h k = h
      here a (later m) h k = k a m

  -- a rule's arrows and arguments, over which proofs go by cases
  pub picks_of : (c : Choice) (r : Rule Paths) (rule : IsRuleFor lib c r) → Zip (At (arrows_for lib c)) c.cover rule.picked
  picks_of c r rule = zip_map (λ i a e. got_at (arrows_for lib c) i a e) (all_zip c.cover rule.picked rule.picks)

  pub reduced_of : (c : Choice) (r : Rule Paths) (rule : IsRuleFor lib c r) → Zip (IsReduced lib) (columns c.places rule.picked) rule.arguments
  reduced_of c r rule = all_zip (columns c.places rule.picked) rule.arguments rule.reduced

  have_reduced : {es : List Applicative} {ms : List Paths} {ns : List Paths} → Each es ms → Zip (IsReduced lib) ms ns → Each es ns
  have_reduced zip_none z = z_none z
    where
      z_none : {ns : List Paths} → Zip (IsReduced lib) [] ns → Each [] ns
      z_none zip_none = zip_none
  have_reduced (zip_more {x = e} {y = m} h z) (zip_more {y = n} k w) = zip_more (all_up (below_in lib.taxonomy) (variances_in lib.taxonomy) (reflexive lib law) (transitive lib law) (length lib.components) (paths_at lib) (suited lib law) e m n h k.upper) (have_reduced z w)

  reduced_have : {es : List Applicative} {ms ns : List Paths} → Each es ns → Zip (IsReduced lib) ms ns → Each es ms
  reduced_have z zip_none = z
  reduced_have (zip_more {x = e} h z) (zip_more {x = m} {y = n} k w) = zip_more (all_up (below_in lib.taxonomy) (variances_in lib.taxonomy) (reflexive lib law) (transitive lib law) (length lib.components) (paths_at lib) (suited lib law) e n m h k.lower) (reduced_have z w)

  -- the arguments of a rule give the goal
  pub rule_reaches : (g : Paths) (c : Choice) (r : Rule Paths) (x : ℕ) (ns : List Paths) (es : List Applicative) → IsChoice lib g c → IsRuleFor lib c r → r ≡ Head x ns → Each es ns → All (spine (component x) es) g
  rule_reaches g c r x ns es choice rule e z q i =
      let same : ◌≡◌ {A = Rule Paths} (Head c.component rule.arguments) (Head x ns) = sym rule.rule ∙ e in
      let same_component : c.component ≡ x = cc in
      let same_arguments : rule.arguments ≡ ns = cc in
      let columned = reduced_have (subst (λ ms. Each es ms) (sym same_arguments) z) (reduced_of c r rule) in
      let lengths = picked_from c.places (paths_at lib c.component) (picks_of c r rule) in
      let long : length es ≡ c.places = zip_length columned ∙ columns_length c.places rule.picked lengths in
      let covered = choice.minimal.covers q i in
      let leading = some_at (λ (a : MultiArrow). PathLeIn lib a.target q) (arrows_for lib c) covered.0 covered.2 in
      let cover : (j : ℕ) × (a : MultiArrow) × Member c.cover j × At (arrows_for lib c) j a × PathLeIn lib a.target q = (covered.0, leading.0, contains_member c.cover covered.0 covered.1, leading.1, leading.2) in
      let there = zip_left cover.0 (picks_of c r rule) cover.2 in
      let arrow_same = at_unique (arrows_of c.places (paths_at lib c.component)) cover.0 there.0 cover.1 there.2 cover.3 in
      let have = columns_have c.places es rule.picked lengths columned there.0 there.1 in
      (path_lemma (below_in lib.taxonomy) (variances_in lib.taxonomy) (reflexive lib law) (transitive lib law) (length lib.components) (paths_at lib) (suited lib law) x es q).1
      (cover.0, cover.1, record { at = subst (λ y. At (arrows_of (length es) (paths_at lib y)) cover.0 cover.1) same_component (subst (λ k. At (arrows_of k (paths_at lib c.component)) cover.0 cover.1) (sym long) cover.3); have = subst (λ (a : MultiArrow). Each es a.sources) arrow_same have }, cover.4)

  -- the targets of arrows suit the variances
  pub leads : (x n : ℕ) → Lead lib (arrows_at lib x n)
  leads x n i a m =
      let r = arrow_from n (paths_at lib x) i a m in
      target_suits a.sources a.target (suits_in (below_in lib.taxonomy) (variances_in lib.taxonomy) (reflexive lib law) (transitive lib law) (paths_at lib x) (from_sources a.sources a.target) (suited lib law x) r.0)
    where
      target_suits : (ns : List Paths) (p : TypePath) → Suits (variances_in lib.taxonomy) (from_sources ns p) → Suits (variances_in lib.taxonomy) p
      target_suits [] p s = s
      target_suits (m ∷ ns) p s = target_suits ns p s.1

  -- a spine that has the goal has the arguments of the rule of some choice
  pub rule_from : (g : Paths) (q₀ : TypePath) (x : ℕ) (es : List Applicative) → SuitsAll (variances_in lib.taxonomy) g → x < length lib.components → InPaths g q₀ → All (spine (component x) es) g → (c : Choice) × IsChoice lib g c × (c.component ≡ x) × ((r : Rule Paths) → IsRuleFor lib c r → (ns : List Paths) × (r ≡ Head x ns) × Each es ns)
  rule_from g q₀ x es t declared i₀ h =
      let arrows = arrows_of (length es) (paths_at lib x) in
      let met = λ (q : TypePath) (i : InPaths g q). (path_lemma (below_in lib.taxonomy) (variances_in lib.taxonomy) (reflexive lib law) (transitive lib law) (length lib.components) (paths_at lib) (suited lib law) x es q).0 (h q i) in
      let Good = λ (i : ℕ). (a : MultiArrow) × IsSatisfied (below_in lib.taxonomy) (variances_in lib.taxonomy) (reflexive lib law) (transitive lib law) (length lib.components) (paths_at lib) (suited lib law) x es i a in
      let s = choose_minimal lib arrows (leads x (length es)) Good g t (λ q i. let u = met q i in (u.0, u.1, (u.1, u.2), u.2.at, u.3)) in
      let u₀ = met q₀ i₀ in (
        record { component = x; places = length es; cover = s.0 },
        record { declared = declared; within = arrow_within (length es) (paths_at lib x) u₀.0 u₀.1 u₀.2.at; minimal = s.1 },
        refl,
        (λ r rule. (rule.arguments, rule.rule, have_reduced (have_columns es rule.picked (λ a m. satisfied s.0 s.2 rule.picked (picks_of (record { component = x; places = length es; cover = s.0 }) r rule) a m)) (reduced_of (record { component = x; places = length es; cover = s.0 }) r rule))),
      )
    where
      satisfied : (s : List ℕ) → ((i : ℕ) → Member s i → (a : MultiArrow) × IsSatisfied (below_in lib.taxonomy) (variances_in lib.taxonomy) (reflexive lib law) (transitive lib law) (length lib.components) (paths_at lib) (suited lib law) x es i a) → (picked : List MultiArrow) → Zip (At (arrows_of (length es) (paths_at lib x))) s picked → (a : MultiArrow) → Member picked a → Each es a.sources
      satisfied s f picked z a m =
          let r = zip_right a z m in
          let u = f r.0 r.1 in
          subst (λ (b : MultiArrow). Each es b.sources) (at_unique (arrows_of (length es) (paths_at lib x)) r.0 u.0 a u.1.at r.2) u.1.have
