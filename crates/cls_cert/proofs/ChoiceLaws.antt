-- A rule of a goal, and the first choice that gives it.
use Rattle.std.proofs.Common.{ℕ, zero, suc, ◌≡◌, ◌<◌, ◌≤◌, ◌↔◌, sym, ◌∙◌, subst, ap, ◌⊎◌, inl, inr, List, [], ◌∷◌, length, map, arith, Contains, Option, Some, None}
use Rattle.std.specs.Prelude.{slice_get, option_map}
use Rattle.std.proofs.lemmas.List.{length-map}
use Rattle.cls_base.specs.declared.rule.Rule.{Rule}
use Rattle.cls_base.specs.declared.rule.Rule.TheVariants.{Head, Any}
use Rattle.cls_base.specs.Languages.{rules_at}
use Rattle.cls_base.specs.Terms.{Precedes}
use Rattle.cls_base.proofs.Lists.{Contains-at, Contains-place, Contains-map}
use Rattle.cls_path.specs.Paths.{TypePath, Paths, none, more, type_of_paths}
use Rattle.cls_cover.specs.Lists.{Rises}
use Rattle.cls_cover.specs.Covers.{AreMinimal}
use Rattle.cls_cover.proofs.Lists.{contains_member, member_contains}
use Rattle.cls_core.specs.Arguments.{rules_of}
use Rattle.cls_core.specs.Rows.{Row}
use Rattle.cls_core.specs.declared.answer.Answer.{Answer}
use Rattle.cls_core.specs.declared.answer.Answer.TheVariants.{Rules}
use Rattle.cls_grammar.specs.Grammars.{book_of}
use Rattle.cls_library.specs.Arrows.{arity_of}
use Rattle.cls_library.specs.Libraries.{Library, paths_at, arrows_at}
use Rattle.cls_library.specs.Reaching.{CoversGoal, columns}
use Rattle.cls_library.specs.Rules.{Choice, ComesBefore, IsChoice, IsRuleFor, IsRules}
use Rattle.cls_library.proofs.ByCases.{At, got_at, Zip, zip_map, all_zip, zip_length, zip_right}
use Rattle.cls_library.proofs.FirstOnes.{first_ones_from}
use Rattle.cls_expand.specs.Determined.{made_same}
use Rattle.cls_expand.specs.Making.{choice_at}
use Rattle.cls_library.proofs.RuleTyping.{columns_length, picked_from}
use Rattle.cls_proof.specs.Certificates.{ProofRow}
use Rattle.cls_cert.specs.Making.{IsFirst, IsFirstChoice, goal_in, named, Ranked, IsRuleRow, IsRowOf, IsRowFor}
use Rattle.cls_cert.specs.Building.{IsFirstAt, goals_over, rule_over, GivesRule, IsGiven}

-- the first element, by another property of the same elements
pub first_as : {A : Type 0} (P Q : A → Type 0) (xs ys : List A) (x : A) → ((y : A) → P y → Q y) → ((y : A) → Q y → P y) → xs ≡ ys → IsFirst P xs x → IsFirst Q ys x
first_as P Q xs ys x f g e h = subst (λ zs. IsFirst Q zs x) e (record { place = h.place; there = h.there; holds = f x h.holds; none_before = (λ j y l k q. h.none_before j y l k (g y q)) })

-- a rule has as many arguments as its choice has places
pub rule_length : (l : Library) (c : Choice) (r : Rule Paths) (u : IsRuleFor l c r) → length u.arguments ≡ c.places
rule_length l c r u =
    let picks : Zip (At (arrows_at l c.component c.places)) c.cover u.picked = zip_map (λ i a e. got_at (arrows_at l c.component c.places) i a e) (all_zip c.cover u.picked u.picks) in
    sym (zip_length (all_zip (columns c.places u.picked) u.arguments u.reduced)) ∙ columns_length c.places u.picked (picked_from c.places (paths_at l c.component) picks)

module _ (l : Library) (goals : List Paths) where
  -- the rule is made by the component with these arguments
  given_parts : (c : Choice) (x : ℕ) (ns : List ℕ) (u : IsRuleFor l c (rule_over goals x ns)) → (c.component ≡ x) × (u.arguments ≡ goals_over goals ns)
  given_parts c x ns u =
      let e : ◌≡◌ {A = Rule Paths} (Head x (goals_over goals ns)) (Head c.component u.arguments) = u.rule in
      ((let p : c.component ≡ x = cc in p), (let q : u.arguments ≡ goals_over goals ns = cc in q))

  given_places : (c : Choice) (x : ℕ) (ns : List ℕ) → IsRuleFor l c (rule_over goals x ns) → length ns ≡ c.places
  given_places c x ns u = sym (length-map ns (goal_in goals)) ∙ (ap (λ (ps : List Paths). length ps) (sym (given_parts c x ns u).1) ∙ rule_length l c (rule_over goals x ns) u)

  pub given_declared : (goal : Paths) (x : ℕ) (ns : List ℕ) → IsGiven l goals goal x ns → x < length l.components
  given_declared goal x ns g = subst (λ (y : ℕ). y < length l.components) (given_parts g.0 x ns g.2).0 g.1.declared

  pub given_within : (goal : Paths) (x : ℕ) (ns : List ℕ) → IsGiven l goals goal x ns → length ns ≤ arity_of (paths_at l x)
  given_within goal x ns g =
      subst (λ (y : ℕ). length ns ≤ arity_of (paths_at l y)) (given_parts g.0 x ns g.2).0
      (subst (λ (k : ℕ). k ≤ arity_of (paths_at l g.0.component)) (sym (given_places g.0 x ns g.2)) g.1.within)

  -- a rule with this component and these arguments is the one that the cover gives
  pub gives_exactly : (x : ℕ) (ns cover : List ℕ) (made : List Paths) → IsRuleFor l (choice_at x (length ns) cover) (Head x made) → (made ≡ goals_over goals ns) ↔ GivesRule l goals x ns cover
  gives_exactly x ns cover made u = (
    (λ e. subst (λ (ps : List Paths). IsRuleFor l (choice_at x (length ns) cover) (Head x ps)) e u),
    (λ g.
        let p : made ≡ u.arguments = (let e : ◌≡◌ {A = Rule Paths} (Head x made) (Head x u.arguments) = u.rule in cc) in
        p ∙ (made_same l (choice_at x (length ns) cover) (Head x made) (rule_over goals x ns) u g ∙ (given_parts (choice_at x (length ns) cover) x ns g).1)),
  )

  module _ (goal : Paths) (x : ℕ) (ns : List ℕ) (list : List (List ℕ)) (are : AreMinimal (CoversGoal l (arrows_at l x (length ns)) goal) list) where
    -- some cover gives a rule that is given
    pub cover_given : IsGiven l goals goal x ns → (s : List ℕ) × Contains list s × GivesRule l goals x ns s
    cover_given g =
        let c = g.0 in
        let p = (given_parts c x ns g.2).0 in
        let q = sym (given_places c x ns g.2) in
        let same : c ≡ choice_at x (length ns) c.cover = λ i. record { component = p i; places = q i; cover = c.cover } in
        (c.cover, (are.exactly c.cover).1 (subst (λ (d : Choice). IsChoice l goal d) same g.1).minimal, subst (λ (d : Choice). IsRuleFor l d (rule_over goals x ns)) same g.2)

    pub first_choice : (place : ℕ) (s : List ℕ) → slice_get list place ≡ Some s → x < length l.components → length ns ≤ arity_of (paths_at l x) → IsFirstAt (GivesRule l goals x ns) list place
        → IsFirstChoice l goal (rule_over goals x ns) (choice_at x (length ns) s)
    first_choice place s e d w h = record {
      choice = record { declared = d; within = w; minimal = (are.exactly s).0 (Contains-at list place s e) };
      gives = subst (λ (t : List ℕ). GivesRule l goals x ns t) (let f : Some h.element ≡ Some s = sym h.there ∙ e in let g : h.element ≡ s = cc in g) h.holds;
      none_before = (λ c chosen before u. earlier c chosen before u);
    }
      where
        at_place : (list : List (List ℕ)) → Rises Precedes list → (i j : ℕ) (s t : List ℕ) → slice_get list i ≡ Some s → slice_get list j ≡ Some t → j ≤ i → (t ≡ s) ⊎ Precedes t s
        at_place [] r i j s t e f k = absurd (let g : ◌≡◌ {A = Option (List ℕ)} None (Some s) = e in cc)
        at_place (u ∷ list) r zero zero s t e f k = inl (let g : t ≡ s = cc in g)
        at_place (u ∷ list) r zero (suc j) s t e f k = absurd (omega arith)
        at_place (u ∷ list) r (suc i) zero s t e f k = inr (subst (λ (v : List ℕ). Precedes v s) (let g : u ≡ t = cc in g) (r.0 s (Contains-at list i s e)))
        at_place (u ∷ list) r (suc i) (suc j) s t e f k = at_place list r.1 i j s t e f (omega arith)

        not_self : (t : List ℕ) → Precedes t t → ⊥
        not_self [] p = p
        not_self (k ∷ t) p = elim p [ inl j ↦ omega arith | inr j ↦ not_self t j.1 ]

        not_both : (s t : List ℕ) → Precedes s t → Precedes t s → ⊥
        not_both s [] p q = p
        not_both [] (k ∷ t) p q = q
        not_both (j ∷ s) (k ∷ t) p q = elim p [
          | inl a ↦ elim q [ inl b ↦ omega arith | inr b ↦ (let f : k ≡ j = b.0 in omega arith) ]
          | inr a ↦ elim q [ inl b ↦ (let f : j ≡ k = a.0 in omega arith) | inr b ↦ not_both s t a.1 b.1 ]
        ]

        cases : (j : ℕ) → (j < place) ⊎ (place ≤ j)
        cases j = by j place
          where
            by : (j i : ℕ) → (j < i) ⊎ (i ≤ j)
            by j i = grind arith

        cover_before : (c : Choice) → c.component ≡ x → c.places ≡ length ns → ComesBefore c (choice_at x (length ns) s) → Precedes c.cover s
        cover_before c p q b = elim b [
          | inl k ↦ absurd (omega arith)
          | inr k ↦ elim k.1 [ inl j ↦ absurd (omega arith) | inr j ↦ j.1 ]
        ]

        earlier : (c : Choice) → IsChoice l goal c → ComesBefore c (choice_at x (length ns) s) → IsRuleFor l c (rule_over goals x ns) → ⊥
        earlier c chosen before u =
            let p = (given_parts c x ns u).0 in
            let q = sym (given_places c x ns u) in
            let same : c ≡ choice_at x (length ns) c.cover = λ i. record { component = p i; places = q i; cover = c.cover } in
            let there = Contains-place list c.cover ((are.exactly c.cover).1 (subst (λ (d : Choice). IsChoice l goal d) same chosen).minimal) in
            let gives = subst (λ (d : Choice). IsRuleFor l d (rule_over goals x ns)) same u in
            elim (cases there.0) [
              | inl k ↦ h.none_before there.0 c.cover k there.1 gives
              | inr k ↦ elim (at_place list are.in_order there.0 place c.cover s there.1 e k) [
                | inl f ↦ not_self s (subst (λ (t : List ℕ). Precedes t s) (sym f) (cover_before c p q before))
                | inr f ↦ not_both c.cover s (cover_before c p q before) f
              ]
            ]

-- a rule of a goal with a path is given by a choice
pub rule_given : (l : Library) (goal : Paths) (q : TypePath) (rest : Paths) → goal ≡ more q rest → (rs : List (Rule Paths)) → IsRules l goal rs → (r : Rule Paths) → Contains rs r → (c : Choice) × IsChoice l goal c × IsRuleFor l c r
rule_given l none q rest e rs k r m = absurd (let f : ◌≡◌ {A = Paths} none (more q rest) = e in cc)
rule_given l (more p n) q rest e rs k r m =
    let candidate = first_ones_from r k.first_ones m in
    let u = zip_right r (all_zip k.choices k.candidates k.made) (contains_member k.candidates r candidate) in
    (u.0, (k.chosen.exactly u.0).0 (member_contains u.1), u.2)

module _ (l : Library) (goals : List Paths) (book : List (List (Rule ℕ))) (number : ℕ) (goal : Paths) (q : TypePath) (rest : Paths) (path : goal ≡ more q rest) (rules : IsRules l goal (map (named goals) (rules_at book number))) where
  pub head_given : (x : ℕ) (ns : List ℕ) → Contains (rules_at book number) (Head x ns) → IsGiven l goals goal x ns
  head_given x ns m = rule_given l goal q rest path (map (named goals) (rules_at book number)) rules (rule_over goals x ns) (Contains-map (named goals) (rules_at book number) (Head x ns) m)

  pub no_any : (f a : ℕ) → Contains (rules_at book number) (Any f a) → ⊥
  no_any f a m =
      let g = rule_given l goal q rest path (map (named goals) (rules_at book number)) rules (Any (goal_in goals f) (goal_in goals a)) (Contains-map (named goals) (rules_at book number) (Any f a) m) in
      let e : ◌≡◌ {A = Rule Paths} (Any (goal_in goals f) (goal_in goals a)) (Head g.0.component g.2.arguments) = g.2.rule in
      cc

module _ (l : Library) (goals : List Paths) (book : List (List (Rule ℕ))) (e : Ranked) (row : ProofRow) where
  pub omega_row : goal_in goals e.number ≡ none → row ≡ record { goal = type_of_paths none; component = 0; n = 0; cover = [] } → IsRowFor l goals book e row
  omega_row s k = subst (λ (g : Paths). IsRowOf l goals book g e row) (sym s) k

  pub rule_row : (q : TypePath) (rest : Paths) → goal_in goals e.number ≡ more q rest → IsRuleRow l goals book e row → IsRowFor l goals book e row
  rule_row q rest s k = subst (λ (g : Paths). IsRowOf l goals book g e row) (sym s) k

-- what a call for the rules of a goal tells
pub rules_told : (rows : List (Row (List TypePath))) (i : ℕ) (rs : List (Rule ℕ)) → option_map (λ (r : Row (List TypePath)). r.answer) (slice_get rows i) ≡ Some (Rules rs) → rs ≡ rules_at (book_of rows) i
rules_told [] i rs e = absurd (let f : ◌≡◌ {A = Option (Answer ℕ)} None (Some (Rules rs)) = e in cc)
rules_told (r ∷ rows) zero rs e = let f : r.answer ≡ Rules rs = cc in sym (ap rules_of f)
rules_told (r ∷ rows) (suc i) rs e = rules_told rows i rs e
