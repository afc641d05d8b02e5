-- What is made for a productive goal is accepted.
use Rattle.std.proofs.Common.{ℕ, zero, suc, ◌≡◌, ◌<◌, refl, sym, ◌∙◌, subst, ap, ◌⊎◌, inl, inr, List, [], ◌∷◌, ◌++◌, length, get_or, arith, Contains}
use Rattle.std.specs.Prelude.{map}
use Rattle.std.specs.List.{AllZip}
use Rattle.std.proofs.lemmas.List.{length-map, get_or_default}
use Rattle.std.proofs.lemmas.List.Elements.{Contains-get_or, Contains-push, Contains-append_left}
use Rattle.cls_base.specs.Languages.{NodeRule, rules_at}
use Rattle.cls_base.specs.Subtyping.{reflexivity}
use Rattle.cls_base.specs.Types.{ClosedType}
use Rattle.cls_base.specs.declared.rule.Rule.{Rule}
use Rattle.cls_base.specs.declared.rule.Rule.TheVariants.{Head}
use Rattle.cls_base.proofs.Lists.{Contains-nil, Contains-here, Contains-later, Contains-cases, Contains-map}
use Rattle.cls_path.specs.Paths.{TypePath, Paths, none, more, SuitsAll, paths_of, listed, type_of_paths}
use Rattle.cls_path.proofs.RoundTrip.{paths_back}
use Rattle.cls_cover.specs.Lists.{Rises}
use Rattle.cls_base.specs.Arguments.{arguments_of_rule}
use Rattle.cls_core.specs.Rows.{Row}
use Rattle.cls_grammar.specs.Grammars.{book_of}
use Rattle.cls_grammar.specs.Ranks.{HasTree, head_tree, any_tree}
use Rattle.cls_library.specs.Libraries.{Library, IsLibrary, variances_in, arrows_at}
use Rattle.cls_library.specs.Reaching.{CoversGoal}
use Rattle.cls_library.specs.Rules.{Choice, IsChoice}
use Rattle.cls_library.specs.Arrows.{MultiArrow}
use Rattle.cls_library.proofs.RuleHeads.{rule_declared}
use Rattle.cls_proof.specs.Certificates.{ProofRow, inhabited}
use Rattle.cls_check.specs.Arguments.{argument_type}
use Rattle.cls_check.specs.Checking.{IsSubtype, PassesRow, IsAboveRow, PassRows, EndsBelow, Accepts, by_rows}
use Rattle.cls_cert.specs.Conditions.{forms_of, IsGrammarOf}
use Rattle.cls_cert.specs.Making.{goal_in, named, Ranked, ComesEarlier, IsRanked, IsRuleRow, IsRowOf, IsRowFor, AreRows}
use Rattle.cls_cert.proofs.Empty.{increasing, all_below, minimal_positions}
use Rattle.cls_cert.proofs.Ranking.{tree_below}
use Rattle.cls_cert.proofs.Ruled.{named_arguments, argument_at, IsRuled, ruled_within}
use Rattle.cls_cert.proofs.Sources.{argument_count, argument_lower}

module _ (l : Library) (is : IsLibrary l) (rows : List (Row (List TypePath))) (h : IsGrammarOf l rows) where
  abbrev goals : List Paths
  goals = forms_of rows

  abbrev book : List (List (Rule ℕ))
  book = book_of rows

  abbrev Is : Ranked → Type 0
  Is e = IsRanked l goals book e

  book_count : length book ≡ length rows
  book_count = length-map rows _

  abbrev Tree : ℕ → ℕ → Type 0
  Tree k i = HasTree ℕ (NodeRule book) k i

  ruled_node : (k i : ℕ) → Tree k i → (g : List TypePath) × IsRuled l rows i g
  ruled_node k i t = ruled_within l rows h i (let b = tree_below book k i t in let c = book_count in omega arith)

  -- a productive goal has a component
  some_component : (k i : ℕ) → Tree k i → 0 < length l.components
  some_component zero i t = elim t [ ]
  some_component (suc k) i (head_tree {x = x} {ns = ns} r ts) =
      let u = ruled_node (suc k) i (head_tree r ts) in
      let low = rule_declared l (listed u.0) x (map (goal_in goals) ns) (map (named goals) (rules_at book i), u.1.rules, Contains-map (named goals) (rules_at book i) (Head x ns) r) in
      omega arith
  some_component (suc k) i (any_tree {l = f} {m = m} r s t) = some_component k f s

  -- each goal that is done has a row
  abbrev HaveRows : List Ranked → List ProofRow → Type 0
  HaveRows done earlier = (e : Ranked) → Contains done e → (r : ProofRow) × Contains earlier r × (r.goal ≡ type_of_paths (goal_in goals e.number))

  row_goal : (g : Paths) (e : Ranked) (r : ProofRow) → goal_in goals e.number ≡ g → IsRowOf l goals book g e r → r.goal ≡ type_of_paths (goal_in goals e.number)
  row_goal none e r s k = ap (λ (q : ProofRow). q.goal) k ∙ ap type_of_paths (sym s)
  row_goal (more q n) e r s k = ap (λ (p : ProofRow). p.goal) k.row_is

  module _ (done : List Ranked) (earlier : List ProofRow) (have : HaveRows done earlier) (e : Ranked) (ranked : Is e) (low : (d : Ranked) → Is d → d.rank < e.rank → Contains done d) where
    omega_passes : (r : ProofRow) → r ≡ record { goal = type_of_paths none; component = 0; n = 0; cover = [] } → PassesRow l (IsAboveRow l earlier) r
    omega_passes r same = subst (λ (q : ProofRow). PassesRow l (IsAboveRow l earlier) q) (sym same) (record {
      arrow = (record { declared = some_component e.rank e.number ranked.tree; within = omega arith }, record { ascend = (λ k j. absurd (omega arith)); within = tt });
      target = (λ q i. elim i [ ]);
      argument = (λ i k. absurd (omega arith));
    })

    rule_passes : (r : ProofRow) → IsRuleRow l goals book e r → PassesRow l (IsAboveRow l earlier) r
    rule_passes r k = subst (λ (q : ProofRow). PassesRow l (IsAboveRow l earlier) q) (sym k.row_is) (record {
      arrow = (
        record { declared = chosen.declared; within = chosen.within },
        record {
          ascend = increasing c.cover chosen.minimal.ascending;
          within = all_below (length arrows) c.cover (minimal_positions l arrows (goal_in goals e.number) c.cover chosen.minimal);
        },
      );
      target = subst (λ (n : Paths). CoversGoal l arrows n c.cover) (sym back) chosen.minimal.covers;
      argument = (λ i j. given i j);
    })
      where
        c : Choice
        c = k.choice

        chosen : IsChoice l (goal_in goals e.number) c
        chosen = k.first_choice.choice

        arrows : List MultiArrow
        arrows = arrows_at l c.component c.places

        back : paths_of (variances_in l.taxonomy) (type_of_paths (goal_in goals e.number)) ≡ goal_in goals e.number
        back =
            let u = ruled_node e.rank e.number ranked.tree in
            paths_back (goal_in goals e.number) (variances_in l.taxonomy) (subst (λ (n : Paths). SuitsAll (variances_in l.taxonomy) n) (sym u.1.goal) u.1.ready.normal.suits)

        given : (i : ℕ) → i < c.places → IsAboveRow l earlier (argument_type arrows c.cover i)
        given i j =
            let gives = k.first_choice.gives in
            let args : map (goal_in goals) (arguments_of_rule k.rule) ≡ gives.arguments = named_arguments goals k.rule c.component gives.arguments gives.rule in
            let count = argument_count l is c (named goals k.rule) gives in
            let long : length (map (goal_in goals) (arguments_of_rule k.rule)) ≡ length (arguments_of_rule k.rule) = length-map (arguments_of_rule k.rule) (goal_in goals) in
            let same : length (map (goal_in goals) (arguments_of_rule k.rule)) ≡ length gives.arguments = ap (λ (ps : List Paths). length ps) args in
            let within : i < length (arguments_of_rule k.rule) = omega arith in
            let number = get_or (arguments_of_rule k.rule) i 0 in
            let rank = k.first_rule.holds number (Contains-get_or (arguments_of_rule k.rule) i 0 within) in
            let d : Ranked = record { number = number; rank = rank.0 } in
            let row = have d (low d rank.1 rank.2) in
            let at = argument_at goals (arguments_of_rule k.rule) i number none within (get_or_default (arguments_of_rule k.rule) i number 0 within) in
            let argument : get_or gives.arguments i none ≡ goal_in goals number = sym (ap (λ (ps : List Paths). get_or ps i none) args) ∙ at in
            (row.0, row.1, subst (λ (t : ClosedType). IsSubtype l t (argument_type arrows c.cover i)) (ap type_of_paths argument ∙ sym row.2) (argument_lower l is c (named goals k.rule) gives i j))

    row_passes : (g : Paths) (r : ProofRow) → IsRowOf l goals book g e r → PassesRow l (IsAboveRow l earlier) r
    row_passes none r k = omega_passes r k
    row_passes (more q n) r k = rule_passes r k

  -- the goals of lower rank stand before each goal
  abbrev Ordered : List Ranked → List Ranked → Type 0
  Ordered done [] = Unit {0}
  Ordered done (e ∷ es) = Is e × ((d : Ranked) → Is d → d.rank < e.rank → Contains done d) × Ordered (e ∷ done) es

  all_rows : (done es : List Ranked) (earlier new : List ProofRow) → Ordered done es → HaveRows done earlier → AllZip (IsRowFor l goals book) es new → PassRows l earlier new
  all_rows done [] earlier [] o have z = tt
  all_rows done [] earlier (r ∷ new) o have z = absurd z
  all_rows done (e ∷ es) earlier [] o have z = absurd z
  all_rows done (e ∷ es) earlier (r ∷ new) o have z = (
    row_passes done earlier have e o.0 o.1 (goal_in goals e.number) r z.0,
    all_rows (e ∷ done) es (earlier ++ r ∷ []) new o.2 (λ d m. by d (Contains-cases e done d m)) z.1,
  )
    where
      goal : r.goal ≡ type_of_paths (goal_in goals e.number)
      goal = row_goal (goal_in goals e.number) e r refl z.0

      by : (d : Ranked) → (d ≡ e) ⊎ Contains done d → (s : ProofRow) × Contains (earlier ++ r ∷ []) s × (s.goal ≡ type_of_paths (goal_in goals d.number))
      by d (inl s) = (r, Contains-push earlier r, goal ∙ ap (λ (c : Ranked). type_of_paths (goal_in goals c.number)) (sym s))
      by d (inr m) = let u = have d m in (u.0, Contains-append_left earlier (r ∷ []) u.0 u.1, u.2)

  ordered : (last : Ranked) → Is last → (es done : List Ranked) → ((e : Ranked) → Contains es e → Is e) → Rises ComesEarlier es → ((e d : Ranked) → Contains es e → Is d → d.rank < e.rank → Contains done d ⊎ Contains es d) → ((d : Ranked) → Is d → d.rank < last.rank → Contains done d ⊎ Contains es d) → Ordered done (es ++ last ∷ [])
  ordered last i [] done each r low all = (i, (λ d k j. from d (all d k j)), tt)
    where
      from : (d : Ranked) → Contains done d ⊎ Contains [] d → Contains done d
      from d (inl m) = m
      from d (inr m) = absurd (Contains-nil d m)
  ordered last i (e ∷ es) done each r low all =
      (each e (Contains-here e es), (λ d k j. from d j (low e d (Contains-here e es) k j)), ordered last i es (e ∷ done) (λ x m. each x (Contains-later x e es m)) r.1 (λ x d m k j. moved d (low x d (Contains-later x e es m) k j)) (λ d k j. moved d (all d k j)))
    where
      late : (d : Ranked) → d.rank < e.rank → ComesEarlier e d → ⊥
      late d j (inl k) = omega arith
      late d j (inr k) = let s : e.rank ≡ d.rank = k.0 in omega arith

      from : (d : Ranked) → d.rank < e.rank → Contains done d ⊎ Contains (e ∷ es) d → Contains done d
      from d j (inl m) = m
      from d j (inr m) = elim (Contains-cases e es d m) [
        | inl s ↦ absurd (let t : d.rank ≡ e.rank = ap (λ (c : Ranked). c.rank) s in omega arith)
        | inr k ↦ absurd (late d j (r.0 d k))
      ]

      moved : (d : Ranked) → Contains done d ⊎ Contains (e ∷ es) d → Contains (e ∷ done) d ⊎ Contains es d
      moved d (inl m) = inl (Contains-later d e done m)
      moved d (inr m) = elim (Contains-cases e es d m) [
        | inl s ↦ inl (subst (λ (c : Ranked). Contains (e ∷ done) c) (sym s) (Contains-here e done))
        | inr k ↦ inr k
      ]

  ends : (es : List Ranked) (last : Ranked) (new : List ProofRow) (asked : ClosedType) → AllZip (IsRowFor l goals book) (es ++ last ∷ []) new → type_of_paths (goal_in goals last.number) ≡ asked → EndsBelow l new asked
  ends [] last [] asked z e = absurd z
  ends [] last (r ∷ []) asked z e = subst (λ (t : ClosedType). IsSubtype l r.goal t) (row_goal (goal_in goals last.number) last r refl z.0 ∙ e) reflexivity
  ends [] last (r ∷ s ∷ new) asked z e = absurd z.1
  ends (d ∷ es) last [] asked z e = absurd z
  ends (d ∷ es) last (r ∷ []) asked z e = absurd (nothing es z.1)
    where
      nothing : (es : List Ranked) → AllZip (IsRowFor l goals book) (es ++ last ∷ []) [] → ⊥
      nothing [] z = z
      nothing (d ∷ es) z = z
  ends (d ∷ es) last (r ∷ s ∷ new) asked z e = ends es last (s ∷ new) asked z.1 e

  pub rows_accepted : (new : List ProofRow) → AreRows l goals book new → Accepts l (type_of_paths (goal_in goals 0)) (inhabited new)
  rows_accepted new a =
      let last : Ranked = record { number = 0; rank = a.rank } in
      let order = ordered last a.is_rank a.earlier [] (λ e m. ((a.exactly e).0 m).0) a.in_order
      (λ e d m k j. inr ((a.exactly d).1 (k, lower e d m j)))
      (λ d k j. inr ((a.exactly d).1 (k, j))) in
      by_rows (all_rows [] (a.earlier ++ last ∷ []) [] new order (λ e m. absurd (Contains-nil e m)) a.made) (ends a.earlier last new (type_of_paths (goal_in goals 0)) a.made refl)
    where
      lower : (e d : Ranked) → Contains a.earlier e → d.rank < e.rank → d.rank < a.rank
      lower e d m j = let u = ((a.exactly e).0 m).1 in omega arith
