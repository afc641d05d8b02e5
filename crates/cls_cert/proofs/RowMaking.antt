-- The row of a goal, by what the calls for it tell.
use Rattle.std.proofs.Common.{ℕ, zero, suc, ◌≡◌, ◌<◌, ◌==◌, sym, ◌∙◌, subst, ap, Bool, true, false, List, [], ◌∷◌, length, map, get_or, arith, rules, Contains, Option, Some, None}
use Rattle.std.specs.Prelude.{slice_get, option_map}
use Rattle.std.proofs.lemmas.List.{length-map}
use Rattle.std.proofs.lemmas.Option.{slice_get_within}
use Rattle.cls_base.specs.Languages.{NodeRule, rules_at}
use Rattle.cls_base.specs.Lists.{AreBelow}
use Rattle.cls_base.specs.Types.{ClosedType}
use Rattle.cls_base.specs.declared.rule.Rule.{Rule}
use Rattle.cls_base.specs.declared.rule.Rule.TheVariants.{Head, Any}
use Rattle.cls_base.proofs.Lists.{Contains-at}
use Rattle.cls_path.specs.Paths.{TypePath, Paths, none, more, listed, type_of_paths}
use Rattle.cls_core.specs.Arguments.{rules_of}
use Rattle.cls_base.specs.Arguments.{arguments_of_rule}
use Rattle.cls_core.specs.Rows.{Row}
use Rattle.cls_core.specs.declared.answer.Answer.TheVariants as answers
use Rattle.cls_grammar.specs.Grammars.{book_of}
use Rattle.cls_grammar.specs.Ranks.{IsRank, AreRanks}
use Rattle.cls_library.specs.Libraries.{Library}
use Rattle.cls_library.specs.Rules.{IsRules}
use Rattle.cls_base.specs.Books.{HasNodesBelow, HaveNodesBelow}
use Rattle.cls_expand.specs.Making.{choice_at}
use Rattle.cls_cert.specs.Conditions.{forms_of, IsGrammarOf}
use Rattle.cls_cert.specs.Making.{IsFirst, IsFirstChoice, goal_in, named, Ranked, IsLower, IsRowFor}
use Rattle.cls_cert.specs.Building.{HasLess, IsGiven, rule_over}
use Rattle.cls_cert.proofs.ChoiceLaws.{first_as, head_given, no_any, omega_row, rule_row, rules_told}
use Rattle.cls_cert.proofs.Ranking.{rank_is, less_lower, lower_less, rule_found}
use Rattle.cls_cert.proofs.Lists.{got_within}
use Rattle.cls_cert.proofs.Ruled.{ruled, told_form, some_goal}

-- whether a goal has a path
pub empty_form : (ps g : List TypePath) (b : Bool) → ps ≡ g → b ≡ (length ps == 0) → b ≡ true → listed g ≡ none
empty_form [] g b e f t = ap listed (sym e)
empty_form (q ∷ ps) g b e f t = absurd (let s : (suc (length ps) == 0) ≡ false = search rules in let u : ◌≡◌ {A = Bool} true false = sym t ∙ (f ∙ s) in cc)

pub first_path : (ps g : List TypePath) (b : Bool) → ps ≡ g → b ≡ (length ps == 0) → b ≡ false → (q : TypePath) × (rest : Paths) × (listed g ≡ more q rest)
first_path [] g b e f t = absurd (let s : (0 == 0) ≡ true = search rules in let u : ◌≡◌ {A = Bool} false true = sym t ∙ (f ∙ s) in cc)
first_path (q ∷ ps) g b e f t = (q, listed ps, ap listed (sym e))

-- the arguments of one of the rules
pub nodes_at : (n : ℕ) (rs : List (Rule ℕ)) (j : ℕ) (r : Rule ℕ) → HaveNodesBelow n rs → slice_get rs j ≡ Some r → HasNodesBelow n r
nodes_at n [] j r h e = absurd (let f : ◌≡◌ {A = Option (Rule ℕ)} None (Some r) = e in cc)
nodes_at n (s ∷ rs) zero r h e = subst (λ (x : Rule ℕ). HasNodesBelow n x) (let f : s ≡ r = cc in f) h.0
nodes_at n (s ∷ rs) (suc j) r h e = nodes_at n rs j r h.1 e

module _ (l : Library) (rows : List (Row (List TypePath))) (is : IsGrammarOf l rows) (ranks : List (Option ℕ)) (are : AreRanks (book_of rows) ranks) (number rank : ℕ) (ranked : slice_get ranks number ≡ Some (Some rank)) where
  book_count : length (book_of rows) ≡ length rows
  book_count = length-map rows (λ (r : Row (List TypePath)). rules_of r.answer)

  pub number_within : number < length rows
  number_within =
      let low : number < length ranks = slice_get_within ranks number (Some rank) ranked in
      let n = are.count in
      let m = book_count in
      omega arith

  pub rank_of_number : IsRank ℕ (NodeRule (book_of rows)) number rank
  rank_of_number = rank_is (book_of rows) ranks are number rank ranked

  abbrev this : Ranked
  this = record { number = number; rank = rank }

  module _ (g : List TypePath) (told : option_map (λ (r : Row (List TypePath)). r.goal) (slice_get rows number) ≡ Some g) where
    form : goal_in (forms_of rows) number ≡ listed g
    form = told_form rows number g told

    pub omega_made : (t : ClosedType) → t ≡ type_of_paths (listed g) → listed g ≡ none → IsRowFor l (forms_of rows) (book_of rows) this (record { goal = t; component = 0; n = 0; cover = [] })
    omega_made t s z = omega_row l (forms_of rows) (book_of rows) this (record { goal = t; component = 0; n = 0; cover = [] }) (form ∙ z) (λ i. record { goal = (s ∙ ap type_of_paths z) i; component = 0; n = 0; cover = [] })

    module _ (rs : List (Rule ℕ)) (told_rules : option_map (λ (r : Row (List TypePath)). r.answer) (slice_get rows number) ≡ Some (answers.Rules rs)) where
      same : rs ≡ rules_at (book_of rows) number
      same = rules_told rows number rs told_rules

      in_book : (r : Rule ℕ) → IsFirst (HasLess ranks rank) rs r → Contains (rules_at (book_of rows) number) r
      in_book r k = subst (λ (ss : List (Rule ℕ)). Contains ss r) same (Contains-at rs k.place r k.there)

      -- some rule has lower arguments
      pub some_rule : ((j : ℕ) (r : Rule ℕ) → slice_get rs j ≡ Some r → HasLess ranks rank r → ⊥) → ⊥
      some_rule f = rule_found (book_of rows) ranks are rank number rs same rank_of_number f

      pub below : (x : ℕ) (ns : List ℕ) → HaveNodesBelow (length rows) rs → IsFirst (HasLess ranks rank) rs (Head x ns) → AreBelow (length rows) ns
      below x ns h k = nodes_at (length rows) rs k.place (Head x ns) h k.there

      module _ (q : TypePath) (rest : Paths) (path : listed g ≡ more q rest) where
        all_rules : IsRules l (listed g) (map (named (forms_of rows)) (rules_at (book_of rows) number))
        all_rules = (ruled l rows is number g told).rules

        pub no_apply : (f a : ℕ) → IsFirst (HasLess ranks rank) rs (Any f a) → ⊥
        no_apply f a k = no_any l (forms_of rows) (book_of rows) number (listed g) q rest path all_rules f a (in_book (Any f a) k)

        pub given : (x : ℕ) (ns : List ℕ) → IsFirst (HasLess ranks rank) rs (Head x ns) → IsGiven l (forms_of rows) (listed g) x ns
        given x ns k = head_given l (forms_of rows) (book_of rows) number (listed g) q rest path all_rules x ns (in_book (Head x ns) k)

        pub row_made : (x : ℕ) (ns cover : List ℕ) → IsFirst (HasLess ranks rank) rs (Head x ns) → IsFirstChoice l (listed g) (rule_over (forms_of rows) x ns) (choice_at x (length ns) cover) → (t : ClosedType) → t ≡ type_of_paths (listed g) → IsRowFor l (forms_of rows) (book_of rows) this (record { goal = t; component = x; n = length ns; cover = cover })
        row_made x ns cover k chosen t s = rule_row l (forms_of rows) (book_of rows) this (record { goal = t; component = x; n = length ns; cover = cover }) q rest (form ∙ path) (record {
          rule = Head x ns;
          first_rule = first_as (HasLess ranks rank) (IsLower l (forms_of rows) (book_of rows) rank) rs (rules_at (book_of rows) number) (Head x ns)
              (λ r h. less_lower (book_of rows) ranks are rank (arguments_of_rule r) h) (λ r h. lower_less (book_of rows) ranks are rank (arguments_of_rule r) h) same k;
          choice = choice_at x (length ns) cover;
          first_choice = subst (λ (n : Paths). IsFirstChoice l n (rule_over (forms_of rows) x ns) (choice_at x (length ns) cover)) (sym form) chosen;
          row_is = λ i. record { goal = (s ∙ ap type_of_paths (sym form)) i; component = x; n = length ns; cover = cover };
        })

-- the rank of goal 0
pub first_rank : (l : Library) (rows : List (Row (List TypePath))) → IsGrammarOf l rows → (ranks xs : List (Option ℕ)) → AreRanks (book_of rows) ranks → xs ≡ ranks → (o : Option ℕ) → get_or xs 0 None ≡ o → slice_get ranks 0 ≡ Some o
first_rank l rows h ranks xs are e o f =
    let some = some_goal l rows h in
    let n = are.count in
    let m = length-map rows (λ (r : Row (List TypePath)). rules_of r.answer) in
    let low : 0 < length ranks = omega arith in
    got_within ranks 0 None low ∙ ap Some (ap (λ (ys : List (Option ℕ)). get_or ys 0 None) (sym e) ∙ f)
