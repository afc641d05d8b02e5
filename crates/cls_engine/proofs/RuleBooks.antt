-- The closure of a type is a rule book: its rules have arguments within it.
use Rattle.std.proofs.Common.{◌≡◌, ℕ, ◌<◌, ◌≤◌, ◌⊎◌, inl, inr, sym, subst, arith, List, [], ◌∷◌, length, Contains}
use Rattle.std.proofs.lemmas.Bool.{cases_lt}
use Rattle.std.proofs.lemmas.List.{length-map, get_or_past}
use Rattle.cls_base.specs.Arguments.{arguments_of_rule}
use Rattle.cls_base.specs.Books.{HasNodesBelow, HaveNodesBelow}
use Rattle.cls_base.specs.Languages.{rules_at}
use Rattle.cls_base.specs.Types.{ClosedType}
use Rattle.cls_base.specs.declared.rule.Rule.{Rule}
use Rattle.cls_base.specs.declared.rule.Rule.TheVariants.{Head, Any}
use Rattle.cls_base.proofs.Lists.{Contains-here, Contains-later}
use Rattle.cls_cert.specs.Conditions.{IsGrammarOf}
use Rattle.cls_cert.proofs.Empty.{all_below}
use Rattle.cls_cert.proofs.Ruled.{some_goal, ruled_within}
use Rattle.cls_core.specs.Rows.{Row}
use Rattle.cls_filtered.specs.Filtered.{IsRuleBook}
use Rattle.cls_grammar.specs.Grammars.{book_of}
use Rattle.cls_library.specs.Libraries.{Library}
use Rattle.cls_engine.specs.declared.options.Options.{Options}
use Rattle.cls_engine.specs.Closing.{IsKnownOf}
use Rattle.cls_engine.specs.Goals.{Goal}

-- rules whose arguments are all below n
rule_below : (n : ℕ) (r : Rule ℕ) → ((m : ℕ) → Contains (arguments_of_rule r) m → m < n) → HasNodesBelow n r
rule_below n (Head x ns) f = all_below n ns f
rule_below n (Any l m) f = (f l (Contains-here l (m ∷ [])), f m (Contains-later m l (m ∷ []) (Contains-here m [])))

pub rules_below : (n : ℕ) (rs : List (Rule ℕ)) → ((r : Rule ℕ) → Contains rs r → (m : ℕ) → Contains (arguments_of_rule r) m → m < n) → HaveNodesBelow n rs
rules_below n [] f = tt
rules_below n (r ∷ rs) f = (rule_below n r (f r (Contains-here r rs)), rules_below n rs (λ q c. f q (Contains-later q r rs c)))

module _ (lib : Library) (o : Options) (t : ClosedType) (rows : List (Row Goal)) (k : IsKnownOf lib o t rows) where
  grammar_of : IsGrammarOf lib rows
  grammar_of = record { start = k.goal; ready = k.known.ready; canonical = k.known.canonical; narrow = k.known.none_wide }

  -- the arguments of the rules of a goal are goals
  nodes_within : (i : ℕ) → i < length (book_of rows) → HaveNodesBelow (length (book_of rows)) (rules_at (book_of rows) i)
  nodes_within i l =
      let c : length (book_of rows) ≡ length rows = length-map rows _ in
      let u = ruled_within lib rows grammar_of i (omega arith) in
      rules_below (length (book_of rows)) (rules_at (book_of rows) i) (λ r m n d. let b = u.1.within r m n d in omega arith)

  -- past the last goal there are no rules
  none_past : (i : ℕ) → (i < length (book_of rows)) ⊎ (length (book_of rows) ≤ i) → HaveNodesBelow (length (book_of rows)) (rules_at (book_of rows) i)
  none_past i (inl l) = nodes_within i l
  none_past i (inr g) = subst (λ (rs : List (Rule ℕ)). HaveNodesBelow (length (book_of rows)) rs) (sym (get_or_past (book_of rows) i [] g)) tt

  pub rule_book : IsRuleBook (book_of rows)
  rule_book =
      let s = some_goal lib rows grammar_of in
      let c : length (book_of rows) ≡ length rows = length-map rows _ in
      record { some = omega arith; within = λ i. none_past i (cases_lt i (length (book_of rows))) }
