-- Each node of a grammar has a rank or none, so each grammar has a text.
use Rattle.std.proofs.Common.{ℕ, ◌⊎◌, inl, inr, refl, List, Option, None, Some, length}
use Rattle.cls_base.specs.Languages.{NodeRule}
use Rattle.cls_base.specs.declared.rule.Rule.{Rule}
use Rattle.cls_grammar.specs.GrammarTexts.{grammar_text}
use Rattle.cls_grammar.specs.Grammars.{book_of}
use Rattle.cls_grammar.specs.Ranks.{HasTree, IsProductiveIn, IsRankIn, AreRanks}
use Rattle.cls_laws.specs.Possible.{IsPossible}
use Rattle.cls_laws.specs.Existence.{GrammarTextsExist}
use Rattle.cls_laws.proofs.Classical.{surely, then, after, either_way, by_index, least}

module _ (book : List (List (Rule ℕ))) where
  rank_by : (i : ℕ) → IsProductiveIn book i ⊎ (IsProductiveIn book i → ⊥) → IsPossible ((rank : Option ℕ) × IsRankIn book i rank)
  rank_by i (inl p) = after (least (λ h. HasTree ℕ (NodeRule book) h i) p.0 p.1) (λ m. (Some m.0, record { tree = m.1; none_less = m.2 }))
  rank_by i (inr n) = surely (None, n)

  pub ranks_exist : IsPossible ((ranks : List (Option ℕ)) × AreRanks book ranks)
  ranks_exist =
      after (by_index (IsRankIn book) (length book) (λ i l. then (either_way (IsProductiveIn book i)) (rank_by i)))
      (λ r. (r.0, record { count = r.1; each = r.2 }))

pub grammar_texts_exist : GrammarTextsExist
grammar_texts_exist name component rows =
    after (ranks_exist (book_of rows)) (λ r. (grammar_text name component rows r.0, (r.0, r.1, refl)))
