-- The columns of a grammar as its rows.
use Rattle.std.proofs.Common.{◌≡◌, ℕ, zero, suc, Bool, true, false, List, [], ◌∷◌, Option, None, Some, length, map, slice_get, refl, ap, subst, ◌∙◌, arith}
use Rattle.std.specs.Prelude.{option_map, is_some, ◌↔◌, IsTrue}
use Rattle.std.proofs.lemmas.List.{length-map}
use Rattle.cls_base.specs.Languages.{rules_at}
use Rattle.cls_base.specs.declared.rule.Rule.{Rule}
use Rattle.cls_core.specs.declared.answer.Answer.TheVariants.{Rules}
use Rattle.cls_core.specs.Arguments.{rules_of}
use Rattle.cls_core.specs.Rows.{Row}
use Rattle.cls_grammar.specs.Grammars.{ruled_rows, book_of}
use Rattle.cls_grammar.specs.Ranks.{IsRankIn, AreRanks, AreProductive, IsProductiveIn}

module _ {G : Type 0} where
  pub rows-count : (gs : List G) (ls : List (List (Rule ℕ))) → length ls ≡ length gs → length (ruled_rows gs ls) ≡ length gs
  rows-count [] ls e = refl
  rows-count (g ∷ gs) [] e = absurd (omega (arith, e))
  rows-count (g ∷ gs) (l ∷ ls) e = ap suc (rows-count gs ls (omega (arith, e)))

  pub book-count : (rows : List (Row G)) → length (book_of rows) ≡ length rows
  book-count rows = length-map rows (λ (r : Row G). (rules_of r.answer))

  pub rows-goal : (gs : List G) (ls : List (List (Rule ℕ))) (i : ℕ) (g : G) → length ls ≡ length gs → slice_get gs i ≡ Some g → option_map (λ (r : Row G). r.goal) (slice_get (ruled_rows gs ls) i) ≡ Some g
  rows-goal [] ls i g e f = cc
  rows-goal (h ∷ gs) [] i g e f = absurd (omega (arith, e))
  rows-goal (h ∷ gs) (l ∷ ls) zero g e f = f
  rows-goal (h ∷ gs) (l ∷ ls) (suc i) g e f = rows-goal gs ls i g (omega (arith, e)) f

  pub rows-answer : (gs : List G) (ls : List (List (Rule ℕ))) (i : ℕ) (l : List (Rule ℕ)) → length ls ≡ length gs → slice_get ls i ≡ Some l → option_map (λ (r : Row G). r.answer) (slice_get (ruled_rows gs ls) i) ≡ Some (Rules l)
  rows-answer [] [] i l e f = cc
  rows-answer [] (m ∷ ls) i l e f = absurd (omega (arith, e))
  rows-answer (h ∷ gs) [] i l e f = cc
  rows-answer (h ∷ gs) (m ∷ ls) zero l e f = let g : m ≡ l = cc in ap (λ x. Some (Rules x)) g
  rows-answer (h ∷ gs) (m ∷ ls) (suc i) l e f = rows-answer gs ls i l (omega (arith, e)) f

  pub rows-rules : (gs : List G) (ls : List (List (Rule ℕ))) (i : ℕ) (l : List (Rule ℕ)) → length ls ≡ length gs → slice_get ls i ≡ Some l → option_map (λ (r : Row G). rules_of r.answer) (slice_get (ruled_rows gs ls) i) ≡ Some l
  rows-rules [] [] i l e f = cc
  rows-rules [] (m ∷ ls) i l e f = absurd (omega (arith, e))
  rows-rules (h ∷ gs) [] i l e f = cc
  rows-rules (h ∷ gs) (m ∷ ls) zero l e f = f
  rows-rules (h ∷ gs) (m ∷ ls) (suc i) l e f = rows-rules gs ls i l (omega (arith, e)) f

  pub rows-book : (rows : List (Row G)) (i : ℕ) (l : List (Rule ℕ)) → option_map (λ (r : Row G). rules_of r.answer) (slice_get rows i) ≡ Some l → l ≡ rules_at (book_of rows) i
  rows-book [] i l e = cc
  rows-book (r ∷ rows) zero l e = let f : l ≡ rules_of r.answer = cc in f
  rows-book (r ∷ rows) (suc i) l e = rows-book rows i l e

-- a node is productive where it has a rank
pub ranks-flags : (book : List (List (Rule ℕ))) (ranks : List (Option ℕ)) → AreRanks book ranks → AreProductive book (map is_some ranks)
ranks-flags book ranks r = record {
  count = length-map ranks is_some ∙ r.count;
  each = λ i flag e. let u = at ranks i flag e in by i flag u.0 u.2 (r.each i u.0 u.1);
}
  where
    at : (ranks : List (Option ℕ)) (i : ℕ) (flag : Bool) → slice_get (map is_some ranks) i ≡ Some flag → (rank : Option ℕ) × (slice_get ranks i ≡ Some rank) × (is_some rank ≡ flag)
    at [] i flag e = cc
    at (o ∷ ranks) zero flag e = (o, refl, (let f : is_some o ≡ flag = cc in f))
    at (o ∷ ranks) (suc i) flag e = at ranks i flag e

    by : (i : ℕ) (flag : Bool) (rank : Option ℕ) → is_some rank ≡ flag → IsRankIn book i rank → IsTrue flag ↔ IsProductiveIn book i
    by i flag None e h = subst (λ b. IsTrue b ↔ IsProductiveIn book i) e ((λ t. absurd (let f : false ≡ true = t in cc)), (λ p. absurd (h p)))
    by i flag (Some k) e h = subst (λ b. IsTrue b ↔ IsProductiveIn book i) e ((λ t. (k, h.tree)), (λ p. refl))
