-- A stepwise book in columns, argument by argument and rule by rule.
use Rattle.std.proofs.Common.{◌≡◌, ℕ, zero, suc, ◌+◌, ◌-◌, ◌^◌, ◌<◌, ◌≤◌, List, [], ◌∷◌, ◌++◌, Some, length, map, take, drop, get_or, slice_get, refl, sym, ap, subst, ◌∙◌, inl, inr, arith, append_assoc, append-nil, length-append}
use Rattle.std.proofs.lemmas.Bool.{cases_lt}
use Rattle.std.proofs.lemmas.List.{drop_more, drop_all, length-map, get_or-map, get_or_append_left, get_or-append_right, get_or_past}
use Rattle.std.proofs.lemmas.Option.{slice_get_within, get_or_from_slice_get}
use Rattle.cls_base.specs.declared.rule.Rule.{Rule}
use Rattle.cls_base.specs.declared.rule.Rule.TheVariants.{Any}
use Rattle.cls_base.specs.Books.{HaveNodesBelow}
use Rattle.cls_base.specs.Cuts.{cut, AreEnds}
use Rattle.cls_base.specs.Languages.{rules_at}
use Rattle.cls_base.proofs.Cutting.{length-cut, cut-push, ends-push}
use Rattle.cls_base.proofs.Refilling.{cut-map}
use Rattle.cls_filtered.specs.declared.step.Step.{Step}
use Rattle.cls_filtered.specs.Filtered.{IsRuleBook}
use Rattle.cls_filtered.specs.Stepwise.{last_from, parts_from, last_of, parts_of, lasts_in, parts_in, part_count, parts_count, all_lasts, all_parts, stepwise}
use Rattle.cls_filtered.specs.StepBooks.{step_rule, part_node, step_book}
use Rattle.cls_filtered.proofs.Steps.{parts_of-length, parts_in-length}

-- one argument more: the step so far has a part, with number k, and the next one applies it
pub argument-last : (r : Rule ℕ) (k left right next : ℕ) (ns : List ℕ) (i : ℕ) (whole : Rule ℕ) → i < length ns → left ≡ k → right ≡ get_or ns i 0 → next ≡ k + 1 → last_from r k (drop i ns) ≡ whole → last_from (Any left right) next (drop (i + 1) ns) ≡ whole
argument-last r k left right next ns i whole l e f g so =
    let after : next ≡ suc k = omega (arith, g) in
    (λ j. last_from (Any (e j) (f j)) (after j) (drop (i + 1) ns)) ∙ (sym (ap (last_from r k) (drop_more ns i 0 l)) ∙ so)

pub argument-parts : (r : Rule ℕ) (k left right next : ℕ) (ns : List ℕ) (i : ℕ) (front whole : List (List (Rule ℕ))) → i < length ns → left ≡ k → right ≡ get_or ns i 0 → next ≡ k + 1 → front ++ parts_from r k (drop i ns) ≡ whole → (front ++ (r ∷ []) ∷ []) ++ parts_from (Any left right) next (drop (i + 1) ns) ≡ whole
argument-parts r k left right next ns i front whole l e f g so =
    let after : next ≡ suc k = omega (arith, g) in
    append_assoc front ((r ∷ []) ∷ []) (parts_from (Any left right) next (drop (i + 1) ns))
    ∙ ((λ j. front ++ (r ∷ []) ∷ parts_from (Any (e j) (f j)) (after j) (drop (i + 1) ns))
    ∙ (sym (ap (λ (xs : List ℕ). front ++ parts_from r k xs) (drop_more ns i 0 l)) ∙ so))

-- no argument is left
pub arguments-last : (r : Rule ℕ) (k : ℕ) (ns : List ℕ) (i : ℕ) (whole : Rule ℕ) → length ns ≤ i → last_from r k (drop i ns) ≡ whole → r ≡ whole
arguments-last r k ns i whole l so = sym (ap (last_from r k) (drop_all i ns l)) ∙ so

pub arguments-parts : (r : Rule ℕ) (k : ℕ) (ns : List ℕ) (i : ℕ) (front whole : List (List (Rule ℕ))) → length ns ≤ i → front ++ parts_from r k (drop i ns) ≡ whole → front ≡ whole
arguments-parts r k ns i front whole l so =
    sym (append-nil front) ∙ (sym (ap (λ (xs : List ℕ). front ++ parts_from r k xs) (drop_all i ns l)) ∙ so)

-- the rules that are left begin with the one at the place
pub rules-left : (rs : List (Rule ℕ)) (i : ℕ) (r : Rule ℕ) → slice_get rs i ≡ Some r → drop i rs ≡ r ∷ drop (i + 1) rs
rules-left rs i r e =
    drop_more rs i r (slice_get_within rs i r e) ∙ ap (λ (x : Rule ℕ). x ∷ drop (i + 1) rs) (get_or_from_slice_get rs i r r e)

-- one rule more
pub rule-last : (k next : ℕ) (rs : List (Rule ℕ)) (i : ℕ) (r last : Rule ℕ) (front whole : List (Rule ℕ)) → slice_get rs i ≡ Some r → last ≡ last_of k r → next ≡ k + part_count r → front ++ lasts_in k (drop i rs) ≡ whole → (front ++ last ∷ []) ++ lasts_in next (drop (i + 1) rs) ≡ whole
rule-last k next rs i r last front whole e f g so =
    append_assoc front (last ∷ []) (lasts_in next (drop (i + 1) rs))
    ∙ ((λ j. front ++ f j ∷ lasts_in (g j) (drop (i + 1) rs)) ∙ (sym (ap (λ (xs : List (Rule ℕ)). front ++ lasts_in k xs) (rules-left rs i r e)) ∙ so))

pub rule-parts : (k next : ℕ) (rs : List (Rule ℕ)) (i : ℕ) (r : Rule ℕ) (front now whole : List (List (Rule ℕ))) → slice_get rs i ≡ Some r → now ≡ front ++ parts_of k r → next ≡ k + part_count r → front ++ parts_in k (drop i rs) ≡ whole → now ++ parts_in next (drop (i + 1) rs) ≡ whole
rule-parts k next rs i r front now whole e f g so =
    (λ j. f j ++ parts_in (g j) (drop (i + 1) rs))
    ∙ (append_assoc front (parts_of k r) (parts_in (k + part_count r) (drop (i + 1) rs))
    ∙ (sym (ap (λ (xs : List (Rule ℕ)). front ++ parts_in k xs) (rules-left rs i r e)) ∙ so))

-- no rule is left
pub rules-lasts : (k : ℕ) (rs : List (Rule ℕ)) (i : ℕ) (front whole : List (Rule ℕ)) → length rs ≤ i → front ++ lasts_in k (drop i rs) ≡ whole → front ≡ whole
rules-lasts k rs i front whole l so =
    sym (append-nil front) ∙ (sym (ap (λ (xs : List (Rule ℕ)). front ++ lasts_in k xs) (drop_all i rs l)) ∙ so)

pub rules-parts : (k : ℕ) (rs : List (Rule ℕ)) (i : ℕ) (front whole : List (List (Rule ℕ))) → length rs ≤ i → front ++ parts_in k (drop i rs) ≡ whole → front ≡ whole
rules-parts k rs i front whole l so =
    sym (append-nil front) ∙ (sym (ap (λ (xs : List (Rule ℕ)). front ++ parts_in k xs) (drop_all i rs l)) ∙ so)

-- how many parts there are after a rule, and after the rules of a node
pub parts-after : (old new : List Step) (k : ℕ) (r : Rule ℕ) → map part_node new ≡ map part_node old ++ parts_of k r → length new ≡ length old + part_count r
parts-after old new k r e =
    let sizes = ap (λ (xs : List (List (Rule ℕ))). length xs) e in
    omega (arith, sizes, length-map new part_node, length-map old part_node, length-append (map part_node old) (parts_of k r), parts_of-length k r)

pub parts-behind : (old new : List Step) (k : ℕ) (rs : List (Rule ℕ)) → map part_node new ≡ map part_node old ++ parts_in k rs → length new ≡ length old + parts_count rs
parts-behind old new k rs e =
    let sizes = ap (λ (xs : List (List (Rule ℕ))). length xs) e in
    omega (arith, sizes, length-map new part_node, length-map old part_node, length-append (map part_node old) (parts_in k rs), parts_in-length k rs)

-- The first i nodes of the book are put into the columns.
pub record IsSteppedTo (book : List (List (Rule ℕ))) (count i : ℕ) (lasts : List Step) (ends : List ℕ) (parts : List Step) : Type 0 where
  pub node_rules : cut (map step_rule lasts) 0 ends ++ all_lasts (count + length parts) (drop i book) ≡ all_lasts count book
  pub part_rules : map part_node parts ++ all_parts (count + length parts) (drop i book) ≡ all_parts count book
  pub column : AreEnds 0 (length lasts) ends
  pub counted : length ends ≡ i
  pub few : count + length parts < 2 ^ 32
  pub within : (j : ℕ) → j < i → HaveNodesBelow (length book) (rules_at book j)

pub stepped-none : (book : List (List (Rule ℕ))) (count : ℕ) (lasts : List Step) (ends : List ℕ) (parts : List Step) → lasts ≡ [] → ends ≡ [] → parts ≡ [] → count < 2 ^ 32 → IsSteppedTo book count 0 lasts ends parts
stepped-none book count lasts ends parts l e p few =
    let zeros : count + 0 ≡ count = omega arith in
    let begun : IsSteppedTo book count 0 [] [] [] =
    record {
      node_rules = ap (λ (k : ℕ). all_lasts k book) zeros;
      part_rules = ap (λ (k : ℕ). all_parts k book) zeros;
      column = refl;
      counted = refl;
      few = omega (arith, few);
      within = λ j less. absurd (omega (arith, less));
    } in
    subst (λ (xs : List Step). IsSteppedTo book count 0 xs ends parts) (sym l)
    (subst (λ (xs : List ℕ). IsSteppedTo book count 0 [] xs parts) (sym e)
    (subst (λ (xs : List Step). IsSteppedTo book count 0 [] [] xs) (sym p) begun))

-- one node more
pub stepped-more : (book : List (List (Rule ℕ))) (count i : ℕ) (lasts : List Step) (ends : List ℕ) (parts lasts' : List Step) (end : ℕ) (ends' : List ℕ) (parts' : List Step)
    → IsSteppedTo book count i lasts ends parts → i < length book
    → map step_rule lasts' ≡ map step_rule lasts ++ lasts_in (count + length parts) (rules_at book i)
    → map part_node parts' ≡ map part_node parts ++ parts_in (count + length parts) (rules_at book i)
    → count + length parts' < 2 ^ 32 → end ≡ length lasts' → ends' ≡ ends ++ end ∷ [] → HaveNodesBelow (length book) (rules_at book i)
    → IsSteppedTo book count (i + 1) lasts' ends' parts'
stepped-more book count i lasts ends parts lasts' end ends' parts' h l d p few e f within =
    let rs = rules_at book i in
    let k = count + length parts in
    let rest = drop (i + 1) book in
    let xs = map step_rule lasts in
    let ys = lasts_in k rs in
    let left : drop i book ≡ rs ∷ rest = drop_more book i [] l in
    let after : count + length parts' ≡ k + parts_count rs = omega (arith, parts-behind parts parts' k rs p) in
    let sizes = ap (λ (zs : List (Rule ℕ)). length zs) d in
    let size : length lasts' ≡ length (xs ++ ys) = omega (arith, sizes, length-map lasts' step_rule) in
    let grown : length lasts ≤ end = omega (arith, e, size, length-append xs ys, length-map lasts step_rule) in
    let column : AreEnds 0 (length xs) ends = subst (λ (n : ℕ). AreEnds 0 n ends) (sym (length-map lasts step_rule)) h.column in
    let pushed : cut (map step_rule lasts') 0 ends' ≡ cut xs 0 ends ++ ys ∷ [] = (λ j. cut (d j) 0 (f j)) ∙ cut-push xs ys end ends column (omega (arith, e, size)) in
    record {
      node_rules = (λ j. pushed j ++ all_lasts (after j) rest)
          ∙ (append_assoc (cut xs 0 ends) (ys ∷ []) (all_lasts (k + parts_count rs) rest)
          ∙ (sym (ap (λ (nodes : List (List (Rule ℕ))). cut xs 0 ends ++ all_lasts k nodes) left) ∙ h.node_rules));
      part_rules = (λ j. p j ++ all_parts (after j) rest)
          ∙ (append_assoc (map part_node parts) (parts_in k rs) (all_parts (k + parts_count rs) rest)
          ∙ (sym (ap (λ (nodes : List (List (Rule ℕ))). map part_node parts ++ all_parts k nodes) left) ∙ h.part_rules));
      column = subst (λ (es : List ℕ). AreEnds 0 (length lasts') es) (sym f)
          (subst (λ (n : ℕ). AreEnds 0 n (ends ++ end ∷ [])) e (ends-push 0 (length lasts) end ends h.column grown));
      counted = (let n = ap (λ (es : List ℕ). length es) f in omega (arith, n, length-append ends (end ∷ []), h.counted));
      few = few;
      within = λ j less. elim (cases_lt j i) [
        | inl before ↦ h.within j before
        | inr past ↦ subst (λ (n : ℕ). HaveNodesBelow (length book) (rules_at book n)) (let is : i ≡ j = omega (arith, less, past) in is) within
      ];
    }

-- no node is left
pub stepped-all : (book : List (List (Rule ℕ))) (count i : ℕ) (lasts : List Step) (ends : List ℕ) (parts : List Step) → IsSteppedTo book count i lasts ends parts → length book ≤ i → count ≡ length book → step_book lasts ends parts ≡ stepwise book
stepped-all book count i lasts ends parts h l e =
    let k = count + length parts in
    let none = drop_all i book l in
    let nodes : cut (map step_rule lasts) 0 ends ≡ all_lasts count book =
    sym (append-nil (cut (map step_rule lasts) 0 ends)) ∙ (sym (ap (λ (b : List (List (Rule ℕ))). cut (map step_rule lasts) 0 ends ++ all_lasts k b) none) ∙ h.node_rules) in
    let others : map part_node parts ≡ all_parts count book =
    sym (append-nil (map part_node parts)) ∙ (sym (ap (λ (b : List (List (Rule ℕ))). map part_node parts ++ all_parts k b) none) ∙ h.part_rules) in
    (λ j. nodes j ++ others j) ∙ (λ j. all_lasts (e j) book ++ all_parts (e j) book)

pub stepped-book : (book : List (List (Rule ℕ))) (count i : ℕ) (lasts : List Step) (ends : List ℕ) (parts : List Step) → IsSteppedTo book count i lasts ends parts → length book ≤ i → 1 ≤ length book → IsRuleBook book
stepped-book book count i lasts ends parts h l some = record {
  some = some;
  within = λ j. elim (cases_lt j (length book)) [
    | inl below ↦ h.within j (omega (arith, below, l))
    | inr past ↦ subst (λ (rs : List (Rule ℕ)). HaveNodesBelow (length book) rs) (sym (get_or_past book j [] past)) tt
  ];
}

pub step_book-length : (lasts : List Step) (ends : List ℕ) (parts : List Step) → length (step_book lasts ends parts) ≡ length ends + length parts
step_book-length lasts ends parts =
    omega (arith, length-append (cut (map step_rule lasts) 0 ends) (map part_node parts), length-cut (map step_rule lasts) 0 ends, length-map parts part_node)

-- the steps of a node, and of a part
pub lasts-at : (lasts : List Step) (ends : List ℕ) (parts : List Step) (i : ℕ) → i < length ends → map step_rule (get_or (cut lasts 0 ends) i []) ≡ rules_at (step_book lasts ends parts) i
lasts-at lasts ends parts i l =
    let within : i < length (cut (map step_rule lasts) 0 ends) = omega (arith, l, length-cut (map step_rule lasts) 0 ends) in
    sym (get_or-map (map step_rule) (cut lasts 0 ends) i [] [] (omega (arith, l, length-cut lasts 0 ends)))
    ∙ (sym (ap (λ (nodes : List (List (Rule ℕ))). get_or nodes i []) (cut-map step_rule lasts 0 ends))
    ∙ sym (get_or_append_left (cut (map step_rule lasts) 0 ends) (map part_node parts) [] i within))

pub parts-at : (lasts : List Step) (ends : List ℕ) (parts : List Step) (i k : ℕ) → length ends ≤ i → k ≡ i - length ends → rules_at (map part_node parts) k ≡ rules_at (step_book lasts ends parts) i
parts-at lasts ends parts i k l e =
    ap (rules_at (map part_node parts)) e
    ∙ sym (get_or-append_right (cut (map step_rule lasts) 0 ends) (map part_node parts) (length ends) i [] (length-cut (map step_rule lasts) 0 ends) l)

pub part-at : (parts : List Step) (i n : ℕ) → i < length parts → n ≡ 1 → map step_rule (take n (drop i parts)) ≡ rules_at (map part_node parts) i
part-at [] i n l e = absurd (omega (arith, l))
part-at (s ∷ parts) zero n l e = ap (λ (m : ℕ). map step_rule (take m (s ∷ parts))) e
part-at (s ∷ parts) (suc i) n l e = part-at parts i n (omega (arith, l)) e
