-- The parts of rows, one row after the other.
use Rattle.std.proofs.Common.{ℕ, zero, suc, ◌≡◌, ◌+◌, ◌<◌, ◌≤◌, refl, sym, ◌∙◌, subst, ap, ◌⊎◌, inl, inr, List, [], ◌∷◌, ◌++◌, Option, Some, length, get_or, slice_get, take, arith, Contains}
use Rattle.std.specs.Prelude.{map}
use Rattle.std.specs.List.{sum_by}
use Rattle.std.proofs.lemmas.List.Elements.{Contains-append_left, Contains-append_right, Contains-append_cases}
use Rattle.std.proofs.lemmas.List.Sums.{sum_by_more, sum_by_push}
use Rattle.std.proofs.lemmas.Option.{get_or_from_slice_get, slice_get_within}
use Rattle.std.proofs.lemmas.List.{length-map}
use Rattle.cls_base.specs.declared.rule.Rule.{Rule}
use Rattle.cls_base.proofs.Lists.{Contains-nil, Contains-here, Contains-cases}
use Rattle.cls_core.specs.declared.answer.Answer.{Answer}
use Rattle.cls_core.specs.declared.answer.Answer.TheVariants.{Rules, Wide}
use Rattle.cls_core.specs.Arguments.{rule_count, rules_of}
use Rattle.cls_core.specs.Rows.{Row}
use Rattle.cls_live.specs.declared.known.Known.{Known}
use Rattle.cls_live.specs.declared.known.Part.{Part}
use Rattle.cls_live.specs.Parts.{Goal}
use Rattle.cls_live.specs.Slots.{nothing, settled}
use Rattle.cls_live.specs.Updates.{AreUpdates, IsPart, PutsPart, end_at, part_of, row_of}

-- below which slot all is known of a goal that is there, and of one that isn't
pub end_found : (known : List Known) (n : ℕ) (k : Known) → slice_get known n ≡ Some k → k.end ≡ end_at known n
end_found known n k e = sym (ap (λ (u : Known). u.end) (get_or_from_slice_get known n k nothing e))

pub end_past : (known : List Known) (n : ℕ) → length known ≤ n → 0 ≡ end_at known n
end_past [] n m = refl
end_past (k ∷ known) zero m = absurd (omega arith)
end_past (k ∷ known) (suc n) m = end_past known n (omega arith)

-- a row that is wide or known already
pub puts_wide :
    (live numbers : List ℕ) (next end number : ℕ) (a : Answer ℕ) (parts : List Part) → a ≡ Wide → PutsPart live numbers next end number a parts parts
puts_wide live numbers next end number a parts e = subst (λ (b : Answer ℕ). PutsPart live numbers next end number b parts parts) (sym e) refl

pub puts_none :
    (live numbers : List ℕ) (next end number : ℕ) (a : Answer ℕ) (rules : List (Rule ℕ)) (parts : List Part) → a ≡ Rules rules → end ≡ next
    → PutsPart live numbers next end number a parts parts
puts_none live numbers next end number a rules parts e same =
    subst (λ (b : Answer ℕ). PutsPart live numbers next end number b parts parts) (sym e) (inl (same, refl))

pub puts_one :
    (live numbers : List ℕ) (next end number : ℕ) (a : Answer ℕ) (rules stored : List (Rule ℕ)) (old new : List Part) → a ≡ Rules rules
    → stored ≡ map (settled live numbers) rules → new ≡ old ++ record { number = number; known = record { end = next; rules = stored } } ∷ []
    → PutsPart live numbers next end number a old new
puts_one live numbers next end number a rules stored old new e is put =
    subst (λ (b : Answer ℕ). PutsPart live numbers next end number b old new) (sym e)
    (inr (put ∙ ap (λ (rs : List (Rule ℕ)). old ++ record { number = number; known = record { end = next; rules = rs } } ∷ []) is))

row_is : (o : Option (Row Goal)) (r q : Row Goal) → o ≡ Some r → o ≡ Some q → r ≡ q
row_is o r q e f = cc

last_or_before : (place n : ℕ) → place < n + 1 → (place < n) ⊎ (place ≡ n)
last_or_before place n m = grind arith

module _ (live : List ℕ) (next : ℕ) (known : List Known) (rows : List (Row Goal)) (numbers : List ℕ) where
  abbrev Parts : ℕ → List Part → Type 0
  Parts n parts = AreUpdates live next known rows numbers n parts

  abbrev Rows : ℕ → ℕ
  Rows n = sum_by (λ (r : Row Goal). rule_count r.answer) (take n rows)

  pub none_put : Parts 0 []
  none_put = record {
    each = λ u m. absurd (Contains-nil u m);
    all = λ place goal rules m e. absurd (let k : place < 0 = m in omega arith);
    light = omega arith;
  }

  part_later : (n : ℕ) (u : Part) → IsPart live next known rows numbers n u → IsPart live next known rows numbers (n + 1) u
  part_later n u p = record {
    place = p.place;
    goal = p.goal;
    rules = p.rules;
    first = let m : p.place < n = p.first in omega arith;
    here = p.here;
    is = p.is;
  }

  module _ (n : ℕ) (old : List Part) (r : Row Goal) (here : slice_get rows n ≡ Some r) (h : Parts n old) where
    more : Rows (n + 1) ≡ Rows n + rule_count r.answer
    more =
        sum_by_more (λ (r : Row Goal). rule_count r.answer) rows n r (slice_get_within rows n r here)
        ∙ ap (λ (q : Row Goal). Rows n + rule_count q.answer) (get_or_from_slice_get rows n r r here)

    -- nothing is put, since the row is wide or known already
    same_parts :
        ((goal : Goal) (rules : List (Rule ℕ)) → r ≡ row_of goal rules → end_at known (get_or numbers n 0) ≡ next) → Parts (n + 1) old
    same_parts f = record {
      each = λ u m. part_later n u (h.each u m);
      all = λ place goal rules m e. by place goal rules e (last_or_before place n m);
      light = let light = h.light in let sum = more in omega arith;
    }
      where
        by : (place : ℕ) (goal : Goal) (rules : List (Rule ℕ)) → slice_get rows place ≡ Some (row_of goal rules) → (place < n) ⊎ (place ≡ n)
            → (end_at known (get_or numbers place 0) ≡ next) ⊎ Contains old (part_of live numbers next (get_or numbers place 0) rules)
        by place goal rules e (inl m) = h.all place goal rules m e
        by place goal rules e (inr same) =
            let at = subst (λ k. slice_get rows k ≡ Some (row_of goal rules)) same e in
            inl (ap (λ k. end_at known (get_or numbers k 0)) same ∙ f goal rules (row_is (slice_get rows n) r (row_of goal rules) here at))

    abbrev last_part : List (Rule ℕ) → Part
    last_part rules = part_of live numbers next (get_or numbers n 0) rules

    -- the part of the row is put last
    part_put : (rules : List (Rule ℕ)) → r.answer ≡ Rules rules → Parts (n + 1) (old ++ part_of live numbers next (get_or numbers n 0) rules ∷ [])
    part_put rules e = record {
      each = λ u m. each u (Contains-append_cases old (last_part rules ∷ []) u m);
      all = λ place goal others m f. by place goal others f (last_or_before place n m);
      light =
          let light = h.light in
          let sum = more in
          let push = sum_by_push (λ (u : Part). length u.known.rules) old (last_part rules) in
          let count = length-map rules (settled live numbers) in
          let is = ap rule_count e in
          omega arith;
    }
      where
        this_row : r ≡ row_of r.goal rules
        this_row = (λ i. record { goal = r.goal; answer = e i })

        each : (u : Part) → Contains old u ⊎ Contains (last_part rules ∷ []) u → IsPart live next known rows numbers (n + 1) u
        each u (inl m) = part_later n u (h.each u m)
        each u (inr m) = elim (Contains-cases (last_part rules) [] u m) [
          | inl same ↦ record {
            place = n;
            goal = r.goal;
            rules = rules;
            first = omega arith;
            here = here ∙ ap Some this_row;
            is = same;
          }
          | inr k ↦ absurd (Contains-nil u k)
        ]

        by : (place : ℕ) (goal : Goal) (others : List (Rule ℕ)) → slice_get rows place ≡ Some (row_of goal others) → (place < n) ⊎ (place ≡ n)
            → (end_at known (get_or numbers place 0) ≡ next)
            ⊎ Contains (old ++ last_part rules ∷ []) (part_of live numbers next (get_or numbers place 0) others)
        by place goal others e (inl m) = elim (h.all place goal others m e) [
          | inl k ↦ inl k
          | inr k ↦ inr (Contains-append_left old (last_part rules ∷ []) (part_of live numbers next (get_or numbers place 0) others) k)
        ]
        by place goal others f (inr same) =
            let at = subst (λ k. slice_get rows k ≡ Some (row_of goal others)) same f in
            let is = row_is (slice_get rows n) (row_of r.goal rules) (row_of goal others) (here ∙ ap Some this_row) at in
            let same_rules : rules ≡ others = ap (λ (q : Row Goal). rules_of q.answer) is in
            let last = Contains-append_right old (last_part rules ∷ []) (last_part rules) (Contains-here (last_part rules) []) in
            inr (subst (λ (u : Part). Contains (old ++ last_part rules ∷ []) u) (λ i. part_of live numbers next (get_or numbers (sym same i) 0) (same_rules i)) last)

    -- one row more
    pub one_put : (new : List Part) (number end : ℕ) → number ≡ get_or numbers n 0 → end ≡ end_at known number
        → PutsPart live numbers next end number r.answer old new → Parts (n + 1) new
    one_put new number end at is put = by r.answer refl put
      where
        by : (a : Answer ℕ) → r.answer ≡ a → PutsPart live numbers next end number a old new → Parts (n + 1) new
        by Wide e same =
            subst (Parts (n + 1)) (sym same)
            (same_parts (λ goal rules k. absurd (let clash : ◌≡◌ {A = Answer ℕ} Wide (Rules rules) = sym e ∙ ap (λ (q : Row Goal). q.answer) k in cc)))
        by (Rules rules) e (inl same) =
            subst (Parts (n + 1)) (sym same.1)
            (same_parts (λ goal others k. ap (end_at known) (sym at) ∙ (sym is ∙ same.0)))
        by (Rules rules) e (inr same) =
            subst (Parts (n + 1)) (sym (same ∙ ap (λ (k : ℕ). old ++ part_of live numbers next k rules ∷ []) at)) (part_put rules e)
