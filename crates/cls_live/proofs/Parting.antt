-- What is stored once parts are put at their numbers.
use Rattle.std.proofs.Common.{ℕ, zero, suc, ◌≡◌, ◌+◌, ◌<◌, ◌≤◌, refl, sym, ◌∙◌, subst, ap, inl, inr, List, [], ◌∷◌, ◌++◌, length, get_or, set, replicate, arith, Contains}
use Rattle.std.specs.List.{AllZip}
use Rattle.std.proofs.lemmas.List.Sums.{sum_by-cons, sum_by-append}
use Rattle.std.proofs.lemmas.List.Elements.{Contains-append_right}
use Rattle.std.proofs.lemmas.List.{length-set}
use Rattle.cls_base.proofs.Lists.{Contains-nil, Contains-here, Contains-later, Contains-cases}
use Rattle.cls_live.specs.declared.known.Known.{Known}
use Rattle.cls_live.specs.declared.known.Part.{Part}
use Rattle.cls_live.specs.Parts.{Goal}
use Rattle.cls_live.specs.Slots.{nothing, rules_in}
use Rattle.cls_live.specs.Updates.{end_at, rules_in_parts, with_parts}

pub zip_length : (P : Goal → Known → Type 0) (goals : List Goal) (known : List Known) → AllZip P goals known → length goals ≡ length known
zip_length P [] [] z = refl
zip_length P [] (k ∷ known) z = absurd z
zip_length P (g ∷ goals) [] z = absurd z
zip_length P (g ∷ goals) (k ∷ known) z = ap suc (zip_length P goals known z.1)

pub zip_at : (P : Goal → Known → Type 0) (goals : List Goal) (known : List Known) (n : ℕ) → AllZip P goals known → n < length goals
    → P (get_or goals n []) (get_or known n nothing)
zip_at P [] known n z m = absurd (omega arith)
zip_at P (g ∷ goals) [] n z m = absurd z
zip_at P (g ∷ goals) (k ∷ known) zero z m = z.0
zip_at P (g ∷ goals) (k ∷ known) (suc n) z m = zip_at P goals known n z.1 (omega arith)

pub zip_both : (P : Goal → Known → Type 0) (goals more : List Goal) (known others : List Known) → AllZip P goals known → AllZip P more others
    → AllZip P (goals ++ more) (known ++ others)
zip_both P [] more [] others z w = w
zip_both P [] more (k ∷ known) others z w = absurd z
zip_both P (g ∷ goals) more [] others z w = absurd z
zip_both P (g ∷ goals) more (k ∷ known) others z w = (z.0, zip_both P goals more known others z.1 w)

pub zip_other : (P Q : Goal → Known → Type 0) (goals : List Goal) (known : List Known) → ((g : Goal) (k : Known) → P g k → Q g k) → AllZip P goals known → AllZip Q goals known
zip_other P Q [] [] f z = tt
zip_other P Q [] (k ∷ known) f z = absurd z
zip_other P Q (g ∷ goals) [] f z = absurd z
zip_other P Q (g ∷ goals) (k ∷ known) f z = (f g k z.0, zip_other P Q goals known f z.1)

pub zip_nothing : (P : Goal → Known → Type 0) (goals : List Goal) → ((g : Goal) → P g nothing) → AllZip P goals (replicate (length goals) nothing)
zip_nothing P [] f = tt
zip_nothing P (g ∷ goals) f = (f g, zip_nothing P goals f)

zip_set : (P : Goal → Known → Type 0) (goals : List Goal) (known : List Known) (n : ℕ) (k : Known) → AllZip P goals known
    → P (get_or goals n []) k → AllZip P goals (set known n k)
zip_set P [] [] n k z p = tt
zip_set P [] (u ∷ known) n k z p = absurd z
zip_set P (g ∷ goals) [] n k z p = absurd z
zip_set P (g ∷ goals) (u ∷ known) zero k z p = (p, z.1)
zip_set P (g ∷ goals) (u ∷ known) (suc n) k z p = (z.0, zip_set P goals known n k z.1 p)

pub zip_parts : (P : Goal → Known → Type 0) (goals : List Goal) (known : List Known) (parts : List Part) → AllZip P goals known
    → ((u : Part) → Contains parts u → P (get_or goals u.number []) u.known) → AllZip P goals (with_parts known parts)
zip_parts P goals known [] z f = z
zip_parts P goals known (u ∷ parts) z f =
    zip_parts P goals (set known u.number u.known) parts (zip_set P goals known u.number u.known z (f u (Contains-here u parts))) (λ v m. f v (Contains-later v u parts m))

-- the number of rules
rules_set : (known : List Known) (n : ℕ) (k : Known) → rules_in (set known n k) ≤ rules_in known + length k.rules
rules_set [] n k = omega arith
rules_set (u ∷ known) zero k =
    omega (arith, sum_by-cons (λ (k : Known). length k.rules) k known, sum_by-cons (λ (k : Known). length k.rules) u known)
rules_set (u ∷ known) (suc n) k =
    let rest = rules_set known n k in
    omega (arith, sum_by-cons (λ (k : Known). length k.rules) u (set known n k), sum_by-cons (λ (k : Known). length k.rules) u known)

pub rules_parts : (known : List Known) (parts : List Part) → rules_in (with_parts known parts) ≤ rules_in known + rules_in_parts parts
rules_parts known [] = omega arith
rules_parts known (u ∷ parts) =
    let here = rules_set known u.number u.known in
    let rest = rules_parts (set known u.number u.known) parts in
    omega (arith, sum_by-cons (λ (u : Part). length u.known.rules) u parts)

pub rules_nothing : (known : List Known) (n : ℕ) → rules_in (known ++ replicate n nothing) ≡ rules_in known
rules_nothing known n =
    let both = sum_by-append (λ (k : Known). length k.rules) known (replicate n nothing) in
    let none = all_nothing n in
    omega arith
  where
    all_nothing : (n : ℕ) → rules_in (replicate n nothing) ≡ 0
    all_nothing zero = refl
    all_nothing (suc n) = let rest = all_nothing n in omega (arith, sum_by-cons (λ (k : Known). length k.rules) nothing (replicate n nothing))

-- ends
pub end_nothing : (known : List Known) (n count : ℕ) → end_at (known ++ replicate count nothing) n ≡ end_at known n
end_nothing [] n count = all_nothing n count
  where
    all_nothing : (n count : ℕ) → end_at (replicate count nothing) n ≡ 0
    all_nothing n zero = refl
    all_nothing zero (suc count) = refl
    all_nothing (suc n) (suc count) = all_nothing n count
end_nothing (k ∷ known) zero count = refl
end_nothing (k ∷ known) (suc n) count = end_nothing known n count

end_kept : (known : List Known) (i n next : ℕ) (k : Known) → k.end ≡ next → end_at known n ≡ next → end_at (set known i k) n ≡ next
end_kept [] i n next k e h = h
end_kept (u ∷ known) zero zero next k e h = e
end_kept (u ∷ known) zero (suc n) next k e h = h
end_kept (u ∷ known) (suc i) zero next k e h = h
end_kept (u ∷ known) (suc i) (suc n) next k e h = end_kept known i n next k e h

end_here : (known : List Known) (i : ℕ) (k : Known) → i < length known → end_at (set known i k) i ≡ k.end
end_here [] i k m = absurd (omega arith)
end_here (u ∷ known) zero k m = refl
end_here (u ∷ known) (suc i) k m = end_here known i k (omega arith)

pub parts_length : (known : List Known) (parts : List Part) → length (with_parts known parts) ≡ length known
parts_length known [] = refl
parts_length known (u ∷ parts) = parts_length (set known u.number u.known) parts ∙ length-set known u.number u.known

module _ (next : ℕ) where
  -- an end that is the next slot stays there
  pub ends_kept : (known : List Known) (parts : List Part) (n : ℕ) → ((u : Part) → Contains parts u → u.known.end ≡ next)
      → end_at known n ≡ next → end_at (with_parts known parts) n ≡ next
  ends_kept known [] n f h = h
  ends_kept known (u ∷ parts) n f h =
      ends_kept (set known u.number u.known) parts n (λ v m. f v (Contains-later v u parts m))
      (end_kept known u.number n next u.known (f u (Contains-here u parts)) h)

  pub ends_put : (known : List Known) (parts : List Part) (u : Part) → ((v : Part) → Contains parts v → v.known.end ≡ next)
      → Contains parts u → u.number < length known → end_at (with_parts known parts) u.number ≡ next
  ends_put known [] u f c m = absurd (Contains-nil u c)
  ends_put known (v ∷ parts) u f c m = elim (Contains-cases v parts u c) [
    | inl same ↦ (
        let here = end_here known v.number v.known (subst (λ (w : Part). w.number < length known) same m) in
        let is = ends_kept (set known v.number v.known) parts v.number (λ w k. f w (Contains-later w v parts k)) (here ∙ f v (Contains-here v parts)) in
        subst (λ (w : Part). end_at (with_parts (set known v.number v.known) parts) w.number ≡ next) (sym same) is)
    | inr rest ↦
        ends_put (set known v.number v.known) parts u (λ w k. f w (Contains-later w v parts k)) rest
        (let long = length-set known v.number v.known in omega arith)
  ]

  end_rises : (known : List Known) (i n : ℕ) (k : Known) → k.end ≡ next → end_at known n ≤ next
      → (end_at known n ≤ end_at (set known i k) n) × (end_at (set known i k) n ≤ next)
  end_rises [] i n k e h = (omega arith, h)
  end_rises (u ∷ known) zero zero k e h = (let low : u.end ≤ next = h in let high : k.end ≡ next = e in omega arith, omega arith)
  end_rises (u ∷ known) zero (suc n) k e h = (omega arith, h)
  end_rises (u ∷ known) (suc i) zero k e h = (omega arith, h)
  end_rises (u ∷ known) (suc i) (suc n) k e h = end_rises known i n k e h

  -- ends don't fall
  pub ends_rise : (known : List Known) (parts : List Part) (n : ℕ) → ((u : Part) → Contains parts u → u.known.end ≡ next)
      → end_at known n ≤ next → end_at known n ≤ end_at (with_parts known parts) n
  ends_rise known [] n f h = omega arith
  ends_rise known (u ∷ parts) n f h =
      let one = end_rises known u.number n u.known (f u (Contains-here u parts)) h in
      let first = one.0 in
      let rest = ends_rise (set known u.number u.known) parts n (λ v m. f v (Contains-later v u parts m)) one.1 in
      omega arith

-- no part is left
pub parts_done : (known : List Known) (parts : List Part) → length parts ≡ 0 → known ≡ with_parts known parts
parts_done known [] e = refl
parts_done known (u ∷ parts) e = absurd (omega arith)

-- the next part is one of all
pub part_within_of : (parts done rest : List Part) (u : Part) (count : ℕ) → parts ≡ done ++ u ∷ rest → ((v : Part) → Contains parts v → v.number < count) → u.number < count
part_within_of parts done rest u count e f =
    f u (subst (λ (us : List Part). Contains us u) (sym e) (Contains-append_right done (u ∷ rest) u (Contains-here u rest)))
