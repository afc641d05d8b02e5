-- What stands for the first time in a list of rules, and the way from a rule of the definition back to one of the program. Proofs,
-- on which Typings, Determined and Readiness stand.
use Rattle.std.proofs.Common.{ℕ, ◌≡◌, refl, sym, ◌∙◌, subst, ap, ◌⊎◌, inl, inr, List, [], ◌∷◌, ◌++◌, Contains}
use Rattle.std.specs.Prelude.{map}
use Rattle.std.specs.List.{AllZip}
use Rattle.cls_base.specs.declared.rule.Rule.{Rule}
use Rattle.cls_base.specs.declared.rule.Rule.TheVariants.{Head, Any}
use Rattle.cls_base.proofs.Lists.{Contains-nil, Contains-here, Contains-later, Contains-cases}
use Rattle.cls_path.specs.Paths.{TypePath, Paths, none, more, listed}
use Rattle.cls_cover.specs.Members.{Member, first, later}
use Rattle.cls_library.specs.Rules.{FirstOnes, no_more, fresh, again}
use Rattle.cls_expand.specs.Answers.{rule_of}

module _ {A : Type 0} where
  -- an element that was seen, or stands in the list already
  pub first_ones_old : {seen xs ys : List A} (x : A) → FirstOnes seen xs ys → Contains seen x ⊎ Contains ys x → FirstOnes seen (xs ++ x ∷ []) ys
  first_ones_old x no_more (inl m) = again m no_more
  first_ones_old x no_more (inr m) = absurd (Contains-nil x m)
  first_ones_old x (fresh {seen = seen} {ys = ys} {x = y} n h) (inl m) = fresh n (first_ones_old x h (inl (Contains-later x y seen m)))
  first_ones_old x (fresh {seen = seen} {ys = ys} {x = y} n h) (inr m) = fresh n (first_ones_old x h (elim (Contains-cases y ys x m) [
    | inl e ↦ inl (subst (λ z. Contains (y ∷ seen) z) (sym e) (Contains-here y seen))
    | inr k ↦ inr k
  ]))
  first_ones_old x (again m h) u = again m (first_ones_old x h u)

  pub first_ones_new : {seen xs ys : List A} (x : A) → FirstOnes seen xs ys → (Contains seen x → ⊥) → (Contains ys x → ⊥) → FirstOnes seen (xs ++ x ∷ []) (ys ++ x ∷ [])
  first_ones_new x no_more n k = fresh n no_more
  first_ones_new x (fresh {seen = seen} {ys = ys} {x = y} m h) n k =
      fresh m (first_ones_new x h (λ i. elim (Contains-cases y seen x i) [
        | inl e ↦ k (subst (λ z. Contains (y ∷ ys) z) (sym e) (Contains-here y ys))
        | inr j ↦ n j
      ]) (λ i. k (Contains-later x y ys i)))
  first_ones_new x (again m h) n k = again m (first_ones_new x h n k)

-- one more at the end
pub all_last : {A B : Type 0} (R : A → B → Type 0) (xs : List A) (ys : List B) (x : A) (y : B) → AllZip R xs ys → R x y → AllZip R (xs ++ x ∷ []) (ys ++ y ∷ [])
all_last R [] [] x y a r = (r, tt)
all_last R [] (z ∷ ys) x y a r = absurd a
all_last R (z ∷ xs) [] x y a r = absurd a
all_last R (z ∷ xs) (w ∷ ys) x y a r = (a.0, all_last R xs ys x y a.1 r)

pub mapped_in : {A B : Type 0} (f : A → B) {xs : List A} {x : A} → Member xs x → Member (map f xs) (f x)
mapped_in f first = first
mapped_in f (later m) = later (mapped_in f m)

pub append_last : {A : Type 0} (xs ys : List A) (x : A) → xs ++ (ys ++ x ∷ []) ≡ (xs ++ ys) ++ x ∷ []
append_last [] ys x = refl
append_last (y ∷ xs) ys x = ap (λ l. y ∷ l) (append_last xs ys x)

pub append_nothing : {A : Type 0} (xs : List A) → xs ++ [] ≡ xs
append_nothing [] = refl
append_nothing (x ∷ xs) = ap (λ l. x ∷ l) (append_nothing xs)

abbrev pub rule_component : Rule Paths → ℕ
rule_component (Head x args) = x
rule_component (Any n m) = 0

abbrev pub rule_args : Rule Paths → List Paths
rule_args (Head x args) = args
rule_args (Any n m) = []

abbrev pub unlisted : Paths → List TypePath
unlisted none = []
unlisted (more p n) = p ∷ unlisted n

pub unlisted_back : (ps : List TypePath) → unlisted (listed ps) ≡ ps
unlisted_back [] = refl
unlisted_back (p ∷ ps) = ap (λ l. p ∷ l) (unlisted_back ps)

pub all_back : (ns : List (List TypePath)) → map unlisted (map listed ns) ≡ ns
all_back [] = refl
all_back (n ∷ ns) = (λ i. unlisted_back n i ∷ all_back ns i)

-- a rule of the program is given by that of the definition
back : Rule Paths → Rule (List TypePath)
back (Head x ns) = Head x (map unlisted ns)
back (Any n m) = Any (unlisted n) (unlisted m)

back_is : (r : Rule (List TypePath)) → back (rule_of r) ≡ r
unfolding back
back_is (Head x args) = ap (Head x) (all_back args)
back_is (Any n m) = (λ i. Any (unlisted_back n i) (unlisted_back m i))

-- rules of the program that are one rule of the definition are equal
pub rule_given : (r q : Rule (List TypePath)) → rule_of r ≡ rule_of q → r ≡ q
rule_given r q e = sym (back_is r) ∙ (ap back e ∙ back_is q)

backs_are : (rs : List (Rule (List TypePath))) → map back (map rule_of rs) ≡ rs
backs_are [] = refl
backs_are (r ∷ rs) = (λ i. back_is r i ∷ backs_are rs i)

pub code_same : (rs qs : List (Rule (List TypePath))) → map rule_of rs ≡ map rule_of qs → rs ≡ qs
code_same rs qs e = sym (backs_are rs) ∙ (ap (map back) e ∙ backs_are qs)
