-- Numbers in place of goals. Different goals have different numbers.
use Rattle.std.proofs.Common.{ℕ, ◌≡◌, ◌++◌, ◌+◌, ◌⊎◌, refl, sym, ◌∙◌, subst, ap, inl, inr, List, [], ◌∷◌, map, Bool, true, false, cond, not, ◌||◌, if◌then◌else◌, arith}
use Rattle.std.specs.Prelude.{nat_eq, Contains}
use Rattle.std.specs.List.{list_any, position_or_len}
use Rattle.std.proofs.lemmas.Bool.Decides.{nat_tests}
use Rattle.std.proofs.lemmas.List.{map-append}
use Rattle.std.proofs.lemmas.Simd.{map-map}
use Rattle.indexmap.specs.IndexSet.{insert_key, insert_all}
use Rattle.cls_base.specs.declared.rule.Rule.{Rule}
use Rattle.cls_base.specs.declared.rule.Rule.TheVariants.{Head, Any}
use Rattle.cls_core.specs.declared.answer.Answer.{Answer}
use Rattle.cls_core.specs.declared.answer.Answer.TheVariants.{Rules, Wide}
use Rattle.cls_core.specs.Arguments.{arguments_of, map_answer}
use Rattle.cls_base.specs.Arguments.{arguments_of_rule, arguments_in, map_rule}
use Rattle.cls_base.proofs.Lists.{Contains-nil, Contains-here, Contains-later, Contains-cases, Contains-map, Contains-from_map}
use Rattle.cls_core.proofs.Members.{all-only}

module _ {G : Type 0} (f : G → ℕ) where
  rule-arguments : (r : Rule G) → arguments_of_rule (map_rule f r) ≡ map f (arguments_of_rule r)
  rule-arguments (Head component args) = refl
  rule-arguments (Any left right) = refl

  rules-arguments : (rs : List (Rule G)) → arguments_in (map (map_rule f) rs) ≡ map f (arguments_in rs)
  rules-arguments [] = refl
  rules-arguments (r ∷ rs) =
      (λ k. rule-arguments r k ++ rules-arguments rs k) ∙ sym (map-append f (arguments_of_rule r) (arguments_in rs))

  -- the arguments of an answer in numbers
  pub answer-arguments : (a : Answer G) → arguments_of (map_answer f a) ≡ map f (arguments_of a)
  answer-arguments (Rules rs) = rules-arguments rs
  answer-arguments Wide = refl

  pub argument-there : (a : Answer G) (g : G) → Contains (arguments_of a) g → Contains (arguments_of (map_answer f a)) (f g)
  argument-there a g h = subst (λ l. Contains l (f g)) (sym (answer-arguments a)) (Contains-map f (arguments_of a) g h)

  pub argument-back : (a : Answer G) (n : ℕ) → Contains (arguments_of (map_answer f a)) n
      → (g : G) × Contains (arguments_of a) g × (n ≡ f g)
  argument-back a n h = Contains-from_map f (arguments_of a) n (subst (λ l. Contains l n) (answer-arguments a) h)

  module _ (h : ℕ → ℕ) where
    rule-twice : (r : Rule G) → map_rule h (map_rule f r) ≡ map_rule (λ g. h (f g)) r
    rule-twice (Head component args) = ap (Head component) (map-map h f args)
    rule-twice (Any left right) = refl

    rules-twice : (rs : List (Rule G)) → map (map_rule h) (map (map_rule f) rs) ≡ map (map_rule (λ g. h (f g))) rs
    rules-twice [] = refl
    rules-twice (r ∷ rs) = λ k. rule-twice r k ∷ rules-twice rs k

    -- an answer in numbers, and these in other numbers
    pub answer-twice : (a : Answer G) → map_answer h (map_answer f a) ≡ map_answer (λ g. h (f g)) a
    answer-twice (Rules rs) = ap Rules (rules-twice rs)
    answer-twice Wide = refl

module _ {G : Type 0} (eq : G → G → Bool) (exact : (x y : G) → eq x y ≡ true → x ≡ y) (reflexive : (x : G) → eq x x ≡ true) (f : G → ℕ) (all : List G) (apart : (g h : G) → Contains all g → Contains all h → f g ≡ f h → g ≡ h) where
  abbrev Within : List G → Type 0
  Within gs = (g : G) → Contains gs g → Contains all g

  test-same : (x y : G) → Contains all x → Contains all y → nat_eq (f x) (f y) ≡ eq x y
  test-same x y m n = by (eq x y) refl (nat_eq (f x) (f y)) refl
    where
      by : (b : Bool) → eq x y ≡ b → (c : Bool) → nat_eq (f x) (f y) ≡ c → c ≡ b
      by true e true d = refl
      by true e false d = (let s : f x ≡ f y = ap f (exact x y e) in grind (arith, nat_tests))
      by false e true d =
          (let s : f x ≡ f y = grind (arith, nat_tests) in let t = subst (λ z. eq x z ≡ true) (apart x y m n s) (reflexive x) in cc)
      by false e false d = refl

  any-same : (gs : List G) (x : G) → Within gs → Contains all x → list_any (nat_eq (f x)) (map f gs) ≡ list_any (eq x) gs
  any-same [] x q m = refl
  any-same (g ∷ gs) x q m =
      λ k. test-same x g m (q g (Contains-here g gs)) k || any-same gs x (λ y n. q y (Contains-later y g gs n)) m k

  -- a goal's number stands where the goal stands
  pub place-same : (gs : List G) (x : G) → Within gs → Contains all x
      → position_or_len (nat_eq (f x)) (map f gs) ≡ position_or_len (eq x) gs
  place-same [] x q m = refl
  place-same (g ∷ gs) x q m =
      λ k. cond (not (test-same x g m (q g (Contains-here g gs)) k)) (1 + place-same gs x (λ y n. q y (Contains-later y g gs n)) m k) 0

  key-same : (gs : List G) (x : G) → Within gs → Contains all x → insert_key nat_eq (map f gs) (f x) ≡ map f (insert_key eq gs x)
  key-same gs x q m =
      ap (λ (b : Bool). if b then map f gs else map f gs ++ f x ∷ []) (any-same gs x q m) ∙ by (list_any (eq x) gs)
    where
      by : (b : Bool) → (if b then map f gs else map f gs ++ f x ∷ []) ≡ map f (if b then gs else gs ++ x ∷ [])
      by true = refl
      by false = sym (map-append f gs (x ∷ []))

  -- numbers that are put behind others are the numbers of the goals that are put behind others
  pub all-same : (gs xs : List G) → Within gs → Within xs → insert_all nat_eq (map f gs) (map f xs) ≡ map f (insert_all eq gs xs)
  all-same gs [] q r = refl
  all-same gs (x ∷ xs) q r =
      ap (λ l. insert_all nat_eq l (map f xs)) (key-same gs x q (r x (Contains-here x xs)))
      ∙ all-same (insert_key eq gs x) xs (λ y n. elim (all-only eq exact reflexive gs (x ∷ []) y n) [ inl l ↦ q y l | inr s ↦ by y (Contains-cases x [] y s) ]) (λ y n. r y (Contains-later y x xs n))
    where
      by : (y : G) → (y ≡ x) ⊎ Contains [] y → Contains all y
      by y (inl e) = subst (λ z. Contains all z) (sym e) (r x (Contains-here x xs))
      by y (inr t) = absurd (Contains-nil y t)
