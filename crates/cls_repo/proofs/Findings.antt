-- What the tests of a line have found.
use Rattle.std.proofs.Common.{◌≡◌, ℕ, ◌≤◌, ◌<◌, Bool, true, false, List, [], refl, sym, ◌∙◌, subst, inl, inr, Contains, length}
use Rattle.std.specs.Prelude.{◌↔◌, ◌≢◌, IsTrue, IsNone, IfSome, Option, Some, None, is_some, slice_get, Result, Ok, Err, OnOk}
use Rattle.std.proofs.lemmas.Bool.{true≢false, cases_lt}
use Rattle.std.proofs.lemmas.Option.{slice_get_within}
use Rattle.cls_base.specs.declared.ty.Name.{Name}
use Rattle.cls_base.specs.Types.{ClosedType}
use Rattle.cls_base.proofs.Lists.{Contains-at}
use Rattle.cls_kind.specs.Kinds.{kind_of}

-- whether a name is held
pub held_by : (texts : List (List ℕ)) (x : List ℕ) (r : Option Name) → is_some r ≡ true → IfSome r (λ name. slice_get texts name.0 ≡ Some x) → Contains texts x
held_by texts x None e h = absurd (true≢false (sym e))
held_by texts x (Some name) e h = Contains-at texts name.0 x h

pub held_at : (texts : List (List ℕ)) (x : List ℕ) (n : ℕ) → slice_get texts n ≡ Some x → Contains texts x
held_at texts x n h = Contains-at texts n x h

pub place_of : (texts : List (List ℕ)) (x : List ℕ) (n : ℕ) → slice_get texts n ≡ Some x → n < length texts
place_of texts x n h = slice_get_within texts n x h

pub absent_by : (texts : List (List ℕ)) (x : List ℕ) (r : Option Name) → is_some r ≡ false → (IsNone r ↔ (Contains texts x → ⊥)) → Contains texts x → ⊥
absent_by texts x None e h = h.0 refl
absent_by texts x (Some name) e h = absurd (true≢false e)

pub has_text : (texts : List (List ℕ)) (x : List ℕ) (r : Option Name) (b : Bool) → b ≡ is_some r → IfSome r (λ name. slice_get texts name.0 ≡ Some x) → (IsNone r ↔ (Contains texts x → ⊥)) → IsTrue b ↔ Contains texts x
has_text texts x None b e h n = ((λ t. absurd (true≢false (sym t ∙ e))), (λ c. absurd (n.0 refl c)))
has_text texts x (Some name) b e h n = ((λ t. Contains-at texts name.0 x h), (λ c. e))

-- two facts of a result
pub on_both : {T E : Type 0} {P Q R : Type 0} (r : Result T E) → (P → Q → R) → OnOk r P → OnOk r Q → OnOk r R
on_both (Ok x) f p q = f p q
on_both (Err e) f p q = tt

-- whether a number is within its limit
pub few_by : (b : Bool) (n most : ℕ) → (IsTrue b ↔ (most < n)) → b ≡ false → n ≤ most
few_by b n most h e = elim (cases_lt most n) [ inl l ↦ absurd (true≢false (sym (h.1 l) ∙ e)) | inr g ↦ g ]

pub large_by : (b : Bool) (n most : ℕ) → (IsTrue b ↔ (n ≤ most)) → b ≡ false → most < n
large_by b n most h e = elim (cases_lt most n) [ inl l ↦ l | inr g ↦ absurd (true≢false (sym (h.1 g) ∙ e)) ]

-- whether a variable has a kind
module _ (kinds : List (ℕ × List ClosedType)) (n m : ℕ) (is : n ≡ m) (b : Bool) (h : IsTrue b ↔ (kind_of kinds n ≡ [])) where
  pub lacking : b ≡ true → kind_of kinds m ≡ []
  lacking e = subst (λ k. kind_of kinds k ≡ []) is (h.0 e)

  pub having : b ≡ false → kind_of kinds m ≢ []
  having e none = true≢false (sym (h.1 (subst (λ k. kind_of kinds k ≡ []) (sym is) none)) ∙ e)
