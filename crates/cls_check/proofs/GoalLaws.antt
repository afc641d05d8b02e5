-- Goals above and below a type and its normal form.
use Rattle.std.proofs.Common.{ℕ, ◌↔◌, ◌≡◌, ◌<◌, ◌≤◌, List, [], length, get_or, subst, sym, ap, ◌∙◌, arith}
use Rattle.std.proofs.lemmas.List.{get_or_default}
use Rattle.std.specs.Prelude.{Contains}
use Rattle.cls_base.specs.Types.{ClosedType}
use Rattle.cls_base.specs.Subtyping.{transitivity}
use Rattle.cls_path.specs.Paths.{TypePath, type_of_paths, listed}
use Rattle.cls_library.specs.Libraries.{Library}
use Rattle.cls_check.specs.Checking.{IsForm}
use Rattle.cls_check.specs.Goals.{IsAboveGoal, IsBelowGoal}
use Rattle.cls_check.proofs.Order.{form_down, form_up}

module _ (l : Library) (goals : List (List TypePath)) (t : ClosedType) (nf : List TypePath) (form : IsForm l t (listed nf)) where
  pub above_form : IsAboveGoal l goals (type_of_paths (listed nf)) ↔ IsAboveGoal l goals t
  above_form = ((λ h. (h.0, h.1, transitivity h.2 (form_down l t (listed nf) form))), (λ h. (h.0, h.1, transitivity h.2 (form_up l t (listed nf) form))))

  pub below_form : IsBelowGoal l goals (type_of_paths (listed nf)) ↔ IsBelowGoal l goals t
  below_form = ((λ h. (h.0, h.1, transitivity (form_up l t (listed nf) form) h.2)), (λ h. (h.0, h.1, transitivity (form_down l t (listed nf) form) h.2)))

  pub has_form : Contains goals nf → IsBelowGoal l goals t
  has_form c = (nf, c, form_up l t (listed nf) form)

-- the argument that a loop looks at
pub form_seen : (l : Library) (A : ℕ → ClosedType) (n : ℕ) (whole seen : List (List TypePath)) → seen ≡ whole → length whole ≡ n → ((i : ℕ) → i < n → IsForm l (A i) (listed (get_or whole i []))) → (k : ℕ) (x : List TypePath) → x ≡ get_or seen k x → k < length seen → (k < n) × IsForm l (A k) (listed x)
form_seen l A n whole seen e m f k x is low =
    let same : length seen ≡ length whole = ap (λ (q : List (List TypePath)). length q) e in
    let within : k < n = omega arith in
    let there : get_or whole k [] ≡ x = sym (is ∙ (ap (λ (q : List (List TypePath)). get_or q k x) e ∙ get_or_default whole k x [] (omega arith))) in
    (within, subst (λ (q : List TypePath). IsForm l (A k) (listed q)) there (f k within))

pub all_seen : (whole seen : List (List TypePath)) → seen ≡ whole → (n k : ℕ) → length whole ≡ n → length seen ≤ k → (i : ℕ) → i < n → i < k
all_seen whole seen e n k m h i l = let same : length seen ≡ length whole = ap (λ (q : List (List TypePath)). length q) e in omega arith
