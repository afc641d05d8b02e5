-- What becomes of filings that are filed one after the other, from the last one on.
use Rattle.std.proofs.Common.{◌≡◌, refl, sym, ◌∙◌, ap, subst, ◌⊎◌, inl, inr, arith, Bool, true, List, [], ◌∷◌, ◌++◌, length, append_assoc}
use Rattle.std.specs.Prelude.{reverse}
use Rattle.std.proofs.lemmas.List.{append-nil, reverse-append}
use Rattle.cls_table.specs.Batches.{Files, is_filed, passes_limits, is_left, FilesEach, no_filing, one_filing}
use Rattle.cls_table.specs.Holdings.{HasRoom, IsHeldClaim, after_file, large_table}
use Rattle.cls_table.specs.Seen.{FiledSeen, TableSeen}

pub nothing-left : {A : Type 0} → (xs : List A) → length xs ≡ 0 → xs ≡ []
nothing-left [] e = refl
nothing-left (x ∷ xs) e = absurd (omega arith)

module _ {B G : Type 0} (eq : G → G → Bool) (begin : TableSeen B G) (all : List (FiledSeen B G)) where
  -- What is made of those that still wait is made of all; or the table is stopped, as memory ran out.
  abbrev pub Goes : TableSeen B G → List (FiledSeen B G) → List (FiledSeen B G) → Type 0
  Goes t waiting others =
      (t.stopped ≡ true)
      ⊎ ((left : List (FiledSeen B G)) (u : TableSeen B G) → FilesEach eq t (reverse waiting) left u
      → FilesEach eq begin (reverse all) (others ++ left) u)

  -- what one filing comes to, and the filings that are left then
  abbrev pub Step : TableSeen B G → TableSeen B G → FiledSeen B G → List (FiledSeen B G) → List (FiledSeen B G) → Type 0
  Step t u f others more =
      (u.stopped ≡ true) ⊎ ((left : List (FiledSeen B G)) × Files eq t f left u × (more ≡ others ++ left))

  pub goes-on :
      (t u : TableSeen B G) (waiting rest others more : List (FiledSeen B G)) (f : FiledSeen B G)
      → waiting ≡ rest ++ f ∷ [] → Goes t waiting others → Step t u f others more
      → (t.stopped ≡ true → u.stopped ≡ true) → Goes u rest more
  goes-on t u waiting rest others more f e (inl s) step stays = inl (stays s)
  goes-on t u waiting rest others more f e (inr h) (inl s) stays = inl s
  goes-on t u waiting rest others more f e (inr h) (inr step) stays =
      let turned : reverse waiting ≡ f ∷ reverse rest = ap reverse e ∙ reverse-append rest (f ∷ []) in
      inr (λ left v k.
      let one = subst (λ (l : List (FiledSeen B G)). FilesEach eq t l (step.0 ++ left) v) (sym turned) (one_filing {left = step.0} step.1 k) in
      let same : more ++ left ≡ others ++ (step.0 ++ left) = ap (λ (l : List (FiledSeen B G)). l ++ left) step.2 ∙ append_assoc others step.0 left in
      subst (λ (l : List (FiledSeen B G)). FilesEach eq begin (reverse all) l v) (sym same) (h (step.0 ++ left) v one))

  pub goes-through :
      (t : TableSeen B G) (waiting others : List (FiledSeen B G)) → waiting ≡ [] → Goes t waiting others
      → (t.stopped ≡ true) ⊎ FilesEach eq begin (reverse all) others t
  goes-through t waiting others e (inl s) = inl s
  goes-through t waiting others e (inr h) =
      let none = subst (λ (l : List (FiledSeen B G)). FilesEach eq t l [] t) (sym (ap reverse e)) no_filing in
      inr (subst (λ (l : List (FiledSeen B G)). FilesEach eq begin (reverse all) l t) (append-nil others) (h [] t none))

pub goes-begin :
    {B G : Type 0} (eq : G → G → Bool) (t : TableSeen B G) (all : List (FiledSeen B G)) → Goes eq t all t all []
goes-begin eq t all = inr (λ left u h. h)

module _ {B G : Type 0} (eq : G → G → Bool) (t u : TableSeen B G) (f : FiledSeen B G) (others : List (FiledSeen B G)) where
  abbrev Files-to : List (FiledSeen B G) → TableSeen B G → Type 0
  Files-to left v = Files eq t f left v

  pub step-filed : IsHeldClaim t.rows f.claim → HasRoom eq t.tag t.rows f.answer → u ≡ after_file eq t f → (u.stopped ≡ true) ⊎ ((left : List (FiledSeen B G)) × Files eq t f left u × (others ≡ others ++ left))
  step-filed h r e = inr ([], subst (Files-to []) (sym e) (is_filed h r), sym (append-nil others))

  pub step-past : IsHeldClaim t.rows f.claim → (HasRoom eq t.tag t.rows f.answer → ⊥) → u ≡ large_table t → (u.stopped ≡ true) ⊎ ((left : List (FiledSeen B G)) × Files eq t f left u × (others ≡ others ++ left))
  step-past h r e = inr ([], subst (Files-to []) (sym e) (passes_limits h r), sym (append-nil others))

  pub step-left : (IsHeldClaim t.rows f.claim → ⊥) → u ≡ t → (more : List (FiledSeen B G)) → more ≡ others ++ f ∷ [] → (u.stopped ≡ true) ⊎ ((left : List (FiledSeen B G)) × Files eq t f left u × (more ≡ others ++ left))
  step-left h e more k = inr (f ∷ [], subst (Files-to (f ∷ [])) (sym e) (is_left h), k)
