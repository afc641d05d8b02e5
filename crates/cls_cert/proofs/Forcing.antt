-- The only cover of families of one position each, as it grows family by family.
use Rattle.std.proofs.Common.{ℕ, ◌≡◌, ◌+◌, ◌<◌, ◌≤◌, refl, sym, subst, ap, ◌∙◌, List, [], ◌∷◌, ◌++◌, length, take, get_or, arith, Option, Some, None, IfSome, MatchOption}
use Rattle.std.proofs.lemmas.List.{take_more}
use Rattle.cls_cover.specs.Covers.{AreCovers}
use Rattle.cls_cover.specs.Growing.{single}
use Rattle.cls_cover.specs.Forced.{IsForced}
use Rattle.cls_cover.proofs.SingleFamilies.{forced_covers}
use Rattle.cls_cover.proofs.Public.{to_covers}

pub only_cover : (families list : List (List ℕ)) (cover : List ℕ) → IsForced families cover → list ≡ cover ∷ [] → AreCovers families list
only_cover families list cover h e =
    subst (λ (l : List (List ℕ)). AreCovers families l) (sym e) (to_covers families (cover ∷ []) (forced_covers families cover h))

-- a list of one number
pub one_number : (family : List ℕ) → 1 ≤ length family → length family < 2 → family ≡ single (get_or family 0 0)
one_number [] l m = absurd (omega arith)
one_number (x ∷ []) l m = refl
one_number (x ∷ y ∷ family) l m = absurd (omega arith)

module _ {V : Type 0} (items : V → List ℕ) where
  -- the cover is the only one of the families, if it is known
  abbrev pub IsOnly : List (List ℕ) → Option V → Type 0
  IsOnly families cover = IfSome cover (λ c. IsForced families (items c))

  pub grown : (before : List (List ℕ)) (family : List ℕ) (old new : Option V) → IsOnly before old
      → IfSome new (λ n. MatchOption old ⊥ (λ c. (families : List (List ℕ)) → IsForced families (items c) → IsForced (families ++ family ∷ []) (items n)))
      → IsOnly (before ++ family ∷ []) new
  grown before family old None h k = tt
  grown before family None (Some n) h k = absurd k
  grown before family (Some c) (Some n) h k = k before h

  pub forced_front : (families : List (List ℕ)) (j : ℕ) (family d : List ℕ) (old new : Option V) → j < length families → family ≡ get_or families j d
      → IsOnly (take j families) old
      → IfSome new (λ n. MatchOption old ⊥ (λ c. (families : List (List ℕ)) → IsForced families (items c) → IsForced (families ++ family ∷ []) (items n)))
      → IsOnly (take (j + 1) families) new
  forced_front families j family d old new l e h k =
      let t : take j families ++ family ∷ [] ≡ take (j + 1) families = ap (λ (f : List ℕ). take j families ++ f ∷ []) e ∙ sym (take_more families j d l) in
      subst (λ (fs : List (List ℕ)). IsOnly fs new) t (grown (take j families) family old new h k)
