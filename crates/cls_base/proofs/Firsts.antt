-- The first of several causes: there is one or none, and no second one.
use Rattle.std.proofs.Common.{inl, inr, List, [], ◌∷◌, ◌++◌}
use Rattle.cls_base.specs.Firsts.{Cause, First, FirstAfter, FirstAlong, IsDetermined, IsDecided, EachCause}

pub first-determined : {T : Type 0} (causes : List (Cause T)) → EachCause IsDetermined causes → IsDetermined (First causes)
first-determined [] h t u p q = absurd p
first-determined (says ∷ causes) h t u p q = elim p [
  | inl a ↦ elim q [ inl b ↦ h.0 t u a b | inr b ↦ absurd (b.0 t a) ]
  | inr a ↦ elim q [ inl b ↦ absurd (a.0 u b) | inr b ↦ first-determined causes h.1 t u a.1 b.1 ]
]

-- the first cause goes on to the others
decided-first : {T : Type 0} (says : Cause T) (causes : List (Cause T)) → IsDecided says → IsDecided (First causes) → IsDecided (First (says ∷ causes))
decided-first says causes (inl s) d = inl (s.0, inl s.1)
decided-first says causes (inr n) (inl s) = inl (s.0, inr (n, s.1))
decided-first says causes (inr n) (inr m) = inr (λ t h. elim h [ inl a ↦ n t a | inr a ↦ m t a.1 ])

pub first-decided : {T : Type 0} (causes : List (Cause T)) → EachCause IsDecided causes → IsDecided (First causes)
first-decided [] h = inr (λ t e. e)
first-decided (says ∷ causes) h = decided-first says causes h.0 (first-decided causes h.1)

pub after-determined : {A T : Type 0} (says : List A → A → Cause T) → ((before : List A) (x : A) → IsDetermined (says before x)) → (before xs : List A) → IsDetermined (FirstAfter says before xs)
after-determined says h before [] t u p q = absurd p
after-determined says h before (x ∷ xs) t u p q = elim p [
  | inl a ↦ elim q [ inl b ↦ h before x t u a b | inr b ↦ absurd (b.0 t a) ]
  | inr a ↦ elim q [ inl b ↦ absurd (a.0 u b) | inr b ↦ after-determined says h (before ++ x ∷ []) xs t u a.1 b.1 ]
]

pub along-determined : {A T : Type 0} (says : List A → A → Cause T) → ((before : List A) (x : A) → IsDetermined (says before x)) → (xs : List A) → IsDetermined (FirstAlong says xs)
along-determined says h xs = after-determined says h [] xs

decided-after : {A T : Type 0} (says : List A → A → Cause T) (before xs : List A) (x : A) → IsDecided (says before x) → IsDecided (FirstAfter says (before ++ x ∷ []) xs) → IsDecided (FirstAfter says before (x ∷ xs))
decided-after says before xs x (inl s) d = inl (s.0, inl s.1)
decided-after says before xs x (inr n) (inl s) = inl (s.0, inr (n, s.1))
decided-after says before xs x (inr n) (inr m) = inr (λ t h. elim h [ inl a ↦ n t a | inr a ↦ m t a.1 ])

pub after-decided : {A T : Type 0} (says : List A → A → Cause T) → ((before : List A) (x : A) → IsDecided (says before x)) → (before xs : List A) → IsDecided (FirstAfter says before xs)
after-decided says h before [] = inr (λ t e. e)
after-decided says h before (x ∷ xs) = decided-after says before xs x (h before x) (after-decided says h (before ++ x ∷ []) xs)

pub along-decided : {A T : Type 0} (says : List A → A → Cause T) → ((before : List A) (x : A) → IsDecided (says before x)) → (xs : List A) → IsDecided (FirstAlong says xs)
along-decided says h xs = after-decided says h [] xs
