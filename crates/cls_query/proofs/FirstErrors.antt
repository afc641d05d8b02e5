-- Causes in two lists, one after the other.
use Rattle.std.proofs.Common.{List, [], ◌∷◌, ◌++◌, inl, inr}
use Rattle.cls_base.specs.Firsts.{Cause, First, IsSilent, EachCause}

module _ {T : Type 0} where
  others_silent : (says : Cause T) (causes : List (Cause T)) → IsSilent (First (says ∷ causes)) → IsSilent (First causes)
  others_silent says causes n t h = n t (inr (λ u a. n u (inl a), h))

  pub first_front : (xs ys : List (Cause T)) (t : T) → First xs t → First (xs ++ ys) t
  first_front [] ys t h = absurd h
  first_front (x ∷ xs) ys t h = elim h [ inl a ↦ inl a | inr a ↦ inr (a.0, first_front xs ys t a.1) ]

  pub first_later : (xs ys : List (Cause T)) (t : T) → IsSilent (First xs) → First ys t → First (xs ++ ys) t
  first_later [] ys t n h = h
  first_later (x ∷ xs) ys t n h = inr (λ u a. n u (inl a), first_later xs ys t (others_silent x xs n) h)

  pub silent_both : (xs ys : List (Cause T)) → IsSilent (First xs) → IsSilent (First ys) → IsSilent (First (xs ++ ys))
  silent_both [] ys n m = m
  silent_both (x ∷ xs) ys n m = λ t h. elim h [ inl a ↦ n t (inl a) | inr a ↦ silent_both xs ys (others_silent x xs n) m t a.1 ]

  head_silent : (says : Cause T) (causes : List (Cause T)) → IsSilent (First (says ∷ causes)) → IsSilent says
  head_silent says causes n t h = n t (inl h)

  pub fourth_silent : (a b c d : Cause T) (rest : List (Cause T)) → IsSilent (First (a ∷ b ∷ c ∷ d ∷ rest)) → IsSilent d
  fourth_silent a b c d rest n =
      head_silent d rest (others_silent c (d ∷ rest) (others_silent b (c ∷ d ∷ rest) (others_silent a (b ∷ c ∷ d ∷ rest) n)))

  -- where none applies, each is silent
  pub each_silent : (causes : List (Cause T)) → IsSilent (First causes) → EachCause IsSilent causes
  each_silent [] n = tt
  each_silent (says ∷ causes) n = (head_silent says causes n, each_silent causes (others_silent says causes n))
