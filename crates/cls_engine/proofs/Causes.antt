-- Causes that go on behind others.
use Rattle.std.proofs.Common.{inl, inr, List, [], ◌∷◌, ◌++◌}
use Rattle.cls_base.specs.Firsts.{Cause, IsSilent, First}

module _ {T : Type 0} where
  head_silent : (x : Cause T) (xs : List (Cause T)) → IsSilent (First (x ∷ xs)) → IsSilent x
  head_silent x xs s t h = s t (inl h)

  rest_silent : (x : Cause T) (xs : List (Cause T)) → IsSilent (First (x ∷ xs)) → IsSilent (First xs)
  rest_silent x xs s t h = s t (inr (head_silent x xs s, h))

  pub first_later : (xs ys : List (Cause T)) (t : T) → IsSilent (First xs) → First ys t → First (xs ++ ys) t
  first_later [] ys t s h = h
  first_later (x ∷ xs) ys t s h = inr (head_silent x xs s, first_later xs ys t (rest_silent x xs s) h)

  pub both_silent : (xs ys : List (Cause T)) → IsSilent (First xs) → IsSilent (First ys) → IsSilent (First (xs ++ ys))
  both_silent [] ys s r t h = r t h
  both_silent (x ∷ xs) ys s r t (inl h) = s t (inl h)
  both_silent (x ∷ xs) ys s r t (inr h) = both_silent xs ys (rest_silent x xs s) r t h.1
