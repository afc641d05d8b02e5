-- The first of several causes, where some of them are silent.
use Rattle.std.proofs.Common.{List, [], ◌∷◌, ◌++◌, inl, inr}
use Rattle.cls_base.specs.Firsts.{Cause, IsSilent, First, EachCause}

-- a cause that nothing makes apply
pub never : {T : Type 0} → IsSilent {T = T} (λ t. ⊥)
never t h = h

pub none_silent : {T : Type 0} → IsSilent (First {T = T} [])
none_silent t h = h

pub silent_cons : {T : Type 0} (says : Cause T) (causes : List (Cause T)) → IsSilent says → IsSilent (First causes) → IsSilent (First (says ∷ causes))
silent_cons says causes s ss t (inl h) = s t h
silent_cons says causes s ss t (inr h) = ss t h.1

-- each of the causes is silent
pub each_silent : {T : Type 0} (causes : List (Cause T)) → EachCause (λ (says : Cause T). IsSilent says) causes → IsSilent (First causes)
each_silent [] s = none_silent
each_silent (says ∷ causes) s = silent_cons says causes s.0 (each_silent causes s.1)

silent_head : {T : Type 0} (says : Cause T) (causes : List (Cause T)) → IsSilent (First (says ∷ causes)) → IsSilent says
silent_head says causes s t h = s t (inl h)

silent_tail : {T : Type 0} (says : Cause T) (causes : List (Cause T)) → IsSilent (First (says ∷ causes)) → IsSilent (First causes)
silent_tail says causes s t h = s t (inr (silent_head says causes s, h))

-- the causes in front say it
pub in_front : {T : Type 0} (xs ys : List (Cause T)) (t : T) → First xs t → First (xs ++ ys) t
in_front [] ys t h = absurd h
in_front (x ∷ xs) ys t (inl h) = inl h
in_front (x ∷ xs) ys t (inr h) = inr (h.0, in_front xs ys t h.1)

-- those in front are silent, and the others say it
pub behind : {T : Type 0} (xs ys : List (Cause T)) (t : T) → IsSilent (First xs) → First ys t → First (xs ++ ys) t
behind [] ys t s h = h
behind (x ∷ xs) ys t s h = inr (silent_head x xs s, behind xs ys t (silent_tail x xs s) h)

pub both_silent : {T : Type 0} (xs ys : List (Cause T)) → IsSilent (First xs) → IsSilent (First ys) → IsSilent (First (xs ++ ys))
both_silent [] ys s r = r
both_silent (x ∷ xs) ys s r = silent_cons x (xs ++ ys) (silent_head x xs s) (both_silent xs ys (silent_tail x xs s) r)
