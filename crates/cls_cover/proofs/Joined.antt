-- A position that a cover can take has joined it.
use Rattle.std.proofs.Common.{ℕ, ◌≡◌, ◌+◌, ◌<◌, refl, ◌∙◌, subst, ap, List, [], ◌∷◌, ◌++◌, length, get_or}
use Rattle.cls_cover.specs.declared.cover.Cover.{Cover}
use Rattle.cls_cover.specs.declared.front.Front.{Front}
use Rattle.cls_cover.specs.Members.{Member, first, later, Differ}
use Rattle.cls_cover.specs.Flags.{AreJoined}
use Rattle.cls_cover.specs.Rows.{width}
use Rattle.cls_cover.specs.Growing.{IsPut, IsFront, IsKnown, IsKnownBefore, MissesNext, AreTakeable, IsReadyFor, AddsJoined}
use Rattle.cls_cover.proofs.Lists.{get_any, member_append_left, member_append_right}
use Rattle.cls_cover.proofs.Grouping.{differ_front}
use Rattle.cls_cover.proofs.Joining.{row_below, joined_known}
use Rattle.cls_cover.proofs.Steps.{partly_yes}

module _ (front : Front) (c : Cover) (f : IsFront front) (k : IsKnownBefore front c) (missed : MissesNext front c) (found : List ℕ) (a : AreTakeable front c found) (x : ℕ) (m : Member found x) where
  pub row_here : x < length front.rows.now
  row_here = row_below front.families.now front.rows.now f.rows x front.count f.more (a.in_family x m)

  pub row_wide : (d : List ℕ) → length (get_or front.rows.now x d) ≡ width front.families.now
  row_wide d = ap (λ (q : List ℕ). length q) (get_any front.rows.now x d [] row_here) ∙ f.rows.wide x row_here

  pub fresh : Member c.positions.items x → ⊥
  fresh n = missed (x, a.in_family x m, n)

  -- d is made of e, a copy of the cover
  module _ (e d : Cover) (none : List ℕ) (positions : e.positions.items ≡ c.positions.items) (met : e.met ≡ c.met) (once : e.once ≡ c.once) (put : IsPut x e.positions.items d.positions.items) (met_len : length d.met ≡ length (get_or front.rows.now x none)) (once_len : length d.once ≡ length (get_or front.rows.now x none)) (flags : AreJoined e.once e.met (get_or front.rows.now x none) d.once d.met) where
    put_to : IsPut x c.positions.items d.positions.items
    put_to = subst (λ (l : List ℕ). IsPut x l d.positions.items) positions put

    flags_to : AreJoined c.once c.met (get_or front.rows.now x []) d.once d.met
    flags_to =
        subst (λ (q : List ℕ). AreJoined q c.met (get_or front.rows.now x []) d.once d.met) once
        (subst (λ (q : List ℕ). AreJoined e.once q (get_or front.rows.now x []) d.once d.met) met
        (subst (λ (q : List ℕ). AreJoined e.once e.met q d.once d.met) (get_any front.rows.now x none [] row_here) flags))

    known_to : IsKnown front.families.now (front.count + 1) d
    known_to = joined_known front.families.now front.rows.now f.rows front.count f.more c k missed x (a.in_family x m) d.positions.items put_to d refl (met_len ∙ row_wide none) (once_len ∙ row_wide none) flags_to (a.minimal x m d.positions.items put_to)

    pub joined_more : (old new : List Cover) (done : List ℕ) → ((y : ℕ) → Member done y → Member found y) → (Member done x → ⊥) → IsReadyFor front c old → AddsJoined front c done old new → AddsJoined front c (done ++ x ∷ []) old (new ++ d ∷ [])
    joined_more old new done inside n ready part = partly_yes front.families.now front.count f.more c.positions.items old new done part x d put_to known_to missed (a.in_family x m) (λ y h. a.in_family y (inside y h)) n ready

-- what holds of positions that a cover can take holds of the first ones
pub AreTakeable-front : (front : Front) (c : Cover) (xs ys : List ℕ) → AreTakeable front c (xs ++ ys) → AreTakeable front c xs
AreTakeable-front front c xs ys a = record { differ = differ_front xs ys a.differ; in_family = (λ x m. a.in_family x (member_append_left ys x m)); minimal = (λ x m. a.minimal x (member_append_left ys x m)) }

pub last_fresh : {A : Type 0} (xs : List A) (x : A) → Differ (xs ++ x ∷ []) → Member xs x → ⊥
last_fresh (x ∷ xs) _ d first = d.0 (member_append_right xs (x ∷ []) x first)
last_fresh (y ∷ xs) x d (later m) = last_fresh xs x d.1 m
last_fresh [] x d m = elim m [ ]
