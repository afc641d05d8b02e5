-- The families of a goal's paths, path after path.
use Rattle.std.proofs.Common.{◌≡◌, ℕ, zero, suc, ◌+◌, List, [], ◌∷◌, ◌++◌, length, map, take, drop, refl, sym, subst, ap, ◌∙◌, arith}
use Rattle.std.specs.Prelude.{IsSomeAnd, slice_get}
use Rattle.std.specs.List.{AllZip}
use Rattle.std.proofs.lemmas.List.{length-append}
use Rattle.cls_path.specs.Paths.{TypePath}
use Rattle.cls_library.specs.declared.place.Place.{Place}
use Rattle.cls_library.specs.Families.{AreFamiliesAt, IsFamilyIn, alone}
use Rattle.cls_library.specs.Leads.{AreBegun, PutsFamily}
use Rattle.cls_library.specs.Libraries.{Library, arrows_at}

zip-push : {A B : Type 0} (R : A → B → Type 0) (xs : List A) (ys : List B) (x : A) (y : B) → AllZip R xs ys → R x y → AllZip R (xs ++ x ∷ []) (ys ++ y ∷ [])
zip-push R [] [] x y h k = (k, tt)
zip-push R [] (b ∷ ys) x y h k = absurd h
zip-push R (a ∷ xs) [] x y h k = absurd h
zip-push R (a ∷ xs) (b ∷ ys) x y h k = (h.0, zip-push R xs ys x y h.1 k)

one-more : {A : Type 0} (xs : List A) (i : ℕ) (P : A → Type 0) → IsSomeAnd (slice_get xs i) P → (x : A) × (take (suc i) xs ≡ take i xs ++ x ∷ []) × P x
one-more [] i P h = absurd h
one-more (x ∷ xs) zero P h = (x, refl, h)
one-more (x ∷ xs) (suc i) P h = let r = one-more xs i P h in (r.0, ap (λ ys. x ∷ ys) r.1, r.2)

map-push : (xs : List ℕ) (x : ℕ) → map alone (xs ++ x ∷ []) ≡ map alone xs ++ (x ∷ []) ∷ []
map-push [] x = refl
map-push (y ∷ xs) x = ap (λ gs. alone y ∷ gs) (map-push xs x)

-- lists of one number each
alone-push : (f positions : List ℕ) → length f ≡ 1 → map alone (positions ++ f) ≡ map alone positions ++ f ∷ []
alone-push [] positions l = absurd (omega arith)
alone-push (x ∷ []) positions l = map-push positions x
alone-push (x ∷ y ∷ f) positions l = absurd (omega arith)

take-front : (f xs : List ℕ) → take (length f) (f ++ xs) ≡ f
take-front [] xs = refl
take-front (x ∷ f) xs = ap (λ ys. x ∷ ys) (take-front f xs)

drop-front : (f xs : List ℕ) → drop (length f) (f ++ xs) ≡ xs
drop-front [] xs = refl
drop-front (x ∷ f) xs = drop-front f xs

module _ (l : Library) (goal : List TypePath) (p : Place) (i : ℕ) where
  -- a family more
  pub record IsGained (fs : List (List ℕ)) (old new : List ℕ) : Type 0 where
    pub family : List ℕ
    pub put : new ≡ old ++ family
    pub families : AreFamiliesAt l (take (i + 1) goal) p (fs ++ family ∷ [])

  pub gained : (fs : List (List ℕ)) (old new : List ℕ) → AreFamiliesAt l (take i goal) p fs → IsSomeAnd (slice_get goal i) (λ q. PutsFamily l q p old new) → IsGained fs old new
  gained fs old new h puts =
      let (q, more, (family, put, of)) = one-more goal i (λ q. PutsFamily l q p old new) puts in
      let one : suc i ≡ i + 1 = omega arith in
      record {
        family = family;
        put = put;
        families = subst (λ (qs : List TypePath). AreFamiliesAt l qs p (fs ++ family ∷ [])) (sym more ∙ ap (λ (n : ℕ). take n goal) one)
            (zip-push (IsFamilyIn l.taxonomy (arrows_at l p.component p.count)) (take i goal) fs q family h of);
      }

  -- families of one position each, and one more of one position
  pub single-more : (old new : List ℕ) → length old ≡ i → length new ≡ i + 1 → IsGained (map alone old) old new → AreFamiliesAt l (take (i + 1) goal) p (map alone new)
  single-more old new m n g =
      let size = ap length g.put ∙ length-append old g.family in
      subst (λ (fs : List (List ℕ)). AreFamiliesAt l (take (i + 1) goal) p fs) (sym (ap (map alone) g.put ∙ alone-push g.family old (omega arith))) g.families

  -- the same with another family behind them
  pub begun : (old new : List ℕ) → length old ≡ i → IsGained (map alone old) old new → AreBegun l goal p i new
  begun old new m g =
      let size = ap length g.put ∙ length-append old g.family in
      let front : take i new ≡ old = (λ k. take (sym m k) (g.put k)) ∙ take-front old g.family in
      let back : drop i new ≡ g.family = (λ k. drop (sym m k) (g.put k)) ∙ drop-front old g.family in
      record {
        within = omega arith;
        families = subst (λ (fs : List (List ℕ)). AreFamiliesAt l (take (i + 1) goal) p fs) (λ k. map alone (sym front k) ++ sym back k ∷ []) g.families;
      }
