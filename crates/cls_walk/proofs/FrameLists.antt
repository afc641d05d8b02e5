-- Lists of places and aims that grow while what they are of is gone through.
use Rattle.std.proofs.Common.{◌≡◌, ℕ, ◌+◌, ◌<◌, ◌≤◌, List, [], ◌∷◌, ◌++◌, length, take, get_or, refl, sym, ap, ◌∙◌, subst, inl, inr, arith, append_assoc, append-nil}
use Rattle.std.specs.List.{flat_map}
use Rattle.std.proofs.lemmas.List.{take_more}
use Rattle.cls_enum.specs.Members.{IsIn}
use Rattle.cls_enum.proofs.Members.{in_cases, in_left, in_right}
use Rattle.cls_walk.specs.Frames.{Place, AreSame}
use Rattle.cls_walk.specs.FrameAims.{Aim, AreThinned, AreKept}
use Rattle.cls_walk.proofs.FrameSteps.{only}

-- one more of those that are gone through
flat-append : {A B : Type 0} (f : A → List B) (xs ys : List A) → flat_map f (xs ++ ys) ≡ flat_map f xs ++ flat_map f ys
flat-append f [] ys = refl
flat-append f (x ∷ xs) ys = ap (λ zs. f x ++ zs) (flat-append f xs ys) ∙ sym (append_assoc (f x) (flat_map f xs) (flat_map f ys))

pub flat-more : {A B : Type 0} (f : A → List B) (xs : List A) (i : ℕ) (x d : A) → i < length xs → x ≡ get_or xs i d → flat_map f (take (i + 1) xs) ≡ flat_map f (take i xs) ++ f x
flat-more f xs i x d l p =
    ap (flat_map f) (take_more xs i d l)
    ∙ ap (λ z. flat_map f (take i xs ++ z ∷ [])) (sym p)
    ∙ flat-append f (take i xs) (x ∷ [])
    ∙ ap (λ zs. flat_map f (take i xs) ++ zs) (append-nil (f x))

-- places, each with what it comes to
module _ (size : ℕ) where
  pub kept-none : AreKept size [] []
  kept-none = record { each = λ p i. absurd i; all = λ p b i l. absurd i }

  pub kept-append : (v w : List (Place × ℕ)) (ps qs : List Place) → AreKept size v ps → AreKept size w qs → AreKept size (v ++ w) (ps ++ qs)
  kept-append v w ps qs h k = record {
    each = λ p i. elim (in_cases ps qs p i) [
      | inl j ↦ let r = h.each p j in (r.0, in_left v w (p, r.0) r.1)
      | inr j ↦ let r = k.each p j in (r.0, in_right v w (p, r.0) r.1)
    ];
    all = λ p b i l. elim (in_cases v w (p, b) i) [
      | inl j ↦ in_left ps qs p (h.all p b j l)
      | inr j ↦ in_right ps qs p (k.all p b j l)
    ];
  }

  pub kept-one : (p : Place) (b : ℕ) → AreKept size ((p, b) ∷ []) (p ∷ [])
  kept-one p b = record {
    each = λ q i. (b, inl (λ j. (only p q i j, b)));
    all = λ q c i l. inl (ap (λ (z : Place × ℕ). z.0) (only (p, b) (q, c) i));
  }

  -- it comes to more
  pub kept-over : (p : Place) (b : ℕ) → size < b → AreKept size ((p, b) ∷ []) []
  kept-over p b m = record {
    each = λ q i. absurd i;
    all = λ q c i l. absurd (let e : b ≡ c = ap (λ (z : Place × ℕ). z.1) (only (p, b) (q, c) i) in omega (arith, e, l, m));
  }

  -- it is there already
  pub kept-again : (w : List (Place × ℕ)) (ps : List Place) (p : Place) (b : ℕ) → IsIn ps p → AreKept size w ps → AreKept size (w ++ (p, b) ∷ []) ps
  kept-again w ps p b m h = record {
    each = λ q i. (let r = h.each q i in (r.0, in_left w ((p, b) ∷ []) (q, r.0) r.1));
    all = λ q c i l. elim (in_cases w ((p, b) ∷ []) (q, c) i) [
      | inl j ↦ h.all q c j l
      | inr j ↦
          let P : Place → Type 0 = λ z. IsIn ps z in
          subst P (ap (λ (z : Place × ℕ). z.0) (only (p, b) (q, c) j)) m
    ];
  }

-- aims
pub thinned-none : AreThinned [] []
thinned-none = record { each = λ a i. i; all = λ n b i. absurd i }

pub thinned-append : (v w xs ys : List Aim) → AreThinned v xs → AreThinned w ys → AreThinned (v ++ w) (xs ++ ys)
thinned-append v w xs ys h k = record {
  each = λ a i. elim (in_cases xs ys a i) [
    | inl j ↦ in_left v w a (h.each a j)
    | inr j ↦ in_right v w a (k.each a j)
  ];
  all = λ n b i. elim (in_cases v w (n, b) i) [
    | inl j ↦ let r = h.all n b j in (r.0, in_left xs ys (n, r.0) r.1, r.2)
    | inr j ↦ let r = k.all n b j in (r.0, in_right xs ys (n, r.0) r.1, r.2)
  ];
}

-- one with the same node and no greater size is there already
pub thinned-again : (w xs : List Aim) (n b c : ℕ) → IsIn xs (n, c) → c ≤ b → AreThinned w xs → AreThinned (w ++ (n, b) ∷ []) xs
thinned-again w xs n b c m l h = record {
  each = λ a i. in_left w ((n, b) ∷ []) a (h.each a i);
  all = λ k d i. elim (in_cases w ((n, b) ∷ []) (k, d) i) [
    | inl j ↦ h.all k d j
    | inr j ↦
        let e = only (n, b) (k, d) j in
        let P : ℕ → Type 0 = λ z. IsIn xs (z, c) in
        let s : b ≡ d = ap (λ (z : Aim). z.1) e in
        (c, subst P (ap (λ (z : Aim). z.0) e) m, omega (arith, l, s))
  ];
}

pub thinned-then : (v w xs : List Aim) → AreThinned v w → AreThinned w xs → AreThinned v xs
thinned-then v w xs h k = record {
  each = λ a i. h.each a (k.each a i);
  all = λ n b i.
      let r = h.all n b i in
      let s = k.all n r.0 r.1 in
      (s.0, s.1, omega (arith, r.2, s.2));
}

-- places
pub same-append : (v w ps qs : List Place) → AreSame v ps → AreSame w qs → AreSame (v ++ w) (ps ++ qs)
same-append v w ps qs h k = record {
  each = λ p i. elim (in_cases ps qs p i) [ inl j ↦ in_left v w p (h.each p j) | inr j ↦ in_right v w p (k.each p j) ];
  all = λ p i. elim (in_cases v w p i) [ inl j ↦ in_left ps qs p (h.all p j) | inr j ↦ in_right ps qs p (k.all p j) ];
}

pub same-again : (w ps : List Place) (p : Place) → IsIn ps p → AreSame w ps → AreSame (w ++ p ∷ []) ps
same-again w ps p m h = record {
  each = λ q i. in_left w (p ∷ []) q (h.each q i);
  all = λ q i. elim (in_cases w (p ∷ []) q i) [
    | inl j ↦ h.all q j
    | inr j ↦ let P : Place → Type 0 = λ z. IsIn ps z in subst P (only p q j) m
  ];
}
