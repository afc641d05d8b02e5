-- Texts that stand one after another in one column.
use Rattle.std.proofs.Common.{◌≡◌, ℕ, zero, suc, ◌+◌, ◌-◌, ◌<◌, ◌≤◌, List, [], ◌∷◌, ◌++◌, length, length-append, take, drop, get_or, refl, ap, subst, sym, ◌∙◌, arith, ⊎_elim}
use Rattle.std.proofs.lemmas.Bool.{cases_lt}
use Rattle.std.specs.List.{remove}
use Rattle.std.specs.Str.{IsUtf8, IsCharBoundary}
use Rattle.std.proofs.lemmas.List.{drop-take, take-take, take-append-le, drop-append-le, length-drop, length-take, get_or-take, get_or_append_left, get_or-map, take-map, drop_at, take_all}
use Rattle.std.proofs.lemmas.Str.{IsCharBoundary-at_seam, IsCharBoundary-end}
use Rattle.indexmap.proofs.SetLemmas.{map-remove}
use Rattle.cls_lexer.specs.Columns.{text_at, texts_at, IsPlace, ArePlaces}
use Rattle.cls_lexer.specs.declared.texts.Place.{Place}

-- a place of the list is a place
pub place_within : (bytes : List ℕ) (start : ℕ) (places : List Place) (i : ℕ) (d : Place) → ArePlaces bytes start places → i < length places → (start ≤ (get_or places i d).start) × IsPlace bytes (get_or places i d)
place_within bytes start [] i d h late = absurd (omega (arith, late))
place_within bytes start (p ∷ ps) zero d h late = (h.0, h.1)
place_within bytes start (p ∷ ps) (suc i) d h late =
    let rest = place_within bytes p.end ps i d h.2 (omega (arith, late)) in
    let a = h.0 in let b = h.1.0 in let e = rest.0 in
    (omega (arith, a, b, e), rest.1)

-- the text at a place
pub text_within : (bytes : List ℕ) (places : List Place) (i : ℕ) (d : Place) → i < length places → get_or (texts_at bytes places) i [] ≡ text_at bytes (get_or places i d)
text_within bytes places i d within = get_or-map (text_at bytes) places i d [] within

-- a front of the column
boundary-take : (bytes : List ℕ) (m i : ℕ) → i ≤ m → IsCharBoundary bytes i → IsCharBoundary (take m bytes) i
boundary-take bytes m i most h =
    let long = length-take m bytes in
    let a = h.0 in (
      omega (arith, long, a, most),
      λ within high.
          let same : get_or (take m bytes) i 0 ≡ get_or bytes i 0 = get_or-take m bytes i 0 (omega (arith, long, within)) in
          subst (λ n. 192 ≤ n) (sym same) (h.1 (omega (arith, long, within)) (subst (λ n. 128 ≤ n) same high)),
    )

place-take : (bytes : List ℕ) (m : ℕ) (p : Place) → p.end ≤ m → IsPlace bytes p → IsPlace (take m bytes) p
place-take bytes m p most h = let a = h.0 in (h.0, boundary-take bytes m p.start (omega (arith, a, most)) h.1, boundary-take bytes m p.end most h.2)

text-take : (bytes : List ℕ) (m : ℕ) (p : Place) → p.end ≤ m → IsPlace bytes p → text_at (take m bytes) p ≡ text_at bytes p
text-take bytes m p most h =
    let a = h.0 in
    let inside : p.start + (p.end - p.start) ≡ p.end = omega (arith, a) in
    let whole : (xs : List ℕ) → take (p.end - p.start) (drop p.start xs) ≡ drop p.start (take p.end xs) =
    λ xs. sym (drop-take p.start (p.end - p.start) xs) ∙ ap (λ n. drop p.start (take n xs)) inside in
    whole (take m bytes) ∙ (ap (drop p.start) (take-take p.end m bytes most) ∙ sym (whole bytes))

-- the texts before a place, in the column up to where its text begins
pub places_take : (bytes : List ℕ) (start : ℕ) (places : List Place) (n m : ℕ) (d : Place) → ArePlaces bytes start places → n < length places → m ≡ (get_or places n d).start → ArePlaces (take m bytes) start (take n places)
places_take bytes start [] n m d h within is = absurd (omega (arith, within))
places_take bytes start (p ∷ ps) zero m d h within is = tt
places_take bytes start (p ∷ ps) (suc n) m d h within is =
    let behind = (place_within bytes p.end ps n d h.2 (omega (arith, within))).0 in
    (h.0, place-take bytes m p (omega (arith, behind, is)) h.1, places_take bytes p.end ps n m d h.2 (omega (arith, within)) is)

texts-front : (bytes : List ℕ) (start : ℕ) (places : List Place) (n m : ℕ) (d : Place) → ArePlaces bytes start places → n < length places → m ≡ (get_or places n d).start → texts_at (take m bytes) (take n places) ≡ texts_at bytes (take n places)
texts-front bytes start [] n m d h within is = absurd (omega (arith, within))
texts-front bytes start (p ∷ ps) zero m d h within is = refl
texts-front bytes start (p ∷ ps) (suc n) m d h within is =
    let behind = (place_within bytes p.end ps n d h.2 (omega (arith, within))).0 in
    ap (λ t. t ∷ texts_at (take m bytes) (take n ps)) (text-take bytes m p (omega (arith, behind, is)) h.1)
    ∙ ap (λ ts. text_at bytes p ∷ ts) (texts-front bytes p.end ps n m d h.2 (omega (arith, within)) is)

pub texts_take : (bytes : List ℕ) (places : List Place) (n m : ℕ) (d : Place) → ArePlaces bytes 0 places → n < length places → m ≡ (get_or places n d).start → texts_at (take m bytes) (take n places) ≡ take n (texts_at bytes places)
texts_take bytes places n m d h within is = texts-front bytes 0 places n m d h within is ∙ sym (take-map (text_at bytes) n places)

-- one text more
pub boundary-more : (bytes text : List ℕ) (i : ℕ) → IsUtf8 text → IsCharBoundary bytes i → IsCharBoundary (bytes ++ text) i
boundary-more bytes text i utf8 h =
    let long = length-append bytes text in
    let a = h.0 in
    (⊎_elim
    (λ (within : i < length bytes).
    let same : get_or (bytes ++ text) i 0 ≡ get_or bytes i 0 = get_or_append_left bytes text 0 i within in
    (omega (arith, long, a), λ _ high. subst (λ n. 192 ≤ n) (sym same) (h.1 within (subst (λ n. 128 ≤ n) same high))))
    (λ (late : length bytes ≤ i).
    let at : length bytes ≡ i = omega (arith, late, a) in
    subst (λ n. IsCharBoundary (bytes ++ text) n) at (IsCharBoundary-at_seam (bytes ++ text) bytes text refl utf8))
    (cases_lt i (length bytes)))

place-more : (bytes text : List ℕ) (p : Place) → IsUtf8 text → IsPlace bytes p → IsPlace (bytes ++ text) p
place-more bytes text p utf8 h = (h.0, boundary-more bytes text p.start utf8 h.1, boundary-more bytes text p.end utf8 h.2)

text-more : (bytes text : List ℕ) (p : Place) → IsPlace bytes p → text_at (bytes ++ text) p ≡ text_at bytes p
text-more bytes text p h =
    let a = h.0 in let b = h.1.0 in let e = h.2.0 in
    let long = length-drop p.start bytes in
    ap (take (p.end - p.start)) (drop-append-le p.start bytes text b)
    ∙ take-append-le (p.end - p.start) (drop p.start bytes) text (omega (arith, a, e, long))

-- the place of a text that is put behind the bytes
pub record IsNext (bytes text : List ℕ) (p : Place) : Type 0 where
  pub utf8 : IsUtf8 text
  pub start : p.start ≡ length bytes
  pub end : p.end ≡ length bytes + length text

place-next : (bytes text : List ℕ) (p : Place) → IsNext bytes text p → IsPlace (bytes ++ text) p
place-next bytes text p next =
    let a = next.start in let b = next.end in
    let whole : length (bytes ++ text) ≡ p.end = length-append bytes text ∙ sym b in
    (omega (arith, a, b), subst (λ n. IsCharBoundary (bytes ++ text) n) (sym a) (IsCharBoundary-at_seam (bytes ++ text) bytes text refl next.utf8), subst (λ n. IsCharBoundary (bytes ++ text) n) whole (IsCharBoundary-end (bytes ++ text)))

text-next : (bytes text : List ℕ) (p : Place) → IsNext bytes text p → text_at (bytes ++ text) p ≡ text
text-next bytes text p next =
    let a = next.start in let b = next.end in
    ap (take (p.end - p.start)) (drop_at bytes text p.start (sym a)) ∙ take_all (p.end - p.start) text (omega (arith, a, b))

pub places_push : (bytes text : List ℕ) (start : ℕ) (places : List Place) (p : Place) → IsNext bytes text p → start ≤ length bytes → ArePlaces bytes start places → ArePlaces (bytes ++ text) start (places ++ p ∷ [])
places_push bytes text start [] p next most h = let a = next.start in (omega (arith, a, most), place-next bytes text p next, tt)
places_push bytes text start (q ∷ qs) p next most h = (h.0, place-more bytes text q next.utf8 h.1, places_push bytes text q.end qs p next h.1.2.0 h.2)

pub texts_push : (bytes text : List ℕ) (start : ℕ) (places : List Place) (p : Place) → IsNext bytes text p → ArePlaces bytes start places → texts_at (bytes ++ text) (places ++ p ∷ []) ≡ texts_at bytes places ++ text ∷ []
texts_push bytes text start [] p next h = ap (λ t. t ∷ []) (text-next bytes text p next)
texts_push bytes text start (q ∷ qs) p next h =
    ap (λ t. t ∷ texts_at (bytes ++ text) (qs ++ p ∷ [])) (text-more bytes text q h.1)
    ∙ ap (λ ts. text_at bytes q ∷ ts) (texts_push bytes text q.end qs p next h.2)

-- one text less
pub places_remove : (bytes : List ℕ) (start : ℕ) (places : List Place) (i : ℕ) → ArePlaces bytes start places → ArePlaces bytes start (remove places i)
places_remove bytes start [] zero h = tt
places_remove bytes start [] (suc i) h = tt
places_remove bytes start (p ∷ []) zero h = tt
places_remove bytes start (p ∷ q ∷ ps) zero h = let a = h.0 in let b = h.1.0 in let e = h.2.0 in (omega (arith, a, b, e), h.2.1, h.2.2)
places_remove bytes start (p ∷ ps) (suc i) h = (h.0, h.1, places_remove bytes p.end ps i h.2)

pub texts_remove : (bytes : List ℕ) (places : List Place) (i : ℕ) → texts_at bytes (remove places i) ≡ remove (texts_at bytes places) i
texts_remove bytes places i = map-remove (text_at bytes) places i
