-- Parts of a column that grows at its end.
use Rattle.std.proofs.Common.{ℕ, zero, suc, ◌≡◌, ◌+◌, ◌-◌, ◌<◌, ◌≤◌, List, [], ◌∷◌, ◌++◌, length, get_or, slice_get, Some, take, drop, refl, sym, ap, ◌∙◌, subst, add-one, arith}
use Rattle.std.proofs.lemmas.List.{take_all, drop_all, take-append-le, drop-append-le, length-drop, length-take-le, drop-take}
use Rattle.std.specs.Prelude.{IsTrue, nat_lt, ◌↔◌}
use Rattle.std.proofs.lemmas.Bool.Decides.{nat_tests}
use Rattle.std.proofs.lemmas.Option.{get_or_from_slice_get}
use Rattle.cls_proof.specs.Growing.{on_last, in_last}
use Rattle.cls_proof.specs.Parts.{next_start, AreStarts, itself, lists_of, parts}

-- lists whose last element is changed
pub length-on_last : {A : Type 0} (f : A → A) (xs : List A) → length (on_last f xs) ≡ length xs
length-on_last f [] = refl
length-on_last f (x ∷ []) = refl
length-on_last f (x ∷ y ∷ xs) = ap suc (length-on_last f (y ∷ xs))

pub on_last-push : {A : Type 0} (f : A → A) (xs : List A) (x : A) → on_last f (xs ++ x ∷ []) ≡ xs ++ f x ∷ []
on_last-push f [] x = refl
on_last-push f (y ∷ []) x = refl
on_last-push {A} f (y ∷ z ∷ xs) x = ap (λ (zs : List A). y ∷ zs) (on_last-push f (z ∷ xs) x)

pub in_last-push : {A B : Type 0} (f : A → List B) (xs : List A) (x : A) → in_last f (xs ++ x ∷ []) ≡ f x
in_last-push f [] x = refl
in_last-push f (y ∷ []) x = refl
in_last-push f (y ∷ z ∷ xs) x = in_last-push f (z ∷ xs) x

-- a list whose last element holds something has one
pub in_last-some : {A B : Type 0} (f : A → List B) (xs : List A) → 0 < length (in_last f xs) → 0 < length xs
in_last-some f [] l = l
in_last-some f (x ∷ xs) l = omega arith

last-drop : {A B : Type 0} (f : A → List B) (n : ℕ) (xs : List A) → n < length xs → in_last f (drop n xs) ≡ in_last f xs
last-drop f zero xs l = refl
last-drop f (suc n) [] l = absurd (omega arith)
last-drop f (suc n) (x ∷ []) l = absurd (omega arith)
last-drop f (suc n) (x ∷ y ∷ xs) l = last-drop f n (y ∷ xs) (omega arith)

take-on_last : {A : Type 0} (f : A → A) (n : ℕ) (xs : List A) → n < length xs → take n (on_last f xs) ≡ take n xs
take-on_last f zero xs l = refl
take-on_last f (suc n) [] l = absurd (omega arith)
take-on_last f (suc n) (x ∷ []) l = absurd (omega arith)
take-on_last {A} f (suc n) (x ∷ y ∷ xs) l = ap (λ (zs : List A). x ∷ zs) (take-on_last f n (y ∷ xs) (omega arith))

drop-on_last : {A : Type 0} (f : A → A) (n : ℕ) (xs : List A) → drop n (on_last f xs) ≡ on_last f (drop n xs)
drop-on_last f zero xs = refl
drop-on_last f (suc n) [] = refl
drop-on_last f (suc zero) (x ∷ []) = refl
drop-on_last f (suc (suc n)) (x ∷ []) = refl
drop-on_last f (suc n) (x ∷ y ∷ xs) = drop-on_last f n (y ∷ xs)

pub part-length : {A : Type 0} (xs : List A) (start end : ℕ) → end ≤ length xs → length (drop start (take end xs)) ≡ end - start
part-length xs start end l = length-drop start (take end xs) ∙ ap (λ (n : ℕ). n - start) (length-take-le end xs l)

-- the part as a slice gives it
pub part-slice : {A : Type 0} (xs : List A) (start end : ℕ) → start ≤ end → take (end - start) (drop start xs) ≡ drop start (take end xs)
part-slice xs start end r =
    let n : start + (end - start) ≡ end = omega arith in
    sym (drop-take start (end - start) xs) ∙ ap (λ (k : ℕ). drop start (take k xs)) n

module _ {H : Type 0} (start : H → ℕ) where
  pub next-within : (hs : List H) (n : ℕ) → AreStarts start hs n → next_start start hs n ≤ n
  next-within [] n a = omega arith
  next-within (h ∷ hs) n a = omega (arith, a.0, next-within hs n a.1)

  pub starts-push : (hs : List H) (h : H) (n : ℕ) → AreStarts start hs n → start h ≡ n → AreStarts start (hs ++ h ∷ []) n
  starts-push [] h n a e = (omega arith, tt)
  starts-push (g ∷ []) h n a e = (omega (arith, a.0), starts-push [] h n tt e)
  starts-push (g ∷ k ∷ hs) h n a e = (a.0, starts-push (k ∷ hs) h n a.1 e)

  pub starts-more : (hs : List H) (n m : ℕ) → AreStarts start hs n → n ≤ m → AreStarts start hs m
  starts-more [] n m a l = tt
  starts-more (h ∷ []) n m a l = (omega (arith, a.0), tt)
  starts-more (h ∷ k ∷ hs) n m a l = (a.0, starts-more (k ∷ hs) n m a.1 l)

  -- where the part of the value at a place begins and ends
  pub start-at : (hs : List H) (i n : ℕ) (h : H) → AreStarts start hs n → h ≡ get_or hs i h → i < length hs → start h ≤ next_start start (drop (suc i) hs) n
  start-at [] i n h a e l = absurd (omega arith)
  start-at (g ∷ hs) zero n h a e l = subst (λ (k : H). start k ≤ next_start start hs n) (sym e) a.0
  start-at (g ∷ hs) (suc i) n h a e l = start-at hs i n h a.1 e (omega arith)

  pub end-at : (hs : List H) (i n : ℕ) → AreStarts start hs n → next_start start (drop i hs) n ≤ n
  end-at hs zero n a = next-within hs n a
  end-at [] (suc i) n a = omega arith
  end-at (h ∷ hs) (suc i) n a = end-at hs i n a.1

  module _ {A B : Type 0} (make : H → List A → B) where
    pub length-parts : (hs : List H) (xs : List A) → length (parts start make hs xs) ≡ length hs
    length-parts [] xs = refl
    length-parts (h ∷ hs) xs = ap suc (length-parts hs xs)

    -- one value more, whose part is empty yet
    pub parts-push : (hs : List H) (h : H) (xs : List A) → AreStarts start hs (length xs) → start h ≡ length xs → parts start make (hs ++ h ∷ []) xs ≡ parts start make hs xs ++ make h [] ∷ []
    parts-push [] h xs a e = ap (λ (ys : List A). make h ys ∷ []) (drop_all (start h) (take (length xs) xs) (let n = length-take-le (length xs) xs (omega arith) in omega arith))
    parts-push (g ∷ []) h xs a e = λ i. make g (drop (start g) (take (e i) xs)) ∷ parts-push [] h xs tt e i
    parts-push (g ∷ k ∷ hs) h xs a e = ap (λ (bs : List B). make g (drop (start g) (take (start k) xs)) ∷ bs) (parts-push (k ∷ hs) h xs a.1 e)

    -- more elements, which the last part takes
    pub parts-more : (f : B → B) (ys : List A) → ((h : H) (part : List A) → make h (part ++ ys) ≡ f (make h part)) → (hs : List H) (xs : List A) → AreStarts start hs (length xs) → parts start make hs (xs ++ ys) ≡ on_last f (parts start make hs xs)
    parts-more f ys p [] xs a = refl
    parts-more f ys p (h ∷ []) xs a =
        let t : take (length (xs ++ ys)) (xs ++ ys) ≡ xs ++ ys = take_all (length (xs ++ ys)) (xs ++ ys) (omega arith) in
        let u : take (length xs) xs ≡ xs = take_all (length xs) xs (omega arith) in
        ap (λ (zs : List A). make h (drop (start h) zs) ∷ []) t
        ∙ (ap (λ (zs : List A). make h zs ∷ []) (drop-append-le (start h) xs ys a.0)
        ∙ (ap (λ (b : B). b ∷ []) (p h (drop (start h) xs)) ∙ ap (λ (zs : List A). f (make h (drop (start h) zs)) ∷ []) (sym u)))
    parts-more f ys p (h ∷ k ∷ hs) xs a =
        let w : start k ≤ length xs = next-within (k ∷ hs) (length xs) a.1 in
        λ i. make h (drop (start h) (take-append-le (start k) xs ys w i)) ∷ parts-more f ys p (k ∷ hs) xs a.1 i

    module _ (content : B → List A) (holds : (h : H) (part : List A) → content (make h part) ≡ part) where
      -- what the last part holds
      pub last-part : (hs : List H) (i : ℕ) (h : H) (xs : List A) → suc i ≡ length hs → h ≡ get_or hs i h → in_last content (parts start make hs xs) ≡ drop (start h) xs
      last-part [] i h xs l e = absurd (omega arith)
      last-part (g ∷ []) zero h xs l e =
          holds g (drop (start g) (take (length xs) xs))
          ∙ (ap (drop (start g)) (take_all (length xs) xs (omega arith)) ∙ ap (λ (k : H). drop (start k) xs) (sym e))
      last-part (g ∷ []) (suc i) h xs l e = absurd (omega arith)
      last-part (g ∷ k ∷ hs) zero h xs l e = absurd (omega arith)
      last-part (g ∷ k ∷ hs) (suc i) h xs l e = last-part (k ∷ hs) i h xs (omega arith) e

      pub last-length : (hs : List H) (i : ℕ) (h : H) (xs : List A) → suc i ≡ length hs → h ≡ get_or hs i h → length (in_last content (parts start make hs xs)) ≡ length xs - start h
      last-length hs i h xs l e = ap length (last-part hs i h xs l e) ∙ length-drop (start h) xs

      -- what the last element of the last part holds, if it has one, is what the last element holds
      pub last-inner : {C : Type 0} (inner : A → List C) (hs : List H) (xs : List A) → 0 < length (in_last content (parts start make hs xs)) → in_last inner (in_last content (parts start make hs xs)) ≡ in_last inner xs
      last-inner inner [] xs l = absurd (omega arith)
      last-inner inner (h ∷ []) xs l =
          let e : in_last content (parts start make (h ∷ []) xs) ≡ drop (start h) xs = last-part (h ∷ []) 0 h xs refl refl in
          let n : length (in_last content (parts start make (h ∷ []) xs)) ≡ length xs - start h = last-length (h ∷ []) 0 h xs refl refl in
          ap (in_last inner) e ∙ last-drop inner (start h) xs (omega arith)
      last-inner inner (h ∷ k ∷ hs) xs l = last-inner inner (k ∷ hs) xs l

      -- the last part begins before the end, if it holds something
      last-begins : (h : H) (hs : List H) (xs : List A) → AreStarts start (h ∷ hs) (length xs) → 0 < length (in_last content (parts start make (h ∷ hs) xs)) → start h < length xs
      last-begins h [] xs a l =
          let n : length (in_last content (parts start make (h ∷ []) xs)) ≡ length xs - start h = last-length (h ∷ []) 0 h xs refl refl in
          omega arith
      last-begins h (k ∷ hs) xs a l = omega (arith, a.0, last-begins k hs xs a.1 l)

      -- the last element changed, which is one of the last part
      pub parts-last : (f : A → A) (g : B → B) → ((h : H) (part : List A) → make h (on_last f part) ≡ g (make h part)) → (hs : List H) (xs : List A) → AreStarts start hs (length xs) → 0 < length (in_last content (parts start make hs xs)) → parts start make hs (on_last f xs) ≡ on_last g (parts start make hs xs)
      parts-last f g p [] xs a l = refl
      parts-last f g p (h ∷ []) xs a l =
          let t : take (length (on_last f xs)) (on_last f xs) ≡ on_last f xs = take_all (length (on_last f xs)) (on_last f xs) (omega arith) in
          let u : take (length xs) xs ≡ xs = take_all (length xs) xs (omega arith) in
          ap (λ (zs : List A). make h (drop (start h) zs) ∷ []) t
          ∙ (ap (λ (zs : List A). make h zs ∷ []) (drop-on_last f (start h) xs)
          ∙ (ap (λ (b : B). b ∷ []) (p h (drop (start h) xs)) ∙ ap (λ (zs : List A). g (make h (drop (start h) zs)) ∷ []) (sym u)))
      parts-last f g p (h ∷ k ∷ hs) xs a l =
          let w : start k < length xs = last-begins k hs xs a.1 l in
          λ i. make h (drop (start h) (take-on_last f (start k) xs w i)) ∷ parts-last f g p (k ∷ hs) xs a.1 l i

    -- what is made at a place
    pub parts-at : (hs : List H) (i : ℕ) (h : H) (end : ℕ) (xs : List A) → h ≡ get_or hs i h → i < length hs → end ≡ next_start start (drop (suc i) hs) (length xs) → slice_get (parts start make hs xs) i ≡ Some (make h (drop (start h) (take end xs)))
    parts-at [] i h end xs e l n = absurd (omega arith)
    parts-at (g ∷ hs) zero h end xs e l n = λ i. Some (make (sym e i) (drop (start (sym e i)) (take (sym n i) xs)))
    parts-at (g ∷ hs) (suc i) h end xs e l n = parts-at hs i h end xs e (omega arith) n

-- the same of lists
pub lists-at : {A : Type 0} (starts : List ℕ) (xs : List A) (i start end : ℕ) → i < length starts → start ≡ get_or starts i start → end ≡ next_start itself (drop (i + 1) starts) (length xs) → get_or (lists_of starts xs) i [] ≡ drop start (take end xs)
lists-at {A} starts xs i start end l e n =
    get_or_from_slice_get (lists_of starts xs) i (drop start (take end xs)) [] (parts-at itself (λ (start : ℕ) (part : List A). part) starts i start end xs e l (rw add-one at n))

pub list-begins : (starts : List ℕ) (i start end n : ℕ) → AreStarts itself starts n → i < length starts → start ≡ get_or starts i start → end ≡ next_start itself (drop (i + 1) starts) n → (start ≤ end) × (end ≤ n)
list-begins starts i start end n a l e h =
    let k : end ≡ next_start itself (drop (suc i) starts) n = rw add-one at h in
    (let m = start-at itself starts i n start a e l in omega arith, let m = end-at itself starts (suc i) n a in omega arith)

pub length-lists : {A : Type 0} (starts : List ℕ) (xs : List A) → length (lists_of starts xs) ≡ length starts
length-lists {A} starts xs = length-parts itself (λ (start : ℕ) (part : List A). part) starts xs

pub lists-push : {A : Type 0} (starts : List ℕ) (xs : List A) (start : ℕ) → AreStarts itself starts (length xs) → start ≡ length xs → lists_of (starts ++ start ∷ []) xs ≡ lists_of starts xs ++ [] ∷ []
lists-push {A} starts xs start a e = parts-push itself (λ (start : ℕ) (part : List A). part) starts start xs a e

pub lists-more : {A : Type 0} (starts : List ℕ) (xs ys : List A) → AreStarts itself starts (length xs) → lists_of starts (xs ++ ys) ≡ on_last (λ part. part ++ ys) (lists_of starts xs)
lists-more {A} starts xs ys a = parts-more itself (λ (start : ℕ) (part : List A). part) (λ (part : List A). part ++ ys) ys (λ h part. refl) starts xs a

-- a list of these elements more
pub list-added : {A : Type 0} (starts : List ℕ) (xs ys : List A) (start : ℕ) → AreStarts itself starts (length xs) → start ≡ length xs → lists_of (starts ++ start ∷ []) (xs ++ ys) ≡ lists_of starts xs ++ ys ∷ []
list-added {A} starts xs ys start a e =
    lists-more (starts ++ start ∷ []) xs ys (starts-push itself starts start (length xs) a e)
    ∙ (ap (λ (ls : List (List A)). on_last (λ (part : List A). part ++ ys) ls) (lists-push starts xs start a e)
    ∙ on_last-push (λ (part : List A). part ++ ys) (lists_of starts xs) [])

-- a test by where the last part begins
pub open_iff : (start total held : ℕ) → held ≡ total - start → IsTrue (nat_lt start total) ↔ (0 < held)
open_iff start total held e = ((λ t. let l : start < total = grind (arith, nat_tests) in omega arith), (λ l. let m : start < total = omega arith in grind (arith, nat_tests)))
