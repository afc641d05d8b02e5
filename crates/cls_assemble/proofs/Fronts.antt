-- The piece that bytes begin with, and the bytes that spell it.
use Rattle.std.proofs.Common.{◌≡◌, ℕ, suc, ◌+◌, ◌-◌, ◌<◌, ◌≤◌, Bool, true, false, List, [], ◌∷◌, ◌++◌, length, take, drop, get_or, refl, sym, ap, ◌∙◌, subst, arith, append_assoc, length-append, length-drop}
use Rattle.std.specs.Prelude.{Option, Some, None, ◌&&◌, ◌==◌, not, nat_lt, if◌then◌else◌}
use Rattle.std.specs.List.{prefix_len, list_all}
use Rattle.std.proofs.lemmas.Bool.{and_parts}
use Rattle.std.proofs.lemmas.List.{take_more, get_or-drop}
use Rattle.std.proofs.Math.Seq.{take-append_seam, drop-append_seam}
use Rattle.std.proofs.lemmas.List.Folds.{length-prefix_len}
use Rattle.cls_lexer.specs.Characters.{is_digit}
use Rattle.cls_lexer.specs.Numerals.{is_numeral, number_value}
use Rattle.cls_lexer.proofs.Runs.{list_all-prefix}
use Rattle.cls_assemble.specs.declared.piece.Piece.{Piece}
use Rattle.cls_assemble.specs.declared.piece.Piece.TheVariants.{Byte, Hole}
use Rattle.cls_assemble.specs.Spelling.{is_plain, Spells, plain, opening, closing, line_feed, backslash, hole}
use Rattle.cls_assemble.specs.Fronts.{begins_with, digit_count, is_hole, after_opening, after_closing, after_backslash, first_piece}

-- the first bytes of the text, so many, spell the piece
pub record IsFirst (text : List ℕ) (piece : Piece) (count : ℕ) : Type 0 where
  pub spelled : Spells piece (take count text)
  pub within : count ≤ length text
  pub some : 1 ≤ count

-- and if the text begins with a brace or a backslash, the last of them is ASCII, and so is the byte that they stand for
pub record IsFirstMark (text : List ℕ) (piece : Piece) (count : ℕ) : Type 0 where
  pub first : IsFirst text piece count
  pub ascii : get_or text (count - 1) 0 < 128
  pub byte : (b : ℕ) → piece ≡ Byte b → b < 128

abbrev pub piece_in : Option (Piece × ℕ) → Piece
piece_in None = Byte 0
piece_in (Some f) = f.0

abbrev pub count_in : Option (Piece × ℕ) → ℕ
count_in None = 0
count_in (Some f) = f.1

moved : (text : List ℕ) (p q : Piece) (m n : ℕ) → IsFirstMark text p m → ◌≡◌ {A = Option (Piece × ℕ)} (Some (p, m)) (Some (q, n)) → IsFirstMark text q n
moved text p q m n h e =
    let same_piece : p ≡ q = ap piece_in e in
    let same_count : m ≡ n = ap count_in e in
    subst (λ (k : ℕ). IsFirstMark text q k) same_count (subst (λ (r : Piece). IsFirstMark text r m) same_piece h)

doubled : (b c d : ℕ) (bytes : List ℕ) → begins_with c bytes ≡ true → Spells (Byte d) (b ∷ c ∷ []) → c < 128 → d < 128 → IsFirstMark (b ∷ bytes) (Byte d) 2
doubled b c d [] t s l k = cc
doubled b c d (e ∷ bytes) t s l k =
    let same : c ≡ e = grind arith in
    record {
      first = record { spelled = subst (λ (x : ℕ). Spells (Byte d) (b ∷ x ∷ [])) same s; within = omega arith; some = omega arith };
      ascii = omega arith;
      byte = λ x h. let q : d ≡ x = cc in omega arith;
    }

numeral-from_digits : (ds : List ℕ) → list_all is_digit ds ≡ true → 0 < length ds → is_numeral ds ≡ true
numeral-from_digits [] h l = absurd (omega arith)
numeral-from_digits (d ∷ ds) h l = h

begins_with-first : (b : ℕ) (bytes : List ℕ) → begins_with b bytes ≡ true → (0 < length bytes) × (get_or bytes 0 0 ≡ b)
begins_with-first b [] h = cc
begins_with-first b (c ∷ bytes) h = (omega arith, grind arith)

begins_with-at : (b : ℕ) (bytes : List ℕ) (n : ℕ) → begins_with b (drop n bytes) ≡ true → (n < length bytes) × (get_or bytes n 0 ≡ b)
begins_with-at b bytes n h =
    let first = begins_with-first b (drop n bytes) h in
    let same : n + 0 ≡ n = omega arith in
    (omega (arith, length-drop n bytes, first.0), ap (λ (k : ℕ). get_or bytes k 0) (sym same) ∙ (sym (get_or-drop n bytes 0 0) ∙ first.1))

-- the bytes of a hole, by its digits
hole_bytes : (bytes : List ℕ) (m : ℕ) → m < length bytes → get_or bytes m 0 ≡ 125 → take (m + 2) (123 ∷ bytes) ≡ 123 ∷ (take m bytes ++ 125 ∷ [])
hole_bytes bytes m l e =
    let more : m + 2 ≡ suc (m + 1) = omega arith in
    ap (λ (k : ℕ). take k (123 ∷ bytes)) more ∙ ap (λ (xs : List ℕ). 123 ∷ xs) (take_more bytes m 0 l ∙ ap (λ (b : ℕ). take m bytes ++ b ∷ []) e)

hole_last : (bytes : List ℕ) (m : ℕ) → get_or bytes m 0 ≡ 125 → get_or (123 ∷ bytes) (m + 2 - 1) 0 < 128
hole_last bytes m e =
    let last : m + 2 - 1 ≡ suc m = omega arith in
    let same : get_or (123 ∷ bytes) (m + 2 - 1) 0 ≡ 125 = ap (λ (k : ℕ). get_or (123 ∷ bytes) k 0) last ∙ e in
    omega (arith, same)

hole_first : (bytes : List ℕ) → is_hole bytes ≡ true → IsFirstMark (123 ∷ bytes) (Hole (number_value (take (digit_count bytes) bytes))) (digit_count bytes + 2)
hole_first bytes h =
    let m : ℕ = digit_count bytes in
    let parts = and_parts _ _ h in
    let some : 0 < m = grind arith in
    let end = begins_with-at 125 bytes m parts.1 in
    let digits = numeral-from_digits (take m bytes) (list_all-prefix is_digit bytes) (omega (arith, length-prefix_len is_digit bytes)) in
    record {
      first = record { spelled = subst (λ (xs : List ℕ). Spells (Hole (number_value (take m bytes))) xs) (sym (hole_bytes bytes m end.0 end.1)) (hole (take m bytes) digits); within = omega (arith, end.0); some = omega arith };
      ascii = hole_last bytes m end.1;
      byte = λ b e. cc;
    }

choose : (text : List ℕ) (q : Piece) (n : ℕ) (c : Bool) (x y : Option (Piece × ℕ)) → (c ≡ true → x ≡ Some (q, n) → IsFirstMark text q n) → (c ≡ false → y ≡ Some (q, n) → IsFirstMark text q n) → (if c then x else y) ≡ Some (q, n) → IsFirstMark text q n
choose text q n true x y f g e = f refl e
choose text q n false x y f g e = g refl e

after_opening-first : (bytes : List ℕ) (q : Piece) (n : ℕ) → after_opening bytes ≡ Some (q, n) → IsFirstMark (123 ∷ bytes) q n
after_opening-first bytes q n =
    choose (123 ∷ bytes) q n (begins_with 123 bytes) _ _ (λ t e. moved _ _ _ _ _ (doubled 123 123 123 bytes t opening (omega arith) (omega arith)) e)
    (λ f. choose (123 ∷ bytes) q n (is_hole bytes) _ _ (λ t e. moved _ _ _ _ _ (hole_first bytes t) e) (λ t e. cc))

after_closing-first : (bytes : List ℕ) (q : Piece) (n : ℕ) → after_closing bytes ≡ Some (q, n) → IsFirstMark (125 ∷ bytes) q n
after_closing-first bytes q n =
    choose (125 ∷ bytes) q n (begins_with 125 bytes) _ _ (λ t e. moved _ _ _ _ _ (doubled 125 125 125 bytes t closing (omega arith) (omega arith)) e) (λ t e. cc)

after_backslash-first : (bytes : List ℕ) (q : Piece) (n : ℕ) → after_backslash bytes ≡ Some (q, n) → IsFirstMark (92 ∷ bytes) q n
after_backslash-first bytes q n =
    choose (92 ∷ bytes) q n (begins_with 110 bytes) _ _ (λ t e. moved _ _ _ _ _ (doubled 92 110 10 bytes t line_feed (omega arith) (omega arith)) e)
    (λ f. choose (92 ∷ bytes) q n (begins_with 92 bytes) _ _ (λ t e. moved _ _ _ _ _ (doubled 92 92 92 bytes t backslash (omega arith) (omega arith)) e) (λ t e. cc))

same_byte : (b c : ℕ) → (b == c) ≡ true → c ≡ b
same_byte b c h = grind arith

not_plain : (b : ℕ) (bytes : List ℕ) → (b == 123) ≡ false → (b == 125) ≡ false → (b == 92) ≡ false → prefix_len is_plain (b ∷ bytes) ≡ 0 → ⊥
not_plain b bytes f g h e =
    let p : is_plain b ≡ true = λ i. not (f i) && not (g i) && not (h i) in
    let q : prefix_len is_plain (b ∷ bytes) ≡ 1 + prefix_len is_plain bytes = ap (λ (v : Bool). if v then 1 + prefix_len is_plain bytes else 0) p in
    omega (arith, q, e)

-- what is found at a byte that doesn't stand for itself
pub first_piece-mark : (text : List ℕ) (q : Piece) (n : ℕ) → prefix_len is_plain text ≡ 0 → first_piece text ≡ Some (q, n) → IsFirstMark text q n
first_piece-mark [] q n h e = cc
first_piece-mark (b ∷ bytes) q n h e =
    choose (b ∷ bytes) q n (b == 123) _ _ (λ t e. subst (λ (x : ℕ). IsFirstMark (x ∷ bytes) q n) (same_byte b 123 t) (after_opening-first bytes q n e))
    (λ f. choose (b ∷ bytes) q n (b == 125) _ _ (λ t e. subst (λ (x : ℕ). IsFirstMark (x ∷ bytes) q n) (same_byte b 125 t) (after_closing-first bytes q n e))
    (λ g. choose (b ∷ bytes) q n (b == 92) _ _ (λ t e. subst (λ (x : ℕ). IsFirstMark (x ∷ bytes) q n) (same_byte b 92 t) (after_backslash-first bytes q n e))
    (λ k e. absurd (not_plain b bytes f g k h)))) e

if-true : {A : Type 0} (c : Bool) (x y : A) → c ≡ true → (if c then x else y) ≡ x
if-true c x y h = ap (λ (v : Bool). if v then x else y) h

if-false : {A : Type 0} (c : Bool) (x y : A) → c ≡ false → (if c then x else y) ≡ y
if-false c x y h = ap (λ (v : Bool). if v then x else y) h

not-true : (b : Bool) → not b ≡ true → b ≡ false
not-true true h = sym h
not-true false h = refl

digit_count-numeral : (ds more : List ℕ) → list_all is_digit ds ≡ true → digit_count (ds ++ 125 ∷ more) ≡ length ds
digit_count-numeral [] more h = refl
digit_count-numeral (d ∷ ds) more h =
    let parts = and_parts _ _ h in
    if-true (is_digit d) (1 + digit_count (ds ++ 125 ∷ more)) 0 parts.0 ∙ omega (arith, digit_count-numeral ds more parts.1)

digit-opening : (d : ℕ) → is_digit d ≡ true → (d == 123) ≡ false
digit-opening d h = grind arith

after_opening-digits : (ds more : List ℕ) → begins_with 123 (ds ++ 125 ∷ more) ≡ false → list_all is_digit ds ≡ true → 0 < length ds → after_opening (ds ++ 125 ∷ more) ≡ Some (Hole (number_value ds), length ds + 2)
after_opening-digits ds more f h l =
    let xs : List ℕ = ds ++ 125 ∷ more in
    let count = digit_count-numeral ds more h in
    let front : take (digit_count xs) xs ≡ ds = ap (λ (k : ℕ). take k xs) count ∙ take-append_seam ds (125 ∷ more) in
    let back : drop (digit_count xs) xs ≡ 125 ∷ more = ap (λ (k : ℕ). drop k xs) count ∙ drop-append_seam ds (125 ∷ more) in
    let some : nat_lt 0 (digit_count xs) ≡ true = grind arith in
    let ends : begins_with 125 (drop (digit_count xs) xs) ≡ true = ap (begins_with 125) back in
    let found : is_hole xs ≡ true = λ i. some i && ends i in
    if-false (begins_with 123 xs) _ _ f ∙ (if-true (is_hole xs) _ _ found ∙ (λ i. Some (Hole (number_value (front i)), count i + 2)))

after_opening-hole : (ds more : List ℕ) → is_numeral ds ≡ true → after_opening (ds ++ 125 ∷ more) ≡ Some (Hole (number_value ds), length ds + 2)
after_opening-hole [] more h = cc
after_opening-hole (d ∷ ds) more h = after_opening-digits (d ∷ ds) more (digit-opening d (and_parts _ _ h).0) h (omega arith)

first_piece-plain : (b : ℕ) (more : List ℕ) → is_plain b ≡ true → first_piece (b ∷ more) ≡ Some (Byte b, 1)
first_piece-plain b more h =
    let parts = and_parts _ _ h in
    let braces = and_parts _ _ parts.0 in
    if-false (b == 123) _ _ (not-true _ braces.0) ∙ (if-false (b == 125) _ _ (not-true _ braces.1) ∙ if-false (b == 92) _ _ (not-true _ parts.1))

-- what spells a piece is found
pub first_piece-spells : {p : Piece} {front : List ℕ} → Spells p front → (more : List ℕ) → first_piece (front ++ more) ≡ Some (p, length front)
first_piece-spells (plain {b} h) more = first_piece-plain b more h
first_piece-spells opening more = refl
first_piece-spells closing more = refl
first_piece-spells line_feed more = refl
first_piece-spells backslash more = refl
first_piece-spells (hole ds h) more =
    let size : length ds + 2 ≡ length (123 ∷ (ds ++ 125 ∷ [])) = omega (arith, length-append ds (125 ∷ [])) in
    ap after_opening (append_assoc ds (125 ∷ []) more) ∙ (after_opening-hole ds more h ∙ ap (λ (k : ℕ). Some (Hole (number_value ds), k)) size)
