-- The number of a short text: it fits 128 bits, and it tells the text.
use Rattle.std.proofs.Common.{◌≡◌, ℕ, zero, suc, ◌+◌, ◌-◌, ◌*◌, ◌^◌, ◌<◌, ◌≤◌, List, [], ◌∷◌, length, take, drop, get_or, refl, ap, subst, sym, ◌∙◌, arith}
use Rattle.std.proofs.lemmas.List.{at_drop_more, length-drop}
use Rattle.std.specs.Int.Digits.{AllBelowBase}
use Rattle.std.proofs.Math.Nat.{mul_assoc, pow-le-pow_right, pow-suc}
use Rattle.cls_lexer.specs.TextKeys.{number_with, text_number}

-- bytes that are read one by one
pub all_bytes : (xs : List ℕ) → ((i : ℕ) → get_or xs i 0 < 256) → AllBelowBase 256 xs
all_bytes [] h = tt
all_bytes (x ∷ xs) h = (h 0, all_bytes xs (λ i. h (suc i)))

pub bytes-drop : (i : ℕ) (xs : List ℕ) → AllBelowBase 256 xs → AllBelowBase 256 (drop i xs)
bytes-drop zero xs h = h
bytes-drop (suc i) [] h = tt
bytes-drop (suc i) (x ∷ xs) h = bytes-drop i xs h.1

pub number_positive : (xs : List ℕ) → 0 < text_number xs
number_positive [] = omega arith
number_positive (x ∷ xs) = let h = number_positive xs in omega (arith, h)

-- the last digit takes as much room as a byte, where it is not 0
number_bound : (last : ℕ) (xs : List ℕ) → last ≤ 1 → AllBelowBase 256 xs → number_with last xs < 256 ^ (length xs + last)
number_bound zero [] t h = omega arith
number_bound (suc zero) [] t h = omega arith
number_bound (suc (suc last)) [] t h = absurd (omega (arith, t))
number_bound last (x ∷ xs) t h =
    let b = number_bound last xs t h.1 in
    let d = h.0 in
    let p : 256 ^ (length (x ∷ xs) + last) ≡ 256 ^ (length xs + last) * 256 = ap (λ n. 256 ^ n) {x = length (x ∷ xs) + last} (omega arith) ∙ pow-suc 256 (length xs + last) in
    omega (arith, b, d, p)

-- two texts of one number are the same
pub number_tells : (xs ys : List ℕ) → AllBelowBase 256 xs → AllBelowBase 256 ys → text_number xs ≡ text_number ys → xs ≡ ys
number_tells [] [] h k e = refl
number_tells [] (y ∷ ys) h k e = let p = number_positive ys in absurd (omega (arith, e, p))
number_tells (x ∷ xs) [] h k e = let p = number_positive xs in absurd (omega (arith, e, p))
number_tells (x ∷ xs) (y ∷ ys) h k e =
    let a = h.0 in let b = k.0 in
    let same : x ≡ y = omega (arith, a, b, e) in
    let rest : text_number xs ≡ text_number ys = omega (arith, a, b, e) in
    ap (λ n. n ∷ xs) same ∙ ap (λ ns. y ∷ ns) (number_tells xs ys h.1 k.1 rest)

-- one byte more at the front
pub number_step : (last : ℕ) (bytes : List ℕ) (place : ℕ) → 0 < place → place ≤ length bytes → number_with last (drop place bytes) * 256 + get_or bytes (place - 1) 0 ≡ number_with last (drop (place - 1) bytes)
number_step last bytes place more within =
    let front : place - 1 + 1 ≡ place = omega (arith, more) in
    subst (λ p. number_with last (drop p bytes) * 256 + get_or bytes (place - 1) 0 ≡ number_with last (drop (place - 1) bytes)) front (sym (at_drop_more (number_with last) bytes (place - 1) 0 (omega (arith, more, within))))

-- the number of what stands behind the first byte of eight digits has room for a byte
pub number_room : (last : ℕ) (bytes : List ℕ) (place : ℕ) → last ≤ 1 → length bytes + last ≤ 8 → ((i : ℕ) → get_or bytes i 0 < 256) → 0 < place → place ≤ length bytes → number_with last (drop place bytes) * 256 + 255 < 2 ^ 64
number_room last bytes place digit few below more within =
    let bound = number_bound last (drop place bytes) digit (bytes-drop place bytes (all_bytes bytes below)) in
    let long = length-drop place bytes in
    let most : 256 ^ (length (drop place bytes) + last) ≤ 256 ^ 7 = pow-le-pow_right (omega arith) {j = 7} (omega (arith, long, few, more, within)) in
    omega (arith, bound, most)

-- a number is that of its first bytes and that of the others
number_parts : (k last : ℕ) (xs : List ℕ) → k ≤ length xs → number_with last xs ≡ number_with last (drop k xs) * 256 ^ k + number_with 0 (take k xs)
number_parts zero last xs h = omega arith
number_parts (suc k) last [] h = absurd (omega arith)
number_parts (suc k) last (x ∷ xs) h =
    let rest = number_parts k last xs (omega arith) in
    let high = number_with last (drop k xs) in
    let power : high * 256 ^ suc k ≡ high * 256 ^ k * 256 = ap (λ n. high * n) (pow-suc 256 k) ∙ sym (mul_assoc high (256 ^ k) 256) in
    omega (arith, rest, power)

-- the number of a text of eight bytes or more
pub number_halves : (text : List ℕ) → 8 ≤ length text → text_number text ≡ number_with 1 (drop 8 text) * 2 ^ 64 + number_with 0 (take 8 text)
number_halves text long = number_parts 8 1 text long
