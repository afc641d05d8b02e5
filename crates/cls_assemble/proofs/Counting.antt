-- The length of a text as the code counts it.
use Rattle.std.proofs.Common.{◌≡◌, ℕ, ◌+◌, ◌-◌, ◌<◌, ◌≤◌, List, [], ◌∷◌, ◌++◌, length, map, max, get_or, set, take, drop, refl, sym, ap, ◌∙◌, arith, suc, zero, inl, inr, length-append, length-set}
use Rattle.std.specs.Prelude.{codes}
use Rattle.std.specs.List.{AllByRecursion, flat_map}
use Rattle.std.proofs.lemmas.Bool.{cases_lt}
use Rattle.std.proofs.lemmas.List.{get_or-set_other, get_or-take, get_or_past, length-take, length-map, drop-map, take_all, drop_all, get_or_default}
use Rattle.std.proofs.lemmas.Grind.{get_or-set_at}
use Rattle.std.proofs.Math.ListN.{get_or-map}
use Rattle.std.proofs.Math.Seq.{drop-cons}
use Rattle.cls_base.specs.Terms.{Applicative}
use Rattle.cls_assemble.specs.declared.piece.Piece.{Piece}
use Rattle.cls_assemble.specs.declared.piece.Piece.TheVariants.{Byte, Hole}
use Rattle.cls_assemble.specs.Spelling.{IsNumbered}
use Rattle.cls_assemble.specs.Texts.{text_of, greatest_hole, piece_text, in_parentheses, filled}
use Rattle.cls_assemble.specs.Lengths.{piece_length, pieces_length, surplus_length, FilledLengths, capped_length}

piece_length-text : (texts : List (List ℕ)) (p : Piece) → length (piece_text texts p) ≡ piece_length (map length texts) p
piece_length-text texts (Byte b) = refl
piece_length-text texts (Hole n) = sym (get_or-map length texts (n - 1) (codes "_"))

pieces_length-texts : (texts : List (List ℕ)) (ps : List Piece) → length (flat_map (piece_text texts) ps) ≡ pieces_length (map length texts) ps
pieces_length-texts texts [] = refl
pieces_length-texts texts (p ∷ ps) = omega (arith, length-append (piece_text texts p) (flat_map (piece_text texts) ps), piece_length-text texts p, pieces_length-texts texts ps)

surplus_length-texts : (texts : List (List ℕ)) → length (flat_map in_parentheses texts) ≡ surplus_length (map length texts)
surplus_length-texts [] = refl
surplus_length-texts (t ∷ texts) = omega (arith, length-append (in_parentheses t) (flat_map in_parentheses texts), length-append (codes "(" ++ t) (codes ")"), length-append (codes "(") t, surplus_length-texts texts)

pub filled_length-texts : FilledLengths
filled_length-texts pieces texts =
    let surplus : length (flat_map in_parentheses (drop (greatest_hole pieces) texts)) ≡ surplus_length (drop (greatest_hole pieces) (map length texts)) = surplus_length-texts (drop (greatest_hole pieces) texts) ∙ ap surplus_length (sym (drop-map length (greatest_hole pieces) texts)) in
    omega (arith, length-append (flat_map (piece_text texts) pieces) (flat_map in_parentheses (drop (greatest_hole pieces) texts)), pieces_length-texts texts pieces, surplus)

-- lengths over the limit may count as one more than it
pieces_length-capped : (lengths : List ℕ) (ps : List Piece) → capped_length (pieces_length (map capped_length lengths) ps) ≡ capped_length (pieces_length lengths ps)
pieces_length-capped lengths [] = refl
pieces_length-capped lengths (Byte b ∷ ps) = omega (arith, pieces_length-capped lengths ps)
pieces_length-capped lengths (Hole n ∷ ps) = let one = get_or-map capped_length lengths (n - 1) 1 in omega (arith, pieces_length-capped lengths ps, one)

surplus_length-capped : (lengths : List ℕ) → capped_length (surplus_length (map capped_length lengths)) ≡ capped_length (surplus_length lengths)
surplus_length-capped [] = refl
surplus_length-capped (n ∷ lengths) = omega (arith, surplus_length-capped lengths)

-- The first lengths are those of the list, as far as they are known, and 1 behind them.
pub record AreKnown (lengths : List ℕ) (count : ℕ) (known : List ℕ) : Type 0 where
  pub size : length known ≡ 16
  pub each : (k : ℕ) → k < 16 → get_or known k 1 ≡ get_or (take count lengths) k 1

ones_from : (xs : List ℕ) → AllByRecursion (λ (x : ℕ). x ≡ 1) xs → (k : ℕ) → get_or xs k 1 ≡ 1
ones_from [] h k = refl
ones_from (x ∷ xs) h zero = h.0
ones_from (x ∷ xs) h (suc k) = ones_from xs h.1 k

abbrev pub ones : List ℕ
ones = 1 ∷ 1 ∷ 1 ∷ 1 ∷ 1 ∷ 1 ∷ 1 ∷ 1 ∷ 1 ∷ 1 ∷ 1 ∷ 1 ∷ 1 ∷ 1 ∷ 1 ∷ 1 ∷ []

ones_at : (k : ℕ) → ◌≡◌ {A = ℕ} (get_or ones k 1) 1
ones_at k = ones_from ones (refl, (refl, (refl, (refl, (refl, (refl, (refl, (refl, (refl, (refl, (refl, (refl, (refl, (refl, (refl, (refl, tt)))))))))))))))) k

known_at : (lengths : List ℕ) (count : ℕ) (known : List ℕ) (n : ℕ) → count < length lengths → n ≡ get_or lengths count 1 → AreKnown lengths count known → (k : ℕ) → k < 16 → get_or (set known count n) k 1 ≡ get_or (take (count + 1) lengths) k 1
known_at lengths count known n l e h k m =
    elim (cases_lt k count) as (λ _. get_or (set known count n) k 1 ≡ get_or (take (count + 1) lengths) k 1) [
      | inl less ↦ get_or-set_other known count k n 1 (λ q. omega arith) ∙ (h.each k m ∙ (get_or-take count lengths k 1 less ∙ sym (get_or-take (count + 1) lengths k 1 (omega arith))))
      | inr most ↦ elim (cases_lt count k) as (λ _. get_or (set known count n) k 1 ≡ get_or (take (count + 1) lengths) k 1) [
        | inl more ↦ get_or-set_other known count k n 1 (λ q. omega arith) ∙ (h.each k m ∙ (get_or_past (take count lengths) k 1 (omega (arith, length-take count lengths)) ∙ sym (get_or_past (take (count + 1) lengths) k 1 (omega (arith, length-take (count + 1) lengths)))))
        | inr last ↦ let same : k ≡ count = omega arith in get_or-set_at known count k n 1 same (omega (arith, h.size)) ∙ (e ∙ (ap (λ (i : ℕ). get_or lengths i 1) (sym same) ∙ sym (get_or-take (count + 1) lengths k 1 (omega arith))))
      ]
    ]

pub AreKnown-none : (lengths : List ℕ) → AreKnown lengths 0 ones
AreKnown-none lengths = record { size = refl; each = λ k m. ones_at k }

pub AreKnown-more : (lengths : List ℕ) (count : ℕ) (known : List ℕ) (n : ℕ) → count < length lengths → n ≡ get_or lengths count 1 → AreKnown lengths count known → AreKnown lengths (count + 1) (set known count n)
AreKnown-more lengths count known n l e h = record {
  size = length-set known count n ∙ h.size;
  each = λ k m. known_at lengths count known n l e h k m;
}

-- of numbered pieces the first lengths are enough
pieces_length-known : (lengths known : List ℕ) (ps : List Piece) → AllByRecursion IsNumbered ps → ((k : ℕ) → k < 16 → get_or known k 1 ≡ get_or lengths k 1) → pieces_length known ps ≡ pieces_length lengths ps
pieces_length-known lengths known [] h e = refl
pieces_length-known lengths known (Byte b ∷ ps) h e = omega (arith, pieces_length-known lengths known ps h.1 e)
pieces_length-known lengths known (Hole n ∷ ps) h e = let one = e (n - 1) (omega (arith, h.0.0, h.0.1)) in omega (arith, pieces_length-known lengths known ps h.1 e, one)

-- the surplus so far, and what is to come
pub record IsSurplus (lengths : List ℕ) (greatest count surplus : ℕ) : Type 0 where
  pub whole : capped_length (surplus + surplus_length (drop (max greatest count) lengths)) ≡ capped_length (surplus_length (drop greatest lengths))

pub IsSurplus-none : (lengths : List ℕ) (greatest : ℕ) → IsSurplus lengths greatest 0 0
IsSurplus-none lengths greatest =
    let same : max greatest 0 ≡ greatest = omega arith in
    let left = ap (λ (k : ℕ). surplus_length (drop k lengths)) same in
    record { whole = omega (arith, left) }

pub IsSurplus-over : (lengths : List ℕ) (greatest count surplus n : ℕ) → greatest ≤ count → count < length lengths → n ≡ get_or lengths count 1 → IsSurplus lengths greatest count surplus → IsSurplus lengths greatest (count + 1) (capped_length (surplus + (n + 2)))
IsSurplus-over lengths greatest count surplus n g l e h =
    let before : max greatest count ≡ count = omega arith in
    let behind : max greatest (count + 1) ≡ suc count = omega arith in
    let left = ap (λ (k : ℕ). surplus_length (drop k lengths)) before ∙ ap surplus_length (drop-cons lengths count 1 l) in
    let right = ap (λ (k : ℕ). surplus_length (drop k lengths)) behind in
    record { whole = omega (arith, left, right, e, h.whole) }

pub IsSurplus-under : (lengths : List ℕ) (greatest count surplus : ℕ) → count < greatest → IsSurplus lengths greatest count surplus → IsSurplus lengths greatest (count + 1) surplus
IsSurplus-under lengths greatest count surplus g h =
    let same : max greatest count ≡ max greatest (count + 1) = omega arith in
    let left = ap (λ (k : ℕ). surplus_length (drop k lengths)) same in
    record { whole = omega (arith, left, h.whole) }

-- the lengths of the arguments' texts, as the code counts them
abbrev pub argument_lengths : (ℕ → List Piece) → List Applicative → List ℕ
argument_lengths template es = map capped_length (map length (map (text_of template) es))

pub length-argument_lengths : (template : ℕ → List Piece) (es : List Applicative) → length (argument_lengths template es) ≡ length es
length-argument_lengths template es = length-map (map length (map (text_of template) es)) capped_length ∙ (length-map (map (text_of template) es) length ∙ length-map es (text_of template))

pub argument_length-at : (template : ℕ → List Piece) (es : List Applicative) (i : ℕ) (e : Applicative) → e ≡ get_or es i e → i < length es → capped_length (length (text_of template e)) ≡ get_or (argument_lengths template es) i 1
argument_length-at template es i e h l =
    let text = get_or-map (text_of template) es i e in
    let size = get_or-map length (map (text_of template) es) i (text_of template e) in
    let cap = get_or-map capped_length (map length (map (text_of template) es)) i (length (text_of template e)) in
    ap (λ (d : Applicative). capped_length (length (text_of template d))) h ∙ (ap (λ (t : List ℕ). capped_length (length t)) (sym text) ∙ (ap capped_length (sym size) ∙ (sym cap ∙ get_or_default (argument_lengths template es) i (capped_length (length (text_of template e))) 1 (omega (arith, length-argument_lengths template es)))))

-- what is counted in the end is the length of the text
pub counted : (texts : List (List ℕ)) (ps : List Piece) (count : ℕ) (known : List ℕ) (total surplus : ℕ) → AllByRecursion IsNumbered ps → length (map capped_length (map length texts)) ≤ count → AreKnown (map capped_length (map length texts)) count known → IsSurplus (map capped_length (map length texts)) (greatest_hole ps) count surplus → total ≡ capped_length (pieces_length known ps) → capped_length (total + surplus) ≡ capped_length (length (filled ps texts))
counted texts ps count known total surplus n l h s e =
    let lengths : List ℕ = map capped_length (map length texts) in
    let g : ℕ = greatest_hole ps in
    let whole = take_all count lengths l in
    let pieces = pieces_length-known lengths known ps n (λ k m. h.each k m ∙ ap (λ (xs : List ℕ). get_or xs k 1) whole) in
    let none = ap surplus_length (drop_all (max g count) lengths (omega arith)) in
    let rest = ap surplus_length (drop-map capped_length g (map length texts)) in
    omega (arith, pieces, none, rest, s.whole, e, surplus_length-capped (drop g (map length texts)), pieces_length-capped (map length texts) ps, filled_length-texts ps texts)
