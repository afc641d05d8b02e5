-- Lengths of templates, segment by segment.
use Rattle.std.proofs.Common.{◌≡◌, ℕ, ◌+◌, ◌<◌, List, [], ◌∷◌, ◌++◌, length, map, get_or, drop, refl, sym, ap, ◌∙◌, arith, add-one, suc, string_bytes}
use Rattle.std.specs.List.{AllByRecursion}
use Rattle.std.proofs.Math.Seq.{drop-cons}
use Rattle.cls_assemble.specs.declared.piece.Piece.{Piece}
use Rattle.cls_assemble.specs.declared.piece.Piece.TheVariants.{Byte, Hole}
use Rattle.cls_assemble.specs.declared.template.Segment.{Segment}
use Rattle.cls_assemble.specs.Segments.{pieces_in}
use Rattle.cls_assemble.specs.Spelling.{IsNumbered}
use Rattle.cls_assemble.specs.Texts.{greatest_hole}
use Rattle.cls_assemble.specs.Lengths.{pieces_length}

pub drop-segment : (ss : List Segment) (i : ℕ) (s : Segment) → s ≡ get_or ss i s → i < length ss → drop i ss ≡ s ∷ drop (i + 1) ss
drop-segment ss i s h l =
    let p : drop i ss ≡ get_or ss i s ∷ drop (suc i) ss = drop-cons ss i s l in
    let q : get_or ss i s ∷ drop (suc i) ss ≡ s ∷ drop (suc i) ss = ap (λ (x : Segment). x ∷ drop (suc i) ss) (sym h) in
    rw add-one (p ∙ q)

pub pieces_length-bytes : (lengths : List ℕ) (bytes : List ℕ) (rest : List Piece) → pieces_length lengths (map Byte bytes ++ rest) ≡ length bytes + pieces_length lengths rest
pieces_length-bytes lengths [] rest = omega arith
pieces_length-bytes lengths (b ∷ bytes) rest = omega (arith, pieces_length-bytes lengths bytes rest)

pub pieces_length-all_bytes : (lengths : List ℕ) (bytes : List ℕ) → pieces_length lengths (map Byte bytes) ≡ length bytes
pieces_length-all_bytes lengths [] = refl
pieces_length-all_bytes lengths (b ∷ bytes) = omega (arith, pieces_length-all_bytes lengths bytes)

pub greatest_hole-bytes : (bytes : List ℕ) (rest : List Piece) → greatest_hole (map Byte bytes ++ rest) ≡ greatest_hole rest
greatest_hole-bytes [] rest = refl
greatest_hole-bytes (b ∷ bytes) rest = omega (arith, greatest_hole-bytes bytes rest)

pub greatest_hole-all_bytes : (bytes : List ℕ) → greatest_hole (map Byte bytes) ≡ 0
greatest_hole-all_bytes [] = refl
greatest_hole-all_bytes (b ∷ bytes) = omega (arith, greatest_hole-all_bytes bytes)

numbered-bytes : (bytes : List ℕ) (rest : List Piece) → AllByRecursion IsNumbered rest → AllByRecursion IsNumbered (map Byte bytes ++ rest)
numbered-bytes [] rest h = h
numbered-bytes (b ∷ bytes) rest h = (tt, numbered-bytes bytes rest h)

numbered-all_bytes : (bytes : List ℕ) → AllByRecursion IsNumbered (map Byte bytes)
numbered-all_bytes [] = tt
numbered-all_bytes (b ∷ bytes) = (tt, numbered-all_bytes bytes)

pub numbered-segments : (ss : List Segment) (tail : List ℕ) → AllByRecursion IsNumbered (pieces_in ss tail)
numbered-segments [] tail = numbered-all_bytes tail
numbered-segments (s ∷ ss) tail = numbered-bytes (string_bytes s.text) (Hole s.number ∷ pieces_in ss tail) ((s.least, s.most), numbered-segments ss tail)

pub ruleset segments = (drop-segment, pieces_length-bytes, pieces_length-all_bytes, greatest_hole-bytes, greatest_hole-all_bytes, numbered-segments)

pub greatest_hole-tail : (ss : List Segment) (tail : List ℕ) → greatest_hole (pieces_in ss tail) ≡ greatest_hole (pieces_in ss [])
greatest_hole-tail [] tail = greatest_hole-all_bytes tail
greatest_hole-tail (s ∷ ss) tail =
    let rest = greatest_hole-tail ss tail in
    omega (arith, rest, greatest_hole-bytes (string_bytes s.text) (Hole s.number ∷ pieces_in ss tail), greatest_hole-bytes (string_bytes s.text) (Hole s.number ∷ pieces_in ss []))
