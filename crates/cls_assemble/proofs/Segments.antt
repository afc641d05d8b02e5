-- The pieces of a template that grows.
use Rattle.std.proofs.Common.{◌≡◌, ℕ, List, [], ◌∷◌, ◌++◌, map, refl, sym, ap, ◌∙◌, append_assoc, string_bytes}
use Rattle.std.proofs.lemmas.List.{map-append}
use Rattle.cls_assemble.specs.declared.piece.Piece.{Piece}
use Rattle.cls_assemble.specs.declared.piece.Piece.TheVariants.{Byte, Hole}
use Rattle.cls_assemble.specs.declared.template.Segment.{Segment}
use Rattle.cls_assemble.specs.Segments.{pieces_in}

pub pieces_in-tail : (ss : List Segment) (xs ys : List ℕ) → pieces_in ss (xs ++ ys) ≡ pieces_in ss xs ++ map Byte ys
pieces_in-tail [] xs ys = map-append Byte xs ys
pieces_in-tail (s ∷ ss) xs ys =
    ap (λ (rest : List Piece). map Byte (string_bytes s.text) ++ Hole s.number ∷ rest) (pieces_in-tail ss xs ys) ∙ sym (append_assoc (map Byte (string_bytes s.text)) (Hole s.number ∷ pieces_in ss xs) (map Byte ys))

pub pieces_in-push : (ss : List Segment) (s : Segment) → pieces_in (ss ++ s ∷ []) [] ≡ pieces_in ss (string_bytes s.text) ++ Hole s.number ∷ []
pieces_in-push [] s = refl
pieces_in-push (t ∷ ss) s =
    ap (λ (rest : List Piece). map Byte (string_bytes t.text) ++ Hole t.number ∷ rest) (pieces_in-push ss s) ∙ sym (append_assoc (map Byte (string_bytes t.text)) (Hole t.number ∷ pieces_in ss (string_bytes s.text)) (Hole s.number ∷ []))

pub ruleset segments = (pieces_in-tail, pieces_in-push)
