-- Each text is a template, or has a fault.
use Rattle.std.proofs.Common.{ℕ, zero, suc, ◌≡◌, ◌+◌, ◌≤◌, ◌<◌, ◌⊎◌, inl, inr, refl, sym, ap, subst, ◌∙◌, arith, List, [], ◌∷◌, ◌++◌, length, Some, append_assoc, append-nil, length-append}
use Rattle.std.specs.List.{AllByRecursion}
use Rattle.cls_base.specs.Limits.{max_hole}
use Rattle.cls_assemble.specs.declared.fault.TemplateFault.{TemplateFault}
use Rattle.cls_assemble.specs.declared.fault.TemplateFault.TheVariants.{BadHole, HoleZero, HoleOver16}
use Rattle.cls_assemble.specs.declared.piece.Piece.{Piece}
use Rattle.cls_assemble.specs.declared.piece.Piece.TheVariants.{Byte, Hole}
use Rattle.cls_assemble.specs.Faults.{BeginsTemplate, BeginsPiece, IsFaultOf}
use Rattle.cls_assemble.specs.Spelling.{Spells, plain, opening, closing, line_feed, backslash, hole, AreSpelled, IsNumbered, IsTemplate}
use Rattle.cls_repo.specs.LineFaults.{template_words}
use Rattle.cls_laws.specs.Possible.{IsPossible}
use Rattle.cls_laws.proofs.Classical.{surely, then, either_way}

spelled_more : (ps : List Piece) (p : Piece) (front more : List ℕ) → AreSpelled ps front → Spells p more → AreSpelled (ps ++ p ∷ []) (front ++ more)
spelled_more [] p front more e s = (more, [], ap (λ (text : List ℕ). text ++ more) e ∙ sym (append-nil more), s, refl)
spelled_more (q ∷ ps) p front more (f, r, e, t, h) s = (f, r ++ more, ap (λ (text : List ℕ). text ++ more) e ∙ append_assoc f r more, t, spelled_more ps p r more h s)

numbered_more : (ps : List Piece) (p : Piece) → AllByRecursion IsNumbered ps → IsNumbered p → AllByRecursion IsNumbered (ps ++ p ∷ [])
numbered_more [] p h k = (k, tt)
numbered_more (q ∷ ps) p h k = (h.0, numbered_more ps p h.1 k)

some_bytes : (p : Piece) (front : List ℕ) → Spells p front → 1 ≤ length front
some_bytes p front (plain h) = omega arith
some_bytes p front opening = omega arith
some_bytes p front closing = omega arith
some_bytes p front line_feed = omega arith
some_bytes p front backslash = omega arith
some_bytes p front (hole digits h) = omega arith

-- a number of a hole
abbrev IsSorted : ℕ → Type 0
IsSorted n = (n ≡ 0) ⊎ ((1 ≤ n) × (n ≤ max_hole)) ⊎ (max_hole < n)

sort_of : (n : ℕ) → IsSorted n
sort_of n = grind arith

module _ (text : List ℕ) where
  -- a fault that has words
  abbrev HasFault : Type 0
  HasFault = (f : TemplateFault) × IsFaultOf text f × ((start : ℕ) → (words : List ℕ) × (template_words start f ≡ Some words))

  abbrev pub IsTemplateOrNot : Type 0
  IsTemplateOrNot = ((ps : List Piece) × IsTemplate text ps) ⊎ HasFault

  module _ (front rest : List ℕ) (ps : List Piece) (split : text ≡ front ++ rest) (is : IsTemplate front ps) where
    begins : BeginsTemplate text (length front) rest
    begins = record { front = front; pieces = ps; split = split; place = refl; template = is }

    whole : rest ≡ [] → IsTemplate text ps
    whole e = subst (λ (t : List ℕ). IsTemplate t ps) (sym (split ∙ (ap (λ (t : List ℕ). front ++ t) e ∙ append-nil front))) is

    -- what follows begins a piece that may stand there, a hole that may not, or no piece
    abbrev GoesOn : Type 0
    GoesOn = (p : Piece) × (b : BeginsPiece rest p) × IsNumbered p

    hole_by : (n : ℕ) → BeginsPiece rest (Hole n) → IsSorted n → GoesOn ⊎ HasFault
    hole_by n b (inl e) = inr (HoleZero (length front), record { rest = rest; begins = begins; hole = subst (λ (k : ℕ). BeginsPiece rest (Hole k)) e b }, λ start. (_, refl))
    hole_by n b (inr (inl within)) = inl (Hole n, b, within)
    hole_by n b (inr (inr over)) = inr (HoleOver16 (length front), (n, over, record { rest = rest; begins = begins; hole = b }), λ start. (_, refl))

    piece_by : (p : Piece) → BeginsPiece rest p → GoesOn ⊎ HasFault
    piece_by (Byte c) b = inl (Byte c, b, tt)
    piece_by (Hole n) b = hole_by n b (sort_of n)

    next_by : (rest ≡ [] → ⊥) → ((p : Piece) × BeginsPiece rest p) ⊎ (((p : Piece) × BeginsPiece rest p) → ⊥) → GoesOn ⊎ HasFault
    next_by some (inl (p, b)) = piece_by p b
    next_by some (inr none) = inr (BadHole (length front), record { rest = rest; begins = begins; goes_on = some; no_piece = λ p b. none (p, b) }, λ start. (_, refl))

    module _ (p : Piece) (b : BeginsPiece rest p) (n : IsNumbered p) where
      split_more : text ≡ (front ++ b.front) ++ b.more
      split_more = split ∙ (ap (λ (t : List ℕ). front ++ t) b.split ∙ sym (append_assoc front b.front b.more))

      template_more : IsTemplate (front ++ b.front) (ps ++ p ∷ [])
      template_more = record { spelled = spelled_more ps p front b.front is.spelled b.spelled; numbered = numbered_more ps p is.numbered n }

      shorter : (fuel : ℕ) → length rest ≤ suc fuel → length b.more ≤ fuel
      shorter fuel l = let s = some_bytes p b.front b.spelled in let e : length rest ≡ length b.front + length b.more = ap length b.split ∙ length-append b.front b.more in omega arith

  on_by : (fuel : ℕ) (front rest : List ℕ) (ps : List Piece) (split : text ≡ front ++ rest) (is : IsTemplate front ps) → length rest ≤ suc fuel
      → ((more : List ℕ) (longer : List ℕ) (qs : List Piece) → text ≡ longer ++ more → IsTemplate longer qs → length more ≤ fuel → IsPossible IsTemplateOrNot)
      → GoesOn front rest ps split is ⊎ HasFault → IsPossible IsTemplateOrNot
  on_by fuel front rest ps split is l on (inl (p, b, n)) =
      on b.more (front ++ b.front) (ps ++ p ∷ []) (split_more front rest ps split is p b n) (template_more front rest ps split is p b n) (shorter front rest ps split is p b n fuel l)
  on_by fuel front rest ps split is l on (inr f) = surely (inr f)

  found : (fuel : ℕ) (front rest : List ℕ) (ps : List Piece) → text ≡ front ++ rest → IsTemplate front ps → length rest ≤ fuel → IsPossible IsTemplateOrNot
  found fuel front [] ps split is l = surely (inl (ps, whole front [] ps split is refl))
  found zero front (c ∷ rest) ps split is l = absurd (omega arith)
  found (suc fuel) front (c ∷ rest) ps split is l =
      then (either_way ((p : Piece) × BeginsPiece (c ∷ rest) p)) (λ u.
      on_by fuel front (c ∷ rest) ps split is l (λ more longer qs e t m. found fuel longer more qs e t m) (next_by front (c ∷ rest) ps split is (λ e. cc) u))

  pub template_or_fault : IsPossible IsTemplateOrNot
  template_or_fault = found (length text) [] text [] refl (record { spelled = refl; numbered = tt }) (omega arith)
