-- Texts that stand one after another in one column.
use Rattle.std.proofs.Common.{◌≡◌, ℕ, zero, suc, ◌<◌, ◌≤◌, List, [], ◌∷◌, ◌++◌, length, length-append, sym, subst, arith}
use Rattle.std.specs.Prelude.{slice_index}
use Rattle.std.specs.Str.{IsUtf8, IsCharBoundary}
use Rattle.std.proofs.lemmas.Str.{IsCharBoundary-start, IsCharBoundary-end}
use Rattle.cls_base.specs.Cuts.{AreEnds}
use Rattle.cls_base.proofs.Cutting.{ends-push}
use Rattle.cls_lexer.proofs.Columns.{boundary-more}
use Rattle.cls_proof.specs.TextEnds.{AreBoundaries, AreTextEnds}

pub no_ends : (bytes : List ℕ) → length bytes ≡ 0 → AreTextEnds bytes []
no_ends bytes e = record { rise = sym e; boundaries = tt }

-- a character ends where a text does
pub boundary-at : (bytes ends : List ℕ) (i : ℕ) → AreBoundaries bytes ends → i < length ends → IsCharBoundary bytes (slice_index ends i)
boundary-at bytes [] i h l = absurd (omega arith)
boundary-at bytes (e ∷ ends) zero h l = h.0
boundary-at bytes (e ∷ ends) (suc i) h l = boundary-at bytes ends i h.1 (omega arith)

pub start-at : (bytes ends : List ℕ) (i : ℕ) → IsUtf8 bytes → AreBoundaries bytes ends → i ≤ length ends → IsCharBoundary bytes (slice_index (0 ∷ ends) i)
start-at bytes ends zero u h l = IsCharBoundary-start bytes u
start-at bytes ends (suc i) u h l = boundary-at bytes ends i h (omega arith)

-- one text more
pub boundaries-push : (bytes text ends : List ℕ) (end : ℕ) → IsUtf8 text → end ≡ length (bytes ++ text) → AreBoundaries bytes ends → AreBoundaries (bytes ++ text) (ends ++ end ∷ [])
boundaries-push bytes text [] end u p h = (subst (λ (n : ℕ). IsCharBoundary (bytes ++ text) n) (sym p) (IsCharBoundary-end (bytes ++ text)), tt)
boundaries-push bytes text (e ∷ ends) end u p h = (boundary-more bytes text e u h.0, boundaries-push bytes text ends end u p h.1)

pub text_ends-push : (bytes text ends : List ℕ) (end : ℕ) → IsUtf8 text → end ≡ length (bytes ++ text) → AreTextEnds bytes ends → AreTextEnds (bytes ++ text) (ends ++ end ∷ [])
text_ends-push bytes text ends end u p h = record {
  rise = subst (λ (last : ℕ). AreEnds 0 last (ends ++ end ∷ [])) p (ends-push 0 (length bytes) end ends h.rise (omega (arith, p, length-append bytes text)));
  boundaries = boundaries-push bytes text ends end u p h.boundaries;
}
