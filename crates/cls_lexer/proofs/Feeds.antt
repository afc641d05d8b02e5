-- Bytes without a line feed, and the first line feed.
use Rattle.std.proofs.Common.{◌≡◌, ℕ, ◌+◌, ◌<◌, Bool, true, false, not, cond, eqb, List, [], ◌∷◌, ◌++◌, length, get_or, take, drop, append_assoc, Some, None, refl, ap, sym, ◌∙◌, subst, arith}
use Rattle.std.specs.Str.{IsUtf8, IsCharBoundary}
use Rattle.std.proofs.lemmas.Str.{IsCharBoundary-before_ascii, IsCharBoundary-after_ascii}
use Rattle.std.specs.List.{position, prefix_len}
use Rattle.std.proofs.lemmas.Bool.{eqb-true, eqb-false}
use Rattle.std.proofs.lemmas.List.{take_all, take-append-drop, drop_more}
use Rattle.std.proofs.lemmas.List.Quantifiers.{position-Some}
use Rattle.cls_lexer.proofs.Runs.{one_more}
use Rattle.cls_lexer.proofs.Positions.{position-found, position-none}
use Rattle.cls_lexer.specs.Lines.{HasNoFeed, without_return, CutsLine}

-- whether the byte is a line feed
abbrev pub is_feed : ℕ → Bool
is_feed b = eqb b 10

pub HasNoFeed-append : (a b : List ℕ) → HasNoFeed a → HasNoFeed b → HasNoFeed (a ++ b)
HasNoFeed-append [] b h k = k
HasNoFeed-append (x ∷ a) b h k = (h.0, HasNoFeed-append a b h.1 k)

-- in front of the first line feed there is none
HasNoFeed-prefix : (p : List ℕ) → HasNoFeed (take (prefix_len (λ b. not (is_feed b)) p) p)
HasNoFeed-prefix [] = tt
HasNoFeed-prefix (b ∷ p) =
    (elim (is_feed b) as (λ v. is_feed b ≡ v → HasNoFeed (take (cond (not v) (1 + prefix_len (λ b. not (is_feed b)) p) 0) (b ∷ p))) [
      | true ↦ λ e. tt
      | false ↦ λ e. subst (λ (k : ℕ). HasNoFeed (take k (b ∷ p))) (sym (one_more (prefix_len (λ b. not (is_feed b)) p))) (eqb-false b 10 e, HasNoFeed-prefix p)
    ]) refl

-- no feed was found
pub HasNoFeed-None : (p : List ℕ) → position is_feed p ≡ None → HasNoFeed p
HasNoFeed-None p h = subst (λ (xs : List ℕ). HasNoFeed xs) (take_all _ p (position-none is_feed p h)) (HasNoFeed-prefix p)

-- the first feed was found at the place
pub HasNoFeed-take : (p : List ℕ) (n : ℕ) → position is_feed p ≡ Some n → HasNoFeed (take n p)
HasNoFeed-take p n h = subst (λ (k : ℕ). HasNoFeed (take k p)) (sym (position-found is_feed p n h)) (HasNoFeed-prefix p)

pub split_at_feed : (p : List ℕ) (n : ℕ) → position is_feed p ≡ Some n → p ≡ take n p ++ 10 ∷ drop (n + 1) p
split_at_feed p n h =
    let at = position-Some is_feed p n 0 h in
    sym (take-append-drop n p) ∙ ap (λ (xs : List ℕ). take n p ++ xs) (drop_more p n 0 at.0 ∙ ap (λ (b : ℕ). b ∷ drop (n + 1) p) (eqb-true _ _ at.1))

-- the line that the first feed of a piece ends, after the bytes that were held
pub cut_at_feed :
    (held piece line : List ℕ) (n : ℕ) → HasNoFeed held → position is_feed piece ≡ Some n
    → line ≡ without_return (held ++ take n piece) → CutsLine (held ++ piece) line (drop (n + 1) piece)
cut_at_feed held piece line n h at is = record {
  raw = held ++ take n piece;
  no_feed = HasNoFeed-append held (take n piece) h (HasNoFeed-take piece n at);
  whole = ap (λ (xs : List ℕ). held ++ xs) (split_at_feed piece n at) ∙ sym (append_assoc held (take n piece) (10 ∷ drop (n + 1) piece));
  shown = is;
}

-- a line feed stands at the place
pub feed_at : (p : List ℕ) (n : ℕ) → position is_feed p ≡ Some n → (n < length p) × (get_or p n 0 ≡ 10)
feed_at p n h = let at = position-Some is_feed p n 0 h in (at.0, eqb-true _ _ at.1)

-- it is a character by itself, so a text may be cut before it and behind it
pub cut_before : (p : List ℕ) (n : ℕ) → position is_feed p ≡ Some n → IsCharBoundary p n
cut_before p n h = let at = feed_at p n h in IsCharBoundary-before_ascii p n at.0 (subst (λ (b : ℕ). b < 128) (sym at.1) (omega arith))

pub cut_behind : (p : List ℕ) (n : ℕ) → position is_feed p ≡ Some n → IsUtf8 (drop n p) → IsCharBoundary (drop n p) 1
cut_behind p n h utf8 =
    let at = feed_at p n h in
    subst (λ (bs : List ℕ). IsCharBoundary bs 1) (sym (drop_more p n 0 at.0)) (IsCharBoundary-after_ascii (get_or p n 0 ∷ drop (n + 1) p) 0
    (subst (λ (bs : List ℕ). IsUtf8 bs) (drop_more p n 0 at.0) utf8) (omega arith) (subst (λ (b : ℕ). b < 128) (sym at.1) (omega arith)))

pub behind_feed : (p : List ℕ) (n : ℕ) → position is_feed p ≡ Some n → drop 1 (drop n p) ≡ drop (n + 1) p
behind_feed p n h = ap (λ (bs : List ℕ). drop 1 bs) (drop_more p n 0 (feed_at p n h).0)
