-- Steps of writing a text.
use Rattle.std.proofs.Common.{◌≡◌, ◌≢◌, ℕ, ◌+◌, ◌-◌, ◌*◌, ◌<◌, ◌≤◌, List, [], ◌∷◌, ◌++◌, length, map, get_or, set, take, drop, refl, sym, ap, ◌∙◌, subst, arith, suc, zero, inl, inr, append_assoc, append-nil, length-append, string_bytes, add-one}
use Rattle.std.specs.Prelude.{Option, Some, None, IsUtf8, codes}
use Rattle.std.specs.List.{flat_map, AllByRecursion}
use Rattle.std.specs.String.Boundary.{IsSplitPoint}
use Rattle.std.proofs.lemmas.Bool.{cases_lt}
use Rattle.std.proofs.lemmas.List.{take-append-le, drop-append-le, get_or-set_same, get_or-set_other, get_or_past, length-set, take_all, drop_all, length-drop}
use Rattle.std.proofs.Math.Seq.{drop-append_seam, drop-cons}
use Rattle.std.proofs.lemmas.Str.{IsCharBoundary-from_take}
use Rattle.cls_assemble.specs.declared.piece.Piece.{Piece}
use Rattle.cls_assemble.specs.declared.piece.Piece.TheVariants.{Byte, Hole}
use Rattle.cls_assemble.specs.declared.template.Segment.{Segment}
use Rattle.cls_assemble.specs.declared.text.Span.{Span}
use Rattle.cls_assemble.specs.Segments.{pieces_in}
use Rattle.cls_assemble.specs.Spans.{IsWrittenAt, AreWritten}
use Rattle.cls_assemble.specs.Texts.{piece_text, in_parentheses}
use Rattle.cls_assemble.proofs.Lengths.{drop-segment}

abbrev pub nones : List (Option Span)
nones = None ∷ None ∷ None ∷ None ∷ None ∷ None ∷ None ∷ None ∷ None ∷ None ∷ None ∷ None ∷ None ∷ None ∷ None ∷ None ∷ []

nones_from : (xs : List (Option Span)) → AllByRecursion (λ (x : Option Span). x ≡ None) xs → (k : ℕ) → get_or xs k None ≡ None
nones_from [] h k = refl
nones_from (x ∷ xs) h zero = h.0
nones_from (x ∷ xs) h (suc k) = nones_from xs h.1 k

nones_at : (k : ℕ) → get_or nones k None ≡ None
nones_at k = nones_from nones (refl, (refl, (refl, (refl, (refl, (refl, (refl, (refl, (refl, (refl, (refl, (refl, (refl, (refl, (refl, (refl, tt)))))))))))))))) k

pub AreWritten-none : (texts : List (List ℕ)) (bytes : List ℕ) → AreWritten texts nones bytes
AreWritten-none texts bytes = record { each = λ k span e. let none = nones_at k in cc }

IsWrittenAt-more : (text : List ℕ) (span : Span) (xs ys : List ℕ) → IsWrittenAt text span xs → IsWrittenAt text span (xs ++ ys)
IsWrittenAt-more text span xs ys h =
    let start = take-append-le span.start xs ys (omega (arith, h.order, h.within)) in
    let end = take-append-le span.end xs ys h.within in
    let back = drop-append-le span.start xs ys (omega (arith, h.order, h.within)) in
    let front = take-append-le (span.end - span.start) (drop span.start xs) ys (omega (arith, length-drop span.start xs, h.within)) in
    record {
      order = h.order;
      within = omega (arith, length-append xs ys, h.within);
      same = ap (λ (bs : List ℕ). take (span.end - span.start) bs) back ∙ (front ∙ h.same);
      start_cut = subst (λ (bs : List ℕ). IsUtf8 bs) (sym start) h.start_cut;
      end_cut = subst (λ (bs : List ℕ). IsUtf8 bs) (sym end) h.end_cut;
    }

pub AreWritten-more : (texts : List (List ℕ)) (spans : List (Option Span)) (xs ys zs : List ℕ) → zs ≡ xs ++ ys → AreWritten texts spans xs → AreWritten texts spans zs
AreWritten-more texts spans xs ys zs e h = subst (λ (bs : List ℕ). AreWritten texts spans bs) (sym e) (record { each = λ k span s. IsWrittenAt-more (get_or texts k []) span xs ys (h.each k span s) })

new_span : (text xs zs : List ℕ) (span : Span) → zs ≡ xs ++ text → span.start ≡ length xs → span.end ≡ length zs → IsUtf8 xs → IsUtf8 zs → IsWrittenAt text span zs
new_span text xs zs span e s f u v =
    let size = ap length e in
    let back = ap (λ (k : ℕ). drop k zs) s ∙ (ap (λ (bs : List ℕ). drop (length xs) bs) e ∙ drop-append_seam xs text) in
    let start = ap (λ (k : ℕ). take k zs) s ∙ (ap (λ (bs : List ℕ). take (length xs) bs) e ∙ (take-append-le (length xs) xs text (omega arith) ∙ take_all (length xs) xs (omega arith))) in
    record {
      order = omega (arith, size, length-append xs text, s, f);
      within = omega (arith, f);
      same = ap (λ (bs : List ℕ). take (span.end - span.start) bs) back ∙ take_all (span.end - span.start) text (omega (arith, size, length-append xs text, s, f));
      start_cut = subst (λ (bs : List ℕ). IsUtf8 bs) (sym start) u;
      end_cut = subst (λ (bs : List ℕ). IsUtf8 bs) (sym (take_all span.end zs (omega (arith, f)))) v;
    }

-- what stands at the place that was set
set_there : (spans : List (Option Span)) (i : ℕ) (new span : Span) → get_or (set spans i (Some new)) i None ≡ Some span → new ≡ span
set_there spans i new span q =
    elim (cases_lt i (length spans)) as (λ _. new ≡ span) [
      | inl less ↦ let same = get_or-set_same spans i (Some new) None less in cc
      | inr past ↦ let none = get_or_past (set spans i (Some new)) i None (omega (arith, length-set spans i (Some new))) in cc
    ]

pub AreWritten-set : (texts : List (List ℕ)) (spans : List (Option Span)) (i : ℕ) (new : Span) (xs zs : List ℕ) → AreWritten texts spans xs → zs ≡ xs ++ get_or texts i [] → new.start ≡ length xs → new.end ≡ length zs → IsUtf8 xs → IsUtf8 zs → AreWritten texts (set spans i (Some new)) zs
AreWritten-set texts spans i new xs zs h e s f u v =
    let old = AreWritten-more texts spans xs (get_or texts i []) zs e h in
    let here = new_span (get_or texts i []) xs zs new e s f u v in
    record {
      each = λ k span q.
          (elim (cases_lt k i) as (λ _. IsWrittenAt (get_or texts k []) span zs) [
            | inl less ↦ old.each k span (sym (get_or-set_other spans i k (Some new) None (λ w. omega arith)) ∙ q)
            | inr most ↦ elim (cases_lt i k) as (λ _. IsWrittenAt (get_or texts k []) span zs) [
              | inl more ↦ old.each k span (sym (get_or-set_other spans i k (Some new) None (λ w. omega arith)) ∙ q)
              | inr last ↦
                  let at : k ≡ i = omega arith in
                  let both = set_there spans i new span (ap (λ (n : ℕ). get_or (set spans i (Some new)) n None) (sym at) ∙ q) in
                  subst (λ (n : ℕ). IsWrittenAt (get_or texts n []) span zs) (sym at) (subst (λ (w : Span). IsWrittenAt (get_or texts i []) w zs) both here)
            ]
          ]);
    }

-- a written place may be cut
pub split_point : (bytes : List ℕ) (n : ℕ) → IsUtf8 bytes → n ≤ length bytes → IsUtf8 (take n bytes) → IsSplitPoint bytes n
split_point bytes n u l h = let b = IsCharBoundary-from_take bytes n u l h in (b.0, λ _. b.1)

-- the text of what is left, one segment after another
flat_map-bytes : (texts : List (List ℕ)) (bytes : List ℕ) (rest : List Piece) → flat_map (piece_text texts) (map Byte bytes ++ rest) ≡ bytes ++ flat_map (piece_text texts) rest
flat_map-bytes texts [] rest = refl
flat_map-bytes texts (b ∷ bytes) rest = ap (λ (bs : List ℕ). b ∷ bs) (flat_map-bytes texts bytes rest)

flat_map-all_bytes : (texts : List (List ℕ)) (bytes : List ℕ) → flat_map (piece_text texts) (map Byte bytes) ≡ bytes
flat_map-all_bytes texts [] = refl
flat_map-all_bytes texts (b ∷ bytes) = ap (λ (bs : List ℕ). b ∷ bs) (flat_map-all_bytes texts bytes)

pub segment_text : (texts : List (List ℕ)) (ss : List Segment) (tail : List ℕ) (i : ℕ) (s : Segment) → s ≡ get_or ss i s → i < length ss → flat_map (piece_text texts) (pieces_in (drop i ss) tail) ≡ string_bytes s.text ++ (get_or texts (s.number - 1) (codes "_") ++ flat_map (piece_text texts) (pieces_in (drop (i + 1) ss) tail))
segment_text texts ss tail i s h l =
    ap (λ (rest : List Segment). flat_map (piece_text texts) (pieces_in rest tail)) (drop-segment ss i s h l) ∙ flat_map-bytes texts (string_bytes s.text) (Hole s.number ∷ pieces_in (drop (i + 1) ss) tail)

pub tail_text : (texts : List (List ℕ)) (ss : List Segment) (tail : List ℕ) (i : ℕ) → length ss ≤ i → flat_map (piece_text texts) (pieces_in (drop i ss) tail) ≡ tail
tail_text texts ss tail i l = ap (λ (rest : List Segment). flat_map (piece_text texts) (pieces_in rest tail)) (drop_all i ss l) ∙ flat_map-all_bytes texts tail

pub surplus_text : (texts : List (List ℕ)) (i : ℕ) (t : List ℕ) → i < length texts → t ≡ get_or texts i [] → flat_map in_parentheses (drop i texts) ≡ codes "(" ++ (t ++ (codes ")" ++ flat_map in_parentheses (drop (i + 1) texts)))
surplus_text texts i t l h =
    let e : drop i texts ≡ t ∷ drop (i + 1) texts = rw add-one (drop-cons texts i [] l ∙ ap (λ (x : List ℕ). x ∷ drop (suc i) texts) (sym h)) in
    ap (flat_map in_parentheses) e ∙ simp append_assoc

pub no_surplus : (texts : List (List ℕ)) (i : ℕ) → length texts ≤ i → flat_map in_parentheses (drop i texts) ≡ []
no_surplus texts i l = ap (flat_map in_parentheses) (drop_all i texts l)

-- what is written goes on with what is left
pub write-step : (w a b c g f r x y : List ℕ) → y ≡ x ++ g → x ≡ a ++ c → c ≡ b → f ≡ b ++ (g ++ r) → a ++ f ≡ w → y ++ r ≡ w
write-step w a b c g f r x y p q s h k =
    let left : y ++ r ≡ ((a ++ b) ++ g) ++ r = λ i. (p ∙ ap (λ (z : List ℕ). z ++ g) (q ∙ ap (λ (z : List ℕ). a ++ z) s)) i ++ r in
    let right : ((a ++ b) ++ g) ++ r ≡ a ++ (b ++ (g ++ r)) = simp append_assoc in
    left ∙ (right ∙ (ap (λ (z : List ℕ). a ++ z) (sym h) ∙ k))

pub write-end : (w a b c f g s x y : List ℕ) → y ≡ x ++ s → x ≡ a ++ c → c ≡ b → f ≡ b → a ++ f ≡ w ++ g → y ≡ w ++ (g ++ s)
write-end w a b c f g s x y p q e h k =
    p ∙ (ap (λ (z : List ℕ). z ++ s) (q ∙ (ap (λ (z : List ℕ). a ++ z) (e ∙ sym h) ∙ k)) ∙ append_assoc w g s)

pub surplus-step : (w a t r f x y z : List ℕ) → x ≡ a ++ codes "(" → y ≡ x ++ t → z ≡ y ++ codes ")" → f ≡ codes "(" ++ (t ++ (codes ")" ++ r)) → a ++ f ≡ w → z ++ r ≡ w
surplus-step w a t r f x y z p q s h k =
    let left : z ++ r ≡ (((a ++ codes "(") ++ t) ++ codes ")") ++ r = λ i. (s ∙ ap (λ (v : List ℕ). v ++ codes ")") (q ∙ ap (λ (v : List ℕ). v ++ t) p)) i ++ r in
    let right : (((a ++ codes "(") ++ t) ++ codes ")") ++ r ≡ a ++ (codes "(" ++ (t ++ (codes ")" ++ r))) = simp append_assoc in
    left ∙ (right ∙ (ap (λ (v : List ℕ). a ++ v) (sym h) ∙ k))

pub ruleset writing = (append_assoc, append-nil)
