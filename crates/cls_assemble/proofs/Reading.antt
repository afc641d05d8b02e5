-- What is read from the left: templates that grow, and faults.
use Rattle.std.proofs.Common.{◌≡◌, ℕ, ◌+◌, ◌-◌, ◌<◌, ◌≤◌, true, false, List, [], ◌∷◌, ◌++◌, length, map, min, take, drop, get_or, refl, sym, ap, ◌∙◌, subst, arith, append_assoc, append-nil, length-drop, inl, inr}
use Rattle.std.specs.Prelude.{Option, Some, None, option_map, ◌≢◌}
use Rattle.std.specs.List.{prefix_len, list_all, AllByRecursion}
use Rattle.std.specs.Str.{IsUtf8, IsCharBoundary}
use Rattle.std.proofs.lemmas.Bool.{and_parts, cases_lt}
use Rattle.std.proofs.lemmas.List.{take-append-drop, get_or-drop, length-take-le, take_all}
use Rattle.std.proofs.lemmas.List.Sums.{prefix_len-le-length, prefix_len_stops}
use Rattle.std.proofs.lemmas.Str.{IsCharBoundary-after_ascii, IsCharBoundary-before_ascii, IsCharBoundary-end, IsCharBoundary-start}
use Rattle.std.proofs.Math.Seq.{take-add}
use Rattle.cls_base.specs.Limits.{max_hole}
use Rattle.cls_lexer.proofs.Runs.{list_all-prefix}
use Rattle.cls_assemble.specs.declared.piece.Piece.{Piece}
use Rattle.cls_assemble.specs.declared.piece.Piece.TheVariants.{Byte, Hole}
use Rattle.cls_assemble.specs.Spelling.{is_plain, Spells, plain, AreSpelled, IsNumbered, IsTemplate}
use Rattle.cls_assemble.specs.Faults.{BeginsTemplate, HasBadHole, HasHole}
use Rattle.cls_assemble.specs.Fronts.{first_piece, capped}
use Rattle.cls_assemble.specs.Steps.{IsReadUpTo}
use Rattle.cls_assemble.proofs.Fronts.{IsFirstMark, piece_in, count_in, first_piece-mark, first_piece-spells}

AreSpelled-append : (ps qs : List Piece) (xs ys : List ℕ) → AreSpelled ps xs → AreSpelled qs ys → AreSpelled (ps ++ qs) (xs ++ ys)
AreSpelled-append [] qs xs ys h k = subst (λ (zs : List ℕ). AreSpelled qs (zs ++ ys)) (sym h) k
AreSpelled-append (p ∷ ps) qs xs ys h k =
    (h.0, h.1 ++ ys, ap (λ (zs : List ℕ). zs ++ ys) h.2 ∙ append_assoc h.0 h.1 ys, h.3, AreSpelled-append ps qs h.1 ys h.4 k)

numbered-append : (ps qs : List Piece) → AllByRecursion IsNumbered ps → AllByRecursion IsNumbered qs → AllByRecursion IsNumbered (ps ++ qs)
numbered-append [] qs h k = k
numbered-append (p ∷ ps) qs h k = (h.0, numbered-append ps qs h.1 k)

IsTemplate-append : (ps qs : List Piece) (xs ys : List ℕ) → IsTemplate xs ps → IsTemplate ys qs → IsTemplate (xs ++ ys) (ps ++ qs)
IsTemplate-append ps qs xs ys h k = record { spelled = AreSpelled-append ps qs xs ys h.spelled k.spelled; numbered = numbered-append ps qs h.numbered k.numbered }

plain_spelled : (bytes : List ℕ) → list_all is_plain bytes ≡ true → AreSpelled (map Byte bytes) bytes
plain_spelled [] h = refl
plain_spelled (b ∷ bytes) h =
    let parts = and_parts _ _ h in
    (b ∷ [], bytes, refl, plain parts.0, plain_spelled bytes parts.1)

plain_numbered : (bytes : List ℕ) → AllByRecursion IsNumbered (map Byte bytes)
plain_numbered [] = tt
plain_numbered (b ∷ bytes) = (tt, plain_numbered bytes)

plain_template : (bytes : List ℕ) → list_all is_plain bytes ≡ true → IsTemplate bytes (map Byte bytes)
plain_template bytes h = record { spelled = plain_spelled bytes h; numbered = plain_numbered bytes }

piece_template : (p : Piece) (bytes : List ℕ) → Spells p bytes → IsNumbered p → IsTemplate bytes (p ∷ [])
piece_template p bytes h k = record { spelled = (bytes, [], sym (append-nil bytes), h, refl); numbered = (k, tt) }

pub rest_of : (bytes : List ℕ) (at : ℕ) → take (length bytes - at) (drop at bytes) ≡ drop at bytes
rest_of bytes at = take_all (length bytes - at) (drop at bytes) (omega (arith, length-drop at bytes))

at_more : (bytes : List ℕ) (at i : ℕ) → get_or bytes (at + i) 0 ≡ get_or (drop at bytes) i 0
at_more bytes at i = sym (get_or-drop at bytes i 0)

-- a byte that doesn't stand for itself is ASCII
not_plain_ascii : (b : ℕ) → is_plain b ≡ false → b < 128
not_plain_ascii b h = grind arith

pub plain_boundary : (text : List ℕ) (at : ℕ) → at ≤ length text → IsCharBoundary text (at + prefix_len is_plain (drop at text))
plain_boundary text at l =
    let n : ℕ = prefix_len is_plain (drop at text) in
    let most = prefix_len-le-length is_plain (drop at text) in
    (elim (cases_lt n (length (drop at text))) as (λ _. IsCharBoundary text (at + n)) [
      | inl less ↦ IsCharBoundary-before_ascii text (at + n) (omega (arith, length-drop at text, less)) (let e = at_more text at n in let small = not_plain_ascii (get_or (drop at text) n 0) (prefix_len_stops is_plain (drop at text) 0 less) in omega (arith, e, small))
      | inr all ↦ let e : at + n ≡ length text = omega (arith, length-drop at text, all, most) in subst (λ (k : ℕ). IsCharBoundary text k) (sym e) (IsCharBoundary-end text)
    ])

grown : (text : List ℕ) (ps qs : List Piece) (at n : ℕ) → IsTemplate (take at text) ps → IsTemplate (take n (drop at text)) qs → IsTemplate (take (at + n) text) (ps ++ qs)
grown text ps qs at n h k = subst (λ (xs : List ℕ). IsTemplate xs (ps ++ qs)) (sym (take-add at n text)) (IsTemplate-append ps qs (take at text) (take n (drop at text)) h k)

pub read-none : (text : List ℕ) → IsUtf8 text → IsReadUpTo text [] 0
read-none text u = record { template = record { spelled = refl; numbered = tt }; boundary = IsCharBoundary-start text u }

pub read-plain : (text : List ℕ) (ps : List Piece) (at n : ℕ) → at ≤ length text → IsReadUpTo text ps at → n ≡ prefix_len is_plain (drop at text) → IsReadUpTo text (ps ++ map Byte (take n (drop at text))) (at + n)
read-plain text ps at n l h e =
    let run : list_all is_plain (take n (drop at text)) ≡ true = ap (λ (k : ℕ). list_all is_plain (take k (drop at text))) e ∙ list_all-prefix is_plain (drop at text) in
    record {
      template = grown text ps (map Byte (take n (drop at text))) at n h.template (plain_template (take n (drop at text)) run);
      boundary = subst (λ (k : ℕ). IsCharBoundary text (at + k)) (sym e) (plain_boundary text at l);
    }

pub read-piece : (text : List ℕ) (ps : List Piece) (at n : ℕ) (p : Piece) → IsUtf8 text → at ≤ length text → IsReadUpTo text ps at → IsNumbered p → IsFirstMark (drop at text) p n → IsReadUpTo text (ps ++ p ∷ []) (at + n)
read-piece text ps at n p u l h k f =
    let e = at_more text at (n - 1) in
    let last : at + (n - 1) + 1 ≡ at + n = omega (arith, f.first.some) in
    record {
      template = grown text ps (p ∷ []) at n h.template (piece_template p (take n (drop at text)) f.first.spelled k);
      boundary = subst (λ (i : ℕ). IsCharBoundary text i) last (IsCharBoundary-after_ascii text (at + (n - 1)) u (omega (arith, length-drop at text, f.first.within, f.first.some)) (omega (arith, e, f.ascii)));
    }

begins : (text : List ℕ) (ps : List Piece) (at : ℕ) → at ≤ length text → IsReadUpTo text ps at → BeginsTemplate text at (drop at text)
begins text ps at l h = record { front = take at text; pieces = ps; split = sym (take-append-drop at text); place = length-take-le at text l; template = h.template }

goes_on : (text : List ℕ) (at : ℕ) → at < length text → drop at text ≢ []
goes_on text at l e = let size = ap length e in omega (arith, length-drop at text, size)

pub bad_hole : (text : List ℕ) (ps : List Piece) (at : ℕ) → at < length text → IsReadUpTo text ps at → first_piece (drop at text) ≡ None → HasBadHole text at
bad_hole text ps at l h e = record {
  rest = drop at text;
  begins = begins text ps at (omega arith) h;
  goes_on = goes_on text at l;
  no_piece = λ p b. let some = first_piece-spells b.spelled b.more in let same = ap first_piece b.split in cc;
}

pub hole_at : (text : List ℕ) (ps : List Piece) (at n k : ℕ) → at ≤ length text → IsReadUpTo text ps at → IsFirstMark (drop at text) (Hole k) n → HasHole text at k
hole_at text ps at n k l h f = record {
  rest = drop at text;
  begins = begins text ps at l h;
  hole = record { front = take n (drop at text); more = drop n (drop at text); split = sym (take-append-drop n (drop at text)); spelled = f.first.spelled };
}

uncapped : (o : Option (Piece × ℕ)) (q : Piece) (n : ℕ) → ◌≡◌ {A = Option (Piece × ℕ)} (Some (q, n)) (option_map (λ f. (capped f.0, f.1)) o) → (p : Piece) × (o ≡ Some (p, n)) × (capped p ≡ q)
uncapped None q n e = cc
uncapped (Some f) q n e =
    let count : n ≡ f.1 = ap count_in e in
    (f.0, ap (λ (k : ℕ). Some (f.0, k)) (sym count), sym (ap piece_in e))

found : (bytes : List ℕ) (q : Piece) (n : ℕ) → prefix_len is_plain bytes ≡ 0 → ◌≡◌ {A = Option (Piece × ℕ)} (Some (q, n)) (option_map (λ f. (capped f.0, f.1)) (first_piece bytes)) → (p : Piece) × IsFirstMark bytes p n × (capped p ≡ q)
found bytes q n h e =
    let under = uncapped (first_piece bytes) q n e in
    (under.0, first_piece-mark bytes under.0 n h under.1, under.2)

byte_under : (p : Piece) (b : ℕ) → capped p ≡ Byte b → p ≡ Byte b
byte_under (Byte c) b e = e
byte_under (Hole k) b e = cc

hole_under : (p : Piece) (number : ℕ) → capped p ≡ Hole number → (k : ℕ) × (p ≡ Hole k) × (number ≡ min k (max_hole + 1))
hole_under (Byte c) number e = cc
hole_under (Hole k) number e = (k, refl, cc)

pub found-byte : (bytes : List ℕ) (b n : ℕ) → prefix_len is_plain bytes ≡ 0 → ◌≡◌ {A = Option (Piece × ℕ)} (Some (Byte b, n)) (option_map (λ f. (capped f.0, f.1)) (first_piece bytes)) → IsFirstMark bytes (Byte b) n
found-byte bytes b n h e =
    let f = found bytes (Byte b) n h e in
    subst (λ (p : Piece). IsFirstMark bytes p n) (byte_under f.0 b f.2) f.1

pub found-hole : (bytes : List ℕ) (number n : ℕ) → prefix_len is_plain bytes ≡ 0 → ◌≡◌ {A = Option (Piece × ℕ)} (Some (Hole number, n)) (option_map (λ f. (capped f.0, f.1)) (first_piece bytes)) → (k : ℕ) × IsFirstMark bytes (Hole k) n × (number ≡ min k (max_hole + 1))
found-hole bytes number n h e =
    let f = found bytes (Hole number) n h e in
    let under = hole_under f.0 number f.2 in
    (under.0, subst (λ (p : Piece). IsFirstMark bytes p n) under.1 f.1, under.2)

none_under : (o : Option (Piece × ℕ)) → ◌≡◌ {A = Option (Piece × ℕ)} None (option_map (λ f. (capped f.0, f.1)) o) → o ≡ None
none_under None e = refl
none_under (Some f) e = cc

pub found-none : (bytes : List ℕ) → ◌≡◌ {A = Option (Piece × ℕ)} None (option_map (λ f. (capped f.0, f.1)) (first_piece bytes)) → first_piece bytes ≡ None
found-none bytes e = none_under (first_piece bytes) e

-- the same of a slice of the text's bytes
abbrev Slice : List ℕ → ℕ → List ℕ
Slice xs at = take (length xs - at) (drop at xs)

abbrev Finds : Option (Piece × ℕ) → List ℕ → Type 0
Finds result bytes = result ≡ option_map (λ f. (capped f.0, f.1)) (first_piece bytes)

slice_of : (xs text : List ℕ) (at : ℕ) → xs ≡ text → Slice xs at ≡ drop at text
slice_of xs text at e = rest_of xs at ∙ ap (drop at) e

no_plain : (xs text : List ℕ) (at n : ℕ) → xs ≡ text → n ≡ prefix_len is_plain (Slice xs at) → n ≤ 0 → prefix_len is_plain (drop at text) ≡ 0
no_plain xs text at n e p l = ap (prefix_len is_plain) (sym (slice_of xs text at e)) ∙ (sym p ∙ omega arith)

finds : (xs text : List ℕ) (at : ℕ) (result : Option (Piece × ℕ)) → xs ≡ text → Finds result (Slice xs at) → Finds result (drop at text)
finds xs text at result e r = r ∙ ap (λ (bytes : List ℕ). option_map (λ f. (capped f.0, f.1)) (first_piece bytes)) (slice_of xs text at e)

pub slice-none : (xs text : List ℕ) (at : ℕ) (result : Option (Piece × ℕ)) → xs ≡ text → result ≡ None → Finds result (Slice xs at) → first_piece (drop at text) ≡ None
slice-none xs text at result e i r = found-none (drop at text) (sym i ∙ finds xs text at result e r)

pub slice-byte : (xs text : List ℕ) (at n : ℕ) (result : Option (Piece × ℕ)) (q : Piece) (b count : ℕ) → xs ≡ text → n ≡ prefix_len is_plain (Slice xs at) → n ≤ 0 → result ≡ Some (q, count) → q ≡ Byte b → Finds result (Slice xs at) → IsFirstMark (drop at text) (Byte b) count
slice-byte xs text at n result q b count e p l i k r =
    found-byte (drop at text) b count (no_plain xs text at n e p l) (ap (λ (x : Piece). Some (x, count)) (sym k) ∙ (sym i ∙ finds xs text at result e r))

pub slice-hole : (xs text : List ℕ) (at n : ℕ) (result : Option (Piece × ℕ)) (q : Piece) (number count : ℕ) → xs ≡ text → n ≡ prefix_len is_plain (Slice xs at) → n ≤ 0 → result ≡ Some (q, count) → q ≡ Hole number → Finds result (Slice xs at) → (k : ℕ) × IsFirstMark (drop at text) (Hole k) count × (number ≡ min k (max_hole + 1))
slice-hole xs text at n result q number count e p l i k r =
    found-hole (drop at text) number count (no_plain xs text at n e p l) (ap (λ (x : Piece). Some (x, count)) (sym k) ∙ (sym i ∙ finds xs text at result e r))

pub slice-plain : (xs text : List ℕ) (at n : ℕ) → xs ≡ text → n ≡ prefix_len is_plain (Slice xs at) → n ≡ prefix_len is_plain (drop at text)
slice-plain xs text at n e p = p ∙ ap (prefix_len is_plain) (slice_of xs text at e)

-- the plain bytes end within the text
pub plain_within : (text : List ℕ) (at n : ℕ) → at ≤ length text → n ≡ prefix_len is_plain (drop at text) → at + n ≤ length text
plain_within text at n l e = omega (arith, length-drop at text, prefix_len-le-length is_plain (drop at text))

pub mark_within : (text : List ℕ) (at n : ℕ) (p : Piece) → at ≤ length text → IsFirstMark (drop at text) p n → (at < at + n) × (at + n ≤ length text)
mark_within text at n p l f = (omega (arith, f.first.some), omega (arith, length-drop at text, f.first.within))
