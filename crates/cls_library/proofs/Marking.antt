-- Flags of heads: a head whose flag isn't set leads to no path that it alone leads to.
use Rattle.std.proofs.Common.{◌≡◌, ℕ, zero, suc, min, Some, ◌+◌, ◌%◌, ◌/◌, ◌*◌, ◌^◌, ◌<◌, length, inl, inr, ◌==◌, true, false, List, [], ◌∷◌, ◌++◌, sym, subst, ap, ◌∙◌, arith, IsTrue, eqb-true, w64}
use Rattle.std.specs.Prelude.{slice_get, slice_index_or, slice_set}
use Rattle.std.specs.Int.{bit_at}
use Rattle.std.specs.Int.RustNames.{bit_or}
use Rattle.std.proofs.lemmas.Bool.{cases_Bool}
use Rattle.std.proofs.lemmas.List.{get_or-set_same, get_or-set_other}
use Rattle.std.proofs.lemmas.Nat.Bits.{bit_at_set_same, bit_at_set_other}
use native.Mathlib.Decide.{ℕ_discrete}
use Rattle.cls_taxon.specs.Decisions.{is_below}
use Rattle.cls_taxon.specs.Orders.{Declared, class_by}
use Rattle.cls_path.specs.Paths.{TypePath, listed}
use Rattle.cls_base.specs.Limits.{max_arity}
use Rattle.cls_library.specs.declared.ending.Ending.{Ending}
use Rattle.cls_library.specs.declared.ending.Head.{Head}
use Rattle.cls_library.specs.declared.ending.Head.TheVariants.{Covariant, Product, Sealed}
use Rattle.cls_library.specs.Arrows.{arrows_of}
use Rattle.cls_library.specs.Endings.{head_of, ending_of, ending_behind, is_alone, mark_of, is_set, is_marked, may_be_below, may_end_below, has_depth, AreDeep, AreEndings, AreMarked}
use Rattle.cls_library.specs.Families.{IsFamilyIn}
use Rattle.cls_library.specs.Libraries.{variances_in}
use Rattle.cls_library.proofs.EndingLaws.{both}
use Rattle.cls_library.proofs.Lone.{head-alone}
use Rattle.cls_library.proofs.Unreached.{NonePasses, none-passes}

differs : false ≡ true → ⊥
differs e = cc

below_64 : (k : ℕ) → k % 64 < 64
below_64 k = omega arith

below_1024 : (k : ℕ) → k % 1024 < 1024
below_1024 k = omega arith

pub mark-within : (h : Head) → mark_of h < 1024
mark-within (Covariant c) = below_1024 c.0
mark-within Product = omega arith
mark-within (Sealed c) = below_1024 c.0

-- the word with one flag more
abbrev pub with_bit : ℕ → ℕ → ℕ
with_bit word k = bit_or word (1 * 2 ^ k % 2 ^ 64)

-- the words with one flag more
abbrev pub with_mark : List ℕ → ℕ → List ℕ
with_mark words k = slice_set words (k / 64) (with_bit (slice_index_or words (k / 64) 0) (k % 64))

one-is : (n : ℕ) → n ≡ 1 → (n == 1) ≡ true
one-is n e = ap (λ k. k == 1) e

bit-here : (word k : ℕ) → k < 64 → (bit_at (with_bit word k) k == 1) ≡ true
bit-here word k l = one-is (bit_at (with_bit word k) k) (bit_at_set_same w64 word k l)

bit-still : (word k i : ℕ) → k < 64 → (bit_at word i == 1) ≡ true → (bit_at (with_bit word k) i == 1) ≡ true
bit-still word k i l h = go (ℕ_discrete i k)
  where
    go : Dec (i ≡ k) → (bit_at (with_bit word k) i == 1) ≡ true
    go (yes e) = subst (λ j. (bit_at (with_bit word k) j == 1) ≡ true) (sym e) (bit-here word k l)
    go (no n) = ap (λ b. b == 1) (bit_at_set_other w64 word k l i n) ∙ h

marked-here : (words : List ℕ) (k : ℕ) → k / 64 < length words → is_set (with_mark words k) k ≡ true
marked-here words k l =
    let word = slice_index_or words (k / 64) 0 in
    ap (λ w. bit_at w (k % 64) == 1) (get_or-set_same words (k / 64) (with_bit word (k % 64)) 0 l) ∙ bit-here word (k % 64) (below_64 k)

marked-still : (words : List ℕ) (k j : ℕ) → k / 64 < length words → is_set words j ≡ true → is_set (with_mark words k) j ≡ true
marked-still words k j l h = go (ℕ_discrete (j / 64) (k / 64))
  where
    go : Dec (j / 64 ≡ k / 64) → is_set (with_mark words k) j ≡ true
    go (yes e) =
        let word = slice_index_or words (k / 64) 0 in
        ap (λ i. bit_at (slice_index_or (with_mark words k) i 0) (j % 64) == 1) e
        ∙ (ap (λ w. bit_at w (j % 64) == 1) (get_or-set_same words (k / 64) (with_bit word (k % 64)) 0 l)
        ∙ bit-still word (k % 64) (j % 64) (below_64 k) (ap (λ i. bit_at (slice_index_or words i 0) (j % 64) == 1) (sym e) ∙ h))
    go (no n) = ap (λ w. bit_at w (j % 64) == 1) (get_or-set_other words (k / 64) (j / 64) (with_bit (slice_index_or words (k / 64) 0) (k % 64)) 0 n) ∙ h

-- the flag of the head is set for each ending
abbrev pub EachMarked : List ℕ → List Ending → Type 0
EachMarked words [] = Unit {0}
EachMarked words (e ∷ es) = IsTrue (is_marked words e.head) × EachMarked words es

-- the flags of one head more
pub marked-more : (words : List ℕ) (es : List Ending) (e : Ending) → length words ≡ 16 → EachMarked words es → EachMarked (with_mark words (mark_of e.head)) (es ++ e ∷ [])
marked-more words es e size h = more es h
  where
    room : mark_of e.head / 64 < length words
    room = let l = mark-within e.head in omega arith

    more : (es : List Ending) → EachMarked words es → EachMarked (with_mark words (mark_of e.head)) (es ++ e ∷ [])
    more [] h = (marked-here words (mark_of e.head) room, tt)
    more (b ∷ es) h = (marked-still words (mark_of e.head) (mark_of b.head) room h.0, more es h.1)

some-is : (x y : Ending) → Some x ≡ Some y → x ≡ y
some-is x y e = cc

nothing : (k : ℕ) (e : Ending) → slice_get [] k ≡ Some e → ⊥
nothing k e at = cc

marked-at : (words : List ℕ) (es : List Ending) (k : ℕ) (e : Ending) → EachMarked words es → slice_get es k ≡ Some e → IsTrue (is_marked words e.head)
marked-at words [] k e h at = absurd (nothing k e at)
marked-at words (x ∷ es) zero e h at = subst (λ (y : Ending). IsTrue (is_marked words y.head)) (some-is x e at) h.0
marked-at words (x ∷ es) (suc k) e h at = marked-at words es k e h.1 at

-- if it is set for each ending, it is for each path with one of them
pub marked-paths : (words : List ℕ) (es : List Ending) → EachMarked words es → (ks : List ℕ) (ps : List TypePath) → AreEndings es ks ps → AreMarked words ps
marked-paths words es h [] [] a = tt
marked-paths words es h (k ∷ ks) (p ∷ ps) a = (marked-at words es k (ending_of p) h a.0, marked-paths words es h ks ps a.1)
marked-paths words es h [] (p ∷ ps) a = absurd a
marked-paths words es h (k ∷ ks) [] a = absurd a

-- the flag of the number of arrows, capped, is set for each ending
abbrev pub EachDeep : ℕ → List Ending → Type 0
EachDeep word [] = Unit {0}
EachDeep word (e ∷ es) = IsTrue (has_depth word (min e.arrows (max_arity + 1))) × EachDeep word es

deep-within : (e : Ending) → min e.arrows (max_arity + 1) < 64
deep-within e = omega arith

-- the flag of the number of arrows of one ending more
pub deep-more : (word : ℕ) (es : List Ending) (e : Ending) → EachDeep word es → EachDeep (with_bit word (min e.arrows (max_arity + 1))) (es ++ e ∷ [])
deep-more word [] e h = (bit-here word (min e.arrows (max_arity + 1)) (deep-within e), tt)
deep-more word (b ∷ es) e h = (bit-still word (min e.arrows (max_arity + 1)) (min b.arrows (max_arity + 1)) (deep-within e) h.0, deep-more word es e h.1)

deep-at : (word : ℕ) (es : List Ending) (k : ℕ) (e : Ending) → EachDeep word es → slice_get es k ≡ Some e → IsTrue (has_depth word (min e.arrows (max_arity + 1)))
deep-at word [] k e h at = absurd (nothing k e at)
deep-at word (x ∷ es) zero e h at = subst (λ (y : Ending). IsTrue (has_depth word (min y.arrows (max_arity + 1)))) (some-is x e at) h.0
deep-at word (x ∷ es) (suc k) e h at = deep-at word es k e h.1 at

capped : (p : TypePath) → min (ending_of p).arrows (max_arity + 1) ≡ (ending_of p).arrows
capped p = omega arith

-- if it is set for each ending, it is for each path with one of them
pub deep-paths : (word : ℕ) (es : List Ending) → EachDeep word es → (ks : List ℕ) (ps : List TypePath) → AreEndings es ks ps → AreDeep word ps
deep-paths word es h [] [] a = tt
deep-paths word es h (k ∷ ks) (p ∷ ps) a = (subst (λ n. IsTrue (has_depth word n)) (capped p) (deep-at word es k (ending_of p) h a.0), deep-paths word es h ks ps a.1)
deep-paths word es h [] (p ∷ ps) a = absurd a
deep-paths word es h (k ∷ ks) [] a = absurd a

module _ (d : Declared) (n : ℕ) (q : TypePath) (word : ℕ) (undeep : has_depth word (ending_behind n (ending_of q)).arrows ≡ false) where
  too-deep : (p : TypePath) → IsTrue (has_depth word (ending_of p).arrows) → may_end_below (is_below d) n (ending_of p) (ending_of q) ≡ false
  too-deep p m = elim (cases_Bool (may_end_below (is_below d) n (ending_of p) (ending_of q))) [
    | inl e ↦ absurd (
        let r = both _ (may_be_below (is_below d) (head_of p) (head_of q)) e in
        let same : (ending_of p).arrows ≡ (ending_behind n (ending_of q)).arrows = eqb-true (ending_of p).arrows (ending_behind n (ending_of q)).arrows r.0 in
        differs (sym undeep ∙ subst (λ k. has_depth word k ≡ true) same m))
    | inr e ↦ e
  ]

  all-too-deep : (ps : List TypePath) → AreDeep word ps → NonePasses (is_below d) (variances_in d) n q ps
  all-too-deep [] h = tt
  all-too-deep (p ∷ ps) h = (too-deep p h.0, all-too-deep ps h.1)

  pub no-family-undeep : (ps : List TypePath) → AreDeep word ps → IsFamilyIn d (arrows_of n (listed ps)) q []
  no-family-undeep ps h = none-passes (is_below d) (variances_in d) n q ps (all-too-deep ps h)

module _ (d : Declared) (n : ℕ) (q : TypePath) (alone : is_alone (class_by d.pairs) (head_of q) ≡ true) (words : List ℕ) (unmarked : is_marked words (head_of q) ≡ false) where
  fails : (p : TypePath) → IsTrue (is_marked words (head_of p)) → may_end_below (is_below d) n (ending_of p) (ending_of q) ≡ false
  fails p m = elim (cases_Bool (may_end_below (is_below d) n (ending_of p) (ending_of q))) [
    | inl e ↦ absurd (
        let r = both _ (may_be_below (is_below d) (head_of p) (head_of q)) e in
        let same : head_of p ≡ head_of q = head-alone d (head_of p) (head_of q) alone r.1 in
        differs (sym unmarked ∙ subst (λ (h : Head). is_marked words h ≡ true) same m))
    | inr e ↦ e
  ]

  fail-all : (ps : List TypePath) → AreMarked words ps → NonePasses (is_below d) (variances_in d) n q ps
  fail-all [] h = tt
  fail-all (p ∷ ps) h = (fails p h.0, fail-all ps h.1)

  pub no-family-unmarked : (ps : List TypePath) → AreMarked words ps → IsFamilyIn d (arrows_of n (listed ps)) q []
  no-family-unmarked ps h = none-passes (is_below d) (variances_in d) n q ps (fail-all ps h)
