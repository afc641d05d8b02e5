-- What stands behind the components of a line: kept when it is cut, and one more when it grows.
use Rattle.std.proofs.Common.{◌≡◌, ℕ, zero, suc, ◌+◌, ◌-◌, ◌*◌, ◌≤◌, ◌<◌, List, [], ◌∷◌, ◌++◌, length, take, get_or, refl, sym, ap, ◌∙◌, subst, arith, append_assoc, append-nil, length-append, below_more}
use Rattle.std.specs.Prelude.{◌/◌, IsUtf8, codes, string_bytes}
use Rattle.std.specs.String.Boundary.{IsSplitPoint}
use Rattle.std.proofs.Math.Seq.{take-append_seam, get_or-append_seam}
use Rattle.std.proofs.lemmas.List.{get_or-take, get_or_append_left, length-take-le}
use Rattle.std.proofs.lemmas.Str.{IsUtf8-string_bytes, IsCharBoundary-from_take}
use Rattle.cls_base.specs.Terms.{Applicative, code_of, length_of}
use Rattle.cls_term.specs.Lines.{close_text, close_stack, mark_text, mark_stack, text_behind, stack_behind, standing_at, AreOpen, IsAtEnd, IsClosed, IsGrown, IsStanding, IsLine, IsWholeLine}
use Rattle.cls_term.specs.Texts.{text_of}
use Rattle.cls_term.specs.declared.lines.Line.{Line}
use Rattle.cls_term.specs.declared.lines.Standing.{Standing}
use Rattle.cls_term.proofs.Codes.{length-code_of}
use Rattle.cls_term.proofs.LineTexts.{starts, same-text, same-stack, text-more, stack-more, text_behind-code_of}

-- the standings up to k say which lists are open behind k components
open-same : (old new : List Standing) (k : ℕ) (stack : List ℕ) → ((j : ℕ) → j ≤ k → standing_at new j ≡ standing_at old j) → AreOpen old k stack → AreOpen new k stack
open-same old new k [] h o = ap (λ (s : Standing). s.left) (h k (omega arith)) ∙ o
open-same old new k (more ∷ stack) h o =
    let P : Standing → Type 0 = λ s. (s.left ≡ more + 1) × (s.outer < k) × AreOpen new s.outer stack in
    subst P (sym (h k (omega arith))) (o.0, o.1, open-same old new (standing_at old k).outer stack (λ j l. h j (omega (arith, o.1))) o.2)

standing-same :
    (name : ℕ → List ℕ) (word code : List ℕ) (old new : List Standing) (k : ℕ)
    → ((j : ℕ) → j ≤ k → standing_at new j ≡ standing_at old j) → IsStanding name word code old k → IsStanding name word code new k
standing-same name word code old new k h s = record {
  end = ap (λ (t : Standing). t.end) (h k (omega arith)) ∙ s.end;
  lists = open-same old new k (stack_behind [] k code) h s.lists;
  utf8 = s.utf8;
}

-- the lists that are open at the end of the line
pub at-end : (name : ℕ → List ℕ) (word code : List ℕ) (k : ℕ) (line : Line) → IsLine name word code k line → IsAtEnd line.standings.items (stack_behind [] k code)
at-end name word code k line h =
    let P : ℕ → Type 0 = λ j. AreOpen line.standings.items j (stack_behind [] k code) in
    let e : k ≡ length line.standings.items - 1 = omega (arith, h.many) in
    record { some = omega (arith, h.many); lists = subst P e (h.each k (omega arith)).lists }

-- the innermost list that is open ends
list-ends :
    (standings : List Standing) (place : ℕ) (stack : List ℕ) → AreOpen standings place stack → (standing_at standings place).left ≡ 1
    → (rest : List ℕ) × (stack ≡ 0 ∷ rest) × ((standing_at standings place).outer < place) × AreOpen standings (standing_at standings place).outer rest
list-ends standings place [] o e = absurd (omega (arith, o, e))
list-ends standings place (more ∷ stack) o e =
    let m : more ≡ 0 = omega (arith, o.0, e) in
    (stack, ap (λ (n : ℕ). n ∷ stack) m, o.1, o.2)

no-list : (standings : List Standing) (place : ℕ) (stack : List ℕ) → AreOpen standings place stack → (standing_at standings place).left ≡ 0 → stack ≡ []
no-list standings place [] o e = refl
no-list standings place (more ∷ stack) o e = absurd (omega (arith, o.0, e))

list-goes_on :
    (standings : List Standing) (place : ℕ) (stack : List ℕ) → AreOpen standings place stack → 1 < (standing_at standings place).left
    → (more : ℕ) × (rest : List ℕ) × (stack ≡ suc more ∷ rest) × ((standing_at standings place).left ≡ more + 2) × ((standing_at standings place).outer < place)
    × AreOpen standings (standing_at standings place).outer rest
list-goes_on standings place [] o l = absurd (omega (arith, o, l))
list-goes_on standings place (zero ∷ stack) o l = absurd (omega (arith, o.0, l))
list-goes_on standings place (suc more ∷ stack) o l = (more, stack, refl, omega (arith, o.0), o.1, o.2)

-- a list is closed
pub closed-next :
    (standings : List Standing) (stack old new last : List ℕ) (place : ℕ) → IsClosed standings stack old new place → (standing_at standings place).left ≡ 1 → last ≡ new ++ codes ")"
    → IsClosed standings stack old last (standing_at standings place).outer
closed-next standings stack old new last place h e m =
    let r = list-ends standings place h.rest h.lists e in
    record {
      rest = r.0;
      within = omega (arith, h.within, r.2);
      lists = r.3;
      text = ap (λ (v : List ℕ). v ++ close_text r.0) m ∙ append_assoc new (codes ")") (close_text r.0) ∙ ap (λ (s : List ℕ). new ++ close_text s) (sym r.1) ∙ h.text;
      stack_then = ap close_stack (sym r.1) ∙ h.stack_then;
    }

pub closed-falls :
    (standings : List Standing) (stack old new : List ℕ) (place : ℕ) → IsClosed standings stack old new place → (standing_at standings place).left ≡ 1
    → (standing_at standings place).outer < place
closed-falls standings stack old new place h e = (list-ends standings place h.rest h.lists e).2

-- a standing more
module _ (old : List Standing) (last : Standing) where
  pushed : standing_at (old ++ last ∷ []) (length old) ≡ last
  pushed = get_or-append_seam old last [] _

  open-pushed : (k : ℕ) (stack : List ℕ) → k < length old → AreOpen old k stack → AreOpen (old ++ last ∷ []) k stack
  open-pushed k stack l = open-same old (old ++ last ∷ []) k stack (λ j m. get_or_append_left old (last ∷ []) _ j (omega arith))

  -- the lists that are open behind it
  open-last :
      (more : ℕ) (stack : List ℕ) → last.left ≡ more + 1 → last.outer < length old → AreOpen old last.outer stack
      → AreOpen (old ++ last ∷ []) (length old) (more ∷ stack)
  open-last more stack l o h =
      let P : Standing → Type 0 = λ s. (s.left ≡ more + 1) × (s.outer < length old) × AreOpen (old ++ last ∷ []) s.outer stack in
      subst P (sym pushed) (l, o, open-pushed last.outer stack o h)

  none-last : last.left ≡ 0 → AreOpen (old ++ last ∷ []) (length old) []
  none-last l = ap (λ (s : Standing). s.left) pushed ∙ l

-- a list more is open
pub list-opened :
    (count : ℕ) (stack : List ℕ) (old new : Line) (last : Standing) → IsAtEnd old.standings.items stack → 0 < count → last.left ≡ count → last.outer ≡ length old.standings.items - 1
    → last.end ≡ length (string_bytes new.text) → string_bytes new.text ≡ string_bytes old.text ++ codes "(" → new.standings.items ≡ old.standings.items ++ last ∷ []
    → IsGrown (mark_text stack count) (mark_stack stack count) old new
list-opened zero stack old new last h l left outer end bytes items = absurd (omega (arith, l))
list-opened (suc more) stack old new last h l left outer end bytes items = record {
  bytes = bytes;
  standing = last;
  standings = items;
  end = end;
  lists = (let P : List Standing → Type 0 = λ s. AreOpen s (length old.standings.items) (more ∷ stack) in
      let Q : ℕ → Type 0 = λ k. AreOpen old.standings.items k stack in
      subst P (sym items) (open-last old.standings.items last more stack (omega (arith, left)) (omega (arith, outer, h.some)) (subst Q (sym outer) h.lists)));
}

-- no list goes on
pub lists-closed :
    (stack full : List ℕ) (place : ℕ) (old new : Line) (last : Standing) → IsClosed old.standings.items stack (string_bytes old.text) full place
    → (standing_at old.standings.items place).left ≡ 0 → last.left ≡ 0
    → last.end ≡ length (string_bytes new.text) → string_bytes new.text ≡ full → new.standings.items ≡ old.standings.items ++ last ∷ []
    → IsGrown (close_text stack) (close_stack stack) old new
lists-closed stack full place old new last h none left end bytes items =
    let rest : h.rest ≡ [] = no-list old.standings.items place h.rest h.lists none in
    record {
      bytes = bytes ∙ sym (append-nil full) ∙ ap (λ (s : List ℕ). full ++ close_text s) (sym rest) ∙ h.text;
      standing = last;
      standings = items;
      end = end;
      lists = (let P : List Standing → Type 0 = λ s. AreOpen s (length old.standings.items) [] in
          let Q : List ℕ → Type 0 = λ s. AreOpen new.standings.items (length old.standings.items) s in
          subst Q (ap close_stack (sym rest) ∙ h.stack_then) (subst P (sym items) (none-last old.standings.items last left)));
    }

-- a list goes on
pub lists-go_on :
    (stack full : List ℕ) (place : ℕ) (old new : Line) (last : Standing) → IsClosed old.standings.items stack (string_bytes old.text) full place
    → 1 < (standing_at old.standings.items place).left → last.left + 1 ≡ (standing_at old.standings.items place).left → last.outer ≡ (standing_at old.standings.items place).outer
    → last.end ≡ length (string_bytes new.text) → string_bytes new.text ≡ full ++ codes ", " → new.standings.items ≡ old.standings.items ++ last ∷ []
    → IsGrown (close_text stack) (close_stack stack) old new
lists-go_on stack full place old new last h some left outer end bytes items =
    let r = list-goes_on old.standings.items place h.rest h.lists some in
    let items-old = old.standings.items in
    record {
      bytes = bytes ∙ ap (λ (s : List ℕ). full ++ close_text s) (sym r.2) ∙ h.text;
      standing = last;
      standings = items;
      end = end;
      lists = (let P : List Standing → Type 0 = λ s. AreOpen s (length items-old) (r.0 ∷ r.1) in
          let Q : List ℕ → Type 0 = λ s. AreOpen new.standings.items (length items-old) s in
          let R : ℕ → Type 0 = λ k. AreOpen items-old k r.1 in
          let one : last.left ≡ r.0 + 1 = omega (arith, left, r.3) in
          let far : last.outer < length items-old = omega (arith, outer, r.4, h.within) in
          subst Q (ap close_stack (sym r.2) ∙ h.stack_then) (subst P (sym items) (open-last items-old last r.0 r.1 one far (subst R (sym outer) r.5))));
    }

-- the line begins with what fewer components write
begins :
    (name : ℕ → List ℕ) (word code : List ℕ) (k count : ℕ) (line : Line) → IsLine name word code k line → count ≤ k
    → (rest : List ℕ) × (string_bytes line.text ≡ (word ++ text_behind name [] count code) ++ rest)
begins name word code k count line h l =
    let r = starts name count k [] code l in
    (r.0, h.text ∙ ap (λ (v : List ℕ). word ++ v) r.1 ∙ sym (append_assoc word (text_behind name [] count code) r.0))

cut-text :
    (name : ℕ → List ℕ) (word code : List ℕ) (k count : ℕ) (line : Line) → IsLine name word code k line → count ≤ k
    → take (standing_at line.standings.items count).end (string_bytes line.text) ≡ word ++ text_behind name [] count code
cut-text name word code k count line h l =
    let r = begins name word code k count line h l in
    (λ i. take ((h.each count l).end i) (r.1 i)) ∙ take-append_seam (word ++ text_behind name [] count code) r.0

-- where the line may be cut
pub split-point :
    (name : ℕ → List ℕ) (word code : List ℕ) (k count : ℕ) (line : Line) → IsLine name word code k line → count ≤ k
    → IsSplitPoint (string_bytes line.text) (standing_at line.standings.items count).end
split-point name word code k count line h l =
    let front = word ++ text_behind name [] count code in
    let r = begins name word code k count line h l in
    let within : (standing_at line.standings.items count).end ≤ length (string_bytes line.text) =
    omega (arith, (h.each count l).end, ap length r.1, length-append front r.0)
    in
    let b = IsCharBoundary-from_take (string_bytes line.text) _ (IsUtf8-string_bytes line.text) within
    (subst IsUtf8 (sym (cut-text name word code k count line h l)) (h.each count l).utf8)
    in
    (b.0, λ _ m. b.1 m)

pub line-cut :
    (name : ℕ → List ℕ) (word code : List ℕ) (k count : ℕ) (old new : Line) → IsLine name word code k old → count ≤ k
    → string_bytes new.text ≡ take (standing_at old.standings.items count).end (string_bytes old.text) → new.standings.items ≡ take (count + 1) old.standings.items
    → IsLine name word code count new
line-cut name word code k count old new h l bytes kept = record {
  within = omega (arith, h.within);
  many = ap length kept ∙ length-take-le (count + 1) old.standings.items (omega (arith, h.many));
  text = bytes ∙ cut-text name word code k count old h l;
  each = λ j m. standing-same name word code old.standings.items new.standings.items j
      (λ i n. ap (λ (s : List Standing). standing_at s i) kept ∙ get_or-take (count + 1) old.standings.items i _ (omega arith))
      (h.each j (omega arith));
}

-- the line of one code is that of another with the same beginning
pub line-shared :
    (name : ℕ → List ℕ) (word before code : List ℕ) (k : ℕ) (line : Line) → IsLine name word before k line → 2 * k ≤ length code
    → ((i : ℕ) → i < 2 * k → get_or before i 0 ≡ get_or code i 0) → IsLine name word code k line
line-shared name word before code k line h l same =
    let text : (j : ℕ) → j ≤ k → text_behind name [] j before ≡ text_behind name [] j code =
    λ j m. same-text name j [] before code (omega (arith, h.within)) (omega arith) (λ i n. same i (omega arith))
    in
    let stack : (j : ℕ) → j ≤ k → stack_behind [] j before ≡ stack_behind [] j code =
    λ j m. same-stack j [] before code (omega (arith, h.within)) (omega arith) (λ i n. same i (omega arith))
    in
    record {
      within = l;
      many = h.many;
      text = h.text ∙ ap (λ (v : List ℕ). word ++ v) (text k (omega arith));
      each = λ j m. let s = h.each j m in record {
        end = s.end ∙ ap (λ (v : List ℕ). length (word ++ v)) (text j m);
        lists = subst (AreOpen line.standings.items j) (stack j m) s.lists;
        utf8 = subst (λ (v : List ℕ). IsUtf8 (word ++ v)) (text j m) s.utf8;
      };
    }

-- one component more
pub line-grown :
    (name : ℕ → List ℕ) (word code : List ℕ) (k : ℕ) (old new : Line) → IsLine name word code k old → 2 * k + 1 < length code
    → IsGrown (name (get_or code (2 * k) 0) ++ mark_text (stack_behind [] k code) (get_or code (2 * k + 1) 0)) (mark_stack (stack_behind [] k code) (get_or code (2 * k + 1) 0)) old new
    → IsLine name word code (k + 1) new
line-grown name word code k old new h l g =
    let next = name (get_or code (2 * k) 0) ++ mark_text (stack_behind [] k code) (get_or code (2 * k + 1) 0) in
    let bytes : string_bytes new.text ≡ word ++ text_behind name [] (k + 1) code =
    g.bytes ∙ ap (λ (v : List ℕ). v ++ next) h.text ∙ append_assoc word (text_behind name [] k code) next
    ∙ ap (λ (v : List ℕ). word ++ v) (sym (text-more name k [] code l))
    in
    let items = old.standings.items in
    let last : standing_at new.standings.items (k + 1) ≡ g.standing =
    (λ i. standing_at (g.standings i) (sym h.many i)) ∙ get_or-append_seam items g.standing [] _
    in
    let old-one : (j : ℕ) → j ≤ k → standing_at new.standings.items j ≡ standing_at items j =
    λ j m. ap (λ (s : List Standing). standing_at s j) g.standings ∙ get_or_append_left items (g.standing ∷ []) _ j (omega (arith, h.many))
    in
    let here : IsStanding name word code new.standings.items (k + 1) = record {
      end = ap (λ (s : Standing). s.end) last ∙ g.end ∙ ap length bytes;
      lists = (let P : List ℕ → Type 0 = AreOpen new.standings.items (k + 1) in
          let Q : ℕ → Type 0 = λ j. AreOpen new.standings.items j (mark_stack (stack_behind [] k code) (get_or code (2 * k + 1) 0)) in
          subst P (sym (stack-more k [] code l)) (subst Q h.many g.lists));
      utf8 = subst IsUtf8 bytes (IsUtf8-string_bytes new.text);
    } in
    let before : (j : ℕ) → j < k + 1 → IsStanding name word code new.standings.items j =
    λ j m. standing-same name word code items new.standings.items j (λ i n. old-one i (omega arith)) (h.each j (omega arith))
    in
    record {
      within = omega arith;
      many = ap length g.standings ∙ length-append items (g.standing ∷ []) ∙ ap (λ (n : ℕ). n + 1) h.many;
      text = bytes;
      each = λ j m. below_more (IsStanding name word code new.standings.items) (k + 1) before here j (omega arith);
    }

-- the line of a term's whole code
pub line-whole :
    (name : ℕ → List ℕ) (word code : List ℕ) (e : Applicative) (line : Line) → IsWholeLine name word code line → code ≡ code_of e
    → string_bytes line.text ≡ word ++ text_of name e
line-whole name word code e line h p =
    let n : length code / 2 ≡ length_of e = omega (arith, ap length p, length-code_of e) in
    h.text ∙ ap (λ (v : List ℕ). word ++ v) ((λ i. text_behind name [] (n i) (p i)) ∙ text_behind-code_of name e)
