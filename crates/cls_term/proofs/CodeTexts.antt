-- Steps of writing a term's text while its code is read.
use Rattle.std.proofs.Common.{◌≡◌, ℕ, zero, suc, ◌+◌, ◌-◌, List, [], ◌∷◌, ◌++◌, length, take, drop, refl, sym, ap, ◌∙◌, arith, append_assoc, append-nil}
use Rattle.std.specs.Prelude.{Bool, false, codes, nat_eq, if◌then◌else◌, slice_index_or}
use Rattle.std.proofs.lemmas.Bool.Decides.{nat_tests}
use Rattle.cls_base.specs.Terms.{Applicative, component, apply, head_of, argument_count, argument_codes, code_of}
use Rattle.cls_term.specs.CodeTexts.{IsWritten, mark_before, mark_behind, stem_text}
use Rattle.cls_term.specs.Decodes.{BeginsWithTerm}
use Rattle.cls_term.specs.Texts.{text_of, open_text}
use Rattle.cls_term.proofs.Decodes.{parts, first-of, second-of, tail-of}

-- a code, and its numbers behind the first two
pub two-first : (code : List ℕ) → BeginsWithTerm code → code ≡ slice_index_or code 0 0 ∷ slice_index_or code 1 0 ∷ take (length code - 2) (drop 2 code)
two-first code h =
    let r = parts code h in
    r.3 ∙ (λ i. sym (first-of code r.2 r.0 r.1 r.3) i ∷ sym (second-of code r.2 r.0 r.1 r.3) i ∷ sym (tail-of code r.2 r.0 r.1 r.3) i)

some-place : (k : ℕ) → nat_eq (suc k) 0 ≡ false
some-place k = grind (arith, nat_tests)

-- So far, `place` of `count` arguments of a component were read and written.
module _ (name : ℕ → List ℕ) where
  pub record IsBegun (code rest old new : List ℕ) (x count place : ℕ) : Type 0 where
    pub term : Applicative
    pub heads : head_of term ≡ x
    pub many : argument_count term ≡ place
    pub begins : code ≡ x ∷ count ∷ (argument_codes term ++ rest)
    pub text : new ≡ old ++ stem_text name term

  pub begun-first : (code rest old new : List ℕ) (x count : ℕ) → code ≡ x ∷ count ∷ rest → new ≡ old ++ name x → IsBegun code rest old new x count 0
  begun-first code rest old new x count p q = record { term = component x; heads = refl; many = refl; begins = p; text = q }

  -- what stands between what was written so far and the next argument
  opened : (f : Applicative) (place : ℕ) → argument_count f ≡ place → stem_text name f ++ mark_before place ≡ open_text name f
  opened (component x) zero p = refl
  opened (component x) (suc k) p = absurd (omega (arith, p))
  opened (apply f a) zero p = absurd (omega (arith, p))
  opened (apply f a) (suc k) p =
      ap (λ (b : Bool). (open_text name f ++ text_of name a) ++ (if b then codes "(" else codes ", ")) (some-place k)

  pub begun-next : (code rest old new marked after last : List ℕ) (x count place : ℕ) → IsBegun code rest old new x count place → marked ≡ new ++ mark_before place → IsWritten name rest after marked last → IsBegun code after old last x count (place + 1)
  begun-next code rest old new marked after last x count place b m w =
      let f = b.term in
      let e = w.term in
      record {
        term = apply f e;
        heads = b.heads;
        many = omega (arith, b.many);
        begins = b.begins ∙ ap (λ (v : List ℕ). x ∷ count ∷ (argument_codes f ++ v)) w.begins ∙ ap (λ (v : List ℕ). x ∷ count ∷ v) (sym (append_assoc (argument_codes f) (code_of e) after));
        text = w.text
            ∙ ap (λ (v : List ℕ). v ++ text_of name e) (m ∙ ap (λ (v : List ℕ). v ++ mark_before place) b.text ∙ append_assoc old (stem_text name f) (mark_before place) ∙ ap (λ (v : List ℕ). old ++ v) (opened f place b.many))
            ∙ append_assoc old (open_text name f) (text_of name e);
      }

  closed : (f : Applicative) (count : ℕ) → argument_count f ≡ count → stem_text name f ++ mark_behind count ≡ text_of name f
  closed (component x) zero p = append-nil (name x)
  closed (component x) (suc k) p = absurd (omega (arith, p))
  closed (apply f a) zero p = absurd (omega (arith, p))
  closed (apply f a) (suc k) p =
      ap (λ (b : Bool). (open_text name f ++ text_of name a) ++ (if b then [] else codes ")")) (some-place k)

  pub begun-last : (code rest old new last : List ℕ) (x count place : ℕ) → place ≡ count → IsBegun code rest old new x count place → last ≡ new ++ mark_behind count → IsWritten name code rest old last
  begun-last code rest old new last x count place s b m =
      let f = b.term in
      record {
        term = f;
        begins = b.begins ∙ (λ i. sym b.heads i ∷ (sym s ∙ sym b.many) i ∷ (argument_codes f ++ rest));
        text = m ∙ ap (λ (v : List ℕ). v ++ mark_behind count) b.text ∙ append_assoc old (stem_text name f) (mark_behind count) ∙ ap (λ (v : List ℕ). old ++ v) (closed f count (b.many ∙ s));
      }
