-- Words of one sort up to the end of a line.
use Rattle.std.proofs.Common.{◌≡◌, ℕ, Bool, true, false, List, [], ◌∷◌, ◌++◌, map, refl, ap, sym, ◌∙◌, subst}
use Rattle.std.specs.Prelude.{Option, Some, None, Result, Ok, Err, if◌then◌else◌}
use Rattle.cls_lexer.specs.Words as word
use Rattle.cls_lexer.specs.Words.{Word, name, number, sign}
use Rattle.cls_syntax.specs.declared.role.Role.{Role}
use Rattle.cls_syntax.specs.Roles.{is_set_aside, may_stand, MayStand, takes_names}
use Rattle.cls_syntax.specs.Faults.{Stop, stop, CanGoOn}
use Rattle.cls_syntax.specs.LineReading.{name_text, number_text, in_front, taken, all_read}
use Rattle.cls_syntax.proofs.FrontFaults.{FrontFault}
use Rattle.cls_syntax.proofs.MachineRuns.{stop_parts}
use Rattle.cls_syntax.proofs.ItemFronts.{stands_by, not_taken}

-- each text may stand
abbrev pub AllMay : (List ℕ → Type 0) → List (List ℕ) → Type 0
AllMay P [] = Unit {0}
AllMay P (x ∷ xs) = P x × AllMay P xs

in_front_ok : (x : List ℕ) (r : Result (List (List ℕ)) Stop) (xs : List (List ℕ)) → in_front x r ≡ Ok xs → (ys : List (List ℕ)) × (r ≡ Ok ys) × (x ∷ ys ≡ xs)
in_front_ok x (Ok ys) xs h = (ys, refl, cc)
in_front_ok x (Err e) xs h = cc

in_front_err : (x : List ℕ) (r : Result (List (List ℕ)) Stop) (e : Stop) → in_front x r ≡ Err e → r ≡ Err e
in_front_err x (Ok ys) e h = cc
in_front_err x (Err d) e h = (let same : d ≡ e = cc in ap (λ y. Err y) same)

-- a sort of words: what one says, and the word of what may be said
pub record IsSort (take : Word → Option (List ℕ)) (wants : Bool) (text_word : List ℕ → Word) (P : List ℕ → Type 0) : Type 0 where
  pub of_text : (x : List ℕ) → P x → take (text_word x) ≡ Some x
  pub of_word : (w : Word) (x : List ℕ) → take w ≡ Some x → (text_word x ≡ w) × P x
  pub named : wants ≡ true → (x : List ℕ) → is_set_aside x ≡ false → (y : List ℕ) × (take (name x) ≡ Some y)
  pub unnamed : wants ≡ false → (x : List ℕ) × (is_set_aside x ≡ false) × (take (name x) ≡ None)

module _ (take : Word → Option (List ℕ)) (wants : Bool) (text_word : List ℕ → Word) (P : List ℕ → Type 0) (sort : IsSort take wants text_word P) where
  abbrev read : List Word → Result (List (List ℕ)) Stop
  read ws = all_read take wants ws

  abbrev texts_words : List (List ℕ) → List Word
  texts_words xs = map text_word xs

  abbrev Texts : List (List ℕ) → Type 0
  Texts xs = AllMay P xs

  pub all_again : (xs : List (List ℕ)) → Texts xs → read (texts_words xs) ≡ Ok xs
  all_again [] p = refl
  all_again (x ∷ xs) p =
      ap (λ (o : Option (List ℕ)). taken wants (texts_words (x ∷ xs)) o (read (texts_words xs))) (sort.of_text x p.0)
      ∙ ap (λ (r : Result (List (List ℕ)) Stop). in_front x r) (all_again xs p.1)

  pub all_ok : (ws : List Word) (xs : List (List ℕ)) → read ws ≡ Ok xs → (texts_words xs ≡ ws) × Texts xs
  all_ok [] xs h = let e : [] ≡ xs = cc in subst (λ (ys : List (List ℕ)). (texts_words ys ≡ []) × Texts ys) e (refl, tt)
  all_ok (w ∷ ws) xs h =
      (elim (take w) as (λ o. take w ≡ o → taken wants (w ∷ ws) o (read ws) ≡ Ok xs → (texts_words xs ≡ w ∷ ws) × Texts xs) [
        | None ↦ λ e k. cc
        | Some x ↦ λ e k.
            let first = sort.of_word w x e in
            let r = in_front_ok x (read ws) xs k in
            let rest = all_ok ws r.0 r.1 in
            subst (λ (ys : List (List ℕ)). (texts_words ys ≡ w ∷ ws) × Texts ys) r.2 ((λ i. first.0 i ∷ rest.0 i), (first.1, rest.1))
      ]) refl h

  goes_with : (x : List ℕ) (w : Word) (front : List Word) → take w ≡ Some x → CanGoOn texts_words Texts front → CanGoOn texts_words Texts (w ∷ front)
  goes_with x w front e go =
      let first = sort.of_word w x e in
      record { line = x ∷ go.line; stands = (first.1, go.stands); more = go.more; begins = λ i. first.0 i ∷ go.begins i }

  none_yet : CanGoOn texts_words Texts []
  none_yet = record { line = []; stands = tt; more = []; begins = refl }

  -- the first word is refused
  here : (w : Word) (ws rest : List Word) (b : Bool) → take w ≡ None → Path (Result (List (List ℕ)) Stop) (Err (stop (w ∷ ws) wants)) (Err (stop rest b)) → FrontFault read texts_words Texts (w ∷ ws) rest b
  here w ws rest b e h =
      let parts = stop_parts {B = List (List ℕ)} (w ∷ ws) rest wants b h in
      let same : wants ≡ b = parts.1 in
      record {
        front = [];
        split = parts.0;
        live = none_yet;
        always = λ v vs us is.
            let first : w ≡ v = (let both : w ∷ ws ≡ v ∷ vs = parts.0 ∙ is in cc) in
            ap (λ (o : Option (List ℕ)). taken wants (v ∷ us) o (read us)) (ap take (sym first) ∙ e) ∙ ap (λ c. Err (stop (v ∷ us) c)) same;
        named = λ want x plain. let r = sort.named (same ∙ want) x plain in goes_with r.0 (name x) [] r.1 none_yet;
        unnamed = λ not_wanted.
            let r = sort.unnamed (same ∙ not_wanted) in
            record {
              text = r.0;
              plain = r.1;
              always = λ us. ap (λ (o : Option (List ℕ)). taken wants (name r.0 ∷ us) o (read us)) r.2 ∙ ap (λ c. Err (stop (name r.0 ∷ us) c)) same;
            };
      }

  -- a later word is refused
  later : (x : List ℕ) (w : Word) (ws rest : List Word) (b : Bool) → take w ≡ Some x → FrontFault read texts_words Texts ws rest b → FrontFault read texts_words Texts (w ∷ ws) rest b
  later x w ws rest b e f =
      let on : (us : List Word) (d : Stop) → read us ≡ Err d → read (w ∷ us) ≡ Err d = λ us d h.
      ap (λ (o : Option (List ℕ)). taken wants (w ∷ us) o (read us)) e ∙ ap (λ (r : Result (List (List ℕ)) Stop). in_front x r) h in
      record {
        front = w ∷ f.front;
        split = ap (λ (vs : List Word). w ∷ vs) f.split;
        live = goes_with x w f.front e f.live;
        always = λ v vs us is. on (f.front ++ v ∷ us) (stop (v ∷ us) b) (f.always v vs us is);
        named = λ want y plain. goes_with x w (f.front ++ name y ∷ []) e (f.named want y plain);
        unnamed = λ not_wanted. let u = f.unnamed not_wanted in record { text = u.text; plain = u.plain; always = λ us. on (f.front ++ name u.text ∷ us) (stop (name u.text ∷ us) b) (u.always us) };
      }

  pub all_err : (ws rest : List Word) (b : Bool) → read ws ≡ Err (stop rest b) → FrontFault read texts_words Texts ws rest b
  all_err [] rest b h = cc
  all_err (w ∷ ws) rest b h =
      (elim (take w) as (λ o. take w ≡ o → taken wants (w ∷ ws) o (read ws) ≡ Err (stop rest b) → FrontFault read texts_words Texts (w ∷ ws) rest b) [
        | None ↦ λ e k. here w ws rest b e k
        | Some x ↦ λ e k. later x w ws rest b e (all_err ws rest b (in_front_err x (read ws) (stop rest b) k))
      ]) refl h

name_of_text : (r : Role) (x : List ℕ) → MayStand r x → name_text r (name x) ≡ Some x
name_of_text r x p = ap (λ (b : Bool). if b then Some x else None) p

named_at : (r : Role) (y x : List ℕ) (b : Bool) → may_stand r y ≡ b → Path (Option (List ℕ)) (if b then Some y else None) (Some x) → (name x ≡ name y) × MayStand r x
named_at r y x true t h = let same : y ≡ x = cc in (ap name (sym same), subst (MayStand r) same t)
named_at r y x false t h = cc

name_of_word : (r : Role) (w : Word) (x : List ℕ) → name_text r w ≡ Some x → (name x ≡ w) × MayStand r x
name_of_word r word.omega x h = cc
name_of_word r (name y) x h = named_at r y x (may_stand r y) refl h
name_of_word r (number n) x h = cc
name_of_word r (sign k) x h = cc

pub names_sort : (r : Role) → IsSort (name_text r) (takes_names r) name (MayStand r)
names_sort r = record {
  of_text = name_of_text r;
  of_word = name_of_word r;
  named = λ want x plain. (x, name_of_text r x (stands_by r x want plain));
  unnamed = λ not_wanted. ([], refl, ap (λ (b : Bool). if b then Some [] else None) (not_taken r not_wanted));
}

number_of_word : (w : Word) (x : List ℕ) → number_text w ≡ Some x → (number x ≡ w) × Unit {0}
number_of_word word.omega x h = cc
number_of_word (name y) x h = cc
number_of_word (number n) x h = (let same : n ≡ x = cc in ap number (sym same), tt)
number_of_word (sign k) x h = cc

pub numbers_sort : IsSort number_text false number (λ d. Unit {0})
numbers_sort = record {
  of_text = λ x p. refl;
  of_word = number_of_word;
  named = λ want. cc;
  unnamed = λ not_wanted. ([], refl, refl);
}
