-- The first of the types with bars between them ends in front of the first bar.
use Rattle.std.proofs.Common.{◌≡◌, ℕ, ◌+◌, ◌<◌, Bool, true, false, cond, not, List, [], ◌∷◌, ◌++◌, refl, ap, sym, ◌∙◌, subst, append-nil, append_assoc, length, length-append, take, drop, arith}
use Rattle.std.specs.Prelude.{Option, Some, None, MatchOption, Result, Ok, Err, IsTrue, position, nat_lt, ◌||◌}
use Rattle.std.specs.List.{list_any, position_or_len}
use Rattle.std.proofs.lemmas.List.{take_at, drop_at}
use Rattle.std.proofs.lemmas.List.Folds.{list_any-append}
use Rattle.std.proofs.lemmas.Bool.Decides.{nat_tests}
use Rattle.cls_lexer.specs.declared.token.TokenKind.TheVariants.{To, And, Times, Close, Bar}
use Rattle.cls_lexer.specs.Words.{Word, sign}
use Rattle.cls_syntax.specs.Faults.{Stop}
use Rattle.cls_syntax.specs.TypeTexts.{TypeText, MeetText, ProductText, AtomText, only_meet, arrow, only_product, meet, only_atom, product, named, applied, variable, inside, type_words, meet_words, product_words, atom_words, TypeList, last, more}
use Rattle.cls_syntax.specs.TypeTexts as grammar
use Rattle.cls_syntax.specs.TypeReading.{type_front}
use Rattle.cls_syntax.specs.TypeLists.{is_the_sign, types_words, types_front}
use Rattle.cls_syntax.specs.Spans.{is_whole, read_or, omega_text, type_in, types_in}
use Rattle.cls_syntax.proofs.ItemFronts.{type_again, types_ok, types_again}

abbrev is_bar : Word → Bool
is_bar = is_the_sign Bar

-- words without a bar, with another word between them
joined : (ws vs : List Word) (w : Word) → list_any is_bar ws ≡ false → is_bar w ≡ false → list_any is_bar vs ≡ false → list_any is_bar (ws ++ w ∷ vs) ≡ false
joined ws vs w f g h = list_any-append is_bar ws (w ∷ vs) ∙ (λ i. f i || (g i || h i))

-- no type has a bar in it
mutual
  type_free : (t : TypeText) → list_any is_bar (type_words t) ≡ false
  type_free (only_meet m) = meet_free m
  type_free (arrow m t) = joined (meet_words m) (type_words t) (sign To) (meet_free m) refl (type_free t)

  meet_free : (m : MeetText) → list_any is_bar (meet_words m) ≡ false
  meet_free (only_product p) = product_free p
  meet_free (meet m p) = joined (meet_words m) (product_words p) (sign And) (meet_free m) refl (product_free p)

  product_free : (p : ProductText) → list_any is_bar (product_words p) ≡ false
  product_free (only_atom a) = atom_free a
  product_free (product p a) = joined (product_words p) (atom_words a) (sign Times) (product_free p) refl (atom_free a)

  atom_free : (a : AtomText) → list_any is_bar (atom_words a) ≡ false
  atom_free grammar.omega = refl
  atom_free (named x) = refl
  atom_free (applied x t) = joined (type_words t) [] (sign Close) (type_free t) refl refl
  atom_free (variable x) = refl
  atom_free (inside t) = joined (type_words t) [] (sign Close) (type_free t) refl refl

-- behind words without a bar it is sought on
past_free : (ws vs : List Word) → list_any is_bar ws ≡ false → position_or_len is_bar (ws ++ vs) ≡ length ws + position_or_len is_bar vs
past_free [] vs h = omega (arith)
past_free (w ∷ ws) vs h =
    (elim (is_bar w) as (λ b. (b || list_any is_bar ws) ≡ false → cond (not b) (1 + position_or_len is_bar (ws ++ vs)) 0 ≡ length (w ∷ ws) + position_or_len is_bar vs)
    [ true ↦ λ k. cc | false ↦ λ k. let e = past_free ws vs k in omega (arith, e) ]) h

-- what is whole is the words of what was read
list_of : (ws : List Word) (r : Result (TypeList × List Word) Stop) → types_front Bar ws ≡ r → IsTrue (is_whole r) → ws ≡ types_words Bar (read_or (last omega_text) r)
list_of ws (Ok (ts, [])) is h = (types_ok Bar refl ws [] ts is).0 ∙ append-nil (types_words Bar ts)
list_of ws (Ok (ts, w ∷ vs)) is h = cc
list_of ws (Err s) is h = cc

pub list_words : (ws : List Word) → IsTrue (is_whole (types_front Bar ws)) → ws ≡ types_words Bar (types_in Bar ws)
list_words ws h = list_of ws (types_front Bar ws) refl h

-- the words of a list are the whole of it
pub words_list : (ws : List Word) (ts : TypeList) → ws ≡ types_words Bar ts → types_front Bar ws ≡ Ok (ts, [])
words_list ws ts is = ap (types_front Bar) (is ∙ sym (append-nil (types_words Bar ts))) ∙ types_again Bar refl ts [] tt

words_type : (ws : List Word) (t : TypeText) → ws ≡ type_words t → type_front ws ≡ Ok (t, [])
words_type ws t is = ap type_front (is ∙ sym (append-nil (type_words t))) ∙ type_again t [] tt

-- there is one type alone
pub record IsLast (ws : List Word) : Type 0 where
  pub whole : IsTrue (is_whole (type_front ws))
  pub list : types_in Bar ws ≡ last (type_in ws)

-- a type ends at this place, and behind the bar there stand others
pub record IsFirst (ws : List Word) (place : ℕ) : Type 0 where
  pub whole : IsTrue (is_whole (type_front (take place ws)))
  pub others : IsTrue (is_whole (types_front Bar (drop (place + 1) ws)))
  pub list : types_in Bar ws ≡ more (type_in (take place ws)) (types_in Bar (drop (place + 1) ws))

-- the place of the first bar, where there is one
found : (ws : List Word) (n : ℕ) → position_or_len is_bar ws ≡ n → n < length ws → position is_bar ws ≡ Some n
found ws n e h = ap (λ m. cond (nat_lt m (length ws)) (Some m) None) e ∙ ap (λ b. cond b (Some n) None) (let t : nat_lt n (length ws) ≡ true = grind (arith, nat_tests) in t)

none_found : (ws : List Word) → position_or_len is_bar ws ≡ length ws → position is_bar ws ≡ None
none_found ws e = ap (λ b. cond b (Some (position_or_len is_bar ws)) None) (let t : nat_lt (position_or_len is_bar ws) (length ws) ≡ false = grind (arith, nat_tests) in t)

-- the first bar of words that are the whole of a list of types
pub first_bar : (ws : List Word) → IsTrue (is_whole (types_front Bar ws)) → MatchOption (position is_bar ws) (IsLast ws) (IsFirst ws)
first_bar ws h = by_list ws (types_in Bar ws) (list_words ws h) refl where
  by_list : (ws : List Word) (ts : TypeList) → ws ≡ types_words Bar ts → types_in Bar ws ≡ ts → MatchOption (position is_bar ws) (IsLast ws) (IsFirst ws)
  by_list ws (last t) is list =
      let free = past_free (type_words t) [] (type_free t) in
      let place : position_or_len is_bar ws ≡ length ws = ap (position_or_len is_bar) (is ∙ sym (append-nil (type_words t))) ∙ (free ∙ (let l = ap length is in omega (arith, l))) in
      let read = words_type ws t is in
      subst (λ (o : Option ℕ). MatchOption o (IsLast ws) (IsFirst ws)) (sym (none_found ws place))
      (record { whole = ap is_whole read; list = list ∙ ap last (sym (ap (read_or omega_text) read)) })
  by_list ws (more t us) is list =
      let n = length (type_words t) in
      let rest = types_words Bar us in
      let place : position_or_len is_bar ws ≡ n = ap (position_or_len is_bar) is ∙ (past_free (type_words t) (sign Bar ∷ rest) (type_free t) ∙ omega (arith)) in
      let within : n < length ws = let l = ap length is ∙ length-append (type_words t) (sign Bar ∷ rest) in omega (arith, l) in
      let front : take n ws ≡ type_words t = ap (take n) is ∙ take_at (type_words t) (sign Bar ∷ rest) n refl in
      let behind : drop (n + 1) ws ≡ rest = ap (drop (n + 1)) (is ∙ sym (append_assoc (type_words t) (sign Bar ∷ []) rest)) ∙ drop_at (type_words t ++ sign Bar ∷ []) rest (n + 1) (length-append (type_words t) (sign Bar ∷ [])) in
      let read = words_type (take n ws) t front in
      let others = words_list (drop (n + 1) ws) us behind in
      subst (λ (o : Option ℕ). MatchOption o (IsLast ws) (IsFirst ws)) (sym (found ws n place within))
      (record {
        whole = ap is_whole read;
        others = ap is_whole others;
        list = list ∙ (λ i. more (sym (ap (read_or omega_text) read) i) (sym (ap (read_or (last omega_text)) others) i));
      })
