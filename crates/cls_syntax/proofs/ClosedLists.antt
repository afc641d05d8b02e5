-- Reading the types of a kind, one after another.
use Rattle.std.proofs.Common.{◌≡◌, ℕ, ◌+◌, true, false, List, [], ◌∷◌, ◌++◌, refl, ap, sym, ◌∙◌, subst, append-nil, append_assoc, length}
use Rattle.std.specs.Prelude.{IsTrue, Option, Some, None, MatchOption, ◌||◌}
use Rattle.std.specs.List.{list_any}
use Rattle.cls_base.specs.Types.{ClosedType}
use Rattle.cls_lexer.specs.declared.token.Token.{Token}
use Rattle.cls_lexer.specs.declared.token.TokenKind.TheVariants.{Bar}
use Rattle.cls_lexer.specs.Names.{number_of, with_texts}
use Rattle.cls_lexer.specs.Words.{Word, sign, words}
use Rattle.cls_syntax.specs.ClosedTypes.{Spells, HasNoDollar, AreSpelled}
use Rattle.cls_syntax.specs.Forms.{Part, fixed, naming, numeral, type_parts, types_parts, constructors_named}
use Rattle.cls_syntax.specs.Spans.{is_whole, read_or, omega_text, types_in}
use Rattle.cls_syntax.specs.TypeLists.{types_words, types_front}
use Rattle.cls_syntax.specs.TypeSchemas.{is_dollar, constructors_in}
use Rattle.cls_syntax.specs.TypeTexts.{TypeText, type_words, TypeList, last, more}
use Rattle.cls_syntax.specs.declared.role.Role.TheVariants.{Constructor}
use Rattle.cls_syntax.proofs.FirstBars.{words_list}
use Rattle.cls_syntax.proofs.PartNames.{type_constructors}
use Rattle.cls_syntax.specs.FirstTypes.{FirstType, IsRest}
use Rattle.cls_syntax.proofs.Tables.{Grows, grows_on, grows_all, with_both}
use Rattle.cls_syntax.proofs.TypeMeanings.{spelled_still}

abbrev Is_whole : List Word → Type 0
Is_whole ws = IsTrue (is_whole (types_front Bar ws))

-- the words of a list are the list
pub words_whole : (ws : List Word) (ts : TypeList) → ws ≡ types_words Bar ts → Is_whole ws
words_whole ws ts is = ap is_whole (words_list ws ts is)

pub words_in : (ws : List Word) (ts : TypeList) → ws ≡ types_words Bar ts → types_in Bar ws ≡ ts
words_in ws ts is = ap (read_or (last omega_text)) (words_list ws ts is)

pub front_left : (ws vs : List Word) → list_any is_dollar (ws ++ vs) ≡ false → list_any is_dollar ws ≡ false
front_left [] vs h = refl
front_left (w ∷ ws) vs h = (elim (is_dollar w) as (λ b. (b || list_any is_dollar (ws ++ vs)) ≡ false → (b || list_any is_dollar ws) ≡ false) [ true ↦ λ k. k | false ↦ λ k. front_left ws vs k ]) h

pub front_right : (ws vs : List Word) → list_any is_dollar (ws ++ vs) ≡ false → list_any is_dollar vs ≡ false
front_right [] vs h = h
front_right (w ∷ ws) vs h = (elim (is_dollar w) as (λ b. (b || list_any is_dollar (ws ++ vs)) ≡ false → list_any is_dollar vs ≡ false) [ true ↦ λ k. absurd (cc) | false ↦ λ k. front_right ws vs k ]) h

named_join : (ps qs : List Part) → constructors_named (ps ++ qs) ≡ constructors_named ps ++ constructors_named qs
named_join [] qs = refl
named_join (fixed w ∷ ps) qs = named_join ps qs
named_join (naming Constructor x ∷ ps) qs = ap (λ (xs : List (List ℕ)). x ∷ xs) (named_join ps qs)
named_join (naming _ x ∷ ps) qs = named_join ps qs
named_join (numeral l g d ∷ ps) qs = named_join ps qs

abbrev list_names : TypeList → List (List ℕ)
list_names ts = constructors_named (types_parts ts)

-- the table once the types that are left came
abbrev left_names : List (List ℕ) → Option (List Token) → List (List ℕ)
left_names names None = names
left_names names (Some tokens) = with_texts names (list_names (types_in Bar (words tokens)))

abbrev IsLeft : Option (List Token) → Type 0
IsLeft None = Unit {0}
IsLeft (Some tokens) = Is_whole (words tokens) × HasNoDollar (words tokens)

abbrev LeftSpelled : (List ℕ → ℕ) → Option (List Token) → List ClosedType → Type 0
LeftSpelled number None cs = cs ≡ []
LeftSpelled number (Some tokens) cs = AreSpelled number (types_in Bar (words tokens)) cs

-- some types were read, and the others are left; `final` is the table once all of them came
pub record IsReading (old final : List (List ℕ)) (all : TypeList) (names : List (List ℕ)) (types : List ClosedType) (left : Option (List Token)) : Type 0 where
  pub grown : Grows old names
  pub table : final ≡ left_names names left
  pub good : IsLeft left
  pub spelled : (cs : List ClosedType) → LeftSpelled (number_of final) left cs → AreSpelled (number_of final) all (types ++ cs)

pub begun : (old : List (List ℕ)) (tokens : List Token) → Is_whole (words tokens) → HasNoDollar (words tokens)
    → IsReading old (with_texts old (list_names (types_in Bar (words tokens)))) (types_in Bar (words tokens)) old [] (Some tokens)
begun old tokens whole closed = record { grown = record { more = []; joined = sym (append-nil old) }; table = refl; good = (whole, closed); spelled = λ cs h. h }

module _ (old final : List (List ℕ)) (all : TypeList) (names : List (List ℕ)) (types : List ClosedType) (tokens : List Token) (c : ClosedType) (new : List (List ℕ)) (i : IsReading old final all names types (Some tokens)) where
  abbrev Reads : Option (List Token) → Type 0
  Reads rest = IsReading old final all new (types ++ c ∷ []) rest

  by_rest : (rest : Option (List Token)) (text : TypeText) → Spells (number_of new) text c → new ≡ with_texts names (constructors_in false (type_words text))
      → MatchOption rest (types_in Bar (words tokens) ≡ last text) (IsRest tokens text) → Reads rest
  by_rest None text s e left =
      let named : new ≡ with_texts names (constructors_named (type_parts text)) = e ∙ ap (with_texts names) (sym (type_constructors text)) in
      let done : final ≡ new = i.table ∙ (ap (λ ts. with_texts names (list_names ts)) left ∙ sym named) in
      let spells : Spells (number_of final) text c = subst (λ (ns : List (List ℕ)). Spells (number_of ns) text c) (sym done) s in
      let one : AreSpelled (number_of final) (types_in Bar (words tokens)) (c ∷ []) = subst (λ ts. AreSpelled (number_of final) ts (c ∷ [])) (sym left) (c, spells, refl) in
      record {
        grown = grows_on i.grown (subst (Grows names) (sym named) (grows_all names (constructors_named (type_parts text))));
        table = done;
        good = tt;
        spelled = λ cs h. subst (λ us. AreSpelled (number_of final) all us) (sym (append_assoc types (c ∷ []) cs ∙ ap (λ us. types ++ c ∷ us) h)) (i.spelled (c ∷ []) one);
      }
  by_rest (Some rest) text s e left =
      let us = types_in Bar (words rest) in
      let named : new ≡ with_texts names (constructors_named (type_parts text)) = e ∙ ap (with_texts names) (sym (type_constructors text)) in
      let on : final ≡ with_texts new (list_names us) =
      i.table ∙ (ap (λ ts. with_texts names (list_names ts)) left.list ∙ (ap (with_texts names) (named_join (type_parts text) (fixed (sign Bar) ∷ types_parts us))
      ∙ (with_both names (constructors_named (type_parts text)) (list_names us) ∙ ap (λ ns. with_texts ns (list_names us)) (sym named)))) in
      let later : Grows new final = subst (Grows new) (sym on) (grows_all new (list_names us)) in
      let spells : Spells (number_of final) text c = spelled_still names text c named later s in
      record {
        grown = grows_on i.grown (subst (Grows names) (sym named) (grows_all names (constructors_named (type_parts text))));
        table = on;
        good = (left.whole, left.closed);
        spelled = λ cs h. subst (λ vs. AreSpelled (number_of final) all vs) (sym (append_assoc types (c ∷ []) cs))
            (i.spelled (c ∷ cs) (subst (λ ts. AreSpelled (number_of final) ts (c ∷ cs)) (sym left.list) (c, cs, spells, h, refl)));
      }

  pub read_on : (rest : Option (List Token)) → FirstType tokens names c rest new → Reads rest
  read_on rest f = by_rest rest f.text f.spelled f.table f.left

-- all types were read
pub all_read : {old final : List (List ℕ)} {all : TypeList} {names : List (List ℕ)} {types : List ClosedType} → IsReading old final all names types None → AreSpelled (number_of names) all types × (names ≡ final)
all_read {old} {final} {all} {names} {types} i =
    (subst (λ (ns : List (List ℕ)). AreSpelled (number_of ns) all types) i.table (subst (λ us. AreSpelled (number_of final) all us) (append-nil types) (i.spelled [] refl)), sym i.table)

-- how many tokens are left, and one more
abbrev pub left_count : Option (List Token) → ℕ
left_count None = 0
left_count (Some tokens) = length tokens + 1

-- there is a type
pub spelled_some : (number : List ℕ → ℕ) (ts : TypeList) (types : List ClosedType) → AreSpelled number ts types → types ≡ [] → ⊥
spelled_some number (last t) types s e = let bad : s.0 ∷ [] ≡ [] = sym s.2 ∙ e in absurd (cc)
spelled_some number (more t ts) types s e = let bad : s.0 ∷ s.1 ≡ [] = sym s.4 ∙ e in absurd (cc)
