-- A type that is printed is read back.
use Rattle.std.proofs.Common.{◌≡◌, ℕ, suc, zero, ◌+◌, ◌<◌, Bool, true, false, cond, not, List, [], ◌∷◌, ◌++◌, refl, ap, sym, ◌∙◌, subst, length, get_or, arith}
use Rattle.std.specs.Prelude.{Result, Ok}
use Rattle.std.specs.List.{position_or_len, IsDistinct, AllByRecursion}
use Rattle.std.specs.Str.{bytes_eq}
use Rattle.std.proofs.lemmas.Slice.Eq.{bytes_eq-Decides}
use Rattle.std.proofs.lemmas.Bool.{false_from_ne_true, true≢false}
use Rattle.std.proofs.lemmas.List.Folds.{list_any_at}
use Rattle.cls_base.specs.Types as types
use Rattle.cls_base.specs.Types.{ClosedType, nodes, depth}
use Rattle.cls_lexer.specs.Words.{Word, words_of}
use Rattle.cls_syntax.specs.Faults.{Stop}
use Rattle.cls_lexer.specs.Names.{number_of, with_texts}
use Rattle.cls_syntax.specs.Depths.{most_open}
use Rattle.cls_syntax.specs.TypeTexts.{TypeText, type_words}
use Rattle.cls_syntax.specs.TypeReading.{type_front}
use Rattle.cls_syntax.specs.TypeSchemas.{constructors_in}
use Rattle.cls_syntax.specs.ClosedTypes.{HasNoDollar}
use Rattle.cls_syntax.specs.TypePrinting.{name_in, HasNamesBelow, printed}
use Rattle.cls_syntax.specs.RoundTrips.{PrintedTypesAreRead, DepthIsMostOpen}
use Rattle.cls_syntax.proofs.ItemFronts.{type_again}
use Rattle.cls_syntax.proofs.TypeBytes.{bytes_read}
use Rattle.cls_syntax.proofs.PrintedTexts.{texts, printed_is, names_proper, nodes_are, NumbersBack, schema_is, Known, HasKnownNames, words_known, no_dollars, nothing_new, depth_is}

pub same_bytes : (x : List ℕ) → bytes_eq x x ≡ true
same_bytes x = (bytes_eq-Decides x x).1 refl

apart_at : (x : List ℕ) (xs : List (List ℕ)) (n : ℕ) → AllByRecursion (λ y. bytes_eq x y ≡ false) xs → n < length xs → bytes_eq (get_or xs n []) x ≡ false
apart_at x [] n h l = absurd (omega arith)
apart_at x (y ∷ xs) zero h l = false_from_ne_true _ (λ t. let e = (bytes_eq-Decides y x).0 t in true≢false (sym ((bytes_eq-Decides x y).1 (sym e)) ∙ h.0))
apart_at x (y ∷ xs) (suc n) h l = apart_at x xs n h.1 (omega arith)

-- the number of the name of a number
pub number_back : (names : List (List ℕ)) (n : ℕ) → IsDistinct bytes_eq names → n < length names → number_of names (get_or names n []) ≡ n
unfolding IsDistinct
number_back [] n d l = absurd (omega arith)
number_back (x ∷ xs) zero d l = ap (λ (b : Bool). cond (not b) (1 + position_or_len (bytes_eq x) xs) 0) (same_bytes x)
number_back (x ∷ xs) (suc n) d l =
    let more = number_back xs n d.1 (omega arith) in
    ap (λ (b : Bool). cond (not b) (1 + number_of xs (get_or xs n [])) 0) (apart_at x xs n d.0 (omega arith)) ∙ omega (arith, more)

numbers_back : (names : List (List ℕ)) (v : List ℕ → ℕ) (t : ClosedType) → IsDistinct bytes_eq names → HasNamesBelow (length names) t → NumbersBack (name_in names) (number_of names) v t
numbers_back names v types.omega d h = tt
numbers_back names v (types.constructor c s) d h = (number_back names c d h.0, numbers_back names v s d h.1)
numbers_back names v (types.product s t) d h = (numbers_back names v s d h.0, numbers_back names v t d h.1)
numbers_back names v (types.arrow s t) d h = (numbers_back names v s d h.0, numbers_back names v t d h.1)
numbers_back names v (types.meet s t) d h = (numbers_back names v s d h.0, numbers_back names v t d h.1)

names_known : (names : List (List ℕ)) (t : ClosedType) → HasNamesBelow (length names) t → HasKnownNames (name_in names) names t
names_known names types.omega h = tt
names_known names (types.constructor c s) h = (list_any_at (bytes_eq (get_or names c [])) names c [] h.0 (same_bytes (get_or names c [])), names_known names s h.1)
names_known names (types.product s t) h = (names_known names s h.0, names_known names t h.1)
names_known names (types.arrow s t) h = (names_known names s h.0, names_known names t h.1)
names_known names (types.meet s t) h = (names_known names s h.0, names_known names t h.1)

-- no two types have the same words
pub one_type : (t u : TypeText) → type_words t ≡ type_words u → t ≡ u
one_type t u e =
    let a = type_again t [] tt in
    let b = type_again u [] tt in
    let both : Path (Result (TypeText × List Word) Stop) (Ok (t, [])) (Ok (u, [])) = sym a ∙ (ap (λ ws. type_front (ws ++ [])) e ∙ b) in
    let pair : Path (TypeText × List Word) (t, []) (u, []) = cc in
    ap (λ (p : TypeText × List Word). p.0) pair

pub read_back : PrintedTypesAreRead
read_back names t distinct below proper few shallow =
    let name : ℕ → List ℕ = name_in names in
    let text : TypeText = (texts name t).type in
    let said : words_of (printed name 0 t) ≡ type_words text = ap words_of (printed_is name t) ∙ bytes_read text (names_proper name t proper) in
    let are_known : Known name names (type_words text) = words_known name names t (names_known names t below) in
    let count = nodes_are name t in
    let most = ap (most_open 0 0) said ∙ depth_is name t in
    record {
      text = text;
      whole = record { flat = omega (arith, most, shallow); spells = sym said; few = omega (arith, count, few) };
      only = λ other w. one_type other text (w.spells ∙ said);
      closed = subst (λ (ws : List Word). HasNoDollar ws) (sym said) (no_dollars name names (type_words text) are_known);
      spells = λ v. sym (schema_is name (number_of names) v t (numbers_back names v t distinct below));
      known = ap (λ (ws : List Word). with_texts names (constructors_in false ws)) said ∙ nothing_new name names false (type_words text) are_known;
    }

pub depth_open : DepthIsMostOpen
depth_open names t proper =
    let name : ℕ → List ℕ = name_in names in
    let said : words_of (printed name 0 t) ≡ type_words (texts name t).type = ap words_of (printed_is name t) ∙ bytes_read (texts name t).type (names_proper name t proper) in
    sym (ap (most_open 0 0) said ∙ depth_is name t)
