-- The first of the types that tokens spell ends in front of the first bar, and the others stand behind it.
use Rattle.std.proofs.Common.{◌≡◌, ℕ, ◌+◌, ◌-◌, ◌<◌, Bool, true, false, List, refl, sym, ◌∙◌, subst, take, drop, take-append-drop, length, arith}
use Rattle.std.specs.Prelude.{Option, Some, None, MatchOption, IsTrue, position, if◌then◌else◌}
use Rattle.std.specs.Str.{bytes_eq}
use Rattle.std.proofs.lemmas.List.{take-map, drop-map, length-drop, take_all}
use Rattle.cls_lexer.specs.declared.token.TokenKind.{TokenKind}
use Rattle.cls_lexer.specs.declared.token.TokenKind.TheVariants.{Name, Bar}
use Rattle.cls_lexer.specs.declared.token.Token.{Token}
use Rattle.cls_lexer.specs.Words as word
use Rattle.cls_lexer.specs.Words.{Word, name, word_from, word_of, words, reserved_name}
use Rattle.cls_lexer.proofs.TextTables.{position-map}
use Rattle.cls_syntax.specs.ClosedTypes.{HasNoDollar}
use Rattle.cls_syntax.specs.Spans.{is_whole, type_in, types_in}
use Rattle.cls_syntax.specs.TypeLists.{is_the_sign, types_front}
use Rattle.cls_syntax.specs.TypeReading.{type_front}
use Rattle.cls_syntax.specs.TypeTexts.{more}
use Rattle.cls_syntax.proofs.FirstBars.{IsLast, IsFirst, first_bar}
use Rattle.cls_syntax.specs.FirstTypes.{IsRest}
use Rattle.cls_syntax.proofs.ClosedLists.{front_left, front_right}

no_name_bar : (b : Bool) (x : List ℕ) → is_the_sign Bar (if b then word.omega else name x) ≡ false
no_name_bar true x = refl
no_name_bar false x = refl

abbrev kind_bar : TokenKind → Bool
kind_bar Bar = true
kind_bar _ = false

-- only the kind `Bar` is a bar
pub bar_kind : (kind : TokenKind) (x : List ℕ) → is_the_sign Bar (word_from kind x) ≡ kind_bar kind
bar_kind Name x = no_name_bar (bytes_eq x reserved_name) x
bar_kind _ x = refl

-- a part of tokens without a `$` has none
pub closed_front : (n : ℕ) (tokens : List Token) → HasNoDollar (words tokens) → HasNoDollar (words (take n tokens))
closed_front n tokens h =
    let ws = words tokens in
    subst HasNoDollar (take-map word_of n tokens) (front_left (take n ws) (drop n ws) (subst HasNoDollar (sym (take-append-drop n ws)) h))

closed_behind : (n : ℕ) (tokens : List Token) → HasNoDollar (words tokens) → HasNoDollar (words (drop n tokens))
closed_behind n tokens h =
    let ws = words tokens in
    subst HasNoDollar (drop-map word_of n tokens) (front_right (take n ws) (drop n ws) (subst HasNoDollar (sym (take-append-drop n ws)) h))

abbrev bar_place : List Token → Option ℕ
bar_place tokens = position (λ token. is_the_sign Bar (word_of token)) tokens

module _ (tokens : List Token) (whole : IsTrue (is_whole (types_front Bar (words tokens)))) where
  split : (o : Option ℕ) → o ≡ bar_place tokens → MatchOption o (IsLast (words tokens)) (IsFirst (words tokens))
  split o is = subst (λ (p : Option ℕ). MatchOption p (IsLast (words tokens)) (IsFirst (words tokens))) (position-map word_of (is_the_sign Bar) tokens ∙ sym is) (first_bar (words tokens) whole)

  -- without a bar there is one type alone
  pub one_type : None ≡ bar_place tokens → IsLast (words tokens)
  one_type is = split None is

  module _ (place : ℕ) (is : Some place ≡ bar_place tokens) where
    -- in front of the bar there is a type
    pub front_whole : IsTrue (is_whole (type_front (words (take place tokens))))
    front_whole = subst (λ (ws : List Word). IsTrue (is_whole (type_front ws))) (take-map word_of place tokens) (split (Some place) is).whole

    behind_bar : place < length tokens → HasNoDollar (words tokens) → IsRest tokens (type_in (words (take place tokens))) (drop (place + 1) tokens)
    behind_bar within closed =
        let s = split (Some place) is in
        let front = take-map word_of place tokens in
        let behind = drop-map word_of (place + 1) tokens in
        record {
          list = s.list ∙ (λ i. more (type_in (front i)) (types_in Bar (behind i)));
          whole = subst (λ (ws : List Word). IsTrue (is_whole (types_front Bar ws))) behind s.others;
          closed = closed_behind (place + 1) tokens closed;
          fewer = let l = length-drop (place + 1) tokens in omega (arith, l, within);
        }

    -- behind the bar there are the others
    pub others_left : place < length tokens → HasNoDollar (words tokens) → IsRest tokens (type_in (words (take place tokens))) (take (length tokens - (place + 1)) (drop (place + 1) tokens))
    others_left within closed =
        let l = length-drop (place + 1) tokens in
        let all = take_all (length tokens - (place + 1)) (drop (place + 1) tokens) (omega (arith, l)) in
        subst (IsRest tokens (type_in (words (take place tokens)))) (sym all) (behind_bar within closed)
