-- Texts that are a term, and texts that aren't.
use Rattle.std.proofs.Common.{Contains, slice_get, suc, zero, ◌≡◌, ℕ, ◌+◌, ◌-◌, ◌≤◌, Bool, true, false, cond, not, List, [], ◌∷◌, refl, ap, sym, ◌∙◌, subst, length, append-nil, arith}
use Rattle.std.specs.Prelude.{Option, Some, None, Ok, Err, ◌&&◌, ◌||◌, if◌then◌else◌, position, is_none, IsNone, IfSome}
use Rattle.std.specs.Str.{bytes_eq}
use Rattle.std.proofs.lemmas.Slice.Eq.{bytes_eq-Decides}
use Rattle.std.proofs.lemmas.Bool.{false_from_ne_true}
use Rattle.std.proofs.lemmas.List.Folds.{list_any_at}
use Rattle.std.proofs.lemmas.Option.{slice_get_within, get_or_from_slice_get}
use Rattle.cls_base.specs.declared.ty.Name.{Name as CodeName}
use Rattle.cls_lexer.specs.declared.token.TokenKind.{TokenKind}
use Rattle.cls_lexer.specs.declared.token.TokenKind.TheVariants.{Name}
use Rattle.std.specs.List.{list_any, position_or_len}
use Rattle.cls_lexer.specs.declared.token.Token.{Token}
use Rattle.cls_lexer.specs.Words as word
use Rattle.cls_lexer.specs.Words.{Word, name, number, sign, word_from, words_of, word_of}
use Rattle.cls_lexer.specs.Words.{words, reserved_name}
use Rattle.cls_lexer.specs.Tokens.{tokens_of}
use Rattle.cls_syntax.specs.Sorts.{begins_reserved, is_name}
use Rattle.cls_syntax.specs.Faults.{stop, Always}
use Rattle.cls_lexer.specs.Tokens.{byte_at}
use Rattle.cls_syntax.specs.TermTexts.{TermText, term_words}
use Rattle.cls_syntax.specs.Forms.{a_term, nothing, ◌⨾◌}
use Rattle.cls_syntax.specs.LineReading.{line_read}
use Rattle.cls_syntax.specs.SyntaxFaults.{IsFlat, LeavesAt}
use Rattle.cls_syntax.proofs.LineFronts.{line_ok}
use Rattle.cls_syntax.proofs.TypeFaults.{item_refused, stops_at}
use Rattle.cls_lexer.proofs.Positions.{position-none}
use Rattle.cls_lexer.proofs.TextTables.{position-map}
use Rattle.cls_term.specs.TokenFaults.{IsWholeTerm, is_unknown, IsBadAt}

module _ (line : List ℕ) (ws : List Word) (said : ws ≡ words_of line) where
  pub term_stop_refused : (rest : List Word) (b : Bool) (count : ℕ) → count ≡ length (tokens_of line) → IsFlat line → line_read (a_term ⨾ nothing) ws ≡ Err (stop rest b) → IsBadAt line (byte_at line (count - length rest))
  term_stop_refused rest b count e flat h =
      let f = item_refused a_term (λ e. tt) (words_of line) rest b (ap (line_read (a_term ⨾ nothing)) (sym said) ∙ h) in
      record {
        flat = flat;
        reserved = b && begins_reserved rest;
        leaves = subst (λ n. LeavesAt term_words Always line (byte_at line (n - length rest)) (b && begins_reserved rest)) (sym e) (stops_at term_words Always line rest b f);
      }

  pub term_whole : (e : TermText) → line_read (a_term ⨾ nothing) ws ≡ Ok (e, tt) → IsFlat line → IsWholeTerm line e
  term_whole e h flat = record { flat = flat; spells = sym (append-nil (term_words e)) ∙ ((line_ok (a_term ⨾ nothing) ws (e, tt) (tt, tt) h).spelled ∙ said) }

module _ (table : List (List ℕ)) where
  none_any : (ws : List Word) → length ws ≤ position_or_len (is_unknown table) ws → list_any (is_unknown table) ws ≡ false
  none_any [] h = refl
  none_any (w ∷ ws) h =
      (elim (is_unknown table w) as (λ b. length (w ∷ ws) ≤ cond (not b) (1 + position_or_len (is_unknown table) ws) 0 → (b || list_any (is_unknown table) ws) ≡ false) [
        | true ↦ λ k. absurd (omega arith)
        | false ↦ λ k. none_any ws (omega arith)
      ]) h

  -- where none was found there is none
  pub all_known : (ws : List Word) → position (is_unknown table) ws ≡ None → list_any (is_unknown table) ws ≡ false
  all_known ws h = none_any ws (position-none (is_unknown table) ws h)

  pub first_place : (ls : List Token) → position (is_unknown table) (words ls) ≡ position (λ l. is_unknown table (word_of l)) ls
  first_place ls = position-map word_of (is_unknown table) ls

-- a name of the code is a name
name_text : (b : Bool) (x : List ℕ) → is_name (if b then word.omega else name x) ≡ true → (if b then word.omega else name x) ≡ name x
name_text true x h = cc
name_text false x h = refl

name_of : (kind : TokenKind) (x : List ℕ) → is_name (word_from kind x) ≡ true → word_from kind x ≡ name x
name_of Name x h = name_text (bytes_eq x reserved_name) x h
name_of _ x h = cc

-- a text that isn't held
absent_any : (table : List (List ℕ)) (x : List ℕ) → (Contains table x → ⊥) → list_any (bytes_eq x) table ≡ false
absent_any [] x h = refl
absent_any (y ∷ ys) x h =
    let here : bytes_eq x y ≡ false = false_from_ne_true _ (λ t. h (zero, omega arith, sym ((bytes_eq-Decides x y).0 t))) in
    let others = absent_any ys x (λ c. h (suc c.0, (let l = c.1 in omega arith), c.2)) in
    rw (here, others) refl

held_any : (table : List (List ℕ)) (x : List ℕ) (n : ℕ) → slice_get table n ≡ Some x → list_any (bytes_eq x) table ≡ true
held_any table x n h = list_any_at (bytes_eq x) table n x (slice_get_within table n x h) ((bytes_eq-Decides x _).1 (sym (get_or_from_slice_get table n x x h)))

pub unknown_is : (table : List (List ℕ)) (l : Token) (o : Option CodeName) → is_name (word_of l) ≡ true → (IsNone o → Contains table l.text.now → ⊥) → IfSome o (λ n. slice_get table n.0 ≡ Some l.text.now) → is_none o ≡ is_unknown table (word_of l)
unknown_is table l None named absent stands = ap not (sym (absent_any table l.text.now (absent refl))) ∙ ap (is_unknown table) (sym (name_of l.kind l.text.now named))
unknown_is table l (Some n) named absent stands = ap not (sym (held_any table l.text.now n.0 stands)) ∙ ap (is_unknown table) (sym (name_of l.kind l.text.now named))

pub no_name_known : (table : List (List ℕ)) (w : Word) → is_name w ≡ false → is_unknown table w ≡ false
no_name_known table word.omega h = refl
no_name_known table (name x) h = cc
no_name_known table (number n) h = refl
no_name_known table (sign kind) h = refl
