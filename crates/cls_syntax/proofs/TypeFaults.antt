-- Texts that are a type, and texts that aren't.
use Rattle.cls_base.specs.Limits.{max_type_nodes}
use Rattle.std.proofs.Common.{◌≡◌, ℕ, ◌-◌, ◌≤◌, Bool, true, false, List, [], ◌∷◌, ◌++◌, refl, ap, sym, ◌∙◌, subst, length, append-nil, length-append, arith}
use Rattle.std.specs.Prelude.{Result, Ok, Err, ◌&&◌, if◌then◌else◌}
use Rattle.std.proofs.lemmas.List.{length-map}
use Rattle.cls_syntax.specs.declared.syntax_fault.SyntaxFault.TheVariants.{Unexpected, ReservedName}
use Rattle.cls_lexer.specs.Words.{Word, name, words_of, said}
use Rattle.cls_lexer.specs.Tokens.{tokens_of}
use Rattle.cls_syntax.specs.Sorts.{begins_reserved}
use Rattle.cls_syntax.specs.Faults.{Stop, stop, Always, CanGoOn, Refuses, IsFault, Exactly}
use Rattle.cls_lexer.specs.Tokens.{byte_at}
use Rattle.cls_syntax.specs.TypeTexts.{TypeText, type_words, type_nodes}
use Rattle.cls_syntax.specs.Forms.{Item, the_word, the_sign, a_name, a_number, a_type, a_term, Form, ◌⨾◌, nothing, Values}
use Rattle.cls_syntax.specs.LineReading.{ItemValue, with_value, line_read}
use Rattle.cls_syntax.specs.SyntaxFaults.{IsFlat, LeavesAt, fault_from, IsWholeType, IsNoType}
use Rattle.cls_syntax.proofs.ItemFronts.{item_words, ItemStands}
use Rattle.cls_syntax.proofs.LineFronts.{head, form_words, FormStands, stands_put, line_ok, form_exactly}

alone_of : (i : Item) (a : ItemValue i) → head i nothing (with_value i nothing a tt) ≡ a
alone_of (the_word x) a = refl
alone_of (the_sign k) a = refl
alone_of (a_name r) a = refl
alone_of (a_number l g) a = refl
alone_of a_type a = refl
alone_of a_term a = refl

-- a line that is one item
module _ (i : Item) where
  abbrev only : Form
  only = i ⨾ nothing

  alone_words : (v : Values only) → form_words only v ≡ item_words i (head i nothing v)
  alone_words v = append-nil (item_words i (head i nothing v))

  alone_put : (a : ItemValue i) → head i nothing (with_value i nothing a tt) ≡ a
  alone_put a = alone_of i a

  item_goes : (front : List Word) → CanGoOn (form_words only) (FormStands only) front → CanGoOn (item_words i) Always front
  item_goes front go = record { line = head i nothing go.line; stands = tt; more = go.more; begins = sym (alone_words go.line) ∙ go.begins }

  line_goes : (all : (a : ItemValue i) → ItemStands i a) (front : List Word) → CanGoOn (item_words i) Always front → CanGoOn (form_words only) (FormStands only) front
  line_goes all front go = record {
    line = with_value i nothing go.line tt;
    stands = stands_put i nothing go.line tt (all go.line) tt;
    more = go.more;
    begins = alone_words (with_value i nothing go.line tt) ∙ (ap (item_words i) (alone_put go.line) ∙ go.begins);
  }

  refuses : (all : (a : ItemValue i) → ItemStands i a) (front rest : List Word) → Refuses (form_words only) (FormStands only) front rest → Refuses (item_words i) Always front rest
  refuses all front [] r = λ a s is. r (with_value i nothing a tt) (stands_put i nothing a tt (all a) tt) (alone_words (with_value i nothing a tt) ∙ (ap (item_words i) (alone_put a) ∙ is))
  refuses all front (w ∷ ws) r = λ go. r (line_goes all (front ++ w ∷ []) go)

  pub item_fault : (all : (a : ItemValue i) → ItemStands i a) (ws rest : List Word) (b : Bool) → IsFault (form_words only) (FormStands only) ws rest b → IsFault (item_words i) Always ws rest b
  item_fault all ws rest b f = record {
    front = f.front;
    split = f.split;
    live = item_goes f.front f.live;
    refused = refuses all f.front rest f.refused;
    named = (λ h x plain. item_goes (f.front ++ name x ∷ []) (f.named.0 h x plain), λ names. f.named.1 (λ x plain. line_goes all (f.front ++ name x ∷ []) (names x plain)));
  }

  pub item_refused : (all : (a : ItemValue i) → ItemStands i a) (ws rest : List Word) (b : Bool) → line_read only ws ≡ Err (stop rest b) → IsFault (item_words i) Always ws rest b
  item_refused all ws rest b h = item_fault all ws rest b (subst (λ (r : Result (Values only) Stop). Exactly (form_words only) (FormStands only) ws r) h (form_exactly only ws (tt, tt)))

-- the words are as many as the tokens
pub many_words : (line : List ℕ) → length (words_of line) ≡ length (tokens_of line)
unfolding words_of
many_words line = length-map (tokens_of line) said

-- a line that stops has its fault there
pub stops_at : {A : Type 0} (words : A → List Word) (Stands : A → Type 0) (line : List ℕ) (rest : List Word) (b : Bool) → IsFault words Stands (words_of line) rest b → LeavesAt words Stands line (byte_at line (length (tokens_of line) - length rest)) (b && begins_reserved rest)
stops_at words Stands line rest b f =
    let split = ap length f.split ∙ length-append f.front rest in
    let many = many_words line in
    let place : length (tokens_of line) - length rest ≡ length f.front = omega (arith, split, many) in
    record { rest = rest; wants_name = b; fault = f; byte_is = ap (byte_at line) place; reserved_is = refl }

module _ (line : List ℕ) (ws : List Word) (said : ws ≡ words_of line) where
  leaves : (b : Bool) (byte : ℕ) → IsFlat line → LeavesAt type_words Always line byte b → IsNoType line (if b then ReservedName byte else Unexpected byte)
  leaves true byte flat l = (flat, l)
  leaves false byte flat l = (flat, l)

  pub type_stop_refused : (rest : List Word) (b : Bool) (count : ℕ) → count ≡ length (tokens_of line) → IsFlat line → line_read (a_type ⨾ nothing) ws ≡ Err (stop rest b) → IsNoType line (fault_from line (count - length rest) (b && begins_reserved rest))
  type_stop_refused rest b count e flat h =
      let f = item_refused a_type (λ t. tt) (words_of line) rest b (ap (line_read (a_type ⨾ nothing)) (sym said) ∙ h) in
      let at = subst (λ n. LeavesAt type_words Always line (byte_at line (n - length rest)) (b && begins_reserved rest)) (sym e) (stops_at type_words Always line rest b f) in
      leaves (b && begins_reserved rest) (byte_at line (count - length rest)) flat at

  pub type_spelled : (t : TypeText) → line_read (a_type ⨾ nothing) ws ≡ Ok (t, tt) → type_words t ≡ words_of line
  type_spelled t h = sym (append-nil (type_words t)) ∙ ((line_ok (a_type ⨾ nothing) ws (t, tt) (tt, tt) h).spelled ∙ said)

  pub type_whole : (t : TypeText) → line_read (a_type ⨾ nothing) ws ≡ Ok (t, tt) → IsFlat line → type_nodes t ≤ max_type_nodes → IsWholeType line t
  type_whole t h flat few = record { flat = flat; spells = type_spelled t h; few = few }

pub ruleset whole_types = (type_whole, type_spelled)
