-- The bytes of texts of types, and their words.
use Rattle.std.proofs.Common.{◌≡◌, ℕ, suc, zero, ◌+◌, ◌-◌, ◌≤◌, Bool, true, false, List, [], ◌∷◌, ◌++◌, refl, ap, sym, ◌∙◌, take, length, map, arith, append_assoc, append-nil}
use Rattle.std.specs.Prelude.{if◌then◌else◌, nat_le}
use Rattle.std.specs.List.{prefix_len, list_all}
use Rattle.std.proofs.lemmas.List.{take_at}
use Rattle.std.proofs.lemmas.Bool.{and_parts}
use Rattle.cls_lexer.specs.declared.token.TokenKind.{TokenKind}
use Rattle.cls_lexer.specs.declared.token.TokenKind.TheVariants as kind
use Rattle.cls_lexer.specs.Characters.{is_blank, is_name_start, is_name_byte}
use Rattle.cls_lexer.specs.Tokens.{token_at, located_at, tokens_from}
use Rattle.cls_lexer.specs.Words as word
use Rattle.cls_lexer.specs.Words.{Word, name, number, sign, word_from, said, words_of, name_word}
use Rattle.cls_syntax.specs.TypeTexts.{TypeText, MeetText, ProductText, AtomText, only_meet, arrow, only_product, meet, only_atom, product, named, applied, variable, inside, type_words, meet_words, product_words, atom_words}
use Rattle.cls_syntax.specs.TypeTexts as grammar
use Rattle.cls_syntax.specs.RoundTrips.{IsProperName}

abbrev mutual
  pub type_bytes : TypeText → List ℕ
  type_bytes (only_meet m) = meet_bytes m
  type_bytes (arrow m t) = meet_bytes m ++ 32 ∷ 45 ∷ 62 ∷ 32 ∷ type_bytes t

  pub meet_bytes : MeetText → List ℕ
  meet_bytes (only_product p) = product_bytes p
  meet_bytes (meet m p) = meet_bytes m ++ 32 ∷ 38 ∷ 32 ∷ product_bytes p

  pub product_bytes : ProductText → List ℕ
  product_bytes (only_atom a) = atom_bytes a
  product_bytes (product p a) = product_bytes p ++ 32 ∷ 42 ∷ 32 ∷ atom_bytes a

  pub atom_bytes : AtomText → List ℕ
  atom_bytes grammar.omega = 111 ∷ 109 ∷ 101 ∷ 103 ∷ 97 ∷ []
  atom_bytes (named x) = x
  atom_bytes (applied x t) = x ++ 40 ∷ (type_bytes t ++ 41 ∷ [])
  atom_bytes (variable x) = 36 ∷ x
  atom_bytes (inside t) = 40 ∷ (type_bytes t ++ 41 ∷ [])

-- each name in the text is proper
abbrev mutual
  pub TypeNames : TypeText → Type 0
  TypeNames (only_meet m) = MeetNames m
  TypeNames (arrow m t) = MeetNames m × TypeNames t

  pub MeetNames : MeetText → Type 0
  MeetNames (only_product p) = ProductNames p
  MeetNames (meet m p) = MeetNames m × ProductNames p

  pub ProductNames : ProductText → Type 0
  ProductNames (only_atom a) = AtomNames a
  ProductNames (product p a) = ProductNames p × AtomNames a

  pub AtomNames : AtomText → Type 0
  AtomNames grammar.omega = Unit {0}
  AtomNames (named x) = IsProperName x
  AtomNames (applied x t) = IsProperName x × TypeNames t
  AtomNames (variable x) = IsProperName x
  AtomNames (inside t) = TypeNames t

-- the words of bytes, where the first `skip` of them belong to the word before
unfoldable pub words_from : (skip : ℕ) → List ℕ → List Word
words_from skip [] = []
words_from (suc n) (b ∷ bs) = words_from n bs
words_from zero (b ∷ bs) =
    if is_blank b then words_from 0 bs
    else word_from (token_at b bs).0 (take (token_at b bs).1 (b ∷ bs)) ∷ words_from ((token_at b bs).1 - 1) bs

same_words : (bs : List ℕ) (at skip : ℕ) → map said (tokens_from at skip bs) ≡ words_from skip bs
unfolding words_from tokens_from
same_words [] at skip = refl
same_words (b ∷ bs) at (suc n) = same_words bs (at + 1) n
same_words (b ∷ bs) at zero =
    let n : ℕ = (token_at b bs).1 in
    let more = same_words bs (at + 1) (n - 1) in
    elim (is_blank b) as (λ v. map said (if v then tokens_from (at + 1) 0 bs else located_at at b bs ∷ tokens_from (at + 1) (n - 1) bs) ≡ (if v then words_from 0 bs else word_from (token_at b bs).0 (take n (b ∷ bs)) ∷ words_from (n - 1) bs)) [
      | true ↦ same_words bs (at + 1) 0
      | false ↦ λ i. word_from (token_at b bs).0 (take n (b ∷ bs)) ∷ more i
    ]

pub words_are : (line : List ℕ) → words_of line ≡ words_from 0 line
unfolding words_of
words_are line = same_words line 0 0

-- no name goes on
abbrev pub Stops : List ℕ → Type 0
Stops [] = Unit {0}
Stops (b ∷ bs) = is_name_byte b ≡ false

at_to : (rest : List ℕ) → words_from 0 (32 ∷ 45 ∷ 62 ∷ 32 ∷ rest) ≡ sign kind.To ∷ words_from 0 rest
unfolding words_from token_at
at_to rest = refl

at_and : (rest : List ℕ) → words_from 0 (32 ∷ 38 ∷ 32 ∷ rest) ≡ sign kind.And ∷ words_from 0 rest
unfolding words_from token_at
at_and rest = refl

at_times : (rest : List ℕ) → words_from 0 (32 ∷ 42 ∷ 32 ∷ rest) ≡ sign kind.Times ∷ words_from 0 rest
unfolding words_from token_at
at_times rest = refl

pub at_open : (rest : List ℕ) → words_from 0 (40 ∷ rest) ≡ sign kind.Open ∷ words_from 0 rest
unfolding words_from token_at
at_open rest = refl

pub at_comma : (rest : List ℕ) → words_from 0 (44 ∷ 32 ∷ rest) ≡ sign kind.Comma ∷ words_from 0 rest
unfolding words_from token_at
at_comma rest = refl

pub at_close : (rest : List ℕ) → words_from 0 (41 ∷ rest) ≡ sign kind.Close ∷ words_from 0 rest
unfolding words_from token_at
at_close rest = refl

at_dollar : (rest : List ℕ) → words_from 0 (36 ∷ rest) ≡ sign kind.Dollar ∷ words_from 0 rest
unfolding words_from token_at
at_dollar rest = refl

run_is : (xs rest : List ℕ) → list_all is_name_byte xs ≡ true → Stops rest → prefix_len is_name_byte (xs ++ rest) ≡ length xs
run_is [] [] a s = refl
run_is [] (b ∷ rest) a s = rw s refl
run_is (x ∷ xs) rest a s =
    let p = and_parts (is_name_byte x) (list_all is_name_byte xs) a in
    let t = p.0 in
    rw (t, run_is xs rest p.1 s) (omega arith)

passed : (xs rest : List ℕ) → words_from (length xs) (xs ++ rest) ≡ words_from 0 rest
unfolding words_from
passed [] rest = refl
passed (x ∷ xs) rest = passed xs rest

no_blank : (b : ℕ) → is_name_start b ≡ true → is_blank b ≡ false
no_blank b h = grind arith

named_token : (b : ℕ) (bs rest : List ℕ) → is_name_start b ≡ true → prefix_len is_name_byte (bs ++ rest) ≡ length bs → nat_le (1 + length bs) 48 ≡ true → Path (TokenKind × ℕ) (token_at b (bs ++ rest)) (kind.Name, 1 + length bs)
unfolding token_at
named_token b bs rest n run fits = rw (n, run, fits) refl

taken : (bs rest : List ℕ) (b : ℕ) → take (1 + length bs) (b ∷ (bs ++ rest)) ≡ b ∷ bs
taken bs rest b = take_at (b ∷ bs) rest (1 + length bs) (omega arith)

at_word : (b : ℕ) (bs rest : List ℕ) → is_name_start b ≡ true → list_all is_name_byte bs ≡ true → 1 + length bs ≤ 48 → Stops rest → words_from 0 (b ∷ (bs ++ rest)) ≡ name_word (b ∷ bs) ∷ words_from 0 rest
unfolding words_from token_at
at_word b bs rest n a l s =
    let run = run_is bs rest a s in
    let fits : nat_le (1 + length bs) 48 ≡ true = grind arith in
    let blank = no_blank b n in
    let token : Path (TokenKind × ℕ) (token_at b (bs ++ rest)) (kind.Name, 1 + length bs) = named_token b bs rest n run fits in
    let skip : 1 + length bs - 1 ≡ length bs = omega arith in
    rw (blank, token, taken bs rest b, skip, passed bs rest) refl

pub at_name : (x rest : List ℕ) → IsProperName x → Stops rest → words_from 0 (x ++ rest) ≡ name x ∷ words_from 0 rest
at_name [] rest n s = absurd n
at_name (b ∷ bs) rest n s = at_word b bs rest n.0 n.1 (omega (arith, n.2)) s ∙ ap (λ (v : Bool). (if v then word.omega else name (b ∷ bs)) ∷ words_from 0 rest) n.3

at_omega : (rest : List ℕ) → Stops rest → words_from 0 (111 ∷ 109 ∷ 101 ∷ 103 ∷ 97 ∷ rest) ≡ word.omega ∷ words_from 0 rest
at_omega rest s = at_word 111 (109 ∷ 101 ∷ 103 ∷ 97 ∷ []) rest refl refl (omega arith) s

enclosed_is : (t : TypeText) (rest : List ℕ) → words_from 0 (type_bytes t ++ 41 ∷ rest) ≡ type_words t ++ words_from 0 (41 ∷ rest) → words_from 0 (40 ∷ ((type_bytes t ++ 41 ∷ []) ++ rest)) ≡ sign kind.Open ∷ ((type_words t ++ sign kind.Close ∷ []) ++ words_from 0 rest)
enclosed_is t rest read =
    at_open ((type_bytes t ++ 41 ∷ []) ++ rest)
    ∙ ap (λ (ws : List Word). sign kind.Open ∷ ws)
    (ap (words_from 0) (append_assoc (type_bytes t) (41 ∷ []) rest)
    ∙ (read
    ∙ (ap (λ (ws : List Word). type_words t ++ ws) (at_close rest) ∙ sym (append_assoc (type_words t) (sign kind.Close ∷ []) (words_from 0 rest)))))

mutual
  type_is : (t : TypeText) (rest : List ℕ) → TypeNames t → Stops rest → words_from 0 (type_bytes t ++ rest) ≡ type_words t ++ words_from 0 rest
  type_is (only_meet m) rest n s = meet_is m rest n s
  type_is (arrow m t) rest n s =
      ap (words_from 0) (append_assoc (meet_bytes m) (32 ∷ 45 ∷ 62 ∷ 32 ∷ type_bytes t) rest)
      ∙ (meet_is m (32 ∷ 45 ∷ 62 ∷ 32 ∷ (type_bytes t ++ rest)) n.0 refl
      ∙ (ap (λ (ws : List Word). meet_words m ++ ws) (at_to (type_bytes t ++ rest) ∙ ap (λ (ws : List Word). sign kind.To ∷ ws) (type_is t rest n.1 s))
      ∙ sym (append_assoc (meet_words m) (sign kind.To ∷ type_words t) (words_from 0 rest))))

  meet_is : (m : MeetText) (rest : List ℕ) → MeetNames m → Stops rest → words_from 0 (meet_bytes m ++ rest) ≡ meet_words m ++ words_from 0 rest
  meet_is (only_product p) rest n s = product_is p rest n s
  meet_is (meet m p) rest n s =
      ap (words_from 0) (append_assoc (meet_bytes m) (32 ∷ 38 ∷ 32 ∷ product_bytes p) rest)
      ∙ (meet_is m (32 ∷ 38 ∷ 32 ∷ (product_bytes p ++ rest)) n.0 refl
      ∙ (ap (λ (ws : List Word). meet_words m ++ ws) (at_and (product_bytes p ++ rest) ∙ ap (λ (ws : List Word). sign kind.And ∷ ws) (product_is p rest n.1 s))
      ∙ sym (append_assoc (meet_words m) (sign kind.And ∷ product_words p) (words_from 0 rest))))

  product_is : (p : ProductText) (rest : List ℕ) → ProductNames p → Stops rest → words_from 0 (product_bytes p ++ rest) ≡ product_words p ++ words_from 0 rest
  product_is (only_atom a) rest n s = atom_is a rest n s
  product_is (product p a) rest n s =
      ap (words_from 0) (append_assoc (product_bytes p) (32 ∷ 42 ∷ 32 ∷ atom_bytes a) rest)
      ∙ (product_is p (32 ∷ 42 ∷ 32 ∷ (atom_bytes a ++ rest)) n.0 refl
      ∙ (ap (λ (ws : List Word). product_words p ++ ws) (at_times (atom_bytes a ++ rest) ∙ ap (λ (ws : List Word). sign kind.Times ∷ ws) (atom_is a rest n.1 s))
      ∙ sym (append_assoc (product_words p) (sign kind.Times ∷ atom_words a) (words_from 0 rest))))

  atom_is : (a : AtomText) (rest : List ℕ) → AtomNames a → Stops rest → words_from 0 (atom_bytes a ++ rest) ≡ atom_words a ++ words_from 0 rest
  atom_is grammar.omega rest n s = at_omega rest s
  atom_is (named x) rest n s = at_name x rest n s
  atom_is (applied x t) rest n s =
      ap (words_from 0) (append_assoc x (40 ∷ (type_bytes t ++ 41 ∷ [])) rest)
      ∙ (at_name x (40 ∷ ((type_bytes t ++ 41 ∷ []) ++ rest)) n.0 refl
      ∙ ap (λ (ws : List Word). name x ∷ ws) (enclosed_is t rest (type_is t (41 ∷ rest) n.1 refl)))
  atom_is (variable x) rest n s = at_dollar (x ++ rest) ∙ ap (λ (ws : List Word). sign kind.Dollar ∷ ws) (at_name x rest n s)
  atom_is (inside t) rest n s = enclosed_is t rest (type_is t (41 ∷ rest) n refl)

pub no_words : words_from 0 [] ≡ []
unfolding words_from
no_words = refl

-- the bytes of a text have its words
pub bytes_read : (t : TypeText) → TypeNames t → words_of (type_bytes t) ≡ type_words t
bytes_read t n =
    words_are (type_bytes t)
    ∙ (ap (words_from 0) (sym (append-nil (type_bytes t))) ∙ (type_is t [] n tt ∙ (ap (λ (ws : List Word). type_words t ++ ws) no_words ∙ append-nil (type_words t))))
