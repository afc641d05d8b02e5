-- Bytes that are printed: none is a line feed or a carriage return, and all are ASCII.
use Rattle.std.proofs.Common.{◌≡◌, ℕ, suc, zero, ◌<◌, ◌≤◌, ◌==◌, Bool, true, false, List, [], ◌∷◌, ◌++◌, refl, ap, get_or, arith}
use Rattle.std.specs.List.{list_all, AllByRecursion}
use Rattle.std.specs.Prelude.{IsUtf8}
use Rattle.std.proofs.lemmas.Bool.{and_parts}
use Rattle.std.proofs.lemmas.Str.{IsUtf8-from_ascii}
use Rattle.cls_lexer.specs.Characters.{is_digit, is_name_start, is_name_byte}
use Rattle.cls_lexer.specs.Lines.{without_return, HasNoFeed}
use Rattle.cls_syntax.specs.RoundTrips.{IsProperName}
use Rattle.cls_syntax.specs.TypeTexts.{TypeText, MeetText, ProductText, AtomText, only_meet, arrow, only_product, meet, only_atom, product, named, applied, variable, inside}
use Rattle.cls_syntax.specs.TypeTexts as grammar
use Rattle.cls_syntax.proofs.TypeBytes.{type_bytes, meet_bytes, product_bytes, atom_bytes, TypeNames, MeetNames, ProductNames, AtomNames}
use Rattle.cls_proof.proofs.WordCuts.{behind}

-- the byte is a character that is printed
abbrev pub IsPlain : ℕ → Type 0
IsPlain b = (32 ≤ b) × (b < 127)

abbrev pub ArePlain : List ℕ → Type 0
ArePlain bs = AllByRecursion IsPlain bs

pub plain_append : (xs ys : List ℕ) → ArePlain xs → ArePlain ys → ArePlain (xs ++ ys)
plain_append [] ys h k = k
plain_append (x ∷ xs) ys h k = (h.0, plain_append xs ys h.1 k)

plain_start : (b : ℕ) → is_name_start b ≡ true → IsPlain b
plain_start b h = (grind arith, grind arith)

plain_byte : (b : ℕ) → is_name_byte b ≡ true → IsPlain b
plain_byte b h = (grind arith, grind arith)

plain_digit : (b : ℕ) → is_digit b ≡ true → IsPlain b
plain_digit b h = (grind arith, grind arith)

plain_all : (p : ℕ → Bool) → ((b : ℕ) → p b ≡ true → IsPlain b) → (bs : List ℕ) → list_all p bs ≡ true → ArePlain bs
plain_all p f [] h = tt
plain_all p f (b ∷ bs) h = let q = and_parts (p b) (list_all p bs) h in (f b q.0, plain_all p f bs q.1)

pub plain_name : (x : List ℕ) → IsProperName x → ArePlain x
plain_name [] h = absurd h
plain_name (b ∷ bs) h = (plain_start b h.0, plain_all is_name_byte plain_byte bs h.1)

pub plain_digits : (ds : List ℕ) → list_all is_digit ds ≡ true → ArePlain ds
plain_digits ds h = plain_all is_digit plain_digit ds h

one : (b : ℕ) → 32 ≤ b → b < 127 → IsPlain b
one b l m = (l, m)

pub plain_colon : ArePlain (58 ∷ [])
plain_colon = (one 58 (omega arith) (omega arith), tt)

enclosed : (xs : List ℕ) → ArePlain xs → ArePlain (40 ∷ (xs ++ 41 ∷ []))
enclosed xs h = (one 40 (omega arith) (omega arith), plain_append xs (41 ∷ []) h (one 41 (omega arith) (omega arith), tt))

mutual
  pub plain_type : (t : TypeText) → TypeNames t → ArePlain (type_bytes t)
  plain_type (only_meet m) h = plain_meet m h
  plain_type (arrow m t) h = plain_append (meet_bytes m) (32 ∷ 45 ∷ 62 ∷ 32 ∷ type_bytes t) (plain_meet m h.0) (one 32 (omega arith) (omega arith), (one 45 (omega arith) (omega arith), (one 62 (omega arith) (omega arith), (one 32 (omega arith) (omega arith), plain_type t h.1))))

  plain_meet : (m : MeetText) → MeetNames m → ArePlain (meet_bytes m)
  plain_meet (only_product p) h = plain_product p h
  plain_meet (meet m p) h = plain_append (meet_bytes m) (32 ∷ 38 ∷ 32 ∷ product_bytes p) (plain_meet m h.0) (one 32 (omega arith) (omega arith), (one 38 (omega arith) (omega arith), (one 32 (omega arith) (omega arith), plain_product p h.1)))

  plain_product : (p : ProductText) → ProductNames p → ArePlain (product_bytes p)
  plain_product (only_atom a) h = plain_atom a h
  plain_product (product p a) h = plain_append (product_bytes p) (32 ∷ 42 ∷ 32 ∷ atom_bytes a) (plain_product p h.0) (one 32 (omega arith) (omega arith), (one 42 (omega arith) (omega arith), (one 32 (omega arith) (omega arith), plain_atom a h.1)))

  plain_atom : (a : AtomText) → AtomNames a → ArePlain (atom_bytes a)
  plain_atom grammar.omega h = (one 111 (omega arith) (omega arith), (one 109 (omega arith) (omega arith), (one 101 (omega arith) (omega arith), (one 103 (omega arith) (omega arith), (one 97 (omega arith) (omega arith), tt)))))
  plain_atom (named x) h = plain_name x h
  plain_atom (applied x t) h = plain_append x (40 ∷ (type_bytes t ++ 41 ∷ [])) (plain_name x h.0) (enclosed (type_bytes t) (plain_type t h.1))
  plain_atom (variable x) h = (one 36 (omega arith) (omega arith), plain_name x h)
  plain_atom (inside t) h = enclosed (type_bytes t) (plain_type t h)

pub plain_behind : (ps : List (List ℕ)) → AllByRecursion ArePlain ps → ArePlain (behind ps)
plain_behind [] h = tt
plain_behind (p ∷ ps) h = (one 32 (omega arith) (omega arith), plain_append p (behind ps) h.0 (plain_behind ps h.1))

-- so they are a line
pub plain_feed : (bs : List ℕ) → ArePlain bs → HasNoFeed bs
plain_feed [] h = tt
plain_feed (b ∷ bs) h = ((λ e. let l = h.0.0 in omega arith), plain_feed bs h.1)

pub plain_return : (bs : List ℕ) → ArePlain bs → without_return bs ≡ bs
plain_return [] h = refl
plain_return (b ∷ []) h =
    let l = h.0.0 in
    let no : (b == 13) ≡ false = grind arith in
    rw no refl
plain_return (b ∷ c ∷ bs) h = ap (λ (xs : List ℕ). b ∷ xs) (plain_return (c ∷ bs) h.1)

ascii_at : (bs : List ℕ) (i : ℕ) → ArePlain bs → get_or bs i 0 < 128
ascii_at [] i h = omega arith
ascii_at (b ∷ bs) zero h = let l = h.0.1 in omega arith
ascii_at (b ∷ bs) (suc i) h = ascii_at bs i h.1

pub plain_utf8 : (bs : List ℕ) → ArePlain bs → IsUtf8 bs
plain_utf8 bs h = IsUtf8-from_ascii bs (λ i. ascii_at bs i h)
