-- The words of a line are those of its parts.
use Rattle.std.proofs.Common.{◌≡◌, ℕ, List, [], ◌∷◌, ◌++◌, map, refl, ap, sym, ◌∙◌}
use Rattle.std.specs.Prelude.{Some, None, Ok}
use Rattle.std.proofs.lemmas.List.{map-append}
use Rattle.cls_lexer.specs.declared.token.TokenKind.TheVariants.{To, And, Times, Open, Close, Comma, Bar}
use Rattle.cls_lexer.specs.Words.{Word, name, number, sign}
use Rattle.cls_syntax.specs.declared.role.Role.{Role}
use Rattle.cls_syntax.specs.Roles.{MayStand}
use Rattle.cls_syntax.specs.Faults.{Exactly}
use Rattle.cls_syntax.specs.TypeTexts.{TypeText, MeetText, ProductText, AtomText, only_meet, arrow, only_product, meet, only_atom, product, omega, named, applied, variable, inside, TypeList, last, more, type_words, meet_words, product_words, atom_words}
use Rattle.cls_syntax.specs.TermTexts as term
use Rattle.cls_syntax.specs.TermTexts.{TermText, TermList, term_words, terms_words}
use Rattle.cls_syntax.specs.TypeLists.{types_words}
use Rattle.cls_syntax.specs.Forms.{the_word, the_sign, a_name, a_number, a_type, a_term, Form, nothing, ◌⨾◌, perhaps, names, numbers, types, anything, Values, Part, fixed, naming, numeral, part_word, type_parts, meet_parts, product_parts, atom_parts, term_parts, terms_parts, types_parts, line_parts, line_words, MayAllStand, LineStands}
use Rattle.cls_syntax.specs.GoodForms.{IsGood}
use Rattle.cls_syntax.specs.LineReading.{line_read}
use Rattle.cls_syntax.proofs.WordLists.{AllMay}
use Rattle.cls_syntax.proofs.LineFronts.{form_words, FormStands, line_again, form_exactly}
use Rattle.cls_syntax.proofs.Exactness.{exactly_as}

-- two lists of parts with a word between them
join_words : (ps : List Part) (ws : List Word) (p : Part) (qs : List Part) (vs : List Word) → map part_word ps ≡ ws → map part_word qs ≡ vs → map part_word (ps ++ p ∷ qs) ≡ ws ++ part_word p ∷ vs
join_words ps ws p qs vs a b = map-append part_word ps (p ∷ qs) ∙ (λ i. a i ++ part_word p ∷ b i)

mutual
  pub type_same : (t : TypeText) → map part_word (type_parts t) ≡ type_words t
  type_same (only_meet m) = meet_same m
  type_same (arrow m t) = join_words (meet_parts m) (meet_words m) (fixed (sign To)) (type_parts t) (type_words t) (meet_same m) (type_same t)

  meet_same : (m : MeetText) → map part_word (meet_parts m) ≡ meet_words m
  meet_same (only_product p) = product_same p
  meet_same (meet m p) = join_words (meet_parts m) (meet_words m) (fixed (sign And)) (product_parts p) (product_words p) (meet_same m) (product_same p)

  product_same : (p : ProductText) → map part_word (product_parts p) ≡ product_words p
  product_same (only_atom a) = atom_same a
  product_same (product p a) = join_words (product_parts p) (product_words p) (fixed (sign Times)) (atom_parts a) (atom_words a) (product_same p) (atom_same a)

  atom_same : (a : AtomText) → map part_word (atom_parts a) ≡ atom_words a
  atom_same omega = refl
  atom_same (named x) = refl
  atom_same (applied x t) = ap (λ (ws : List Word). name x ∷ sign Open ∷ ws) (join_words (type_parts t) (type_words t) (fixed (sign Close)) [] [] (type_same t) refl)
  atom_same (variable x) = refl
  atom_same (inside t) = ap (λ (ws : List Word). sign Open ∷ ws) (join_words (type_parts t) (type_words t) (fixed (sign Close)) [] [] (type_same t) refl)

mutual
  pub term_same : (e : TermText) → map part_word (term_parts e) ≡ term_words e
  term_same (term.named x) = refl
  term_same (term.applied x es) = ap (λ (ws : List Word). name x ∷ sign Open ∷ ws) (join_words (terms_parts es) (terms_words es) (fixed (sign Close)) [] [] (terms_same es) refl)

  terms_same : (es : TermList) → map part_word (terms_parts es) ≡ terms_words es
  terms_same (term.last e) = term_same e
  terms_same (term.more e es) = join_words (term_parts e) (term_words e) (fixed (sign Comma)) (terms_parts es) (terms_words es) (term_same e) (terms_same es)

types_same : (ts : TypeList) → map part_word (types_parts ts) ≡ types_words Bar ts
types_same (last t) = type_same t
types_same (more t ts) = join_words (type_parts t) (type_words t) (fixed (sign Bar)) (types_parts ts) (types_words Bar ts) (type_same t) (types_same ts)

-- what stands alone stands together
pub stand_both : (ps qs : List Part) → MayAllStand ps → MayAllStand qs → MayAllStand (ps ++ qs)
stand_both [] qs a b = b
stand_both (fixed w ∷ ps) qs a b = stand_both ps qs a b
stand_both (naming r x ∷ ps) qs a b = (a.0, stand_both ps qs a.1 b)
stand_both (numeral l g d ∷ ps) qs a b = stand_both ps qs a b

stand_later : (ps qs : List Part) → MayAllStand (ps ++ qs) → MayAllStand qs
stand_later [] qs a = a
stand_later (fixed w ∷ ps) qs a = stand_later ps qs a
stand_later (naming r x ∷ ps) qs a = stand_later ps qs a.1
stand_later (numeral l g d ∷ ps) qs a = stand_later ps qs a

mutual
  type_stands : (t : TypeText) → MayAllStand (type_parts t)
  type_stands (only_meet m) = meet_stands m
  type_stands (arrow m t) = stand_both (meet_parts m) (fixed (sign To) ∷ type_parts t) (meet_stands m) (type_stands t)

  meet_stands : (m : MeetText) → MayAllStand (meet_parts m)
  meet_stands (only_product p) = product_stands p
  meet_stands (meet m p) = stand_both (meet_parts m) (fixed (sign And) ∷ product_parts p) (meet_stands m) (product_stands p)

  product_stands : (p : ProductText) → MayAllStand (product_parts p)
  product_stands (only_atom a) = atom_stands a
  product_stands (product p a) = stand_both (product_parts p) (fixed (sign Times) ∷ atom_parts a) (product_stands p) (atom_stands a)

  atom_stands : (a : AtomText) → MayAllStand (atom_parts a)
  atom_stands omega = tt
  atom_stands (named x) = (refl, tt)
  atom_stands (applied x t) = (refl, stand_both (type_parts t) (fixed (sign Close) ∷ []) (type_stands t) tt)
  atom_stands (variable x) = (refl, tt)
  atom_stands (inside t) = stand_both (type_parts t) (fixed (sign Close) ∷ []) (type_stands t) tt

mutual
  term_stands : (e : TermText) → MayAllStand (term_parts e)
  term_stands (term.named x) = (refl, tt)
  term_stands (term.applied x es) = (refl, stand_both (terms_parts es) (fixed (sign Close) ∷ []) (terms_stands es) tt)

  terms_stands : (es : TermList) → MayAllStand (terms_parts es)
  terms_stands (term.last e) = term_stands e
  terms_stands (term.more e es) = stand_both (term_parts e) (fixed (sign Comma) ∷ terms_parts es) (term_stands e) (terms_stands es)

types_stand : (ts : TypeList) → MayAllStand (types_parts ts)
types_stand (last t) = type_stands t
types_stand (more t ts) = stand_both (type_parts t) (fixed (sign Bar) ∷ types_parts ts) (type_stands t) (types_stand ts)

names_same : (r : Role) (xs : List (List ℕ)) → map name xs ≡ map part_word (map (naming r) xs)
names_same r [] = refl
names_same r (x ∷ xs) = ap (λ (ws : List Word). name x ∷ ws) (names_same r xs)

numbers_same : (l g : ℕ) (ds : List (List ℕ)) → map number ds ≡ map part_word (map (numeral l g) ds)
numbers_same l g [] = refl
numbers_same l g (d ∷ ds) = ap (λ (ws : List Word). number d ∷ ws) (numbers_same l g ds)

words_same : (ws : List Word) → ws ≡ map part_word (map fixed ws)
words_same [] = refl
words_same (w ∷ ws) = ap (λ (vs : List Word). w ∷ vs) (words_same ws)

-- one item's parts, and those of the rest
both_same : (ps qs : List Part) (ws vs : List Word) → map part_word ps ≡ ws → vs ≡ map part_word qs → ws ++ vs ≡ map part_word (ps ++ qs)
both_same ps qs ws vs a b = (λ i. sym a i ++ b i) ∙ sym (map-append part_word ps qs)

pub line_same : (f : Form) (v : Values f) → form_words f v ≡ line_words f v
line_same nothing v = refl
line_same (the_word x ⨾ f) v = ap (λ (ws : List Word). name x ∷ ws) (line_same f v)
line_same (the_sign k ⨾ f) v = ap (λ (ws : List Word). sign k ∷ ws) (line_same f v)
line_same (a_name r ⨾ f) v = ap (λ (ws : List Word). name v.0 ∷ ws) (line_same f v.1)
line_same (a_number l g ⨾ f) v = ap (λ (ws : List Word). number v.0 ∷ ws) (line_same f v.1)
line_same (a_type ⨾ f) v = both_same (type_parts v.0) (line_parts f v.1) (type_words v.0) (form_words f v.1) (type_same v.0) (line_same f v.1)
line_same (a_term ⨾ f) v = both_same (term_parts v.0) (line_parts f v.1) (term_words v.0) (form_words f v.1) (term_same v.0) (line_same f v.1)
line_same (perhaps f) None = refl
line_same (perhaps f) (Some v) = line_same f v
line_same (names r) xs = names_same r xs
line_same (numbers l g) ds = numbers_same l g ds
line_same types ts = sym (types_same ts)
line_same anything ws = words_same ws

names_stand : (r : Role) (xs : List (List ℕ)) → AllMay (MayStand r) xs → MayAllStand (map (naming r) xs)
names_stand r [] s = tt
names_stand r (x ∷ xs) s = (s.0, names_stand r xs s.1)

names_may : (r : Role) (xs : List (List ℕ)) → MayAllStand (map (naming r) xs) → AllMay (MayStand r) xs
names_may r [] s = tt
names_may r (x ∷ xs) s = (s.0, names_may r xs s.1)

numbers_stand : (l g : ℕ) (ds : List (List ℕ)) → MayAllStand (map (numeral l g) ds)
numbers_stand l g [] = tt
numbers_stand l g (d ∷ ds) = numbers_stand l g ds

numbers_may : (ds : List (List ℕ)) → AllMay (λ d. Unit {0}) ds
numbers_may [] = tt
numbers_may (d ∷ ds) = (tt, numbers_may ds)

words_stand : (ws : List Word) → MayAllStand (map fixed ws)
words_stand [] = tt
words_stand (w ∷ ws) = words_stand ws

pub line_stands : (f : Form) (v : Values f) → FormStands f v → LineStands f v
line_stands nothing v s = tt
line_stands (the_word x ⨾ f) v s = line_stands f v s.1
line_stands (the_sign k ⨾ f) v s = line_stands f v s.1
line_stands (a_name r ⨾ f) v s = (s.0, line_stands f v.1 s.1)
line_stands (a_number l g ⨾ f) v s = line_stands f v.1 s.1
line_stands (a_type ⨾ f) v s = stand_both (type_parts v.0) (line_parts f v.1) (type_stands v.0) (line_stands f v.1 s.1)
line_stands (a_term ⨾ f) v s = stand_both (term_parts v.0) (line_parts f v.1) (term_stands v.0) (line_stands f v.1 s.1)
line_stands (perhaps f) None s = tt
line_stands (perhaps f) (Some v) s = line_stands f v s
line_stands (names r) xs s = names_stand r xs s
line_stands (numbers l g) ds s = numbers_stand l g ds
line_stands types ts s = types_stand ts
line_stands anything ws s = words_stand ws

pub form_stands : (f : Form) (v : Values f) → LineStands f v → FormStands f v
form_stands nothing v s = tt
form_stands (the_word x ⨾ f) v s = (tt, form_stands f v s)
form_stands (the_sign k ⨾ f) v s = (tt, form_stands f v s)
form_stands (a_name r ⨾ f) v s = (s.0, form_stands f v.1 s.1)
form_stands (a_number l g ⨾ f) v s = (tt, form_stands f v.1 s)
form_stands (a_type ⨾ f) v s = (tt, form_stands f v.1 (stand_later (type_parts v.0) (line_parts f v.1) s))
form_stands (a_term ⨾ f) v s = (tt, form_stands f v.1 (stand_later (term_parts v.0) (line_parts f v.1) s))
form_stands (perhaps f) None s = tt
form_stands (perhaps f) (Some v) s = form_stands f v s
form_stands (names r) xs s = names_may r xs s
form_stands (numbers l g) ds s = numbers_may ds
form_stands types ts s = tt
form_stands anything ws s = tt

-- exactly the lines of a form are read, and a fault is the first word that can't follow
pub line_exactly : (f : Form) (ws : List Word) → IsGood f → Exactly (line_words f) (LineStands f) ws (line_read f ws)
line_exactly f ws g = exactly_as (form_words f) (line_words f) (FormStands f) (LineStands f) (line_same f) (line_stands f) (form_stands f) ws (line_read f ws) (form_exactly f ws g)

-- each line is read as what it says
pub line_reads : (f : Form) (v : Values f) → IsGood f → LineStands f v → line_read f (line_words f v) ≡ Ok v
line_reads f v g s = ap (line_read f) (sym (line_same f v)) ∙ line_again f v g (form_stands f v s)
