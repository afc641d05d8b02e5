-- One item at the front of a line.
use Rattle.std.proofs.Common.{◌≡◌, ℕ, Bool, true, false, not, List, [], ◌∷◌, ◌++◌, refl, ap, sym, ◌∙◌, subst, length, arith}
use Rattle.std.specs.Prelude.{Option, Some, None, Result, Ok, Err, if◌then◌else◌, ◌==◌, ◌&&◌, ◌||◌, codes}
use Rattle.std.specs.Str.{bytes_eq}
use Rattle.std.proofs.lemmas.Slice.Eq.{bytes_eq-Decides}
use Rattle.std.proofs.lemmas.Bool.{false_from_ne_true}
use Rattle.cls_lexer.specs.declared.token.TokenKind.{TokenKind}
use Rattle.cls_lexer.specs.declared.token.TokenKind.TheVariants.{Comma, Colon, Equals, Bar, AtMost}
use Rattle.cls_lexer.specs.Words as word
use Rattle.cls_lexer.specs.Words.{Word, name, number, sign}
use Rattle.cls_syntax.specs.declared.role.Role.{Role}
use Rattle.cls_syntax.specs.declared.role.Role.TheVariants.{State, StateOrAny, StateOrNone, Variance}
use Rattle.cls_syntax.specs.Roles.{is_none, is_any, is_set_aside, may_stand, MayStand, takes_names}
use Rattle.cls_syntax.specs.Fronts.{first_name, first_number, after_word, after_sign, kind_place}
use Rattle.cls_syntax.specs.Faults.{Stop, stop, Always, CanGoOn}
use Rattle.cls_syntax.specs.TypeTexts.{TypeText, MeetText, ProductText, AtomText, only_meet, arrow, only_product, meet, only_atom, product, named, applied, variable, inside, type_words, TypeList, last}
use Rattle.cls_syntax.specs.TypeTexts as grammar
use Rattle.cls_syntax.specs.TermTexts as terms
use Rattle.cls_syntax.specs.TermTexts.{TermText, term_words}
use Rattle.cls_syntax.specs.TypeReading as type
use Rattle.cls_syntax.specs.TypeReading.{Level, level, whole, type_machine, type_front}
use Rattle.cls_syntax.specs.TermReading as term
use Rattle.cls_syntax.specs.TermReading.{term_machine, term_front}
use Rattle.cls_syntax.specs.TypeLists.{types_words, types_machine, types_front, next_type, stepped}
use Rattle.cls_syntax.specs.Forms.{Item, the_word, the_sign, a_name, a_number, a_type, a_term}
use Rattle.cls_syntax.specs.GoodForms.{EndsType, MayFollow, IsWord}
use Rattle.cls_syntax.specs.LineReading.{ItemValue, or_stop, after_or_stop, in_role, item_front}
use Rattle.cls_syntax.proofs.FrontFaults.{FrontFault}
use Rattle.cls_syntax.proofs.MachineRuns.{Halts, Reads, stop_parts, reading_again, reading_ok, reading_err, halts_name}
use Rattle.cls_syntax.proofs.TypeRuns.{past_type, past_product, past_atom}
use Rattle.cls_syntax.proofs.TypeReads as types
use Rattle.cls_syntax.proofs.TermReads as term_proofs
use Rattle.cls_syntax.proofs.TypeListReads as lists
use Rattle.cls_syntax.proofs.WordFronts.{fronts_exact}

-- the words of an item
abbrev pub item_words : (i : Item) → ItemValue i → List Word
item_words (the_word x) v = name x ∷ []
item_words (the_sign kind) v = sign kind ∷ []
item_words (a_name r) x = name x ∷ []
item_words (a_number l g) n = number n ∷ []
item_words a_type t = type_words t
item_words a_term e = term_words e

-- a name that may stand there
abbrev pub ItemStands : (i : Item) → ItemValue i → Type 0
ItemStands (the_word x) v = Unit {0}
ItemStands (the_sign kind) v = Unit {0}
ItemStands (a_name r) x = MayStand r x
ItemStands (a_number l g) n = Unit {0}
ItemStands a_type t = Unit {0}
ItemStands a_term e = Unit {0}

-- the words after the item can't make it longer
abbrev pub StopsAt : (i : Item) → ItemValue i → List Word → Type 0
StopsAt (the_word x) v ws = Unit {0}
StopsAt (the_sign kind) v ws = Unit {0}
StopsAt (a_name r) v ws = Unit {0}
StopsAt (a_number l g) v ws = Unit {0}
StopsAt a_type t ws = Halts type_machine (types.past t) ws
StopsAt a_term e ws = Halts term_machine (term_proofs.past e) ws

-- names of each role
pub some_name : Role → List ℕ
some_name Variance = codes "inv"
some_name _ = []

pub some_stands : (r : Role) → MayStand r (some_name r)
unfolding some_name
some_stands Variance = refl
some_stands _ = refl

neither : (a b : Bool) → (a || b) ≡ false → ((not a && not b) ≡ true) × (not a ≡ true) × (not b ≡ true)
neither true b h = cc
neither false true h = cc
neither false false h = (refl, refl, refl)

pub stands_by : (r : Role) (x : List ℕ) → takes_names r ≡ true → is_set_aside x ≡ false → MayStand r x
stands_by State x t p = (neither (is_none x) (is_any x) p).0
stands_by StateOrAny x t p = (neither (is_none x) (is_any x) p).1
stands_by StateOrNone x t p = (neither (is_none x) (is_any x) p).2
stands_by Variance x t p = cc
stands_by _ x t p = refl

pub not_taken : (r : Role) → takes_names r ≡ false → may_stand r [] ≡ false
not_taken Variance t = refl
not_taken _ t = cc

pub item_some : (i : Item) → ItemValue i
item_some (the_word x) = tt
item_some (the_sign kind) = tt
item_some (a_name r) = some_name r
item_some (a_number l g) = []
item_some a_type = only_meet (only_product (only_atom grammar.omega))
item_some a_term = terms.named []

pub item_stands : (i : Item) → ItemStands i (item_some i)
unfolding item_some
item_stands (the_word x) = tt
item_stands (the_sign kind) = tt
item_stands (a_name r) = some_stands r
item_stands (a_number l g) = tt
item_stands a_type = tt
item_stands a_term = tt

-- a sign that ends a type stops it
after_halts : (ss : List MeetText) (m : Option MeetText) (p : ProductText) (kind : TokenKind) → EndsType kind → type.step_after whole ss m p (sign kind) ≡ None
after_halts ss m p Comma e = refl
after_halts ss m p Colon e = refl
after_halts ss m p Equals e = refl
after_halts ss m p Bar e = refl
after_halts ss m p AtMost e = refl
after_halts ss m p _ e = cc

name_halts : (l : Level) (x : List ℕ) (kind : TokenKind) → EndsType kind → type.step_name whole l x (sign kind) ≡ None
name_halts (level ss m p) x Comma e = refl
name_halts (level ss m p) x Colon e = refl
name_halts (level ss m p) x Equals e = refl
name_halts (level ss m p) x Bar e = refl
name_halts (level ss m p) x AtMost e = refl
name_halts (level ss m p) x _ e = cc

atom_halts : (l : Level) (a : AtomText) (kind : TokenKind) → EndsType kind → type.step (past_atom whole l a) (sign kind) ≡ None
atom_halts l (named x) kind e = name_halts l x kind e
atom_halts (level ss m p) grammar.omega kind e = after_halts ss m _ kind e
atom_halts (level ss m p) (applied x t) kind e = after_halts ss m _ kind e
atom_halts (level ss m p) (variable x) kind e = after_halts ss m _ kind e
atom_halts (level ss m p) (inside t) kind e = after_halts ss m _ kind e

product_halts : (ss : List MeetText) (m : Option MeetText) (p : ProductText) (kind : TokenKind) → EndsType kind → type.step (past_product whole ss m p) (sign kind) ≡ None
product_halts ss m (only_atom a) kind e = atom_halts (level ss m None) a kind e
product_halts ss m (product p a) kind e = atom_halts (level ss m (Some p)) a kind e

pub type_halts : (kind : TokenKind) → EndsType kind → (ss : List MeetText) (t : TypeText) → type.step (past_type whole ss t) (sign kind) ≡ None
type_halts kind e ss (only_meet (only_product p)) = product_halts ss None p kind e
type_halts kind e ss (only_meet (meet m p)) = product_halts ss (Some m) p kind e
type_halts kind e ss (arrow m t) = type_halts kind e (m ∷ ss) t

-- a number stops a type
atom_number : (l : Level) (a : AtomText) (n : List ℕ) → type.step (past_atom whole l a) (number n) ≡ None
atom_number (level ss m p) (named x) n = refl
atom_number (level ss m p) grammar.omega n = refl
atom_number (level ss m p) (applied x t) n = refl
atom_number (level ss m p) (variable x) n = refl
atom_number (level ss m p) (inside t) n = refl

product_number : (ss : List MeetText) (m : Option MeetText) (p : ProductText) (n : List ℕ) → type.step (past_product whole ss m p) (number n) ≡ None
product_number ss m (only_atom a) n = atom_number (level ss m None) a n
product_number ss m (product p a) n = atom_number (level ss m (Some p)) a n

type_number : (ss : List MeetText) (t : TypeText) (n : List ℕ) → type.step (past_type whole ss t) (number n) ≡ None
type_number ss (only_meet (only_product p)) n = product_number ss None p n
type_number ss (only_meet (meet m p)) n = product_number ss (Some m) p n
type_number ss (arrow m t) n = type_number (m ∷ ss) t n

term_sign : (e : TermText) (kind : TokenKind) → EndsType kind → term.step (term_proofs.past e) (sign kind) ≡ None
term_sign (terms.named x) Comma e = refl
term_sign (terms.named x) Colon e = refl
term_sign (terms.named x) Equals e = refl
term_sign (terms.named x) Bar e = refl
term_sign (terms.named x) AtMost e = refl
term_sign (terms.named x) _ e = cc
term_sign (terms.applied x es) Comma e = refl
term_sign (terms.applied x es) Colon e = refl
term_sign (terms.applied x es) Equals e = refl
term_sign (terms.applied x es) Bar e = refl
term_sign (terms.applied x es) AtMost e = refl
term_sign (terms.applied x es) _ e = cc

term_number : (e : TermText) (n : List ℕ) → term.step (term_proofs.past e) (number n) ≡ None
term_number (terms.named x) n = refl
term_number (terms.applied x es) n = refl

-- the lists of types that can be read
pub list_reads : (kind : TokenKind) → EndsType kind → Reads (types_machine kind) ([], type.start) (types_words kind) (lists.past_types kind [])
list_reads kind e = lists.types_reads kind (λ t. type_halts kind e [] t)

-- the state after some types is that after the last one
list_number : (kind : TokenKind) (ds : List TypeText) (ts : TypeList) (n : List ℕ) → (types_machine kind).step (lists.past_types kind ds ts) (number n) ≡ None
list_number kind ds (last t) n =
    ap (λ (o : Option type.State). stepped kind ds (number n) (type.ended (types.past t)) o) (type_number [] t n)
    ∙ ap (λ (o : Option TypeText). next_type kind ds (number n) o) (types.type_reads.ends t)
list_number kind ds (grammar.more t ts) n = list_number kind (t ∷ ds) ts n

pub stops_nil : (i : Item) (a : ItemValue i) → StopsAt i a []
stops_nil (the_word x) a = tt
stops_nil (the_sign kind) a = tt
stops_nil (a_name r) a = tt
stops_nil (a_number l g) a = tt
stops_nil a_type a = tt
stops_nil a_term a = tt

pub stops_name : (i : Item) (a : ItemValue i) (x : List ℕ) (us : List Word) → StopsAt i a (name x ∷ us)
stops_name (the_word y) a x us = tt
stops_name (the_sign kind) a x us = tt
stops_name (a_name r) a x us = tt
stops_name (a_number l g) a x us = tt
stops_name a_type a x us = halts_name type_machine type.start type_words types.past types.type_reads a x us
stops_name a_term a x us = halts_name term_machine term.start term_words term_proofs.past term_proofs.term_reads a x us

pub stops_number : (i : Item) (a : ItemValue i) (n : List ℕ) (us : List Word) → StopsAt i a (number n ∷ us)
stops_number (the_word y) a n us = tt
stops_number (the_sign kind) a n us = tt
stops_number (a_name r) a n us = tt
stops_number (a_number l g) a n us = tt
stops_number a_type a n us = type_number [] a n
stops_number a_term a n us = term_number a n

pub stops_sign : (i : Item) (a : ItemValue i) (kind : TokenKind) (us : List Word) → MayFollow i (the_sign kind) → StopsAt i a (sign kind ∷ us)
stops_sign (the_word y) a kind us m = tt
stops_sign (the_sign k) a kind us m = tt
stops_sign (a_name r) a kind us m = tt
stops_sign (a_number l g) a kind us m = tt
stops_sign a_type a kind us m = type_halts kind m [] a
stops_sign a_term a kind us m = term_sign a kind m

-- one word shows by itself where it ends
pub stops_word : (i : Item) (a : ItemValue i) (us : List Word) → IsWord i → StopsAt i a us
stops_word (the_word y) a us m = tt
stops_word (the_sign k) a us m = tt
stops_word (a_name r) a us m = tt
stops_word (a_number l g) a us m = tt
stops_word a_type a us m = absurd m
stops_word a_term a us m = absurd m

-- only the first word decides
pub head_stays : (i : Item) (a : ItemValue i) (w : Word) (vs us : List Word) → StopsAt i a (w ∷ vs) → StopsAt i a (w ∷ us)
head_stays (the_word y) a w vs us s = tt
head_stays (the_sign k) a w vs us s = tt
head_stays (a_name r) a w vs us s = tt
head_stays (a_number l g) a w vs us s = tt
head_stays a_type a w vs us s = s
head_stays a_term a w vs us s = s

pub type_again : (t : TypeText) (rest : List Word) → Halts type_machine (types.past t) rest → type_front (type_words t ++ rest) ≡ Ok (t, rest)
unfolding type_front
type_again = reading_again type_machine type.start type_words types.past types.type_reads

pub term_again : (e : TermText) (rest : List Word) → Halts term_machine (term_proofs.past e) rest → term_front (term_words e ++ rest) ≡ Ok (e, rest)
unfolding term_front
term_again = reading_again term_machine term.start term_words term_proofs.past term_proofs.term_reads

pub types_again : (kind : TokenKind) (g : EndsType kind) (ts : TypeList) (rest : List Word) → Halts (types_machine kind) (lists.past_types kind [] ts) rest → types_front kind (types_words kind ts ++ rest) ≡ Ok (ts, rest)
unfolding types_front
types_again kind g = reading_again (types_machine kind) ([], type.start) (types_words kind) (lists.past_types kind []) (list_reads kind g)

-- what an item says is read again
pub item_again : (i : Item) (v : ItemValue i) (rest : List Word) → ItemStands i v → StopsAt i v rest → item_front i (item_words i v ++ rest) ≡ Ok (v, rest)
item_again (the_word x) v rest m s = ap (λ (o : Option (List Word)). after_or_stop (name x ∷ rest) o) ((fronts_exact.this_name (name x ∷ rest) rest x).1 refl)
item_again (the_sign kind) v rest m s = ap (λ (o : Option (List Word)). after_or_stop (sign kind ∷ rest) o) ((fronts_exact.signs (sign kind ∷ rest) rest kind).1 refl)
item_again (a_name r) v rest m s = ap (λ (b : Bool). or_stop {A = List ℕ} (takes_names r) (name v ∷ rest) (if b then Some (v, rest) else None)) m
item_again (a_number l g) v rest m s = refl
item_again a_type t rest m s = type_again t rest s
item_again a_term e rest m s = term_again e rest s

-- what was read of a front
pub or_stop_ok : {A : Type 0} (b : Bool) (ws rest : List Word) (o : Option (A × List Word)) (a : A) → or_stop b ws o ≡ Ok (a, rest) → o ≡ Some (a, rest)
or_stop_ok b ws rest None a h = cc
or_stop_ok b ws rest (Some p) a h = (let e : p ≡ (a, rest) = cc in ap (λ x. Some x) e)

pub after_ok : (ws rest : List Word) (o : Option (List Word)) (v : Unit {0}) → after_or_stop ws o ≡ Ok (v, rest) → o ≡ Some rest
after_ok ws rest None v h = cc
after_ok ws rest (Some vs) v h = (let e : Path (Unit {0} × List Word) (tt, vs) (v, rest) = cc in ap (λ (x : Unit {0} × List Word). Some x.1) e)

pub type_ok : (ws rest : List Word) (t : TypeText) → type_front ws ≡ Ok (t, rest) → (ws ≡ type_words t ++ rest) × Halts type_machine (types.past t) rest
unfolding type_front
type_ok = reading_ok type_machine type.start type_words types.past types.type_reads

pub term_ok : (ws rest : List Word) (e : TermText) → term_front ws ≡ Ok (e, rest) → (ws ≡ term_words e ++ rest) × Halts term_machine (term_proofs.past e) rest
unfolding term_front
term_ok = reading_ok term_machine term.start term_words term_proofs.past term_proofs.term_reads

pub types_ok : (kind : TokenKind) (g : EndsType kind) (ws rest : List Word) (ts : TypeList) → types_front kind ws ≡ Ok (ts, rest) → (ws ≡ types_words kind ts ++ rest) × Halts (types_machine kind) (lists.past_types kind [] ts) rest
unfolding types_front
types_ok kind g = reading_ok (types_machine kind) ([], type.start) (types_words kind) (lists.past_types kind []) (list_reads kind g)

in_role_at : (r : Role) (p q : List ℕ × List Word) (b : Bool) → may_stand r p.0 ≡ b → Path (Option (List ℕ × List Word)) (if b then Some p else None) (Some q) → (Path (Option (List ℕ × List Word)) (Some p) (Some q)) × MayStand r q.0
in_role_at r p q true t h = let same : p ≡ q = cc in (h, subst (λ (x : List ℕ × List Word). MayStand r x.0) same t)
in_role_at r p q false t h = cc

in_role_ok : (r : Role) (o : Option (List ℕ × List Word)) (q : List ℕ × List Word) → in_role r o ≡ Some q → (o ≡ Some q) × MayStand r q.0
in_role_ok r None q h = cc
in_role_ok r (Some p) q h = in_role_at r p q (may_stand r p.0) refl h

pub item_ok : (i : Item) (ws rest : List Word) (v : ItemValue i) → item_front i ws ≡ Ok (v, rest) → (ws ≡ item_words i v ++ rest) × StopsAt i v rest × ItemStands i v
item_ok (the_word x) ws rest v h = ((fronts_exact.this_name ws rest x).0 (after_ok ws rest (after_word x ws) v h), tt, tt)
item_ok (the_sign kind) ws rest v h = ((fronts_exact.signs ws rest kind).0 (after_ok ws rest (after_sign kind ws) v h), tt, tt)
item_ok (a_name r) ws rest v h =
    let is = in_role_ok r (first_name ws) (v, rest) (or_stop_ok {A = List ℕ} (takes_names r) ws rest (in_role r (first_name ws)) v h) in
    ((fronts_exact.names ws rest v).0 is.0, tt, is.1)
item_ok (a_number l g) ws rest v h = ((fronts_exact.numbers ws rest v).0 (or_stop_ok {A = List ℕ} false ws rest (first_number ws) v h), tt, tt)
item_ok a_type ws rest v h = let r = type_ok ws rest v h in (r.0, r.1, tt)
item_ok a_term ws rest v h = let r = term_ok ws rest v h in (r.0, r.1, tt)

pub type_err : (ws rest : List Word) (b : Bool) → type_front ws ≡ Err (stop rest b) → FrontFault type_front type_words Always ws rest b
unfolding type_front
type_err = reading_err type_machine type.start type_words types.past types.type_reads

pub term_err : (ws rest : List Word) (b : Bool) → term_front ws ≡ Err (stop rest b) → FrontFault term_front term_words Always ws rest b
unfolding term_front
term_err = reading_err term_machine term.start term_words term_proofs.past term_proofs.term_reads

pub types_err : (kind : TokenKind) (g : EndsType kind) (ws rest : List Word) (b : Bool) → types_front kind ws ≡ Err (stop rest b) → FrontFault (types_front kind) (types_words kind) Always ws rest b
unfolding types_front
types_err kind g = reading_err (types_machine kind) ([], type.start) (types_words kind) (lists.past_types kind []) (list_reads kind g)

pub after_err : (ws rest : List Word) (o : Option (List Word)) (b : Bool) → after_or_stop ws o ≡ Err (stop rest b) → (ws ≡ rest) × (false ≡ b) × (o ≡ None)
after_err ws rest None b h = let p = stop_parts {B = Unit {0} × List Word} ws rest false b h in (p.0, p.1, refl)
after_err ws rest (Some vs) b h = cc

pub or_stop_err : {A : Type 0} (c : Bool) (ws rest : List Word) (o : Option (A × List Word)) (b : Bool) → or_stop c ws o ≡ Err (stop rest b) → (ws ≡ rest) × (c ≡ b) × (o ≡ None)
or_stop_err {A} c ws rest None b h = let p = stop_parts {B = A × List Word} ws rest c b h in (p.0, p.1, refl)
or_stop_err c ws rest (Some p) b h = cc

if_none : (b : Bool) (ws us : List Word) → Path (Option (List Word)) (if b then Some ws else None) None → Path (Option (List Word)) (if b then Some us else None) None
if_none true ws us h = cc
if_none false ws us h = refl

-- only the first word decides
word_head : (x : List ℕ) (w : Word) (vs us : List Word) → after_word x (w ∷ vs) ≡ None → after_word x (w ∷ us) ≡ None
word_head x word.omega vs us h = refl
word_head x (name y) vs us h = if_none (bytes_eq x y) vs us h
word_head x (number n) vs us h = refl
word_head x (sign kind) vs us h = refl

sign_head : (kind : TokenKind) (w : Word) (vs us : List Word) → after_sign kind (w ∷ vs) ≡ None → after_sign kind (w ∷ us) ≡ None
sign_head kind word.omega vs us h = refl
sign_head kind (name y) vs us h = refl
sign_head kind (number n) vs us h = refl
sign_head kind (sign k) vs us h = if_none (kind_place kind == kind_place k) vs us h

if_no_pair : (b : Bool) (p q : List ℕ × List Word) → Path (Option (List ℕ × List Word)) (if b then Some p else None) None → Path (Option (List ℕ × List Word)) (if b then Some q else None) None
if_no_pair true p q h = cc
if_no_pair false p q h = refl

name_head : (r : Role) (w : Word) (vs us : List Word) → in_role r (first_name (w ∷ vs)) ≡ None → in_role r (first_name (w ∷ us)) ≡ None
name_head r word.omega vs us h = refl
name_head r (name y) vs us h = if_no_pair (may_stand r y) (y, vs) (y, us) h
name_head r (number n) vs us h = refl
name_head r (sign k) vs us h = refl

number_head : (w : Word) (vs us : List Word) → first_number (w ∷ vs) ≡ None → first_number (w ∷ us) ≡ None
number_head word.omega vs us h = refl
number_head (name y) vs us h = refl
number_head (number n) vs us h = cc
number_head (sign k) vs us h = refl

-- a name that is one byte longer is another
other_name : (x : List ℕ) → bytes_eq x (0 ∷ x) ≡ false
other_name x = false_from_ne_true _ (λ t. let e = ap length ((bytes_eq-Decides x (0 ∷ x)).0 t) in omega arith)

another_word : (x : List ℕ) (us : List Word) → after_word x (name (0 ∷ x) ∷ us) ≡ None
another_word x us = ap (λ (b : Bool). if b then Some us else None) (other_name x)

-- a word of one sort is refused, whatever follows
module _ (i : Item) (ws rest : List Word) (c b : Bool) (split : ws ≡ rest) (same : c ≡ b) (always : (w : Word) (vs us : List Word) → ws ≡ w ∷ vs → item_front i (w ∷ us) ≡ Err (stop (w ∷ us) c)) where
  at_front : (c ≡ true → (x : List ℕ) → is_set_aside x ≡ false → CanGoOn (item_words i) (ItemStands i) (name x ∷ [])) → (c ≡ false → (x : List ℕ) × (is_set_aside x ≡ false) × ((us : List Word) → item_front i (name x ∷ us) ≡ Err (stop (name x ∷ us) c))) → FrontFault (item_front i) (item_words i) (ItemStands i) ws rest b
  at_front wanted not_name = record {
    front = [];
    split = split;
    live = record { line = item_some i; stands = item_stands i; more = item_words i (item_some i); begins = refl };
    always = λ w vs us is. always w vs us (split ∙ is) ∙ ap (λ d. Err (stop (w ∷ us) d)) same;
    named = λ want x plain. wanted (same ∙ want) x plain;
    unnamed = λ not_wanted. let u = not_name (same ∙ not_wanted) in record { text = u.0; plain = u.1; always = λ us. u.2 us ∙ ap (λ d. Err (stop (name u.0 ∷ us) d)) same };
  }

-- a fault of a grammar where nothing more is asked
module _ {A B : Type 0} (read : List Word → Result B Stop) (words : A → List Word) (Stands : A → Type 0) (all : (a : A) → Stands a) where
  pub stands_anyhow : (ws rest : List Word) (b : Bool) → FrontFault read words Always ws rest b → FrontFault read words Stands ws rest b
  stands_anyhow ws rest b f = record {
    front = f.front;
    split = f.split;
    live = record { line = f.live.line; stands = all f.live.line; more = f.live.more; begins = f.live.begins };
    always = f.always;
    named = λ want x plain. let go = f.named want x plain in record { line = go.line; stands = all go.line; more = go.more; begins = go.begins };
    unnamed = f.unnamed;
  }

pub item_err : (i : Item) (ws rest : List Word) (b : Bool) → item_front i ws ≡ Err (stop rest b) → FrontFault (item_front i) (item_words i) (ItemStands i) ws rest b
item_err (the_word x) ws rest b h =
    let e = after_err ws rest (after_word x ws) b h in
    at_front (the_word x) ws rest false b e.0 e.1
    (λ w vs us is. ap (λ (o : Option (List Word)). after_or_stop (w ∷ us) o) (word_head x w vs us (ap (after_word x) (sym is) ∙ e.2)))
    (λ want. cc)
    (λ _. (0 ∷ x, refl, λ us. ap (λ (o : Option (List Word)). after_or_stop (name (0 ∷ x) ∷ us) o) (another_word x us)))
item_err (the_sign kind) ws rest b h =
    let e = after_err ws rest (after_sign kind ws) b h in
    at_front (the_sign kind) ws rest false b e.0 e.1
    (λ w vs us is. ap (λ (o : Option (List Word)). after_or_stop (w ∷ us) o) (sign_head kind w vs us (ap (after_sign kind) (sym is) ∙ e.2)))
    (λ want. cc)
    (λ _. ([], refl, λ us. refl))
item_err (a_name r) ws rest b h =
    let e = or_stop_err {A = List ℕ} (takes_names r) ws rest (in_role r (first_name ws)) b h in
    at_front (a_name r) ws rest (takes_names r) b e.0 e.1
    (λ w vs us is. ap (λ (o : Option (List ℕ × List Word)). or_stop (takes_names r) (w ∷ us) o) (name_head r w vs us (ap (λ (us : List Word). in_role r (first_name us)) (sym is) ∙ e.2)))
    (λ want x plain. record { line = x; stands = stands_by r x want plain; more = []; begins = refl })
    (λ not_wanted. ([], refl, λ us. ap (λ (c : Bool). or_stop {A = List ℕ} (takes_names r) (name [] ∷ us) (if c then Some ([], us) else None)) (not_taken r not_wanted)))
item_err (a_number l g) ws rest b h =
    let e = or_stop_err {A = List ℕ} false ws rest (first_number ws) b h in
    at_front (a_number l g) ws rest false b e.0 e.1
    (λ w vs us is. ap (λ (o : Option (List ℕ × List Word)). or_stop false (w ∷ us) o) (number_head w vs us (ap first_number (sym is) ∙ e.2)))
    (λ want. cc)
    (λ _. ([], refl, λ us. refl))
item_err a_type ws rest b h = stands_anyhow type_front type_words (ItemStands a_type) (λ t. tt) ws rest b (type_err ws rest b h)
item_err a_term ws rest b h = stands_anyhow term_front term_words (ItemStands a_term) (λ e. tt) ws rest b (term_err ws rest b h)
