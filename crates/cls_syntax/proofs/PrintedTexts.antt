-- The text of the grammar that a type is printed as.
use Rattle.std.proofs.Common.{◌≡◌, ℕ, ◌+◌, ◌-◌, Bool, true, false, List, [], ◌∷◌, ◌++◌, refl, ap, sym, ◌∙◌, arith, append_assoc, append-nil}
use Rattle.std.specs.Prelude.{if◌then◌else◌, max}
use Rattle.std.specs.List.{list_any}
use Rattle.std.specs.Str.{bytes_eq}
use Rattle.cls_base.specs.Types as types
use Rattle.cls_base.specs.Types.{ClosedType, nodes, open_at}
use Rattle.cls_base.specs.Schemas as schemas
use Rattle.cls_base.specs.Schemas.{OpenType}
use Rattle.cls_lexer.specs.declared.token.TokenKind.TheVariants as kinds
use Rattle.cls_lexer.specs.Words as word
use Rattle.cls_lexer.specs.Words.{Word, name, number, sign}
use Rattle.cls_syntax.specs.Sorts.{sort_of}
use Rattle.cls_lexer.specs.Names.{with_text, with_texts}
use Rattle.cls_syntax.specs.Depths.{open_after, most_open}
use Rattle.cls_syntax.specs.TypeTexts.{TypeText, MeetText, ProductText, AtomText, only_meet, arrow, only_product, meet, only_atom, product, named, applied, variable, inside, type_words, meet_words, product_words, atom_words, type_nodes, meet_nodes, product_nodes, atom_nodes}
use Rattle.cls_syntax.specs.TypeTexts as grammar
use Rattle.cls_syntax.specs.TypeSchemas.{is_dollar, name_text, constructors_in, type_schema, meet_schema, product_schema, atom_schema}
use Rattle.cls_syntax.specs.ClosedTypes.{opened, HasNoDollar}
use Rattle.cls_syntax.specs.TypePrinting.{is_omega_type, printed}
use Rattle.cls_syntax.specs.RoundTrips.{IsProperName, HasProperNames}
use Rattle.cls_syntax.proofs.TypeBytes.{type_bytes, meet_bytes, product_bytes, atom_bytes, TypeNames, MeetNames, ProductNames, AtomNames}

-- a type as a text of each level, in parentheses where it is weaker
pub record Texts : Type 0 where
  pub type : TypeText
  pub meets : MeetText
  pub products : ProductText
  pub atom : AtomText

abbrev from_atom : AtomText → Texts
from_atom a = record { type = only_meet (only_product (only_atom a)); meets = only_product (only_atom a); products = only_atom a; atom = a }

abbrev from_product : ProductText → Texts
from_product p = record { type = only_meet (only_product p); meets = only_product p; products = p; atom = inside (only_meet (only_product p)) }

abbrev from_meet : MeetText → Texts
from_meet m = record { type = only_meet m; meets = m; products = only_atom (inside (only_meet m)); atom = inside (only_meet m) }

abbrev from_type : TypeText → Texts
from_type t = record { type = t; meets = only_product (only_atom (inside t)); products = only_atom (inside t); atom = inside t }

abbrev con_text : List ℕ → ClosedType → TypeText → AtomText
con_text x s t = if is_omega_type s then named x else applied x t

module _ (name : ℕ → List ℕ) where
  abbrev pub texts : ClosedType → Texts
  texts types.omega = from_atom grammar.omega
  texts (types.constructor c s) = from_atom (con_text (name c) s (texts s).type)
  texts (types.product s t) = from_product (product (texts s).products (texts t).atom)
  texts (types.arrow s t) = from_type (arrow (texts s).meets (texts t).type)
  texts (types.meet s t) = from_meet (meet (texts s).meets (texts t).products)

  -- the bytes are those that are printed
  record ArePrinted (t : ClosedType) (x : Texts) : Type 0 where
    type : printed name 0 t ≡ type_bytes x.type
    meets : printed name 1 t ≡ meet_bytes x.meets
    products : printed name 2 t ≡ product_bytes x.products
    atom : printed name 3 t ≡ atom_bytes x.atom

  flat : (a b x y m : List ℕ) → a ≡ x → b ≡ y → a ++ (m ++ (b ++ [])) ≡ x ++ (m ++ y)
  flat a b x y m e f = (λ i. e i ++ (m ++ (f i ++ []))) ∙ ap (λ z. x ++ (m ++ z)) (append-nil y)

  round : (a b x y m : List ℕ) → a ≡ x → b ≡ y → 40 ∷ (a ++ (m ++ (b ++ 41 ∷ []))) ≡ 40 ∷ ((x ++ (m ++ y)) ++ 41 ∷ [])
  round a b x y m e f = (λ i. 40 ∷ (e i ++ (m ++ (f i ++ 41 ∷ [])))) ∙ simp append_assoc

  con_printed : (c : ℕ) (s : ClosedType) (t : TypeText) → printed name 0 s ≡ type_bytes t → (if is_omega_type s then name c else name c ++ (40 ∷ (printed name 0 s ++ 41 ∷ []))) ≡ atom_bytes (con_text (name c) s t)
  con_printed c types.omega t e = refl
  con_printed c (types.constructor d s) t e = ap (λ z. name c ++ (40 ∷ (z ++ 41 ∷ []))) e
  con_printed c (types.product s u) t e = ap (λ z. name c ++ (40 ∷ (z ++ 41 ∷ []))) e
  con_printed c (types.arrow s u) t e = ap (λ z. name c ++ (40 ∷ (z ++ 41 ∷ []))) e
  con_printed c (types.meet s u) t e = ap (λ z. name c ++ (40 ∷ (z ++ 41 ∷ []))) e

  are_printed : (t : ClosedType) → ArePrinted t (texts t)
  unfolding printed
  are_printed types.omega = record { type = refl; meets = refl; products = refl; atom = refl }
  are_printed (types.constructor c s) = let e = con_printed c s (texts s).type (are_printed s).type in record { type = e; meets = e; products = e; atom = e }
  are_printed (types.product s t) =
      let e = (are_printed s).products in
      let f = (are_printed t).atom in
      let g = flat _ _ _ _ (32 ∷ 42 ∷ 32 ∷ []) e f in
      record { type = g; meets = g; products = g; atom = round _ _ _ _ (32 ∷ 42 ∷ 32 ∷ []) e f }
  are_printed (types.arrow s t) =
      let e = (are_printed s).meets in
      let f = (are_printed t).type in
      let g = flat _ _ _ _ (32 ∷ 45 ∷ 62 ∷ 32 ∷ []) e f in
      let h = round _ _ _ _ (32 ∷ 45 ∷ 62 ∷ 32 ∷ []) e f in
      record { type = g; meets = h; products = h; atom = h }
  are_printed (types.meet s t) =
      let e = (are_printed s).meets in
      let f = (are_printed t).products in
      let g = flat _ _ _ _ (32 ∷ 38 ∷ 32 ∷ []) e f in
      let h = round _ _ _ _ (32 ∷ 38 ∷ 32 ∷ []) e f in
      record { type = g; meets = g; products = h; atom = h }

  pub printed_is : (t : ClosedType) → printed name 0 t ≡ type_bytes (texts t).type
  printed_is t = (are_printed t).type

  -- the names are those of the type
  record AreNamed (x : Texts) : Type 0 where
    type : TypeNames x.type
    meets : MeetNames x.meets
    products : ProductNames x.products
    atom : AtomNames x.atom

  con_named : (x : List ℕ) (s : ClosedType) (t : TypeText) → IsProperName x → TypeNames t → AtomNames (con_text x s t)
  con_named x types.omega t p n = p
  con_named x (types.constructor d s) t p n = (p, n)
  con_named x (types.product s u) t p n = (p, n)
  con_named x (types.arrow s u) t p n = (p, n)
  con_named x (types.meet s u) t p n = (p, n)

  are_named : (t : ClosedType) → HasProperNames name t → AreNamed (texts t)
  are_named types.omega h = record { type = tt; meets = tt; products = tt; atom = tt }
  are_named (types.constructor c s) h = let e = con_named (name c) s (texts s).type h.0 (are_named s h.1).type in record { type = e; meets = e; products = e; atom = e }
  are_named (types.product s t) h = let e : ProductNames (product (texts s).products (texts t).atom) = ((are_named s h.0).products, (are_named t h.1).atom) in record { type = e; meets = e; products = e; atom = e }
  are_named (types.arrow s t) h = let e : TypeNames (arrow (texts s).meets (texts t).type) = ((are_named s h.0).meets, (are_named t h.1).type) in record { type = e; meets = e; products = e; atom = e }
  are_named (types.meet s t) h = let e : MeetNames (meet (texts s).meets (texts t).products) = ((are_named s h.0).meets, (are_named t h.1).products) in record { type = e; meets = e; products = e; atom = e }

  pub names_proper : (t : ClosedType) → HasProperNames name t → TypeNames (texts t).type
  names_proper t h = (are_named t h).type

  -- the nodes are those of the type
  record AreCounted (n : ℕ) (x : Texts) : Type 0 where
    type : type_nodes x.type ≡ n
    meets : meet_nodes x.meets ≡ n
    products : product_nodes x.products ≡ n
    atom : atom_nodes x.atom ≡ n

  con_counted : (x : List ℕ) (s : ClosedType) (t : TypeText) → type_nodes t ≡ nodes s → atom_nodes (con_text x s t) ≡ 1 + nodes s
  con_counted x types.omega t e = refl
  con_counted x (types.constructor d s) t e = ap (λ n. 1 + n) e
  con_counted x (types.product s u) t e = ap (λ n. 1 + n) e
  con_counted x (types.arrow s u) t e = ap (λ n. 1 + n) e
  con_counted x (types.meet s u) t e = ap (λ n. 1 + n) e

  both : (a b x y : ℕ) → a ≡ x → b ≡ y → 1 + a + b ≡ 1 + x + y
  both a b x y e f = λ i. 1 + e i + f i

  are_counted : (t : ClosedType) → AreCounted (nodes t) (texts t)
  are_counted types.omega = record { type = refl; meets = refl; products = refl; atom = refl }
  are_counted (types.constructor c s) = let e = con_counted (name c) s (texts s).type (are_counted s).type in record { type = e; meets = e; products = e; atom = e }
  are_counted (types.product s t) = let e = both _ _ _ _ (are_counted s).products (are_counted t).atom in record { type = e; meets = e; products = e; atom = e }
  are_counted (types.arrow s t) = let e = both _ _ _ _ (are_counted s).meets (are_counted t).type in record { type = e; meets = e; products = e; atom = e }
  are_counted (types.meet s t) = let e = both _ _ _ _ (are_counted s).meets (are_counted t).products in record { type = e; meets = e; products = e; atom = e }

  pub nodes_are : (t : ClosedType) → type_nodes (texts t).type ≡ nodes t
  nodes_are t = (are_counted t).type

  -- the schema is the type
  module _ (number_as variables : List ℕ → ℕ) where
    abbrev pub NumbersBack : ClosedType → Type 0
    NumbersBack types.omega = Unit {0}
    NumbersBack (types.constructor c s) = (number_as (name c) ≡ c) × NumbersBack s
    NumbersBack (types.product s t) = NumbersBack s × NumbersBack t
    NumbersBack (types.arrow s t) = NumbersBack s × NumbersBack t
    NumbersBack (types.meet s t) = NumbersBack s × NumbersBack t

    record Mean (o : OpenType) (x : Texts) : Type 0 where
      type : type_schema number_as variables x.type ≡ o
      meets : meet_schema number_as variables x.meets ≡ o
      products : product_schema number_as variables x.products ≡ o
      atom : atom_schema number_as variables x.atom ≡ o

    con_means : (x : List ℕ) (s : ClosedType) (t : TypeText) → type_schema number_as variables t ≡ opened s → atom_schema number_as variables (con_text x s t) ≡ schemas.constructor (number_as x) (opened s)
    con_means x types.omega t e = refl
    con_means x (types.constructor d s) t e = ap (schemas.constructor (number_as x)) e
    con_means x (types.product s u) t e = ap (schemas.constructor (number_as x)) e
    con_means x (types.arrow s u) t e = ap (schemas.constructor (number_as x)) e
    con_means x (types.meet s u) t e = ap (schemas.constructor (number_as x)) e

    mean : (t : ClosedType) → NumbersBack t → Mean (opened t) (texts t)
    mean types.omega h = record { type = refl; meets = refl; products = refl; atom = refl }
    mean (types.constructor c s) h = let e = con_means (name c) s (texts s).type (mean s h.1).type ∙ ap (λ n. schemas.constructor n (opened s)) h.0 in record { type = e; meets = e; products = e; atom = e }
    mean (types.product s t) h = let a = (mean s h.0).products in let b = (mean t h.1).atom in let e : schemas.product (product_schema number_as variables (texts s).products) (atom_schema number_as variables (texts t).atom) ≡ schemas.product (opened s) (opened t) = λ i. schemas.product (a i) (b i) in record { type = e; meets = e; products = e; atom = e }
    mean (types.arrow s t) h = let a = (mean s h.0).meets in let b = (mean t h.1).type in let e : schemas.arrow (meet_schema number_as variables (texts s).meets) (type_schema number_as variables (texts t).type) ≡ schemas.arrow (opened s) (opened t) = λ i. schemas.arrow (a i) (b i) in record { type = e; meets = e; products = e; atom = e }
    mean (types.meet s t) h = let a = (mean s h.0).meets in let b = (mean t h.1).products in let e : schemas.meet (meet_schema number_as variables (texts s).meets) (product_schema number_as variables (texts t).products) ≡ schemas.meet (opened s) (opened t) = λ i. schemas.meet (a i) (b i) in record { type = e; meets = e; products = e; atom = e }

    pub schema_is : (t : ClosedType) → NumbersBack t → type_schema number_as variables (texts t).type ≡ opened t
    schema_is t h = (mean t h).type

  -- the words are no dollar, and their names are known
  module _ (known : List (List ℕ)) where
    abbrev KnownWord : Word → Type 0
    KnownWord word.omega = Unit {0}
    KnownWord (word.name x) = list_any (bytes_eq x) known ≡ true
    KnownWord (number n) = Unit {0}
    KnownWord (sign kind) = is_dollar (sign kind) ≡ false

    abbrev pub Known : List Word → Type 0
    Known [] = Unit {0}
    Known (w ∷ ws) = KnownWord w × Known ws

    abbrev pub HasKnownNames : ClosedType → Type 0
    HasKnownNames types.omega = Unit {0}
    HasKnownNames (types.constructor c s) = (list_any (bytes_eq (name c)) known ≡ true) × HasKnownNames s
    HasKnownNames (types.product s t) = HasKnownNames s × HasKnownNames t
    HasKnownNames (types.arrow s t) = HasKnownNames s × HasKnownNames t
    HasKnownNames (types.meet s t) = HasKnownNames s × HasKnownNames t

    joined : (xs ys : List Word) (w : Word) → Known xs → KnownWord w → Known ys → Known (xs ++ w ∷ ys)
    joined [] ys w a k b = (k, b)
    joined (x ∷ xs) ys w a k b = (a.0, joined xs ys w a.1 k b)

    record AreKnown (x : Texts) : Type 0 where
      type : Known (type_words x.type)
      meets : Known (meet_words x.meets)
      products : Known (product_words x.products)
      atom : Known (atom_words x.atom)

    enclosed : (t : TypeText) → Known (type_words t) → Known (sign kinds.Open ∷ (type_words t ++ sign kinds.Close ∷ []))
    enclosed t k = (refl, joined (type_words t) [] (sign kinds.Close) k refl tt)

    con_known : (x : List ℕ) (s : ClosedType) (t : TypeText) → list_any (bytes_eq x) known ≡ true → Known (type_words t) → Known (atom_words (con_text x s t))
    con_known x types.omega t h k = (h, tt)
    con_known x (types.constructor d s) t h k = (h, enclosed t k)
    con_known x (types.product s u) t h k = (h, enclosed t k)
    con_known x (types.arrow s u) t h k = (h, enclosed t k)
    con_known x (types.meet s u) t h k = (h, enclosed t k)

    are_known : (t : ClosedType) → HasKnownNames t → AreKnown (texts t)
    are_known types.omega h = let e : Known (word.omega ∷ []) = (tt, tt) in record { type = e; meets = e; products = e; atom = e }
    are_known (types.constructor c s) h = let e = con_known (name c) s (texts s).type h.0 (are_known s h.1).type in record { type = e; meets = e; products = e; atom = e }
    are_known (types.product s t) h =
        let p : ProductText = product (texts s).products (texts t).atom in
        let e : Known (product_words p) = joined (product_words (texts s).products) (atom_words (texts t).atom) (sign kinds.Times) (are_known s h.0).products refl (are_known t h.1).atom in
        record { type = e; meets = e; products = e; atom = enclosed (only_meet (only_product p)) e }
    are_known (types.arrow s t) h =
        let u : TypeText = arrow (texts s).meets (texts t).type in
        let e : Known (type_words u) = joined (meet_words (texts s).meets) (type_words (texts t).type) (sign kinds.To) (are_known s h.0).meets refl (are_known t h.1).type in
        let f = enclosed u e in
        record { type = e; meets = f; products = f; atom = f }
    are_known (types.meet s t) h =
        let m : MeetText = meet (texts s).meets (texts t).products in
        let e : Known (meet_words m) = joined (meet_words (texts s).meets) (product_words (texts t).products) (sign kinds.And) (are_known s h.0).meets refl (are_known t h.1).products in
        let f = enclosed (only_meet m) e in
        record { type = e; meets = e; products = f; atom = f }

    pub words_known : (t : ClosedType) → HasKnownNames t → Known (type_words (texts t).type)
    words_known t h = (are_known t h).type

    no_dollar_word : (w : Word) → KnownWord w → is_dollar w ≡ false
    no_dollar_word word.omega k = refl
    no_dollar_word (word.name x) k = refl
    no_dollar_word (number n) k = refl
    no_dollar_word (sign kind) k = k

    pub no_dollars : (ws : List Word) → Known ws → HasNoDollar ws
    no_dollars [] k = refl
    no_dollars (w ∷ ws) k = let a = no_dollar_word w k.0 in let b = no_dollars ws k.1 in rw (a, b) refl

    name_known : (x : List ℕ) (xs : List (List ℕ)) → list_any (bytes_eq x) known ≡ true → with_texts (with_text known x) xs ≡ with_texts known xs
    name_known x xs h = ap (λ (b : Bool). with_texts (if b then known else known ++ x ∷ []) xs) h

    one_known : (b : Bool) (w : Word) (xs : List (List ℕ)) → KnownWord w → with_texts known (name_text b w ++ xs) ≡ with_texts known xs
    one_known b word.omega xs k = refl
    one_known true (word.name x) xs k = name_known x xs k
    one_known false (word.name x) xs k = refl
    one_known b (number n) xs k = refl
    one_known b (sign kind) xs k = refl

    pub nothing_new : (behind : Bool) (ws : List Word) → Known ws → with_texts known (constructors_in behind ws) ≡ known
    nothing_new behind [] k = refl
    nothing_new behind (w ∷ ws) k = one_known (if behind then false else true) w (constructors_in (is_dollar w) ws) k.0 ∙ nothing_new (is_dollar w) ws k.1

  -- the parentheses that are open at once
  abbrev pub Opens : List Word → ℕ → Type 0
  Opens ws d = (now most : ℕ) (rest : List Word) → most_open now most (ws ++ rest) ≡ most_open now (max (now + d) most) rest

  pub one_word : (w : Word) → ((n : ℕ) → open_after n (sort_of w) ≡ n) → Opens (w ∷ []) 0
  one_word w h now most rest = let e = h now in (λ i. most_open (e i) (max (e i) most) rest) ∙ ap (λ m. most_open now m rest) (omega arith)

  pub join_opens : (xs ys : List Word) (w : Word) (d e : ℕ) → ((n : ℕ) → open_after n (sort_of w) ≡ n) → Opens xs d → Opens ys e → Opens (xs ++ w ∷ ys) (max d e)
  join_opens xs ys w d e h a b now most rest =
      ap (most_open now most) (append_assoc xs (w ∷ ys) rest)
      ∙ (a now most (w ∷ (ys ++ rest))
      ∙ (let k = h now in (λ i. most_open (k i) (max (k i) (max (now + d) most)) (ys ++ rest))
      ∙ (b now (max now (max (now + d) most)) rest
      ∙ ap (λ m. most_open now m rest) (omega arith))))

  pub enclose_opens : (ws : List Word) (d : ℕ) → Opens ws d → Opens (sign kinds.Open ∷ (ws ++ sign kinds.Close ∷ [])) (1 + d)
  enclose_opens ws d a now most rest =
      ap (most_open (now + 1) (max (now + 1) most)) (append_assoc ws (sign kinds.Close ∷ []) rest)
      ∙ (a (now + 1) (max (now + 1) most) (sign kinds.Close ∷ rest)
      ∙ (let back : now + 1 - 1 ≡ now = omega arith in (λ i. most_open (back i) (max (back i) (max (now + 1 + d) (max (now + 1) most))) rest)
      ∙ ap (λ m. most_open now m rest) (omega arith)))

  pub name_opens : (x : List ℕ) (ws : List Word) (d : ℕ) → Opens ws d → Opens (word.name x ∷ ws) d
  name_opens x ws d a now most rest = a now (max now most) rest ∙ ap (λ m. most_open now m rest) (omega arith)

  pub con_enclosed : (x : List ℕ) (t : TypeText) (d : ℕ) → Opens (type_words t) d → Opens (word.name x ∷ sign kinds.Open ∷ (type_words t ++ sign kinds.Close ∷ [])) (1 + d)
  con_enclosed x t d a = name_opens x (sign kinds.Open ∷ (type_words t ++ sign kinds.Close ∷ [])) (1 + d) (enclose_opens (type_words t) d a)

  record Opened (x : Texts) (t : ClosedType) : Type 0 where
    type : Opens (type_words x.type) (open_at 0 t)
    meets : Opens (meet_words x.meets) (open_at 1 t)
    products : Opens (product_words x.products) (open_at 2 t)
    atom : Opens (atom_words x.atom) (open_at 3 t)

  con_opens : (c : ℕ) (k : ℕ) (s : ClosedType) (t : TypeText) → Opens (type_words t) (open_at 0 s) → Opens (atom_words (con_text (name c) s t)) (open_at k (types.constructor c s))
  con_opens c k types.omega t a = one_word (word.name (name c)) (λ n. refl)
  con_opens c k (types.constructor d s) t a = con_enclosed (name c) t (open_at 0 (types.constructor d s)) a
  con_opens c k (types.product s u) t a = con_enclosed (name c) t (open_at 0 (types.product s u)) a
  con_opens c k (types.arrow s u) t a = con_enclosed (name c) t (open_at 0 (types.arrow s u)) a
  con_opens c k (types.meet s u) t a = con_enclosed (name c) t (open_at 0 (types.meet s u)) a

  are_opened : (t : ClosedType) → Opened (texts t) t
  are_opened types.omega = let e = one_word word.omega (λ n. refl) in record { type = e; meets = e; products = e; atom = e }
  are_opened (types.constructor c s) = let a = (are_opened s).type in record { type = con_opens c 0 s (texts s).type a; meets = con_opens c 1 s (texts s).type a; products = con_opens c 2 s (texts s).type a; atom = con_opens c 3 s (texts s).type a }
  are_opened (types.product s t) =
      let p : ProductText = product (texts s).products (texts t).atom in
      let d : ℕ = max (open_at 2 s) (open_at 3 t) in
      let e : Opens (product_words p) d = join_opens (product_words (texts s).products) (atom_words (texts t).atom) (sign kinds.Times) (open_at 2 s) (open_at 3 t) (λ n. refl) (are_opened s).products (are_opened t).atom in
      record { type = e; meets = e; products = e; atom = enclose_opens (product_words p) d e }
  are_opened (types.arrow s t) =
      let u : TypeText = arrow (texts s).meets (texts t).type in
      let d : ℕ = max (open_at 1 s) (open_at 0 t) in
      let e : Opens (type_words u) d = join_opens (meet_words (texts s).meets) (type_words (texts t).type) (sign kinds.To) (open_at 1 s) (open_at 0 t) (λ n. refl) (are_opened s).meets (are_opened t).type in
      let f = enclose_opens (type_words u) d e in
      record { type = e; meets = f; products = f; atom = f }
  are_opened (types.meet s t) =
      let m : MeetText = meet (texts s).meets (texts t).products in
      let d : ℕ = max (open_at 1 s) (open_at 2 t) in
      let e : Opens (meet_words m) d = join_opens (meet_words (texts s).meets) (product_words (texts t).products) (sign kinds.And) (open_at 1 s) (open_at 2 t) (λ n. refl) (are_opened s).meets (are_opened t).products in
      let f = enclose_opens (meet_words m) d e in
      record { type = e; meets = e; products = f; atom = f }

  pub depth_is : (t : ClosedType) → most_open 0 0 (type_words (texts t).type) ≡ open_at 0 t
  depth_is t = ap (most_open 0 0) (sym (append-nil (type_words (texts t).type))) ∙ ((are_opened t).type 0 0 [] ∙ omega arith)
