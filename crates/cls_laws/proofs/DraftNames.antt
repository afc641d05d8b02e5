-- Each number of a constructor in what a repository declares is the number of a name in its table. Each name there is one of
-- the language, and no two constructors have one name.
use Rattle.std.proofs.Common.{ℕ, zero, suc, ◌≡◌, ◌+◌, ◌≤◌, ◌<◌, true, false, List, [], ◌∷◌, ◌++◌, length, map, refl, sym, ◌∙◌, ap, subst, inl, inr, Option, Some, None, arith, length-append}
use Rattle.std.specs.Prelude.{if◌then◌else◌}
use Rattle.std.specs.List.{list_any, AllByRecursion, IsDistinct}
use Rattle.std.specs.Str.{bytes_eq}
use Rattle.cls_base.specs.Types as types
use Rattle.cls_base.specs.Types.{ClosedType}
use Rattle.cls_base.specs.Schemas as schemas
use Rattle.cls_base.specs.Schemas.{OpenType}
use Rattle.cls_lexer.specs.Names.{number_of, with_text, with_texts}
use Rattle.cls_lexer.specs.Words.{Word, sign}
use Rattle.cls_lexer.specs.declared.token.TokenKind.TheVariants.{To, And, Times, Close, Bar}
use Rattle.cls_syntax.specs.declared.role.Role.TheVariants.{Constructor}
use Rattle.cls_syntax.specs.ClosedTypes.{opened, Spells, AreSpelled}
use Rattle.cls_syntax.specs.Forms as form
use Rattle.cls_syntax.specs.Forms.{Part, fixed, naming, numeral, part_word, type_parts, meet_parts, product_parts, atom_parts, types_parts, constructors_named}
use Rattle.cls_syntax.specs.RoundTrips.{IsProperName}
use Rattle.cls_syntax.specs.TypeSchemas.{type_schema, meet_schema, product_schema, atom_schema}
use Rattle.cls_syntax.specs.TypeTexts.{TypeText, MeetText, ProductText, AtomText, TypeList, last, more, only_meet, arrow, only_product, meet, only_atom, product, named, applied, variable, inside}
use Rattle.cls_syntax.specs.TypeTexts as grammar
use Rattle.cls_syntax.proofs.ReadTypes.{AllGood, AllHeld, Below, below_of, held_by, line_proper}
use Rattle.cls_proof.proofs.ReadCertificates.{distinct_all}
use Rattle.cls_query.proofs.Numbering.{named_both, grown_texts}
use Rattle.cls_query.proofs.Searches.{all_both}
use Rattle.cls_assemble.specs.declared.piece.Piece.TheVariants.{Byte}
use Rattle.cls_lexer.specs.Numerals.{number_value}
use Rattle.cls_repo.specs.Declarations.{Declares, AreChoices, changed_at, with_names}
use Rattle.cls_repo.specs.Directives as directive
use Rattle.cls_repo.specs.Directives.{Directive, LineSays, parts_of}
use Rattle.cls_repo.specs.Drafts.{Component, Draft}
use Rattle.cls_repo.specs.Readings.{Reading, no_reading, Takes, skipped, declares, TakesAll}
use Rattle.cls_session.specs.Repositories.{IsRepository}
use Rattle.cls_laws.proofs.LibraryNames.{SchemaHas, EachType, KindsHave}
use Rattle.cls_laws.proofs.PathNames.{TypeHas}

abbrev pub AreProper : List (List ℕ) → Type 0
AreProper names = AllByRecursion IsProperName names

-- NAMES OF THE LANGUAGE
one_proper : (names : List (List ℕ)) (x : List ℕ) → AreProper names → IsProperName x → AreProper (with_text names x)
one_proper names x h k = elim (list_any (bytes_eq x) names) as (λ b. AreProper (if b then names else names ++ x ∷ [])) [
  | true ↦ h
  | false ↦ all_both IsProperName names (x ∷ []) h (k, tt)
]

pub grown_proper : (names xs : List (List ℕ)) → AreProper names → AreProper xs → AreProper (with_texts names xs)
grown_proper names [] h k = h
grown_proper names (x ∷ xs) h k = grown_proper (with_text names x) xs (one_proper names x h k.0) k.1

pub parts_proper : (ps : List Part) → AllGood IsProperName (map part_word ps) → AreProper (constructors_named ps)
parts_proper [] h = tt
parts_proper (fixed w ∷ ps) h = parts_proper ps h.1
parts_proper (numeral l g d ∷ ps) h = parts_proper ps h.1
parts_proper (naming Constructor x ∷ ps) h = (h.0, parts_proper ps h.1)
parts_proper (naming _ x ∷ ps) h = parts_proper ps h.1

said_words : (line : List ℕ) (said : Directive) → LineSays line said → AllGood IsProperName (map part_word (parts_of said))
said_words line (directive.sub a b) h = subst (λ (ws : List Word). AllGood IsProperName ws) (sym h.says.spelled) (line_proper line)
said_words line (directive.kind x ts) h = subst (λ (ws : List Word). AllGood IsProperName ws) (sym h.says.spelled) (line_proper line)
said_words line (directive.comp x t) h = subst (λ (ws : List Word). AllGood IsProperName ws) (sym h.says.spelled) (line_proper line)
said_words line (directive.text x ws) h = subst (λ (us : List Word). AllGood IsProperName us) (sym h.says.spelled) (line_proper line)
said_words line directive.end h = subst (λ (ws : List Word). AllGood IsProperName ws) (sym h.says.spelled) (line_proper line)
said_words line (directive.cost x ds) h = subst (λ (ws : List Word). AllGood IsProperName ws) (sym h.says.spelled) (line_proper line)
said_words line (directive.variance c w) h = subst (λ (ws : List Word). AllGood IsProperName ws) (sym h.says.spelled) (line_proper line)
said_words line (directive.filter f q qs) h = subst (λ (ws : List Word). AllGood IsProperName ws) (sym h.says.spelled) (line_proper line)
said_words line (directive.leaf f x q) h = subst (λ (ws : List Word). AllGood IsProperName ws) (sym h.says.spelled) (line_proper line)
said_words line (directive.app f p q r) h = subst (λ (ws : List Word). AllGood IsProperName ws) (sym h.says.spelled) (line_proper line)
said_words line (directive.other f q) h = subst (λ (ws : List Word). AllGood IsProperName ws) (sym h.says.spelled) (line_proper line)

-- NUMBERS BELOW THE LENGTH OF A TABLE
pub no_fewer : (names xs : List (List ℕ)) → length names ≤ length (with_texts names xs)
no_fewer names xs =
    let g = grown_texts names xs in
    let e : length (with_texts names xs) ≡ length names + length g.more = ap length g.joined ∙ length-append names g.more in
    omega (arith, e)

module _ (K L : ℕ → Type 0) (to : (c : ℕ) → K c → L c) where
  pub type_to : (t : ClosedType) → TypeHas K t → TypeHas L t
  type_to types.omega h = tt
  type_to (types.constructor c s) h = (to c h.0, type_to s h.1)
  type_to (types.product s t) h = (type_to s h.0, type_to t h.1)
  type_to (types.arrow s t) h = (type_to s h.0, type_to t h.1)
  type_to (types.meet s t) h = (type_to s h.0, type_to t h.1)

  types_to : (ts : List ClosedType) → EachType K ts → EachType L ts
  types_to [] h = tt
  types_to (t ∷ ts) h = (type_to t h.0, types_to ts h.1)

  pub kinds_to : (ks : List (ℕ × List ClosedType)) → KindsHave K ks → KindsHave L ks
  kinds_to [] h = tt
  kinds_to (k ∷ ks) h = (types_to k.1 h.0, kinds_to ks h.1)

  schema_to : (s : OpenType) → SchemaHas K s → SchemaHas L s
  schema_to schemas.omega h = tt
  schema_to (schemas.constructor c s) h = (to c h.0, schema_to s h.1)
  schema_to (schemas.product s t) h = (schema_to s h.0, schema_to t h.1)
  schema_to (schemas.arrow s t) h = (schema_to s h.0, schema_to t h.1)
  schema_to (schemas.meet s t) h = (schema_to s h.0, schema_to t h.1)
  schema_to (schemas.variable v) h = tt

  components_to : (cs : List Component) → AllByRecursion (λ (c : Component). SchemaHas K c.schema) cs → AllByRecursion (λ (c : Component). SchemaHas L c.schema) cs
  components_to [] h = tt
  components_to (c ∷ cs) h = (schema_to c.schema h.0, components_to cs h.1)

pub held_both : (names xs ys : List (List ℕ)) → AllHeld names (xs ++ ys) → AllHeld names xs × AllHeld names ys
held_both names [] ys h = (tt, h)
held_both names (x ∷ xs) ys h = let p = held_both names xs ys h.1 in ((h.0, p.0), p.1)

-- the names of a type that is spelled, among parts
module _ (names : List (List ℕ)) (v : List ℕ → ℕ) where
  abbrev Known : List Part → Type 0
  Known ps = AllHeld names (constructors_named ps)

  pub parts_known : (ps qs : List Part) → Known (ps ++ qs) → Known ps × Known qs
  parts_known ps qs h = held_both names (constructors_named ps) (constructors_named qs) (subst (λ (xs : List (List ℕ)). AllHeld names xs) (named_both ps qs) h)

  mutual
    pub type_spelled : (t : TypeText) → Known (type_parts t) → SchemaHas (Below names) (type_schema (number_of names) v t)
    type_spelled (only_meet m) h = meet_spelled m h
    type_spelled (arrow m t) h = let p = parts_known (meet_parts m) (fixed (sign To) ∷ type_parts t) h in (meet_spelled m p.0, type_spelled t p.1)

    meet_spelled : (m : MeetText) → Known (meet_parts m) → SchemaHas (Below names) (meet_schema (number_of names) v m)
    meet_spelled (only_product p) h = product_spelled p h
    meet_spelled (meet m p) h = let q = parts_known (meet_parts m) (fixed (sign And) ∷ product_parts p) h in (meet_spelled m q.0, product_spelled p q.1)

    product_spelled : (p : ProductText) → Known (product_parts p) → SchemaHas (Below names) (product_schema (number_of names) v p)
    product_spelled (only_atom a) h = atom_spelled a h
    product_spelled (product p a) h = let q = parts_known (product_parts p) (fixed (sign Times) ∷ atom_parts a) h in (product_spelled p q.0, atom_spelled a q.1)

    atom_spelled : (a : AtomText) → Known (atom_parts a) → SchemaHas (Below names) (atom_schema (number_of names) v a)
    atom_spelled grammar.omega h = tt
    atom_spelled (named x) h = (below_of names x h.0, tt)
    atom_spelled (applied x t) h = (below_of names x h.0, type_spelled t (parts_known (type_parts t) (fixed (sign Close) ∷ []) h.1).0)
    atom_spelled (variable x) h = tt
    atom_spelled (inside t) h = type_spelled t (parts_known (type_parts t) (fixed (sign Close) ∷ []) h).0

closed_has : (K : ℕ → Type 0) (t : ClosedType) → SchemaHas K (opened t) → TypeHas K t
closed_has K types.omega h = tt
closed_has K (types.constructor c s) h = (h.0, closed_has K s h.1)
closed_has K (types.product s t) h = (closed_has K s h.0, closed_has K t h.1)
closed_has K (types.arrow s t) h = (closed_has K s h.0, closed_has K t h.1)
closed_has K (types.meet s t) h = (closed_has K s h.0, closed_has K t h.1)

module _ (names : List (List ℕ)) where
  pub closed_spelled : (t : TypeText) (u : ClosedType) → Spells (number_of names) t u → AllHeld names (constructors_named (type_parts t)) → TypeHas (Below names) u
  closed_spelled t u s h = closed_has (Below names) u (subst (λ (o : OpenType). SchemaHas (Below names) o) (sym (s (λ x. 0))) (type_spelled names (λ x. 0) t h))

  all_spelled : (ts : TypeList) (us : List ClosedType) → AreSpelled (number_of names) ts us → AllHeld names (constructors_named (types_parts ts)) → EachType (Below names) us
  all_spelled (last t) us (u, s, e) h = subst (λ (xs : List ClosedType). EachType (Below names) xs) (sym e) (closed_spelled t u s h, tt)
  all_spelled (more t ts) us (u, rest, s, all, e) h =
      let p = parts_known names (λ x. 0) (type_parts t) (fixed (sign Bar) ∷ types_parts ts) h in
      subst (λ (xs : List ClosedType). EachType (Below names) xs) (sym e) (closed_spelled t u s p.0, all_spelled ts rest all p.1)

  choices_spelled : (ts : Option TypeList) (us : List ClosedType) → AreChoices (number_of names) ts us → AllHeld names (constructors_named (form.line_parts (form.perhaps form.types) ts)) → EachType (Below names) us
  choices_spelled None us e h = subst (λ (xs : List ClosedType). EachType (Below names) xs) (sym e) tt
  choices_spelled (Some ts) us s h = all_spelled ts us s h

-- DRAFTS
pub record IsNamed (d : Draft) : Type 0 where
  pub apart : IsDistinct bytes_eq d.names
  pub proper : AreProper d.names
  pub called : AreProper d.component_names
  pub typed : AllByRecursion (λ (c : Component). SchemaHas (Below d.names) c.schema) d.components
  pub ranged : KindsHave (Below d.names) d.kinds

pub below_more : (names xs : List (List ℕ)) (c : ℕ) → Below names c → Below (with_texts names xs) c
below_more names xs c h = let n = no_fewer names xs in let l : c < length names = h in omega (arith, n, l)

abbrev new_names : Directive → List (List ℕ)
new_names said = constructors_named (parts_of said)

with_named : (d : Draft) (line : List ℕ) (said : Directive) → LineSays line said → IsNamed d → IsNamed (with_names d said)
with_named d line said says h =
    let K : ℕ → Type 0 = Below d.names in
    let L : ℕ → Type 0 = Below (with_texts d.names (new_names said)) in
    record {
      apart = distinct_all d.names (new_names said) h.apart;
      proper = grown_proper d.names (new_names said) h.proper (parts_proper (parts_of said) (said_words line said says));
      called = h.called;
      typed = components_to K L (below_more d.names (new_names said)) d.components h.typed;
      ranged = kinds_to K L (below_more d.names (new_names said)) d.kinds h.ranged;
    }

changed_typed : (K : ℕ → Type 0) (i : ℕ) (f : Component → Component) (cs : List Component) → ((c : Component) → SchemaHas K c.schema → SchemaHas K (f c).schema) → AllByRecursion (λ (c : Component). SchemaHas K c.schema) cs → AllByRecursion (λ (c : Component). SchemaHas K c.schema) (changed_at i f cs)
changed_typed K i f [] g h = tt
changed_typed K zero f (c ∷ cs) g h = (g c h.0, h.1)
changed_typed K (suc i) f (c ∷ cs) g h = (h.0, changed_typed K i f cs g h.1)

-- a line more
declared_named : (d : Draft) (n : ℕ) (line : List ℕ) (said : Directive) (new : Draft) → LineSays line said → Declares d n line said new → IsNamed d → IsNamed new
declared_named d n line (directive.sub a b) new says e h =
    let w = with_named d line (directive.sub a b) says h in
    subst IsNamed (sym e) record { apart = w.apart; proper = w.proper; called = w.called; typed = w.typed; ranged = w.ranged }
declared_named d n line (directive.kind x ts) new says (us, choices, e) h =
    let said = directive.kind x ts in
    let w = with_named d line said says h in
    let names : List (List ℕ) = with_texts d.names (new_names said) in
    let held : AllHeld names (new_names said) = held_by d.names (new_names said) names refl in
    subst IsNamed (sym e) record {
      apart = w.apart;
      proper = w.proper;
      called = w.called;
      typed = w.typed;
      ranged = all_both (λ (k : ℕ × List ClosedType). EachType (Below names) k.1) d.kinds ((number_of (with_names d said).variables x, us) ∷ []) w.ranged (choices_spelled names ts us choices held, tt);
    }
declared_named d n line (directive.comp x t) new says e h =
    let said = directive.comp x t in
    let w = with_named d line said says h in
    let after = with_names d said in
    let words = said_words line said says in
    let held : AllHeld after.names (new_names said) = held_by d.names (new_names said) after.names refl in
    let v : List ℕ → ℕ = number_of after.variables in
    let schema = type_spelled after.names v t (parts_known after.names v (type_parts t) [] held).0 in
    let c : Component = record { schema = type_schema (number_of after.names) v t; line = n; template = map Byte x; cost = 1 } in
    subst IsNamed (sym e) record {
      apart = w.apart;
      proper = w.proper;
      called = all_both IsProperName d.component_names (x ∷ []) w.called (words.1.0, tt);
      typed = all_both (λ (c : Component). SchemaHas (Below after.names) c.schema) d.components (c ∷ []) w.typed (schema, tt);
      ranged = w.ranged;
    }
declared_named d n line (directive.text x ws) new says (pieces, template, e) h =
    let change : Component → Component = λ c. record c { template = pieces } in
    subst IsNamed (sym e) record {
      apart = h.apart;
      proper = h.proper;
      called = h.called;
      typed = changed_typed (Below d.names) (number_of d.component_names x) change d.components (λ c k. k) h.typed;
      ranged = h.ranged;
    }
declared_named d n line directive.end new says e h = subst IsNamed (sym e) h
declared_named d n line (directive.cost x digits) new says e h =
    let change : Component → Component = λ c. record c { cost = number_value digits } in
    subst IsNamed (sym e) record {
      apart = h.apart;
      proper = h.proper;
      called = h.called;
      typed = changed_typed (Below d.names) (number_of d.component_names x) change d.components (λ c k. k) h.typed;
      ranged = h.ranged;
    }
declared_named d n line (directive.variance c word) new says e h =
    let w = with_named d line (directive.variance c word) says h in
    subst IsNamed (sym e) record { apart = w.apart; proper = w.proper; called = w.called; typed = w.typed; ranged = w.ranged }
declared_named d n line (directive.filter f q qs) new says e h =
    subst IsNamed (sym e) record { apart = h.apart; proper = h.proper; called = h.called; typed = h.typed; ranged = h.ranged }
declared_named d n line (directive.leaf f x q) new says e h =
    subst IsNamed (sym e) record { apart = h.apart; proper = h.proper; called = h.called; typed = h.typed; ranged = h.ranged }
declared_named d n line (directive.app f p q r) new says e h =
    subst IsNamed (sym e) record { apart = h.apart; proper = h.proper; called = h.called; typed = h.typed; ranged = h.ranged }
declared_named d n line (directive.other f q) new says e h =
    subst IsNamed (sym e) record { apart = h.apart; proper = h.proper; called = h.called; typed = h.typed; ranged = h.ranged }

taken_named : (old : Reading) (line : List ℕ) (new : Reading) → Takes old line new → IsNamed old.draft → IsNamed new.draft
taken_named old line new (skipped s e) h = subst (λ (r : Reading). IsNamed r.draft) (sym e) h
taken_named old line new (declares said says silent draft d e) h =
    subst (λ (r : Reading). IsNamed r.draft) (sym e) (declared_named old.draft (old.lines + 1) line said draft says d h)

all_named : (old : Reading) (lines : List (List ℕ)) (new : Reading) → TakesAll old lines new → IsNamed old.draft → IsNamed new.draft
all_named old [] new e h = subst (λ (r : Reading). IsNamed r.draft) (sym e) h
all_named old (line ∷ lines) new (next, t, inl (over, e)) h = subst (λ (r : Reading). IsNamed r.draft) (sym e) (taken_named old line next t h)
all_named old (line ∷ lines) new (next, t, inr (going, rest)) h = all_named next lines new rest (taken_named old line next t h)

none_apart : IsDistinct bytes_eq no_reading.draft.names
unfolding IsDistinct
none_apart = tt

pub repository_named : (repository : List (List ℕ)) (end : List ℕ) (d : Draft) → IsRepository repository end d → IsNamed d
repository_named repository end d h =
    let none : IsNamed no_reading.draft = record { apart = none_apart; proper = tt; called = tt; typed = tt; ranged = tt } in
    let before = all_named no_reading repository h.before h.taken.taken none in
    subst IsNamed (sym h.declares) (taken_named h.before end h.reading h.ends before)
