-- A certificate that is made in a session says what can be said, if it is within the limits of lines.
use Rattle.std.proofs.Common.{ℕ, zero, suc, ◌≡◌, ◌≤◌, ◌<◌, List, [], ◌∷◌, ◌++◌, length, map, refl, sym, ◌∙◌, ap, subst, arith, Contains}
use Rattle.std.specs.List.{AllByRecursion, AllZip, flat_map}
use Rattle.cls_base.specs.Types as types
use Rattle.cls_base.specs.Types.{ClosedType}
use Rattle.cls_base.specs.declared.rule.Rule.{Rule}
use Rattle.cls_base.proofs.Lists.{Contains-here, Contains-later}
use Rattle.cls_syntax.specs.RoundTrips.{IsProperName, HasProperNames}
use Rattle.cls_syntax.specs.TypePrinting.{name_in, HasNamesBelow}
use Rattle.cls_syntax.proofs.ReadTypes.{Below}
use Rattle.cls_taxon.specs.DecisionLaws.{is_below-reflexive, is_below-transitive, is_below-antisymmetric}
use Rattle.cls_path.specs.Paths.{Paths, none, more, listed, type_of_paths, paths_of}
use Rattle.cls_core.specs.Rows.{Row}
use Rattle.cls_library.specs.Libraries.{Library, below_in, variances_in}
use Rattle.cls_check.specs.Checking.{Accepts, by_rows, PassRows}
use Rattle.cls_proof.specs.Certificates as certificate
use Rattle.cls_proof.specs.Certificates.{ProofRow, Block, Member, Certificate}
use Rattle.cls_proof.specs.Forms.{greatest_number}
use Rattle.cls_proof.specs.RoundTrips.{IsTypeSayable, IsPlaceSayable, IsSayable, IsCertificateSayable}
use Rattle.cls_proof.specs.Statements.{Statement, inhabited, row, empty, member, block, layer, set, qed, layer_statements, block_statements, member_statements, statements_of}
use Rattle.cls_cert.specs.Conditions.{forms_of}
use Rattle.cls_cert.specs.Making.{Ranked, goal_in, HasFirst, IsMemberFor, IsRowOf, IsRowFor}
use Rattle.cls_grammar.specs.Grammars.{book_of}
use Rattle.cls_query.proofs.Searches.{all_both}
use Rattle.cls_engine.specs.Certified.{IsCertified}
use Rattle.cls_engine.specs.Goals.{Goal, IsClosed}
use Rattle.cls_replies.specs.Responder.{Responder}
use Rattle.cls_laws.specs.FedBack.{IsTypeWithin, IsWithin, IsCertificateWithin}
use Rattle.cls_laws.proofs.DraftNames.{AreProper}
use Rattle.cls_laws.proofs.GoalNames.{closure_has}
use Rattle.cls_laws.proofs.PathNames.{TypeHas, PathsHave, paths_have, paths_type, canonical_has}
use Rattle.cls_laws.proofs.ResponderNames.{IsCalled}

-- a name of the table
proper_at : (names : List (List ℕ)) → AreProper names → (c : ℕ) → c < length names → IsProperName (name_in names c)
proper_at [] h c l = absurd (omega (arith, l))
proper_at (x ∷ names) h zero l = h.0
proper_at (x ∷ names) h (suc c) l = proper_at names h.1 c (omega (arith, l))

module _ (names components : List (List ℕ)) (proper : AreProper names) (called : AreProper components) where
  abbrev K : ℕ → Type 0
  K = Below names

  type_below : (t : ClosedType) → TypeHas K t → HasNamesBelow (length names) t
  type_below types.omega h = tt
  type_below (types.constructor c s) h = (h.0, type_below s h.1)
  type_below (types.product s t) h = (type_below s h.0, type_below t h.1)
  type_below (types.arrow s t) h = (type_below s h.0, type_below t h.1)
  type_below (types.meet s t) h = (type_below s h.0, type_below t h.1)

  type_proper : (t : ClosedType) → TypeHas K t → HasProperNames (name_in names) t
  type_proper types.omega h = tt
  type_proper (types.constructor c s) h = (proper_at names proper c h.0, type_proper s h.1)
  type_proper (types.product s t) h = (type_proper s h.0, type_proper t h.1)
  type_proper (types.arrow s t) h = (type_proper s h.0, type_proper t h.1)
  type_proper (types.meet s t) h = (type_proper s h.0, type_proper t h.1)

  type_sayable : (t : ClosedType) → IsTypeWithin t → TypeHas K t → IsTypeSayable names components t
  type_sayable t w h = record { below = type_below t h; proper = type_proper t h; few = w.few; shallow = w.shallow; narrow = w.narrow }

  place_sayable : (x n : ℕ) → x < length components → n ≤ greatest_number → IsPlaceSayable names components x n
  place_sayable x n l m = record { below = l; proper = proper_at components called x l; within = m }

  -- what has to be known of a statement beside its limits
  abbrev Named : Statement → Type 0
  Named (row r) = TypeHas K r.goal × (r.component < length components)
  Named (member t) = TypeHas K t
  Named (block x n) = x < length components
  Named _ = Unit {0}

  one_sayable : (s : Statement) → IsWithin s → Named s → IsSayable names components s
  one_sayable inhabited w h = tt
  one_sayable (row r) w h = (type_sayable r.goal w.0 h.0, place_sayable r.component r.n h.1 w.1, w.2)
  one_sayable empty w h = tt
  one_sayable (member t) w h = type_sayable t w h
  one_sayable (block x n) w h = place_sayable x n h w
  one_sayable layer w h = tt
  one_sayable (set ns) w h = w
  one_sayable qed w h = tt

  all_sayable : (ss : List Statement) → AllByRecursion IsWithin ss → AllByRecursion Named ss → AllByRecursion (IsSayable names components) ss
  all_sayable [] w h = tt
  all_sayable (s ∷ ss) w h = (one_sayable s w.0 h.0, all_sayable ss w.1 h.1)

  sets_named : (sets : List (List ℕ)) → AllByRecursion Named (map (λ s. set s) sets)
  sets_named [] = tt
  sets_named (s ∷ sets) = (tt, sets_named sets)

  layers_named : (layers : List (List (List ℕ))) → AllByRecursion Named (flat_map layer_statements layers)
  layers_named [] = tt
  layers_named (sets ∷ layers) = (tt, all_both Named (map (λ s. set s) sets) (flat_map layer_statements layers) (sets_named sets) (layers_named layers))

  blocks_named : (bs : List Block) → ((b : Block) → Contains bs b → b.component < length components) → AllByRecursion Named (flat_map block_statements bs)
  blocks_named [] f = tt
  blocks_named (b ∷ bs) f =
      (f b (Contains-here b bs), all_both Named (flat_map layer_statements b.layers) (flat_map block_statements bs) (layers_named b.layers) (blocks_named bs (λ x c. f x (Contains-later x b bs c))))

  -- THE CERTIFICATE OF ROWS
  module _ (l : Library) (counted : length components ≡ length l.components) (goals : List Paths) (book : List (List (Rule ℕ))) (known : (i : ℕ) → PathsHave K (goal_in goals i)) where
    in_table : (x : ℕ) → x < length l.components → x < length components
    in_table x h = omega (arith, h, counted)

    row_goal : (g : Paths) (e : Ranked) (r : ProofRow) → goal_in goals e.number ≡ g → IsRowOf l goals book g e r → r.goal ≡ type_of_paths (goal_in goals e.number)
    row_goal none e r same h = ap (λ (x : ProofRow). x.goal) h ∙ ap type_of_paths (sym same)
    row_goal (more q rest) e r same h = ap (λ (x : ProofRow). x.goal) h.row_is

    goal_known : (t : ClosedType) (i : ℕ) → t ≡ type_of_paths (goal_in goals i) → TypeHas K t
    goal_known t i e = subst (λ (u : ClosedType). TypeHas K u) (sym e) (paths_type K (goal_in goals i) (known i))

    rows_named : (es : List Ranked) (earlier rows : List ProofRow) → AllZip (IsRowFor l goals book) es rows → PassRows l earlier rows → AllByRecursion Named (map (λ r. row r) rows)
    rows_named [] earlier [] z p = tt
    rows_named [] earlier (r ∷ rows) z p = absurd z
    rows_named (e ∷ es) earlier [] z p = absurd z
    rows_named (e ∷ es) earlier (r ∷ rows) z p = (
      (goal_known r.goal e.number (row_goal (goal_in goals e.number) e r refl z.0), in_table r.component p.0.arrow.0.declared),
      rows_named es (earlier ++ r ∷ []) rows z.1 p.1,
    )

    first_declared : (g : Paths) (x n : ℕ) → HasFirst l g x n → x < length l.components
    first_declared none x n h = absurd h
    first_declared (more q rest) x n h = h.0

    member_named : (i : ℕ) (m : Member) → IsMemberFor l (goal_in goals i) m → AllByRecursion Named (member_statements m)
    member_named i m h = (
      goal_known m.goal i h.type,
      blocks_named m.blocks (λ b c. in_table b.component (first_declared (goal_in goals i) b.component b.n ((h.exactly b.component b.n).0 (b, c, refl, refl)))),
    )

    members_named : (is : List ℕ) (ms : List Member) → AllZip (λ i m. IsMemberFor l (goal_in goals i) m) is ms → AllByRecursion Named (flat_map member_statements ms)
    members_named [] [] z = tt
    members_named [] (m ∷ ms) z = absurd z
    members_named (i ∷ is) [] z = absurd z
    members_named (i ∷ is) (m ∷ ms) z = all_both Named (member_statements m) (flat_map member_statements ms) (member_named i m z.0) (members_named is ms z.1)

-- A SESSION
module _ (s : Responder) (called : IsCalled s) (t : ClosedType) (known : TypeHas (Below s.names) t) where
  abbrev lib : Library
  lib = s.engine.library

  -- the goals of the type's closure
  goals_known : (rows : List (Row Goal)) → IsClosed lib t rows → (i : ℕ) → PathsHave (Below s.names) (goal_in (forms_of rows) i)
  goals_known rows closed =
      let form = closed.is_goal in
      let first : PathsHave (Below s.names) (listed closed.goal) = canonical_has (Below s.names) (below_in lib.taxonomy) (variances_in lib.taxonomy) (is_below-reflexive lib.taxonomy) (is_below-transitive lib.taxonomy) (is_below-antisymmetric lib.taxonomy) (listed closed.goal) (paths_of (variances_in lib.taxonomy) t) form.normal.canonical form.lower form.upper (paths_have (Below s.names) (variances_in lib.taxonomy) t known) in
      closure_has (Below s.names) lib called.known t rows closed first

  statements_named : (c : Certificate) → IsCertified lib t c → Accepts lib t c → AllByRecursion (Named s.names s.components called.proper called.called) (statements_of c)
  statements_named (certificate.inhabited ps) (rows, closed, made) (by_rows passes ends) =
      let N : Statement → Type 0 = Named s.names s.components called.proper called.called in
      (tt, all_both N (map (λ r. row r) ps) (qed ∷ []) (rows_named s.names s.components called.proper called.called lib called.counted (forms_of rows) (book_of rows) (goals_known rows closed) _ [] ps made.1.made passes) (tt, tt))
  statements_named (certificate.empty ms) (rows, closed, made) accepts =
      let N : Statement → Type 0 = Named s.names s.components called.proper called.called in
      (tt, all_both N (flat_map member_statements ms) (qed ∷ []) (members_named s.names s.components called.proper called.called lib called.counted (forms_of rows) (book_of rows) (goals_known rows closed) made.1.unproductive ms made.1.made) (tt, tt))

  pub certificate_sayable : (c : Certificate) → IsCertified lib t c → Accepts lib t c → IsCertificateWithin s.names s.components c → IsCertificateSayable s.names s.components c
  certificate_sayable c made accepts w = record {
    sayable = all_sayable s.names s.components called.proper called.called (statements_of c) w.within (statements_named c made accepts);
    short = w.short;
  }
