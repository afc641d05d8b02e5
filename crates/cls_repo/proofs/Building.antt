-- What the building of a library says of a draft.
use Rattle.std.proofs.Common.{◌≡◌, ℕ, zero, suc, ◌<◌, List, [], ◌∷◌, length, map, get_or, refl, sym, ap, ◌∙◌, subst, arith}
use Rattle.std.specs.Prelude.{Some, slice_get}
use Rattle.std.specs.Option.{option_map}
use Rattle.std.proofs.lemmas.List.{length-map}
use Rattle.std.proofs.lemmas.Option.{slice_get-map, get_or_from_slice_get}
use Rattle.cls_base.specs.Firsts.{First}
use Rattle.cls_base.specs.Schemas.{OpenType}
use Rattle.cls_taxon.specs.Orders.{Declared, IsOrder}
use Rattle.cls_library.specs.declared.fault.LibraryFault.{LibraryFault}
use Rattle.cls_library.specs.Libraries.{Library}
use Rattle.cls_library.specs.Refusals.{RefusesAt, IsLibraryOf}
use Rattle.cls_repo.specs.Drafts.{Component, Draft}
use Rattle.cls_repo.specs.EndFaults.{name_at, declared_in, schemas_in, library_words, end_faults}
use Rattle.cls_repo.proofs.Endings.{component_first, refused_there}

found : {A : Type 0} (xs : List A) (i : ℕ) → i < length xs → (x : A) × (slice_get xs i ≡ Some x)
found [] i l = absurd (omega arith)
found (x ∷ xs) zero l = (x, refl)
found (x ∷ xs) (suc i) l = found xs i (omega arith)

module _ (d : Draft) (order : Declared) (schemas : List OpenType) (declared : order ≡ declared_in d) (same : schemas ≡ schemas_in d) where
  pub library_of : (l : Library) → IsLibraryOf order d.kinds schemas l → IsLibraryOf (declared_in d) d.kinds (schemas_in d) l
  library_of l is = subst (λ (o : Declared). IsLibraryOf o d.kinds (schemas_in d) l) declared (subst (λ (ss : List OpenType). IsLibraryOf order d.kinds ss l) same is)

  module _ (fault : LibraryFault) (r : RefusesAt order d.kinds schemas fault) where
    refused : RefusesAt (declared_in d) d.kinds (schemas_in d) fault
    refused = subst (λ (o : Declared). RefusesAt o d.kinds (schemas_in d) fault) declared (subst (λ (ss : List OpenType). RefusesAt order d.kinds ss fault) same r)

    -- the component has a line
    pub refused_line : (lines : List ℕ) → lines ≡ map (λ c. c.line) d.components → fault.component < length lines
    refused_line lines all =
        let many = ap length all ∙ length-map d.components (λ c. c.line) in
        let there = refused_there d fault refused in
        omega (arith, many, there)

    -- the fault is the first one, at the line of the component
    pub refused_first : (n line other : ℕ) (lines : List ℕ) (x words : List ℕ) → IsOrder (declared_in d) → lines ≡ map (λ c. c.line) d.components → line ≡ get_or lines fault.component other
        → x ≡ name_at d.component_names fault.component → library_words d.variables x fault.kind ≡ Some words → First (end_faults d n) (line, words)
    refused_first n line other lines x words acyclic all at named said =
        let c = found d.components fault.component (refused_there d fault refused) in
        let stands = slice_get-map (λ (k : Component). k.line) d.components fault.component ∙ ap (option_map (λ (k : Component). k.line)) c.1 in
        let is = at ∙ (ap (λ (ls : List ℕ). get_or ls fault.component other) all ∙ get_or_from_slice_get (map (λ k. k.line) d.components) fault.component c.0.line other stands) in
        component_first d n fault c.0 line words acyclic refused c.1 is (ap (λ (y : List ℕ). library_words d.variables y fault.kind) (sym named) ∙ said)
