-- What is wrong with a repository once all its lines were taken.
use Rattle.std.proofs.Common.{◌≡◌, ℕ, ◌<◌, false, true, List, ◌∷◌, length, refl, sym, ap, ◌∙◌, subst, arith, inl, inr, Contains, length-append}
use Rattle.std.proofs.lemmas.List.{length-map}
use Rattle.std.proofs.lemmas.List.Elements.{Contains-append_right}
use Rattle.std.specs.Prelude.{codes, Option, Some, None, slice_get}
use Rattle.cls_base.specs.Firsts.{IsSilent, First}
use Rattle.cls_taxon.specs.declared.fault.TaxonFault.{TaxonFault}
use Rattle.cls_taxon.specs.declared.fault.TaxonFault.TheVariants.{Cycle, Mix, OutOfMemory}
use Rattle.cls_taxon.specs.Faults.{IsFaultOf}
use Rattle.cls_taxon.specs.Orders.{IsOrder, IsOnCycle}
use Rattle.cls_library.specs.declared.fault.LibraryFault.{LibraryFault}
use Rattle.cls_library.specs.Libraries.{Library}
use Rattle.cls_library.specs.Refusals.{RefusesAt, IsLibraryOf}
use Rattle.cls_library.proofs.LibraryLaws.{refusal-exact}
use Rattle.cls_repo.specs.Drafts.{Component, Draft}
use Rattle.cls_repo.specs.EndFaults.{name_at, declared_in, schemas_in, library_words, cycle, variance_mix, refused_component, end_faults}
use Rattle.cls_repo.specs.Readings.{Reading, no_end, closing_faults}
use Rattle.cls_repo.specs.Written.{order_words, IsOrderFault}
use Rattle.cls_repo.proofs.Causes.{silent_cons, each_silent}

module _ (d : Draft) (n : ℕ) where
  cycle_silent : ((a : ℕ) → IsOnCycle d.pairs a → ⊥) → IsSilent (cycle d n)
  cycle_silent none said h = none h.0 h.1.0

  mix_silent : IsOrder (declared_in d) → IsSilent (variance_mix d n)
  mix_silent order said h =
      let m = h.1 in
      m.4 (order.keeps (h.0, m.2) (subst (λ (ps : List (ℕ × ℕ)). Contains ps (h.0, m.2)) (sym m.3) (Contains-append_right m.0 ((h.0, m.2) ∷ m.1) (h.0, m.2) (0, omega arith, refl))))

  -- a fault of the order of names is the first
  by_order : (fault : TaxonFault) (words : List ℕ) → IsFaultOf (declared_in d) fault → order_words d.names fault ≡ Some words → First (end_faults d n) (n, words)
  by_order (Cycle a) words is e = inl (a.0, is, ap (λ (us : List ℕ). (n, us)) (some_one e))
    where
      some_one : {us vs : List ℕ} → ◌≡◌ {A = Option (List ℕ)} (Some us) (Some vs) → vs ≡ us
      some_one h = cc
  by_order (Mix a) words is e = inr (cycle_silent is.0, inl (a.0, is.1, ap (λ (us : List ℕ). (n, us)) (some_one e)))
    where
      some_one : {us vs : List ℕ} → ◌≡◌ {A = Option (List ℕ)} (Some us) (Some vs) → vs ≡ us
      some_one h = cc
  by_order OutOfMemory words is e = absurd (cc)

  pub order_first : (words : List ℕ) → IsOrderFault d words → First (end_faults d n) (n, words)
  order_first words f = by_order f.fault words f.is f.said

  -- a refused component is the first fault where the names are in order
  pub component_first : (fault : LibraryFault) (component : Component) (line : ℕ) (words : List ℕ) → IsOrder (declared_in d) → RefusesAt (declared_in d) d.kinds (schemas_in d) fault
      → slice_get d.components fault.component ≡ Some component → line ≡ component.line → library_words d.variables (name_at d.component_names fault.component) fault.kind ≡ Some words
      → First (end_faults d n) (line, words)
  component_first fault component line words order refused at is e = inr (cycle_silent order.acyclic, inr (mix_silent order, inl (fault, component, refused, at, is, e)))

  -- an order of names and a library leave nothing to be said
  pub end_silent : (l : Library) → IsOrder (declared_in d) → IsLibraryOf (declared_in d) d.kinds (schemas_in d) l → IsSilent (First (end_faults d n))
  end_silent l order is =
      let accepted : IsSilent (refused_component d) = λ said h.
      let memory = refusal-exact (declared_in d) d.kinds (schemas_in d) l h.0 is h.2 in
      let none : None ≡ Some said.1 = sym (ap (library_words d.variables (name_at d.component_names h.0.component)) memory) ∙ h.5 in absurd (cc) in
      each_silent (end_faults d n) (cycle_silent order.acyclic, (mix_silent order, (accepted, tt)))

-- the component that is refused is there
pub refused_there : (d : Draft) (fault : LibraryFault) → RefusesAt (declared_in d) d.kinds (schemas_in d) fault → fault.component < length d.components
refused_there d fault r =
    let many = ap length r.split ∙ length-append r.before (r.schema ∷ r.after) in
    let same = length-map d.components (λ c. c.schema) in
    let at = r.number in
    omega (arith, many, same, at)

-- a line that ends the repository is there
pub ended_first : (r : Reading) (said : ℕ × List ℕ) → r.ended ≡ true → First (end_faults r.draft r.lines) said → First (closing_faults r) said
ended_first r said e h = inr ((λ t k. let f = sym e ∙ k.0 in absurd (cc)), h)

pub ended_silent : (r : Reading) → r.ended ≡ true → IsSilent (First (end_faults r.draft r.lines)) → IsSilent (First (closing_faults r))
ended_silent r e s = silent_cons (no_end r) (end_faults r.draft r.lines) (λ t k. let f = sym e ∙ k.0 in absurd (cc)) s

pub no_end_first : (r : Reading) → r.ended ≡ false → First (closing_faults r) (r.lines, codes "no-end")
no_end_first r e = inl (e, refl)
