-- What answers the lines after a repository is by a library, whose components cost at least 1.
use Rattle.std.proofs.Common.{ℕ, zero, suc, ◌+◌, ◌≤◌, ◌<◌, inl, inr, sym, subst, arith, List, [], ◌∷◌, length}
use Rattle.std.specs.Prelude.{All, map, slice_index_or}
use Rattle.std.specs.List.{AllByRecursion}
use Rattle.std.proofs.lemmas.List.Elements.{All-cons}
use Rattle.cls_base.specs.Limits.{max_components, max_library_weight}
use Rattle.cls_base.specs.Schemas.{OpenType}
use Rattle.cls_base.specs.Types.{ClosedType}
use Rattle.cls_filter.specs.Automata.{Automaton}
use Rattle.cls_filter.specs.Lines.{no_lines}
use Rattle.cls_filter.specs.States.{IsAutomaton}
use Rattle.cls_kind.specs.Kinds.{instances_of}
use Rattle.cls_taxon.specs.Orders.{Declared}
use Rattle.cls_library.specs.Libraries.{Library, Component, IsLibrary, IsWithinLimits, AreComponentsOf, no_components, one_component, below_in, variances_in, all_of, weight_of, total_of}
use Rattle.cls_library.specs.Refusals.{AreAccepted, IsLibraryOf}
use Rattle.cls_library.proofs.Gathering.{acceptable-arity}
use Rattle.cls_library.proofs.Splitting.{arity-form}
use Rattle.cls_engine.specs.declared.options.Options.{Options}
use Rattle.cls_repo.specs.Drafts as drafts
use Rattle.cls_repo.specs.Drafts.{Draft, DraftFilter}
use Rattle.cls_repo.specs.Readings.{Reading, no_reading, TakesAll}
use Rattle.cls_repo.specs.Sound.{IsCost, IsSound}
use Rattle.cls_repo.proofs.SmallStates.{no_lines_small}
use Rattle.cls_repo.proofs.Soundness.{no_draft_sound, taken_sound}
use Rattle.cls_term.specs.Costs.{cost_of}
use Rattle.cls_replies.specs.Responder.{Responder, Serves, AreHeld}
use Rattle.cls_session.specs.Repositories.{IsRepository}
use Rattle.cls_session.specs.Transcripts.{IsAnswered}
use Rattle.cls_laws.proofs.ChangedLibraries.{light_instances}
use Rattle.cls_laws.proofs.Replies.{CanAnswer, replies_can}

-- THE LIBRARY
module _ (d : Declared) (kinds : List (ℕ × List ClosedType)) where
  within_limits : (number weight : ℕ) {ss : List OpenType} {cs : List Component} → AreAccepted d kinds number weight ss → AreComponentsOf d kinds ss cs → All (IsWithinLimits d) cs
  within_limits number weight a no_components = λ k e h. absurd (omega arith)
  within_limits number weight a (one_component {s = s} {ss = ss} {c = c} {cs = cs} h hs) =
      let ts = instances_of kinds s in
      let same = arity-form (below_in d) (variances_in d) (all_of ts) c.paths h.form in
      let few = acceptable-arity (variances_in d) weight ts a.0.acceptable in
      All-cons (IsWithinLimits d) c cs (record { normal = h.form.normal; arity = omega arith }) (within_limits (number + 1) (weight + weight_of ts) a.1 hs)

  few_components : (number weight : ℕ) {ss : List OpenType} {cs : List Component} → number ≤ max_components → AreAccepted d kinds number weight ss → AreComponentsOf d kinds ss cs → number + length cs ≤ max_components
  few_components number weight few a no_components = omega arith
  few_components number weight few a (one_component {s = s} {cs = cs} h hs) =
      let room = a.0.room in
      let rest = few_components (number + 1) (weight + weight_of (instances_of kinds s)) (omega arith) a.1 hs in
      omega arith

  light_components : (number weight : ℕ) {ss : List OpenType} {cs : List Component} → weight ≤ max_library_weight → AreAccepted d kinds number weight ss → AreComponentsOf d kinds ss cs → weight + total_of cs ≤ max_library_weight
  light_components number weight light a no_components = omega arith
  light_components number weight light a (one_component {s = s} {c = c} {cs = cs} h hs) =
      let ts = instances_of kinds s in
      let now = light_instances d weight ts light a.0.acceptable in
      let is = h.weight in
      let rest = light_components (number + 1) (weight + weight_of ts) now a.1 hs in
      omega arith

  pub library_law : (ss : List OpenType) (l : Library) → IsLibraryOf d kinds ss l → IsLibrary l
  library_law ss l h = record {
    each = subst (λ (e : Declared). All (IsWithinLimits e) l.components) (sym h.taxonomy) (within_limits 0 0 h.accepted h.components);
    few = (let f = few_components 0 0 (omega arith) h.accepted h.components in omega arith);
    light = (let f = light_components 0 0 (omega arith) h.accepted h.components in omega arith);
  }

-- THE COSTS
costs_costly : (cs : List drafts.Component) → AllByRecursion (λ (c : drafts.Component). IsCost c.cost) cs → AllByRecursion IsCost (map (λ c. c.cost) cs)
costs_costly [] all = tt
costs_costly (c ∷ cs) all = (all.0, costs_costly cs all.1)

each_costly : (costs : List ℕ) → AllByRecursion IsCost costs → (x : ℕ) → 0 < slice_index_or costs x 1
each_costly [] h zero = omega arith
each_costly [] h (suc x) = omega arith
each_costly (c ∷ cs) h zero = omega (arith, h.0)
each_costly (c ∷ cs) h (suc x) = each_costly cs h.1 x

-- THE FILTERS
each_small : (fs : List DraftFilter) → AllByRecursion (λ (f : DraftFilter). IsAutomaton f.automaton) fs → (i : ℕ) → IsAutomaton (slice_index_or (map (λ f. f.automaton) fs) i no_lines)
each_small [] h zero = no_lines_small
each_small [] h (suc i) = no_lines_small
each_small (f ∷ fs) h zero = h.0
each_small (f ∷ fs) h (suc i) = each_small fs h.1 i

pub opened_can : (o : Options) (d : Draft) (s : Responder) → IsSound d → Serves o d s → CanAnswer s
opened_can o d s sound h = record {
  library = library_law _ _ _ s.engine.library h.library_is;
  costly = λ x. subst (λ (costs : List ℕ). 0 < cost_of costs x) (sym h.costs_are) (each_costly (map (λ c. c.cost) d.components) (costs_costly d.components sound.costly) x);
  small = λ i. subst (λ (filters : List Automaton). IsAutomaton (slice_index_or filters i no_lines)) (sym h.filters_are) (each_small d.filters sound.small i);
  opened = subst AreHeld (sym h.none_held) tt;
}

-- WHAT WAS READ
all_sound : (old : Reading) (lines : List (List ℕ)) (new : Reading) → TakesAll old lines new → IsSound old.draft → IsSound new.draft
all_sound old [] new e h = subst (λ (r : Reading). IsSound r.draft) (sym e) h
all_sound old (line ∷ lines) new (next, t, inl (over, e)) h = subst (λ (r : Reading). IsSound r.draft) (sym e) (taken_sound old line next t h)
all_sound old (line ∷ lines) new (next, t, inr (going, rest)) h = all_sound next lines new rest (taken_sound old line next t h)

pub repository_sound : (repository : List (List ℕ)) (end : List ℕ) (d : Draft) → IsRepository repository end d → IsSound d
repository_sound repository end d h = subst IsSound (sym h.declares) (taken_sound h.before end h.reading h.ends (all_sound no_reading repository h.before h.taken.taken no_draft_sound))

pub answered_can : (o : Options) (lines : List (List ℕ)) (text : List ℕ) (s : Responder) → IsAnswered o lines text s → CanAnswer s
answered_can o lines text s h =
    replies_can h.opened h.queries text s h.replies (opened_can o h.declared h.opened (repository_sound h.repository h.end h.declared h.reads) h.serves)
