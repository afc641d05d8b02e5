-- Each line that is taken leaves a sound draft, and a repository of a sound draft is whole.
use Rattle.std.proofs.Common.{◌≡◌, ℕ, zero, suc, ◌+◌, ◌≤◌, List, [], ◌∷◌, ◌++◌, length, map, drop, refl, sym, ap, ◌∙◌, subst, inl, inr, arith}
use Rattle.std.proofs.lemmas.List.{length_push}
use Rattle.std.specs.List.{AllByRecursion}
use Rattle.std.specs.Prelude.{codes, Some}
use Rattle.std.proofs.lemmas.Bool.{cases_lt}
use Rattle.cls_base.specs.Firsts.{Cause, First, IsSilent}
use Rattle.cls_base.specs.Schemas.{OpenType}
use Rattle.cls_taxon.specs.Orders.{Declared}
use Rattle.cls_base.specs.Types.{ClosedType}
use Rattle.cls_base.specs.Limits.{max_cost, max_states}
use Rattle.cls_lexer.specs.Numerals.{number_value}
use Rattle.cls_library.specs.Libraries as libraries
use Rattle.cls_library.specs.Libraries.{AreComponentsOf, no_components, one_component}
use Rattle.cls_repo.specs.Declarations.{Declares, changed_at, filter_of, states_after, with_filter_line}
use Rattle.cls_repo.specs.Directives.{Directive, sub, kind, comp, text, end, cost, variance, filter, leaf, app, other, LineSays}
use Rattle.cls_repo.specs.Drafts.{Component, Draft, no_draft}
use Rattle.cls_repo.specs.EndFaults.{declared_in}
use Rattle.cls_repo.specs.LineFaults.{line_faults, directive_faults, wrong_directive, cost_out_of_range, duplicate_variance, unknown_filter, duplicate_filter, too_many_states}
use Rattle.cls_repo.specs.Readings.{Reading, Takes, skipped, declares}
use Rattle.cls_repo.specs.Repositories.{IsRepositoryOf}
use Rattle.cls_repo.specs.Sound.{IsCost, IsSound, IsWhole}
use Rattle.cls_repo.specs.declared.repository.Repository.{Repository}
use Rattle.cls_repo.proofs.SmallStates.{AreSmall, more_small, first_small, leaf_line_small, app_line_small, other_line_small}

abbrev IsCostly : List Component → Type 0
IsCostly cs = AllByRecursion (λ (c : Component). IsCost c.cost) cs

pub no_draft_sound : IsSound no_draft
no_draft_sound = record { named = refl; costly = tt; filtered = refl; small = tt }

-- the first of the causes says nothing, and neither do the others
first_silent : {T : Type 0} (c : Cause T) (cs : List (Cause T)) → IsSilent (First (c ∷ cs)) → IsSilent c
first_silent c cs f = λ t h. f t (inl h)

rest_silent : {T : Type 0} (k : ℕ) (cs : List (Cause T)) → IsSilent (First cs) → IsSilent (First (drop k cs))
rest_silent zero cs f = f
rest_silent (suc k) [] f = f
rest_silent (suc k) (c ∷ cs) f = rest_silent k cs (λ t h. f t (inr (first_silent c cs f, h)))

changed_length : {A : Type 0} (i : ℕ) (f : A → A) (cs : List A) → length (changed_at i f cs) ≡ length cs
changed_length i f [] = refl
changed_length zero f (c ∷ cs) = refl
changed_length (suc i) f (c ∷ cs) = ap suc (changed_length i f cs)

changed_costly : (i : ℕ) (f : Component → Component) (cs : List Component) → ((c : Component) → IsCost c.cost → IsCost (f c).cost) → IsCostly cs → IsCostly (changed_at i f cs)
changed_costly i f [] h all = tt
changed_costly zero f (c ∷ cs) h all = (h c all.0, all.1)
changed_costly (suc i) f (c ∷ cs) h all = (all.0, changed_costly i f cs h all.1)

more_costly : (cs : List Component) (c : Component) → IsCostly cs → IsCost c.cost → IsCostly (cs ++ c ∷ [])
more_costly [] c all h = (h, tt)
more_costly (d ∷ cs) c all h = (all.0, more_costly cs c all.1 h)

-- a number that isn't out of its range
within : (n : ℕ) → ((1 ≤ n → n ≤ max_cost → ⊥) → ⊥) → IsCost n
within zero h = absurd (h (λ l m. absurd (omega arith)))
within (suc n) h = omega arith

cost_within : (d : Draft) (line : List ℕ) (x digits : List ℕ) → IsSilent (First (directive_faults d line (cost x digits))) → IsCost (number_value digits)
cost_within d line x digits f =
    let said = cost x digits in
    let range : IsSilent (cost_out_of_range said) = first_silent (cost_out_of_range said) (duplicate_variance d said ∷ unknown_filter d said ∷ duplicate_filter d said ∷ too_many_states d said ∷ []) (rest_silent 7 (directive_faults d line said) f) in
    within (number_value digits) (λ out. let t : cost_out_of_range said (codes "cost " ++ x) = (out, refl) in range (codes "cost " ++ x) t)

-- the filter of a line that is taken has few states
states_few : (d : Draft) (line : List ℕ) (said : Directive) (g : List ℕ) → filter_of said ≡ Some g → IsSilent (First (directive_faults d line said)) → length (states_after d said) ≤ max_states
states_few d line said g own f =
    let many : IsSilent (too_many_states d said) = first_silent (too_many_states d said) [] (rest_silent 11 (directive_faults d line said) f) in
    elim (cases_lt max_states (length (states_after d said))) [
      | inl l ↦ absurd (let t : too_many_states d said (codes "states " ++ g) = (g, own, l, refl) in many (codes "states " ++ g) t)
      | inr few ↦ few
    ]

-- one more line of a filter
own_sound : (d : Draft) (said : Directive) (g : List ℕ) → AreSmall (with_filter_line d said g).filters → IsSound d → IsSound (with_filter_line d said g)
own_sound d said g small s = record { named = s.named; costly = s.costly; filtered = s.filtered ∙ sym (changed_length _ _ d.filters); small = small }

declared_sound : (d : Draft) (n : ℕ) (line : List ℕ) (said : Directive) (new : Draft) → IsSilent (First (directive_faults d line said)) → Declares d n line said new → IsSound d → IsSound new
declared_sound d n line (sub a b) new f e s = subst IsSound (sym e) (record { named = s.named; costly = s.costly; filtered = s.filtered; small = s.small })
declared_sound d n line (kind x ts) new f (types, choices, e) s = subst IsSound (sym e) (record { named = s.named; costly = s.costly; filtered = s.filtered; small = s.small })
declared_sound d n line (comp x t) new f e s = subst IsSound (sym e) (record {
  named = length_push d.component_names x ∙ (ap (λ k. k + 1) s.named ∙ sym (length_push d.components _));
  costly = more_costly d.components _ s.costly (omega arith);
  filtered = s.filtered;
  small = s.small;
})
declared_sound d n line (text x ws) new f (pieces, template, e) s = subst IsSound (sym e) (record {
  named = s.named ∙ sym (changed_length _ _ d.components);
  costly = changed_costly _ _ d.components (λ c h. h) s.costly;
  filtered = s.filtered;
  small = s.small;
})
declared_sound d n line end new f e s = subst IsSound (sym e) s
declared_sound d n line (cost x digits) new f e s = subst IsSound (sym e) (record {
  named = s.named ∙ sym (changed_length _ _ d.components);
  costly = changed_costly _ _ d.components (λ c h. cost_within d line x digits f) s.costly;
  filtered = s.filtered;
  small = s.small;
})
declared_sound d n line (variance c word) new f e s = subst IsSound (sym e) (record { named = s.named; costly = s.costly; filtered = s.filtered; small = s.small })
declared_sound d n line (filter g q qs) new f e s = subst IsSound (sym e) (record {
  named = s.named;
  costly = s.costly;
  filtered = length_push d.filter_names g ∙ (ap (λ k. k + 1) s.filtered ∙ sym (length_push d.filters _));
  small = more_small d.filters _ s.small (first_small d.component_names g q qs);
})
declared_sound d n line (leaf g x q) new f e s =
    subst IsSound (sym e) (own_sound d (leaf g x q) g (leaf_line_small d s.small g x q (states_few d line (leaf g x q) g refl f)) s)
declared_sound d n line (app g p q r) new f e s =
    subst IsSound (sym e) (own_sound d (app g p q r) g (app_line_small d s.small g p q r (states_few d line (app g p q r) g refl f)) s)
declared_sound d n line (other g q) new f e s =
    subst IsSound (sym e) (own_sound d (other g q) g (other_line_small d s.small g q (states_few d line (other g q) g refl f)) s)

-- what is said of a line that says something is silent
said_silent : (d : Draft) (line : List ℕ) (said : Directive) → LineSays line said → IsSilent (First (line_faults d line)) → IsSilent (First (directive_faults d line said))
said_silent d line said says f =
    let wrong : IsSilent (wrong_directive d line) = first_silent (wrong_directive d line) [] (rest_silent 5 (line_faults d line) f) in
    λ words h. let t : wrong_directive d line words = (said, says, h) in wrong words t

pub taken_sound : (old : Reading) (line : List ℕ) (new : Reading) → Takes old line new → IsSound old.draft → IsSound new.draft
taken_sound old line new (skipped s e) h = subst (λ (r : Reading). IsSound r.draft) (sym e) h
taken_sound old line new (declares said says silent draft d e) h =
    subst (λ (r : Reading). IsSound r.draft) (sym e) (declared_sound old.draft (old.lines + 1) line said draft (said_silent old.draft line said says silent) d h)

components_length : (d : Declared) (kinds : List (ℕ × List ClosedType)) {ss : List OpenType} {cs : List libraries.Component} → AreComponentsOf d kinds ss cs → length cs ≡ length ss
components_length d kinds no_components = refl
components_length d kinds (one_component h hs) = ap suc (components_length d kinds hs)

map_length : {A B : Type 0} (f : A → B) (xs : List A) → length (map f xs) ≡ length xs
map_length f [] = refl
map_length f (x ∷ xs) = ap suc (map_length f xs)

costs_costly : (cs : List Component) → IsCostly cs → AllByRecursion IsCost (map (λ c. c.cost) cs)
costs_costly [] all = tt
costs_costly (c ∷ cs) all = (all.0, costs_costly cs all.1)

pub whole : (d : Draft) (r : Repository) → IsSound d → IsRepositoryOf d r → IsWhole r
whole d r s i =
    let count : length r.library.components ≡ length d.components = components_length (declared_in d) d.kinds i.library_is.components ∙ map_length _ d.components in
    record {
      named = ap length i.same_components ∙ (s.named ∙ sym count);
      written = ap length i.templates_are ∙ (map_length _ d.components ∙ sym count);
      costly = subst (λ (ns : List ℕ). AllByRecursion IsCost ns) (sym i.costs_are) (costs_costly d.components s.costly);
      filtered = ap length i.same_filter_names ∙ (s.filtered ∙ sym (ap length i.filters_are ∙ map_length _ d.filters));
    }
