-- Each line that changes the repository is answered, and what answers the lines after it has what the one before had.
use Rattle.std.proofs.Common.{ℕ, zero, suc, ◌≡◌, ◌<◌, ◌⊎◌, inl, inr, refl, sym, ◌∙◌, ap, subst, List, [], ◌∷◌, ◌++◌, length}
use Rattle.std.specs.Prelude.{codes, map, slice_index_or}
use Rattle.cls_base.specs.Firsts.{First}
use Rattle.cls_base.specs.Limits.{max_components}
use Rattle.cls_base.specs.Schemas.{OpenType}
use Rattle.cls_filter.specs.Automata.{Automaton}
use Rattle.cls_filter.specs.Lines.{no_lines, without_leaf}
use Rattle.cls_filter.specs.States.{IsAutomaton}
use Rattle.cls_filter.proofs.Tables.{removed-states}
use Rattle.cls_kind.specs.Kinds.{instances_of}
use Rattle.cls_library.specs.declared.fault.LibraryKind.TheVariants.{TooManyComponents}
use Rattle.cls_library.specs.Libraries.{Component, Library, IsLibrary, all_of, total_of, weight_of}
use Rattle.cls_library.specs.Refusals.{Adds, IsAccepted}
use Rattle.cls_query.specs.declared.change.Change.TheVariants.{Add, Remove}
use Rattle.cls_query.specs.Changes.{Change}
use Rattle.cls_query.specs.ChangeErrors.{change_errors}
use Rattle.cls_query.specs.Queries.{Tables, tables_of}
use Rattle.cls_query.specs.ReadChanges.{ReadsChange}
use Rattle.cls_query.proofs.ChangeLaws.{decided}
use Rattle.cls_term.specs.Costs.{cost_of}
use Rattle.cls_engine.proofs.Changed.{costs_less, costs_more}
use Rattle.cls_replies.specs.Changing.{Changed, Makes, Says, with_component, without_component}
use Rattle.cls_replies.specs.Changing as changing
use Rattle.cls_replies.specs.Responder.{Responder, filter_in, tables_in, with_tables}
use Rattle.cls_replies.specs.Texts.{error_line, reply_line}
use Rattle.cls_laws.specs.Possible.{IsPossible}
use Rattle.cls_laws.proofs.ChangedLibraries.{library_added, library_without}
use Rattle.cls_laws.proofs.Classical.{surely, after}
use Rattle.cls_laws.proofs.Libraries.{HasRefusal, accepted_or_refused, room_or}
use Rattle.cls_laws.proofs.Verdicts.{form_exists}

-- A CHANGE IS MADE
module _ (s : Responder) (is : IsLibrary s.engine.library) where
  abbrev library : Library
  library = s.engine.library

  abbrev IsMade : Change → Type 0
  IsMade c = (text : List ℕ) × (s' : Responder) × Makes s c text s'

  made_accepted : (x : List ℕ) (t : OpenType) → IsAccepted library.taxonomy s.kinds (length library.components) (total_of library.components) t → IsMade (Add x t)
  made_accepted x t ok =
      let ts = instances_of s.kinds t in
      let form = form_exists (record { taxonomy = library.taxonomy; components = [] }) (all_of ts) in
      let c : Component = record { paths = form.0; weight = weight_of ts } in
      let more : Library = record { taxonomy = library.taxonomy; components = library.components ++ c ∷ [] } in
      let adds : Adds library.taxonomy s.kinds t library more = record { accepted = ok; component = c; of_schema = record { form = form.1; weight = refl }; added = refl } in
      (reply_line (codes "added"), with_component s x more, changing.Makes.added x t more refl adds refl refl)

  made_refused : (x : List ℕ) (t : OpenType) → length library.components < max_components → HasRefusal library.taxonomy s.kinds (total_of library.components) t → IsMade (Add x t)
  made_refused x t room bad =
      let words = bad.2 s.variables x in
      (error_line (codes "refused " ++ words.0), s, changing.Makes.refused x t bad.0 words.0 refl (bad.3 (length library.components) room) words.1 refl refl)

  made_or : (x : List ℕ) (t : OpenType) → length library.components < max_components
      → IsAccepted library.taxonomy s.kinds (length library.components) (total_of library.components) t ⊎ HasRefusal library.taxonomy s.kinds (total_of library.components) t → IsMade (Add x t)
  made_or x t room (inl ok) = made_accepted x t ok
  made_or x t room (inr bad) = made_refused x t room bad

  made_with : (x : List ℕ) (t : OpenType) → (length library.components < max_components) ⊎ (length library.components ≡ max_components) → IsPossible (IsMade (Add x t))
  made_with x t (inl room) = after (accepted_or_refused library.taxonomy s.kinds (total_of library.components) t (length library.components) room) (made_or x t room)
  made_with x t (inr full) =
      surely (error_line (codes "refused " ++ codes "components"), s, changing.Makes.refused x t TooManyComponents (codes "components") refl full refl refl refl)

  made_exists : (c : Change) → IsPossible (IsMade c)
  made_exists (Add x t) = made_with x t (room_or (length library.components) is.few)
  made_exists (Remove x) = surely (reply_line (codes "dropped"), without_component s x, changing.Makes.dropped x refl refl refl)

-- A LINE IS ANSWERED
module _ (s : Responder) (is : IsLibrary s.engine.library) (line : List ℕ) where
  abbrev IsChanged : Type 0
  IsChanged = (text : List ℕ) × (s' : Responder) × Changed s line text s'

  -- what was read leaves these tables
  abbrev kept : Tables → Tables
  kept tables = tables_of tables.constructors tables.variables s.components s.filter_names

  says_so : (c : Change) (new : Tables) → ReadsChange (tables_in s) line c new → Says s line c (with_tables s new)
  says_so c new reads =
      let same : new ≡ kept new = reads.numbered ∙ sym (ap kept reads.numbered) in
      (subst (λ (tables : Tables). ReadsChange (tables_in s) line c tables) same reads, refl)

  changed_as : (c : Change) (new : Tables) → ReadsChange (tables_in s) line c new → IsMade (with_tables s new) is c → IsChanged
  changed_as c new reads (text, s', a) = (text, s', changing.Changed.makes c (with_tables s new) (says_so c new reads) a)

  changed_by : ((words : List ℕ) × First (change_errors s.components line) words) ⊎ ((c : Change) × (new : Tables) × ReadsChange (tables_in s) line c new) → IsPossible IsChanged
  changed_by (inl (words, first)) =
      surely (error_line words, s, changing.Changed.misread (record { words = words; first = first; written = refl; same = refl }))
  changed_by (inr (c, new, reads)) = after (made_exists (with_tables s new) is c) (changed_as c new reads)

  pub change_exists : IsPossible IsChanged
  change_exists = changed_by (decided (tables_in s) line)

-- WHAT ANSWERS AFTER IT
module _ (s : Responder) (c : Change) (text : List ℕ) (m : Responder) where
  pub makes_library : Makes s c text m → IsLibrary s.engine.library → IsLibrary m.engine.library
  makes_library (changing.Makes.added x t more e adds w same) is =
      subst (λ (z : Responder). IsLibrary z.engine.library) (sym same) (library_added s.kinds t s.engine.library more is adds)
  makes_library (changing.Makes.refused x t kind words e refuses v w same) is = subst (λ (z : Responder). IsLibrary z.engine.library) (sym same) is
  makes_library (changing.Makes.dropped x e w same) is = subst (λ (z : Responder). IsLibrary z.engine.library) (sym same) (library_without s.engine.library x is)

  abbrev AreCostly : Responder → Type 0
  AreCostly z = (x : ℕ) → 0 < cost_of z.engine.costs x

  pub makes_costly : Makes s c text m → AreCostly s → AreCostly m
  makes_costly (changing.Makes.added x t more e adds w same) h = subst AreCostly (sym same) (costs_more s.engine.costs h)
  makes_costly (changing.Makes.refused x t kind words e refuses v w same) h = subst AreCostly (sym same) h
  makes_costly (changing.Makes.dropped x e w same) h = subst AreCostly (sym same) (costs_less s.engine.costs h x)

  abbrev AreSmall : Responder → Type 0
  AreSmall z = (i : ℕ) → IsAutomaton (filter_in z i)

  small_without : (filters : List Automaton) (x : ℕ) → ((i : ℕ) → IsAutomaton (slice_index_or filters i no_lines))
      → (i : ℕ) → IsAutomaton (slice_index_or (map (λ (a : Automaton). without_leaf a x) filters) i no_lines)
  small_without [] x h i = h i
  small_without (a ∷ filters) x h zero = let own = h zero in record { leaves = removed-states a.leaves x own.leaves; pairs = own.pairs; other = own.other }
  small_without (a ∷ filters) x h (suc i) = small_without filters x (λ j. h (suc j)) i

  pub makes_small : Makes s c text m → AreSmall s → AreSmall m
  makes_small (changing.Makes.added x t more e adds w same) h = subst AreSmall (sym same) h
  makes_small (changing.Makes.refused x t kind words e refuses v w same) h = subst AreSmall (sym same) h
  makes_small (changing.Makes.dropped x e w same) h = subst AreSmall (sym same) (small_without s.filters x h)

  pub makes_held : Makes s c text m → m.held ≡ s.held
  makes_held (changing.Makes.added x t more e adds w same) = ap (λ (z : Responder). z.held) same
  makes_held (changing.Makes.refused x t kind words e refuses v w same) = ap (λ (z : Responder). z.held) same
  makes_held (changing.Makes.dropped x e w same) = ap (λ (z : Responder). z.held) same
