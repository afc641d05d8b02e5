-- What the filters of a draft become by one line more.
use Rattle.std.proofs.Common.{◌≡◌, ℕ, zero, suc, ◌≤◌, ◌<◌, List, [], ◌∷◌, ◌++◌, length, map, refl, sym, ap, ◌∙◌, subst, arith, get_or, Contains}
use Rattle.std.specs.Prelude.{Option, Some, slice_index_or}
use Rattle.std.specs.Option.{option_map_or}
use Rattle.std.proofs.lemmas.List.{get_or_default, length-map}
use Rattle.std.proofs.Math.ListN.{set, get_or-map}
use Rattle.cls_base.specs.Limits.{max_states}
use Rattle.cls_filter.specs.Automata.{Automaton}
use Rattle.cls_lexer.specs.Names.{number_of, with_texts}
use Rattle.cls_lexer.proofs.TextTables.{number_absent}
use Rattle.cls_repo.specs.declared.draft.Draft as code_draft
use Rattle.cls_repo.specs.declared.draft_filter.DraftFilter as code_filter
use Rattle.cls_repo.specs.Declarations.{changed_at, filter_of, filter_at, no_filter, states_named, states_after, with_line, with_own_line}
use Rattle.cls_repo.specs.Directives.{Directive}
use Rattle.cls_repo.specs.Drafts.{Draft, DraftFilter}
use Rattle.cls_repo.specs.LineFaults.{too_many_states}
use Rattle.cls_repo.specs.Written.{draft_of, filter_seen, is_full, TakesFilter, TakesFilterLine}
use Rattle.cls_repo.proofs.Putting.{changed_view}

-- one more line of a filter
pub own_line : (components : List (List ℕ)) (said : Directive) (old : DraftFilter) (states : List (List ℕ)) (automaton : Automaton) → states ≡ with_texts old.states (states_named said)
    → automaton ≡ with_line components states said old.automaton → record { states = states; automaton = automaton } ≡ with_own_line components said old
own_line components said old states automaton e f =
    let g = f ∙ ap (λ (ts : List (List ℕ)). with_line components ts said old.automaton) e in
    λ i. record { states = e i; automaton = g i }

-- one more filter, of one line
pub filter_put : (d : Draft) (said : Directive) (f : List ℕ) (names : List (List ℕ)) (made : DraftFilter) (filters : List DraftFilter) → names ≡ d.filter_names ++ f ∷ []
    → made ≡ with_own_line d.component_names said no_filter → filters ≡ d.filters ++ made ∷ [] → length made.states ≤ max_states → TakesFilter d said f (record d { filter_names = names; filters = filters })
filter_put d said f names made filters e m h few =
    let all = h ∙ ap (λ (g : DraftFilter). d.filters ++ g ∷ []) m in
    record {
      put = λ i. record d { filter_names = e i; filters = all i };
      few = subst (λ (g : DraftFilter). length g.states ≤ max_states) m few;
    }

-- nothing stands past the end
past : {A : Type 0} (xs : List A) (n : ℕ) (x : A) → length xs ≤ n → slice_index_or xs n x ≡ x
past [] n x l = refl
past (y ∷ xs) zero x l = absurd (omega arith)
past (y ∷ xs) (suc n) x l = past xs n x (omega arith)

-- the states of a filter after a line of it
after : (d : Draft) (said : Directive) (f : List ℕ) (g : DraftFilter) → filter_of said ≡ Some f → filter_at d f ≡ g → with_texts g.states (states_named said) ≡ states_after d said
after d said f g own at =
    sym (ap (λ (o : Option (List ℕ)). with_texts (option_map_or (λ h. (filter_at d h).states) o []) (states_named said)) own ∙ ap (λ (h : DraftFilter). with_texts h.states (states_named said)) at)

-- A FILTER THAT ISN'T DECLARED
module _ (d : Draft) (said : Directive) (f : List ℕ) (own : filter_of said ≡ Some f) (new : Contains d.filter_names f → ⊥) (named : length d.filters ≡ length d.filter_names) where
  none_there : filter_at d f ≡ no_filter
  none_there = let n = number_absent d.filter_names f new in past d.filters (number_of d.filter_names f) no_filter (omega (arith, n, named))

  new_states : with_texts [] (states_named said) ≡ states_after d said
  new_states = after d said f no_filter own none_there

  pub new_few : length (with_texts [] (states_named said)) ≤ max_states → length (states_after d said) ≤ max_states
  new_few l = subst (λ (ts : List (List ℕ)). length ts ≤ max_states) new_states l

  pub new_full : (words : List ℕ) → is_full [] said f words → too_many_states d said words
  new_full words h = (f, own, subst (λ (ts : List (List ℕ)). max_states < length ts) new_states h.0, h.1)

-- A FILTER THAT IS DECLARED
module _ (old : code_draft.Draft) (n : ℕ) (f : List ℕ) (was : code_filter.DraftFilter) (l : n < length old.filter_names) (is : n ≡ number_of old.filter_names f) (at : was ≡ get_or old.filters.items n was) where
  there : n < length old.filters.items
  there = subst (λ (m : ℕ). n < m) (sym old.filtered) l

  stands : filter_at (draft_of old) f ≡ filter_seen was
  stands =
      ap (λ (m : ℕ). slice_index_or (map filter_seen old.filters.items) m no_filter) (sym is)
      ∙ (sym (get_or_default (map filter_seen old.filters.items) n (filter_seen was) no_filter (subst (λ k. n < k) (sym (length-map old.filters.items filter_seen)) there))
      ∙ (get_or-map filter_seen old.filters.items n was ∙ ap filter_seen (sym at)))

  module _ (said : Directive) (own : filter_of said ≡ Some f) where
    own_states : with_texts was.states (states_named said) ≡ states_after (draft_of old) said
    own_states = after (draft_of old) said f (filter_seen was) own stands

    pub own_full : (words : List ℕ) → is_full was.states said f words → too_many_states (draft_of old) said words
    own_full words h = (f, own, subst (λ (ts : List (List ℕ)). max_states < length ts) own_states h.0, h.1)

    pub line_put : (new : code_filter.DraftFilter) → Contains old.filter_names f → filter_seen new ≡ with_own_line old.component_names said (filter_seen was) → length new.states ≤ max_states
        → TakesFilterLine (draft_of old) said f (record (draft_of old) { filters = map filter_seen (set old.filters.items n new) })
    line_put new held e few =
        let change = with_own_line old.component_names said in
        let all = changed_view filter_seen old.filters.items n there change new was (e ∙ ap (λ (g : code_filter.DraftFilter). change (filter_seen g)) at) ∙ ap (λ (m : ℕ). changed_at m change (map filter_seen old.filters.items)) is in
        record {
          held = held;
          put = λ i. record (draft_of old) { filters = all i };
          few = subst (λ (ts : List (List ℕ)). length ts ≤ max_states) (ap (λ (g : DraftFilter). g.states) e ∙ own_states) few;
        }
