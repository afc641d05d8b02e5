-- After any lines, what answers the next one is what a session over the repository as it then stands would open with, but for the
-- numbering of names.
use Rattle.std.proofs.Common.{ℕ, zero, suc, ◌≡◌, ◌<◌, ◌≤◌, inl, inr, refl, sym, ◌∙◌, ap, subst, arith, true, List, [], ◌∷◌, ◌++◌, length, length-append}
use Rattle.std.specs.Prelude.{codes, map, remove}
use Rattle.std.proofs.lemmas.List.{length-map, map-append}
use Rattle.std.proofs.lemmas.List.Edits.{length-remove}
use Rattle.cls_assemble.specs.declared.piece.Piece.{Piece}
use Rattle.cls_assemble.specs.declared.piece.Piece.TheVariants.{Byte}
use Rattle.cls_base.specs.Limits.{max_line_bytes}
use Rattle.cls_base.specs.Schemas.{OpenType}
use Rattle.cls_base.specs.Types.{ClosedType}
use Rattle.cls_filter.specs.Automata.{Automaton}
use Rattle.cls_filter.specs.Lines.{without_leaf}
use Rattle.cls_lexer.specs.Words.{Word, words_of}
use Rattle.cls_library.specs.Libraries.{Library}
use Rattle.cls_library.specs.Refusals.{Adds, IsLibraryOf}
use Rattle.cls_library.proofs.LibraryLaws.{adding}
use Rattle.cls_library.proofs.Removing.{removing}
use Rattle.cls_taxon.specs.Orders.{Declared}
use Rattle.cls_query.specs.declared.change.Change.TheVariants.{Add, Remove}
use Rattle.cls_query.specs.Changes.{Change, ChangeText, WordsSay, begins_change}
use Rattle.cls_query.specs.Queries.{Tables}
use Rattle.cls_query.specs.ReadChanges.{ReadsChange}
use Rattle.cls_query.proofs.ChangeTables.{reads_may}
use Rattle.cls_engine.specs.declared.options.Options.{Options}
use Rattle.cls_repo.specs.Drafts.{Component, Draft, DraftFilter}
use Rattle.cls_repo.specs.EndFaults.{declared_in, schemas_in}
use Rattle.cls_replies.specs.Answering.{Answered, Verifies, Verified}
use Rattle.cls_replies.specs.Answering as answering
use Rattle.cls_replies.specs.Changing.{Makes, with_component, without, without_component}
use Rattle.cls_replies.specs.Changing as changing
use Rattle.cls_replies.specs.LineKinds.{Changes}
use Rattle.cls_replies.specs.Lines.{Goes, Replies}
use Rattle.cls_replies.specs.Lines as lines
use Rattle.cls_replies.specs.Responder.{Responder, Serves, holding}
use Rattle.cls_replies.specs.Texts.{error_line, reply_line}
use Rattle.cls_laws.specs.Live.{Answers, Leads, LeadsOn, RepliesAreFromScratch, as_opened, declaring, without_lines_of}
use Rattle.cls_laws.specs.Live as live
use Rattle.cls_laws.proofs.OneLine.{nil_cons}
use Rattle.cls_laws.proofs.OneTranscript.{serves_one}
use Rattle.cls_laws.proofs.Openings.{repository_sound}
use Rattle.cls_laws.proofs.SkippedLines.{skipped_changes, opens_changes}

-- WHICH LINES SAY A CHANGE
says_begins : (said : ChangeText) (ws : List Word) → WordsSay said ws → begins_change ws ≡ true
says_begins (Add x t) ws h = ap begins_change (sym h.spelled)
says_begins (Remove x) ws h = ap begins_change (sym h.spelled)

at_most : (n : ℕ) → (max_line_bytes < n → ⊥) → n ≤ max_line_bytes
at_most n f = omega arith

-- a line that says one changes the repository
reads_changes : {tables after : Tables} {line : List ℕ} {c : Change} → (Changes line → ⊥) → ReadsChange tables line c after → ⊥
reads_changes {tables} {after} {line} unchanging r =
    let silent = r.faultless in
    let short : length line ≤ max_line_bytes = at_most (length line) (λ l. silent (codes "long") (inl (l, refl))) in
    silent (codes "utf8") (inr ((λ t h. silent t (inl h)), inl ((λ u. unchanging (record { text = (short, u); begins = says_begins r.said (words_of line) r.spelled })), refl)))

no_change : (s : Responder) (line text : List ℕ) (d : Draft) → (Changes line → ⊥) → Leads s line text d d
no_change s line text d unchanging = live.Leads.stays (λ x t h. reads_changes unchanging h.says.0) (λ x h. reads_changes unchanging h.says.0) refl

held_line : (s : Responder) (line text first : List ℕ) (inside : List (List ℕ)) (d : Draft) → s.held ≡ first ∷ inside → Leads s line text d d
held_line s line text first inside d e = live.Leads.stays (λ x t h. nil_cons s.held first inside h.free e) (λ x h. nil_cons s.held first inside h.free e) refl

-- WHAT STANDS
record Stands (o : Options) (d : Draft) (s : Responder) : Type 0 where
  named : length d.component_names ≡ length d.components
  opens : Answers o d s

-- it doesn't say which names have numbers, nor what lines are held
stands_on : (o : Options) (d : Draft) (s m : Responder) → as_opened d m ≡ as_opened d s → Stands o d s → Stands o d m
stands_on o d s m e h = record { named = h.named; opens = subst (Serves o d) (sym e) h.opens }

answered_on : (d : Draft) (s : Responder) (line text : List ℕ) (m : Responder) → Answered s line text m → as_opened d m ≡ as_opened d s
answered_on d s line text m (answering.Answered.misread k) = ap (as_opened d) k.same
answered_on d s line text m (answering.Answered.asked q x asks (answering.Answers.failed f k e same)) = ap (as_opened d) same ∙ ap (as_opened d) asks.1
answered_on d s line text m (answering.Answered.asked q x asks (answering.Answers.replied silent r same)) = ap (as_opened d) same ∙ ap (as_opened d) asks.1

verifies_on : (d : Draft) (s : Responder) (goal : ClosedType) (certificate : List (List ℕ)) (text : List ℕ) (m : Responder) → Verifies s goal certificate text m → as_opened d m ≡ as_opened d s
verifies_on d s goal certificate text m (answering.Verifies.bad f w k e t same) = ap (as_opened d) same
verifies_on d s goal certificate text m (answering.Verifies.read c k same j) = ap (as_opened d) same

verified_on : (d : Draft) (s : Responder) (line : List ℕ) (certificate : List (List ℕ)) (text : List ℕ) (m : Responder) → Verified s line certificate text m → as_opened d m ≡ as_opened d s
verified_on d s line certificate text m (answering.Verified.misread k) = ap (as_opened d) k.same
verified_on d s line certificate text m (answering.Verified.asked goal x asks v) = verifies_on d x goal certificate text m v ∙ ap (as_opened d) asks.1

-- A COMPONENT COMES
abbrev declared : (x : List ℕ) (t : OpenType) → Component
declared x t = record { schema = t; line = 0; template = map Byte x; cost = 1 }

module _ (o : Options) (d : Draft) (s : Responder) (h : Stands o d s) where
  adds_declared : (t : OpenType) (library : Library) → Adds s.engine.library.taxonomy s.kinds t s.engine.library library → Adds (declared_in d) d.kinds t s.engine.library library
  adds_declared t library adds =
      subst (λ (ks : List (ℕ × List ClosedType)). Adds (declared_in d) ks t s.engine.library library) h.opens.same_kinds
      (subst (λ (e : Declared). Adds e s.kinds t s.engine.library library) h.opens.library_is.taxonomy adds)

  stands_added : (x : List ℕ) (t : OpenType) (library : Library) → Adds s.engine.library.taxonomy s.kinds t s.engine.library library → Stands o (declaring d x t) (with_component s x library)
  stands_added x t library adds =
      let c = declared x t in
      let is = h.opens in
      let names = length-append d.component_names (x ∷ []) in
      let components = length-append d.components (c ∷ []) in
      let both = h.named in
      record {
        named = omega (arith, names, components, both);
        opens = record {
          same_names = refl;
          same_variables = refl;
          same_components = ap (λ (xs : List (List ℕ)). xs ++ x ∷ []) is.same_components;
          same_kinds = is.same_kinds;
          templates_are = ap (λ (ts : List (List Piece)). ts ++ map Byte x ∷ []) is.templates_are ∙ sym (map-append (λ (e : Component). e.template) d.components (c ∷ []));
          same_filter_names = is.same_filter_names;
          filters_are = is.filters_are;
          library_is = subst (λ (ss : List OpenType). IsLibraryOf (declared_in d) d.kinds ss library) (sym (map-append (λ (e : Component). e.schema) d.components (c ∷ [])))
              (adding (declared_in d) d.kinds (schemas_in d) t s.engine.library library is.library_is (adds_declared t library adds));
          costs_are = ap (λ (ns : List ℕ). ns ++ 1 ∷ []) is.costs_are ∙ sym (map-append (λ (e : Component). e.cost) d.components (c ∷ []));
          options_are = is.options_are;
          none_held = refl;
        };
      }

  -- A COMPONENT GOES
  map_remove : {A B : Type 0} (f : A → B) (xs : List A) (i : ℕ) → i < length xs → map f (remove xs i) ≡ remove (map f xs) i
  map_remove f [] i l = absurd (omega arith)
  map_remove f (x ∷ xs) zero l = refl
  map_remove f (x ∷ xs) (suc i) l = ap (λ ys. f x ∷ ys) (map_remove f xs i (omega arith))

  filters_without : (fs : List DraftFilter) (x : ℕ) → map (λ (a : Automaton). without_leaf a x) (map (λ (f : DraftFilter). f.automaton) fs)
      ≡ map (λ (f : DraftFilter). f.automaton) (map (λ (f : DraftFilter). record f { automaton = without_leaf f.automaton x }) fs)
  filters_without [] x = refl
  filters_without (f ∷ fs) x = ap (λ (rest : List Automaton). without_leaf f.automaton x ∷ rest) (filters_without fs x)

  stands_dropped : (x : ℕ) → x < length d.component_names → Stands o (without_lines_of d x) (without_component s x)
  stands_dropped x there =
      let is = h.opens in
      let both = h.named in
      let within : x < length d.components = omega (arith, there, both) in
      let fewer = length-remove d.component_names x there in
      let less = length-remove d.components x within in
      let many : x < length (schemas_in d) = omega (arith, within, length-map d.components (λ (e : Component). e.schema)) in
      record {
        named = omega (arith, both, fewer, less);
        opens = record {
          same_names = refl;
          same_variables = refl;
          same_components = ap (λ (xs : List (List ℕ)). remove xs x) is.same_components;
          same_kinds = is.same_kinds;
          templates_are = ap (λ (ts : List (List Piece)). remove ts x) is.templates_are ∙ sym (map_remove (λ (e : Component). e.template) d.components x within);
          same_filter_names = is.same_filter_names;
          filters_are = ap (λ (all : List Automaton). map (λ (a : Automaton). without_leaf a x) all) is.filters_are ∙ filters_without d.filters x;
          library_is = subst (λ (ss : List OpenType). IsLibraryOf (declared_in d) d.kinds ss (without s.engine.library x)) (sym (map_remove (λ (e : Component). e.schema) d.components x within))
              (removing (declared_in d) d.kinds (schemas_in d) s.engine.library x is.library_is many);
          costs_are = ap (λ (ns : List ℕ). remove ns x) is.costs_are ∙ sym (map_remove (λ (e : Component). e.cost) d.components x within);
          options_are = is.options_are;
          none_held = refl;
        };
      }

-- A LINE
-- what says that a component is refused isn't what says that one is added or dropped
abbrev first_of_text : List ℕ → ℕ
first_of_text [] = 0
first_of_text (x ∷ xs) = x

not_added : (words : List ℕ) → error_line words ≡ reply_line (codes "added") → ⊥
not_added words e = let f : 101 ≡ 97 = ap first_of_text e in absurd (omega (arith, f))

not_dropped : (words : List ℕ) → error_line words ≡ reply_line (codes "dropped") → ⊥
not_dropped words e = let f : 101 ≡ 100 = ap first_of_text e in absurd (omega (arith, f))

abbrev HasNext : Options → Draft → Responder → (line text : List ℕ) → Responder → Type 0
HasNext o d s line text s' = (d' : Draft) × Leads s line text d d' × Stands o d' s'

makes_next : (o : Options) (d : Draft) (s : Responder) (line text : List ℕ) (s' : Responder) → s.held ≡ [] → (c : Change) (m : Responder) → changing.Says s line c m → Makes m c text s'
    → Stands o d s → HasNext o d s line text s'
makes_next o d s line text s' free c m says (changing.Makes.added x t library e adds w same) h =
    let named = stands_on o d s m (ap (as_opened d) says.1) h in
    let told : changing.Says s line (Add x t) m = subst (λ (a : Change). changing.Says s line a m) e says in (
      declaring d x t,
      live.Leads.adds x t (record { free = free; names = m; says = told; written = w }) refl,
      subst (λ (z : Responder). Stands o (declaring d x t) z) (sym same) (stands_added o d m named x t library adds),
    )
makes_next o d s line text s' free c m says (changing.Makes.refused x t kind words e refuses v w same) h = (
  d,
  live.Leads.stays (λ y u k. not_added (codes "refused " ++ words) (sym w ∙ k.written)) (λ y k. not_dropped (codes "refused " ++ words) (sym w ∙ k.written)) refl,
  stands_on o d s s' (ap (as_opened d) same ∙ ap (as_opened d) says.1) h,
)
makes_next o d s line text s' free c m says (changing.Makes.dropped x e w same) h =
    let named = stands_on o d s m (ap (as_opened d) says.1) h in
    let told : changing.Says s line (Remove x) m = subst (λ (a : Change). changing.Says s line a m) e says in
    let may : x < length s.components = reads_may told.0 in
    let there : x < length d.component_names = subst (λ (xs : List (List ℕ)). x < length xs) h.opens.same_components may in (
      without_lines_of d x,
      live.Leads.drops x (record { free = free; names = m; says = told; written = w }) there refl,
      subst (λ (z : Responder). Stands o (without_lines_of d x) z) (sym same) (stands_dropped o d m named x there),
    )

goes_next : (o : Options) (d : Draft) (s : Responder) (line text : List ℕ) (s' : Responder) → Goes s line text s' → Stands o d s → HasNext o d s line text s'
goes_next o d s line text s' (lines.Goes.skips e skipped t same) h =
    (d, no_change s line text d (skipped_changes line skipped), stands_on o d s s' (ap (as_opened d) same) h)
goes_next o d s line text s' (lines.Goes.asks e single a) h =
    (d, no_change s line text d single.unchanging, stands_on o d s s' (answered_on d s line text s' a) h)
goes_next o d s line text s' (lines.Goes.changes e changes (changing.Changed.misread k)) h = (
  d,
  live.Leads.stays (λ x t m. m.says.0.faultless k.words k.first) (λ x m. m.says.0.faultless k.words k.first) refl,
  stands_on o d s s' (ap (as_opened d) k.same) h,
)
goes_next o d s line text s' (lines.Goes.changes e changes (changing.Changed.makes c m says a)) h = makes_next o d s line text s' e c m says a h
goes_next o d s line text s' (lines.Goes.opens e opens t same) h =
    (d, no_change s line text d (opens_changes line opens), stands_on o d s s' (ap (as_opened d) same) h)
goes_next o d s line text s' (lines.Goes.holds first inside e n t same) h =
    (d, held_line s line text first inside d e, stands_on o d s s' (ap (as_opened d) same) h)
goes_next o d s line text s' (lines.Goes.ends first inside e q v) h =
    (d, held_line s line text first inside d e, stands_on o d s s' (verified_on d (holding s []) first (inside ++ line ∷ []) text s' v) h)

-- LINES IN TURN
replies_next : (o : Options) (d : Draft) (s : Responder) (rest : List (List ℕ)) (text : List ℕ) (s' : Responder) → Replies s rest text s' → Stands o d s
    → (d' : Draft) × LeadsOn s rest text s' d d' × Stands o d' s'
replies_next o d s [] text s' (t, e) h = (d, (t, e, refl), stands_on o d s s' (ap (as_opened d) e) h)
replies_next o d s (line ∷ rest) text s' (m, first, others, goes, more, e) h =
    let one = goes_next o d s line first m goes h in
    let on = replies_next o one.0 m rest others s' more one.2 in
    (on.0, (m, one.0, first, others, goes, one.1, on.1, e), on.2)

-- a session opens with what stands
opened_stands : (o : Options) (d : Draft) (s : Responder) → length d.component_names ≡ length d.components → Serves o d s → Stands o d s
opened_stands o d s named is = record {
  named = named;
  opens = record {
    same_names = refl;
    same_variables = refl;
    same_components = is.same_components;
    same_kinds = is.same_kinds;
    templates_are = is.templates_are;
    same_filter_names = is.same_filter_names;
    filters_are = is.filters_are;
    library_is = is.library_is;
    costs_are = is.costs_are;
    options_are = is.options_are;
    none_held = refl;
  };
}

pub from_scratch : RepliesAreFromScratch
from_scratch o input text s a =
    let sound = repository_sound a.repository a.end a.declared a.reads in
    let on = replies_next o a.declared a.opened a.queries text s a.replies (opened_stands o a.declared a.opened sound.named a.serves) in
    (on.0, on.1, on.2.opens, λ s0 k. serves_one o on.0 (as_opened on.0 s) s0 on.2.opens k)
