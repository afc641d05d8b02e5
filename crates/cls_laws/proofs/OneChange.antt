-- What a line that changes the repository says, what it changes and what is written for it is one thing, whatever the number of workers.
use Rattle.std.proofs.Common.{ℕ, ◌≡◌, Bool, true, false, sym, ◌∙◌, ap, subst, List, [], ◌∷◌, ◌++◌, length}
use Rattle.std.specs.Prelude.{Some, codes}
use Rattle.std.proofs.lemmas.Bool.{true≢false}
use Rattle.cls_base.specs.Schemas as schemas
use Rattle.cls_base.specs.Schemas.{OpenType}
use Rattle.cls_base.specs.Subtyping.{reflexivity}
use Rattle.cls_base.specs.Types.{ClosedType}
use Rattle.cls_lexer.specs.Words.{words_of}
use Rattle.cls_path.proofs.Uniqueness.{form_unique}
use Rattle.cls_taxon.specs.Orders.{Declared}
use Rattle.cls_taxon.specs.DecisionLaws.{is_below-reflexive, is_below-transitive, is_below-antisymmetric}
use Rattle.cls_kind.specs.Kinds.{instances_of}
use Rattle.cls_library.specs.declared.fault.LibraryKind.{LibraryKind}
use Rattle.cls_library.specs.Libraries.{Component, Library, below_in, variances_in, all_of, total_of, IsComponentOf}
use Rattle.cls_library.specs.Refusals.{Adds, Refuses}
use Rattle.cls_query.specs.declared.change.Change.TheVariants.{Add, Remove}
use Rattle.cls_query.specs.Changes.{Change, ChangeText, with_change, change_of}
use Rattle.cls_query.specs.Queries.{Tables}
use Rattle.cls_query.proofs.ChangeLaws.{errors_determined, read_once}
use Rattle.cls_repo.specs.EndFaults.{library_words}
use Rattle.cls_repo.proofs.OneRefusal.{component_one, accepted_sound, refusal_first}
use Rattle.cls_replies.specs.Changing.{Changed, IsMisread, Makes, Says, with_component, without_component}
use Rattle.cls_replies.specs.Changing as changing
use Rattle.cls_replies.specs.Responder.{Responder, tables_in, with_tables}
use Rattle.cls_replies.specs.Texts.{error_line}
use Rattle.cls_laws.specs.Alike.{served_by}

-- WHAT A LINE SAYS
module _ (s : Responder) (line : List ℕ) where
  misread_one : (t u : List ℕ) (m n : Responder) → IsMisread s line t m → IsMisread s line u n → (t ≡ u) × (m ≡ n)
  misread_one t u m n h k =
      (h.written ∙ (ap error_line (errors_determined s.components line h.words k.words h.first k.first) ∙ sym k.written), h.same ∙ sym k.same)

  says_one : (c d : Change) (m n : Responder) → Says s line c m → Says s line d n → (c ≡ d) × (m ≡ n)
  says_one c d m n h k =
      let said : h.0.said ≡ k.0.said = read_once (words_of line) h.0.said k.0.said h.0.spelled k.0.spelled in
      let tables : tables_in m ≡ tables_in n = h.0.numbered ∙ (ap (λ (v : ChangeText). with_change (tables_in s) v) said ∙ sym k.0.numbered) in (
        h.0.changed ∙ (ap (λ (v : ChangeText). change_of (with_change (tables_in s) v) v) said ∙ sym k.0.changed),
        h.1 ∙ (ap (λ (x : Tables). with_tables s x) tables ∙ sym k.1),
      )

-- WHAT IT CHANGES
abbrev is_added : Change → Bool
is_added (Add x t) = true
is_added (Remove x) = false

abbrev name_in : Change → List ℕ
name_in (Add x t) = x
name_in (Remove x) = []

abbrev type_in : Change → OpenType
type_in (Add x t) = t
type_in (Remove x) = schemas.omega

abbrev number_in : Change → ℕ
number_in (Add x t) = 0
number_in (Remove x) = x

-- a schema has one component, and makes one library of another
pub the_component : (d : Declared) (kinds : List (ℕ × List ClosedType)) (s : OpenType) (b c : Component) → IsComponentOf d kinds s b → IsComponentOf d kinds s c → b ≡ c
the_component d kinds s b c h k =
    let t = all_of (instances_of kinds s) in
    let p : b.paths ≡ c.paths =
    form_unique (below_in d) (variances_in d) (is_below-reflexive d) (is_below-transitive d) (is_below-antisymmetric d) t t b.paths c.paths h.form k.form reflexivity reflexivity in
    let w : b.weight ≡ c.weight = h.weight ∙ sym k.weight in
    λ i. record { paths = p i; weight = w i }

added_one : (d : Declared) (kinds : List (ℕ × List ClosedType)) (s : OpenType) (old l m : Library) → Adds d kinds s old l → Adds d kinds s old m → l ≡ m
added_one d kinds s old l m h k =
    let c = the_component d kinds s h.component k.component h.of_schema k.of_schema in
    h.added ∙ ((λ i. record { taxonomy = old.taxonomy; components = old.components ++ c i ∷ [] }) ∙ sym k.added)

module _ (s : Responder) where
  abbrev library : Library
  library = s.engine.library

  -- a component isn't both added and refused, and it is refused with one list of words
  added_or_refused : (t : OpenType) (l : Library) (kind : LibraryKind) (x words : List ℕ) → Adds library.taxonomy s.kinds t library l → Refuses library s.kinds t kind
      → library_words s.variables x kind ≡ Some words → ⊥
  added_or_refused t l kind x words h k e =
      let number = length library.components in
      let weight = total_of library.components in
      accepted_sound library.taxonomy s.kinds s.variables x number weight t h.accepted words
      (refusal_first library.taxonomy s.kinds s.variables x number weight t kind words k e)

  refused_one : (t : OpenType) (kind kind' : LibraryKind) (x words words' : List ℕ) → Refuses library s.kinds t kind → Refuses library s.kinds t kind'
      → library_words s.variables x kind ≡ Some words → library_words s.variables x kind' ≡ Some words' → words ≡ words'
  refused_one t kind kind' x words words' h k e f =
      let number = length library.components in
      let weight = total_of library.components in
      component_one library.taxonomy s.kinds s.variables x number weight t words words'
      (refusal_first library.taxonomy s.kinds s.variables x number weight t kind words h e)
      (refusal_first library.taxonomy s.kinds s.variables x number weight t kind' words' k f)

  makes_one : (c : Change) (t u : List ℕ) (m n : Responder) → Makes s c t m → Makes s c u n → (t ≡ u) × (m ≡ n)
  makes_one c t u m n (changing.Makes.added x a l e adds p same) (changing.Makes.added y b k f adds' q same') =
      let is = sym e ∙ f in
      let names : x ≡ y = ap name_in is in
      let libraries = added_one library.taxonomy s.kinds a library l k adds (subst (λ (o : OpenType). Adds library.taxonomy s.kinds o library k) (sym (ap type_in is)) adds') in
      (p ∙ sym q, same ∙ ((λ i. with_component s (names i) (libraries i)) ∙ sym same'))
  makes_one c t u m n (changing.Makes.added x a l e adds p same) (changing.Makes.refused y b kind words f refuses w q same') =
      absurd (added_or_refused a l kind y words adds (subst (λ (o : OpenType). Refuses library s.kinds o kind) (sym (ap type_in (sym e ∙ f))) refuses) w)
  makes_one c t u m n (changing.Makes.added x a l e adds p same) (changing.Makes.dropped y f q same') = absurd (true≢false (ap is_added (sym e ∙ f)))
  makes_one c t u m n (changing.Makes.refused x a kind words e refuses w p same) (changing.Makes.added y b k f adds q same') =
      absurd (added_or_refused b k kind x words adds (subst (λ (o : OpenType). Refuses library s.kinds o kind) (ap type_in (sym e ∙ f)) refuses) w)
  makes_one c t u m n (changing.Makes.refused x a kind words e refuses w p same) (changing.Makes.refused y b kind' words' f refuses' w' q same') =
      let is = sym e ∙ f in
      let there = subst (λ (o : OpenType). Refuses library s.kinds o kind') (sym (ap type_in is)) refuses' in
      let said = subst (λ (z : List ℕ). library_words s.variables z kind' ≡ Some words') (sym (ap name_in is)) w' in
      (p ∙ (ap (λ (v : List ℕ). error_line (codes "refused " ++ v)) (refused_one a kind kind' x words words' refuses there w said) ∙ sym q), same ∙ sym same')
  makes_one c t u m n (changing.Makes.refused x a kind words e refuses w p same) (changing.Makes.dropped y f q same') = absurd (true≢false (ap is_added (sym e ∙ f)))
  makes_one c t u m n (changing.Makes.dropped x e p same) (changing.Makes.added y b k f adds q same') = absurd (true≢false (ap is_added (sym f ∙ e)))
  makes_one c t u m n (changing.Makes.dropped x e p same) (changing.Makes.refused y b kind words f refuses w q same') = absurd (true≢false (ap is_added (sym f ∙ e)))
  makes_one c t u m n (changing.Makes.dropped x e p same) (changing.Makes.dropped y f q same') =
      (p ∙ sym q, same ∙ (ap (λ (z : ℕ). without_component s z) (ap number_in (sym e ∙ f)) ∙ sym same'))

changed_one : (s : Responder) (line t u : List ℕ) (m n : Responder) → Changed s line t m → Changed s line u n → (t ≡ u) × (m ≡ n)
changed_one s line t u m n (changing.Changed.misread h) (changing.Changed.misread k) = misread_one s line t u m n h k
changed_one s line t u m n (changing.Changed.misread h) (changing.Changed.makes d y k b) = absurd (k.0.faultless h.words h.first)
changed_one s line t u m n (changing.Changed.makes c x h a) (changing.Changed.misread k) = absurd (h.0.faultless k.words k.first)
changed_one s line t u m n (changing.Changed.makes c x h a) (changing.Changed.makes d y k b) =
    let one = says_one s line c d x y h k in
    makes_one x c t u m n a (subst (λ (z : Responder). Makes z c u n) (sym one.1) (subst (λ (e : Change). Makes y e u n) (sym one.0) b))

-- ANOTHER NUMBER OF WORKERS
module _ (n : ℕ) where
  makes_by : (s : Responder) (c : Change) (t : List ℕ) (m : Responder) → Makes s c t m → Makes (served_by n s) c t (served_by n m)
  makes_by s c t m (changing.Makes.added x a l e adds p same) = changing.Makes.added x a l e adds p (ap (served_by n) same)
  makes_by s c t m (changing.Makes.refused x a kind words e refuses w p same) = changing.Makes.refused x a kind words e refuses w p (ap (served_by n) same)
  makes_by s c t m (changing.Makes.dropped x e p same) = changing.Makes.dropped x e p (ap (served_by n) same)

  changed_by : (s : Responder) (line t : List ℕ) (m : Responder) → Changed s line t m → Changed (served_by n s) line t (served_by n m)
  changed_by s line t m (changing.Changed.misread h) =
      changing.Changed.misread (record { words = h.words; first = h.first; written = h.written; same = ap (served_by n) h.same })
  changed_by s line t m (changing.Changed.makes c x h a) = changing.Changed.makes c (served_by n x) (h.0, ap (served_by n) h.1) (makes_by x c t m a)

  pub changed_same : (s : Responder) (line t u : List ℕ) (m k : Responder) → Changed s line t m → Changed (served_by n s) line u k → (t ≡ u) × (k ≡ served_by n m)
  changed_same s line t u m k h g =
      let one = changed_one (served_by n s) line t u (served_by n m) k (changed_by s line t m h) g in
      (one.0, sym one.1)
