-- What the columns of a draft become by one declaration more.
use Rattle.std.proofs.Common.{◌≡◌, ℕ, ◌<◌, true, false, List, [], ◌∷◌, ◌++◌, length, map, refl, sym, ap, ◌∙◌, subst, Contains, append-nil, get_or}
use Rattle.std.specs.Prelude.{Some, if◌then◌else◌, ◌||◌}
use Rattle.std.specs.List.{list_any}
use Rattle.std.specs.Str.{bytes_eq}
use Rattle.std.proofs.lemmas.List.{map-set, length-map}
use Rattle.std.proofs.Math.ListN.{set, get_or-map}
use Rattle.std.proofs.lemmas.Map.Views.{Contains-from_any}
use Rattle.std.proofs.lemmas.Slice.Eq.{bytes_eq-Decides}
use Rattle.cls_assemble.specs.declared.piece.Piece.{Piece}
use Rattle.cls_assemble.specs.declared.piece.Piece.TheVariants.{Byte}
use Rattle.cls_base.specs.Schemas.{OpenType}
use Rattle.cls_base.specs.Types.{ClosedType}
use Rattle.cls_base.specs.Taxonomies.{Variance}
use Rattle.cls_lexer.specs.Names.{number_of, with_text, with_texts}
use Rattle.cls_lexer.specs.Words as word
use Rattle.cls_lexer.specs.Words.{Word, name, number, sign}
use Rattle.cls_lexer.specs.declared.token.TokenKind.TheVariants.{Bar}
use Rattle.cls_syntax.specs.ClosedTypes.{HasNoDollar}
use Rattle.cls_syntax.specs.Forms.{Part, fixed, naming, numeral, type_parts, types_parts, constructors_named, variables_named}
use Rattle.cls_syntax.specs.TypeLists.{types_words}
use Rattle.cls_syntax.specs.TypeSchemas.{type_schema, is_dollar, name_text, constructors_in, variables_in}
use Rattle.cls_syntax.specs.TypeTexts.{TypeText, TypeList, last, more, type_words}
use Rattle.cls_syntax.specs.declared.role.Role.TheVariants.{Variable, NewVariable}
use Rattle.cls_syntax.proofs.PartNames.{type_constructors, type_variables}
use Rattle.cls_repo.specs.declared.draft.Component as code_component
use Rattle.cls_repo.specs.declared.draft.Draft as code_draft
use Rattle.cls_repo.specs.Written.{component_of}
use Rattle.cls_repo.specs.Declarations.{with_names, with_pair, with_kind, with_component, with_variance, variance_named, changed_at}
use Rattle.cls_repo.specs.Directives.{sub, kind, comp, variance}
use Rattle.cls_repo.specs.Drafts.{Component, Draft}
use Rattle.cls_repo.proofs.Changes.{changed_set}
use Rattle.cls_syntax.proofs.ClosedLists.{front_left, front_right}

-- one more pair
pub pair_put : (d : Draft) (names : List (List ℕ)) (a b : List ℕ) (m n : ℕ) (pairs : List (ℕ × ℕ)) → names ≡ with_text (with_text d.names a) b → m ≡ number_of names a → n ≡ number_of names b
    → pairs ≡ d.pairs ++ (m, n) ∷ [] → record d { names = names; pairs = pairs } ≡ with_pair (with_names d (sub a b)) a b
pair_put d names a b m n pairs e f g h =
    let all : pairs ≡ d.pairs ++ (number_of (with_text (with_text d.names a) b) a, number_of (with_text (with_text d.names a) b) b) ∷ [] =
    h ∙ (λ i. d.pairs ++ ((f ∙ ap (λ ns. number_of ns a) e) i, (g ∙ ap (λ ns. number_of ns b) e) i) ∷ []) in
    λ i. record d { names = e i; pairs = all i }

-- one more variance
pub variance_put : (d : Draft) (names : List (List ℕ)) (c w : List ℕ) (n : ℕ) (v : Variance) (variances : List (ℕ × Variance)) → names ≡ with_text d.names c → n ≡ number_of names c → v ≡ variance_named w
    → variances ≡ d.variances ++ (n, v) ∷ [] → record d { names = names; variances = variances } ≡ with_variance (with_names d (variance c w)) c w
variance_put d names c w n v variances e f g h =
    let all : variances ≡ d.variances ++ (number_of (with_text d.names c) c, variance_named w) ∷ [] = h ∙ (λ i. d.variances ++ ((f ∙ ap (λ ns. number_of ns c) e) i, g i) ∷ []) in
    λ i. record d { names = e i; variances = all i }

-- a text that isn't held goes last
pub with_new : (texts : List (List ℕ)) (x : List ℕ) → (Contains texts x → ⊥) → with_text texts x ≡ texts ++ x ∷ []
with_new texts x none =
    (elim (list_any (bytes_eq x) texts) as (λ b. list_any (bytes_eq x) texts ≡ b → (if b then texts else texts ++ x ∷ []) ≡ texts ++ x ∷ []) [
      | true ↦ λ e. absurd (none (Contains-from_any (λ y z h. (bytes_eq-Decides y z).0 h) x texts e))
      | false ↦ λ e. refl
    ]) refl

-- the names of a component's line are those of its type
pub component_names : (x : List ℕ) (t : TypeText) (texts : List (List ℕ)) → with_texts texts (constructors_in false (type_words t)) ≡ with_texts texts (constructors_named (type_parts t ++ []))
component_names x t texts = ap (with_texts texts) (sym (type_constructors t) ∙ ap constructors_named (sym (append-nil (type_parts t))))

pub component_variables : (x : List ℕ) (t : TypeText) (texts : List (List ℕ)) → with_texts texts (variables_in false (type_words t)) ≡ with_texts texts (variables_named (type_parts t ++ []))
component_variables x t texts = ap (with_texts texts) (sym (type_variables t) ∙ ap variables_named (sym (append-nil (type_parts t))))

-- one more component
pub component_put : (d : Draft) (names variables component_names' : List (List ℕ)) (n : ℕ) (x : List ℕ) (t : TypeText) (schema : OpenType) (template : List Piece) (components : List Component)
    → names ≡ with_texts d.names (constructors_in false (type_words t)) → variables ≡ with_texts d.variables (variables_in false (type_words t)) → component_names' ≡ d.component_names ++ x ∷ []
    → schema ≡ type_schema (number_of names) (number_of variables) t → template ≡ map Byte x → components ≡ d.components ++ record { schema = schema; line = n; template = template; cost = 1 } ∷ []
    → record d { names = names; variables = variables; component_names = component_names'; components = components } ≡ with_component (with_names d (comp x t)) n x t
component_put d names variables component_names' n x t schema template components e f g s m h =
    let e' = e ∙ component_names x t d.names in
    let f' = f ∙ component_variables x t d.variables in
    let s' = s ∙ (λ i. type_schema (number_of (e' i)) (number_of (f' i)) t) in
    let all = h ∙ (λ i. d.components ++ record { schema = s' i; line = n; template = m i; cost = 1 } ∷ []) in
    λ i. record d { names = e' i; variables = f' i; component_names = g i; components = all i }

-- words without `$` name no variable
no_text : (w : Word) → name_text false w ≡ []
no_text word.omega = refl
no_text (name x) = refl
no_text (number n) = refl
no_text (sign s) = refl

none_named : (ws : List Word) → HasNoDollar ws → variables_in false ws ≡ []
none_named [] h = refl
none_named (w ∷ ws) h =
    (elim (is_dollar w) as (λ b. (b || list_any is_dollar ws) ≡ false → name_text false w ++ variables_in b ws ≡ []) [
      | true ↦ λ k. absurd (cc)
      | false ↦ λ k. ap (λ (xs : List (List ℕ)). xs ++ variables_in false ws) (no_text w) ∙ none_named ws k
    ]) h

variables_join : (ps qs : List Part) → variables_named (ps ++ qs) ≡ variables_named ps ++ variables_named qs
variables_join [] qs = refl
variables_join (fixed w ∷ ps) qs = variables_join ps qs
variables_join (naming Variable x ∷ ps) qs = ap (λ (xs : List (List ℕ)). x ∷ xs) (variables_join ps qs)
variables_join (naming NewVariable x ∷ ps) qs = ap (λ (xs : List (List ℕ)). x ∷ xs) (variables_join ps qs)
variables_join (naming _ x ∷ ps) qs = variables_join ps qs
variables_join (numeral l g d ∷ ps) qs = variables_join ps qs

pub no_variables : (ts : TypeList) → HasNoDollar (types_words Bar ts) → variables_named (types_parts ts) ≡ []
no_variables (last t) h = type_variables t ∙ none_named (type_words t) h
no_variables (more t ts) h =
    variables_join (type_parts t) (fixed (sign Bar) ∷ types_parts ts)
    ∙ (λ i. (type_variables t ∙ none_named (type_words t) (front_left (type_words t) (sign Bar ∷ types_words Bar ts) h)) i ++ no_variables ts (front_right (type_words t ++ sign Bar ∷ []) (types_words Bar ts) (subst HasNoDollar (regroup (type_words t) (types_words Bar ts)) h)) i)
  where
    regroup : (us vs : List Word) → us ++ sign Bar ∷ vs ≡ (us ++ sign Bar ∷ []) ++ vs
    regroup [] vs = refl
    regroup (u ∷ us) vs = ap (λ (ws : List Word). u ∷ ws) (regroup us vs)

-- one more kind
pub kind_put : (d : Draft) (names variables : List (List ℕ)) (x : List ℕ) (ts : TypeList) (n : ℕ) (types : List ClosedType) (kinds : List (ℕ × List ClosedType)) → HasNoDollar (types_words Bar ts)
    → names ≡ with_texts d.names (constructors_named (types_parts ts)) → variables ≡ with_text d.variables x → n ≡ number_of variables x → kinds ≡ d.kinds ++ (n, types) ∷ []
    → record d { names = names; variables = variables; kinds = kinds } ≡ with_kind (with_names d (kind x (Some ts))) x types
kind_put d names variables x ts n types kinds closed e f g h =
    let f' : variables ≡ with_texts d.variables (x ∷ variables_named (types_parts ts)) = f ∙ ap (λ (xs : List (List ℕ)). with_texts d.variables (x ∷ xs)) (sym (no_variables ts closed)) in
    let all = h ∙ (λ i. d.kinds ++ ((g ∙ ap (λ (vs : List (List ℕ)). number_of vs x) f') i, types) ∷ []) in
    λ i. record d { names = e i; variables = f' i; kinds = all i }

-- what stands at the place is changed
module _ {X Y : Type 0} (view : X → Y) (xs : List X) (n : ℕ) (there : n < length xs) (change : Y → Y) where
  pub changed_view : (x d : X) → view x ≡ change (view (get_or xs n d)) → map view (set xs n x) ≡ changed_at n change (map view xs)
  changed_view x d e = map-set view xs n x ∙ (ap (set (map view xs) n) (e ∙ ap change (sym (get_or-map view xs n d))) ∙ sym (changed_set n change (map view xs) (view d) (subst (λ k. n < k) (sym (length-map xs view)) there)))

pub component_changed : (old : code_draft.Draft) (n : ℕ) (x : List ℕ) (change : Component → Component) (was new : code_component.Component) → n < length old.component_names → n ≡ number_of old.component_names x
    → was ≡ get_or old.components.items n was → component_of new ≡ change (component_of was)
    → map component_of (set old.components.items n new) ≡ changed_at (number_of old.component_names x) change (map component_of old.components.items)
component_changed old n x change was new l is at changed =
    let there = subst (λ (m : ℕ). n < m) (sym old.counted) l in
    changed_view component_of old.components.items n there change new was (changed ∙ ap (λ (k : code_component.Component). change (component_of k)) at) ∙ ap (λ (m : ℕ). changed_at m change (map component_of old.components.items)) is
