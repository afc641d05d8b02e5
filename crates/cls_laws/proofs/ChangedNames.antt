-- The names of components stay apart when one comes or goes, and a line that adds one gives proper names.
use Rattle.std.proofs.Common.{ℕ, zero, suc, ◌≡◌, ◌<◌, true, false, List, [], ◌∷◌, length, map, refl, sym, ◌∙◌, ap, subst, arith, Contains}
use Rattle.std.specs.Prelude.{not, remove}
use Rattle.std.specs.List.{AllByRecursion, IsDistinct}
use Rattle.std.specs.Str.{bytes_eq}
use Rattle.std.proofs.lemmas.Bool.{true≢false}
use Rattle.std.proofs.lemmas.Slice.Eq.{bytes_eq-Decides}
use Rattle.cls_core.proofs.Members.{contains-any}
use Rattle.cls_lexer.specs.Names.{number_of}
use Rattle.cls_lexer.specs.Words.{Word, words_of}
use Rattle.cls_syntax.specs.Forms.{constructors_named, part_word, type_parts}
use Rattle.cls_syntax.specs.LineGrammars.{row_words}
use Rattle.cls_syntax.specs.RoundTrips.{IsProperName}
use Rattle.cls_syntax.proofs.ReadTypes.{AllGood, AllHeld, Below, held_by, line_proper}
use Rattle.cls_query.specs.declared.change.Change.TheVariants.{Add, Remove}
use Rattle.cls_query.specs.Changes.{Change, ChangeText, WordsSay, change_of, change_parts, change_rows, row_of, with_change}
use Rattle.cls_query.specs.Queries.{Tables}
use Rattle.cls_query.specs.QueryErrors.{is_absent}
use Rattle.cls_query.specs.ReadChanges.{MayChange, ReadsChange}
use Rattle.cls_query.proofs.ChangeTables.{reads_may}
use Rattle.cls_replies.specs.Changing.{Changed, Makes}
use Rattle.cls_replies.specs.Changing as changing
use Rattle.cls_replies.specs.Responder.{Responder}
use Rattle.cls_session.proofs.ComponentNames.{distinct_push}
use Rattle.cls_laws.proofs.DraftNames.{AreProper, parts_known, parts_proper, type_spelled}
use Rattle.cls_laws.proofs.LibraryNames.{SchemaHas}

-- APART
absent_none : (xs : List (List ℕ)) (x : List ℕ) → is_absent xs x ≡ true → Contains xs x → ⊥
absent_none xs x e h =
    let held = contains-any bytes_eq (λ y z k. (bytes_eq-Decides y z).0 k) (λ y. (bytes_eq-Decides y y).1 refl) xs x h in
    true≢false (sym e ∙ ap not held)

fewer_apart : (y : List ℕ) (xs : List (List ℕ)) (i : ℕ) → i < length xs → AllByRecursion (λ z. bytes_eq y z ≡ false) xs → AllByRecursion (λ z. bytes_eq y z ≡ false) (remove xs i)
fewer_apart y [] i l h = absurd (omega arith)
fewer_apart y (x ∷ xs) zero l h = h.1
fewer_apart y (x ∷ xs) (suc i) l h = (h.0, fewer_apart y xs i (omega arith) h.1)

distinct_remove : (xs : List (List ℕ)) (i : ℕ) → i < length xs → IsDistinct bytes_eq xs → IsDistinct bytes_eq (remove xs i)
unfolding IsDistinct
distinct_remove [] i l d = absurd (omega arith)
distinct_remove (x ∷ xs) zero l d = d.1
distinct_remove (x ∷ xs) (suc i) l d = (fewer_apart x xs i (omega arith) d.0, distinct_remove xs i (omega arith) d.1)

abbrev Apart : Responder → Type 0
Apart s = IsDistinct bytes_eq s.components

makes_apart : (s : Responder) (c : Change) (t : List ℕ) (m : Responder) → MayChange s.components c → Makes s c t m → Apart s → Apart m
makes_apart s c t m may (changing.Makes.added x a l e adds p same) d =
    subst Apart (sym same) (distinct_push s.components x d (absent_none s.components x (subst (MayChange s.components) e may)))
makes_apart s c t m may (changing.Makes.refused x a kind words e refuses w p same) d = subst Apart (sym same) d
makes_apart s c t m may (changing.Makes.dropped x e p same) d = subst Apart (sym same) (distinct_remove s.components x (subst (MayChange s.components) e may) d)

pub changed_apart : (s : Responder) (line t : List ℕ) (m : Responder) → Changed s line t m → Apart s → Apart m
changed_apart s line t m (changing.Changed.misread h) d = subst Apart (sym h.same) d
changed_apart s line t m (changing.Changed.makes c x h a) d =
    let same : x.components ≡ s.components = ap (λ (z : Responder). z.components) h.1 in
    makes_apart x c t m (subst (λ (ks : List (List ℕ)). MayChange ks c) (sym same) (reads_may h.0)) a (subst (λ (ks : List (List ℕ)). IsDistinct bytes_eq ks) (sym same) d)

-- PROPER NAMES
-- the words of a change, by its parts
words_of_change : (said : ChangeText) → row_words change_rows (row_of said) ≡ map part_word (change_parts said)
words_of_change (Add x t) = refl
words_of_change (Remove x) = refl

pub change_proper : (line : List ℕ) (said : ChangeText) → WordsSay said (words_of line) → AreProper (constructors_named (change_parts said))
change_proper line said says =
    parts_proper (change_parts said) (subst (λ (ws : List Word). AllGood IsProperName ws) (sym says.spelled ∙ words_of_change said) (line_proper line))

-- a new component has a proper name, and its constructors are those of the table
abbrev pub IsNamedIn : List (List ℕ) → Change → Type 0
IsNamedIn names (Add x t) = IsProperName x × SchemaHas (Below names) t
IsNamedIn names (Remove x) = Unit {0}

named_as : (tables : Tables) (line : List ℕ) (said : ChangeText) → WordsSay said (words_of line) → IsNamedIn (with_change tables said).constructors (change_of (with_change tables said) said)
named_as tables line (Add x t) says =
    let words = subst (λ (ws : List Word). AllGood IsProperName ws) (sym says.spelled) (line_proper line) in
    let after = with_change tables (Add x t) in
    let names = constructors_named (change_parts (Add x t)) in
    let held : AllHeld after.constructors names = held_by tables.constructors names after.constructors refl in
    let v : List ℕ → ℕ = number_of after.variables in
    (words.1.0, type_spelled after.constructors v t (parts_known after.constructors v (type_parts t) [] held).0)
named_as tables line (Remove x) says = tt

pub change_named : {tables after : Tables} {line : List ℕ} {c : Change} → ReadsChange tables line c after → IsNamedIn after.constructors c
change_named {tables} {after} {line} {c} r =
    subst (λ (a : Tables). IsNamedIn a.constructors c) (sym r.numbered)
    (subst (IsNamedIn (with_change tables r.said).constructors) (sym r.changed) (named_as tables line r.said r.spelled))
