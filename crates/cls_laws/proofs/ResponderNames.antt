-- Each number of a constructor in the library of a session is the number of a name in its table. Each name there is one of
-- the language, and no two constructors have one name.
use Rattle.std.proofs.Common.{ℕ, zero, suc, ◌≡◌, ◌<◌, Bool, true, false, List, [], ◌∷◌, ◌++◌, length, map, refl, sym, ◌∙◌, ap, subst, codes, arith}
use Rattle.std.specs.Prelude.{if◌then◌else◌, remove, slice_index_or}
use Rattle.std.specs.List.{AllByRecursion, IsDistinct}
use Rattle.std.specs.Str.{bytes_eq}
use Rattle.std.proofs.lemmas.List.{length-append, length-map, map-append}
use Rattle.std.proofs.lemmas.List.Edits.{length-remove}
use Rattle.cls_base.specs.Types.{ClosedType}
use Rattle.cls_base.specs.Schemas.{OpenType}
use Rattle.cls_lexer.specs.declared.token.TokenKind.TheVariants.{Colon}
use Rattle.cls_lexer.specs.Names.{number_of, with_texts}
use Rattle.cls_lexer.specs.Words as word
use Rattle.cls_lexer.specs.Words.{Word, name, number, sign}
use Rattle.cls_syntax.specs.declared.role.Role.TheVariants.{Component}
use Rattle.cls_syntax.specs.Forms.{Part, fixed, naming, numeral, part_word, type_parts, constructors_named}
use Rattle.cls_syntax.specs.LineGrammars.{row_words}
use Rattle.cls_syntax.specs.RoundTrips.{IsProperName}
use Rattle.cls_syntax.specs.TypeSchemas.{is_dollar, constructors_in}
use Rattle.cls_syntax.specs.TypeTexts.{TypeText, type_words}
use Rattle.cls_syntax.proofs.LineParts.{type_same}
use Rattle.cls_syntax.proofs.ReadTypes.{AllGood, Below, line_proper}
use Rattle.cls_syntax.proofs.ReadTypes as words
use Rattle.cls_library.specs.Libraries.{AreComponentsOf, no_component, no_components, one_component, paths_at}
use Rattle.cls_library.specs.Libraries as libraries
use Rattle.cls_taxon.specs.Orders.{Declared}
use Rattle.cls_proof.specs.Forms.{certificate_rows, greatest_number, Written, line_of, goal_words}
use Rattle.cls_proof.specs.Forms as written
use Rattle.cls_proof.specs.Reading.{Says, no_statement, one_statement, LinesSay}
use Rattle.cls_proof.specs.Statements.{Statement, statements_of}
use Rattle.cls_proof.proofs.ReadCertificates.{distinct_all}
use Rattle.cls_query.specs.Changes.{Change, change_parts}
use Rattle.cls_query.specs.Queries.{Query, Tables, tables_of, verify, query_parts}
use Rattle.cls_query.specs.ReadChanges.{MayChange}
use Rattle.cls_query.proofs.ChangeTables.{reads_may}
use Rattle.cls_query.proofs.RowParts.{words_of_parts}
use Rattle.cls_query.proofs.Searches.{all_both}
use Rattle.cls_repo.specs.Drafts as drafts
use Rattle.cls_repo.specs.Drafts.{Draft}
use Rattle.cls_repo.specs.EndFaults.{declared_in, schemas_in}
use Rattle.cls_repo.specs.Sound.{IsSound}
use Rattle.cls_engine.specs.declared.options.Options.{Options}
use Rattle.cls_replies.specs.Answering.{Asks, Answers, Answered, Verifies, Verified}
use Rattle.cls_replies.specs.Answering as answering
use Rattle.cls_replies.specs.Changing.{Changed, Makes}
use Rattle.cls_replies.specs.Changing as changing
use Rattle.cls_replies.specs.Lines.{Goes, Replies}
use Rattle.cls_replies.specs.Lines as lines
use Rattle.cls_replies.specs.Responder.{Responder, Serves, tables_in, with_tables, holding}
use Rattle.cls_session.specs.Transcripts.{IsAnswered}
use Rattle.cls_laws.proofs.ChangedNames.{IsNamedIn, change_named, change_proper}
use Rattle.cls_laws.proofs.DraftNames.{AreProper, IsNamed, grown_proper, parts_proper, below_more, kinds_to, repository_named}
use Rattle.cls_laws.proofs.LibraryNames.{KindsHave, SchemaHas, component_has, library_has}
use Rattle.cls_laws.proofs.Openings.{repository_sound}
use Rattle.cls_laws.proofs.PathNames.{PathsHave, paths_to}

pub record IsCalled (s : Responder) : Type 0 where
  pub apart : IsDistinct bytes_eq s.names
  pub proper : AreProper s.names
  pub called : AreProper s.components
  pub counted : length s.components ≡ length s.engine.library.components
  pub known : (x : ℕ) → PathsHave (Below s.names) (paths_at s.engine.library x)
  pub ranged : KindsHave (Below s.names) s.kinds

-- A REPOSITORY THAT IS OPENED
schemas_named : (K : ℕ → Type 0) (cs : List drafts.Component) → AllByRecursion (λ (c : drafts.Component). SchemaHas K c.schema) cs → AllByRecursion (λ (s : OpenType). SchemaHas K s) (map (λ c. c.schema) cs)
schemas_named K [] h = tt
schemas_named K (c ∷ cs) h = (h.0, schemas_named K cs h.1)

as_many : (d : Declared) (kinds : List (ℕ × List ClosedType)) {ss : List OpenType} {cs : List libraries.Component} → AreComponentsOf d kinds ss cs → length ss ≡ length cs
as_many d kinds no_components = refl
as_many d kinds (one_component is more) = ap (λ (n : ℕ). suc n) (as_many d kinds more)

opened_called : (o : Options) (d : Draft) (s : Responder) → IsNamed d → IsSound d → Serves o d s → IsCalled s
opened_called o d s h sound is = record {
  apart = subst (λ (ts : List (List ℕ)). IsDistinct bytes_eq ts) (sym is.same_names) h.apart;
  proper = subst (λ (ts : List (List ℕ)). AreProper ts) (sym is.same_names) h.proper;
  called = subst (λ (ts : List (List ℕ)). AreProper ts) (sym is.same_components) h.called;
  counted =
      ap (λ (ts : List (List ℕ)). length ts) is.same_components
      ∙ (sound.named ∙ (sym (length-map d.components (λ (c : drafts.Component). c.schema)) ∙ as_many (declared_in d) d.kinds is.library_is.components));
  known = subst (λ (ts : List (List ℕ)). (x : ℕ) → PathsHave (Below ts) (paths_at s.engine.library x)) (sym is.same_names)
      (library_has (Below d.names) (declared_in d) d.kinds h.ranged (schemas_in d) s.engine.library is.library_is (schemas_named (Below d.names) d.components h.typed));
  ranged = subst (λ (ts : List (List ℕ)). KindsHave (Below ts) s.kinds) (sym is.same_names)
      (subst (λ (ks : List (ℕ × List ClosedType)). KindsHave (Below d.names) ks) (sym is.same_kinds) h.ranged);
}

-- NAMES THAT COME
with_called : (s : Responder) (tables : Tables) (xs : List (List ℕ)) (m : Responder) → m ≡ with_tables s tables → tables.constructors ≡ with_texts s.names xs → AreProper xs → IsCalled s → IsCalled m
with_called s tables xs m e numbered proper h =
    let grown : IsCalled (with_tables s (tables_of (with_texts s.names xs) tables.variables [] [])) = record {
      apart = distinct_all s.names xs h.apart;
      proper = grown_proper s.names xs h.proper proper;
      called = h.called;
      counted = h.counted;
      known = λ x. paths_to (Below s.names) (Below (with_texts s.names xs)) (below_more s.names xs) (paths_at s.engine.library x) (h.known x);
      ranged = kinds_to (Below s.names) (Below (with_texts s.names xs)) (below_more s.names xs) s.kinds h.ranged;
    } in
    subst IsCalled (sym (e ∙ ap (λ (ts : List (List ℕ)). with_tables s (tables_of ts tables.variables [] [])) numbered)) grown

query_proper : (s : Responder) (line : List ℕ) (q : Query) (m : Responder) (h : Asks s line q m) → AreProper (constructors_named (query_parts h.0.said))
query_proper s line q m h =
    parts_proper (query_parts h.0.said)
    (subst (λ (ws : List Word). AllGood IsProperName ws) (sym h.0.spelled.spelled ∙ words_of_parts h.0.said) (line_proper line))

asks_called : (s : Responder) (line : List ℕ) (q : Query) (m : Responder) → Asks s line q m → IsCalled s → IsCalled m
asks_called s line q m h c = with_called s (tables_in m) (constructors_named (query_parts h.0.said)) m h.1 (ap (λ (x : Tables). x.constructors) h.0.numbered) (query_proper s line q m h) c

-- the constructors among words
if_proper : (b : Bool) (x : List ℕ) → IsProperName x → AreProper (if b then x ∷ [] else [])
if_proper true x h = (h, tt)
if_proper false x h = tt

words_proper : (b : Bool) (ws : List Word) → AllGood IsProperName ws → AreProper (constructors_in b ws)
words_proper b [] h = tt
words_proper b (word.omega ∷ ws) h = words_proper false ws h.1
words_proper b (name x ∷ ws) h = all_both IsProperName (if (if b then false else true) then x ∷ [] else []) (constructors_in false ws) (if_proper (if b then false else true) x h.0) (words_proper false ws h.1)
words_proper b (number n ∷ ws) h = words_proper false ws h.1
words_proper b (sign k ∷ ws) h = words_proper (is_dollar (sign k)) ws h.1

type_front : (t : TypeText) (ps : List Part) → AllGood IsProperName (map part_word (type_parts t ++ ps)) → AllGood IsProperName (type_words t)
type_front t ps h =
    (words.parts IsProperName (type_words t) (map part_word ps)
    (subst (λ (ws : List Word). AllGood IsProperName ws) (map-append part_word (type_parts t) ps ∙ ap (λ (ws : List Word). ws ++ map part_word ps) (type_same t)) h)).0

goal_proper : (w : Written) → AllGood IsProperName (row_words certificate_rows (line_of w)) → AllGood IsProperName (goal_words w)
goal_proper written.inhabited h = tt
goal_proper (written.row t x d ds) h = type_front t (fixed (name (codes "by")) ∷ naming Component x ∷ numeral 0 greatest_number d ∷ fixed (sign Colon) ∷ map (numeral 0 greatest_number) ds) h.1
goal_proper written.empty h = tt
goal_proper (written.member t) h = type_front t [] h.1
goal_proper (written.block x d) h = tt
goal_proper written.layer h = tt
goal_proper (written.set ds) h = tt
goal_proper written.qed h = tt

line_names : (f : List ℕ → ℕ) (components : List (List ℕ)) (line : List ℕ) (names : List (List ℕ)) (ss : List Statement) → Says f components line names ss → AreProper names
line_names f components line names ss (no_statement k a e) = subst (λ (ts : List (List ℕ)). AreProper ts) (sym a) tt
line_names f components line names ss (one_statement s h e) =
    let good = subst (λ (ws : List Word). AllGood IsProperName ws) (sym h.says.spelled) (line_proper line) in
    subst (λ (ts : List (List ℕ)). AreProper ts) (sym h.named) (words_proper false (goal_words h.written) (goal_proper h.written good))

lines_names : (f : List ℕ → ℕ) (components ls names : List (List ℕ)) (ss : List Statement) → LinesSay f components ls names ss → AreProper names
lines_names f components [] names ss h = subst (λ (ts : List (List ℕ)). AreProper ts) (sym h.0) tt
lines_names f components (l ∷ ls) names ss (n1, n2, s1, s2, first, rest, en, es) =
    subst (λ (ts : List (List ℕ)). AreProper ts) (sym en)
    (all_both IsProperName n1 n2 (line_names f components l n1 s1 first) (lines_names f components ls n2 s2 rest))

-- THE LINES AFTER A REPOSITORY
same_called : (s m : Responder) → m ≡ s → IsCalled s → IsCalled m
same_called s m e h = subst IsCalled (sym e) h

held_called : (s : Responder) (held : List (List ℕ)) → IsCalled s → IsCalled (holding s held)
held_called s held h = record { apart = h.apart; proper = h.proper; called = h.called; counted = h.counted; known = h.known; ranged = h.ranged }

verifies_called : (s : Responder) (goal : ClosedType) (certificate : List (List ℕ)) (text : List ℕ) (m : Responder) → Verifies s goal certificate text m → IsCalled s → IsCalled m
verifies_called s goal certificate text m (answering.Verifies.bad fault ws is w t e) h = same_called s m e h
verifies_called s goal certificate text m (answering.Verifies.read c says e j) h =
    with_called s (tables_of m.names s.variables [] []) says.names m e says.numbered (lines_names (number_of m.names) s.components certificate says.names (statements_of c) says.says) h

verified_called : (s : Responder) (line : List ℕ) (certificate : List (List ℕ)) (text : List ℕ) (m : Responder) → Verified s line certificate text m → IsCalled s → IsCalled m
verified_called s line certificate text m (answering.Verified.misread k) h = same_called s m k.same h
verified_called s line certificate text m (answering.Verified.asked goal x asks v) h = verifies_called x goal certificate text m v (asks_called s line (verify goal) x asks h)

answers_called : (s : Responder) (q : Query) (text : List ℕ) (m : Responder) → Answers s q text m → IsCalled s → IsCalled m
answers_called s q text m (answering.Answers.failed f k e same) h = same_called s m same h
answers_called s q text m (answering.Answers.replied silent r same) h = same_called s m same h

answered_called : (s : Responder) (line text : List ℕ) (m : Responder) → Answered s line text m → IsCalled s → IsCalled m
answered_called s line text m (answering.Answered.misread k) h = same_called s m k.same h
answered_called s line text m (answering.Answered.asked q x asks a) h = answers_called x q text m a (asks_called s line q x asks h)

-- a component more, or one less
paths_push : (K : ℕ → Type 0) (cs : List libraries.Component) (c : libraries.Component) → ((x : ℕ) → PathsHave K (slice_index_or cs x no_component).paths) → PathsHave K c.paths
    → (x : ℕ) → PathsHave K (slice_index_or (cs ++ c ∷ []) x no_component).paths
paths_push K [] c h k zero = k
paths_push K [] c h k (suc x) = h x
paths_push K (b ∷ cs) c h k zero = h zero
paths_push K (b ∷ cs) c h k (suc x) = paths_push K cs c (λ y. h (suc y)) k x

paths_remove : (K : ℕ → Type 0) (cs : List libraries.Component) (i : ℕ) → i < length cs → ((x : ℕ) → PathsHave K (slice_index_or cs x no_component).paths)
    → (x : ℕ) → PathsHave K (slice_index_or (remove cs i) x no_component).paths
paths_remove K [] i l h x = absurd (omega arith)
paths_remove K (c ∷ cs) zero l h x = h (suc x)
paths_remove K (c ∷ cs) (suc i) l h zero = h zero
paths_remove K (c ∷ cs) (suc i) l h (suc x) = paths_remove K cs i (omega arith) (λ y. h (suc y)) x

proper_remove : (xs : List (List ℕ)) (i : ℕ) → i < length xs → AreProper xs → AreProper (remove xs i)
proper_remove [] i l h = absurd (omega arith)
proper_remove (x ∷ xs) zero l h = h.1
proper_remove (x ∷ xs) (suc i) l h = (h.0, proper_remove xs i (omega arith) h.1)

makes_called : (s : Responder) (c : Change) (text : List ℕ) (m : Responder) → MayChange s.components c → IsNamedIn s.names c → Makes s c text m → IsCalled s → IsCalled m
makes_called s c text m may named (changing.Makes.added x t library e adds w same) h =
    let d = s.engine.library.taxonomy in
    let own = subst (IsNamedIn s.names) e named in
    let K : ℕ → Type 0 = Below s.names in
    let long = ap (λ (l : libraries.Library). length l.components) adds.added in
    let more = length-append s.engine.library.components (adds.component ∷ []) in
    let names = length-append s.components (x ∷ []) in
    let counted = h.counted in
    subst IsCalled (sym same) record {
      apart = h.apart;
      proper = h.proper;
      called = all_both IsProperName s.components (x ∷ []) h.called (own.0, tt);
      counted = omega (arith, long, more, names, counted);
      known = subst (λ (l : libraries.Library). (y : ℕ) → PathsHave K (paths_at l y)) (sym adds.added)
          (paths_push K s.engine.library.components adds.component h.known (component_has K d s.kinds h.ranged t adds.component adds.of_schema own.1));
      ranged = h.ranged;
    }
makes_called s c text m may named (changing.Makes.refused x t kind ws e refuses w p same) h = same_called s m same h
makes_called s c text m may named (changing.Makes.dropped x e w same) h =
    let there : x < length s.components = subst (MayChange s.components) e may in
    let counted = h.counted in
    let within : x < length s.engine.library.components = omega (arith, there, counted) in
    let fewer = length-remove s.components x there in
    let less = length-remove s.engine.library.components x within in
    subst IsCalled (sym same) record {
      apart = h.apart;
      proper = h.proper;
      called = proper_remove s.components x there h.called;
      counted = omega (arith, counted, fewer, less);
      known = paths_remove (Below s.names) s.engine.library.components x within h.known;
      ranged = h.ranged;
    }

changed_called : (s : Responder) (line text : List ℕ) (m : Responder) → Changed s line text m → IsCalled s → IsCalled m
changed_called s line text m (changing.Changed.misread k) h = same_called s m k.same h
changed_called s line text m (changing.Changed.makes c x says a) h =
    let r = says.0 in
    let read = with_called s (tables_in x) (constructors_named (change_parts r.said)) x says.1 (ap (λ (ts : Tables). ts.constructors) r.numbered) (change_proper line r.said r.spelled) h in
    let same : x.components ≡ s.components = ap (λ (z : Responder). z.components) says.1 in
    makes_called x c text m (subst (λ (ks : List (List ℕ)). MayChange ks c) (sym same) (reads_may r)) (change_named r) a read

goes_called : (s : Responder) (line text : List ℕ) (m : Responder) → Goes s line text m → IsCalled s → IsCalled m
goes_called s line text m (lines.Goes.skips e k t same) h = same_called s m same h
goes_called s line text m (lines.Goes.asks e single a) h = answered_called s line text m a h
goes_called s line text m (lines.Goes.changes e changes a) h = changed_called s line text m a h
goes_called s line text m (lines.Goes.opens e opens t same) h = same_called (holding s (line ∷ [])) m same (held_called s (line ∷ []) h)
goes_called s line text m (lines.Goes.holds first inside e n t same) h = same_called (holding s (first ∷ (inside ++ line ∷ []))) m same (held_called s (first ∷ (inside ++ line ∷ [])) h)
goes_called s line text m (lines.Goes.ends first inside e q v) h = verified_called (holding s []) first (inside ++ line ∷ []) text m v (held_called s [] h)

replies_called : (s : Responder) (rest : List (List ℕ)) (text : List ℕ) (m : Responder) → Replies s rest text m → IsCalled s → IsCalled m
replies_called s [] text m h c = same_called s m h.1 c
replies_called s (line ∷ rest) text m (x, first, others, goes, hs, e) c = replies_called x rest others m hs (goes_called s line first x goes c)

pub session_called : (o : Options) (ls : List (List ℕ)) (text : List ℕ) (s : Responder) → IsAnswered o ls text s → IsCalled s
session_called o ls text s h =
    replies_called h.opened h.queries text s h.replies
    (opened_called o h.declared h.opened (repository_named h.repository h.end h.declared h.reads) (repository_sound h.repository h.end h.declared h.reads) h.serves)
