-- A certificate that is read can be printed and read again.
use Rattle.std.proofs.Common.{◌≡◌, ℕ, ◌+◌, ◌≤◌, Bool, true, false, List, [], ◌∷◌, ◌++◌, Some, refl, ap, sym, ◌∙◌, subst, map, slice_get, arith}
use Rattle.std.specs.Prelude.{codes, if◌then◌else◌, max}
use Rattle.std.specs.Cmp.{IsEquivalence}
use Rattle.std.specs.List.{list_any, AllByRecursion, IsDistinct}
use Rattle.std.specs.Str.{bytes_eq}
use Rattle.std.proofs.lemmas.List.{map-append}
use Rattle.std.proofs.lemmas.Map.Keys.{IsDistinct-push}
use Rattle.std.proofs.lemmas.Option.{slice_get_within, get_or_from_slice_get}
use Rattle.std.proofs.lemmas.Slice.Eq.{bytes_eq-Decides}
use Rattle.cls_base.specs.Limits.{max_type_depth}
use Rattle.cls_base.specs.Types.{ClosedType}
use Rattle.cls_base.specs.Schemas.{OpenType}
use Rattle.cls_lexer.specs.declared.token.TokenKind.TheVariants.{Colon}
use Rattle.cls_lexer.specs.Names.{number_of, with_text, with_texts}
use Rattle.cls_lexer.specs.Words.{Word, name, sign}
use Rattle.cls_syntax.specs.declared.role.Role.TheVariants.{Component}
use Rattle.cls_syntax.specs.ClosedTypes.{HasNoDollar}
use Rattle.cls_syntax.specs.Depths.{open_after, most_open}
use Rattle.cls_syntax.specs.Forms.{Part, fixed, naming, numeral, part_word, type_parts}
use Rattle.cls_syntax.specs.LineGrammars.{row_words}
use Rattle.cls_syntax.specs.RoundTrips.{IsProperName}
use Rattle.cls_syntax.specs.Sorts.{sort_of}
use Rattle.cls_syntax.specs.TypeSchemas.{constructors_in}
use Rattle.cls_syntax.specs.TypeTexts.{TypeText, type_words}
use Rattle.cls_syntax.proofs.LineParts.{type_same}
use Rattle.cls_syntax.proofs.ReadTypes.{open_nodes, closed_nodes, type_count, depth_at, closed_depth, type_depth, type_open, type_opens, GoodNames, AllGood, type_good, Held, Below, IsGood, Proper, AllHeld, below_of, proper_of, names_below, names_proper, all_held, all_good, held_by, line_proper}
use Rattle.cls_syntax.proofs.ReadTypes as words
use Rattle.cls_proof.specs.Forms.{certificate_rows, greatest_number, Written, line_of, constructors_of}
use Rattle.cls_proof.specs.Forms as written
use Rattle.cls_proof.specs.Statements.{Statement, statements_of}
use Rattle.cls_proof.specs.Reading.{AreNumbers, IsGoal, Means, SaysStatement, Says, no_statement, one_statement, LinesSay}
use Rattle.cls_proof.specs.RoundTrips.{AreSayable, IsTypeSayable, IsPlaceSayable, IsSayable, ReadCertificatesAreReadAgain}
use Rattle.cls_proof.proofs.Meanings.{words_closed}
use Rattle.cls_proof.proofs.PrintedCertificates.{printed_read}
use Rattle.cls_proof.proofs.SaidLines.{all_both}

-- a table in which no text stands twice stays so
same_answer : (p q : Bool) → (p ≡ true → q ≡ true) → (q ≡ true → p ≡ true) → p ≡ q
same_answer true q f g = sym (f refl)
same_answer false true f g = g refl
same_answer false false f g = refl

bytes_equal : IsEquivalence bytes_eq
bytes_equal = record {
  refl = λ x. (bytes_eq-Decides x x).1 refl;
  symm = λ x y. same_answer (bytes_eq x y) (bytes_eq y x) (λ h. (bytes_eq-Decides y x).1 (sym ((bytes_eq-Decides x y).0 h))) (λ h. (bytes_eq-Decides x y).1 (sym ((bytes_eq-Decides y x).0 h)));
  congr = λ x y z h. ap (λ (w : List ℕ). bytes_eq w z) ((bytes_eq-Decides x y).0 h);
}

distinct_one : (texts : List (List ℕ)) (x : List ℕ) → IsDistinct bytes_eq texts → IsDistinct bytes_eq (with_text texts x)
distinct_one texts x d =
    (elim (list_any (bytes_eq x) texts) as (λ b. list_any (bytes_eq x) texts ≡ b → IsDistinct bytes_eq (if b then texts else texts ++ x ∷ [])) [
      | true ↦ λ e. d
      | false ↦ λ e. IsDistinct-push bytes_equal texts x d e
    ]) refl

pub distinct_all : (texts xs : List (List ℕ)) → IsDistinct bytes_eq texts → IsDistinct bytes_eq (with_texts texts xs)
distinct_all texts [] d = d
distinct_all texts (x ∷ xs) d = distinct_all (with_text texts x) xs (distinct_one texts x d)

-- the most parentheses that are open at once are no fewer over more words
most_grows : (now most : ℕ) (ws : List Word) → most ≤ most_open now most ws
most_grows now most [] = omega arith
most_grows now most (w ∷ ws) =
    let h = most_grows (open_after now (sort_of w)) (max (open_after now (sort_of w)) most) ws in
    omega (arith, h)

type_flat : (t : TypeText) (rest : List Word) → type_open t ≤ most_open 0 0 (type_words t ++ rest)
type_flat t rest =
    let o = type_opens t 0 0 rest in
    let h = most_grows 0 (max (0 + type_open t) 0) rest in
    omega (arith, o, h)

-- what is held of texts one after another
held_parts : (names xs ys : List (List ℕ)) → AllHeld names (xs ++ ys) → AllHeld names xs × AllHeld names ys
held_parts names [] ys h = (tt, h)
held_parts names (x ∷ xs) ys h = let p = held_parts names xs ys h.1 in ((h.0, p.0), p.1)

-- numbers that are read are within the limit
numbers_sayable : (ds : List (List ℕ)) (ns : List ℕ) → AreNumbers ds ns → AreSayable ns
numbers_sayable [] ns e = subst (λ (ms : List ℕ). AreSayable ms) (sym e) tt
numbers_sayable (d ∷ ds) ns (n, rest, is, more, e) = subst (λ (ms : List ℕ). AreSayable ms) (sym e) (is.1, numbers_sayable ds rest more)

-- the words of a line of which a type is the first part
type_first : (t : TypeText) (ps : List Part) → map part_word (type_parts t ++ ps) ≡ type_words t ++ map part_word ps
type_first t ps = map-append part_word (type_parts t) ps ∙ ap (λ (ws : List Word). ws ++ map part_word ps) (type_same t)

-- what is known of the words of a line that is read
record AreLineWords (ws : List Word) : Type 0 where
  flat : most_open 0 0 ws ≤ max_type_depth
  proper : AllGood IsProperName ws

module _ (names components : List (List ℕ)) where
  -- a type whose words stand among those of a line
  goal_sayable : (t : TypeText) (g : ClosedType) → IsGoal (number_of names) t g → AllHeld names (constructors_in false (type_words t)) → HasNoDollar (type_words t) → AllGood IsProperName (type_words t) → type_open t ≤ max_type_depth → IsTypeSayable names components g
  goal_sayable t g is known closed proper flat =
      let v : List ℕ → ℕ = λ x. 0 in
      let held : AllGood (Held names) (type_words t) = all_held names (type_words t) closed known in
      let good : AllGood (IsGood names) (type_words t) = all_good names (type_words t) proper held in
      let spells = is.spells v in
      let count = sym (closed_nodes g) ∙ (ap open_nodes spells ∙ type_count (number_of names) v t) in
      let deep = sym (closed_depth 0 g) ∙ ap (depth_at 0) spells in
      let most = type_depth (number_of names) v t in
      let few = is.few in
      record {
        below = names_below names g (subst (λ (o : OpenType). GoodNames (Held names) (Below names) o) (sym spells) (type_good (Held names) (Below names) (number_of names) v (below_of names) t held));
        proper = names_proper names g (subst (λ (o : OpenType). GoodNames (IsGood names) (Proper names) o) (sym spells) (type_good (IsGood names) (Proper names) (number_of names) v (proper_of names) t good));
        few = omega (arith, count, few);
        shallow = omega (arith, deep, most, flat);
        narrow = is.narrow;
      }

  place_sayable : (x : List ℕ) (component n : ℕ) → slice_get components component ≡ Some x → IsProperName x → n ≤ greatest_number → IsPlaceSayable names components component n
  place_sayable x component n stands proper within = record {
    below = slice_get_within components component x stands;
    proper = subst (λ (y : List ℕ). IsProperName y) (sym (get_or_from_slice_get components component x [] stands)) proper;
    within = within;
  }

  abbrev Sayable : Statement → Type 0
  Sayable s = IsSayable names components s

  -- a statement that is written in words that are read
  written_sayable : (w : Written) (s : Statement) → Means (number_of names) components w s → AllHeld names (constructors_of w) → HasNoDollar (written.goal_words w) → AreLineWords (row_words certificate_rows (line_of w)) → Sayable s
  written_sayable written.inhabited s m known closed r = subst (λ (u : Statement). Sayable u) (sym m) tt
  written_sayable (written.row t x d ds) s (p, e, is) known closed r =
      let ps : List Part = fixed (name (codes "by")) ∷ naming Component x ∷ numeral 0 greatest_number d ∷ fixed (sign Colon) ∷ map (numeral 0 greatest_number) ds in
      let rest : List Word = map part_word ps in
      let good = words.parts IsProperName (type_words t) rest (subst (λ (ws : List Word). AllGood IsProperName ws) (type_first t ps) r.proper.1) in
      let open_most = ap (most_open 0 0) (type_first t ps) in
      let most = type_flat t rest in
      let flat : most_open 0 0 (map part_word (type_parts t ++ ps)) ≤ max_type_depth = r.flat in
      subst (λ (u : Statement). Sayable u) (sym e) (
        goal_sayable t p.goal is.goal_is known closed good.0 (omega (arith, open_most, most, flat)),
        place_sayable x p.component p.n is.component_is good.1.1.0 is.n_is.1,
        numbers_sayable ds p.cover is.cover_is,
      )
  written_sayable written.empty s m known closed r = subst (λ (u : Statement). Sayable u) (sym m) tt
  written_sayable (written.member t) s (g, e, is) known closed r =
      let good = words.parts IsProperName (type_words t) [] (subst (λ (ws : List Word). AllGood IsProperName ws) (type_first t []) r.proper.1) in
      let open_most = ap (most_open 0 0) (type_first t []) in
      let most = type_flat t [] in
      let flat : most_open 0 0 (map part_word (type_parts t ++ [])) ≤ max_type_depth = r.flat in
      subst (λ (u : Statement). Sayable u) (sym e) (goal_sayable t g is known closed good.0 (omega (arith, open_most, most, flat)))
  written_sayable (written.block x d) s (component, n, e, stands, is) known closed r =
      subst (λ (u : Statement). Sayable u) (sym e) (place_sayable x component n stands r.proper.1.0 is.1)
  written_sayable written.layer s m known closed r = subst (λ (u : Statement). Sayable u) (sym m) tt
  written_sayable (written.set ds) s (positions, e, are) known closed r =
      subst (λ (u : Statement). Sayable u) (sym e) (numbers_sayable ds positions are)
  written_sayable written.qed s m known closed r = subst (λ (u : Statement). Sayable u) (sym m) tt

  statement_sayable : (line : List ℕ) (texts : List (List ℕ)) (s : Statement) → SaysStatement (number_of names) components line texts s → AllHeld names texts → Sayable s
  statement_sayable line texts s h known =
      let spelled = h.says.spelled in
      written_sayable h.written s h.means
      (subst (λ (xs : List (List ℕ)). AllHeld names xs) h.named known)
      (words_closed h.written (subst (λ (ws : List Word). HasNoDollar ws) (sym spelled) h.closed))
      (subst (λ (ws : List Word). AreLineWords ws) (sym spelled) record { flat = h.flat; proper = line_proper line })

  line_sayable : (line : List ℕ) (texts : List (List ℕ)) (ss : List Statement) → Says (number_of names) components line texts ss → AllHeld names texts → AllByRecursion Sayable ss
  line_sayable line texts ss (no_statement h a e) known = subst (λ (ts : List Statement). AllByRecursion Sayable ts) (sym e) tt
  line_sayable line texts ss (one_statement s h e) known = subst (λ (ts : List Statement). AllByRecursion Sayable ts) (sym e) (statement_sayable line texts s h known, tt)

  lines_sayable : (lines texts : List (List ℕ)) (ss : List Statement) → LinesSay (number_of names) components lines texts ss → AllHeld names texts → AllByRecursion Sayable ss
  lines_sayable [] texts ss h known = subst (λ (ts : List Statement). AllByRecursion Sayable ts) (sym h.1) tt
  lines_sayable (line ∷ lines) texts ss (xs, ys, s1, s2, first, more, en, es) known =
      let p = held_parts names xs ys (subst (λ (ns : List (List ℕ)). AllHeld names ns) en known) in
      subst (λ (ts : List Statement). AllByRecursion Sayable ts) (sym es)
      (all_both Sayable s1 s2 (line_sayable line xs s1 first p.0) (lines_sayable lines ys s2 more p.1))

pub certificates_read_again : ReadCertificatesAreReadAgain
certificates_read_again old new components lines c distinct h short =
    let apart : IsDistinct bytes_eq new = subst (λ (t : List (List ℕ)). IsDistinct bytes_eq t) (sym h.numbered) (distinct_all old h.names distinct) in
    let known : AllHeld new h.names = held_by old h.names new h.numbered in
    printed_read new components c apart record {
      sayable = lines_sayable new components lines h.names (statements_of c) h.says known;
      short = short;
    }
