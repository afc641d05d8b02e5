-- A certificate that is printed is read back.
use Rattle.std.proofs.Common.{◌≡◌, ℕ, ◌≤◌, List, [], ◌∷◌, ◌++◌, refl, ap, sym, ◌∙◌, subst, length, map, append_assoc, append-nil}
use Rattle.std.specs.Prelude.{codes, decimal}
use Rattle.std.specs.List.{flat_map, AllByRecursion, IsDistinct}
use Rattle.std.specs.Str.{bytes_eq}
use Rattle.cls_base.specs.Limits.{max_line_bytes}
use Rattle.cls_lexer.specs.Lines.{lines_of}
use Rattle.cls_lexer.specs.Names.{number_of, with_texts}
use Rattle.cls_lexer.proofs.LinePieces.{lines_of-CutsLine, lines_of-nil}
use Rattle.cls_syntax.specs.TypePrinting.{name_in, printed}
use Rattle.cls_proof.specs.Certificates as certificate
use Rattle.cls_proof.specs.Certificates.{ProofRow, Block, Member, Certificate}
use Rattle.cls_proof.specs.Forms.{constructors_of}
use Rattle.cls_proof.specs.Reading.{LinesSay, one_statement}
use Rattle.cls_proof.specs.RoundTrips.{IsSayable, PrintedCertificatesAreRead}
use Rattle.cls_proof.specs.Statements.{Statement, inhabited, row, empty, set, qed, layer_statements, block_statements, member_statements, statements_of}
use Rattle.cls_proof.specs.Texts.{line, numbers_text, set_text, layer_text, block_text, row_text, member_text, certificate_text}
use Rattle.cls_proof.proofs.PlainBytes.{ArePlain, plain_feed, plain_return}
use Rattle.cls_proof.proofs.PrintedLines.{numbers_behind, statement_line, written_as, plain_line, line_said, line_known}
use Rattle.cls_proof.proofs.SaidLines.{texts_append}

-- a line that is cut off
one_line : (bs rest : List ℕ) → ArePlain bs → lines_of (line bs ++ rest) ≡ bs ∷ lines_of rest
one_line bs rest h = lines_of-CutsLine (line bs ++ rest) bs rest (record {
  raw = bs;
  no_feed = plain_feed bs h;
  whole = append_assoc bs (10 ∷ []) rest;
  shown = sym (plain_return bs h);
})

-- the pieces of a line, as they are printed
row_bytes : (t x d ns : List ℕ) → codes "row " ++ t ++ codes " by " ++ x ++ codes " " ++ d ++ codes " :" ++ ns ≡ codes "row" ++ (32 ∷ (t ++ (32 ∷ (codes "by" ++ (32 ∷ (x ++ (32 ∷ (d ++ (32 ∷ (codes ":" ++ ns))))))))))
row_bytes t x d ns = simp append_assoc

block_bytes : (x d : List ℕ) → codes "block " ++ x ++ codes " " ++ d ≡ codes "block" ++ (32 ∷ (x ++ (32 ∷ (d ++ []))))
block_bytes x d = simp (append_assoc, append-nil)

member_bytes : (t : List ℕ) → codes "member " ++ t ≡ codes "member" ++ (32 ∷ (t ++ []))
member_bytes t = simp append-nil

module _ (names components : List (List ℕ)) (distinct : IsDistinct bytes_eq names) where
  abbrev line_text : Statement → List ℕ
  line_text s = statement_line names components distinct s

  -- the lines of statements
  abbrev text_of : List Statement → List ℕ
  text_of [] = []
  text_of (s ∷ ss) = line (line_text s) ++ text_of ss

  text_append : (xs ys : List Statement) → text_of (xs ++ ys) ≡ text_of xs ++ text_of ys
  text_append [] ys = refl
  text_append (s ∷ xs) ys = ap (λ (bs : List ℕ). line (line_text s) ++ bs) (text_append xs ys) ∙ sym (append_assoc (line (line_text s)) (text_of xs) (text_of ys))

  row_same : (r : ProofRow) → row_text names components r ≡ line (line_text (row r))
  row_same r = ap line (row_bytes (printed (name_in names) 0 r.goal) (name_in components r.component) (decimal r.n) (numbers_text r.cover) ∙ ap (λ (ns : List ℕ). codes "row" ++ (32 ∷ (printed (name_in names) 0 r.goal ++ (32 ∷ (codes "by" ++ (32 ∷ (name_in components r.component ++ (32 ∷ (decimal r.n ++ (32 ∷ (codes ":" ++ ns))))))))))) (numbers_behind r.cover))

  rows_same : (rows : List ProofRow) → flat_map (row_text names components) rows ≡ text_of (map (λ r. row r) rows)
  rows_same [] = refl
  rows_same (r ∷ rows) = λ i. row_same r i ++ rows_same rows i

  sets_same : (sets : List (List ℕ)) → flat_map set_text sets ≡ text_of (map (λ s. set s) sets)
  sets_same [] = refl
  sets_same (s ∷ sets) = λ i. line (codes "set" ++ numbers_behind s i) ++ sets_same sets i

  layer_same : (sets : List (List ℕ)) → layer_text sets ≡ text_of (layer_statements sets)
  layer_same sets = ap (λ (bs : List ℕ). line (codes "layer") ++ bs) (sets_same sets)

  layers_same : (layers : List (List (List ℕ))) → flat_map layer_text layers ≡ text_of (flat_map layer_statements layers)
  layers_same [] = refl
  layers_same (l ∷ layers) = (λ i. layer_same l i ++ layers_same layers i) ∙ sym (text_append (layer_statements l) (flat_map layer_statements layers))

  block_same : (b : Block) → block_text components b ≡ text_of (block_statements b)
  block_same b = λ i. line (block_bytes (name_in components b.component) (decimal b.n) i) ++ layers_same b.layers i

  blocks_same : (bs : List Block) → flat_map (block_text components) bs ≡ text_of (flat_map block_statements bs)
  blocks_same [] = refl
  blocks_same (b ∷ bs) = (λ i. block_same b i ++ blocks_same bs i) ∙ sym (text_append (block_statements b) (flat_map block_statements bs))

  member_same : (m : Member) → member_text names components m ≡ text_of (member_statements m)
  member_same m = λ i. line (member_bytes (printed (name_in names) 0 m.goal) i) ++ blocks_same m.blocks i

  members_same : (ms : List Member) → flat_map (member_text names components) ms ≡ text_of (flat_map member_statements ms)
  members_same [] = refl
  members_same (m ∷ ms) = (λ i. member_same m i ++ members_same ms i) ∙ sym (text_append (member_statements m) (flat_map member_statements ms))

  -- the first line, others, and the last one
  ended : (first last : Statement) (ss : List Statement) (bs : List ℕ) → bs ≡ text_of ss → line (line_text first) ++ bs ++ line (line_text last) ≡ text_of (first ∷ (ss ++ last ∷ []))
  ended first last ss bs e =
      append_assoc (line (line_text first)) bs (line (line_text last))
      ∙ ap (λ (cs : List ℕ). line (line_text first) ++ cs)
      ((λ i. e i ++ line (line_text last))
      ∙ (ap (λ (cs : List ℕ). text_of ss ++ cs) (sym (append-nil (line (line_text last)))) ∙ sym (text_append ss (last ∷ []))))

  text_same : (c : Certificate) → certificate_text names components c ≡ text_of (statements_of c)
  text_same (certificate.inhabited rows) = ended inhabited qed (map (λ r. row r) rows) (flat_map (row_text names components) rows) (rows_same rows)
  text_same (certificate.empty members) = ended empty qed (flat_map member_statements members) (flat_map (member_text names components) members) (members_same members)

  abbrev AllSayable : List Statement → Type 0
  AllSayable ss = AllByRecursion (IsSayable names components) ss

  lines_same : (ss : List Statement) → AllSayable ss → lines_of (text_of ss) ≡ map line_text ss
  lines_same [] h = lines_of-nil
  lines_same (s ∷ ss) h =
      one_line (line_text s) (text_of ss) (plain_line names components distinct s h.0)
      ∙ ap (λ (ls : List (List ℕ)). line_text s ∷ ls) (lines_same ss h.1)

  -- what the lines say, and which names they have
  unfoldable all_names : (ss : List Statement) → AllSayable ss → List (List ℕ)
  all_names [] h = []
  all_names (s ∷ ss) h = constructors_of (written_as names components distinct s h.0) ++ all_names ss h.1

  all_said : (ss : List Statement) (h : AllSayable ss) → AllByRecursion (λ l. length l ≤ max_line_bytes) (map line_text ss) → LinesSay (number_of names) components (map line_text ss) (all_names ss h) ss
  unfolding all_names
  all_said [] h k = (refl, refl)
  all_said (s ∷ ss) h k = (
    constructors_of (written_as names components distinct s h.0),
    all_names ss h.1,
    s ∷ [],
    ss,
    one_statement s (line_said names components distinct s h.0 k.0) refl,
    all_said ss h.1 k.1,
    refl,
    refl,
  )

  all_known : (ss : List Statement) (h : AllSayable ss) → with_texts names (all_names ss h) ≡ names
  unfolding all_names
  all_known [] h = refl
  all_known (s ∷ ss) h =
      texts_append names (constructors_of (written_as names components distinct s h.0)) (all_names ss h.1)
      ∙ (ap (λ (table : List (List ℕ)). with_texts table (all_names ss h.1)) (line_known names components distinct s h.0) ∙ all_known ss h.1)

pub printed_read : PrintedCertificatesAreRead
printed_read names components c distinct h =
    let ss = statements_of c in
    let lines : lines_of (certificate_text names components c) ≡ map (statement_line names components distinct) ss = ap lines_of (text_same names components distinct c) ∙ lines_same names components distinct ss h.sayable in
    let short = subst (λ (ls : List (List ℕ)). AllByRecursion (λ l. length l ≤ max_line_bytes) ls) lines h.short in
    record {
      names = all_names names components distinct ss h.sayable;
      numbered = sym (all_known names components distinct ss h.sayable);
      says = subst (λ (ls : List (List ℕ)). LinesSay (number_of names) components ls (all_names names components distinct ss h.sayable) ss) (sym lines) (all_said names components distinct ss h.sayable short);
    }
