-- A whole line of a grammar of lines.
use Rattle.std.proofs.Common.{◌≡◌, ℕ, ◌<◌, Bool, true, false, List, [], ◌∷◌, ◌++◌, refl, ap, sym, ◌∙◌, subst, inl, inr, length, length-append, arith}
use Rattle.std.specs.Prelude.{Option, Some, None, Result, Ok, Err, if◌then◌else◌, ◌⊎◌}
use Rattle.std.specs.List.{AllByRecursion}
use Rattle.std.specs.Str.{bytes_eq}
use Rattle.std.proofs.lemmas.Slice.Eq.{bytes_eq-Decides}
use Rattle.std.proofs.lemmas.Bool.{false_from_ne_true}
use Rattle.cls_lexer.specs.Words as word
use Rattle.cls_lexer.specs.Words.{Word, name, number, sign}
use Rattle.cls_syntax.specs.Faults.{Stop, stop, CanGoOn, Says, Exactly}
use Rattle.cls_syntax.specs.Forms.{Form, Values}
use Rattle.cls_syntax.specs.GoodForms.{IsGood}
use Rattle.cls_syntax.specs.LineReading.{line_read, after_or_stop}
use Rattle.cls_syntax.specs.LineGrammars as grammar
use Rattle.cls_syntax.specs.LineGrammars.{Row, LineOf, RowStands, of_first, by_first, AreGood, IsGoodGrammar}
use Rattle.cls_syntax.proofs.FrontFaults.{FrontFault}
use Rattle.cls_syntax.proofs.LineFronts.{form_words, FormStands, line_some, some_stands, line_again, line_ok, line_err}
use Rattle.cls_syntax.proofs.LineParts.{line_same, line_stands, form_stands}
use Rattle.cls_syntax.proofs.MachineRuns.{stop_parts}
use Rattle.cls_syntax.proofs.Exactness as exactness

-- the words of a line, item by item
abbrev row_words : (rows : List Row) → LineOf rows → List Word
row_words [] v = absurd v
row_words (row ∷ rows) (inl v) = name row.first ∷ form_words row.form v
row_words (row ∷ rows) (inr v) = row_words rows v

abbrev Stands : (rows : List Row) → LineOf rows → Type 0
Stands [] v = ⊥
Stands (row ∷ rows) (inl v) = FormStands row.form v
Stands (row ∷ rows) (inr v) = Stands rows v

-- the rows are looked up by the first word
abbrev of_later : {A B : Type 0} → Option (Result B Stop) → Option (Result (A ⊎ B) Stop)
of_later None = None
of_later (Some (Ok b)) = Some (Ok (inr b))
of_later (Some (Err e)) = Some (Err e)

abbrev row_read : (rows : List Row) → List ℕ → List Word → Option (Result (LineOf rows) Stop)
row_read [] x ws = None
row_read (row ∷ rows) x ws = if bytes_eq row.first x then Some (of_first (line_read row.form ws)) else of_later (row_read rows x ws)

abbrev or_refused : {A : Type 0} → List Word → Option (Result A Stop) → Result A Stop
or_refused ws None = Err (stop ws false)
or_refused ws (Some r) = r

abbrev grammar_read : (rows : List Row) → List Word → Result (LineOf rows) Stop
grammar_read rows [] = Err (stop [] false)
grammar_read rows (word.omega ∷ ws) = Err (stop (word.omega ∷ ws) false)
grammar_read rows (name x ∷ ws) = or_refused (name x ∷ ws) (row_read rows x ws)
grammar_read rows (number n ∷ ws) = Err (stop (number n ∷ ws) false)
grammar_read rows (sign kind ∷ ws) = Err (stop (sign kind ∷ ws) false)

later_refused : {A B : Type 0} (ws : List Word) (o : Option (Result B Stop)) → Path (Result (A ⊎ B) Stop) (grammar.of_later (or_refused ws o)) (or_refused ws (of_later o))
later_refused ws None = refl
later_refused ws (Some (Ok b)) = refl
later_refused ws (Some (Err e)) = refl

-- so it is read row by row
same_reading : (rows : List Row) (ws : List Word) → grammar.grammar_read rows ws ≡ grammar_read rows ws
same_reading [] [] = refl
same_reading [] (word.omega ∷ ws) = refl
same_reading [] (name x ∷ ws) = refl
same_reading [] (number n ∷ ws) = refl
same_reading [] (sign kind ∷ ws) = refl
same_reading (row ∷ rows) [] = ap (λ (r : Result (LineOf rows) Stop). grammar.of_later r) (same_reading rows [])
same_reading (row ∷ rows) (word.omega ∷ ws) = ap (λ (r : Result (LineOf rows) Stop). grammar.of_later r) (same_reading rows (word.omega ∷ ws))
same_reading (row ∷ rows) (number n ∷ ws) = ap (λ (r : Result (LineOf rows) Stop). grammar.of_later r) (same_reading rows (number n ∷ ws))
same_reading (row ∷ rows) (sign kind ∷ ws) = ap (λ (r : Result (LineOf rows) Stop). grammar.of_later r) (same_reading rows (sign kind ∷ ws))
same_reading (row ∷ rows) (name x ∷ ws) =
    let others = ap (λ (r : Result (LineOf rows) Stop). grammar.of_later r) (same_reading rows (name x ∷ ws)) ∙ later_refused {A = Values row.form} (name x ∷ ws) (row_read rows x ws) in
    elim (bytes_eq row.first x) as (λ b. by_first (λ rest. line_read row.form rest) (grammar.grammar_read rows (name x ∷ ws)) (after_or_stop (name x ∷ ws) (if b then Some ws else None)) ≡ or_refused (name x ∷ ws) (if b then Some (of_first (line_read row.form ws)) else of_later (row_read rows x ws))) [ true ↦ refl | false ↦ others ]

same_bytes : (x : List ℕ) → bytes_eq x x ≡ true
same_bytes x = (bytes_eq-Decides x x).1 refl

-- lines with this first word are those of one row
record IsRowOf (rows : List Row) (x : List ℕ) : Type 0 where
  form : Form
  good : IsGood form
  into : Values form → LineOf rows
  words : (v : Values form) → row_words rows (into v) ≡ name x ∷ form_words form v
  stands : (v : Values form) → FormStands form v → Stands rows (into v)
  oks : (us : List Word) (v : Values form) → line_read form us ≡ Ok v → row_read rows x us ≡ Some (Ok (into v))
  errs : (us : List Word) (e : Stop) → line_read form us ≡ Err e → row_read rows x us ≡ Some (Err e)

-- no row has the first word
abbrev HasNoRow : List Row → List ℕ → Type 0
HasNoRow rows x = (us : List Word) → row_read rows x us ≡ None

row_of : (rows : List Row) (x : List ℕ) → AreGood rows → IsRowOf rows x ⊎ HasNoRow rows x
row_of [] x g = inr (λ us. refl)
row_of (row ∷ rows) x g =
    (elim (bytes_eq row.first x) as (λ b. bytes_eq row.first x ≡ b → IsRowOf (row ∷ rows) x ⊎ HasNoRow (row ∷ rows) x) [
      | true ↦ λ e. inl (record {
        form = row.form;
        good = g.1;
        into = λ v. inl v;
        words = λ v. ap (λ (y : List ℕ). name y ∷ form_words row.form v) ((bytes_eq-Decides row.first x).0 e);
        stands = λ v st. st;
        oks = λ us v h. ap (λ (b : Bool). if b then Some (of_first (line_read row.form us)) else of_later (row_read rows x us)) e ∙ ap (λ (r : Result (Values row.form) Stop). Some (of_first r)) h;
        errs = λ us d h. ap (λ (b : Bool). if b then Some (of_first (line_read row.form us)) else of_later (row_read rows x us)) e ∙ ap (λ (r : Result (Values row.form) Stop). Some (of_first r)) h;
      })
      | false ↦ λ e. elim (row_of rows x g.2) [
        | inl r ↦ inl (record {
          form = r.form;
          good = r.good;
          into = λ v. inr (r.into v);
          words = r.words;
          stands = r.stands;
          oks = λ us v h. ap (λ (b : Bool). if b then Some (of_first (line_read row.form us)) else of_later (row_read rows x us)) e ∙ ap (λ (o : Option (Result (LineOf rows) Stop)). of_later o) (r.oks us v h);
          errs = λ us d h. ap (λ (b : Bool). if b then Some (of_first (line_read row.form us)) else of_later (row_read rows x us)) e ∙ ap (λ (o : Option (Result (LineOf rows) Stop)). of_later o) (r.errs us d h);
        })
        | inr none ↦ inr (λ us. ap (λ (b : Bool). if b then Some (of_first (line_read row.form us)) else of_later (row_read rows x us)) e ∙ ap (λ (o : Option (Result (LineOf rows) Stop)). of_later o) (none us))
      ]
    ]) refl

-- each line is read again, row by row
row_again : (rows : List Row) (v : LineOf rows) → AreGood rows → Stands rows v → (x : List ℕ) × (ws : List Word) × (row_words rows v ≡ name x ∷ ws) × (row_read rows x ws ≡ Some (Ok v)) × ((P : List ℕ → Type 0) → AllByRecursion (λ r. P r.first) rows → P x)
row_again [] v g st = absurd v
row_again (row ∷ rows) (inl v) g st =
    (row.first, form_words row.form v, refl, ap (λ (b : Bool). if b then Some (of_first (line_read row.form (form_words row.form v))) else of_later (row_read rows row.first (form_words row.form v))) (same_bytes row.first) ∙ ap (λ (r : Result (Values row.form) Stop). Some (of_first r)) (line_again row.form v g.1 st), λ P all. all.0)
row_again (row ∷ rows) (inr v) g st =
    let r = row_again rows v g.2 st in
    let another : bytes_eq row.first r.0 ≡ false = r.4 (λ (y : List ℕ). bytes_eq row.first y ≡ false) g.0 in
    (r.0, r.1, r.2, ap (λ (b : Bool). if b then Some (of_first (line_read row.form r.1)) else of_later (row_read rows r.0 r.1)) another ∙ ap (λ (o : Option (Result (LineOf rows) Stop)). of_later o) r.3, λ P all. r.4 P all.1)

grammar_again : (rows : List Row) → AreGood rows → (v : LineOf rows) → Stands rows v → grammar_read rows (row_words rows v) ≡ Ok v
grammar_again rows g v st =
    let r = row_again rows v g st in
    ap (grammar_read rows) r.2 ∙ ap (λ (o : Option (Result (LineOf rows) Stop)). or_refused (name r.0 ∷ r.1) o) r.3

of_first_ok : {A B : Type 0} (r : Result A Stop) (v : A ⊎ B) → of_first r ≡ Ok v → (a : A) × (r ≡ Ok a) × (inl a ≡ v)
of_first_ok (Ok a) v h = (a, refl, cc)
of_first_ok (Err e) v h = cc

of_later_ok : {A B : Type 0} (o : Option (Result B Stop)) (v : A ⊎ B) → of_later o ≡ Some (Ok v) → (b : B) × (o ≡ Some (Ok b)) × (inr b ≡ v)
of_later_ok None v h = cc
of_later_ok (Some (Ok b)) v h = (b, refl, cc)
of_later_ok (Some (Err e)) v h = cc

abbrev RowSays : (rows : List Row) → LineOf rows → List Word → Type 0
RowSays rows v ws = Says (row_words rows) (Stands rows) v ws

row_ok : (rows : List Row) (x : List ℕ) (us : List Word) (v : LineOf rows) → AreGood rows → row_read rows x us ≡ Some (Ok v) → RowSays rows v (name x ∷ us)
row_ok [] x us v g h = cc
row_ok (row ∷ rows) x us v g h =
    (elim (bytes_eq row.first x) as (λ b. bytes_eq row.first x ≡ b → (if b then Some (of_first (line_read row.form us)) else of_later (row_read rows x us)) ≡ Some (Ok v) → RowSays (row ∷ rows) v (name x ∷ us)) [
      | true ↦ λ e k.
          let r = of_first_ok {A = Values row.form} {B = LineOf rows} (line_read row.form us) v (cc) in
          let said = line_ok row.form us r.0 g.1 r.1 in
          subst (λ (y : LineOf (row ∷ rows)). RowSays (row ∷ rows) y (name x ∷ us)) r.2 (record {
            spelled = ap (λ (y : List ℕ). name y ∷ form_words row.form r.0) ((bytes_eq-Decides row.first x).0 e) ∙ ap (λ (ws : List Word). name x ∷ ws) said.spelled;
            stands = said.stands;
          })
      | false ↦ λ e k.
          let r = of_later_ok {A = Values row.form} {B = LineOf rows} (row_read rows x us) v k in
          let said = row_ok rows x us r.0 g.2 r.1 in
          subst (λ (y : LineOf (row ∷ rows)). RowSays (row ∷ rows) y (name x ∷ us)) r.2 (record { spelled = said.spelled; stands = said.stands })
    ]) refl h

or_refused_ok : {A : Type 0} (ws : List Word) (o : Option (Result A Stop)) (v : A) → or_refused ws o ≡ Ok v → o ≡ Some (Ok v)
or_refused_ok ws None v h = cc
or_refused_ok ws (Some r) v h = ap (λ x. Some x) h

grammar_ok : (rows : List Row) → AreGood rows → (ws : List Word) (v : LineOf rows) → grammar_read rows ws ≡ Ok v → RowSays rows v ws
grammar_ok rows g [] v h = cc
grammar_ok rows g (word.omega ∷ ws) v h = cc
grammar_ok rows g (name x ∷ ws) v h = row_ok rows x ws v g (or_refused_ok (name x ∷ ws) (row_read rows x ws) v h)
grammar_ok rows g (number n ∷ ws) v h = cc
grammar_ok rows g (sign kind ∷ ws) v h = cc

-- a text that is longer than each first word is none of them
abbrev all_bytes : List Row → List ℕ
all_bytes [] = []
all_bytes (row ∷ rows) = row.first ++ all_bytes rows

longer : (x y : List ℕ) → length x < length y → bytes_eq x y ≡ false
longer x y l = false_from_ne_true _ (λ t. let e = ap length ((bytes_eq-Decides x y).0 t) in omega (arith, l, e))

long_row : (rows : List Row) (y : List ℕ) → length (all_bytes rows) < length y → HasNoRow rows y
long_row [] y l = λ us. refl
long_row (row ∷ rows) y l = λ us.
    let own : length row.first < length y = omega (arith, l, length-append row.first (all_bytes rows)) in
    let others : length (all_bytes rows) < length y = omega (arith, l, length-append row.first (all_bytes rows)) in
    ap (λ (b : Bool). if b then Some (of_first (line_read row.form us)) else of_later (row_read rows y us)) (longer row.first y own) ∙ ap (λ (o : Option (Result (LineOf rows) Stop)). of_later o) (long_row rows y others us)

no_row : (rows : List Row) → HasNoRow rows (0 ∷ all_bytes rows)
no_row rows = long_row rows (0 ∷ all_bytes rows) (omega arith)

some_line : (rows : List Row) → IsGoodGrammar rows → LineOf rows
some_line [] g = absurd g
some_line (row ∷ rows) g = inl (line_some row.form)

some_line_stands : (rows : List Row) (g : IsGoodGrammar rows) → Stands rows (some_line rows g)
unfolding some_line
some_line_stands [] g = absurd g
some_line_stands (row ∷ rows) g = some_stands row.form

-- the first word is refused, whatever follows
at_first : (rows : List Row) (ws rest : List Word) (b : Bool) → IsGoodGrammar rows → (ws ≡ rest) × (false ≡ b) → ((w : Word) (vs us : List Word) → ws ≡ w ∷ vs → grammar_read rows (w ∷ us) ≡ Err (stop (w ∷ us) false)) → FrontFault (grammar_read rows) (row_words rows) (Stands rows) ws rest b
at_first rows ws rest b g parts always = record {
  front = [];
  split = parts.0;
  live = record { line = some_line rows g; stands = some_line_stands rows g; more = row_words rows (some_line rows g); begins = refl };
  always = λ w vs us is. always w vs us (parts.0 ∙ is) ∙ ap (λ c. Err (stop (w ∷ us) c)) parts.1;
  named = λ want. let no = parts.1 ∙ want in cc;
  unnamed = λ _. record {
    text = 0 ∷ all_bytes rows;
    plain = refl;
    always = λ us. ap (λ (o : Option (Result (LineOf rows) Stop)). or_refused (name (0 ∷ all_bytes rows) ∷ us) o) (no_row rows us) ∙ ap (λ c. Err (stop (name (0 ∷ all_bytes rows) ∷ us) c)) parts.1;
  };
}

row_goes : (rows : List Row) (x : List ℕ) (r : IsRowOf rows x) (front : List Word) → CanGoOn (form_words r.form) (FormStands r.form) front → CanGoOn (row_words rows) (Stands rows) (name x ∷ front)
row_goes rows x r front go = record { line = r.into go.line; stands = r.stands go.line go.stands; more = go.more; begins = r.words go.line ∙ ap (λ (ws : List Word). name x ∷ ws) go.begins }

row_fault : (rows : List Row) (x : List ℕ) (us rest : List Word) (b : Bool) (r : IsRowOf rows x) → FrontFault (line_read r.form) (form_words r.form) (FormStands r.form) us rest b → FrontFault (grammar_read rows) (row_words rows) (Stands rows) (name x ∷ us) rest b
row_fault rows x us rest b r f = record {
  front = name x ∷ f.front;
  split = ap (λ (ws : List Word). name x ∷ ws) f.split;
  live = row_goes rows x r f.front f.live;
  always = λ w vs ws is. ap (λ (o : Option (Result (LineOf rows) Stop)). or_refused (name x ∷ (f.front ++ w ∷ ws)) o) (r.errs (f.front ++ w ∷ ws) (stop (w ∷ ws) b) (f.always w vs ws is));
  named = λ want y plain. row_goes rows x r (f.front ++ name y ∷ []) (f.named want y plain);
  unnamed = λ not_wanted. let u = f.unnamed not_wanted in record {
    text = u.text;
    plain = u.plain;
    always = λ ws. ap (λ (o : Option (Result (LineOf rows) Stop)). or_refused (name x ∷ (f.front ++ name u.text ∷ ws)) o) (r.errs (f.front ++ name u.text ∷ ws) (stop (name u.text ∷ ws) b) (u.always ws));
  };
}

row_err : (rows : List Row) (x : List ℕ) (us rest : List Word) (b : Bool) (r : IsRowOf rows x) → or_refused (name x ∷ us) (row_read rows x us) ≡ Err (stop rest b) → line_read r.form us ≡ Err (stop rest b)
row_err rows x us rest b r h =
    (elim (line_read r.form us) as (λ o. line_read r.form us ≡ o → o ≡ Err (stop rest b)) [
      | Ok v ↦ λ e. let k = ap (λ (o : Option (Result (LineOf rows) Stop)). or_refused (name x ∷ us) o) (r.oks us v e) in let both : Path (Result (LineOf rows) Stop) (Ok (r.into v)) (Err (stop rest b)) = sym k ∙ h in cc
      | Err d ↦ λ e. let k = ap (λ (o : Option (Result (LineOf rows) Stop)). or_refused (name x ∷ us) o) (r.errs us d e) in let both : Path (Result (LineOf rows) Stop) (Err d) (Err (stop rest b)) = sym k ∙ h in let same : d ≡ stop rest b = cc in ap (λ x. Err x) same
    ]) refl

first_err : (rows : List Row) (w : Word) (us rest : List Word) (b : Bool) → IsGoodGrammar rows → ((vs : List Word) → grammar_read rows (w ∷ vs) ≡ Err (stop (w ∷ vs) false)) → grammar_read rows (w ∷ us) ≡ Err (stop rest b) → FrontFault (grammar_read rows) (row_words rows) (Stands rows) (w ∷ us) rest b
first_err rows w us rest b g always h =
    at_first rows (w ∷ us) rest b g (stop_parts {B = LineOf rows} (w ∷ us) rest false b (sym (always us) ∙ h))
    (λ v vs ws is. let e : w ≡ v = cc in subst (λ (x : Word). grammar_read rows (x ∷ ws) ≡ Err (stop (x ∷ ws) false)) e (always ws))

grammar_good : (rows : List Row) → IsGoodGrammar rows → AreGood rows
grammar_good [] g = absurd g
grammar_good (row ∷ rows) g = g

grammar_err : (rows : List Row) → IsGoodGrammar rows → (ws rest : List Word) (b : Bool) → grammar_read rows ws ≡ Err (stop rest b) → FrontFault (grammar_read rows) (row_words rows) (Stands rows) ws rest b
grammar_err rows g [] rest b h = at_first rows [] rest b g (stop_parts {B = LineOf rows} [] rest false b h) (λ w vs us is. cc)
grammar_err rows g (word.omega ∷ us) rest b h = first_err rows word.omega us rest b g (λ vs. refl) h
grammar_err rows g (number n ∷ us) rest b h = first_err rows (number n) us rest b g (λ vs. refl) h
grammar_err rows g (sign kind ∷ us) rest b h = first_err rows (sign kind) us rest b g (λ vs. refl) h
grammar_err rows g (name x ∷ us) rest b h =
    elim (row_of rows x (grammar_good rows g)) [
      | inl r ↦ row_fault rows x us rest b r (line_err r.form us rest b r.good (row_err rows x us rest b r h))
      | inr none ↦ first_err rows (name x) us rest b g (λ vs. ap (λ (o : Option (Result (LineOf rows) Stop)). or_refused (name x ∷ vs) o) (none vs)) h
    ]

-- the words of a line are those of its parts
row_same : (rows : List Row) (v : LineOf rows) → row_words rows v ≡ grammar.row_words rows v
row_same [] v = absurd v
row_same (row ∷ rows) (inl v) = ap (λ (ws : List Word). name row.first ∷ ws) (line_same row.form v)
row_same (row ∷ rows) (inr v) = row_same rows v

row_stands : (rows : List Row) (v : LineOf rows) → Stands rows v → RowStands rows v
row_stands [] v st = st
row_stands (row ∷ rows) (inl v) st = line_stands row.form v st
row_stands (row ∷ rows) (inr v) st = row_stands rows v st

stands_row : (rows : List Row) (v : LineOf rows) → RowStands rows v → Stands rows v
stands_row [] v st = st
stands_row (row ∷ rows) (inl v) st = form_stands row.form v st
stands_row (row ∷ rows) (inr v) st = stands_row rows v st

-- exactly the lines of the grammar are read, and a fault is the first word that can't follow
pub grammar_exactly : (rows : List Row) → IsGoodGrammar rows → (ws : List Word) → Exactly (grammar.row_words rows) (RowStands rows) ws (grammar.grammar_read rows ws)
grammar_exactly rows g ws =
    let good = grammar_good rows g in
    exactness.exactly_as (row_words rows) (grammar.row_words rows) (Stands rows) (RowStands rows) (row_same rows) (row_stands rows) (stands_row rows) ws (grammar.grammar_read rows ws)
    (subst (λ (r : Result (LineOf rows) Stop). Exactly (row_words rows) (Stands rows) ws r) (sym (same_reading rows ws))
    (exactness.exactly (grammar_read rows) (row_words rows) (Stands rows) (grammar_again rows good) (grammar_ok rows good) (grammar_err rows g) ws))

-- each line of the grammar is read as what it says
pub grammar_reads : (rows : List Row) → IsGoodGrammar rows → (v : LineOf rows) → RowStands rows v → grammar.grammar_read rows (grammar.row_words rows v) ≡ Ok v
grammar_reads rows g v st =
    ap (grammar.grammar_read rows) (sym (row_same rows v))
    ∙ (same_reading rows (row_words rows v) ∙ grammar_again rows (grammar_good rows g) v (stands_row rows v st))
