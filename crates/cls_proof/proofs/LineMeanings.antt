-- What a line means by what its parts mean.
use Rattle.std.proofs.Common.{◌≡◌, ℕ, zero, suc, ◌<◌, ◌^◌, true, false, List, [], ◌∷◌, length, get_or, refl, sym, arith, Option, Some, None}
use Rattle.std.specs.Prelude.{slice_get, is_some, position}
use Rattle.std.specs.List.{list_any}
use Rattle.std.proofs.lemmas.Bool.{or_parts}
use Rattle.std.proofs.lemmas.List.Quantifiers.{position-Some}
use Rattle.std.proofs.lemmas.Option.{slice_get_within}
use Rattle.cls_base.specs.Types.{ClosedType}
use Rattle.cls_lexer.specs.Names.{number_of, with_texts}
use Rattle.cls_lexer.specs.Numerals.{number_value}
use Rattle.cls_lexer.specs.Words.{Word, name}
use Rattle.cls_syntax.specs.ClosedTypes.{HasNoDollar}
use Rattle.cls_syntax.specs.TypePrinting.{HasNamesBelow}
use Rattle.cls_syntax.specs.TypeSchemas.{is_dollar, with_constructors}
use Rattle.cls_syntax.specs.TypeTexts.{TypeText, type_words}
use Rattle.cls_syntax.proofs.Dollars.{no_dollar}
use Rattle.cls_proof.specs.Certificates.{ProofRow}
use Rattle.cls_proof.specs.Forms.{Written}
use Rattle.cls_proof.specs.Forms as written
use Rattle.cls_proof.specs.Statements.{row, member}
use Rattle.cls_proof.specs.Reading.{AreNumbers, IsGoal}
use Rattle.cls_proof.specs.Said.{IsMeant, IsMeaningless}
use Rattle.cls_proof.proofs.NumberLists.{in_range}

-- no `$` stands at any place of words without one
no_dollar_at : (ws : List Word) (k : ℕ) (d : Word) → HasNoDollar ws → k < length ws → is_dollar (get_or ws k d) ≡ false
no_dollar_at [] k d h l = absurd (omega (arith, l))
no_dollar_at (w ∷ ws) zero d h l = (or_parts (is_dollar w) (list_any is_dollar ws) h).0
no_dollar_at (w ∷ ws) (suc k) d h l = no_dollar_at ws k d (or_parts (is_dollar w) (list_any is_dollar ws) h).1 (omega (arith, l))

-- whether a `$` was found
pub dollar_absent : (o : Option ℕ) (ws : List Word) → o ≡ position is_dollar ws → is_some o ≡ false → HasNoDollar ws
dollar_absent None ws e h = no_dollar ws (sym e)
dollar_absent (Some k) ws e h = cc

pub dollar_found : (o : Option ℕ) (ws : List Word) → o ≡ position is_dollar ws → is_some o ≡ true → HasNoDollar ws → ⊥
dollar_found None ws e h closed = cc
dollar_found (Some k) ws e h closed =
    let at = position-Some is_dollar ws k (name []) (sym e) in
    let yes = at.1 in
    let no = no_dollar_at ws k (name []) closed at.0 in
    absurd (cc)

module _ (components : List (List ℕ)) where
  -- a row whose goal means nothing, and one whose parts all mean something
  module _ (t : TypeText) (x d : List ℕ) (ds : List (List ℕ)) where
    abbrev pub this_row : Written
    this_row = written.row t x d ds

    pub row_no_goal : ((number : List ℕ → ℕ) (g : ClosedType) → IsGoal number t g → ⊥) → IsMeaningless components this_row
    row_no_goal h = λ number s m. h number m.0.goal m.2.goal_is

    pub row_meant : (old new : List (List ℕ)) (r : ProofRow) → new ≡ with_constructors old (type_words t) → ((later : List (List ℕ)) → IsGoal (number_of (with_texts new later)) t r.goal) → HasNamesBelow (length new) r.goal → slice_get components r.component ≡ Some x → number_value d < 2 ^ 32 → r.n ≡ number_value d → AreNumbers ds r.cover → IsMeant components old new this_row (row r)
    row_meant old new r grown goal below stands within value cover = record {
      grown = grown;
      means = λ later. (r, refl, record { goal_is = goal later; component_is = stands; n_is = in_range d r.n within value; cover_is = cover });
      held = record { goal = below; component = slice_get_within components r.component x stands };
    }

  pub member_nothing : (t : TypeText) → ((number : List ℕ → ℕ) (g : ClosedType) → IsGoal number t g → ⊥) → IsMeaningless components (written.member t)
  member_nothing t h = λ number s m. h number m.0 m.2

  pub member_meant : (old new : List (List ℕ)) (t : TypeText) (g : ClosedType) → new ≡ with_constructors old (type_words t) → ((later : List (List ℕ)) → IsGoal (number_of (with_texts new later)) t g) → HasNamesBelow (length new) g → IsMeant components old new (written.member t) (member g)
  member_meant old new t g grown goal below = record { grown = grown; means = λ later. (g, refl, goal later); held = below }
