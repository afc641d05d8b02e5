-- Lines say a certificate, or one of them is the first bad one, or none is `qed`.
use Rattle.std.proofs.Common.{◌≡◌, ◌⊎◌, inl, inr, ℕ, ◌+◌, Bool, true, false, List, [], ◌∷◌, ◌++◌, Option, Some, None, length, refl, ap, sym, ◌∙◌, subst, append_assoc, append-nil}
use Rattle.std.specs.List.{list_any}
use Rattle.cls_lexer.specs.Names.{number_of, with_texts}
use Rattle.cls_proof.specs.Certificates.{inhabited}
use Rattle.cls_proof.specs.Drafts.{Place, at_start, at_end, after}
use Rattle.cls_proof.specs.Reading.{LinesSay, BeginCertificate, IsFirstBad}
use Rattle.cls_proof.specs.Statements.{Statement, is_qed, statements_of}
use Rattle.cls_proof.specs.Statements as statement
use Rattle.cls_proof.proofs.Allowed.{run_from, certificate_run}
use Rattle.cls_laws.specs.Possible.{IsPossible}
use Rattle.cls_laws.specs.Existence.{HasReading, ReadingsExist}
use Rattle.cls_laws.proofs.Classical.{surely, then, after as afterwards, either_way}
use Rattle.cls_laws.proofs.Alike.{AreAlike, lines_again, certificate_again}

-- NOTHING STANDS BEHIND `qed`
none_runs : (ss : List Statement) → run_from None ss ≡ None
none_runs [] = refl
none_runs (s ∷ ss) = refl

none_is_no_place : (o : Option Place) (p : Place) → o ≡ None → o ≡ Some p → ⊥
none_is_no_place o p e f = cc

end_stops : (s : Statement) → after s at_end ≡ None
end_stops statement.inhabited = refl
end_stops (statement.row r) = refl
end_stops statement.empty = refl
end_stops (statement.member t) = refl
end_stops (statement.block x n) = refl
end_stops statement.layer = refl
end_stops (statement.set positions) = refl
end_stops statement.qed = refl

nothing_behind : (ss : List Statement) → run_from (Some at_end) ss ≡ Some at_end → ss ≡ []
nothing_behind [] e = refl
nothing_behind (s ∷ ss) e = absurd (none_is_no_place (run_from (after s at_end) ss) at_end (ap (λ (o : Option Place). run_from o ss) (end_stops s) ∙ none_runs ss) e)

qed_ends : (p : Place) (ss : List Statement) → run_from (after statement.qed p) ss ≡ Some at_end → run_from (Some at_end) ss ≡ Some at_end
qed_ends p ss e = by (after statement.qed p) refl e
  where
    to_end : (p : Place) → (after statement.qed p ≡ None) ⊎ (after statement.qed p ≡ Some at_end)
    to_end at_start = inl refl
    to_end at_end = inl refl
    to_end _ = inr refl

    by : (o : Option Place) → after statement.qed p ≡ o → run_from o ss ≡ Some at_end → run_from (Some at_end) ss ≡ Some at_end
    by o f g = elim (to_end p) [
      | inl none ↦ absurd (none_is_no_place (run_from o ss) at_end (ap (λ (q : Option Place). run_from q ss) (sym f ∙ none) ∙ none_runs ss) g)
      | inr some ↦ ap (λ (q : Option Place). run_from q ss) (sym some ∙ f) ∙ g
    ]

front_empty : (xs ys : List Statement) → xs ++ ys ≡ [] → ys ≡ []
front_empty [] ys e = e
front_empty (x ∷ xs) ys e = absurd (cc)

all_said : (o : Option Place) (xs ys : List Statement) → list_any is_qed xs ≡ true → run_from o (xs ++ ys) ≡ Some at_end → ys ≡ []
all_said o [] ys q e = absurd (let f : false ≡ true = q in cc)
all_said None (x ∷ xs) ys q e = absurd (none_is_no_place None at_end refl e)
all_said (Some p) (statement.inhabited ∷ xs) ys q e = all_said (after statement.inhabited p) xs ys q e
all_said (Some p) (statement.row r ∷ xs) ys q e = all_said (after (statement.row r) p) xs ys q e
all_said (Some p) (statement.empty ∷ xs) ys q e = all_said (after statement.empty p) xs ys q e
all_said (Some p) (statement.member t ∷ xs) ys q e = all_said (after (statement.member t) p) xs ys q e
all_said (Some p) (statement.block x n ∷ xs) ys q e = all_said (after (statement.block x n) p) xs ys q e
all_said (Some p) (statement.layer ∷ xs) ys q e = all_said (after statement.layer p) xs ys q e
all_said (Some p) (statement.set positions ∷ xs) ys q e = all_said (after (statement.set positions) p) xs ys q e
all_said (Some p) (statement.qed ∷ xs) ys q e = front_empty xs ys (nothing_behind (xs ++ ys) (qed_ends p (xs ++ ys) e))

module _ (old components : List (List ℕ)) where
  -- ONE LINE AFTER ANOTHER
  none_begin : BeginCertificate components []
  none_begin = record { number = λ x. 0; names = []; statements = []; says = (refl, refl); certificate = inhabited []; more = statements_of (inhabited []); begins = refl }

  abbrev BadOr : List (List ℕ) → Type 0
  BadOr lines = ((n : ℕ) × IsFirstBad components lines n) ⊎ BeginCertificate components lines

  next_line : (before : List (List ℕ)) (line : List ℕ) (rest : List (List ℕ)) → BeginCertificate components before
      → (BeginCertificate components (before ++ line ∷ []) → IsPossible (BadOr ((before ++ line ∷ []) ++ rest)))
      → BeginCertificate components (before ++ line ∷ []) ⊎ (BeginCertificate components (before ++ line ∷ []) → ⊥) → IsPossible (BadOr (before ++ line ∷ rest))
  next_line before line rest good on (inl next) = subst (λ (ls : List (List ℕ)). IsPossible (BadOr ls)) (append_assoc before (line ∷ []) rest) (on next)
  next_line before line rest good on (inr bad) =
      surely (inl (length before + 1, record { before = before; line = line; after = rest; split = refl; number = refl; good = good; bad = bad }))

  first_bad_or : (before rest : List (List ℕ)) → BeginCertificate components before → IsPossible (BadOr (before ++ rest))
  first_bad_or before [] good = surely (inr (subst (BeginCertificate components) (sym (append-nil before)) good))
  first_bad_or before (line ∷ rest) good =
      then (either_way (BeginCertificate components (before ++ line ∷ []))) (next_line before line rest good (first_bad_or (before ++ line ∷ []) rest))

  -- lines that begin a certificate
  module _ (lines : List (List ℕ)) where
    whole : (b : BeginCertificate components lines) → list_any is_qed b.statements ≡ true → HasReading old components lines
    whole b e =
        let new = with_texts old b.names in
        let r = lines_again b.number (number_of new) components lines b.names b.statements b.says in
        let ended : run_from (Some at_start) (b.statements ++ b.more) ≡ Some at_end = ap (run_from (Some at_start)) (sym b.begins) ∙ certificate_run b.certificate in
        let none = all_said (Some at_start) b.statements b.more e ended in
        let are : statements_of b.certificate ≡ b.statements = b.begins ∙ (ap (λ (ss : List Statement). b.statements ++ ss) none ∙ append-nil b.statements) in
        let c = certificate_again b.certificate r.0 (subst (λ (ss : List Statement). AreAlike ss r.0) (sym are) r.2) in
        inl (new, c.0, record { names = b.names; numbered = refl; says = subst (λ (ss : List Statement). LinesSay (number_of new) components lines b.names ss) (sym c.1) r.1 })

    begun_by : (b : BeginCertificate components lines) (q : Bool) → list_any is_qed b.statements ≡ q → HasReading old components lines
    begun_by b true e = whole b e
    begun_by b false e = inr (inr (record { good = b; no_qed = e }))

    read_by : BadOr lines → HasReading old components lines
    read_by (inl bad) = inr (inl bad)
    read_by (inr b) = begun_by b (list_any is_qed b.statements) refl

pub readings_exist : ReadingsExist
readings_exist old components lines = afterwards (first_bad_or old components [] lines (none_begin old components)) (read_by old components lines)
