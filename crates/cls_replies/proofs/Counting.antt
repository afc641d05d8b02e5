-- A certificate has at most as many rows or members as lines.
use Rattle.std.proofs.Common.{◌≡◌, ℕ, suc, ◌+◌, ◌≤◌, List, [], ◌∷◌, length, map, ap, arith, length-append, ◌∙◌, refl}
use Rattle.std.specs.List.{flat_map}
use Rattle.cls_check.specs.Verdicts.{rows_in}
use Rattle.cls_proof.specs.Certificates.{ProofRow, Member, Certificate, inhabited, empty}
use Rattle.cls_proof.specs.Reading.{Says, LinesSay, SaysCertificate}
use Rattle.cls_proof.specs.Reading as reading
use Rattle.cls_proof.specs.Statements.{Statement, row, member_statements, statements_of, qed}

one_said : (number : List ℕ → ℕ) (components : List (List ℕ)) (line : List ℕ) (names : List (List ℕ)) (ss : List Statement) → Says number components line names ss → length ss ≤ 1
one_said number components line names ss (reading.Says.no_statement k n e) = let l : length ss ≡ 0 = ap length e in omega arith
one_said number components line names ss (reading.Says.one_statement s h e) = let l : length ss ≡ 1 = ap length e in omega arith

all_said : (number : List ℕ → ℕ) (components : List (List ℕ)) (lines names : List (List ℕ)) (ss : List Statement) → LinesSay number components lines names ss → length ss ≤ length lines
all_said number components [] names ss (n, e) = let l : length ss ≡ 0 = ap length e in omega arith
all_said number components (line ∷ lines) names ss (names', names'', ss', ss'', says, rest, n, e) =
    let a = one_said number components line names' ss' says in
    let b = all_said number components lines names'' ss'' rest in
    let l : length ss ≡ length ss' + length ss'' = ap length e ∙ length-append ss' ss'' in
    omega (arith, a, b, l)

map_length : {A B : Type 0} (f : A → B) (xs : List A) → length (map f xs) ≡ length xs
map_length f [] = refl
map_length f (x ∷ xs) = ap suc (map_length f xs)

members_said : (ms : List Member) → length ms ≤ length (flat_map member_statements ms)
members_said [] = omega arith
members_said (m ∷ ms) =
    let a = members_said ms in
    let l = length-append (member_statements m) (flat_map member_statements ms) in
    omega (arith, a, l)

rows_said : (c : Certificate) → rows_in c ≤ length (statements_of c)
rows_said (inhabited rows) =
    let a : length (map (λ (r : ProofRow). row r) rows) ≡ length rows = map_length _ rows in
    let l = length-append (map (λ (r : ProofRow). row r) rows) (qed ∷ []) in
    omega (arith, a, l)
rows_said (empty members) =
    let a = members_said members in
    let l = length-append (flat_map member_statements members) (qed ∷ []) in
    omega (arith, a, l)

pub rows_few : (old new components lines : List (List ℕ)) (c : Certificate) → SaysCertificate old new components lines c → rows_in c ≤ length lines
rows_few old new components lines c s = let a = rows_said c in let b = all_said _ _ _ _ _ s.says in omega (arith, a, b)
