-- Which statements may follow others: those of a certificate lead from its start to its end.
use Rattle.std.proofs.Common.{◌≡◌, ℕ, List, [], ◌∷◌, ◌++◌, Option, Some, None, refl, ap, ◌∙◌, map}
use Rattle.std.specs.List.{flat_map}
use Rattle.cls_base.specs.Types.{ClosedType}
use Rattle.cls_proof.specs.Certificates as certificate
use Rattle.cls_proof.specs.Certificates.{ProofRow, Block, Member, Certificate}
use Rattle.cls_proof.specs.Statements.{Statement, row, member, block, set, qed, layer_statements, block_statements, member_statements, statements_of}
use Rattle.cls_proof.specs.Drafts.{Place, at_start, in_rows, in_members, in_member, in_block, in_layer, at_end, after, place_in_block, place_in_member, place_in_members}

-- where a certificate stands after the statements
abbrev pub run_from : Option Place → List Statement → Option Place
run_from None ss = None
run_from (Some p) [] = Some p
run_from (Some p) (s ∷ ss) = run_from (after s p) ss

pub run_append : (o : Option Place) (xs ys : List Statement) → run_from o (xs ++ ys) ≡ run_from (run_from o xs) ys
run_append None [] ys = refl
run_append None (x ∷ xs) ys = refl
run_append (Some p) [] ys = refl
run_append (Some p) (x ∷ xs) ys = run_append (after x p) xs ys

-- what follows statements that lead to a place
pub run_on : (o : Option Place) (xs ys : List Statement) (p : Place) → run_from o xs ≡ Some p → run_from o (xs ++ ys) ≡ run_from (Some p) ys
run_on o xs ys p e = run_append o xs ys ∙ ap (λ (q : Option Place). run_from q ys) e

abbrev pub IsInBlock : Place → Type 0
IsInBlock in_block = Unit {0}
IsInBlock in_layer = Unit {0}
IsInBlock _ = ⊥

abbrev pub IsInMember : Place → Type 0
IsInMember in_member = Unit {0}
IsInMember in_block = Unit {0}
IsInMember in_layer = Unit {0}
IsInMember _ = ⊥

abbrev pub IsInMembers : Place → Type 0
IsInMembers in_members = Unit {0}
IsInMembers in_member = Unit {0}
IsInMembers in_block = Unit {0}
IsInMembers in_layer = Unit {0}
IsInMembers _ = ⊥

in_member_layers : (ls : List (List (List ℕ))) → IsInMember (place_in_block ls)
in_member_layers [] = tt
in_member_layers (l ∷ ls) = tt

in_member_place : (bs : List Block) → IsInMember (place_in_member bs)
in_member_place [] = tt
in_member_place (b ∷ []) = in_member_layers b.layers
in_member_place (b ∷ c ∷ bs) = in_member_place (c ∷ bs)

member_members : (p : Place) → IsInMember p → IsInMembers p
member_members in_member h = tt
member_members in_block h = tt
member_members in_layer h = tt
member_members at_start h = absurd h
member_members in_rows h = absurd h
member_members in_members h = absurd h
member_members at_end h = absurd h

pub in_members_place : (ms : List Member) → IsInMembers (place_in_members ms)
in_members_place [] = tt
in_members_place (m ∷ []) = member_members (place_in_member m.blocks) (in_member_place m.blocks)
in_members_place (m ∷ n ∷ ms) = in_members_place (n ∷ ms)

pub rows_run : (rs : List ProofRow) → run_from (Some in_rows) (map (λ r. row r) rs) ≡ Some in_rows
rows_run [] = refl
rows_run (r ∷ rs) = rows_run rs

sets_run : (sets : List (List ℕ)) → run_from (Some in_layer) (map (λ s. set s) sets) ≡ Some in_layer
sets_run [] = refl
sets_run (s ∷ sets) = sets_run sets

layer_run : (sets : List (List ℕ)) (p : Place) → IsInBlock p → run_from (Some p) (layer_statements sets) ≡ Some in_layer
layer_run sets in_block h = sets_run sets
layer_run sets in_layer h = sets_run sets
layer_run sets at_start h = absurd h
layer_run sets in_rows h = absurd h
layer_run sets in_members h = absurd h
layer_run sets in_member h = absurd h
layer_run sets at_end h = absurd h

layers_run : (l : List (List ℕ)) (ls : List (List (List ℕ))) (p : Place) → IsInBlock p → run_from (Some p) (flat_map layer_statements (l ∷ ls)) ≡ Some in_layer
layers_run l [] p h = run_on (Some p) (layer_statements l) [] in_layer (layer_run l p h)
layers_run l (k ∷ ls) p h = run_on (Some p) (layer_statements l) (flat_map layer_statements (k ∷ ls)) in_layer (layer_run l p h) ∙ layers_run k ls in_layer tt

layers_end : (ls : List (List (List ℕ))) → run_from (Some in_block) (flat_map layer_statements ls) ≡ Some (place_in_block ls)
layers_end [] = refl
layers_end (l ∷ ls) = layers_run l ls in_block tt

one_block : (component n : ℕ) (p : Place) → IsInMember p → after (block component n) p ≡ Some in_block
one_block component n in_member h = refl
one_block component n in_block h = refl
one_block component n in_layer h = refl
one_block component n at_start h = absurd h
one_block component n in_rows h = absurd h
one_block component n in_members h = absurd h
one_block component n at_end h = absurd h

block_run : (b : Block) (p : Place) → IsInMember p → run_from (Some p) (block_statements b) ≡ Some (place_in_block b.layers)
block_run b p h = ap (λ (q : Option Place). run_from q (flat_map layer_statements b.layers)) (one_block b.component b.n p h) ∙ layers_end b.layers

blocks_run : (b : Block) (bs : List Block) (p : Place) → IsInMember p → run_from (Some p) (flat_map block_statements (b ∷ bs)) ≡ Some (place_in_member (b ∷ bs))
blocks_run b [] p h = run_on (Some p) (block_statements b) [] (place_in_block b.layers) (block_run b p h)
blocks_run b (c ∷ bs) p h = run_on (Some p) (block_statements b) (flat_map block_statements (c ∷ bs)) (place_in_block b.layers) (block_run b p h) ∙ blocks_run c bs (place_in_block b.layers) (in_member_layers b.layers)

blocks_end : (bs : List Block) → run_from (Some in_member) (flat_map block_statements bs) ≡ Some (place_in_member bs)
blocks_end [] = refl
blocks_end (b ∷ bs) = blocks_run b bs in_member tt

one_member : (goal : ClosedType) (p : Place) → IsInMembers p → after (member goal) p ≡ Some in_member
one_member goal in_members h = refl
one_member goal in_member h = refl
one_member goal in_block h = refl
one_member goal in_layer h = refl
one_member goal at_start h = absurd h
one_member goal in_rows h = absurd h
one_member goal at_end h = absurd h

member_run : (m : Member) (p : Place) → IsInMembers p → run_from (Some p) (member_statements m) ≡ Some (place_in_member m.blocks)
member_run m p h = ap (λ (q : Option Place). run_from q (flat_map block_statements m.blocks)) (one_member m.goal p h) ∙ blocks_end m.blocks

more_run : (m : Member) (ms : List Member) (p : Place) → IsInMembers p → run_from (Some p) (flat_map member_statements (m ∷ ms)) ≡ Some (place_in_members (m ∷ ms))
more_run m [] p h = run_on (Some p) (member_statements m) [] (place_in_member m.blocks) (member_run m p h)
more_run m (n ∷ ms) p h =
    run_on (Some p) (member_statements m) (flat_map member_statements (n ∷ ms)) (place_in_member m.blocks) (member_run m p h)
    ∙ more_run n ms (place_in_member m.blocks) (member_members (place_in_member m.blocks) (in_member_place m.blocks))

pub members_run : (ms : List Member) → run_from (Some in_members) (flat_map member_statements ms) ≡ Some (place_in_members ms)
members_run [] = refl
members_run (m ∷ ms) = more_run m ms in_members tt

last_line : (p : Place) → IsInMembers p → run_from (Some p) (qed ∷ []) ≡ Some at_end
last_line in_members h = refl
last_line in_member h = refl
last_line in_block h = refl
last_line in_layer h = refl
last_line at_start h = absurd h
last_line in_rows h = absurd h
last_line at_end h = absurd h

-- a certificate leads from its start to its end
pub certificate_run : (c : Certificate) → run_from (Some at_start) (statements_of c) ≡ Some at_end
certificate_run (certificate.inhabited rows) = run_on (Some in_rows) (map (λ r. row r) rows) (qed ∷ []) in_rows (rows_run rows)
certificate_run (certificate.empty members) =
    run_on (Some in_members) (flat_map member_statements members) (qed ∷ []) (place_in_members members) (members_run members)
    ∙ last_line (place_in_members members) (in_members_place members)
