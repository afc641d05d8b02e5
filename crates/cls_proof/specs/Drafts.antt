-- internal: certificates that are read up to some line, and which statements may come next
use Rattle.std.specs.Prelude.{ℕ, ◌≡◌, Bool, true, false, List, [], ◌∷◌, ◌++◌, Option, Some, None, MatchOption, map}
use Rattle.std.specs.List.{flat_map}
use Rattle.cls_proof.specs.declared.draft.Draft.{Draft}
use Rattle.cls_proof.specs.declared.draft.Draft.TheVariants as drafts
use Rattle.cls_proof.specs.Certificates.{ProofRow, Block, Member}
use Rattle.cls_proof.specs.Seen.{certificate_of}
use Rattle.cls_proof.specs.Statements.{Statement, inhabited, row, empty, member, block, layer, set, qed, member_statements, statements_of}

-- where a certificate stands after some statements
pub data Place : Type 0 where
  at_start : Place
  in_rows : Place
  in_members : Place
  in_member : Place
  in_block : Place
  in_layer : Place
  at_end : Place

-- Where it stands after the statement, or None where the statement isn't allowed.
abbrev pub after : Statement → Place → Option Place
after inhabited at_start = Some in_rows
after inhabited _ = None
after (row r) in_rows = Some in_rows
after (row r) _ = None
after empty at_start = Some in_members
after empty _ = None
after (member goal) in_members = Some in_member
after (member goal) in_member = Some in_member
after (member goal) in_block = Some in_member
after (member goal) in_layer = Some in_member
after (member goal) _ = None
after (block component n) in_member = Some in_block
after (block component n) in_block = Some in_block
after (block component n) in_layer = Some in_block
after (block component n) _ = None
after layer in_block = Some in_layer
after layer in_layer = Some in_layer
after layer _ = None
after (set positions) in_layer = Some in_layer
after (set positions) _ = None
after qed at_start = None
after qed at_end = None
after qed _ = Some at_end

-- what is said up to here
abbrev pub members_said : List Member → List Statement
members_said members = empty ∷ flat_map member_statements members

abbrev pub rows_said : List ProofRow → List Statement
rows_said rows = inhabited ∷ map (λ r. row r) rows

abbrev pub said_in : Draft → List Statement
said_in drafts.Start = []
said_in (drafts.Rows rows) = rows_said rows
said_in (drafts.Members members) = members_said members
said_in (drafts.Whole c) = statements_of (certificate_of c)

-- where a certificate stands after these layers of a block
abbrev pub place_in_block : List (List (List ℕ)) → Place
place_in_block [] = in_block
place_in_block (l ∷ layers) = in_layer

-- after these blocks of a member
abbrev pub place_in_member : List Block → Place
place_in_member [] = in_member
place_in_member (b ∷ []) = place_in_block b.layers
place_in_member (b ∷ c ∷ blocks) = place_in_member (c ∷ blocks)

-- after these members
abbrev pub place_in_members : List Member → Place
place_in_members [] = in_members
place_in_members (m ∷ []) = place_in_member m.blocks
place_in_members (m ∷ n ∷ members) = place_in_members (n ∷ members)

abbrev pub place_in : Draft → Place
place_in drafts.Start = at_start
place_in (drafts.Rows rows) = in_rows
place_in (drafts.Members members) = place_in_members members
place_in (drafts.Whole c) = at_end

-- The draft goes on with the statement, or it isn't allowed there.
abbrev pub GoesOn : List Statement → Place → Statement → Option Draft → Type 0
GoesOn said place s next = MatchOption next (after s place ≡ None) (λ d. said_in d ≡ said ++ s ∷ [])

-- The statement is put behind what was said, or it isn't allowed there.
abbrev pub IsAdded : List Statement → Place → Statement → List Statement → Bool → Type 0
IsAdded said place s now true = now ≡ said ++ s ∷ []
IsAdded said place s now false = after s place ≡ None
