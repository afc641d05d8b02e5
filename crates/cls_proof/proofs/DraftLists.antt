-- What a draft says begins a certificate, and leads to its place.
use Rattle.std.proofs.Common.{◌≡◌, ◌<◌, ℕ, false, List, [], ◌∷◌, ◌++◌, Some, None, refl, ap, sym, ◌∙◌, subst, length, map, append_assoc, append-nil, arith}
use Rattle.std.proofs.lemmas.List.{map-append}
use Rattle.std.specs.List.{flat_map, list_any}
use Rattle.std.proofs.lemmas.Bool.{or_parts}
use Rattle.cls_base.specs.Types.{ClosedType}
use Rattle.cls_proof.specs.Certificates as certificate
use Rattle.cls_proof.specs.Certificates.{ProofRow, Block, Member, Certificate}
use Rattle.cls_proof.specs.Growing.{HasBlock, HasLayer, HasLayers, in_last, in_last_block, in_last_member, last_layers, new_block, new_member, on_last, with_set}
use Rattle.cls_proof.specs.Statements.{Statement, inhabited, row, empty, member, block, layer, set, qed, layer_statements, block_statements, member_statements, statements_of, is_qed}
use Rattle.cls_proof.specs.Seen.{certificate_of}
use Rattle.cls_base.specs.declared.ty.Ty.{Ty}
use Rattle.cls_proof.specs.declared.certificate.Certificate as code
use Rattle.cls_proof.specs.declared.statement.Statement as written
use Rattle.cls_proof.specs.declared.statement.Statement.TheVariants as variant
use Rattle.cls_proof.specs.Rows.{row_of}
use Rattle.cls_proof.specs.Said.{statement_of}
use Rattle.cls_proof.specs.declared.draft.Draft.{Draft}
use Rattle.cls_proof.specs.declared.draft.Draft.TheVariants as drafts
use Rattle.cls_proof.specs.Drafts.{Place, at_start, in_rows, in_members, in_member, in_block, in_layer, at_end, after, said_in, place_in, place_in_block, place_in_member, place_in_members, members_said}
use Rattle.cls_proof.proofs.Allowed.{run_from, IsInMembers, rows_run, members_run, in_members_place, certificate_run}

flat_last : {A B : Type 0} (f : A → List B) (xs : List A) (x : A) → flat_map f (xs ++ x ∷ []) ≡ flat_map f xs ++ f x
flat_last f [] x = append-nil (f x)
flat_last f (y ∷ xs) x = ap (λ zs. f y ++ zs) (flat_last f xs x) ∙ sym (append_assoc (f y) (flat_map f xs) (f x))

-- a certificate that begins with what the draft says
pub record Begun (said : List Statement) : Type 0 where
  pub certificate : Certificate
  pub more : List Statement
  pub begins : statements_of certificate ≡ said ++ more

pub begun : (d : Draft) → Begun (said_in d)
begun drafts.Start = record { certificate = certificate.inhabited []; more = statements_of (certificate.inhabited []); begins = refl }
begun (drafts.Rows rows) = record { certificate = certificate.inhabited rows; more = qed ∷ []; begins = refl }
begun (drafts.Members members) = record { certificate = certificate.empty members; more = qed ∷ []; begins = refl }
begun (drafts.Whole c) = record { certificate = certificate_of c; more = []; begins = sym (append-nil (statements_of (certificate_of c))) }

-- where it leads
pub draft_run : (d : Draft) → run_from (Some at_start) (said_in d) ≡ Some (place_in d)
draft_run drafts.Start = refl
draft_run (drafts.Rows rows) = rows_run rows
draft_run (drafts.Members members) = members_run members
draft_run (drafts.Whole c) = certificate_run (certificate_of c)

-- what the elements of a list say, where the last one says more
grow_any : {A B : Type 0} (f : A → List B) (g : A → A) (ss : List B) → ((x : A) → f (g x) ≡ f x ++ ss) → (xs : List A) → 0 < length xs → flat_map f (on_last g xs) ≡ flat_map f xs ++ ss
grow_any f g ss p [] l = absurd (omega arith)
grow_any {A} {B} f g ss p (x ∷ []) l = append-nil (f (g x)) ∙ (p x ∙ ap (λ (zs : List B). zs ++ ss) (sym (append-nil (f x))))
grow_any {A} {B} f g ss p (x ∷ y ∷ xs) l = ap (λ (zs : List B). f x ++ zs) (grow_any f g ss p (y ∷ xs) (omega arith)) ∙ sym (append_assoc (f x) (flat_map f (y ∷ xs)) ss)

-- the same where it says more if it holds something
grow_last : {A B C : Type 0} (f : A → List B) (g : A → A) (ss : List B) (content : A → List C) → ((x : A) → 0 < length (content x) → f (g x) ≡ f x ++ ss) → (xs : List A) → 0 < length (in_last content xs) → flat_map f (on_last g xs) ≡ flat_map f xs ++ ss
grow_last f g ss content p [] l = absurd (omega arith)
grow_last {A} {B} f g ss content p (x ∷ []) l = append-nil (f (g x)) ∙ (p x l ∙ ap (λ (zs : List B). zs ++ ss) (sym (append-nil (f x))))
grow_last {A} {B} f g ss content p (x ∷ y ∷ xs) l = ap (λ (zs : List B). f x ++ zs) (grow_last f g ss content p (y ∷ xs) l) ∙ sym (append_assoc (f x) (flat_map f (y ∷ xs)) ss)

in_last-twice : {A B C : Type 0} (inner : B → List C) (content : A → List B) (xs : List A) → in_last (λ x. in_last inner (content x)) xs ≡ in_last inner (in_last content xs)
in_last-twice inner content [] = refl
in_last-twice inner content (x ∷ []) = refl
in_last-twice inner content (x ∷ y ∷ xs) = in_last-twice inner content (y ∷ xs)

-- what is said grows at its end
pub said_member : (ms : List Member) (goal : ClosedType) → members_said (ms ++ new_member goal ∷ []) ≡ members_said ms ++ member goal ∷ []
said_member ms goal = ap (λ (ss : List Statement). empty ∷ ss) (flat_last member_statements ms (new_member goal))

pub said_block : (ms : List Member) (c n : ℕ) → 0 < length ms → members_said (in_last_member (λ blocks. blocks ++ new_block c n ∷ []) ms) ≡ members_said ms ++ block c n ∷ []
said_block ms c n l =
    ap (λ (ss : List Statement). empty ∷ ss)
    (grow_any member_statements (λ (m : Member). record { goal = m.goal; blocks = m.blocks ++ new_block c n ∷ [] }) (block c n ∷ [])
    (λ m. ap (λ (ss : List Statement). member m.goal ∷ ss) (flat_last block_statements m.blocks (new_block c n))) ms l)

pub said_layer : (ms : List Member) → HasBlock ms → members_said (in_last_member (in_last_block (λ layers. layers ++ [] ∷ [])) ms) ≡ members_said ms ++ layer ∷ []
said_layer ms l =
    let more : Block → Block = λ b. record { component = b.component; n = b.n; layers = b.layers ++ [] ∷ [] } in
    ap (λ (ss : List Statement). empty ∷ ss)
    (grow_last member_statements (λ (m : Member). record { goal = m.goal; blocks = on_last more m.blocks }) (layer ∷ []) (λ (m : Member). m.blocks)
    (λ m some. ap (λ (ss : List Statement). member m.goal ∷ ss)
    (grow_any block_statements more (layer ∷ []) (λ b. ap (λ (ss : List Statement). block b.component b.n ∷ ss) (flat_last layer_statements b.layers [])) m.blocks some)) ms l)

set_last : (s : List ℕ) (sets : List (List ℕ)) → layer_statements (sets ++ s ∷ []) ≡ layer_statements sets ++ set s ∷ []
set_last s sets = ap (λ (ss : List Statement). layer ∷ ss) (map-append (λ (t : List ℕ). set t) sets (s ∷ []))

pub said_set : (ms : List Member) (s : List ℕ) → HasLayer ms → members_said (in_last_member (in_last_block (with_set s)) ms) ≡ members_said ms ++ set s ∷ []
said_set ms s l =
    let more : Block → Block = λ b. record { component = b.component; n = b.n; layers = with_set s b.layers } in
    let some : 0 < length (in_last (λ (m : Member). last_layers m.blocks) ms) =
    subst (λ (layers : List (List (List ℕ))). 0 < length layers) (sym (in_last-twice (λ (b : Block). b.layers) (λ (m : Member). m.blocks) ms)) l in
    ap (λ (ss : List Statement). empty ∷ ss)
    (grow_last member_statements (λ (m : Member). record { goal = m.goal; blocks = on_last more m.blocks }) (set s ∷ []) (λ (m : Member). last_layers m.blocks)
    (λ m held. ap (λ (ss : List Statement). member m.goal ∷ ss)
    (grow_last block_statements more (set s ∷ []) (λ (b : Block). b.layers)
    (λ b there. ap (λ (ss : List Statement). block b.component b.n ∷ ss)
    (grow_any layer_statements (λ (sets : List (List ℕ)). sets ++ s ∷ []) (set s ∷ []) (set_last s) b.layers there)) m.blocks held)) ms some)

-- what isn't allowed behind members
pub no_block : (ms : List Member) (c n : ℕ) → length ms ≡ 0 → after (block c n) (place_in_members ms) ≡ None
no_block [] c n e = refl
no_block (m ∷ ms) c n e = absurd (omega arith)

no_layer_in : (bs : List Block) → (0 < length bs → ⊥) → after layer (place_in_member bs) ≡ None
no_layer_in [] h = refl
no_layer_in (b ∷ bs) h = absurd (h (omega arith))

pub no_layer : (ms : List Member) → (HasBlock ms → ⊥) → after layer (place_in_members ms) ≡ None
no_layer [] h = refl
no_layer (m ∷ []) h = no_layer_in m.blocks h
no_layer (m ∷ n ∷ ms) h = no_layer (n ∷ ms) h

no_set_at : (ls : List (List (List ℕ))) (s : List ℕ) → (0 < length ls → ⊥) → after (set s) (place_in_block ls) ≡ None
no_set_at [] s h = refl
no_set_at (l ∷ ls) s h = absurd (h (omega arith))

no_set_in : (bs : List Block) (s : List ℕ) → (HasLayers bs → ⊥) → after (set s) (place_in_member bs) ≡ None
no_set_in [] s h = refl
no_set_in (b ∷ []) s h = no_set_at b.layers s h
no_set_in (b ∷ c ∷ bs) s h = no_set_in (c ∷ bs) s h

pub no_set : (ms : List Member) (s : List ℕ) → (HasLayer ms → ⊥) → after (set s) (place_in_members ms) ≡ None
no_set [] s h = refl
no_set (m ∷ []) s h = no_set_in m.blocks s h
no_set (m ∷ n ∷ ms) s h = no_set (n ∷ ms) s h

no_row : (p : Place) (r : ProofRow) → IsInMembers p → after (row r) p ≡ None
no_row in_members r h = refl
no_row in_member r h = refl
no_row in_block r h = refl
no_row in_layer r h = refl
no_row at_start r h = absurd h
no_row in_rows r h = absurd h
no_row at_end r h = absurd h

no_start : (p : Place) → IsInMembers p → (after inhabited p ≡ None) × (after empty p ≡ None)
no_start in_members h = (refl, refl)
no_start in_member h = (refl, refl)
no_start in_block h = (refl, refl)
no_start in_layer h = (refl, refl)
no_start at_start h = absurd h
no_start in_rows h = absurd h
no_start at_end h = absurd h

pub no_rest : (ms : List Member) (s : written.Statement) → ((goal : Ty) → s ≡ variant.Member goal → ⊥) → ((c n : ℕ) → s ≡ variant.Block c n → ⊥) → (s ≡ variant.Layer → ⊥) → ((positions : List ℕ) → s ≡ variant.Set positions → ⊥) → (s ≡ variant.Qed → ⊥) → after (statement_of s) (place_in_members ms) ≡ None
no_rest ms variant.Inhabited a b c d e = (no_start (place_in_members ms) (in_members_place ms)).0
no_rest ms (variant.Row r) a b c d e = no_row (place_in_members ms) (row_of r) (in_members_place ms)
no_rest ms variant.Empty a b c d e = (no_start (place_in_members ms) (in_members_place ms)).1
no_rest ms (variant.Member goal) a b c d e = absurd (a goal refl)
no_rest ms (variant.Block x n) a b c d e = absurd (b x n refl)
no_rest ms variant.Layer a b c d e = absurd (c refl)
no_rest ms (variant.Set positions) a b c d e = absurd (d positions refl)
no_rest ms variant.Qed a b c d e = absurd (e refl)

-- none of the statements is `qed`
abbrev NoQed : List Statement → Type 0
NoQed ss = list_any is_qed ss ≡ false

no_both : (xs ys : List Statement) → NoQed xs → NoQed ys → NoQed (xs ++ ys)
no_both [] ys h k = k
no_both (x ∷ xs) ys h k =
    let p = or_parts (is_qed x) (list_any is_qed xs) h in
    let a = p.0 in
    let b = no_both xs ys p.1 k in
    rw (a, b) refl

no_rows : (rs : List ProofRow) → NoQed (map (λ r. row r) rs)
no_rows [] = refl
no_rows (r ∷ rs) = no_rows rs

no_sets : (sets : List (List ℕ)) → NoQed (map (λ s. set s) sets)
no_sets [] = refl
no_sets (s ∷ sets) = no_sets sets

no_layers : (ls : List (List (List ℕ))) → NoQed (flat_map layer_statements ls)
no_layers [] = refl
no_layers (l ∷ ls) = no_both (layer_statements l) (flat_map layer_statements ls) (no_sets l) (no_layers ls)

no_blocks : (bs : List Block) → NoQed (flat_map block_statements bs)
no_blocks [] = refl
no_blocks (b ∷ bs) = no_both (block_statements b) (flat_map block_statements bs) (no_layers b.layers) (no_blocks bs)

no_members : (ms : List Member) → NoQed (flat_map member_statements ms)
no_members [] = refl
no_members (m ∷ ms) = no_both (member_statements m) (flat_map member_statements ms) (no_blocks m.blocks) (no_members ms)

-- `qed` stands at the end of a whole certificate alone
pub unfinished : (d : Draft) → ((c : code.Certificate) → d ≡ drafts.Whole c → ⊥) → list_any is_qed (said_in d) ≡ false
unfinished drafts.Start h = refl
unfinished (drafts.Rows rows) h = no_rows rows
unfinished (drafts.Members members) h = no_members members
unfinished (drafts.Whole c) h = absurd (h c refl)

pub ruleset drafting = (said_member, said_block, said_layer, said_set, no_block, no_layer, no_set)
