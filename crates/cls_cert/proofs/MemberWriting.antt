-- How members are written, goal after goal.
use Rattle.std.proofs.Common.{◌≡◌, ◌∙◌, ℕ, List, [], ◌∷◌, ◌++◌, ap, refl, sym, append_assoc, append-nil}
use Rattle.std.specs.Prelude.{Option, None, Some, true, false, is_some}
use Rattle.std.specs.List.{flat_map}
use Rattle.std.proofs.lemmas.List.Concat.{flat_map-append}
use Rattle.cls_library.specs.Libraries.{Library}
use Rattle.cls_path.specs.Paths.{Paths, type_of_paths}
use Rattle.cls_proof.specs.Certificates as proof
use Rattle.cls_proof.specs.Texts.{member_line, member_text}
use Rattle.cls_cert.specs.Computed.{members_from, member_of, start_place}
use Rattle.cls_cert.specs.Left.{blocks_text}

-- the blocks of a goal are written but for some, and nothing was left of a block before
pub goal_written : (t t' left left' blocks blocks' rest : List ℕ) → left ≡ [] → t' ++ (left' ++ blocks') ≡ t ++ blocks → t' ++ (left' ++ (blocks' ++ rest)) ≡ t ++ (left ++ (blocks ++ rest))
goal_written t t' left left' blocks blocks' rest none w =
    ap (λ (v : List ℕ). t' ++ v) (sym (append_assoc left' blocks' rest))
    ∙ (sym (append_assoc t' (left' ++ blocks') rest)
    ∙ (ap (λ (v : List ℕ). v ++ rest) w
    ∙ (append_assoc t blocks rest
    ∙ ap (λ (v : List ℕ). t ++ (v ++ (blocks ++ rest))) (sym none))))

-- the first line of a member is written, and nothing was left before it
pub member_begun : (t t' left first blocks members members' rest : List ℕ) → left ≡ [] → t' ≡ t ++ first → members ≡ (first ++ blocks) ++ members' → t' ++ (left ++ (blocks ++ (members' ++ rest))) ≡ t ++ (left ++ (members ++ rest))
member_begun t t' left first blocks members members' rest none w e =
    (λ i. w i ++ (none i ++ (blocks ++ (members' ++ rest))))
    ∙ (append_assoc t first (blocks ++ (members' ++ rest))
    ∙ (ap (λ (v : List ℕ). t ++ v) (sym (append_assoc first blocks (members' ++ rest)) ∙ (sym (append_assoc (first ++ blocks) members' rest) ∙ ap (λ (v : List ℕ). v ++ rest) (sym e)))
    ∙ ap (λ (v : List ℕ). t ++ (v ++ (members ++ rest))) (sym none)))

-- nothing is left but the last line
pub last_line : (t t' text left members last : List ℕ) → left ≡ [] → members ≡ [] → t' ≡ t ++ last → t ++ (left ++ ([] ++ (members ++ last))) ≡ text → t' ≡ text
last_line t t' text left members last none no_members w so_far = w ∙ ((λ i. t ++ (sym none i ++ (sym no_members i ++ last))) ∙ so_far)

module _ (names components : List (List ℕ)) (l : Library) where
  -- the member of a goal without a rank, and of one that has a rank
  pub unranked_text : (g : Paths) (o : Option ℕ) → is_some o ≡ false → flat_map (member_text names components) (members_from l (g ∷ []) (o ∷ [])) ≡ member_line names (type_of_paths g) ++ blocks_text components l g start_place
  unranked_text g None e = append-nil (member_text names components (member_of l g))
  unranked_text g (Some k) e = absurd (let f : true ≡ false = e in cc)

  pub ranked_text : (g : Paths) (o : Option ℕ) → is_some o ≡ true → flat_map (member_text names components) (members_from l (g ∷ []) (o ∷ [])) ≡ []
  ranked_text g None e = absurd (let f : false ≡ true = e in cc)
  ranked_text g (Some k) e = refl

  -- the members that are left, by that of the next goal
  pub parts_text : (here others all : List proof.Member) → all ≡ here ++ others → flat_map (member_text names components) all ≡ flat_map (member_text names components) here ++ flat_map (member_text names components) others
  parts_text here others all e = ap (λ (ms : List proof.Member). flat_map (member_text names components) ms) e ∙ flat_map-append (member_text names components) here others
