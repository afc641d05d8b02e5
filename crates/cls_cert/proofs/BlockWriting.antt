-- How the blocks of a goal are written, place after place.
use Rattle.std.proofs.Common.{◌≡◌, ◌∙◌, ℕ, List, [], ◌++◌, ap, sym, append_assoc, append-nil}
use Rattle.std.specs.List.{flat_map}
use Rattle.std.proofs.lemmas.List.Concat.{flat_map-append}
use Rattle.cls_library.specs.declared.place.Place.{Place}
use Rattle.cls_library.specs.Libraries.{Library}
use Rattle.cls_path.specs.Paths.{Paths}
use Rattle.cls_proof.specs.Certificates.{Block}
use Rattle.cls_proof.specs.Texts.{block_line, block_text, layer_text}
use Rattle.cls_cert.specs.Building.{HasFirstFamily}
use Rattle.cls_cert.specs.Computed.{block_by, block_at, blocks_from, layers_from}
use Rattle.cls_cert.proofs.BlockPlaces.{some_block, no_block}

module _ (components : List (List ℕ)) where
  -- the line of a block is written, and its layers are left
  pub block_begun : (x n : ℕ) (fs : List (List ℕ)) (t t' left : List ℕ) → HasFirstFamily fs → t' ≡ t ++ block_line components x n → left ≡ flat_map layer_text (layers_from [] fs)
      → t' ++ left ≡ t ++ flat_map (block_text components) (block_by x n fs)
  block_begun x n fs t t' left h w e =
      let first = block_line components x n in
      let layers = flat_map layer_text (layers_from [] fs) in
      (λ i. w i ++ e i)
      ∙ (append_assoc t first layers
      ∙ (ap (λ (v : List ℕ). t ++ v) (sym (append-nil (first ++ layers)))
      ∙ ap (λ (bs : List Block). t ++ flat_map (block_text components) bs) (sym (some_block x n fs h))))

  -- there is no block
  pub block_missing : (x n : ℕ) (fs : List (List ℕ)) (t left : List ℕ) → (HasFirstFamily fs → ⊥) → left ≡ [] → t ++ left ≡ t ++ flat_map (block_text components) (block_by x n fs)
  block_missing x n fs t left h e =
      ap (λ (v : List ℕ). t ++ v) (e ∙ ap (λ (bs : List Block). flat_map (block_text components) bs) (sym (no_block x n fs h)))

  module _ (l : Library) (goal : Paths) where
    abbrev From : Place → List ℕ
    From p = flat_map (block_text components) (blocks_from l goal p)

    abbrev At : Place → List ℕ
    At p = flat_map (block_text components) (block_at l goal p.component p.count)

    -- a block is written, and its lines but for some
    pub blocks_on :
        (from p next : Place) (t t' t'' all left left' left'' : List ℕ) → blocks_from l goal from ≡ block_at l goal p.component p.count ++ blocks_from l goal next → left ≡ []
        → t ++ (left ++ flat_map (block_text components) (blocks_from l goal from)) ≡ all → t' ++ left' ≡ t ++ flat_map (block_text components) (block_at l goal p.component p.count)
        → t'' ++ left'' ≡ t' ++ left' → t'' ++ (left'' ++ flat_map (block_text components) (blocks_from l goal next)) ≡ all
    blocks_on from p next t t' t'' all left left' left'' e none so_far begun done =
        let bt : List Block → List ℕ = λ bs. flat_map (block_text components) bs in
        let parts : bt (blocks_from l goal from) ≡ At p ++ From next = ap bt e ∙ flat_map-append (block_text components) (block_at l goal p.component p.count) (blocks_from l goal next) in
        sym (append_assoc t'' left'' (From next))
        ∙ (ap (λ (v : List ℕ). v ++ From next) (done ∙ begun)
        ∙ (append_assoc t (At p) (From next)
        ∙ (ap (λ (v : List ℕ). t ++ v) (sym parts)
        ∙ (ap (λ (v : List ℕ). t ++ (v ++ From from)) (sym none) ∙ so_far))))
