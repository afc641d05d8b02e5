-- How the layers of a block are written, family after family.
use Rattle.std.proofs.Common.{◌≡◌, ◌∙◌, ℕ, ◌+◌, ◌<◌, ◌≤◌, List, [], ◌∷◌, ◌++◌, length, take, drop, ap, sym, append_assoc}
use Rattle.std.specs.Prelude.{codes}
use Rattle.std.specs.List.{flat_map}
use Rattle.std.proofs.lemmas.List.{drop_more, drop_all, take_more}
use Rattle.cls_base.specs.Limits.{max_covers}
use Rattle.cls_cover.specs.Covers.{AreCovers, AreWithinLimit, MeetsEach}
use Rattle.cls_proof.specs.Texts.{line, layer_text, set_text}
use Rattle.cls_cert.specs.declared.layers.BlockLeft.{BlockLeft}
use Rattle.cls_cert.specs.Computed.{covers_of, layers_from}
use Rattle.cls_cert.specs.CoverLists.{made_covers}
use Rattle.cls_cert.specs.Left.{sets_left, layers_left, block_left}
use Rattle.cls_cert.proofs.BlockLaws.{one_cover}
use Rattle.cls_cert.proofs.Unique.{one_minimal}
use Rattle.cls_cert.proofs.Writing.{with_end}

pub none_few : AreWithinLimit [] max_covers
none_few = λ j k m. one_cover j m

-- the covers that are made are those that are computed
pub covers_are : (families list : List (List ℕ)) → AreCovers families list → list ≡ covers_of families
covers_are families list h = one_minimal (MeetsEach families) list (covers_of families) h (made_covers families).1

module _ (fs : List (List ℕ)) where
  abbrev Left : ℕ → List (List (List ℕ))
  Left j = layers_from (take j fs) (drop j fs)

  abbrev pub lines_left : ℕ → List ℕ
  lines_left j = flat_map layer_text (layers_from (take j fs) (drop j fs))

  layers_next : (j : ℕ) → j < length fs → Left j ≡ covers_of (take (j + 1) fs) ∷ Left (j + 1)
  layers_next j l =
      ap (λ (others : List (List ℕ)). layers_from (take j fs) others) (drop_more fs j [] l)
      ∙ ap (λ (front : List (List ℕ)). covers_of front ∷ layers_from front (drop (j + 1) fs)) (sym (take_more fs j [] l))

  -- the first line of a layer is written
  pub layer_begun :
      (j : ℕ) (sets : List (List ℕ)) (t t' : List ℕ) → j < length fs → AreCovers (take (j + 1) fs) sets → t' ≡ t ++ line (codes "layer")
      → t' ++ (flat_map set_text sets ++ lines_left (j + 1)) ≡ t ++ lines_left j
  layer_begun j sets t t' l h w =
      let rest = flat_map set_text sets ++ lines_left (j + 1) in
      let first = line (codes "layer") in
      ap (λ (v : List ℕ). v ++ rest) w
      ∙ (append_assoc t first rest
      ∙ (ap (λ (v : List ℕ). t ++ v) (sym (append_assoc first (flat_map set_text sets) (lines_left (j + 1))))
      ∙ (ap (λ (ss : List (List ℕ)). t ++ (layer_text ss ++ lines_left (j + 1))) (covers_are (take (j + 1) fs) sets h)
      ∙ ap (λ (layers : List (List (List ℕ))). t ++ flat_map layer_text layers) (sym (layers_next j l)))))

  -- no layer is left
  pub layers_done : (j : ℕ) → length fs ≤ j → lines_left j ≡ []
  layers_done j over = ap (λ (others : List (List ℕ)). flat_map layer_text (layers_from (take j fs) others)) (drop_all j fs over)

-- sets are written, and the layers behind them are left as before
pub sets_written : (t t' : List ℕ) (b b' : BlockLeft) → b' ≡ record b { set = b'.set } → t' ++ sets_left b' ≡ t ++ sets_left b → t' ++ block_left b' ≡ t ++ block_left b
sets_written t t' b b' same w =
    ap (λ (v : List ℕ). t' ++ (sets_left b' ++ v)) (ap layers_left same) ∙ with_end t' t (sets_left b') (sets_left b) (layers_left b) w
