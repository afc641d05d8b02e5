use Rattle.std.proofs.Common.{ℕ, ◌≡◌, ◌+◌, ◌<◌, ◌++◌, ◌∙◌, List, length, take, ap, sym, subst, arith, All, string_bytes}
use Rattle.std.specs.Prelude.{IfSome}
use Rattle.cls_base.specs.Limits.{max_covers}
use Rattle.cls_cover.specs.Covers.{AreCovers, AreWithinLimit}
use Rattle.cls_cover.specs.Forced.{IsForced}
use Rattle.cls_cover.specs.Fronts.{HasCovers}
use Rattle.cls_cover.specs.Lists.{IsAscending}
use Rattle.cls_cert.specs.Left.{layers_left, sets_left}
use Rattle.cls_cert.proofs.LayerWriting.{layer_begun, lines_left}
use Rattle.cls_cert.proofs.layers.BlockLeft.begin_layer.Goals as goal

pub next_layer-requires-clause-ascending : goal.next_layer-requires-clause-ascending
next_layer-requires-clause-ascending c = subst (λ (fs : List (List ℕ)). All IsAscending fs) (sym c.as_slice.ensures.value) c.requires.left.ascending

pub next_layer-requires-clause-few : goal.next_layer-requires-clause-few
next_layer-requires-clause-few c = subst (λ (fs : List (List ℕ)). AreWithinLimit fs max_covers) (sym c.as_slice.ensures.value) c.requires.left.few

pub next_layer-requires-clause-forced : goal.next_layer-requires-clause-forced
next_layer-requires-clause-forced c =
    let b = c.args.self.now in
    let at : IfSome b.forced (IsForced (take c.args.front b.families.items)) = subst (λ (k : ℕ). IfSome b.forced (IsForced (take k b.families.items))) c.requires.front c.requires.left.forced in
    let taken : IfSome c.take-cover.result (IsForced (take c.args.front b.families.items)) = subst (λ o. IfSome o (IsForced (take c.args.front b.families.items))) (sym c.take-cover.ensures.value) at in
    subst (λ (fs : List (List ℕ)). IfSome c.take-cover.result (IsForced (take c.args.front fs))) (sym c.as_slice.ensures.value) taken

pub next_layer-requires-clause-grown : goal.next_layer-requires-clause-grown
next_layer-requires-clause-grown c =
    let b = c.args.self.now in
    let at : IfSome b.grown (HasCovers b.families.items max_covers c.args.front) = subst (λ (k : ℕ). IfSome b.grown (HasCovers b.families.items max_covers k)) c.requires.front c.requires.left.grown in
    let taken : IfSome c.take-grown.result (HasCovers b.families.items max_covers c.args.front) = subst (λ o. IfSome o (HasCovers b.families.items max_covers c.args.front)) (sym c.take-grown.ensures.value) at in
    subst (λ (fs : List (List ℕ)). IfSome c.take-grown.result (HasCovers fs max_covers c.args.front)) (sym c.as_slice.ensures.value) taken

pub next_layer-requires-clause-more : goal.next_layer-requires-clause-more
next_layer-requires-clause-more c = subst (λ (fs : List (List ℕ)). c.args.front < length fs) (sym c.as_slice.ensures.value) c.requires.more

pub returns-clause-left : goal.returns-clause-left
returns-clause-left c =
    let left = c.requires.left in
    let more = c.requires.more in
    record {
      ascending = left.ascending;
      few = left.few;
      forced = subst (λ (fs : List (List ℕ)). IfSome c.in_ok-sets.forced (IsForced (take (c.args.front + 1) fs))) c.as_slice.ensures.value c.in_ok-sets.ensures.forced;
      grown = subst (λ (fs : List (List ℕ)). IfSome c.in_ok-sets.covers (HasCovers fs max_covers (c.args.front + 1))) c.as_slice.ensures.value c.in_ok-sets.ensures.grown;
      front = omega arith;
      set = omega arith;
    }

pub returns-clause-lines : goal.returns-clause-lines
returns-clause-lines c =
    let b = c.args.self.now in
    let fs = b.families.items in
    let old = string_bytes c.args.text.now in
    let covers : AreCovers (take (c.args.front + 1) fs) c.in_ok-sets.sets = subst (λ (gs : List (List ℕ)). AreCovers (take (c.args.front + 1) gs) c.in_ok-sets.sets) c.as_slice.ensures.value c.in_ok-sets.ensures.covers in
    let before : lines_left fs c.args.front ≡ sets_left b ++ layers_left b =
    ap (λ (k : ℕ). lines_left fs k) (sym c.requires.front) ∙ ap (λ (v : List ℕ). v ++ layers_left b) (sym c.requires.none) in
    layer_begun fs c.args.front c.in_ok-sets.sets old (string_bytes c.push_str.new.self) c.requires.more covers c.in_ok-push_str.ensures.bytes
    ∙ ap (λ (v : List ℕ). old ++ v) before
