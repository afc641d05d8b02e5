use Rattle.std.proofs.Common.{◌≡◌, ℕ, List, drop, sym, ap, ◌∙◌, subst}
use Rattle.std.specs.Str.{IsUtf8, IsCharBoundary}
use Rattle.cls_lexer.specs.Contents.{known_bytes}
use Rattle.cls_lexer.proofs.Feeds.{cut_before, cut_behind, behind_feed}
use Rattle.cls_lexer.proofs.piece.Piece.cut.Goals as goal

pub range-front-requires-clause-end_boundary : goal.range-front-requires-clause-end_boundary
range-front-requires-clause-end_boundary c =
    subst (λ (bs : List ℕ). IsCharBoundary bs c.args.place) (sym (sym (ap known_bytes c.in-Text.is) ∙ c.self.view_is)) (cut_before c.args.self c.args.place c.requires)

pub range_from-feed-requires : goal.range_from-feed-requires
range_from-feed-requires c =
    λ _. subst (λ (bs : List ℕ). IsCharBoundary bs c.args.place) (sym (sym (ap known_bytes c.in-Text.is) ∙ c.self.view_is)) (cut_before c.args.self c.args.place c.requires)

pub range_from-requires : goal.range_from-requires
range_from-requires c =
    let from : c.range_from-feed.result.now ≡ drop c.args.place c.args.self
    = c.range_from-feed.ensures.value ∙ ap (λ (bs : List ℕ). drop c.args.place bs) (sym (ap known_bytes c.in-Text.is) ∙ c.self.view_is) in
    λ _. subst (λ (bs : List ℕ). IsCharBoundary bs 1) (sym from) (cut_behind c.args.self c.args.place c.requires (subst (λ (bs : List ℕ). IsUtf8 bs) from c.range_from-feed.utf8))

pub returns-in-Text-clause-rest : goal.returns-in-Text-clause-rest
returns-in-Text-clause-rest c =
    let from : c.range_from-feed.result.now ≡ drop c.args.place c.args.self
    = c.range_from-feed.ensures.value ∙ ap (λ (bs : List ℕ). drop c.args.place bs) (sym (ap known_bytes c.in-Text.is) ∙ c.self.view_is) in
    c.range_from.ensures.value ∙ (ap (λ (bs : List ℕ). drop 1 bs) from ∙ behind_feed c.args.self c.args.place c.requires)
