use Rattle.std.proofs.Common.{◌≡◌, ℕ, List, [], ◌++◌, take, length, sym, ap, ◌∙◌, subst, arith}
use Rattle.std.proofs.lemmas.List.{nil_from_length}
use Rattle.cls_lexer.specs.Lines.{HasNoFeed, without_return, CutsLine}
use Rattle.cls_lexer.proofs.Feeds.{HasNoFeed-append, HasNoFeed-None, cut_at_feed}
use Rattle.cls_lexer.proofs.line_reader.LineReader.take.Goals as goal

pub invariant_of-self-in_default : goal.invariant_of-self-in_default
invariant_of-self-in_default c = subst (λ (bs : List ℕ). HasNoFeed bs) (sym c.in_ok-extend_from_slice.ensures.items)
    (HasNoFeed-append _ _ c.self.invariant (subst (λ (bs : List ℕ). HasNoFeed bs) (sym c.as_bytes.ensures) (HasNoFeed-None c.args.piece (sym c.in_default.ensures))))

pub returns-in_default-clause-none : goal.returns-in_default-clause-none
returns-in_default-clause-none c = HasNoFeed-None c.args.piece (sym c.in_default.ensures)

pub returns-in_default-clause-no_feed : goal.returns-in_default-clause-no_feed
returns-in_default-clause-no_feed c = subst (λ (bs : List ℕ). HasNoFeed bs) (sym c.in_ok-extend_from_slice.ensures.items)
    (HasNoFeed-append _ _ c.self.invariant (subst (λ (bs : List ℕ). HasNoFeed bs) (sym c.as_bytes.ensures) (HasNoFeed-None c.args.piece (sym c.in_default.ensures))))

pub returns-then-is_empty-clause-line : goal.returns-then-is_empty-clause-line
returns-then-is_empty-clause-line c =
    let zero : length c.self.inside.bytes.items ≡ 0 = grind arith in
    let none : c.args.self.now ≡ [] = sym c.self.view_is ∙ nil_from_length c.self.inside.bytes.items zero in
    let whole : c.cut-line.result.0 ≡ without_return (c.args.self.now ++ take c.in-Some.place c.args.piece)
    = c.cut-line.ensures.line ∙ ap (λ (bs : List ℕ). without_return (bs ++ take c.in-Some.place c.args.piece)) (sym none) in
    subst (λ (rest : List ℕ). CutsLine (c.args.self.now ++ c.args.piece) c.cut-line.result.0 rest) (sym c.cut-line.ensures.rest)
    (cut_at_feed c.args.self.now c.args.piece c.cut-line.result.0 c.in-Some.place (subst (λ (bs : List ℕ). HasNoFeed bs) c.self.view_is c.self.invariant) (sym c.in-Some.ensures) whole)

pub returns-clause-line : goal.returns-clause-line
returns-clause-line c =
    let whole : c.ended_owned.result ≡ without_return (c.args.self.now ++ take c.in-Some.place c.args.piece)
    = c.ended_owned.ensures ∙ (ap (λ v. without_return v.items) c.replace-bytes.ensures.value
    ∙ (ap without_return c.in_ok-extend_from_slice-2.ensures.items
    ∙ (ap (λ (bs : List ℕ). without_return (c.self.inside.bytes.items ++ take c.in-Some.place bs)) c.as_bytes-2.ensures
    ∙ ap (λ (bs : List ℕ). without_return (bs ++ take c.in-Some.place c.args.piece)) c.self.view_is))) in
    subst (λ (rest : List ℕ). CutsLine (c.args.self.now ++ c.args.piece) c.ended_owned.result rest) (sym c.cut-rest.ensures.rest)
    (cut_at_feed c.args.self.now c.args.piece c.ended_owned.result c.in-Some.place (subst (λ (bs : List ℕ). HasNoFeed bs) c.self.view_is c.self.invariant) (sym c.in-Some.ensures) whole)
