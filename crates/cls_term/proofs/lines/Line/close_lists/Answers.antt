use Rattle.std.proofs.Common.{ap, arith, rules, string_bytes, length, ◌≡◌, ◌≢◌, ◌+◌, ◌++◌, ◌∷◌, [], ◌∙◌}
use Rattle.std.proofs.lemmas.List.{get_or_read}
use Rattle.cls_term.specs.Lines.{IsClosed, standing_at}
use Rattle.cls_term.specs.declared.lines.Line.{Line}
use Rattle.cls_term.specs.declared.lines.Standing.{Standing}
use Rattle.cls_term.proofs.Standings.{lists-closed, lists-go_on}
use Rattle.cls_term.proofs.lines.Line.close_lists.Goals as goal
use Rattle.cls_term.proofs.lines.Line.close_lists.Goals.{then-next-gt0+in_ok-push_str, else-next-gt0}

pub returns : goal.returns
returns c = λ stack h.
    let old = c.args.self.now in
    let place = c.in_ok-place.place in
    let full = string_bytes c.close_full.new.text in
    let closed : IsClosed old.standings.items stack (string_bytes old.text) full place = search rules in
    let goes_on : (standing_at old.standings.items place).left ≢ 1 = search rules in
    let there : c.index-next.result.now ≡ standing_at old.standings.items place =
    get_or_read old.standings.items place c.index-next.result.now closed.within c.index-next.ensures _
    in
    let left : c.index-next.result.now.left ≡ (standing_at old.standings.items place).left = ap (λ (s : Standing). s.left) there in
    let new : Line = record { text = c.if-next-gt0.self.text; standings = c.push.new.self } in
    let next : Standing = record c.if-next-gt0.next { end = c.len.result } in
    let end : c.len.result ≡ length (string_bytes c.if-next-gt0.self.text) = search rules in
    elim c.if-next-gt0.branch [
      | then-next-gt0+in_ok-push_str w ↦
          let one : c.if-next-gt0.next.left + 1 ≡ (standing_at old.standings.items place).left = omega (arith, left, ap (λ (s : Standing). s.left) w.next-is, w.if-next-gt0.true) in
          lists-go_on stack full place old new next closed (omega (arith, left, goes_on, w.if-next-gt0.true)) one (ap (λ (s : Standing). s.outer) w.next-is ∙ ap (λ (s : Standing). s.outer) there) end
          (ap (λ (s : Line). string_bytes s.text) w.self-is ∙ w.in_ok-push_str.ensures.bytes)
          (c.in_ok-push.ensures.items ∙ ap (λ (s : Line). s.standings.items ++ next ∷ []) w.self-is)
      | else-next-gt0 w ↦
          lists-closed stack full place old new next closed (omega (arith, left, w.if-next-gt0.false)) (omega (arith, ap (λ (s : Standing). s.left) w.next-is, w.if-next-gt0.false)) end
          (ap (λ (s : Line). string_bytes s.text) w.self-is)
          (c.in_ok-push.ensures.items ∙ ap (λ (s : Line). s.standings.items ++ next ∷ []) w.self-is)
    ]
