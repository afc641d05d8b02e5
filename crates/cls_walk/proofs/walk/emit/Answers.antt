use Rattle.std.proofs.Common.{◌++◌, ◌∷◌, [], List, ℕ, ap, inl, inr, append-nil, rules, sym, ◌∙◌}
use Rattle.cls_walk.specs.declared.walk.Walk.{Walk}
use Rattle.cls_walk.proofs.Replays.{remembers-grown}
use Rattle.cls_walk.proofs.Walks.{emit-one, emit-none}
use Rattle.cls_walk.proofs.walk.emit.Goals as goal
use Rattle.cls_walk.proofs.walk.emit.Goals.{then-slack-eq0+then-cursor+in_ok-push, else-slack-eq0, else-slack-eq0-via-then-slack-eq0+else-cursor, else-slack-eq0-via-else-slack-eq0}

pub returns-clause-listed : goal.returns-clause-listed
returns-clause-listed c =
    let old = c.args.walk.now in
    let new = c.if-slack-eq0.walk in
    elim c.if-slack-eq0.branch [
      | then-slack-eq0+then-cursor+in_ok-push w ↦ emit-one c.args.plan.now c.args.cursor old new c.args.slack _ w.if-slack-eq0.true w.if-cursor.true
          (ap (λ (v : Walk). v.codes) w.walk-is ∙ w.in_ok-push.ensures.ok
          ∙ ap (λ (x : List ℕ). old.codes ++ x ∷ []) w.as_slice.ensures.value)
      | else-slack-eq0 w ↦ elim w.else-slack-eq0.branch [
        | else-slack-eq0-via-then-slack-eq0+else-cursor u ↦ emit-none c.args.plan.now c.args.cursor old new c.args.slack _ (inr u.if-cursor.false) (ap (λ (v : Walk). v.codes) w.walk-is)
        | else-slack-eq0-via-else-slack-eq0 u ↦ emit-none c.args.plan.now c.args.cursor old new c.args.slack _ (inl u.if-slack-eq0.false) (ap (λ (v : Walk). v.codes) w.walk-is)
      ]
    ]

pub returns-clause-back : goal.returns-clause-back
returns-clause-back c =
    let old = c.args.walk.now in
    let new = c.if-slack-eq0.walk in
    let grown = remembers-grown c.args.plan.now old new in
    record {
      awaited = search rules;
      code = search rules;
      few = search rules;
      full = search rules;
      remembers = elim c.if-slack-eq0.branch [
        | then-slack-eq0+then-cursor+in_ok-push w ↦ grown (old.code.items ∷ []) (ap (λ (v : Walk). v.known) w.walk-is)
            (ap (λ (v : Walk). v.codes) w.walk-is ∙ w.in_ok-push.ensures.ok
            ∙ ap (λ (x : List ℕ). old.codes ++ x ∷ []) w.as_slice.ensures.value)
        | else-slack-eq0 w ↦ grown [] (ap (λ (v : Walk). v.known) w.walk-is) (ap (λ (v : Walk). v.codes) w.walk-is ∙ sym (append-nil old.codes))
      ];
    }
