use Rattle.std.proofs.Common.{◌≡◌, List, ℕ, length, drop, sym, ap, subst, ◌∙◌}
use Rattle.std.specs.List.{refill}
use Rattle.cls_cover.specs.Flags.{AreJoined}
use Rattle.cls_cover.proofs.Steps.{written_back}
use Rattle.cls_cover.proofs.flags.join_flags.Goals as goal

pub returns-clause-joined : goal.returns-clause-joined
returns-clause-joined c =
    let once = c.once.inside.words.items in
    let met = c.met.inside.words.items in
    let new_once = c.join_words.new.once in
    let new_met = c.join_words.new.met in
    let e : refill (length once) once new_once ≡ new_once = written_back new_once (drop (length new_once) once) (length once) (sym (c.join_words.ensures.once_len ∙ ap (λ (q : List ℕ). length q) c.as_mut_slice.ensures.value)) in
    let d : refill (length met) met new_met ≡ new_met = written_back new_met (drop (length new_met) met) (length met) (sym (c.join_words.ensures.met_len ∙ ap (λ (q : List ℕ). length q) c.as_mut_slice-2.ensures.value)) in
    subst (λ (q : List ℕ). AreJoined c.args.once.now c.args.met.now c.args.row.now q (refill (length met) met new_met)) (sym e)
    (subst (λ (q : List ℕ). AreJoined c.args.once.now c.args.met.now c.args.row.now new_once q) (sym d)
    (subst (λ (q : List ℕ). AreJoined q c.args.met.now c.args.row.now new_once new_met) (c.as_mut_slice.ensures.value ∙ c.once.view_is)
    (subst (λ (q : List ℕ). AreJoined c.as_mut_slice.result.now q c.args.row.now new_once new_met) (c.as_mut_slice-2.ensures.value ∙ c.met.view_is)
    (subst (λ (q : List ℕ). AreJoined c.as_mut_slice.result.now c.as_mut_slice-2.result.now q new_once new_met) c.as_slice.ensures c.join_words.ensures.joined))))
