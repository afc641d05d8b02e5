use Rattle.std.proofs.Common.{ℕ, ◌++◌, ◌∷◌, [], List, sym, subst, MatchOption}
use Rattle.cls_cover.specs.Forced.{IsForced}
use Rattle.cls_cover.proofs.SingleFamilies.{forced_more}
use Rattle.cls_cert.proofs.Forcing.{one_number}
use Rattle.cls_cert.proofs.forced.forced_with.Goals as goal

pub returns-in_ok-put-in-Some-len1 : goal.returns-in_ok-put-in-Some-len1
returns-in_ok-put-in-Some-len1 c =
    let next = c.put.new.positions in
    subst (λ cover. MatchOption cover ⊥ (λ v. (families : List (List ℕ)) → IsForced families v → IsForced (families ++ c.args.family.now ∷ []) next))
    (sym c.in-Some-len1.is-0)
    (λ families h. forced_more families c.in-Some-len1.positions next _ c.args.family.now h
    (one_number c.args.family.now c.in-Some-len1.len_at_least c.in-Some-len1.len_below)
    c.in_ok-put-in-Some-len1.ensures.ascending c.in_ok-put-in-Some-len1.ensures.members)
