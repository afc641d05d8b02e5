use Rattle.std.proofs.Common.{Global, ◌≡◌, ◌<◌, ◌∷◌, ◌++◌, [], List, Some, length, map, take, sym, subst, ap, ◌∙◌, arith}
use Rattle.std.specs.declared.vec.Vec.{Vec}
use Rattle.std.specs.Prelude.{All, slice_get}
use Rattle.std.proofs.lemmas.List.{length-map, length-take, map-append, take_more}
use Rattle.std.proofs.lemmas.List.Elements.{All-push}
use Rattle.std.proofs.lemmas.Option.{slice_get-get_or}
use Rattle.cls_path.specs.Paths.{TypePath}
use Rattle.cls_library.specs.declared.lead.Lead.{Lead}
use Rattle.cls_library.specs.Leads.{IsLead, path_of}
use Rattle.cls_library.proofs.Passing.{idle-goal}
use Rattle.cls_library.proofs.finder.Finder.new.Goals as goal
use Rattle.cls_library.proofs.finder.Finder.new.Goals.{then-is_empty+else-is_idle+in_ok-reserve, else-is_empty}

pub returns-then-is_idle-clause-none : goal.returns-then-is_idle-clause-none
returns-then-is_idle-clause-none c = λ from.
    let i = c.loop-path.path-index in
    let paths = c.paths-path-items.result.now in
    let leads = c.loop-path.leads.items in
    let here : i < length paths = c.loop-path-test.true in
    let none : length leads ≡ 0 = grind arith in
    let count : length leads ≡ length (take i paths) = sym (length-map leads path_of) ∙ ap length c.loop-path.invariant.paths in
    let size = length-take i paths in
    let start : i ≡ 0 = omega arith in
    let first : Some c.new-lead.result.path.now ≡ slice_get c.args.goal.now 0 =
    ap (λ (p : TypePath). Some p) (c.new-lead.ensures.path ∙ c.path-item.is) ∙ (sym (slice_get-get_or paths i _ here) ∙ (λ k. slice_get (c.paths-path-items.ensures k) (start k))) in
    idle-goal c.args.lib.now c.args.goal.now c.new-lead.result from first c.new-lead.ensures.lead (c.is_idle.ensures.0 c.if-is_idle.true)

pub loop-path-preserved : goal.loop-path-preserved
loop-path-preserved c =
    let l = c.args.lib.now in
    let leads = c.loop-path.leads.items in
    let lead = c.new-lead.result in
    let same : c.if-is_empty.leads.items ≡ leads = elim c.if-is_empty.branch [
      | then-is_empty+else-is_idle+in_ok-reserve w ↦ ap (λ (v : Vec Lead Global). v.items) w.leads-is ∙ w.in_ok-reserve.ensures.items
      | else-is_empty w ↦ ap (λ (v : Vec Lead Global). v.items) w.leads-is
    ] in
    let all : c.push.new.self.items ≡ leads ++ lead ∷ [] = c.in_ok-push.ensures.items ∙ ap (λ (xs : List Lead). xs ++ lead ∷ []) same in
    record {
      each = subst (λ (xs : List Lead). All (IsLead l) xs) (sym all) (All-push (IsLead l) leads lead c.loop-path.invariant.each c.new-lead.ensures.lead);
      paths = ap (map path_of) all
          ∙ (map-append path_of leads (lead ∷ [])
          ∙ ((λ k. c.loop-path.invariant.paths k ++ (c.new-lead.ensures.path ∙ c.path-item.is) k ∷ [])
          ∙ sym (take_more c.paths-path-items.result.now c.loop-path.path-index _ c.loop-path-test.true)));
    }
