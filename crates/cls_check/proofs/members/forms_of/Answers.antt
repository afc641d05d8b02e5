use Rattle.std.proofs.Common.{◌<◌, ◌∷◌, ◌++◌, take, length, subst, sym, arith, List, []}
use Rattle.cls_path.specs.Paths.{TypePath, listed}
use Rattle.cls_proof.specs.Certificates as proof
use Rattle.cls_proof.specs.Members.{member_seen}
use Rattle.cls_check.specs.Goals.{AreForms}
use Rattle.cls_check.proofs.Loops.{got-some, take-one}
use Rattle.cls_check.proofs.MemberLaws.{Form, zip_last}
use Rattle.cls_check.proofs.Order.{form_by}
use Rattle.cls_check.proofs.members.forms_of.Goals as goal

pub loop-i-init : goal.loop-i-init
loop-i-init c = subst (λ (fs : List (List TypePath)). AreForms c.args.lib.now [] fs) (sym c.in_ok-forms.ensures.items) tt

pub loop-i-preserved : goal.loop-i-preserved
loop-i-preserved c =
    let i = c.loop-i.i in
    let ms = c.args.members.now in
    let m = member_seen c.get-member.result in
    let g = c.in_ok-normal.field-0 in
    let low : i < length ms = omega arith in
    let form = form_by c.args.lib.now c.taxonomy.result.now c.taxonomy.ensures m.goal (listed g) c.in_ok-normal.ensures.form in
    subst (λ (front : List proof.Member). AreForms c.args.lib.now front c.push.new.self.items) (sym (take-one ms i m (got-some ms i m c.get-member.ensures) low))
    (subst (λ (fs : List (List TypePath)). AreForms c.args.lib.now (take i ms ++ m ∷ []) fs) (sym c.in_ok-push.ensures.items)
    (zip_last (Form c.args.lib.now) (take i ms) c.loop-i.forms.items m g c.loop-i.invariant form))
