use Rattle.std.proofs.Common.{◌≡◌, ◌⊎◌, inl, inr, ap, sym, ◌∙◌, Bool, true, false, refl}
use Rattle.std.specs.Option.{option_copied}
use Rattle.cls_cover.specs.Groups.{HasRowOf}
use Rattle.cls_cover.proofs.Marks.{row_of}
use Rattle.cls_cover.proofs.Grouping.{first_member, first_row}
use Rattle.cls_cover.proofs.groups.belongs.Goals as goal

pub bounds-rows-y : goal.bounds-rows-y
bounds-rows-y c = c.requires.group c.in-Some.y.now (first_member c.args.group.now c.in-Some.y.now (ap option_copied (sym c.in-Some.is) ∙ c.first.ensures.value))

pub returns-in-Some : goal.returns-in-Some
returns-in-Some c = go c.is_same.result refl
  where
    go : (b : Bool) → c.is_same.result ≡ b → (c.is_same.result ≡ false) ⊎ HasRowOf c.args.rows.now c.args.group.now c.args.x
    go false e = inl e
    go true e =
        let h = ap option_copied (sym c.in-Some.is) ∙ c.first.ensures.value in
        let l = c.requires.group c.in-Some.y.now (first_member c.args.group.now c.in-Some.y.now h) in
        let r = row_of c.args.rows.now c.in-Some.y.now c.flags.result.now c.index-rows-y.result l c.index-rows-y.is c.flags.ensures in
        let o = row_of c.args.rows.now c.args.x c.flags-in-Some.result.now c.index-rows-x.result c.requires.here c.index-rows-x.is c.flags-in-Some.ensures in
        inr (first_row c.args.rows.now c.args.group.now c.args.x c.in-Some.y.now h (sym o ∙ (sym (c.is_same.ensures e) ∙ r)))
