use Rattle.std.proofs.Common.{subst, sym, List, Bor}
use Rattle.cls_base.specs.Ty.{type_of}
use Rattle.cls_base.specs.declared.ty.Ty.{Ty}
use Rattle.cls_norm.specs.Subtypes.{Joins}
use Rattle.cls_norm.proofs.Parts.{joins_one, joins_both}
use Rattle.cls_norm.proofs.subtypes.+put_pieces.Goals as goal

pub returns-in_ok-push-in_default : goal.returns-in_ok-push-in_default
returns-in_ok-push-in_default t c = subst (λ (l : List (Bor Ty)). Joins (type_of c.args.ty.now) c.args.pieces.now.items l) (sym c.in_ok-push-in_default.ensures.items) (joins_one c.args.pieces.now.items c.args.ty)

pub returns-in_ok-put_pieces-in-Meet-2 : goal.returns-in_ok-put_pieces-in-Meet-2
returns-in_ok-put_pieces-in-Meet-2 t c =
    let old = c.args.pieces.now.items in
    let mid = c.put_pieces.new.pieces.items in
    let new = c.put_pieces-in-Meet.new.pieces.items in
    let s = type_of c.in-Meet.sides.value.0 in
    let u = type_of c.in-Meet.sides.value.1 in
    let a : Joins s old mid = subst (λ (x : Ty × Ty). Joins (type_of x.0) old mid) c.deref.ensures c.in_ok-put_pieces-in-Meet.ensures in
    let b : Joins u mid new = subst (λ (x : Ty × Ty). Joins (type_of x.1) mid new) c.deref.ensures c.in_ok-put_pieces-in-Meet-2.ensures in
    rw c.in-Meet.is (joins_both s u old mid new a b)
