use Rattle.std.proofs.Common.{◌≡◌, ◌+◌, ℕ, Bool, true, false, cond, Some, None, take, get_or, sym, ap, ◌∙◌, arith}
use Rattle.cls_filtered.specs.Filtered.{count_true}
use Rattle.cls_filtered.proofs.Keeping.{up-within}
use Rattle.cls_filtered.proofs.kept.number_at.Goals as goal

pub returns-then-not-is_up : goal.returns-then-not-is_up
returns-then-not-is_up c =
    let fs = c.args.flags.now in
    let k = c.args.pair in
    let no : get_or fs k false ≡ false = sym c.is_up.ensures ∙ c.if-not-is_up.true in
    ap (λ (b : Bool). cond b (Some (count_true (take k fs) + 1)) None) (sym no)

pub bounds-numbers-pair : goal.bounds-numbers-pair
bounds-numbers-pair c =
    let up : get_or c.args.flags.now c.args.pair false ≡ true = sym c.is_up.ensures ∙ c.if-not-is_up.false in
    omega (arith, up-within c.args.flags.now c.args.pair up, c.requires.0)

pub returns : goal.returns
returns c =
    let fs = c.args.flags.now in
    let k = c.args.pair in
    let up : get_or fs k false ≡ true = sym c.is_up.ensures ∙ c.if-not-is_up.false in
    ap (λ (n : ℕ). Some n) (c.requires.1 k (up-within fs k up)) ∙ ap (λ (b : Bool). cond b (Some (count_true (take k fs) + 1)) None) (sym up)
