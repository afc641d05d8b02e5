use Rattle.std.proofs.Common.{ℕ, ◌≡◌, ◌/◌, ◌+◌, ◌<◌, ◌∙◌, List, length, ap, sym, arith}
use Rattle.std.proofs.lemmas.List.{length-replicate}
use Rattle.cls_cover.specs.Flags.{bit}
use Rattle.cls_cover.proofs.Steps.{within_start}
use Rattle.cls_cover.proofs.Words.{flag_none}
use Rattle.cls_cover.proofs.large.start_large.Goals as goal

positive : (limit : ℕ) → 0 < limit → limit ≡ 0 → ⊥
positive limit l e = omega arith

pub returns : goal.returns
returns c = λ limit p.
    let fs = c.args.families.now in
    let none = c.in_ok-flags.ensures in
    record {
      rows = c.in_ok-rows.ensures;
      wide = ap (λ (q : List ℕ). length q) none ∙ length-replicate (length fs / 64 + 1) 0;
      exactly = (λ f. (
        (λ h. absurd (flag_none (length fs / 64 + 1) f (sym (ap (λ (q : List ℕ). bit q f) none) ∙ h))),
        (λ h. let l : f < 0 = h in absurd (omega arith)),
      ));
      found = c.in_ok-list.ensures.found;
      within = within_start fs limit (positive limit p) c.in_ok-list.list.items c.in_ok-list.ensures.one c.in_ok-list.ensures.found;
    }
