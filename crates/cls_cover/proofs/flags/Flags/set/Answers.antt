use Rattle.std.proofs.Common.{ℕ, ◌≡◌, ◌/◌, ◌%◌, ◌<◌, ◌↔◌, ◌⊎◌, List, length, get_or, set, drop, sym, subst, IsTrue}
use Rattle.std.proofs.lemmas.List.{length-set}
use Rattle.std.specs.List.{refill}
use Rattle.cls_cover.specs.Flags.{bit}
use Rattle.cls_cover.proofs.Steps.{written_back}
use Rattle.cls_cover.proofs.Words.{with_bit, flag_set}
use Rattle.cls_cover.proofs.flags.Flags.set.Goals as goal

pub returns-clause-flags : goal.returns-clause-flags
returns-clause-flags c = λ g.
    let ws = c.self.inside.words.items in
    let f = c.args.f in
    let l : f / 64 < length ws = subst (λ (q : List ℕ). f / 64 < length q) (sym c.self.view_is) c.requires in
    let new = set ws (f / 64) (with_bit (get_or ws (f / 64) 0) (f % 64)) in
    let e : refill (length ws) ws new ≡ new = written_back new (drop (length new) ws) (length ws) (sym (length-set ws (f / 64) (with_bit (get_or ws (f / 64) 0) (f % 64)))) in
    subst (λ (q : List ℕ). IsTrue (bit (refill (length ws) ws (set q (f / 64) (with_bit (get_or q (f / 64) 0) (f % 64)))) g) ↔ (IsTrue (bit c.args.self.now g) ⊎ (g ≡ f))) (sym c.as_mut_slice-words.ensures.value)
    (subst (λ (q : List ℕ). IsTrue (bit q g) ↔ (IsTrue (bit c.args.self.now g) ⊎ (g ≡ f))) (sym e)
    (subst (λ (old : List ℕ). IsTrue (bit new g) ↔ (IsTrue (bit old g) ⊎ (g ≡ f))) c.self.view_is
    (flag_set ws f l g)))
