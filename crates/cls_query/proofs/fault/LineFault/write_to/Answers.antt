use Rattle.std.proofs.Common.{ℕ, List, ◌++◌, sym, ap, ◌∙◌, append_assoc}
use Rattle.std.specs.Prelude.{Some, codes, string_bytes}
use Rattle.std.specs.Option.{option_map}
use Rattle.cls_query.specs.declared.fault.LineFault.{LineFault}
use Rattle.cls_query.specs.ReadQueries.{fault_words}
use Rattle.cls_query.proofs.fault.LineFault.write_to.Goals as goal

pub returns-in_ok-write_named-in-Duplicate : goal.returns-in_ok-write_named-in-Duplicate
returns-in_ok-write_named-in-Duplicate c =
    let old = string_bytes c.args.text.now in
    let said = codes "duplicate " ++ c.in-Duplicate.name.now in
    ap Some (c.in_ok-write_named-in-Duplicate.ensures ∙ (ap (λ (l : List ℕ). l ++ said) c.in_ok-push_str.ensures.bytes ∙ append_assoc old (codes "error ") said))
    ∙ sym (ap (λ (fault : LineFault). option_map (λ (words : List ℕ). old ++ (codes "error " ++ words)) (fault_words fault)) c.in-Duplicate.is)
