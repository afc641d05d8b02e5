use Rattle.std.proofs.Common.{◌≡◌, ℕ, List, sym, ap, ◌∙◌}
use Rattle.std.specs.Prelude.{IfOk, Option, Some, string_bytes}
use Rattle.std.proofs.lemmas.Result.{IfOk-weaker}
use Rattle.cls_repo.specs.EndFaults.{library_words}
use Rattle.cls_repo.specs.FaultWords.{fault_words}
use Rattle.cls_repo.proofs.Taking.{words_of_fault}
use Rattle.cls_repo.proofs.refusal.refusal_words.Goals as goal

pub returns : goal.returns
returns c =
    let kind = c.library_fault-fault.result in
    let x = c.args.component.now in
    let variables = c.args.variables.now in
    let said : library_words variables x c.args.kind ≡ Some (fault_words kind) =
    words_of_fault (λ (words : List ℕ). library_words variables x c.args.kind ≡ Some words) kind (sym c.is_out_of_memory.ensures ∙ c.if-is_out_of_memory.false) c.library_fault-fault.ensures in
    IfOk-weaker c.words.result (λ words. string_bytes words ≡ fault_words kind) (λ words. library_words variables x c.args.kind ≡ Some (string_bytes words))
    (λ words e. said ∙ ap (λ (bs : List ℕ). Some bs) (sym e)) c.words.ensures
