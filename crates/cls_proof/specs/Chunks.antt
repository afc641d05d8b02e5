-- internal: lines that stand in chunks, and what is read of a chunk
use Rattle.std.specs.Prelude.{⊤, ℕ, ◌≡◌, List, ◌++◌, length}
use Rattle.std.specs.List.{flat_map, AllByRecursion}
use Rattle.cls_lexer.specs.Names.{number_of, with_texts}
use Rattle.cls_proof.specs.declared.draft.Draft.{Draft}
use Rattle.cls_proof.specs.declared.proof_fault.ProofFault.{ProofFault}
use Rattle.cls_proof.specs.declared.proof_fault.ProofFault.TheVariants.{OutOfMemory, BadLine, NoQed}
use Rattle.cls_proof.specs.Drafts.{said_in}
use Rattle.cls_proof.specs.Reading.{LinesSay, IsFirstBad}
use Rattle.cls_proof.specs.Said.{IsStatementHeld}
use Rattle.cls_proof.specs.Statements.{Statement}

-- the lines of the chunks, behind one another
abbrev pub lines_in : List (List (List ℕ)) → List (List ℕ)
lines_in chunks = flat_map (λ (chunk : List (List ℕ)). chunk) chunks

-- What the lines say by the table as it is, and by each later one. The table was `old` at the first line.
pub record AreRead (components old lines names : List (List ℕ)) (ss : List Statement) : Type 0 where
  pub texts : List (List ℕ)
  pub numbered : names ≡ with_texts old texts
  pub says : (later : List (List ℕ)) → LinesSay (number_of (with_texts names later)) components lines texts ss
  pub held : AllByRecursion (IsStatementHeld (length names) (length components)) ss

-- Behind whatever lines say `ss`, the chunk is read too, and they say `ss'` together. The table was `old` before the chunk.
abbrev pub IsReadBehind : (components old new chunk : List (List ℕ)) → (ss ss' : List Statement) → Type 0
IsReadBehind components old new chunk ss ss' =
    (first before : List (List ℕ)) → AreRead components first before old ss → AreRead components first (before ++ chunk) new ss'

-- Why the chunk isn't read behind lines that the draft is up to.
abbrev pub IsChunkFault : (components old chunk : List (List ℕ)) → (before : ℕ) → Draft → ProofFault → Type 0
IsChunkFault components old chunk count d OutOfMemory = ⊤
IsChunkFault components old chunk count d (BadLine n) =
    (first before after : List (List ℕ)) → length before ≡ count → AreRead components first before old (said_in d)
    → IsFirstBad components (before ++ (chunk ++ after)) n
IsChunkFault components old chunk count d NoQed = ⊥
