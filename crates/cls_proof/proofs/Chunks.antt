-- What is read of a chunk, line by line, and of several chunks.
use Rattle.std.proofs.Common.{◌≡◌, ℕ, ◌+◌, ◌≤◌, List, [], ◌∷◌, ◌++◌, length, length-append, take, drop, refl, ap, sym, ◌∙◌, subst, arith, append_assoc, append-nil, take-append-drop, None}
use Rattle.std.proofs.lemmas.List.{length-take-le, take_all}
use Rattle.std.proofs.lemmas.List.Concat.{flat_map-append}
use Rattle.cls_lexer.specs.Names.{number_of, with_texts}
use Rattle.cls_lexer.specs.Skipped.{IsSkipped}
use Rattle.cls_proof.specs.declared.draft.Draft.{Draft}
use Rattle.cls_proof.specs.declared.proof_fault.ProofFault.{ProofFault}
use Rattle.cls_proof.specs.declared.proof_fault.ProofFault.TheVariants.{OutOfMemory, BadLine, NoQed}
use Rattle.cls_proof.specs.Drafts.{after, said_in, place_in}
use Rattle.cls_proof.specs.Chunks.{lines_in, AreRead, IsReadBehind, IsChunkFault}
use Rattle.cls_proof.specs.Reading.{SaysStatement, Says, BeginCertificate, IsFirstBad, IsProofFault}
use Rattle.cls_proof.specs.Said.{IsStatementHeld}
use Rattle.cls_proof.specs.Statements.{Statement}
use Rattle.cls_proof.proofs.DraftLists.{draft_run}
use Rattle.cls_proof.proofs.SaidLines.{StandsAt, drop_next, line_next, skipped_read, said_read, good_lines, nothing_bad, place_bad}

-- no line of the chunk
pub behind_none : (components old : List (List ℕ)) (ss : List Statement) → IsReadBehind components old old [] ss ss
behind_none components old ss = λ first before r.
    subst (λ (ls : List (List ℕ)). AreRead components first ls old ss) (sym (append-nil before)) r

behind_next : (before lines : List (List ℕ)) (i : ℕ) (line : List ℕ) → StandsAt lines i line → (before ++ take i lines) ++ line ∷ [] ≡ before ++ take (i + 1) lines
behind_next before lines i line at =
    append_assoc before (take i lines) (line ∷ []) ∙ ap (λ (ls : List (List ℕ)). before ++ ls) (sym (line_next lines i line at))

-- a skipped line more
pub behind_skipped : (components old names new lines : List (List ℕ)) (i : ℕ) (line : List ℕ) (ss ts : List Statement) → StandsAt lines i line → IsReadBehind components old names (take i lines) ss ts → IsSkipped line → new ≡ names → IsReadBehind components old new (take (i + 1) lines) ss ts
behind_skipped components old names new lines i line ss ts at so_far h e = λ first before r.
    subst (λ (ls : List (List ℕ)). AreRead components first ls new ts) (behind_next before lines i line at)
    (skipped_read components first (before ++ take i lines) names new line ts (so_far first before r) h e)

-- a statement more
pub behind_said : (components old names new lines : List (List ℕ)) (i : ℕ) (line : List ℕ) (ss ts us : List Statement) (s : Statement) (texts : List (List ℕ)) → StandsAt lines i line → IsReadBehind components old names (take i lines) ss ts → new ≡ with_texts names texts → ((later : List (List ℕ)) → SaysStatement (number_of (with_texts new later)) components line texts s) → IsStatementHeld (length new) (length components) s → us ≡ ts ++ s ∷ [] → IsReadBehind components old new (take (i + 1) lines) ss us
behind_said components old names new lines i line ss ts us s texts at so_far e h held joined = λ first before r.
    let q = said_read components first (before ++ take i lines) names new line ts s texts (so_far first before r) e h held in
    subst (λ (vs : List Statement). AreRead components first (before ++ take (i + 1) lines) new vs) (sym joined)
    (subst (λ (ls : List (List ℕ)). AreRead components first ls new (ts ++ s ∷ [])) (behind_next before lines i line at) q)

-- no line is left
pub behind_whole : (components old names lines : List (List ℕ)) (i : ℕ) (ss ts : List Statement) → length lines ≤ i → IsReadBehind components old names (take i lines) ss ts → IsReadBehind components old names lines ss ts
behind_whole components old names lines i ss ts l r = subst (λ (ls : List (List ℕ)). IsReadBehind components old names ls ss ts) (take_all i lines l) r

first_bad : (components before lines behind : List (List ℕ)) (count i n : ℕ) (line : List ℕ) → StandsAt lines i line → length before ≡ count → n ≡ count + i + 1 → BeginCertificate components (before ++ take i lines) → (BeginCertificate components ((before ++ take i lines) ++ line ∷ []) → ⊥) → IsFirstBad components (before ++ (lines ++ behind)) n
first_bad components before lines behind count i n line at k e good bad =
    let front = take i lines in
    let rest = drop (i + 1) lines in
    let parts : lines ≡ front ++ line ∷ rest = sym (take-append-drop i lines) ∙ (ap (λ (ls : List (List ℕ)). front ++ ls) (drop_next lines i line at.within) ∙ ap (λ (x : List ℕ). front ++ x ∷ rest) (sym at.is)) in
    record {
      before = before ++ front;
      line = line;
      after = rest ++ behind;
      split = ap (λ (ls : List (List ℕ)). before ++ (ls ++ behind)) parts ∙ (ap (λ (ls : List (List ℕ)). before ++ ls) (append_assoc front (line ∷ rest) behind) ∙ sym (append_assoc before front (line ∷ (rest ++ behind))));
      number = omega (arith, e, k, length-append before front, length-take-le i lines (omega (arith, at.within)));
      good = good;
      bad = bad;
    }

-- the first bad line: one that says nothing, and one that isn't allowed at its place
pub bad_nothing : (components old names lines : List (List ℕ)) (count i n : ℕ) (line : List ℕ) (d d' : Draft) → StandsAt lines i line → IsReadBehind components old names (take i lines) (said_in d) (said_in d') → n ≡ count + i + 1 → ((number : List ℕ → ℕ) (texts : List (List ℕ)) (ss : List Statement) → Says number components line texts ss → ⊥) → IsChunkFault components old lines count d (BadLine n)
bad_nothing components old names lines count i n line d d' at so_far e h = λ first before behind k r.
    first_bad components before lines behind count i n line at k e (good_lines components first (before ++ take i lines) names d' (so_far first before r)) (nothing_bad components (before ++ take i lines) line h)

pub bad_place : (components old names new lines : List (List ℕ)) (count i n : ℕ) (line : List ℕ) (d d' : Draft) (s : Statement) (texts : List (List ℕ)) → StandsAt lines i line → IsReadBehind components old names (take i lines) (said_in d) (said_in d') → n ≡ count + i + 1 → new ≡ with_texts names texts → ((later : List (List ℕ)) → SaysStatement (number_of (with_texts new later)) components line texts s) → after s (place_in d') ≡ None → IsChunkFault components old lines count d (BadLine n)
bad_place components old names new lines count i n line d d' s texts at so_far e f h refused = λ first before behind k r.
    let q = so_far first before r in
    let now : SaysStatement (number_of (with_texts names texts)) components line texts s = subst (λ (t : List (List ℕ)). SaysStatement (number_of t) components line texts s) f (h []) in
    first_bad components before lines behind count i n line at k e (good_lines components first (before ++ take i lines) names d' q)
    (place_bad (number_of (with_texts names texts)) components (before ++ take i lines) line q.texts texts (said_in d') s (place_in d') (q.says texts) (draft_run d') now refused)

-- one chunk more
pub lines_push : (chunks : List (List (List ℕ))) (chunk : List (List ℕ)) → lines_in (chunks ++ chunk ∷ []) ≡ lines_in chunks ++ chunk
lines_push chunks chunk =
    flat_map-append (λ (p : List (List ℕ)). p) chunks (chunk ∷ []) ∙ ap (λ (ls : List (List ℕ)). lines_in chunks ++ ls) (append-nil chunk)

-- the chunks before a chunk, the chunk, and those behind it
pub lines_split : (chunks : List (List (List ℕ))) (chunk : List (List ℕ)) (rest : List (List (List ℕ))) → lines_in (chunks ++ chunk ∷ rest) ≡ lines_in chunks ++ (chunk ++ lines_in rest)
lines_split chunks chunk rest = flat_map-append (λ (p : List (List ℕ)). p) chunks (chunk ∷ rest)

pub few_in_chunk : (chunks : List (List (List ℕ))) (chunk : List (List ℕ)) (rest : List (List (List ℕ))) → length (lines_in chunks) + length chunk ≤ length (lines_in (chunks ++ chunk ∷ rest))
few_in_chunk chunks chunk rest =
    omega (arith, ap length (lines_split chunks chunk rest), length-append (lines_in chunks) (chunk ++ lines_in rest), length-append chunk (lines_in rest))

pub chunks_read : (components old names new : List (List ℕ)) (chunks : List (List (List ℕ))) (chunk : List (List ℕ)) (ss ts : List Statement) → AreRead components old (lines_in chunks) names ss → IsReadBehind components names new chunk ss ts → AreRead components old (lines_in (chunks ++ chunk ∷ [])) new ts
chunks_read components old names new chunks chunk ss ts r h =
    subst (λ (ls : List (List ℕ)). AreRead components old ls new ts) (sym (lines_push chunks chunk)) (h old (lines_in chunks) r)

-- the fault of a chunk is that of all lines
pub whole_fault : (components old names : List (List ℕ)) (chunks : List (List (List ℕ))) (chunk : List (List ℕ)) (rest : List (List (List ℕ))) (count : ℕ) (d : Draft) (f : ProofFault) → count ≡ length (lines_in chunks) → AreRead components old (lines_in chunks) names (said_in d) → IsChunkFault components names chunk count d f → IsProofFault components (lines_in (chunks ++ chunk ∷ rest)) f
whole_fault components old names chunks chunk rest count d OutOfMemory k r h = tt
whole_fault components old names chunks chunk rest count d (BadLine n) k r h =
    subst (λ (ls : List (List ℕ)). IsFirstBad components ls n) (sym (lines_split chunks chunk rest)) (h old (lines_in chunks) (lines_in rest) (sym k) r)
whole_fault components old names chunks chunk rest count d NoQed k r h = absurd h

none_left : (rest : List (List (List ℕ))) → length rest ≡ 0 → rest ≡ []
none_left [] h = refl
none_left (chunk ∷ rest) h = absurd (omega (arith, h))

-- all chunks are read
pub all_chunks : (components old names : List (List ℕ)) (chunks yielded rest : List (List (List ℕ))) (n : ℕ) (ss : List Statement) → yielded ++ rest ≡ chunks → n ≡ length rest → n ≡ 0 → AreRead components old (lines_in yielded) names ss → AreRead components old (lines_in chunks) names ss
all_chunks components old names chunks yielded rest n ss all left none r =
    let empty : rest ≡ [] = none_left rest (sym left ∙ none) in
    let whole : yielded ≡ chunks = sym (append-nil yielded) ∙ (ap (λ (ps : List (List (List ℕ))). yielded ++ ps) (sym empty) ∙ all) in
    subst (λ (ps : List (List (List ℕ))). AreRead components old (lines_in ps) names ss) whole r

pub chunk_fits : (chunks yielded rest later : List (List (List ℕ))) (chunk : List (List ℕ)) → yielded ++ rest ≡ chunks → rest ≡ chunk ∷ later → length (lines_in yielded) + length chunk ≤ length (lines_in chunks)
chunk_fits chunks yielded rest later chunk all next =
    let parts : yielded ++ chunk ∷ later ≡ chunks = ap (λ (ps : List (List (List ℕ))). yielded ++ ps) (sym next) ∙ all in
    subst (λ (ps : List (List (List ℕ))). length (lines_in yielded) + length chunk ≤ length (lines_in ps)) parts (few_in_chunk yielded chunk later)

pub fault_of_all : (components old names : List (List ℕ)) (chunks yielded rest later : List (List (List ℕ))) (chunk : List (List ℕ)) (count : ℕ) (d : Draft) (f : ProofFault) → yielded ++ rest ≡ chunks → rest ≡ chunk ∷ later → count ≡ length (lines_in yielded) → AreRead components old (lines_in yielded) names (said_in d) → IsChunkFault components names chunk count d f → IsProofFault components (lines_in chunks) f
fault_of_all components old names chunks yielded rest later chunk count d f all next k r h =
    let parts : yielded ++ chunk ∷ later ≡ chunks = ap (λ (ps : List (List (List ℕ))). yielded ++ ps) (sym next) ∙ all in
    subst (λ (ps : List (List (List ℕ))). IsProofFault components (lines_in ps) f) parts (whole_fault components old names yielded chunk later count d f k r h)
