-- The lines of replies.
use Rattle.std.specs.Prelude.{ℕ, List, [], ◌∷◌, ◌++◌, Bool, if◌then◌else◌, nat_le, length, codes}
use Rattle.std.specs.Fmt.{decimal}
use Rattle.std.specs.List.{flat_map}
use Rattle.cls_base.specs.Limits.{max_text_bytes}
use Rattle.cls_base.specs.Terms.{Applicative}
use Rattle.cls_assemble.specs.declared.piece.Piece.{Piece}
use Rattle.cls_assemble.specs.Texts.{text_by}
use Rattle.cls_check.specs.declared.fault.Reason.{Reason}
use Rattle.cls_check.specs.declared.fault.Reason.TheVariants as reason
use Rattle.cls_core.specs.declared.entry.Entry.{Entry}
use Rattle.cls_core.specs.declared.entry.Entry.TheVariants.{Claim, File}
use Rattle.cls_finite.specs.declared.answer.FiniteAnswer.{FiniteAnswer}
use Rattle.cls_finite.specs.declared.answer.FiniteAnswer.TheVariants.{Finite, Over, Infinite}
use Rattle.cls_finite.specs.declared.walk.Step.{Step}
use Rattle.cls_path.specs.Paths as path
use Rattle.cls_path.specs.Paths.{Paths, type_of_path, type_of_paths, listed}
use Rattle.cls_syntax.specs.TypePrinting.{printed, name_in}
use Rattle.cls_term.specs.Texts.{text_of}
use Rattle.cls_engine.specs.declared.fault.EngineFault.{EngineFault}
use Rattle.cls_engine.specs.declared.fault.EngineFault.TheVariants.{Size, TooLarge, Wide, FilterTooLarge, TooManyTerms, OutOfMemory}
use Rattle.cls_engine.specs.declared.verdict.Verdict.{Verdict}
use Rattle.cls_engine.specs.declared.verdict.Verdict.TheVariants.{Accepted, Refused}

-- a line of the output
abbrev pub reply_line : List ℕ → List ℕ
reply_line text = text ++ 10 ∷ []

-- error WORDS
abbrev pub error_line : List ℕ → List ℕ
error_line words = reply_line (codes "error " ++ words)

-- The words of what the engine can't do. Out of memory has none.
abbrev pub fault_words : (names : List (List ℕ)) → EngineFault → List ℕ
fault_words names Size = codes "size"
fault_words names TooLarge = codes "too-large"
fault_words names (Wide goal) = codes "wide " ++ printed (name_in names) 0 (type_of_paths (listed goal))
fault_words names FilterTooLarge = codes "filter-large"
fault_words names TooManyTerms = codes "too-many-terms"
fault_words names OutOfMemory = []

-- a line for each path, and `done`
abbrev pub path_lines : (names : List (List ℕ)) → Paths → List ℕ
path_lines names path.none = []
path_lines names (path.more p n) =
    reply_line (codes "path " ++ printed (name_in names) 0 (type_of_path p)) ++ path_lines names n

abbrev pub paths_text : (names : List (List ℕ)) → Paths → List ℕ
paths_text names n = path_lines names n ++ reply_line (codes "done")

-- a line for each event, and `done`
abbrev pub event_line : Entry → List ℕ
event_line (Claim worker row) = reply_line (codes "claim " ++ decimal worker ++ codes " " ++ decimal row)
event_line (File worker row) = reply_line (codes "file " ++ decimal worker ++ codes " " ++ decimal row)

abbrev pub history_text : List Entry → List ℕ
history_text events = flat_map event_line events ++ reply_line (codes "done")

-- the line of the greatest size, or of its being over the limit, or a line for each step of a walk, and `done`
abbrev pub step_line : Step → List ℕ
step_line s =
    reply_line
    (codes "walk " ++ decimal s.goal ++ codes " by " ++ decimal s.rule ++ codes " at " ++ decimal s.argument)

abbrev pub sizes_text : FiniteAnswer → List ℕ
sizes_text (Finite n) = reply_line (codes "finite " ++ decimal n)
sizes_text Over = reply_line (codes "finite over")
sizes_text (Infinite walk) = reply_line (codes "infinite") ++ flat_map step_line walk ++ reply_line (codes "done")

-- the line of a type, by whether some term has it; one for each type, and `done`
abbrev pub inhabited_line : Bool → List ℕ
inhabited_line inhabited = reply_line (if inhabited then codes "inhabited" else codes "uninhabited")

abbrev pub batch_text : List Bool → List ℕ
batch_text says = flat_map inhabited_line says ++ reply_line (codes "done")

-- the line of a term
abbrev pub term_line : (name : ℕ → List ℕ) → Applicative → List ℕ
term_line name e = reply_line (codes "term " ++ text_of name e)

-- text L, the text and a line feed, or `long` if it has too many bytes
abbrev pub assembled_lines : List ℕ → List ℕ
assembled_lines text =
    if nat_le (length text) max_text_bytes
    then reply_line (codes "text " ++ decimal (length text)) ++ reply_line text
    else reply_line (codes "long")

-- the line of a term, and its text by the templates
abbrev pub term_lines : (name : ℕ → List ℕ) → (templates : List (List Piece)) → Applicative → List ℕ
term_lines name templates e = term_line name e ++ assembled_lines (text_by templates e)

-- what stands for each term, and whether more terms follow
abbrev pub page_text : (shown : Applicative → List ℕ) → List Applicative → Bool → List ℕ
page_text shown terms more = flat_map shown terms ++ reply_line (if more then codes "more" else codes "done")

-- the word of a test that a certificate fails
abbrev pub reason_word : Reason → List ℕ
reason_word reason.Arrow = codes "arrow"
reason_word reason.Target = codes "target"
reason_word reason.Argument = codes "argument"
reason_word reason.Goal = codes "goal"
reason_word reason.Layers = codes "layers"
reason_word reason.Unblocked = codes "unblocked"

abbrev pub verdict_text : Verdict → List ℕ
verdict_text Accepted = reply_line (codes "accepted")
verdict_text (Refused row r) = reply_line (codes "refused " ++ decimal row ++ codes " " ++ reason_word r)
