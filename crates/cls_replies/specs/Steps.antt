-- internal: what the parts of the code are asked and answer
use Rattle.std.specs.Prelude.{ℕ, ◌≡◌, List, [], ◌∷◌, Option, None, Some, length}
use Rattle.cls_lexer.specs.Skipped.{IsSkipped}
use Rattle.cls_query.specs.Queries.{Listing, Query}
use Rattle.cls_query.specs.Readable.{IsReadable}
use Rattle.cls_engine.specs.declared.fault.EngineFault.{EngineFault}
use Rattle.cls_engine.specs.declared.fault.EngineFault.TheVariants.{OutOfMemory}
use Rattle.cls_replies.specs.declared.certificates.LineKind.{LineKind}
use Rattle.cls_replies.specs.declared.certificates.LineKind.TheVariants.{Skipped, Opening, Changing, Single}
use Rattle.cls_replies.specs.declared.printing.Printing.{Printing}
use Rattle.cls_replies.specs.declared.responder.Held.{Held}
use Rattle.cls_base.specs.Pages.{IsPage}
use Rattle.cls_enum.specs.Requests.{request}
use Rattle.cls_enum.specs.declared.listed.Page.{Page}
use Rattle.cls_filter.specs.Automata.{Accepts}
use Rattle.cls_library.specs.Typing.{HasTypeIn}
use Rattle.cls_replies.specs.LineKinds.{Opens, IsSingle, Changes}
use Rattle.cls_replies.specs.Answering.{Answers, Verified}
use Rattle.cls_replies.specs.Printing.{left_of}
use Rattle.cls_replies.specs.Responder.{Responder, holding, filter_in}
use Rattle.cls_replies.specs.Texts.{error_line, fault_words}

-- the lines that are held
abbrev pub held_lines : Option Held → List (List ℕ)
held_lines None = []
held_lines (Some h) = h.line ∷ h.inside

-- What is written for these lines, of which the first opened a certificate, and what queries are answered by after it. For
-- none nothing is written.
abbrev pub Concludes : Responder → List (List ℕ) → List ℕ → Responder → Type 0
Concludes s [] text s' = text ≡ []
Concludes s (first ∷ inside) text s' = Verified (holding s []) first inside text s'

-- what is said of a line outside of a certificate
abbrev pub IsOfKind : List ℕ → LineKind → Type 0
IsOfKind line Skipped = IsSkipped line
IsOfKind line Opening = Opens line
IsOfKind line Changing = Changes line
IsOfKind line Single = IsSingle line

-- the query can be read by the tables of names of what answers it
abbrev pub IsReadableBy : Responder → Query → Type 0
IsReadableBy s q = IsReadable (length s.components) (length s.filter_names) q

-- the answer to the query, which leaves what answers it as it is
abbrev pub IsAnswerTo : Responder → Query → Printing → Type 0
IsAnswerTo s q p = Answers s q (left_of s p) s

-- the page that is asked for
abbrev pub IsPageOf : Responder → Listing → Page → Type 0
IsPageOf s q p =
    IsPage (λ e. HasTypeIn s.engine.library e q.goal) (request s.engine.costs q.after q.max q.take) p.terms p.more

-- the page of the terms that the filter of the number accepts
abbrev pub IsFilteredPageOf : Responder → ℕ → Listing → Page → Type 0
IsFilteredPageOf s f q p =
    IsPage (λ e. HasTypeIn s.engine.library e q.goal × Accepts (filter_in s f) e)
    (request s.engine.costs q.after q.max q.take) p.terms p.more

-- the line of the fault, which isn't out of memory
abbrev pub IsFaultLine : (names : List (List ℕ)) → EngineFault → List ℕ → Type 0
IsFaultLine names OutOfMemory text = ⊥
IsFaultLine names fault text = text ≡ error_line (fault_words names fault)
