-- internal: how far the terms of a page are made, as it is kept
use Rattle.std.specs.Prelude.{ℕ, List}
use Rattle.cls_enum.specs.PageRequests.{request_of}
use Rattle.cls_enum.specs.Faults.{IfTooMany}
use Rattle.cls_enum.specs.Plans.{book_of}
use Rattle.cls_enum.specs.States.{IsKept, IsDone, IsOverfullAt, ExceedsPool}
use Rattle.cls_enum.specs.declared.page_request.PageRequest.{PageRequest}
use Rattle.cls_enum.specs.declared.fault.PageFault.{PageFault}
use Rattle.cls_enum.specs.declared.plan.Plan.{Plan}
use Rattle.cls_enum.specs.declared.enumeration.Enumeration.{Enumeration}

-- the terms of smaller sizes than s are made, and those of size s of the nodes below i
abbrev pub IsMadeTo : List (List Plan) → PageRequest → ℕ → ℕ → Enumeration → Type 0
IsMadeTo plans request s i enumeration =
    IsKept (book_of plans) (request_of request) s i enumeration.bank enumeration.cells enumeration.due.items enumeration.total

-- so many terms are made that the page is known
abbrev pub HasPage : List (List Plan) → PageRequest → Enumeration → Type 0
HasPage plans request enumeration = IsDone (book_of plans) (request_of request) enumeration.bank enumeration.due.items request.pool

-- where there are too many terms, those of smaller sizes than s and those of size s of the nodes below i are
abbrev pub AreTooManyAt : List (List Plan) → PageRequest → ℕ → ℕ → PageFault → Type 0
AreTooManyAt plans request s i fault = IfTooMany fault (IsOverfullAt (book_of plans) (request_of request) s i request.pool)

-- where there are too many terms, the page needs more than the pool holds
abbrev pub NeedsTooMany : List (List Plan) → PageRequest → PageFault → Type 0
NeedsTooMany plans request fault = IfTooMany fault (ExceedsPool (book_of plans) (request_of request) request.pool)
