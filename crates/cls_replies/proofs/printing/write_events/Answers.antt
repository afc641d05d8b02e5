use Rattle.std.proofs.Common.{refl, string_bytes}
use Rattle.cls_replies.proofs.Portions.{some_text}
use Rattle.cls_replies.proofs.printing.write_events.Goals as goal

pub returns-in-Some : goal.returns-in-Some
returns-in-Some c = λ s.
    let new = string_bytes c.print_items.new.text in
    let lines = rw c.in-Some.is at c.in_ok-next.ensures.lines in
    let on = rw c.as_slice.ensures at lines in
    let place = rw c.in-Some.is at c.in_ok-next.ensures.within in
    let within = rw c.as_slice.ensures at place in
    let full = rw c.in-Some.is at c.in_ok-next.ensures.full in
    record { lines = on; full = some_text new _ full; printable = within }

pub returns-in-None : goal.returns-in-None
returns-in-None c = λ s.
    let lines = rw c.in-None.is at c.in_ok-next.ensures.lines in
    let on = rw c.as_slice.ensures at lines in
    record { lines = on; full = λ none. refl; printable = tt }
