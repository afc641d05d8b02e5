-- How a reply is written while it is printed, one portion after another.
use Rattle.std.proofs.Common.{◌≡◌, ◌∙◌, ℕ, suc, ◌<◌, ◌==◌, true, false, List, [], ◌∷◌, ◌++◌, length, refl, sym, ap, subst, arith, append_assoc, append-nil, length-append}
use Rattle.std.specs.Prelude.{Option, None, Some, Result, Ok, Err, OnOk}
use Rattle.cls_base.specs.Outside.{SinkSeen, Holds}
use Rattle.cls_lexer.specs.Lines.{CutsLine}
use Rattle.cls_replies.specs.declared.printing.Printing.{Printing}
use Rattle.cls_replies.specs.Printing.{IsPrintable, left_of}
use Rattle.cls_replies.specs.Responder.{Responder}
use Rattle.cls_session.specs.declared.driver.Stop.{Stop}
use Rattle.cls_session.specs.declared.driver.Stop.TheVariants as stops
use Rattle.cls_session.specs.Driving.{Writes, WritesFront, WritesAllBut, WritesFrontBut, PutsPart, WritesPart, AnswersLine, RefusesLine, BreaksLine, BreaksLines, AnswersPending, LeavesPending, MatchStop, MatchEachStop}
use Rattle.cls_session.specs.Sessions.{left_by, IsPrintableBy}
use Rattle.cls_session.specs.SessionStates.{SessionState}
use Rattle.cls_session.proofs.Breaks.{breaks_reply}
use Rattle.cls_session.proofs.Pending.{IsReply, fails_pending, leaves_within, reply_stands}
use Rattle.cls_session.proofs.Writing.{Holds-rest, Writes-none, Writes-trans, room_more, but_more, front_after, front_more, front_wider}

-- a text without bytes
pub no_bytes : (xs : List ℕ) → (length xs == 0) ≡ true → xs ≡ []
no_bytes [] e = refl
no_bytes (x ∷ xs) e = absurd (no_zero (length xs) e)
  where
    no_zero : (n : ℕ) → (suc n == 0) ≡ true → ⊥
    no_zero n h = grind arith

pub some_bytes : (xs : List ℕ) → (length xs == 0) ≡ false → 0 < length xs
some_bytes [] e = absurd (let h : true ≡ false = e in absurd cc)
some_bytes (x ∷ xs) e = omega arith

-- the room for a text is enough for its front
pub Holds-front : (room : Option ℕ) (xs ys : List ℕ) → Holds room (length (xs ++ ys)) → Holds room (length xs)
Holds-front None xs ys h = tt
Holds-front (Some n) xs ys h = omega (arith, h, length-append xs ys)

-- A portion is what was left, but for the rest.
module _ {left : List ℕ} (portion rest : List ℕ) (e : left ≡ portion ++ rest) where
  pub portion_shorter : 0 < length portion → length rest < length left
  portion_shorter some = omega (arith, ap length e, length-append portion rest, some)

  pub none_left : portion ≡ [] → rest ≡ [] → left ≡ []
  none_left none last = e ∙ (λ j. none j ++ last j)

  part_more : {text : List ℕ} (part : List ℕ) → text ≡ part ++ left → text ≡ (part ++ portion) ++ rest
  part_more part split = split ∙ (ap (λ (x : List ℕ). part ++ x) e ∙ sym (append_assoc part portion rest))

  -- THE REPLY IS PUT BEHIND WHAT IS PENDING
  module _ {a b : SinkSeen} {text pending : List ℕ} (p : PutsPart a b text pending left) where
    -- there is room for the portion
    pub puts_fits : Holds a.room (length text) → Holds b.room (length (pending ++ portion))
    puts_fits h = room_more p.writes portion (Holds-front a.room (p.part ++ portion) rest (subst (λ (x : List ℕ). Holds a.room (length x)) (part_more p.part p.split) h))

    -- it is put there too
    pub puts_next : {c : SinkSeen} {pending' : List ℕ} → WritesAllBut b c (pending ++ portion) pending' → PutsPart a c text pending' rest
    puts_next w = record { part = p.part ++ portion; split = part_more p.part p.split; writes = but_more p.writes portion w }

    -- a write fails
    pub puts_front : {c : SinkSeen} → WritesFront b c (pending ++ portion) → WritesFront a c text
    puts_front w = front_wider rest (part_more p.part p.split) (front_more p.writes portion w)

  -- THE REPLY IS WRITTEN
  module _ {a b : SinkSeen} {text : List ℕ} (p : WritesPart a b text left) where
    pub writes_fits : Holds a.room (length text) → Holds b.room (length portion)
    writes_fits h = Holds-rest portion p.writes (Holds-front a.room (p.part ++ portion) rest (subst (λ (x : List ℕ). Holds a.room (length x)) (part_more p.part p.split) h))

    pub writes_next : {c : SinkSeen} → Writes b c portion → WritesPart a c text rest
    writes_next w = record { part = p.part ++ portion; split = part_more p.part p.split; writes = Writes-trans p.writes w }

    pub writes_front : {c : SinkSeen} → WritesFront b c portion → WritesFront a c text
    writes_front w = front_wider rest (part_more p.part p.split) (front_after p.writes w)

-- nothing of it is printed yet
pub puts_none : (sink : SinkSeen) (pending reply : List ℕ) → Holds sink.room (length (pending ++ reply)) → PutsPart sink sink (pending ++ reply) pending reply
puts_none sink pending reply h = record {
  part = pending;
  split = refl;
  writes = record { front = []; split = refl; writes = Writes-none sink; room_left = Holds-front sink.room pending reply h };
}

pub writes_none : (sink : SinkSeen) (reply : List ℕ) → WritesPart sink sink reply reply
writes_none sink reply = record { part = []; split = refl; writes = Writes-none sink }

all_printed : {text left : List ℕ} (part : List ℕ) → text ≡ part ++ left → left ≡ [] → part ≡ text
all_printed part split none = sym (split ∙ (ap (λ (x : List ℕ). part ++ x) none ∙ append-nil part))

-- nothing of it is left
pub puts_all : {a b : SinkSeen} {text pending left : List ℕ} → PutsPart a b text pending left → left ≡ [] → WritesAllBut a b text pending
puts_all {a = a} {b = b} {pending = pending} p none = subst (λ (x : List ℕ). WritesAllBut a b x pending) (all_printed p.part p.split none) p.writes

pub writes_all : {a b : SinkSeen} {text left : List ℕ} → WritesPart a b text left → left ≡ [] → Writes a b text
writes_all {a = a} {b = b} p none = subst (λ (x : List ℕ). Writes a b x) (all_printed p.part p.split none) p.writes

-- the rest isn't printed any more
pub puts_some : {a b : SinkSeen} {text pending left : List ℕ} → PutsPart a b text pending left → WritesFrontBut a b text pending
puts_some {left = left} p = record { front = p.part; rest = left; split = p.split; writes = p.writes }

pub writes_some : {a b : SinkSeen} {text left : List ℕ} → WritesPart a b text left → WritesFront a b text
writes_some {left = left} p = record { front = p.part; rest = left; split = p.split; held = p.writes.held }

-- ONE LINE IS ANSWERED BY IT
pub line_replied : {A : Type 0} (r : Result A Stop) (a b : SinkSeen) {old new : SessionState} {line reply : List ℕ} → IsReply old line reply new
    → MatchStop r (λ _. Writes a b reply) ⊥ (WritesFront a b reply) → MatchStop r (λ _. AnswersLine a b old new line) (RefusesLine a b old line) (BreaksLine a b old line)
line_replied (Ok x) a b {reply = reply} replied w = record { reply = λ o lines written stands. (reply, replied o lines written stands, w) }
line_replied (Err stops.Refused) a b replied w = absurd w
line_replied (Err stops.WriteFault) a b replied w = breaks_reply replied w
line_replied (Err stops.NoMemory) a b replied w = breaks_reply replied w

-- the run stops within it, while replies are pending
pub reply_stops : (A B : Type 0) (stop : Stop) (Well : B → Type 0) (Refuses : Type 0) (c : SinkSeen) (left : List ℕ) {a b : SinkSeen} {first mid last : SessionState} {text between line after pending further : List ℕ}
    → AnswersPending a b first mid text between pending → CutsLine between line after → IsReply mid line further last
    → MatchEachStop {A = A} (Err stop) (λ _. WritesAllBut b c (pending ++ further) left) ⊥ (WritesFront b c (pending ++ further)) (WritesFrontBut b c (pending ++ further) left)
    → MatchEachStop {A = B} (Err stop) Well Refuses (BreaksLines a c first text) (LeavesPending a c first text left)
reply_stops A B stops.Refused Well Refuses c left so_far cut replied h = absurd h
reply_stops A B stops.WriteFault Well Refuses c left so_far cut replied h = fails_pending so_far cut (reply_stands replied) h
reply_stops A B stops.NoMemory Well Refuses c left so_far cut replied h = leaves_within so_far cut (reply_stands replied) h

-- what holds in any case holds at Ok
pub in_any_case : {A E : Type 0} (r : Result A E) {P : Type 0} → P → OnOk r P
in_any_case (Ok x) p = p
in_any_case (Err e) p = record {}

-- before the repository is opened, and of the empty reply after it, nothing is left
pub nothing_left_by : (o : Option Responder) (p : Printing) → ((s : Responder) → left_of s p ≡ []) → left_by o p ≡ []
nothing_left_by None p h = refl
nothing_left_by (Some s) p h = h s

-- and it can be printed
pub nothing_printable : (o : Option Responder) (p : Printing) → ((s : Responder) → IsPrintable s p) → IsPrintableBy o p
nothing_printable None p h = tt
nothing_printable (Some s) p h = h s
