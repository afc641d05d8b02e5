-- A text that is written in parts is written.
use Rattle.std.proofs.Common.{◌≡◌, ℕ, ◌+◌, ◌≤◌, List, [], ◌++◌, length, take, drop, sym, ap, ◌∙◌, subst, arith, append_assoc, append-nil, length-append, take-append-drop, length-drop, length-take}
use Rattle.std.specs.Prelude.{Option, None, Some}
use Rattle.std.specs.Io.KnownBytes.{Appends}
use Rattle.std.proofs.KnownBytes.{Appends-nil, Appends-trans}
use Rattle.cls_base.specs.Outside.{SinkSeen, Holds, Fills}
use Rattle.cls_session.specs.Driving.{Writes, WritesFront, WritesAllBut, WritesFrontBut}

Fills-none : (room : Option ℕ) → Fills room room 0
Fills-none None = tt
Fills-none (Some n) = omega arith

Fills-trans : (a b c : Option ℕ) (m n : ℕ) → Fills a b m → Fills b c n → Fills a c (m + n)
Fills-trans None None None m n p q = tt
Fills-trans None None (Some z) m n p q = absurd q
Fills-trans None (Some y) c m n p q = absurd p
Fills-trans (Some x) None c m n p q = absurd p
Fills-trans (Some x) (Some y) None m n p q = absurd q
Fills-trans (Some x) (Some y) (Some z) m n p q = omega arith

pub Writes-none : (sink : SinkSeen) → Writes sink sink []
Writes-none sink = record { held = Appends-nil sink.held; room = Fills-none sink.room }

pub Writes-trans : {a b c : SinkSeen} {first rest : List ℕ} → Writes a b first → Writes b c rest → Writes a c (first ++ rest)
Writes-trans {a = a} {b = b} {c = c} {first = first} {rest = rest} p q = record {
  held = Appends-trans a.held b.held c.held first rest p.held q.held;
  room = subst (λ n. Fills a.room c.room n) (sym (length-append first rest)) (Fills-trans a.room b.room c.room (length first) (length rest) p.room q.room);
}

Holds-after : (room room' : Option ℕ) (m n : ℕ) → Holds room (m + n) → Fills room room' m → Holds room' n
Holds-after None None m n h f = tt
Holds-after None (Some y) m n h f = absurd f
Holds-after (Some x) None m n h f = absurd f
Holds-after (Some x) (Some y) m n h f = omega arith

-- what was written leaves room for the rest
pub Holds-rest : {a b : SinkSeen} {text : List ℕ} (rest : List ℕ) → Writes a b text → Holds a.room (length (text ++ rest)) → Holds b.room (length rest)
Holds-rest {a = a} {b = b} {text = text} rest w h =
    Holds-after a.room b.room (length text) (length rest) (subst (λ n. Holds a.room n) (length-append text rest) h) w.room

-- one write more
pub part_written : {a b c : SinkSeen} {text rest : List ℕ} (after : List ℕ) (n : ℕ) → WritesAllBut a b text rest
    → n ≤ length rest → Appends b.held c.held (take n rest) → Fills b.room c.room n → after ≡ drop n rest → WritesAllBut a c text after
part_written {a = a} {b = b} {c = c} {text = text} {rest = rest} after n p l q f e =
    let whole : take n rest ++ after ≡ rest = ap (λ (x : List ℕ). take n rest ++ x) e ∙ take-append-drop n rest in
    let count : length (take n rest) ≡ n = omega (arith, length-take n rest) in
    let left : n + length after ≡ length rest = (let d = length-drop n rest in let f = ap length e in omega arith) in
    record {
      front = p.front ++ take n rest;
      split = p.split ∙ (ap (λ (x : List ℕ). p.front ++ x) (sym whole) ∙ sym (append_assoc p.front (take n rest) after));
      writes = Writes-trans p.writes record { held = q; room = subst (λ k. Fills b.room c.room k) (sym count) f };
      room_left = Holds-after b.room c.room n (length after) (subst (λ k. Holds b.room k) (sym left) p.room_left) f;
    }

-- all of the text was written
pub whole_front : {a b : SinkSeen} {text : List ℕ} → Writes a b text → WritesFront a b text
whole_front {text = text} w = record { front = text; rest = []; split = sym (append-nil text); held = w.held }

-- a front was written after a text
pub front_after : {a b c : SinkSeen} {text next : List ℕ} → Writes a b text → WritesFront b c next → WritesFront a c (text ++ next)
front_after {a = a} {b = b} {c = c} {text = text} w f = record {
  front = text ++ f.front;
  rest = f.rest;
  split = ap (λ (x : List ℕ). text ++ x) f.split ∙ sym (append_assoc text f.front f.rest);
  held = Appends-trans a.held b.held c.held text f.front w.held f.held;
}

-- there is room for nothing
Holds-none : (room : Option ℕ) → Holds room 0
Holds-none None = tt
Holds-none (Some n) = omega arith

-- all of the text was written, and nothing is left
pub nothing_left : {a b : SinkSeen} {text rest : List ℕ} → rest ≡ [] → Writes a b text → WritesAllBut a b text rest
nothing_left {a = a} {b = b} {text = text} {rest = rest} none w = record {
  front = text;
  split = sym (append-nil text) ∙ ap (λ (x : List ℕ). text ++ x) (sym none);
  writes = w;
  room_left = subst (λ (x : List ℕ). Holds b.room (length x)) (sym none) (Holds-none b.room);
}

-- A text was written but for its rest, and a further one follows it.
module _ {a b : SinkSeen} {text rest : List ℕ} (p : WritesAllBut a b text rest) (more : List ℕ) where
  split_more : text ++ more ≡ p.front ++ (rest ++ more)
  split_more = ap (λ (x : List ℕ). x ++ more) p.split ∙ append_assoc p.front rest more

  -- there is room for the rest and for what follows
  pub room_more : Holds a.room (length (text ++ more)) → Holds b.room (length (rest ++ more))
  room_more h = Holds-rest (rest ++ more) p.writes (subst (λ (x : List ℕ). Holds a.room (length x)) split_more h)

  -- both are written but for what is left then
  pub but_more : {c : SinkSeen} {left : List ℕ} → WritesAllBut b c (rest ++ more) left → WritesAllBut a c (text ++ more) left
  but_more {left = left} q = record {
    front = p.front ++ q.front;
    split = split_more ∙ (ap (λ (x : List ℕ). p.front ++ x) q.split ∙ sym (append_assoc p.front q.front left));
    writes = Writes-trans p.writes q.writes;
    room_left = q.room_left;
  }

  -- a front of both is
  pub front_more : {c : SinkSeen} → WritesFront b c (rest ++ more) → WritesFront a c (text ++ more)
  front_more {c = c} f = subst (λ (x : List ℕ). WritesFront a c x) (sym split_more) (front_after p.writes f)

-- The rest is written too.
module _ {a b c : SinkSeen} {text rest : List ℕ} (p : WritesAllBut a b text rest) where
  pub but_none : Writes b c rest → Writes a c text
  but_none w = subst (λ (x : List ℕ). Writes a c x) (sym p.split) (Writes-trans p.writes w)

  -- or a front of it
  pub but_front : WritesFront b c rest → WritesFront a c text
  but_front f = subst (λ (x : List ℕ). WritesFront a c x) (sym p.split) (front_after p.writes f)

-- a longer text is begun as well
pub front_wider : {a c : SinkSeen} {text part : List ℕ} (rest : List ℕ) → text ≡ part ++ rest → WritesFront a c part → WritesFront a c text
front_wider rest e f = record {
  front = f.front;
  rest = f.rest ++ rest;
  split = e ∙ (ap (λ (x : List ℕ). x ++ rest) f.split ∙ append_assoc f.front f.rest rest);
  held = f.held;
}

-- all of a text was written but for what is pending
pub whole_but : {a b : SinkSeen} {text pending : List ℕ} → WritesAllBut a b text pending → WritesFrontBut a b text pending
whole_but {text = text} w = record { front = text; rest = []; split = sym (append-nil text); writes = w }

-- a front was written but for what is pending, and then a front of that
pub front_some : {a b c : SinkSeen} {text pending : List ℕ} → WritesFrontBut a b text pending → WritesFront b c pending → WritesFront a c text
front_some p f = front_wider p.rest p.split (but_front p.writes f)

-- a text was written but for its rest, and a front of the rest and a further text but for what is pending
pub front_but_more : {a b c : SinkSeen} {text rest left : List ℕ} → WritesAllBut a b text rest → (more : List ℕ) → WritesFrontBut b c (rest ++ more) left → WritesFrontBut a c (text ++ more) left
front_but_more {left = left} p more q = record {
  front = p.front ++ q.front;
  rest = q.rest;
  split = split_more p more ∙ (ap (λ (x : List ℕ). p.front ++ x) q.split ∙ sym (append_assoc p.front q.front q.rest));
  writes = record {
    front = p.front ++ q.writes.front;
    split = ap (λ (x : List ℕ). p.front ++ x) q.writes.split ∙ sym (append_assoc p.front q.writes.front left);
    writes = Writes-trans p.writes q.writes.writes;
    room_left = q.writes.room_left;
  };
}
