-- A seat after a call of its table.
use Rattle.std.proofs.Common.{◌≡◌, ◌<◌, ◌≤◌, ℕ, Some, ◌∙◌, ap, subst, sym}
use Rattle.cls_core.proofs.Columns.{some-inside}
use Rattle.cls_turn.specs.Seats.{Knows, IsSameSeat, known_of, known_in, turn_of}
use Rattle.cls_turn.specs.declared.seat.TurnSeat.{TurnSeat}
use Rattle.cls_table.specs.declared.tag.Tag.{Tag}
use Rattle.cls_table.specs.Seating.{IsSeated}
use Rattle.cls_table.specs.Seen.{SeatSeen}
use Rattle.cls_table.specs.Tags.{IsSameTag}

module _ {T B G : Type 0} where
  -- the seat of the same worker, after a holding
  pub stays-seated : (seat was : TurnSeat T (Tag B G)) (worker parts more : ℕ) (t : Tag B G)
      → (s : IsSeated was worker parts) → IsSameTag s.tag t → Knows seat t → 0 < more → IsSeated seat worker more
  stays-seated seat was worker parts more t s h k p = record {
    tag = t;
    knows = k;
    worker_named = subst (λ u. worker ≤ u.workers) (sym h) s.worker_named;
    some_part = p;
  }

  -- a seat that knows the same
  pub is-seated : (seat was : TurnSeat T (Tag B G)) (worker parts by more : ℕ) → (s : IsSeated was worker parts)
      → IsSameSeat seat was → 0 < more → by ≤ s.tag.workers → IsSeated seat by more
  is-seated seat was worker parts by more s same p n = record {
    tag = s.tag;
    knows = (same.1 ∙ s.knows.0, same.2 ∙ s.knows.1);
    worker_named = n;
    some_part = p;
  }

  -- what the seat knows after a holding
  pub stays-known : (seat was : TurnSeat T (Tag B G)) (worker parts : ℕ) (t : Tag B G) → (s : IsSeated was worker parts)
      → IsSameTag s.tag t → Knows seat t → known_of seat ≡ known_of was
  stays-known seat was worker parts t s h k = ap known_in k.0 ∙ (ap Some h ∙ sym (ap known_in s.knows.0))

  -- what is seen of a seat
  abbrev pub seat_seen : TurnSeat T (Tag B G) → ℕ → ℕ → ℕ → SeatSeen B G
  seat_seen seat worker parts amount =
      record { turn = turn_of seat; tag = known_of seat; worker = worker; parts = parts; amount = amount }

  -- what is seen of it after a holding, where its share counts so many claims then
  pub seen-after : (seat was : TurnSeat T (Tag B G)) (worker parts amount left n m : ℕ) (v : SeatSeen B G)
      → seat_seen was worker parts amount ≡ v → turn_of seat ≡ turn_of was → known_of seat ≡ known_of was → left ≡ parts
      → n ≡ m → seat_seen seat worker left n ≡ record v { amount = m }
  seen-after seat was worker parts amount left n m v is turn tag p e =
      let here : seat_seen seat worker left n ≡ record (seat_seen was worker parts amount) { amount = m } =
      λ i. record { turn = turn i; tag = tag i; worker = worker; parts = p i; amount = e i } in
      here ∙ ap (λ (w : SeatSeen B G). record w { amount = m }) is

  -- the tag that a seat is seen to have is the one that it knows
  pub tag-seen : (seat : TurnSeat T (Tag B G)) (worker parts amount : ℕ) (v : SeatSeen B G)
      → (s : IsSeated seat worker parts) → seat_seen seat worker parts amount ≡ v → v.tag ≡ Some s.tag
  tag-seen seat worker parts amount v s is = sym (ap (λ w. w.tag) is) ∙ ap known_in s.knows.0

  pub tag-known : (seat : TurnSeat T (Tag B G)) (worker parts amount : ℕ) (v : SeatSeen B G)
      → (s : IsSeated seat worker parts) → seat_seen seat worker parts amount ≡ v → (t : Tag B G) → v.tag ≡ Some t
      → s.tag ≡ t
  tag-known seat worker parts amount v s is t has =
      some-inside s.tag t (sym (tag-seen seat worker parts amount v s is) ∙ has)
