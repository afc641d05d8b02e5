use Rattle.std.proofs.Common.{◌≡◌, ℕ, ◌+◌, ◌-◌, ◌++◌, List, map, take, drop, sym, ap, subst, ◌∙◌, arith}
use Rattle.cls_assemble.specs.declared.piece.Piece.{Piece}
use Rattle.cls_assemble.specs.declared.piece.Piece.TheVariants.{Byte, Hole}
use Rattle.cls_assemble.specs.Faults.{HasHole}
use Rattle.cls_assemble.specs.Steps.{IsReadUpTo}
use Rattle.cls_assemble.proofs.Fronts.{IsFirstMark}
use Rattle.cls_assemble.proofs.Reading.{slice-none, slice-byte, slice-hole, slice-plain, plain_within, mark_within, plain_boundary, read-plain, read-piece, bad_hole, hole_at}
use Rattle.cls_assemble.proofs.template.Template.read_on.Goals as goal

pub overflow_add-at : goal.overflow_add-at
overflow_add-at c =
    let within = plain_within c.args.text.now c.args.at c.plain_count-plain.result (omega arith) (slice-plain c.as_bytes.result.now c.args.text.now c.args.at c.plain_count-plain.result c.as_bytes.ensures.value c.plain_count-plain.ensures) in
    omega arith

pub range-requires-clause-end_boundary : goal.range-requires-clause-end_boundary
range-requires-clause-end_boundary c =
    let plain = slice-plain c.as_bytes.result.now c.args.text.now c.args.at c.plain_count-plain.result c.as_bytes.ensures.value c.plain_count-plain.ensures in
    let boundary = plain_boundary c.args.text.now c.args.at (omega arith) in
    rw plain boundary

pub returns-then-plain-gt0-clause-read : goal.returns-then-plain-gt0-clause-read
returns-then-plain-gt0-clause-read c =
    let plain = slice-plain c.as_bytes.result.now c.args.text.now c.args.at c.plain_count-plain.result c.as_bytes.ensures.value c.plain_count-plain.ensures in
    let read = read-plain c.args.text.now c.args.self.now c.args.at c.plain_count-plain.result (omega arith) c.requires.so_far plain in
    let count : c.args.at + c.plain_count-plain.result - c.args.at ≡ c.plain_count-plain.result = omega arith in
    let bytes = c.range.ensures.value ∙ ap (λ (k : ℕ). take k (drop c.args.at c.args.text.now)) count in
    let same = c.in_ok-put_text.ensures ∙ ap (λ (bs : List ℕ). c.args.self.now ++ map Byte bs) bytes in
    subst (λ (ps : List Piece). IsReadUpTo c.args.text.now ps (c.args.at + c.plain_count-plain.result)) (sym same) read

pub returns-then-number-gt-MAX_HOLE-clause-fault :
    goal.returns-then-number-gt-MAX_HOLE-clause-fault
returns-then-number-gt-MAX_HOLE-clause-fault c =
    let found = slice-hole c.as_bytes.result.now c.args.text.now c.args.at c.plain_count-plain.result c.first_piece.result c.in-Some-Hole-default.field-0-0 c.in-Some-Hole-default.number c.in-Some-Hole-default.count c.as_bytes.ensures.value c.plain_count-plain.ensures c.if-plain-gt0.false c.in-Some-Hole-default.is c.in-Some-Hole-default.field-0-0-is c.first_piece.ensures in
    (found.0, omega (arith, found.2, c.if-number-gt-MAX_HOLE.true), hole_at c.args.text.now c.args.self.now c.args.at c.in-Some-Hole-default.count found.0 (omega arith) c.requires.so_far found.1)

pub returns-in-None-clause-fault : goal.returns-in-None-clause-fault
returns-in-None-clause-fault c =
    bad_hole c.args.text.now c.args.self.now c.args.at c.requires.within c.requires.so_far (slice-none c.as_bytes.result.now c.args.text.now c.args.at c.first_piece.result c.as_bytes.ensures.value c.in-None.is c.first_piece.ensures)

pub returns-in_ok-put_byte-in-Some-Byte-default-clause-read :
    goal.returns-in_ok-put_byte-in-Some-Byte-default-clause-read
returns-in_ok-put_byte-in-Some-Byte-default-clause-read c =
    let found = slice-byte c.as_bytes.result.now c.args.text.now c.args.at c.plain_count-plain.result c.first_piece.result c.in-Some-Byte-default.field-0-0 c.in-Some-Byte-default.byte c.in-Some-Byte-default.count c.as_bytes.ensures.value c.plain_count-plain.ensures c.if-plain-gt0.false c.in-Some-Byte-default.is c.in-Some-Byte-default.field-0-0-is c.first_piece.ensures in
    let read = read-piece c.args.text.now c.args.self.now c.args.at c.in-Some-Byte-default.count (Byte c.in-Some-Byte-default.byte) c.utf8.text (omega arith) c.requires.so_far tt found in
    subst (λ (ps : List Piece). IsReadUpTo c.args.text.now ps (c.args.at + c.in-Some-Byte-default.count)) (sym (c.in_ok-put_byte-in-Some-Byte-default).ensures) read

pub returns-in-Some-Hole-eq0-default-clause-fault :
    goal.returns-in-Some-Hole-eq0-default-clause-fault
returns-in-Some-Hole-eq0-default-clause-fault c =
    let found = slice-hole c.as_bytes.result.now c.args.text.now c.args.at c.plain_count-plain.result c.first_piece.result c.in-Some-Hole-eq0-default.field-0-0 c.in-Some-Hole-eq0-default.field-0-0-0 c.in-Some-Hole-eq0-default.field-0-1 c.as_bytes.ensures.value c.plain_count-plain.ensures c.if-plain-gt0.false c.in-Some-Hole-eq0-default.is c.in-Some-Hole-eq0-default.field-0-0-is c.first_piece.ensures in
    let zero : found.0 ≡ 0 = omega (arith, found.2, c.in-Some-Hole-eq0-default.field-0-0-0-test) in
    subst (λ (k : ℕ). HasHole c.args.text.now c.args.at k) zero (hole_at c.args.text.now c.args.self.now c.args.at c.in-Some-Hole-eq0-default.field-0-1 found.0 (omega arith) c.requires.so_far found.1)

pub returns-in_ok-put_hole-in-Some-Hole-default-clause-on :
    goal.returns-in_ok-put_hole-in-Some-Hole-default-clause-on
returns-in_ok-put_hole-in-Some-Hole-default-clause-on c =
    let found = slice-hole c.as_bytes.result.now c.args.text.now c.args.at c.plain_count-plain.result c.first_piece.result c.in-Some-Hole-default.field-0-0 c.in-Some-Hole-default.number c.in-Some-Hole-default.count c.as_bytes.ensures.value c.plain_count-plain.ensures c.if-plain-gt0.false c.in-Some-Hole-default.is c.in-Some-Hole-default.field-0-0-is c.first_piece.ensures in
    mark_within c.args.text.now c.args.at c.in-Some-Hole-default.count (Hole found.0) (omega arith) found.1

pub returns-in_ok-put_hole-in-Some-Hole-default-clause-read :
    goal.returns-in_ok-put_hole-in-Some-Hole-default-clause-read
returns-in_ok-put_hole-in-Some-Hole-default-clause-read c =
    let found = slice-hole c.as_bytes.result.now c.args.text.now c.args.at c.plain_count-plain.result c.first_piece.result c.in-Some-Hole-default.field-0-0 c.in-Some-Hole-default.number c.in-Some-Hole-default.count c.as_bytes.ensures.value c.plain_count-plain.ensures c.if-plain-gt0.false c.in-Some-Hole-default.is c.in-Some-Hole-default.field-0-0-is c.first_piece.ensures in
    let number : found.0 ≡ c.in-Some-Hole-default.number = omega (arith, found.2, c.if-number-gt-MAX_HOLE.false) in
    let some : c.in-Some-Hole-default.number ≡ 0 → ⊥ = c.in-Some-Hole-default.number-test.1 in
    let first = subst (λ (k : ℕ). IsFirstMark (drop c.args.at c.args.text.now) (Hole k) c.in-Some-Hole-default.count) number found.1 in
    let read = read-piece c.args.text.now c.args.self.now c.args.at c.in-Some-Hole-default.count (Hole c.in-Some-Hole-default.number) c.utf8.text (omega arith) c.requires.so_far (omega (arith, some), omega (arith, c.if-number-gt-MAX_HOLE.false)) first in
    subst (λ (ps : List Piece). IsReadUpTo c.args.text.now ps (c.args.at + c.in-Some-Hole-default.count)) (sym (c.in_ok-put_hole-in-Some-Hole-default).ensures) read
