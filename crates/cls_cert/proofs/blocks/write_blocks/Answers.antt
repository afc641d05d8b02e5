use Rattle.std.proofs.Common.{ℕ, ◌≡◌, ◌∙◌, ◌+◌, ◌<◌, ◌≤◌, ◌++◌, [], List, length, ap, refl, sym, subst, arith, append-nil, string_bytes}
use Rattle.std.specs.List.{flat_map}
use Rattle.std.specs.Prelude.{IfNone, IfSome, None, Some}
use Rattle.cls_check.proofs.Finding.{arity_within, fewer_left}
use Rattle.cls_expand.specs.Answers.{IsReady}
use Rattle.cls_library.specs.Arrows.{arity_of}
use Rattle.cls_library.specs.declared.place.Place.{Place}
use Rattle.cls_library.specs.Families.{Finder, IsNext, IsPlace}
use Rattle.cls_library.specs.Libraries.{paths_at}
use Rattle.cls_library.specs.Rules.{IsWide}
use Rattle.cls_path.specs.Paths.{Paths, none, listed}
use Rattle.cls_proof.specs.Certificates.{Block}
use Rattle.cls_proof.specs.Texts.{block_text}
use Rattle.cls_cert.specs.Computed.{block_at}
use Rattle.cls_cert.specs.Left.{block_left, blocks_text}
use Rattle.cls_cert.proofs.BlockLaws.{some_path}
use Rattle.cls_cert.proofs.BlockPlaces.{blocks_of_none, next_block, no_next_block}
use Rattle.cls_cert.proofs.BlockWriting.{blocks_on}
use Rattle.cls_cert.proofs.RowMaking.{empty_form}
use Rattle.cls_cert.proofs.blocks.write_blocks.Goals as goal

-- nothing is left, and nothing was to be written
nothing : (t left rest : List ℕ) → left ≡ [] → rest ≡ [] → t ++ (left ++ []) ≡ t ++ rest
nothing t left rest e f = ap (λ (v : List ℕ). t ++ v) (append-nil left ∙ (e ∙ sym f))

pub returns-then-is_empty-clause-lines : goal.returns-then-is_empty-clause-lines
returns-then-is_empty-clause-lines c =
    let l = c.args.lib.now in
    let components = c.args.components.now in
    let p = c.args.start in
    let form : listed c.args.goal.now ≡ none = empty_form c.paths.result.now c.args.goal.now c.is_empty.result c.paths.ensures c.is_empty.ensures c.if-is_empty.true in
    let rest : blocks_text components l (listed c.args.goal.now) p ≡ [] =
    ap (λ (g : Paths). blocks_text components l g p) form ∙ ap (λ (bs : List Block). flat_map (block_text components) bs) (blocks_of_none l p.component p.count _) in
    nothing (string_bytes c.args.text.now) (block_left c.args.block.now) (blocks_text components l (listed c.args.goal.now) p) c.requires.none rest

pub returns-in_default-clause-lines : goal.returns-in_default-clause-lines
returns-in_default-clause-lines c =
    let l = c.args.lib.now in
    let components = c.args.components.now in
    let g = listed c.args.goal.now in
    let p = c.args.start in
    let next = subst (λ r. IfNone r ((from : Place) → IsNext l g from None)) c.in_default.is c.in_ok-finder.ensures.none p in
    let rest : blocks_text components l g p ≡ [] =
    ap (λ (bs : List Block). flat_map (block_text components) bs) (no_next_block l c.requires.ready.library g c.requires.ready.normal.suits p c.requires.start.component next) in
    nothing (string_bytes c.args.text.now) (block_left c.args.block.now) (blocks_text components l g p) c.requires.none rest

pub returns-then-is_empty-clause-full : goal.returns-then-is_empty-clause-full
returns-then-is_empty-clause-full c = λ few. (c.requires.none, refl)

pub returns-in_default-clause-full : goal.returns-in_default-clause-full
returns-in_default-clause-full c = λ few. (c.requires.none, refl)

pub loop-place-init : goal.loop-place-init
loop-place-init c = record {
  finder = subst (λ r. IfSome r (λ f. f ≡ record { library = c.args.lib.now; goal = c.args.goal.now })) c.in-Some.is c.in_ok-finder.ensures.finder;
  left = c.requires.left;
  lines = ap (λ (v : List ℕ). string_bytes c.args.text.now ++ (v ++ blocks_text c.args.components.now c.args.lib.now (listed c.args.goal.now) c.args.start)) c.requires.none;
  full = λ few. c.requires.none;
  start = c.requires.start;
}

pub next-requires : goal.next-requires
next-requires c = subst (λ (f : Finder). 0 < length f.goal) (sym c.loop-place.invariant.finder) (some_path c.paths.result.now c.args.goal.now c.is_empty.result c.paths.ensures c.is_empty.ensures c.if-is_empty.false)

pub begin_block-requires-clause-place : goal.begin_block-requires-clause-place
begin_block-requires-clause-place c =
    let same = c.in-Some-next.ensures.same in
    subst (λ (f : Finder). IsPlace f.library c.in-Some-next.place) (sym same) c.in-Some-next.ensures.next.place

pub begin_block-requires-clause-ready : goal.begin_block-requires-clause-ready
begin_block-requires-clause-ready c = subst (λ (f : Finder). IsReady f.library f.goal) (sym (c.in-Some-next.ensures.same ∙ c.loop-place.invariant.finder)) c.requires.ready

pub begin_block-requires-clause-narrow : goal.begin_block-requires-clause-narrow
begin_block-requires-clause-narrow c = subst (λ (f : Finder). IsWide f.library (listed f.goal) → ⊥) (sym (c.in-Some-next.ensures.same ∙ c.loop-place.invariant.finder)) c.requires.narrow

pub begin_block-requires-clause-left : goal.begin_block-requires-clause-left
begin_block-requires-clause-left c = c.loop-place.invariant.left

pub begin_block-requires-clause-none : goal.begin_block-requires-clause-none
begin_block-requires-clause-none c = c.loop-place.invariant.full (let less = c.if-written-enough.false in omega (arith, c.len-written.ensures))

pub write_lines-requires : goal.write_lines-requires
write_lines-requires c = c.in_ok-begin_block.ensures.left

pub overflow_add-from : goal.overflow_add-from
overflow_add-from c =
    let l = c.args.lib.now in
    let p = c.in-Some-next.place in
    let h = subst (λ (f : Finder). IsNext f.library (listed f.goal) c.loop-place.from (Some p)) c.loop-place.invariant.finder c.in-Some-next.ensures.next in
    let arity : arity_of (paths_at l p.component) ≤ 32 = arity_within l p.component c.requires.ready.library h.place.declared in
    let within : p.count ≤ arity_of (paths_at l p.component) = h.place.within in
    omega arith

pub loop-place-preserved : goal.loop-place-preserved
loop-place-preserved c =
    let l = c.args.lib.now in
    let goal = c.args.goal.now in
    let g = listed goal in
    let components = c.args.components.now in
    let from = c.loop-place.from in
    let p = c.in-Some-next.place in
    let next : Place = record { component = p.component; count = p.count + 1 } in
    let inv = c.loop-place.invariant in
    let same : c.next.new.self ≡ record { library = l; goal = goal } = c.in-Some-next.ensures.same ∙ inv.finder in
    let h = subst (λ (f : Finder). IsNext f.library (listed f.goal) from (Some p)) inv.finder c.in-Some-next.ensures.next in
    let arity : arity_of (paths_at l p.component) ≤ 32 = arity_within l p.component c.requires.ready.library h.place.declared in
    let within : p.count ≤ arity_of (paths_at l p.component) = h.place.within in
    let declared : p.component < length l.components = h.place.declared in
    let none = inv.full (let less = c.if-written-enough.false in omega (arith, c.len-written.ensures)) in
    let begun : string_bytes c.begin_block.new.text ++ block_left c.begin_block.new.block ≡ string_bytes c.loop-place.text ++ flat_map (block_text components) (block_at l g p.component p.count) =
    subst (λ (f : Finder). string_bytes c.begin_block.new.text ++ block_left c.begin_block.new.block ≡ string_bytes c.loop-place.text ++ flat_map (block_text components) (block_at f.library (listed f.goal) p.component p.count)) same c.in_ok-begin_block.ensures.lines in
    record {
      finder = c.in_ok-begin_block.ensures.same ∙ same;
      left = c.in_ok-write_lines.ensures.left;
      lines = blocks_on components l g from p next (string_bytes c.loop-place.text) (string_bytes c.begin_block.new.text) (string_bytes c.write_lines.new.text) _ (block_left c.loop-place.block) (block_left c.begin_block.new.block) (block_left c.write_lines.new.self)
          (next_block l c.requires.ready.library g c.requires.ready.normal.suits from p inv.start.component h) none inv.lines begun c.in_ok-write_lines.ensures.lines;
      full = c.in_ok-write_lines.ensures.full;
      start = record { component = (omega arith); count = (omega arith) };
    }

pub loop-place-smaller : goal.loop-place-smaller
loop-place-smaller c =
    let l = c.args.lib.now in
    let from = c.loop-place.from in
    let p = c.in-Some-next.place in
    let inv = c.loop-place.invariant in
    let h = subst (λ (f : Finder). IsNext f.library (listed f.goal) from (Some p)) inv.finder c.in-Some-next.ensures.next in
    let arity : arity_of (paths_at l p.component) ≤ 32 = arity_within l p.component c.requires.ready.library h.place.declared in
    let within : p.count ≤ arity_of (paths_at l p.component) = h.place.within in
    fewer_left (length l.components) from.component from.count p.component p.count h.later inv.start.component inv.start.count h.place.declared (omega arith)

pub returns-then-written-enough-clause-full : goal.returns-then-written-enough-clause-full
returns-then-written-enough-clause-full c = λ few.
    let more = c.if-written-enough.true in
    let less : length (string_bytes c.loop-place.text) < c.args.enough = few in
    absurd (omega (arith, c.len-written.ensures))

pub returns-clause-lines : goal.returns-clause-lines
returns-clause-lines c =
    let l = c.args.lib.now in
    let components = c.args.components.now in
    let g = listed c.args.goal.now in
    let inv = c.loop-place.invariant in
    let h = subst (λ (f : Finder). IsNext f.library (listed f.goal) c.loop-place.from None) inv.finder c.in_default-next.ensures.next in
    let rest : [] ≡ blocks_text components l g c.loop-place.from =
    sym (ap (λ (bs : List Block). flat_map (block_text components) bs) (no_next_block l c.requires.ready.library g c.requires.ready.normal.suits c.loop-place.from inv.start.component h)) in
    ap (λ (v : List ℕ). string_bytes c.loop-place.text ++ (block_left c.loop-place.block ++ v)) rest ∙ inv.lines

pub returns-clause-full : goal.returns-clause-full
returns-clause-full c = λ few. (c.loop-place.invariant.full few, refl)
