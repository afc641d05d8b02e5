use Rattle.std.proofs.Common.{ℕ, ◌∙◌, ◌∷◌, [], List, ap, sym, subst, Contains, arith}
use Rattle.std.specs.Prelude.{map}
use Rattle.cls_base.proofs.Lists.{Contains-here}
use Rattle.cls_path.specs.Paths.{Paths}
use Rattle.cls_cover.specs.declared.minimal.CoverFault.{CoverFault}
use Rattle.cls_cover.specs.Faults.{AreTooMany, HasCause}
use Rattle.cls_cover.specs.Covers.{MeetsEach, AreMinimal}
use Rattle.cls_library.specs.Families.{alone, families_in}
use Rattle.cls_library.specs.Libraries.{arrows_at}
use Rattle.cls_library.specs.Rules.{HasManyCovers, IsWideBy, by_covers}
use Rattle.cls_expand.proofs.FamilyCovers.{many_from}
use Rattle.cls_expand.proofs.Places.{if_ok_map, families_ascend, cover_below, families_at, covers_added, some_parts}
use Rattle.cls_expand.proofs.expander.add_place.Goals as goal

pub add_lone-requires-clause-below : goal.add_lone-requires-clause-below
add_lone-requires-clause-below c = λ i k.
    let l = c.args.lib.now in
    let goal = c.args.finder.now.goal in
    let p = c.args.place in
    let fs = map alone c.in-Single.positions.now in
    let cover = c.lone_cover.new.cover.items in
    let h = families_at c.args.finder.now.library l goal p (families_in c.in_ok-positions.field-0) fs c.requires.library
    (ap families_in c.in-Single.is) c.in_ok-positions.ensures.families in
    cover_below l (arrows_at l p.component p.count) goal fs h cover ((c.in_ok-lone_cover-in-Single.ensures.covers.exactly cover).0 (Contains-here cover [])) i
    (subst (λ (s : List ℕ). Contains s i) c.deref.ensures.value k)

pub returns-in-Single-clause-rules : goal.returns-in-Single-clause-rules
returns-in-Single-clause-rules c =
    let l = c.args.lib.now in
    let goal = c.args.finder.now.goal in
    let p = c.args.place in
    let fs = map alone c.in-Single.positions.now in
    let h = families_at c.args.finder.now.library l goal p (families_in c.in_ok-positions.field-0) fs c.requires.library
    (ap families_in c.in-Single.is) c.in_ok-positions.ensures.families in
    let m = subst (λ (s : List ℕ). AreMinimal (MeetsEach fs) (s ∷ [])) (sym c.deref.ensures.value) c.in_ok-lone_cover-in-Single.ensures.covers in
    let slice = c.deref.result.now in
    if_ok_map c.add_lone.result _ _
    (λ narrow f. covers_added l goal p fs (slice ∷ []) c.args.rules.now c.add_lone.new.rules narrow c.requires.path c.requires.place h
    m (c.in_ok-lone_cover-in-Single.ensures.within 1024 (omega arith)) (λ q rest begin le choice b. f q rest begin le (choice slice (Contains-here slice [])) b)) c.add_lone.ensures

pub covers-requires : goal.covers-requires
covers-requires c =
    let l = c.args.lib.now in
    let goal = c.args.finder.now.goal in
    let p = c.args.place in
    let fs = c.as_slice.result.now in
    let h = families_at c.args.finder.now.library l goal p (families_in c.in_ok-positions.field-0) fs c.requires.library
    (ap families_in c.in-Several.is ∙ sym c.as_slice.ensures.value) c.in_ok-positions.ensures.families in
    record { ascending = families_ascend l (arrows_at l p.component p.count) goal fs h }

pub add_covers-requires-clause-below : goal.add_covers-requires-clause-below
add_covers-requires-clause-below c = λ s m i k.
    let l = c.args.lib.now in
    let goal = c.args.finder.now.goal in
    let p = c.args.place in
    let fs = c.as_slice.result.now in
    let h = families_at c.args.finder.now.library l goal p (families_in c.in_ok-positions.field-0) fs c.requires.library
    (ap families_in c.in-Several.is ∙ sym c.as_slice.ensures.value) c.in_ok-positions.ensures.families in
    cover_below l (arrows_at l p.component p.count) goal fs h s
    ((c.in-Ok.ensures.covers.exactly s).0 m) i k

pub returns-in-Ok-clause-rules : goal.returns-in-Ok-clause-rules
returns-in-Ok-clause-rules c =
    let l = c.args.lib.now in
    let goal = c.args.finder.now.goal in
    let p = c.args.place in
    let fs = c.as_slice.result.now in
    let h = families_at c.args.finder.now.library l goal p (families_in c.in_ok-positions.field-0) fs c.requires.library
    (ap families_in c.in-Several.is ∙ sym c.as_slice.ensures.value) c.in_ok-positions.ensures.families in
    if_ok_map c.add_covers.result _ _
    (λ narrow f. covers_added l goal p fs c.in-Ok.list c.args.rules.now c.add_covers.new.rules narrow c.requires.path
    c.requires.place h c.in-Ok.ensures.covers c.in-Ok.ensures.within f) c.add_covers.ensures

pub returns-in-Err-TooManyCovers-clause-rules : goal.returns-in-Err-TooManyCovers-clause-rules
returns-in-Err-TooManyCovers-clause-rules c = λ begin le b.
    let l = c.args.lib.now in
    let goal = c.args.finder.now.goal in
    let p = c.args.place in
    let fs = c.as_slice.result.now in
    let h = families_at c.args.finder.now.library l goal p (families_in c.in_ok-positions.field-0) fs c.requires.library
    (ap families_in c.in-Several.is ∙ sym c.as_slice.ensures.value) c.in_ok-positions.ensures.families in
    let f : HasCause fs 1024 c.in-Err-TooManyCovers.field-0 = c.in-Err-TooManyCovers.ensures.fault in
    let g : AreTooMany fs 1024 c.in-Err-TooManyCovers.field-0-0 = subst (λ (z : CoverFault). HasCause fs 1024 z) c.in-Err-TooManyCovers.field-0-is f in
    let m = many_from l p.component p.count goal fs h c.requires.place.within c.in-Err-TooManyCovers.field-0-0 g.over in
    let q = some_parts goal c.requires.path in
    subst (λ (g : Paths). IsWideBy l p.component g) (sym q.2) (by_covers p.count (subst (λ (g : Paths). HasManyCovers l g p.component p.count) q.2 m))
