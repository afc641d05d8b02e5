use Rattle.std.proofs.Common.{ℕ, ◌<◌, ◌≤◌, ◌+◌, ◌∙◌, List, length, sym, subst, arith, rules}
use Rattle.cls_cover.specs.Rows.{AreRows}
use Rattle.cls_cover.proofs.Marks.{front_more}
use Rattle.cls_cover.proofs.Public.{to_too_many, ascending_at}
use Rattle.cls_cover.proofs.Steps.{found_more, too_many, within_more}
use Rattle.cls_cover.proofs.Words.{word_there}
use Rattle.cls_cover.proofs.large.grow_large.Goals as goal

pub grown-requires-clause-front : goal.grown-requires-clause-front
grown-requires-clause-front c = record {
  rows = subst (λ (rs : List (List ℕ)). AreRows c.args.families.now rs) (sym c.as_slice.ensures.value) c.requires.covers.rows;
  more = c.requires.more;
  wide = c.requires.covers.wide;
  exactly = c.requires.covers.exactly;
}

pub grown-requires-clause-ascending : goal.grown-requires-clause-ascending
grown-requires-clause-ascending c = ascending_at c.args.families.now c.args.count c.requires.ascending c.requires.more

pub grown-requires-clause-known : goal.grown-requires-clause-known
grown-requires-clause-known c = c.requires.covers.found.known

pub grown-requires-clause-differ : goal.grown-requires-clause-differ
grown-requires-clause-differ c = c.requires.covers.found.differ

pub returns-then-len-limit-clause-fault : goal.returns-then-len-limit-clause-fault
returns-then-len-limit-clause-fault c =
    let fs = c.args.families.now in
    let j = c.args.count in
    let more = c.requires.more in
    let news = c.in_ok-list.list.items in
    let w : c.args.limit < length news = search rules in
    to_too_many fs c.args.limit (j + 1) (record {
      within = omega arith;
      over = too_many fs j more c.args.limit _ news c.in_ok-list.ensures w;
      least = (λ i h m. c.requires.covers.within.few i (omega arith) m);
    })

pub set-requires : goal.set-requires
set-requires c = word_there c.args.before.flags _ c.args.count c.requires.covers.wide c.requires.more

pub returns-clause-covers : goal.returns-clause-covers
returns-clause-covers c =
    let fs = c.args.families.now in
    let j = c.args.count in
    let more = c.requires.more in
    let before = c.requires.covers in
    let news = c.in_ok-list.list.items in
    let w : length news ≤ c.args.limit = search rules in
    let f = found_more fs j more c.args.limit c.args.before.list.items news before.found c.in_ok-list.ensures w in
    record {
      rows = before.rows;
      wide = c.set.ensures.len ∙ before.wide;
      exactly = front_more c.args.before.flags c.set.new.self j before.exactly c.set.ensures.flags;
      found = f;
      within = within_more fs c.args.limit j news before.within f w;
    }
