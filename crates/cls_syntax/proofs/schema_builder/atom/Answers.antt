-- Up to the next atom, parentheses open.
use Rattle.std.proofs.Common.{◌+◌, false, Some, None, take, drop, length, ap, sym, ◌∙◌, arith}
use Rattle.cls_base.specs.Schemas.{OpenType}
use Rattle.cls_syntax.specs.Numberings.{outcome}
use Rattle.cls_syntax.specs.SchemaReading.{within, empty_level, operand, atom_read}
use Rattle.cls_syntax.proofs.Building.{opened}
use Rattle.cls_syntax.proofs.GrowingTables.{kept_more}
use Rattle.cls_syntax.proofs.Outcomes.{name_on, bare_on, open_on, open_behind}
use Rattle.cls_syntax.proofs.schema_builder.atom.Goals as goal

pub loop-place-preserved-in-Continue-1 : goal.loop-place-preserved-in-Continue-1
loop-place-preserved-in-Continue-1 g c =
    record {
      on = omega arith;
      read = λ o k h.
          let at = c.loop-place.invariant.read o k h in
          record {
            outer = within at.outer None at.level;
            level = empty_level;
            stands = opened g.T.Tree.tree c.loop-place.stack.items c.push.new.self.items None at.outer at.level c.in_ok-push-in-Open.ensures.items at.stands;
            is = open_on g.T.Tree.leaf c.loop-place.constructors c.loop-place.variables at.outer at.level c.args.tokens.now c.loop-place.place _ c.index-tokens-place.result c.loop-place-test.true c.index-tokens-place.is (sym c.sort_of.ensures ∙ c.in-Open.is) ∙ at.is;
          };
      kept = c.loop-place.invariant.kept;
      same = c.loop-place.invariant.same;
    }

pub returns-then-not-opens-clause-read : goal.returns-then-not-opens-clause-read
returns-then-not-opens-clause-read g c = λ o l h.
    let leaf = g.T.Tree.leaf in
    let ls = c.args.tokens.now in
    let i = c.loop-place.place in
    let vs = c.loop-place.variables in
    let named = c.in_ok-name-in-Name.ensures in
    let name = c.in_ok-name-in-Name.name.0 in
    let at = c.loop-place.invariant.read o l h in
    let came = name_on leaf c.loop-place.constructors vs c.intern.new.names (operand at.outer at.level) name ls i _ c.index-tokens-place.result c.loop-place-test.true c.index-tokens-place.is (sym c.sort_of.ensures ∙ c.in-Name.is) named.table named.number in
    let bare = bare_on leaf c.intern.new.names vs at.outer at.level name ls (i + 1) (sym c.opens.ensures ∙ c.if-not-opens.true) in
    record {
      outer = at.outer;
      level = at.level;
      stands = at.stands;
      is = ap (λ (t : OpenType). outcome leaf c.intern.new.names vs false (atom_read at.outer at.level t) (drop (i + 1) ls)) c.bare.ensures ∙ (sym bare ∙ (sym came ∙ at.is));
    }

pub loop-place-preserved : goal.loop-place-preserved
loop-place-preserved g c =
    let leaf = g.T.Tree.leaf in
    let ls = c.args.tokens.now in
    let i = c.loop-place.place in
    let x = c.index-tokens-place.result in
    let vs = c.loop-place.variables in
    let named = c.in_ok-name-in-Name.ensures in
    let name = c.in_ok-name-in-Name.name in
    record {
      on = omega arith;
      read = λ o k h.
          let at = c.loop-place.invariant.read o k h in
          let came = name_on leaf c.loop-place.constructors vs c.intern.new.names (operand at.outer at.level) name.0 ls i _ x c.loop-place-test.true c.index-tokens-place.is (sym c.sort_of.ensures ∙ c.in-Name.is) named.table named.number in
          record {
            outer = within at.outer (Some name.0) at.level;
            level = empty_level;
            stands = opened g.T.Tree.tree c.loop-place.stack.items c.push-in-Name.new.self.items (Some name) at.outer at.level c.in_ok-push-in-Name.ensures.items at.stands;
            is = open_behind leaf c.intern.new.names vs at.outer at.level name.0 ls (i + 1) x (sym c.opens.ensures ∙ c.if-not-opens.false) ∙ (sym came ∙ at.is);
          };
      kept = ap (take (length c.args.constructors.now)) named.table ∙ kept_more c.args.constructors.now c.loop-place.constructors x.text.now c.loop-place.invariant.kept;
      same = c.loop-place.invariant.same;
    }
