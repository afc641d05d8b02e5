-- What is left of a certificate while it is written: its lines without the first, from some line on.
use Rattle.std.specs.Prelude.{ℕ, ◌≡◌, ◌≤◌, ◌<◌, Bool, true, false, List, [], ◌++◌, All, length, take, drop, map, codes, Option, None, Some, IfSome}
use Rattle.std.specs.List.{flat_map}
use Rattle.cls_base.specs.Limits.{max_covers}
use Rattle.cls_path.specs.Paths.{TypePath, Paths, type_of_paths}
use Rattle.cls_core.specs.Rows.{Row}
use Rattle.cls_cover.specs.Lists.{IsAscending}
use Rattle.cls_cover.specs.Covers.{AreWithinLimit}
use Rattle.cls_cover.specs.Forced.{IsForced}
use Rattle.cls_cover.specs.Fronts.{HasCovers}
use Rattle.cls_grammar.specs.Grammars.{book_of}
use Rattle.cls_grammar.specs.Ranks.{AreRanks}
use Rattle.cls_library.specs.declared.place.Place.{Place}
use Rattle.cls_library.specs.Libraries.{Library}
use Rattle.cls_proof.specs.Certificates.{ProofRow}
use Rattle.cls_proof.specs.Texts.{line, row_text, member_text, block_text, layer_text, set_text}
use Rattle.cls_cert.specs.declared.layers.BlockLeft.{BlockLeft}
use Rattle.cls_cert.specs.declared.making.CertificateLeft.{CertificateLeft}
use Rattle.cls_cert.specs.declared.making.CertificateLeft.TheVariants.{Rows, Members}
use Rattle.cls_cert.specs.declared.members.MembersLeft.{MembersLeft}
use Rattle.cls_cert.specs.declared.named.NamedGrammar.{NamedGrammar}
use Rattle.cls_cert.specs.declared.rows.MadeRow.{MadeRow}
use Rattle.cls_cert.specs.declared.row_lines.RowsLeft.{RowsLeft}
use Rattle.cls_cert.specs.Computed.{layers_from, blocks_from, members_from}
use Rattle.cls_cert.specs.Conditions.{forms_of, IsGrammarOf}
use Rattle.cls_cert.specs.Making.{goal_in}

-- A BLOCK
abbrev pub sets_left : BlockLeft → List ℕ
sets_left b = flat_map set_text (drop b.set b.sets)

abbrev pub layers_left : BlockLeft → List ℕ
layers_left b = flat_map layer_text (layers_from (take b.front b.families.items) (drop b.front b.families.items))

abbrev pub block_left : BlockLeft → List ℕ
block_left b = sets_left b ++ layers_left b

-- its layers can be made
pub record IsBlockLeft (b : BlockLeft) : Type 0 where
  pub ascending : All IsAscending b.families.items
  pub few : AreWithinLimit b.families.items max_covers
  pub forced : IfSome b.forced (IsForced (take b.front b.families.items))
  pub grown : IfSome b.grown (HasCovers b.families.items max_covers b.front)
  pub front : b.front ≤ length b.families.items
  pub set : b.set ≤ length b.sets

-- THE BLOCKS OF A GOAL, by the table of the names of components
module _ (components : List (List ℕ)) (l : Library) (goal : Paths) where
  abbrev pub blocks_text : Place → List ℕ
  blocks_text p = flat_map (block_text components) (blocks_from l goal p)

  -- the same where there may be no more
  abbrev pub blocks_left : Option Place → List ℕ
  blocks_left None = []
  blocks_left (Some p) = blocks_text p

-- blocks may be sought from the place on: it is one of the library, or behind one
pub record IsStart (l : Library) (p : Place) : Type 0 where
  pub component : p.component ≤ length l.components
  pub count : p.count ≤ 33

-- A WHOLE CERTIFICATE, by the tables of the names of constructors and of components
abbrev pub row_for : List Paths → MadeRow → ProofRow
row_for goals r = record {
  goal = type_of_paths (goal_in goals r.number);
  component = r.component;
  n = r.n;
  cover = r.cover;
}

module _ (names components : List (List ℕ)) where
  abbrev pub rows_text : List Paths → List MadeRow → List ℕ
  rows_text goals rows = flat_map (row_text names components) (map (row_for goals) rows)

  abbrev pub rows_left : List Paths → RowsLeft → List ℕ
  rows_left goals r = rows_text goals (drop r.next r.rows.items) ++ line (codes "qed")

  module _ (l : Library) (goals : List Paths) where
    -- the members of the goals from a number on
    abbrev pub members_text : List (Option ℕ) → ℕ → List ℕ
    members_text ranks i = flat_map (member_text names components) (members_from l (drop i goals) (drop i ranks))

    abbrev pub members_left : MembersLeft → List ℕ
    members_left m =
        block_left m.block
        ++ (blocks_left components l (goal_in goals m.goal) m.from ++ (members_text m.ranks m.next ++ line (codes "qed")))

    abbrev pub certificate_left : CertificateLeft → List ℕ
    certificate_left (Rows rows) = rows_left goals rows
    certificate_left (Members members) = members_left members

-- the same for a grammar with names
module _ (named : NamedGrammar) where
  abbrev pub named_row_text : MadeRow → List ℕ
  named_row_text row = row_text named.names.now named.components.now (row_for (forms_of named.grammar.now) row)

  abbrev pub named_rows_text : List MadeRow → List ℕ
  named_rows_text rows = rows_text named.names.now named.components.now (forms_of named.grammar.now) rows

  abbrev pub named_members_left : Library → MembersLeft → List ℕ
  named_members_left l m = members_left named.names.now named.components.now l (forms_of named.grammar.now) m

-- THE GRAMMAR HAS WHAT IS LEFT
pub record AreRowsLeft (rows : List (Row (List TypePath))) (r : RowsLeft) : Type 0 where
  pub each : All (λ (row : MadeRow). row.number < length rows) r.rows.items
  pub next : r.next ≤ length r.rows.items

pub record AreMembersLeft (l : Library) (rows : List (Row (List TypePath))) (m : MembersLeft) : Type 0 where
  pub grammar : IsGrammarOf l rows
  pub ranks : AreRanks (book_of rows) m.ranks
  pub block : IsBlockLeft m.block
  pub goal : m.goal < length rows
  pub from : IfSome m.from (IsStart l)
  pub next : m.next ≤ length rows

abbrev pub IsCertificateLeft : Library → List (Row (List TypePath)) → CertificateLeft → Type 0
IsCertificateLeft l rows (Rows r) = AreRowsLeft rows r
IsCertificateLeft l rows (Members m) = AreMembersLeft l rows m

-- the first line
abbrev pub first_line : CertificateLeft → List ℕ
first_line (Rows rows) = line (codes "inhabited")
first_line (Members members) = line (codes "empty")

-- Lines of what was left were written at the end. They are enough and this is left, or nothing is.
abbrev pub IsWrittenOn : ℕ → (left left' text text' : List ℕ) → Bool → Type 0
IsWrittenOn enough left left' text text' true = (text' ++ left' ≡ text ++ left) × (enough ≤ length text')
IsWrittenOn enough left left' text text' false = text' ≡ text ++ left
