-- The names of a type that a line asks about have numbers.
use Rattle.std.proofs.Common.{ℕ, ◌≡◌, sym, ◌∙◌, ap, subst, List, []}
use Rattle.cls_base.specs.Schemas as schemas
use Rattle.cls_base.specs.Schemas.{OpenType}
use Rattle.cls_base.specs.Types.{ClosedType}
use Rattle.cls_lexer.specs.Names.{number_of, with_texts}
use Rattle.cls_syntax.specs.Forms.{type_parts, constructors_named}
use Rattle.cls_syntax.specs.TypeSchemas.{type_schema}
use Rattle.cls_syntax.specs.TypeTexts.{TypeText}
use Rattle.cls_syntax.proofs.ReadTypes.{Below, AllHeld, held_by}
use Rattle.cls_syntax.specs.ClosedTypes.{closed}
use Rattle.cls_query.specs.Queries.{QueryText, Tables, verify, query_parts, with_query, query_of, type_in}
use Rattle.cls_replies.specs.Answering.{Asks}
use Rattle.cls_replies.specs.Responder.{Responder, tables_in}
use Rattle.cls_laws.proofs.DraftNames.{type_spelled, parts_known}
use Rattle.cls_laws.proofs.LibraryNames.{SchemaHas}
use Rattle.cls_laws.proofs.PathNames.{TypeHas}
use Rattle.cls_laws.proofs.SameType.{as_verify, one_of_two, verify_said}

closed_type : (K : ℕ → Type 0) (o : OpenType) → SchemaHas K o → TypeHas K (closed o)
closed_type K schemas.omega h = tt
closed_type K (schemas.constructor c s) h = (h.0, closed_type K s h.1)
closed_type K (schemas.product s t) h = (closed_type K s h.0, closed_type K t h.1)
closed_type K (schemas.arrow s t) h = (closed_type K s h.0, closed_type K t h.1)
closed_type K (schemas.meet s t) h = (closed_type K s h.0, closed_type K t h.1)
closed_type K (schemas.variable v) h = tt

verify_goal : (a b : ClosedType) → verify a ≡ verify b → a ≡ b
verify_goal a b e = cc

module _ (s m : Responder) (line : List ℕ) (goal : ClosedType) (asks : Asks s line (verify goal) m) where
  said : (v : TypeText) × (asks.0.said ≡ as_verify v)
  said = verify_said (with_query (tables_in s) asks.0.said) goal asks.0.said asks.0.asked (one_of_two (with_query (tables_in s) asks.0.said) asks.0.said)

  abbrev named : List (List ℕ)
  named = constructors_named (query_parts (as_verify said.0))

  numbered : m.names ≡ with_texts s.names named
  numbered = ap (λ (x : Tables). x.constructors) asks.0.numbered ∙ ap (λ (d : QueryText). (with_query (tables_in s) d).constructors) said.1

  asked : verify goal ≡ verify (type_in (with_texts s.names named) said.0)
  asked = asks.0.asked ∙ ap (λ (d : QueryText). query_of (with_query (tables_in s) d) d) said.1

  goal_is : goal ≡ type_in m.names said.0
  goal_is = verify_goal goal (type_in (with_texts s.names named) said.0) asked ∙ ap (λ (ts : List (List ℕ)). type_in ts said.0) (sym numbered)

  pub goal_known : TypeHas (Below m.names) goal
  goal_known =
      let held : AllHeld m.names named = held_by s.names named m.names numbered in
      let v : List ℕ → ℕ = λ x. 0 in
      let spelled = type_spelled m.names v said.0 (parts_known m.names v (type_parts said.0) [] held).0 in
      subst (λ (t : ClosedType). TypeHas (Below m.names) t) (sym goal_is) (closed_type (Below m.names) (type_schema (number_of m.names) v said.0) spelled)
