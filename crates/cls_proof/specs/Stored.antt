-- internal: rows and members as std's trees of numbers, by which a model tells its values apart
use Rattle.std.specs.Prelude.{ℕ, refl, List}
use Rattle.std.specs.Coded.{code_by, coded_ℕ, coded×, coded_list}
use base.Stored.{Coded}
use Rattle.cls_base.specs.Types.{ClosedType}
use Rattle.cls_kind.specs.Stored.{coded_type}
use Rattle.cls_proof.specs.Certificates.{ProofRow, Block, Member}

abbrev pub coded_row : Coded ProofRow
coded_row = code_by (ClosedType × (ℕ × (ℕ × List ℕ))) (coded× coded_type (coded× coded_ℕ (coded× coded_ℕ (coded_list coded_ℕ))))
    (λ r. (r.goal, (r.component, (r.n, r.cover)))) (λ p. record { goal = p.0; component = p.1.0; n = p.1.1.0; cover = p.1.1.1 }) (λ _. refl)

abbrev pub coded_block : Coded Block
coded_block = code_by (ℕ × (ℕ × List (List (List ℕ)))) (coded× coded_ℕ (coded× coded_ℕ (coded_list (coded_list (coded_list coded_ℕ)))))
    (λ b. (b.component, (b.n, b.layers))) (λ p. record { component = p.0; n = p.1.0; layers = p.1.1 }) (λ _. refl)

abbrev pub coded_member : Coded Member
coded_member = code_by (ClosedType × List Block) (coded× coded_type (coded_list coded_block)) (λ m. (m.goal, m.blocks)) (λ p. record { goal = p.0; blocks = p.1 }) (λ _. refl)
