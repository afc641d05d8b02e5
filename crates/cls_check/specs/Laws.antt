-- What holds of all certificates.
use Rattle.std.specs.Prelude.{ℕ}
use Rattle.cls_base.specs.Types.{ClosedType}
use Rattle.cls_base.specs.Terms.{Applicative}
use Rattle.cls_library.specs.Libraries.{Library, IsLibrary}
use Rattle.cls_library.specs.Typing.{HasTypeIn}
use Rattle.cls_proof.specs.Certificates.{Certificate, inhabited, empty}
use Rattle.cls_check.specs.declared.fault.Reason.{Reason}
use Rattle.cls_base.specs.Firsts.{IsDetermined}
use Rattle.cls_check.specs.Checking.{Accepts, Refuses}

-- what a certificate says of a type: some term has it, or none
abbrev pub Says : Library → ClosedType → Certificate → Type 0
Says l asked (inhabited rows) = (e : Applicative) × HasTypeIn l e asked
Says l asked (empty members) = (e : Applicative) → HasTypeIn l e asked → ⊥

-- an accepted certificate is true by the typing rules, whoever made it
abbrev pub AcceptedAreTrue : Type 0
AcceptedAreTrue =
    (l : Library) → IsLibrary l → (asked : ClosedType) (c : Certificate) → Accepts l asked c → Says l asked c

-- no certificate is both accepted and refused, and none is refused at two rows or for two reasons
pub record VerdictsAreExact : Type 0 where
  pub one :
      (l : Library) (asked : ClosedType) (c : Certificate) (p : ℕ × Reason)
      → Accepts l asked c → Refuses l asked c p → ⊥
  pub determined : (l : Library) (asked : ClosedType) (c : Certificate) → IsDetermined (Refuses l asked c)
