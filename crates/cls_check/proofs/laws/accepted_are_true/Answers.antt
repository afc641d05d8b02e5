use Rattle.cls_base.specs.Types.{ClosedType}
use Rattle.cls_library.specs.Libraries.{Library, IsLibrary}
use Rattle.cls_proof.specs.Certificates.{Certificate}
use Rattle.cls_check.specs.Checking.{Accepts, by_rows, by_members}
use Rattle.cls_check.specs.Laws.{Says}
use Rattle.cls_check.proofs.Sound.{inhabited_sound, empty_sound}
use Rattle.cls_check.proofs.laws.accepted_are_true.Goals as goal

accepted_true : (l : Library) → IsLibrary l → (asked : ClosedType) (c : Certificate) → Accepts l asked c → Says l asked c
accepted_true l is asked _ (by_rows {rows = rows} h e) = inhabited_sound l is rows asked h e
accepted_true l is asked _ (by_members {members = members} h e) = empty_sound l is members asked h e

pub returns : goal.returns
returns c = accepted_true
