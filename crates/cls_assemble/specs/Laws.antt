-- What holds of every text and of every template.
use Rattle.std.specs.Prelude.{ℕ, ◌≡◌, ◌≢◌, List}
use Rattle.cls_assemble.specs.declared.piece.Piece.{Piece}
use Rattle.cls_assemble.specs.declared.fault.TemplateFault.{TemplateFault}
use Rattle.cls_assemble.specs.declared.fault.TemplateFault.TheVariants.{OutOfMemory}
use Rattle.cls_assemble.specs.Spelling.{IsTemplate}
use Rattle.cls_assemble.specs.Faults.{IsFaultOf}

-- no text spells two templates
abbrev pub TemplatesAreUnique : Type 0
TemplatesAreUnique = (text : List ℕ) (ps qs : List Piece) → IsTemplate text ps → IsTemplate text qs → ps ≡ qs

-- a template has no fault
abbrev pub TemplatesHaveNoFault : Type 0
TemplatesHaveNoFault =
    (text : List ℕ) (ps : List Piece) (fault : TemplateFault) → IsTemplate text ps → IsFaultOf text fault → fault ≡ OutOfMemory

-- no text has two faults, nor one fault at two bytes
abbrev pub FaultsAreUnique : Type 0
FaultsAreUnique =
    (text : List ℕ) (f g : TemplateFault) → f ≢ OutOfMemory → g ≢ OutOfMemory → IsFaultOf text f → IsFaultOf text g → f ≡ g
