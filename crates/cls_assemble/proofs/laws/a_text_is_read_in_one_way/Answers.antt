use Rattle.cls_assemble.proofs.Readings.{templates_are_unique, templates_have_no_fault, faults_are_unique}
use Rattle.cls_assemble.proofs.laws.a_text_is_read_in_one_way.Goals as goal

pub returns : goal.returns
returns c = record { templates = templates_are_unique; no_fault = templates_have_no_fault; faults = faults_are_unique }
