-- The status with which a run ends that stops early.
use Rattle.cls_session.specs.declared.status.Status.{Status}
use Rattle.cls_session.specs.declared.status.Status.TheVariants as status
use Rattle.cls_session.specs.declared.driver.Stop.{Stop}
use Rattle.cls_session.specs.declared.driver.Stop.TheVariants as stops

abbrev pub status_of : Stop → Status
status_of stops.Refused = status.Refused
status_of stops.WriteFault = status.WriteFault
status_of stops.NoMemory = status.NoMemory
